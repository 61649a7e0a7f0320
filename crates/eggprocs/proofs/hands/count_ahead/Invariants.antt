use Rattle.std.proofs.Common.{◌≡◌, ◌≤◌, take, count_by}
use Rattle.eggprocs.specs.Hands.{is_ahead}
use Rattle.eggprocs.proofs.hands.count_ahead.Given as goal

-- those of the members so far
abbrev pub invariant-loop-member : goal.invariant-loop-member
invariant-loop-member l = record {
  few : l.count ≤ l.member-index;
  ahead : l.count ≡ count_by (is_ahead l.needs_op l.call l.view l.view.sight.channels.nick) (take l.member-index l.members);
}
