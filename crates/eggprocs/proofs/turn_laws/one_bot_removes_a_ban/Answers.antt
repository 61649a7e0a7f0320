use Rattle.eggprocs.proofs.GuardLemmas.{one-removes, someone-removes, removes-itself, guard-left-to-hit, guard-left-to-first}
use Rattle.eggprocs.proofs.turn_laws.one_bot_removes_a_ban.Goals as goal

pub returns : goal.returns
returns c = record {
  one = one-removes;
  first = someone-removes;
  itself = removes-itself;
  hit = guard-left-to-hit;
  others = guard-left-to-first;
}
