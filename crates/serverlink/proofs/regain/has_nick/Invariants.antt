use Rattle.std.proofs.Common.{◌≡◌, false, map}
use Rattle.std.specs.List.{list_any}
use Rattle.rfccase.specs.Casemapping.{is_same_by}
use Rattle.serverlink.proofs.regain.has_nick.Given as goal

-- no piece so far is the nick
abbrev pub invariant-loop-piece : goal.invariant-loop-piece
invariant-loop-piece l = list_any (λ piece. is_same_by l.mapping piece l.nick) (map (λ x. x.now) l.yielded) ≡ false
