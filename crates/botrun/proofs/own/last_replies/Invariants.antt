use Rattle.std.proofs.Common.{◌≡◌, ◌∷◌}
use Rattle.botrun.specs.Owns.{replies_up_to}
use Rattle.botrun.proofs.own.last_replies.Given as goal

-- those of the leaves so far
abbrev pub invariant-loop-leaf : goal.invariant-loop-leaf
invariant-loop-leaf l = l.lasts.items ≡ 0 ∷ replies_up_to l.leaf l.bot.link.end
