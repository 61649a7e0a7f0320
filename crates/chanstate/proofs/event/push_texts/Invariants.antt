use Rattle.std.proofs.Common.{◌≡◌, ◌++◌, take, map}
use Rattle.chanstate.proofs.event.push_texts.Given as goal

-- the texts so far are copied
abbrev pub invariant-loop-text : goal.invariant-loop-text
invariant-loop-text l = l.copies.items ≡ l.initial.copies.items ++ map (λ x. x.now) (take l.text-index l.texts)
