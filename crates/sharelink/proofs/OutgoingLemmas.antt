-- Packets that go out one after another.
use Rattle.std.proofs.Common.{◌≡◌, List, [], ◌∷◌, ◌++◌, refl, ap}
use Rattle.sharelink.specs.Calls.{outgoing_of, outgoings_of}
use Rattle.sharelink.specs.declared.answer.Outgoing.{Outgoing}

pub outgoings-append : (xs ys : List Outgoing) → outgoings_of (xs ++ ys) ≡ outgoings_of xs ++ outgoings_of ys
outgoings-append [] ys = refl
outgoings-append (x ∷ xs) ys = ap (λ l. outgoing_of x ∷ l) (outgoings-append xs ys)
