-- Values whose spelling is all of some bytes.
use Rattle.std.proofs.Common.{◌≡◌, ℕ, List, [], ◌∷◌, Option, Some, Ok, Err, sym, ap, ◌∙◌}
use Rattle.std.proofs.lemmas.List.{append-nil}
use Rattle.usercodec.specs.Fields.{Reading}
use Rattle.usercodec.proofs.Steps.{IsBytes}
use Rattle.botjournal.specs.Whole.{if_done, whole}
use Rattle.usercodec.proofs.PartLaws.{IsPart}

some_of : {A : Type 0} → A → Option A
some_of x = Some x

-- what was read and took all bytes
pub whole_some : {A : Type 0} (r : Reading A) (x : A) → whole r ≡ Some x → r ≡ Ok (x, [])
whole_some {A = A} (Ok y) x e = by y.0 y.1 e
  where
    by : (z : A) (rest : List ℕ) → if_done z rest ≡ Some x → (let r : Reading A = Ok (z, rest) in r) ≡ Ok (x, [])
    by z [] e = cc
    by z (b ∷ bytes) e = absurd cc
whole_some (Err fault) x e = absurd cc

pub whole_again : {A : Type 0} {read : List ℕ → Reading A} {spelling : A → List ℕ} {IsGood : A → Type 0} → IsPart read spelling IsGood
    → (x : A) → IsGood x → whole (read (spelling x)) ≡ Some x
whole_again {read = read} {spelling = spelling} part x good =
    ap (λ bytes. whole (read bytes)) (sym (append-nil (spelling x))) ∙ ap whole (part.again x [] good)

pub whole_spelled : {A : Type 0} {read : List ℕ → Reading A} {spelling : A → List ℕ} {IsGood : A → Type 0} → IsPart read spelling IsGood
    → (bytes : List ℕ) (x : A) → IsBytes bytes → whole (read bytes) ≡ Some x → IsGood x × (bytes ≡ spelling x)
whole_spelled {read = read} {spelling = spelling} part bytes x fits e =
    let t = part.takes bytes x [] fits (whole_some (read bytes) x e) in
    (t.1, t.0.parts ∙ append-nil (spelling x))
