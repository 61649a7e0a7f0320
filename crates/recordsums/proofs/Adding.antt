-- One record more among those whose bytes are added.
use Rattle.std.proofs.Common.{◌≡◌, ℕ, zero, suc, ◌+◌, Bool, true, false, ◌||◌, List, [], ◌∷◌, ◌++◌, length, take, slice_get, Some, refl, ap, sym, subst, ◌∙◌}
use Rattle.std.proofs.Common.{append_assoc, append-nil, add-one}
use Rattle.std.proofs.lemmas.Bool.{and_parts, or_parts}
use Rattle.std.specs.Prelude.{nat_lt}
use Rattle.std.specs.List.{flat_map, list_all, list_any}
use Rattle.userfile.proofs.SoundLemmas.{first_none, if_none}
use Rattle.userfile.specs.Records.{Records}
use Rattle.userfile.specs.Apply.{fault_if}
use Rattle.userfile.specs.Together.{AreSound, is_over, repeats_handle, repeats_mask, repeats_ban}
use Rattle.userfile.specs.declared.error.ChangeFault.TheVariants.{UserExists, MaskExists, BanExists, Full}
use Rattle.userfile.specs.declared.limits.TheConstants.{MAX_USERS, MAX_BANS}

-- ---- bytes

flat_map-next : {X : Type 0} (f : X → List ℕ) (xs : List X) (i : ℕ) (x : X) → slice_get xs i ≡ Some x
    → flat_map f (take i xs) ++ f x ≡ flat_map f (take (i + 1) xs)
flat_map-next f [] i x found = cc
flat_map-next f (y ∷ ys) zero x found = let same : y ≡ x = cc in ap f (sym same) ∙ sym (append-nil (f y))
flat_map-next f (y ∷ ys) (suc i) x found =
    rw (add-one) (append_assoc (f y) (flat_map f (take i ys)) (f x)
    ∙ ap (λ l. f y ++ l) (flat_map-next f ys i x found ∙ rw (add-one) refl))

-- what is made of the items before a place, and of the one there
pub flat_map-more : {X : Type 0} (f : X → List ℕ) (front : List ℕ) (xs : List X) (i : ℕ) (x : X) → slice_get xs i ≡ Some x
    → (front ++ flat_map f (take i xs)) ++ f x ≡ front ++ flat_map f (take (i + 1) xs)
flat_map-more f front xs i x found =
    append_assoc front (flat_map f (take i xs)) (f x) ∙ ap (λ l. front ++ l) (flat_map-next f xs i x found)

-- ---- a record is good that is one of a userfile

pub all-at : {X : Type 0} (p : X → Bool) (xs : List X) (i : ℕ) (x : X) → list_all p xs ≡ true → slice_get xs i ≡ Some x → p x ≡ true
all-at p [] i x all found = cc
all-at p (y ∷ ys) zero x all found =
    let same : y ≡ x = cc in subst (λ z. p z ≡ true) same ((and_parts (p y) (list_all p ys) all).0)
all-at p (y ∷ ys) (suc i) x all found = all-at p ys i x ((and_parts (p y) (list_all p ys) all).1) found

pub none-at : {X : Type 0} (p : X → Bool) (xs : List X) (i : ℕ) (x : X) → list_any p xs ≡ false → slice_get xs i ≡ Some x → p x ≡ false
none-at p [] i x none found = cc
none-at p (y ∷ ys) zero x none found =
    let same : y ≡ x = cc in subst (λ z. p z ≡ false) same ((or_parts (p y) (list_any p ys) none).0)
none-at p (y ∷ ys) (suc i) x none found = none-at p ys i x ((or_parts (p y) (list_any p ys) none).1) found

-- no user of a userfile has too many hostmasks or channels
pub none-over : (held : Records) → AreSound held → list_any is_over held.users ≡ false
none-over held sound =
    let handles = first_none {a = fault_if (repeats_handle held.users) UserExists} sound.together in
    let masks = first_none {a = fault_if (list_any (λ user. repeats_mask user.masks) held.users) MaskExists} handles.1 in
    let bans = first_none {a = fault_if (repeats_ban held.bans) BanExists} masks.1 in
    (or_parts (nat_lt MAX_USERS (length held.users) || nat_lt MAX_BANS (length held.bans)) (list_any is_over held.users) (if_none Full bans.1)).1
