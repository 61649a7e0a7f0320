-- The index of hostmasks: under each tail, the listings of the masks that have it.
use Rattle.std.specs.Prelude.{◌≡◌, ◌<◌, ◌≤◌, ◌⊎◌, ℕ, zero, suc, ◌-◌, ◌==◌, nat_eq, nat_lt, not, ◌&&◌, ◌||◌, true, false}
use Rattle.std.specs.Prelude.{Bool, List, [], ◌∷◌, ◌++◌, map, filter, length, slice_index, slice_get, if◌then◌else◌, Option, Some, None}
use Rattle.std.specs.List.{list_any}
use Rattle.std.specs.Cmp.Lexicographic.{pointwise}
use Rattle.std.specs.declared.vec.Vec.{Vec}
use Rattle.std.specs.declared.alloc.Global.{Global}
use Rattle.wildmask.specs.Signatures.{Pairs, same_pairs}
use Rattle.wildmask.specs.Tails.{end_key}
use Rattle.userfile.specs.Hostmasks.{literals, mask_tail, mask_pairs}
use Rattle.userfile.specs.declared.user.User.{User}
use Rattle.userfile.specs.declared.index.Listing.{Listing}
use Rattle.userfile.specs.declared.index.TailIndex.{TailIndex}

-- the listing that says: the user at `place` has a mask with this number of literals, which needs these pairs
abbrev pub listed : ℕ → ℕ → Pairs → Listing
listed place literals pairs = record { place = place; literals = literals; pairs = pairs }

-- the listing of a mask of the user at `place`
abbrev pub listing_of : ℕ → List ℕ → Listing
listing_of place mask = listed place (literals mask) (mask_pairs mask)

-- whether a listing is that of this mask, one of its user's masks
abbrev pub is_of : Listing → List ℕ → Bool
is_of x mask = (literals mask == x.literals) && same_pairs (mask_pairs mask) x.pairs

abbrev pub IsIn : Listing → List Listing → Type 0
IsIn x [] = ⊥
IsIn x (y ∷ ys) = (y ≡ x) ⊎ IsIn x ys

-- each listing in the old list is in the new one too
abbrev pub KeepsAll : List Listing → List Listing → Type 0
KeepsAll old new = (x : Listing) → IsIn x old → IsIn x new

-- each listing in the new list is in the old one or is this listing
abbrev pub IsWithOnly : List Listing → List Listing → Listing → Type 0
IsWithOnly old new x = (y : Listing) → IsIn y new → IsIn y old ⊎ (y ≡ x)

-- whether two listings are the same
abbrev pub same_listing : Listing → Listing → Bool
same_listing x y = (x.place == y.place) && (x.literals == y.literals) && same_pairs x.pairs y.pairs

-- the listings under a tail
abbrev pub listings_at : List ℕ → List (List ℕ × Vec Listing Global) → List Listing
listings_at tail [] = []
listings_at tail (g ∷ gs) = if pointwise nat_eq tail g.0 then g.1.items else listings_at tail gs

-- a listing is under a tail, and look-ups try tails of its length
abbrev pub IsUnder : TailIndex → List ℕ → Listing → Type 0
IsUnder index tail x = (slice_index index.lengths (length tail) ≡ 1) × IsIn x (listings_at tail index.groups.entries)

-- each of these masks, of the user at `place`, is under its tail
abbrev pub AreUnder : TailIndex → ℕ → List (List ℕ) → Type 0
AreUnder index place [] = Unit {0}
AreUnder index place (mask ∷ masks) = IsUnder index (mask_tail mask) (listing_of place mask) × AreUnder index place masks

-- each mask of these users, the first of them at `place`, is under its tail
abbrev pub Covers : TailIndex → ℕ → List User → Type 0
Covers index place [] = Unit {0}
Covers index place (user ∷ users) = AreUnder index place user.masks × Covers index (suc place) users

-- whether any of these masks, those of a listing's user, has this tail and the listing
abbrev pub is_listed : List ℕ → Listing → List (List ℕ) → Bool
is_listed tail x masks = list_any (λ mask. is_of x mask && pointwise nat_eq tail (mask_tail mask)) masks

-- the masks of a user, if there is one
abbrev pub masks_of : Option User → List (List ℕ)
masks_of None = []
masks_of (Some user) = user.masks

-- the masks of the user at `place`
abbrev pub masks_at : List User → ℕ → List (List ℕ)
masks_at users place = masks_of (slice_get users place)

-- each listing is that of a mask of its user
abbrev pub Names : TailIndex → List User → Type 0
Names index users = (tail : List ℕ) (x : Listing) → IsIn x (listings_at tail index.groups.entries) → is_listed tail x (masks_at users x.place) ≡ true

-- the index has exactly the masks of these users
pub record IsIndexOf (index : TailIndex) (users : List User) : Type 0 where
  pub covers : Covers index 0 users
  pub names : Names index users

-- ---- changes of an index

abbrev pub Groups : Type 0
Groups = List (List ℕ × Vec Listing Global)

-- each listing under a tail of the old index is under it in the new one too
abbrev pub Keeps : TailIndex → TailIndex → Type 0
Keeps old new = (tail : List ℕ) (x : Listing) → IsUnder old tail x → IsUnder new tail x

-- each listing of the new groups was in the old ones
abbrev pub AddsNothing : Groups → Groups → Type 0
AddsNothing old new = (tail : List ℕ) → KeepsAll (listings_at tail new) (listings_at tail old)

-- each listing of the new groups was in the old ones, except this listing under this tail
abbrev pub AddsOnly : Groups → Groups → List ℕ → Listing → Type 0
AddsOnly old new tail x = (t : List ℕ) (y : Listing) → IsIn y (listings_at t new) → IsIn y (listings_at t old) ⊎ ((t ≡ tail) × (y ≡ x))

-- whether a listing stays if the user at `place` has these masks
abbrev pub stays : ℕ → List (List ℕ) → List ℕ → Listing → Bool
stays place masks tail x = not (x.place == place) || is_listed tail x masks

-- exactly the listings that stay are left
abbrev pub LeavesListed : Groups → Groups → ℕ → List (List ℕ) → Type 0
LeavesListed old new place masks = (tail : List ℕ) (x : Listing)
    → (IsIn x (listings_at tail old) → stays place masks tail x ≡ true → IsIn x (listings_at tail new))
    × (IsIn x (listings_at tail new) → IsIn x (listings_at tail old) × (stays place masks tail x ≡ true))

-- each listing is that of a mask of its user, except those of the user at `place`
abbrev pub NamesBut : ℕ → TailIndex → List User → Type 0
NamesBut place index users = (tail : List ℕ) (x : Listing) → IsIn x (listings_at tail index.groups.entries) → (x.place == place) ≡ false
    → is_listed tail x (masks_at users x.place) ≡ true

-- ---- a user that was removed

-- a listing once the user at `place` is removed
abbrev pub moved_up : ℕ → Listing → Listing
moved_up place x = listed (if nat_lt place x.place then x.place - 1 else x.place) x.literals x.pairs

-- the listings without those of the user at `place`, and those of later users moved up by one
abbrev pub listings_without : ℕ → List Listing → List Listing
listings_without place xs = map (moved_up place) (filter (λ x. not (x.place == place)) xs)

-- exactly the listings of other users are left, and those of later users are moved up by one
abbrev pub LeavesOut : Groups → Groups → ℕ → Type 0
LeavesOut old new place = (tail : List ℕ)
    → ((n l : ℕ) (s : Pairs) → n < place → IsIn (listed n l s) (listings_at tail old) → IsIn (listed n l s) (listings_at tail new))
    × ((n l : ℕ) (s : Pairs) → place ≤ n → IsIn (listed (suc n) l s) (listings_at tail old) → IsIn (listed n l s) (listings_at tail new))
    × ((x : Listing) → IsIn x (listings_at tail new)
    → (y : Listing) × (IsIn y (listings_at tail old) × (((y.place == place) ≡ false) × (moved_up place y ≡ x))))

-- ---- a look-up

-- what a look-up of a text finds under its last `len` bytes
abbrev pub asked_at : TailIndex → List ℕ → ℕ → List Listing
asked_at index who len = if slice_index index.lengths len == 0 then [] else listings_at (end_key len who) index.groups.entries

-- `asked index who n`: what it finds under its ends of fewer than n bytes, the shortest first
abbrev pub asked : TailIndex → List ℕ → ℕ → List Listing
asked index who zero = []
asked index who (suc len) = asked index who len ++ asked_at index who len
