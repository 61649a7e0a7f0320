-- The seats of a channel, in the order in which people came, and the index that finds them by lower-case nick.
use Rattle.std.specs.Prelude.{◌≡◌, ℕ, ◌+◌, zero, suc, Bool, true, false, nat_eq, List, [], ◌∷◌, Option, None, Some, is_some, filter, if◌then◌else◌}
use Rattle.std.specs.List.{filter_map}
use Rattle.std.specs.Map.{lookup}
use Rattle.std.specs.Cmp.Lexicographic.{pointwise}
use Rattle.std.specs.declared.vec.Vec.{Vec}
use Rattle.std.specs.declared.alloc.Global.{Global}
use Rattle.rfccase.specs.Casemapping.{folded_by}
use Rattle.chanstate.specs.declared.member.Member.{Member}
use Rattle.chanstate.specs.declared.seats.Seats.{Seats}
use Rattle.chanstate.specs.Members.{is_called}
use Rattle.rfccase.specs.declared.casemappings.Casemapping.{Casemapping}

-- the members who sit there, in their order; a member who left has left an empty seat
abbrev pub seated : List (Option Member) → List Member
seated places = filter_map (λ place. place) places

-- the seats that are not empty
abbrev pub taken : List (Option Member) → List (Option Member)
taken places = filter is_some places

-- who sits at a place
abbrev pub SitsAt : List (Option Member) → ℕ → Member → Type 0
SitsAt [] i m = ⊥
SitsAt (p ∷ ps) zero m = p ≡ Some m
SitsAt (p ∷ ps) (suc i) m = SitsAt ps i m

-- the test that a look-up uses
abbrev pub has_key : List ℕ → Vec ℕ Global → Bool
has_key lower key = pointwise nat_eq lower key.items

-- the entries of the index: the lower case of each nick, and the place of its member
abbrev pub Entries : Type 0
Entries = List (Vec ℕ Global × ℕ)

-- the place that the index has for a lower case
abbrev pub place_under : List ℕ → Entries → Option ℕ
place_under lower entries = lookup (has_key lower) entries

-- the index has the place of each member, and no other
pub record AreIndexed (mapping : Casemapping) (places : List (Option Member)) (entries : Entries) : Type 0 where
  pub found : (i : ℕ) (m : Member) → SitsAt places i m → place_under (folded_by mapping m.nick) entries ≡ Some i
  pub named : (lower : List ℕ) (i : ℕ) → place_under lower entries ≡ Some i
      → (m : Member) × SitsAt places i m × (folded_by mapping m.nick ≡ lower)

-- the index has those who sit there, if nicks are found by it
abbrev pub AreSeated : Seats → Type 0
AreSeated seats = seats.indexed ≡ true → AreIndexed seats.mapping seats.places.items seats.index.entries

-- the index has `w` for this lower case, and is unchanged for every other one
pub record IsChanged (lower : List ℕ) (w : Option ℕ) (old new : Entries) : Type 0 where
  pub own : place_under lower new ≡ w
  pub others : (other : List ℕ) → pointwise nat_eq other lower ≡ false → place_under other new ≡ place_under other old

-- The member at a place is next in the index, under the index's number of entries. There is one more entry, unless the
-- index had this nick. If the place is empty, nothing changes.
abbrev pub IsIndexedNext : Casemapping → Option Member → ℕ → Entries → ℕ → Entries → Type 0
IsIndexedNext mapping None n old k new = (new ≡ old) × (k ≡ n)
IsIndexedNext mapping (Some m) n old k new =
    IsChanged (folded_by mapping m.nick) (Some n) old new × (k ≡ n + (if is_some (place_under (folded_by mapping m.nick) old) then 0 else 1))

-- whether someone of this nick sits there
abbrev pub is_seat_of : Casemapping → List ℕ → Option Member → Bool
is_seat_of mapping nick None = false
is_seat_of mapping nick (Some m) = is_called mapping nick m

-- the key of a member is the lower case of its nick
abbrev pub IsUnder : Casemapping → Vec ℕ Global → Member → Type 0
IsUnder mapping key m = key.items ≡ folded_by mapping m.nick

-- this holds for each of these
abbrev pub AreUnder : Casemapping → List (Vec ℕ Global × Member) → Type 0
AreUnder mapping [] = Unit {0}
AreUnder mapping (e ∷ es) = IsUnder mapping e.0 e.1 × AreUnder mapping es
