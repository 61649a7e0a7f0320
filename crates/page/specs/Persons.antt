-- Who a person would be, and by which hostmask.
use Rattle.std.specs.Prelude.{◌≡◌, ℕ, Bool, ◌&&◌, ◌||◌, not, nat_le, nat_lt, true, if◌then◌else◌, List, [], ◌∷◌, Option, None, Some}
use Rattle.std.specs.List.{list_all}
use Rattle.rfccase.specs.declared.casemappings.Casemapping.{Casemapping}
use Rattle.userfile.specs.Hostmasks.{is_match, literals}
use Rattle.userfile.specs.Persons.{handle_of, user_for}
use Rattle.userfile.specs.declared.user.User.{User}

-- a mask that does not match the person, or has no more literals than these
abbrev pub exceeds : Casemapping → ℕ → List ℕ → List ℕ → Bool
exceeds mapping most who mask = not (is_match mapping mask who) || nat_le (literals mask) most

-- the first mask that matches the person and that no later one that matches exceeds in literals
abbrev pub deciding_mask : Casemapping → List ℕ → List (List ℕ) → Option (List ℕ)
deciding_mask mapping who [] = None
deciding_mask mapping who (mask ∷ masks) =
    if is_match mapping mask who && list_all (exceeds mapping (literals mask) who) masks
    then Some mask
    else deciding_mask mapping who masks

-- a mask has more literals than the best one so far, if there is one
abbrev pub has_more : List ℕ → Option (List ℕ) → Bool
has_more mask None = true
has_more mask (Some best) = nat_lt (literals best) (literals mask)

-- the best mask so far, or this one if it matches the person and has more literals
abbrev pub better_of : Casemapping → List ℕ → Option (List ℕ) → List ℕ → Option (List ℕ)
better_of mapping who best mask = if is_match mapping mask who && has_more mask best then Some mask else best

-- of these users, the person is this one, by this hostmask
pub record IsKnown (mapping : Casemapping) (users : List User) (who : List ℕ) (user : User) (mask : List ℕ) : Type 0 where
  -- a look-up of the person finds this user
  pub found : user_for mapping who users ≡ Some user
  -- so it returns the user's handle
  pub named : handle_of mapping users who ≡ user.handle
  -- of the user's masks that match, this is the first of those with most literals
  pub decides : deciding_mask mapping who user.masks ≡ Some mask
