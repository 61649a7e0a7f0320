-- Whose records only owners may edit, and who asks without being an owner.
use Rattle.std.specs.Prelude.{◌≡◌, ℕ, List, [], ◌∷◌, Bool, false, ◌&&◌, map, filter, slice_get, None, Some}
use Rattle.std.specs.List.{list_any}
use Rattle.userfile.specs.Apply.{refusal, changed}
use Rattle.userfile.specs.Hostmasks.{is_match}
use Rattle.userfile.specs.Records.{Records}
use Rattle.userfile.specs.Rights.{owns, is_guarded}
use Rattle.userfile.specs.Versions.{records_at}
use Rattle.userfile.specs.declared.user.User.{User}
use Rattle.userfile.specs.declared.change.Asker.{Asker}
use Rattle.userfile.specs.declared.change.Change.{Change}

-- a user without the info text, which the user sets
abbrev pub plain : User → User
plain user = record user { info = [] }

-- the masters and owners in their order, each with all that is theirs but the info text
abbrev pub guarded : List User → List User
guarded users = map plain (filter (λ user. is_guarded user.global) users)

-- one of the users is an owner
abbrev pub has_owner : List User → Bool
has_owner users = list_any (λ user. owns user.global) users

-- whether a hostmask of an owner matches the person who asks
abbrev pub is_like_owner : List User → Asker → Bool
is_like_owner users asker =
    list_any (λ user. owns user.global && list_any (λ mask. is_match asker.casemapping mask asker.person) user.masks) users

-- none of the changes, taken one after another, is refused
abbrev pub AreTaken : Records → List Change → Type 0
AreTaken old [] = Unit {0}
AreTaken old (change ∷ changes) = (refusal old change ≡ None) × AreTaken (changed old change) changes

-- a person asks for the change whom no owner's hostmask matches
abbrev pub IsByOther : List User → Change → Type 0
IsByOther users change = (asker : Asker) × ((change.by ≡ Some asker) × (is_like_owner users asker ≡ false))

abbrev pub AreByOthers : List User → List Change → Type 0
AreByOthers users [] = Unit {0}
AreByOthers users (change ∷ changes) = IsByOther users change × AreByOthers users changes

-- none of the changes is refused by the records at the version before it, as of those that a net accepts
abbrev pub AreAccepted : List Change → Type 0
AreAccepted changes = (place : ℕ) (change : Change) → slice_get changes place ≡ Some change → refusal (records_at changes place) change ≡ None
