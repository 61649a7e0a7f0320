-- Whose right each accepted change was, and what the owners and masters of a net may rely on.
use Rattle.std.specs.Prelude.{◌≡◌, ℕ, suc, ◌<◌, ◌≤◌, Bool, true, false, List, length, Some}
use Rattle.userfile.specs.Ranks.{guarded, is_like_owner, IsByOther}
use Rattle.userfile.specs.Rights.{may, is_owner}
use Rattle.userfile.specs.Persons.{user_for}
use Rattle.userfile.specs.declared.user.User.{User}
use Rattle.userfile.specs.declared.change.Asker.{Asker}
use Rattle.protocol.specs.Numbers.{item_at}
use Rattle.protocol.specs.Packets.{AcceptedChange}
use Rattle.protocol.specs.History.{records_of}

module _ (accepted : List AcceptedChange) where
  -- the users at a version
  abbrev pub users_of : ℕ → List User
  users_of version = (records_of accepted version).users

  -- whether a person is an owner at a version
  abbrev pub is_owner_at : ℕ → Asker → Bool
  is_owner_at version asker = is_owner (user_for asker.casemapping asker.person (users_of version))

  -- each change that a person asked for was that person's right, by the records just before it
  abbrev pub EachIsAllowed : Type 0
  EachIsAllowed = (version : ℕ) (entry : AcceptedChange) (asker : Asker) → item_at accepted (suc version) ≡ Some entry
      → entry.change.by ≡ Some asker → may (users_of version) asker entry.change.edit ≡ true

  -- a change for which a person asked who was no owner just before it left the owners and masters as they were
  abbrev pub OnlyOwnersChangeRanks : Type 0
  OnlyOwnersChangeRanks = (version : ℕ) (entry : AcceptedChange) (asker : Asker) → item_at accepted (suc version) ≡ Some entry
      → entry.change.by ≡ Some asker → is_owner_at version asker ≡ false
      → guarded (users_of (suc version)) ≡ guarded (users_of version)

  -- each change that was accepted after the first version, up to the last one, was asked for by a person whom no owner's
  -- hostmask matched at the first
  abbrev pub OthersAsk : (first last : ℕ) → Type 0
  OthersAsk first last = (version : ℕ) (entry : AcceptedChange) → first ≤ version → version < last
      → item_at accepted (suc version) ≡ Some entry → IsByOther (users_of first) entry.change

  -- from any version to any later one: if only such persons asked, the owners and masters are the same, with all that is
  -- theirs but their info texts
  abbrev pub NobodyClimbs : Type 0
  NobodyClimbs = (first last : ℕ) → first ≤ last → last ≤ length accepted → OthersAsk first last
      → guarded (users_of last) ≡ guarded (users_of first)

  -- and nobody is an owner at the later one whom no owner's hostmask matched at the first: so none of those who asked
  abbrev pub NobodyBecomesOwner : Type 0
  NobodyBecomesOwner = (first last : ℕ) (asker : Asker) → first ≤ last → last ≤ length accepted → OthersAsk first last
      → is_like_owner (users_of first) asker ≡ false → is_owner_at last asker ≡ false

-- the accepted changes keep the rights of persons
pub record KeepsRights (accepted : List AcceptedChange) : Type 0 where
  pub allowed : EachIsAllowed accepted
  pub ranks : OnlyOwnersChangeRanks accepted
  pub nobody_climbs : NobodyClimbs accepted
  pub nobody_becomes_owner : NobodyBecomesOwner accepted
