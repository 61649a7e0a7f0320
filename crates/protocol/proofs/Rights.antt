-- What a net accepts keeps the rights of persons.
use Rattle.std.proofs.Common.{◌≡◌, inl, inr, ℕ, zero, suc, ◌+◌, ◌-◌, ◌≤◌, false, List, [], ◌∷◌, length, slice_get, Option, None, Some, refl, ap, sym, subst, ◌∙◌, arith}
use Rattle.std.proofs.lemmas.Option.{slice_get_cases}
use Rattle.userfile.specs.Records.{Records}
use Rattle.userfile.specs.Apply.{refusal, changed}
use Rattle.userfile.specs.Persons.{user_for}
use Rattle.userfile.specs.Rights.{is_owner}
use Rattle.userfile.specs.Together.{AreSound}
use Rattle.userfile.specs.Versions.{after_changes}
use Rattle.userfile.specs.Ranks.{guarded, is_like_owner, AreTaken, AreByOthers}
use Rattle.userfile.specs.declared.change.Asker.{Asker}
use Rattle.userfile.specs.declared.change.Change.{Change as UserChange}
use Rattle.userfile.proofs.RankLemmas.{allowed, step, runs, persons}
use Rattle.protocol.specs.Numbers.{item_at}
use Rattle.protocol.specs.Packets.{AcceptedChange}
use Rattle.protocol.specs.History.{History, records_of}
use Rattle.protocol.specs.Soundness.{IsSound}
use Rattle.protocol.specs.Rights.{users_of, is_owner_at, EachIsAllowed, OnlyOwnersChangeRanks, OthersAsk, KeepsRights}
use Rattle.protocol.proofs.Lists.{item_at-within, records_of-next}

-- each accepted change was taken by the records just before it, and the records at each version are a userfile's
pub record AreGranted (accepted : List AcceptedChange) : Type 0 where
  pub taken : (place : ℕ) (entry : AcceptedChange) → item_at accepted (suc place) ≡ Some entry
      → refusal (records_of accepted place) entry.change ≡ None
  pub whole : (version : ℕ) → version ≤ length accepted → AreSound (records_of accepted version)

module _ (accepted : List AcceptedChange) (granted : AreGranted accepted) where
  after-one : (version : ℕ) (entry : AcceptedChange) → item_at accepted (suc version) ≡ Some entry
      → records_of accepted (suc version) ≡ changed (records_of accepted version) entry.change
  after-one version entry at =
      let same : suc version ≡ version + 1 = omega arith in
      ap (records_of accepted) same ∙ records_of-next accepted version entry at

  each_allowed : EachIsAllowed accepted
  each_allowed version entry asker at asks =
      allowed (records_of accepted version) entry.change asker asks (granted.taken version entry at)

  ranks_kept : OnlyOwnersChangeRanks accepted
  ranks_kept version entry asker at asks none =
      let within : version ≤ length accepted = omega (arith, item_at-within accepted (suc version) entry at) in
      ap (λ (r : Records). guarded r.users) (after-one version entry at)
      ∙ step (records_of accepted version) entry.change asker (granted.whole version within) asks (granted.taken version entry at) none

  -- ---- the changes of a span: this number of them after a version

  abbrev change_of : Option AcceptedChange → List UserChange → List UserChange
  change_of None rest = []
  change_of (Some entry) rest = entry.change ∷ rest

  abbrev span : ℕ → ℕ → List UserChange
  span version zero = []
  span version (suc count) = change_of (slice_get accepted version) (span (suc version) count)

  -- the records just before each of them take it
  span-taken : (version count : ℕ) → AreTaken (records_of accepted version) (span version count)
  span-taken version zero = tt
  span-taken version (suc count) = by (slice_get accepted version) refl (span-taken (suc version) count)
    where
      by : (o : Option AcceptedChange) → slice_get accepted version ≡ o
          → AreTaken (records_of accepted (suc version)) (span (suc version) count)
          → AreTaken (records_of accepted version) (change_of o (span (suc version) count))
      by None at rest = tt
      by (Some entry) at rest =
          (granted.taken version entry at, subst (λ r. AreTaken r (span (suc version) count)) (after-one version entry at) rest)

  -- they are asked for by persons whom no owner's hostmask matched at an earlier version
  span-others : (first last : ℕ) → OthersAsk accepted first last → (version count : ℕ) → first ≤ version → version + count ≤ last
      → AreByOthers (users_of accepted first) (span version count)
  span-others first last others version zero from to = tt
  span-others first last others version (suc count) from to =
      by (slice_get accepted version) refl
      (span-others first last others (suc version) count (omega (arith, from)) (omega (arith, to)))
    where
      by : (o : Option AcceptedChange) → slice_get accepted version ≡ o → AreByOthers (users_of accepted first) (span (suc version) count)
          → AreByOthers (users_of accepted first) (change_of o (span (suc version) count))
      by None at rest = tt
      by (Some entry) at rest = (others version entry from (omega (arith, to)) at, rest)

  -- the records after them are those of a later version
  span-after : (version count : ℕ) → version + count ≤ length accepted
      → after_changes (records_of accepted version) (span version count) ≡ records_of accepted (version + count)
  span-after version zero within = let same : version ≡ version + 0 = omega arith in ap (records_of accepted) same
  span-after version (suc count) within =
      by (slice_get accepted version) refl (span-after (suc version) count (omega (arith, within)))
    where
      by : (o : Option AcceptedChange) → slice_get accepted version ≡ o
          → after_changes (records_of accepted (suc version)) (span (suc version) count) ≡ records_of accepted (suc version + count)
          → after_changes (records_of accepted version) (change_of o (span (suc version) count)) ≡ records_of accepted (version + suc count)
      by None at rest =
          elim (slice_get_cases accepted version).1 [
            | inl found ↦ cc
            | inr past ↦ absurd (omega (arith, past.0, within))
          ]
      by (Some entry) at rest =
          let same : suc version + count ≡ version + suc count = omega arith in
          ap (λ r. after_changes r (span (suc version) count)) (sym (after-one version entry at))
          ∙ rest
          ∙ ap (records_of accepted) same

  -- ---- from one version to a later one

  module _ (first last : ℕ) (order : first ≤ last) (within : last ≤ length accepted) (others : OthersAsk accepted first last) where
    whole : first + (last - first) ≡ last
    whole = omega (arith, order)

    abbrev between : List UserChange
    between = span first (last - first)

    reached : after_changes (records_of accepted first) between ≡ records_of accepted last
    reached = span-after first (last - first) (omega (arith, order, within)) ∙ ap (records_of accepted) whole

    sound : AreSound (records_of accepted first)
    sound = granted.whole first (omega (arith, order, within))

    by_others : AreByOthers (users_of accepted first) between
    by_others = span-others first last others first (last - first) (omega arith) (omega (arith, order))

    climbs : guarded (users_of accepted last) ≡ guarded (users_of accepted first)
    climbs =
        ap (λ (r : Records). guarded r.users) (sym reached)
        ∙ runs (records_of accepted first) between sound (span-taken first (last - first)) by_others

    no_owner : (asker : Asker) → is_like_owner (users_of accepted first) asker ≡ false → is_owner_at accepted last asker ≡ false
    no_owner asker none =
        ap (λ (r : Records). is_owner (user_for asker.casemapping asker.person r.users)) (sym reached)
        ∙ persons (records_of accepted first) between asker sound (span-taken first (last - first)) by_others none

  pub keeps_rights : KeepsRights accepted
  keeps_rights = record {
    allowed = each_allowed;
    ranks = ranks_kept;
    nobody_climbs = climbs;
    nobody_becomes_owner = λ first last asker order within others none. no_owner first last order within others asker none;
  }

-- what a hub holds has been granted so
pub rights : (h : History) → IsSound h → KeepsRights h.hub.kept.accepted
rights h sound = keeps_rights h.hub.kept.accepted (record { taken = sound.hub.kept.taken; whole = sound.hub.kept.whole })
