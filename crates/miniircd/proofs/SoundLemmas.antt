-- Lines that are sound before a change of the clients are so after it.
use Rattle.std.proofs.Common.{◌≡◌, ℕ, true, not, ◌==◌, List, [], ◌∷◌, Option, Some, None, is_some, refl, sym, ◌∙◌, ap, inl, inr, arith}
use Rattle.std.proofs.lemmas.Bool.{and_from, and_parts, cases_eq}
use Rattle.std.proofs.lemmas.Bool.Decides.{nat_tests}
use Rattle.std.proofs.lemmas.List.{get_or-set_other}
use Rattle.std.specs.Prelude.{slice_set}
use Rattle.miniircd.specs.declared.client_identity.ClientIdentity.{ClientIdentity}
use Rattle.miniircd.specs.declared.member.ServerChannel.{ServerChannel}
use Rattle.miniircd.specs.declared.client.SentLine.{SentLine}
use Rattle.miniircd.specs.declared.server_change.ServerChange.TheVariants as change
use Rattle.miniircd.specs.declared.server_change.Effect.{Effect}
use Rattle.miniircd.specs.declared.server_change.Effect.TheVariants as effect
use Rattle.miniircd.specs.People.{held_at}
use Rattle.miniircd.specs.Mail.{serves, is_sound, are_sound}
use Rattle.miniircd.specs.Server.{effected, IsSoundAfter}
use Rattle.miniircd.proofs.WholeLemmas.{held_person}

-- ---- clients

serves_person : (clients : List (Option ClientIdentity)) (client : ℕ) (p : ClientIdentity) (to : ℕ)
    → serves clients None to ≡ true → serves (slice_set clients client (Some p)) None to ≡ true
serves_person clients client p to served =
    and_from _ true (held_person clients client p to (and_parts (is_some (held_at clients to)) true served).0) refl

serves_left : (clients : List (Option ClientIdentity)) (client to : ℕ)
    → serves clients (Some client) to ≡ true → serves (slice_set clients client None) None to ≡ true
serves_left clients client to served =
    let parts = and_parts (is_some (held_at clients to)) (not (to == client)) served in
    let held = parts.0 in
    let other = parts.1 in
    elim (cases_eq to client) [
      | inl same ↦ let is : (to == client) ≡ true = grind (arith, nat_tests) in let no = sym other ∙ ap not is in cc
      | inr differs ↦ and_from _ true (ap is_some (get_or-set_other clients client to None None differs) ∙ held) refl
    ]

-- ---- lines

are_sound-for : (old new : List (Option ClientIdentity)) (before after : Option ℕ)
    → ((to : ℕ) → serves old before to ≡ true → serves new after to ≡ true)
    → (lines : List SentLine) → are_sound old before lines ≡ true → are_sound new after lines ≡ true
are_sound-for old new before after step [] sound = refl
are_sound-for old new before after step (sent ∷ lines) sound =
    let both = and_parts (is_sound old before sent) (are_sound old before lines) sound in
    let parts = and_parts (serves old before sent.to.0) _ both.0 in
    and_from _ _ (and_from _ _ (step sent.to.0 parts.0) parts.1) (are_sound-for old new before after step lines both.1)

pub sound_after : (client : ℕ) (clients : List (Option ClientIdentity)) (channels : List ServerChannel) (effect : Effect) (lines : List SentLine)
    → IsSoundAfter client clients effect lines
    → are_sound ((effected client effect (record { clients = clients; channels = channels })).clients) None lines ≡ true
sound_after client clients channels (effect.Changed change.Same) lines sound = sound
sound_after client clients channels (effect.Changed (change.Person p)) lines sound =
    are_sound-for clients (slice_set clients client (Some p)) None None (serves_person clients client p) lines sound
sound_after client clients channels (effect.Changed (change.Channels after)) lines sound = sound
sound_after client clients channels (effect.Left after) lines sound =
    are_sound-for clients (slice_set clients client None) (Some client) None (serves_left clients client) lines sound
