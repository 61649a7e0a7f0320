-- What a mirror keeps when a write, a sync or an opening is told.
use Rattle.std.proofs.Common.{◌≡◌, ◌≤◌, ◌+◌, max, false, ℕ, List, [], ◌∷◌, ◌++◌, length, take, drop, refl, sym, ◌∙◌, ap, subst, arith, length-append, length-drop}
use Rattle.std.proofs.lemmas.List.{length-take}
use Rattle.disks.specs.Calls.{SameBytes}
use Rattle.disks.specs.Events.{Event, Torn, Images}
use Rattle.disks.specs.Memory.{Memory, state_of}
use Rattle.disks.specs.Mirrors.{events_after}
use Rattle.disks.specs.Told.{with_text, after_writes}
use Rattle.disks.proofs.Noted.{before, changed, synced, tears, torn_holds}

-- how long the bytes are after a write that begins inside
pub length-with_text : (at : ℕ) (text bytes : List ℕ) → at ≤ length bytes → length (with_text at text bytes) ≡ max (length bytes) (at + length text)
length-with_text at text bytes inside =
    let front : length (take at bytes) ≡ at = omega (arith, length-take at bytes) in
    omega (
      arith,
      inside,
      front,
      length-append (take at bytes) (text ++ drop (at + length text) bytes),
      length-append text (drop (at + length text) bytes),
      length-drop (at + length text) bytes,
    )

-- nothing written changes nothing
with_nothing : (event : Event) (bytes : List ℕ) → event.at ≡ 0 → event.seen ≡ [] → with_text event.at event.seen bytes ≡ bytes
with_nothing event bytes at_is text_is =
    ap (λ (n : ℕ). with_text n event.seen bytes) at_is ∙ ap (λ (text : List ℕ). with_text 0 text bytes) text_is

-- an event with the bytes before it
abbrev given : List ℕ → List Event → Event → Event
given found past event = record event { seen = after_writes found past }

-- a sync, or an opening, that is told changes no byte, and a crash leaves what a read gives
pub told_sync : (old : Memory) (found : List ℕ) (told past : List Event) (event : Event) (failures room : ℕ) → old.events ≡ events_after found past
    → old.content ≡ after_writes found past → told ≡ event ∷ past → event.is_write ≡ false → event.at ≡ 0 → event.seen ≡ []
    → SameBytes (state_of old) (state_of (changed old (events_after found told) (after_writes found told) failures room))
told_sync old found told past event failures room events_are content_is noted syncs at_is text_is =
    subst (λ (c : List ℕ). SameBytes (state_of old) (state_of (changed old (events_after found told) c failures room)))
    (sym (ap (after_writes found) noted ∙ with_nothing event (after_writes found past) at_is text_is))
    (synced old (events_after found told) (events_after found past) (given found past event) (after_writes found past) failures room
    events_are content_is (ap (events_after found) noted) syncs refl)

-- what may be left after a write that is told is what might have been left before it, with the range torn
pub told_write : (old : Memory) (found : List ℕ) (told past : List Event) (event : Event) (text : List ℕ) (at : ℕ) → old.events ≡ events_after found past
    → old.content ≡ after_writes found past → told ≡ event ∷ past → event.at ≡ at → event.len ≡ length text → event.seen ≡ text → at ≤ length old.content
    → (image : List ℕ) → Images (events_after found told) (after_writes found told) image
    → (earlier : List ℕ) × Images old.events old.content earlier × Torn at (length text) earlier image
told_write old found told past event text at events_are content_is noted at_is len_is text_is inside image left =
    let written : after_writes found told ≡ with_text at text (after_writes found past) =
    ap (after_writes found) noted ∙ ap (λ (n : ℕ). with_text n event.seen (after_writes found past)) at_is
    ∙ ap (λ (t : List ℕ). with_text at t (after_writes found past)) text_is in
    before old (events_after found past) (after_writes found past) image at (length text) (sym events_are) (sym content_is)
    (tears (events_after found told) (events_after found past) (given found past event) (after_writes found past) (after_writes found told) at (length text)
    (ap (events_after found) noted) at_is len_is refl
    (torn_holds (after_writes found past) text (after_writes found told) at (subst (λ (l : List ℕ). at ≤ length l) content_is inside) written) image left)
