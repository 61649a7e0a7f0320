-- What a disk in memory keeps when an event is noted.
use Rattle.std.proofs.Common.{◌≡◌, inl, inr, ⊎_elim, ◌≤◌, ◌+◌, Bool, true, false, IsTrue, ℕ, min, List, ◌∷◌, ◌++◌, length, take, drop, refl, sym, ◌∙◌, ap, subst, arith, append_assoc, length-append, length-drop}
use Rattle.std.proofs.lemmas.List.{take_at, drop_at, length-take, take-take}
use Rattle.disks.specs.Calls.{Holds, SameBytes}
use Rattle.disks.specs.Events.{Event, Torn, Images, LeftSince}
use Rattle.disks.specs.Laws.{images_seen}
use Rattle.disks.specs.Memory.{Memory, state_of, IsKept}

-- a write is one of the ways in which it may be torn
pub torn_holds : (old text new : List ℕ) (at : ℕ) → at ≤ length old → Holds old at text new → Torn at (length text) old new
torn_holds old text new at inside holds =
    let front : length (take at old) ≡ at = omega (arith, length-take at old) in
    let both : length (take at old ++ text) ≡ at + length text = omega (arith, length-append (take at old) text, front) in
    let whole : new ≡ (take at old ++ text) ++ drop (at + length text) old = holds ∙ sym (append_assoc (take at old) text (drop (at + length text) old)) in
    let long = ap length whole in
    let sum = length-append (take at old ++ text) (drop (at + length text) old) in
    let rest = length-drop (at + length text) old in
    record {
      before = ap (λ (l : List ℕ). take at l) holds ∙ take_at (take at old) (text ++ drop (at + length text) old) at front;
      after = ap (λ (l : List ℕ). drop (at + length text) l) whole ∙ drop_at (take at old ++ text) (drop (at + length text) old) (at + length text) both;
      no_shorter = omega (arith, long, sum, rest, both);
      no_longer = omega (arith, long, sum, rest, both);
    }

-- and so is nothing
pub torn_none : (at n : ℕ) (bytes : List ℕ) → Torn at n bytes bytes
torn_none at n bytes = record { before = refl; after = refl; no_shorter = omega arith; no_longer = omega arith }

-- what may be left after a write is what might have been left before it, with the range torn
pub tears : (events past : List Event) (event : Event) (old new : List ℕ) (at n : ℕ) → events ≡ event ∷ past → event.at ≡ at → event.len ≡ n
    → event.seen ≡ old → Torn at n old new
    → (image : List ℕ) → Images events new image → (earlier : List ℕ) × Images past old earlier × Torn at n earlier image
tears events past event old new at n noted at_is len_is seen_is torn image left =
    ⊎_elim
    (λ same. (old, images_seen past old, subst (λ (l : List ℕ). Torn at n old l) (sym same) torn))
    (λ was. (
      was.1.0,
      subst (λ (l : List ℕ). Images past l was.1.0) seen_is was.1.1,
      subst (λ (k : ℕ). Torn at k was.1.0 image) len_is
          (subst (λ (k : ℕ). Torn k event.len was.1.0 image) at_is was.1.2),
    ))
    (subst (λ (es : List Event). Images es new image) noted left)

-- what was left before, of the whole value
pub before : (now : Memory) (events : List Event) (content image : List ℕ) (at n : ℕ) → events ≡ now.events → content ≡ now.content
    → ((earlier : List ℕ) × Images events content earlier × Torn at n earlier image)
    → (earlier : List ℕ) × Images now.events now.content earlier × Torn at n earlier image
before now events content image at n events_is content_is was =
    (was.0, subst (λ (es : List Event). Images es now.content was.0) events_is (subst (λ (l : List ℕ). Images events l was.0) content_is was.1), was.2)

-- a write is kept in the image that a crash will leave
pub kept : (events past : List Event) (event : Event) (content torn content' torn' : List ℕ)
    (at n same first content_room torn_room content_room' torn_room' : ℕ)
    → events ≡ event ∷ past → event.is_write ≡ true → event.at ≡ at → event.len ≡ n → event.seen ≡ content
    → IsKept past content torn same content_room torn_room → Torn at n torn torn' → Torn at n content content' → first ≡ min same at
    → at + n ≤ content_room → at + n ≤ torn_room → content_room' ≡ content_room → torn_room' ≡ torn_room
    → IsKept events content' torn' first content_room' torn_room'
kept events past event content torn content' torn' at n same first content_room torn_room content_room' torn_room' noted writes at_is len_is seen_is
    is image written first_is fits fits' room room' =
    let below : first ≤ at = omega (arith, first_is) in
    let below' : first ≤ same = omega (arith, first_is) in
    let t = λ (l : List ℕ). take first l in
    record {
      image = subst (λ (es : List Event). Images es content' torn') (sym noted) (inr (
        subst (λ (b : Bool). IsTrue b) (sym writes) refl,
        (
          torn,
          subst (λ (l : List ℕ). Images past l torn) (sym seen_is) is.image,
          subst (λ (k : ℕ). Torn k event.len torn torn') (sym at_is)
              (subst (λ (k : ℕ). Torn at k torn torn') (sym len_is) image),
        ),
      ));
      content_same = omega (arith, below', is.content_same, written.no_shorter);
      torn_same = omega (arith, below', is.torn_same, image.no_shorter);
      front =
          sym (take-take first at torn' below) ∙ ap t image.before ∙ take-take first at torn below ∙ sym (take-take first same torn below')
          ∙ ap t is.front ∙ take-take first same content below' ∙ sym (take-take first at content below) ∙ ap t (sym written.before)
          ∙ take-take first at content' below;
      content_fits = omega (arith, room, is.content_fits, image.no_longer, fits);
      torn_fits = omega (arith, room', is.torn_fits, written.no_longer, fits');
    }

-- the disk with these in place of its own; what it leaves and what is planned make no difference to its state
abbrev pub changed : Memory → List Event → List ℕ → ℕ → ℕ → Memory
changed old events content failures room = record old { events = events; content = content; failures = failures; room = room }

-- a sync, or an opening, that is noted changes no byte, and a crash leaves what a read gives
pub synced : (old : Memory) (events past : List Event) (event : Event) (content : List ℕ) (failures room : ℕ) → old.events ≡ past
    → old.content ≡ content → events ≡ event ∷ past → event.is_write ≡ false → event.seen ≡ content
    → SameBytes (state_of old) (state_of (changed old events content failures room))
synced old events past event content failures room past_is content_is noted syncs seen_is =
    subst (λ (c : List ℕ). SameBytes (state_of old) (state_of (changed old events c failures room))) content_is
    (subst (λ (es : List Event). SameBytes (state_of old) (state_of (changed old es old.content failures room))) (sym (noted
    ∙ ap (λ (p : List Event). event ∷ p) (sym past_is)))
    (record {
      seen = refl;
      left = λ image left. now image left;
      time = record {
        later = omega arith;
        nothing_else = λ t image le left. ⊎_elim (λ images. inr images)
            (λ before. inl (subst (λ (l : List ℕ). LeftSince old.events l t image) (seen_is ∙ sym content_is) before.1)) left;
        keeps = λ t image le left. inr (le, subst (λ (l : List ℕ). LeftSince old.events l t image) (sym (seen_is ∙ sym content_is)) left);
      };
    }))
  where
    now : (image : List ℕ) → Images (event ∷ old.events) old.content image → Images old.events old.content image
    now image (inl same) = subst (λ (l : List ℕ). Images old.events old.content l) (sym same) (images_seen old.events old.content)
    now image (inr torn) = let both : false ≡ true = sym syncs ∙ torn.0 in absurd (cc both)
