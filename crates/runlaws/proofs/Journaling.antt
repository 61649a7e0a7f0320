-- The two disks of a new journal, before its first entry is appended, meanwhile, and afterwards.
use Rattle.std.proofs.Common.{◌≡◌, ◌≢◌, ◌∙◌, ◌⊎◌, inl, inr, ◌<◌, ◌+◌, ℕ, true, false, List, [], ◌∷◌, ◌++◌, length, get_or, take, drop, Option, Some, refl, ap, sym, subst, arith, length-append, length-take}
use Rattle.std.proofs.lemmas.List.{take_at}
use Rattle.std.proofs.lemmas.Nat.{from_be_bytes-to_be_bytes_4}
use Rattle.std.proofs.Math.Seq.{get_or-append_seam}
use Rattle.std.specs.Prelude.{option_map}
use Rattle.std.specs.Int.{w32, to_be_bytes}
use Rattle.disks.specs.Events.{Event, Images, LeftSince, Torn}
use Rattle.disks.specs.State.{State, may_leave, left_since}
use Rattle.bytejournal.specs.Meaning.{Contents as Texts, Held, chosen, added as added_text, IsFront, IsWhole}
use Rattle.bytejournal.specs.Meaning.Held.{Shut, Open}
use Rattle.bytejournal.specs.Gates.{with_gate, IsHalfWritten}
use Rattle.bytejournal.proofs.Fronts.{start, front_start, whole_shut}
use Rattle.bytejournal.proofs.Gates.{torn_gate}
use Rattle.bytejournal.proofs.Images.{Means, entry_bytes as entry_text, at_gate, after_append, while_appending}
use Rattle.botjournal.specs.declared.TheConstants.{LAYOUT}
use Rattle.botjournal.specs.declared.base.Base.{Base}
use Rattle.botjournal.specs.declared.entry.Entry.{Entry}
use Rattle.botjournal.specs.declared.sums.Seal.{Seal}
use Rattle.botjournal.specs.Bases.{base_bytes, IsGoodBase}
use Rattle.botjournal.specs.Entries.{entry_bytes, IsGoodEntry}
use Rattle.botjournal.specs.Sums.{start as start_of_sums, sealed, after}
use Rattle.botjournal.specs.Contents.{Contents, added, new_contents, spelled, where_spelled, checked, typed, meaning}
use Rattle.botjournal.specs.Ledger.{Device}
use Rattle.botjournal.proofs.LengthLaws.{base_is_short, entry_is_short}
use Rattle.botjournal.proofs.SumLaws.{step_sealed, through_one}
use Rattle.botjournal.proofs.JournalLaws.{spelled_alone, typed_added}

-- the other disk, on which nothing was written but a closed gate
abbrev pub closed_gate : List ℕ
closed_gate = 0 ∷ []

-- a disk on which these bytes are, after these events
abbrev pub disk_of : List Event → List ℕ → State
disk_of events bytes = record { seen = bytes; events = events; failed = 0; calls = 0; end = 0 }

abbrev pub other_disk : State
other_disk = disk_of [] closed_gate

-- ---- what bytes mean

-- these bytes of two disks mean these contents, and all gates exist
pub record Keep (x y : List ℕ) (contents : Contents) : Type 0 where
  pub found : meaning x y ≡ Some contents
  pub first_whole : IsWhole x
  pub second_whole : IsWhole y

no_gate : ◌≢◌ {A = ℕ} 0 1
no_gate = omega arith

-- texts that spell contents, beside a disk with a closed gate
keep : (texts : Texts) (contents : Contents) (image : List ℕ) → spelled texts ≡ Some contents → Means image (Open texts)
    → Keep image closed_gate contents
keep texts contents image spells means = record {
  found = ap (λ (h : Held). typed (chosen (checked h) Shut)) means.held_is
      ∙ ap (λ (o : Option Contents). typed (chosen (where_spelled texts o) Shut)) spells ∙ spells;
  first_whole = means.whole;
  second_whole = whole_shut 0 [] no_gate;
}

-- ---- a new journal

-- a gate after some bytes is one of the bytes
inside_of : (front : List ℕ) → length front < length (front ++ 0 ∷ [])
inside_of front = omega (arith, length-append front (0 ∷ []))

take_long : (n : ℕ) (file : List ℕ) → n < length file → length (take (n + 1) file) ≡ n + 1
take_long n file inside = omega (arith, length-take (n + 1) file, inside)

-- its base and its first entry, each with its sum
abbrev pub base_text : Base → List ℕ
base_text base = sealed (start_of_sums LAYOUT 1) (base_bytes base)

abbrev pub seal_of : Base → Seal
seal_of base = after (start_of_sums LAYOUT 1) (base_bytes base)

abbrev pub entry_sealed : Base → Entry → List ℕ
entry_sealed base entry = sealed (seal_of base) (entry_bytes entry)

-- its bytes before its first gate
abbrev pub front_of : Base → List ℕ
front_of base = start LAYOUT (to_be_bytes w32 1) (to_be_bytes w32 (length (base_text base))) (base_text base)

abbrev pub new_bytes : Base → List ℕ
new_bytes base = front_of base ++ 0 ∷ []

abbrev pub new_device : Base → Device
new_device base = record { first = disk_of [] (new_bytes base); second = other_disk }

abbrev pub gate_of : Base → ℕ
gate_of base = length (front_of base)

abbrev pub new_texts : Base → Texts
new_texts base = record { layout = LAYOUT; generation = 1; base = base_text base; entries = [] }

module _ (base : Base) (good : IsGoodBase base) where
  new_front : IsFront (take (gate_of base) (new_bytes base)) (new_texts base)
  new_front = subst (λ (l : List ℕ). IsFront l (new_texts base)) (sym (take_at (front_of base) (0 ∷ []) (gate_of base) refl))
      (front_start LAYOUT (to_be_bytes w32 1) (to_be_bytes w32 (length (base_text base))) (base_text base) refl refl
      (from_be_bytes-to_be_bytes_4 (length (base_text base)) (base_is_short base good (start_of_sums LAYOUT 1))))

  new_inside : gate_of base < length (new_bytes base)
  new_inside = inside_of (front_of base)

  new_shut : get_or (new_bytes base) (gate_of base) 0 ≢ 1
  new_shut = λ is_one. no_gate (sym (get_or-append_seam (front_of base) 0 [] 0) ∙ is_one)

  new_spells : spelled (new_texts base) ≡ Some (new_contents base)
  new_spells = spelled_alone 1 base good

  pub new_keeps : Keep (new_bytes base) closed_gate (new_contents base)
  new_keeps = keep (new_texts base) (new_contents base) (new_bytes base) new_spells
      (at_gate (new_bytes base) (gate_of base) (new_texts base) new_front new_inside new_shut)

-- ---- its first entry

-- what is written after the gate
abbrev pub text_of : Base → Entry → List ℕ
text_of base entry = entry_text (entry_sealed base entry) ++ 0 ∷ []

-- the bytes once this is written, and once the gate is opened
abbrev pub text_there : Base → Entry → List ℕ
text_there base entry = take (gate_of base + 1) (new_bytes base)
    ++ (text_of base entry ++ drop (gate_of base + 1 + length (text_of base entry)) (new_bytes base))

abbrev pub bytes_with : Base → Entry → List ℕ
bytes_with base entry = with_gate (new_bytes base) (gate_of base) (text_of base entry) 1

abbrev pub written : (at len : ℕ) → List ℕ → Event
written at len before = record { is_write = true; is_opening = false; at = at; len = len; seen = before }

abbrev pub synced : List ℕ → Event
synced before = record { is_write = false; is_opening = false; at = 0; len = 0; seen = before }

-- the text is written and synced, and then the open gate is
abbrev pub text_write : Base → Entry → Event
text_write base entry = written (gate_of base + 1) (length (text_of base entry)) (new_bytes base)

abbrev pub gate_write : Base → Entry → Event
gate_write base entry = written (gate_of base) 1 (text_there base entry)

abbrev pub events_of : Base → Entry → List Event
events_of base entry = synced (bytes_with base entry) ∷ gate_write base entry
    ∷ synced (text_there base entry) ∷ text_write base entry ∷ []

abbrev pub device_with : Base → Entry → Device
device_with base entry = record { first = disk_of (events_of base entry) (bytes_with base entry); second = other_disk }

-- the disks when another process finds them so
abbrev pub opened_device : Base → Entry → Device
opened_device base entry = record { first = disk_of [] (bytes_with base entry); second = other_disk }

abbrev pub contents_with : Base → Entry → Contents
contents_with base entry = added entry (new_contents base)

module _ (base : Base) (good : IsGoodBase base) (entry : Entry) (fine : IsGoodEntry entry) where
  -- ---- the bytes with the entry

  entry_spells : spelled (added_text (entry_sealed base entry) (new_texts base)) ≡ Some (contents_with base entry)
  entry_spells =
      typed_added (seal_of base) entry fine (Some (new_texts base)) refl
      (λ current. through_one (start_of_sums LAYOUT 1) (base_text base) (seal_of base)
      (step_sealed (start_of_sums LAYOUT 1) (base_bytes base)))
      ∙ ap (option_map (added entry)) (new_spells base good)

  keeps_with : (image : List ℕ) → Means image (Open (added_text (entry_sealed base entry) (new_texts base)))
      → Keep image closed_gate (contents_with base entry)
  keeps_with image means =
      keep (added_text (entry_sealed base entry) (new_texts base)) (contents_with base entry) image entry_spells means

  pub with_keeps : Keep (bytes_with base entry) closed_gate (contents_with base entry)
  with_keeps = keeps_with (bytes_with base entry)
      (after_append (new_bytes base) (gate_of base) (new_texts base) (new_front base good) (new_inside base good) (new_shut base good)
      (entry_sealed base entry) (entry_is_short entry fine (seal_of base)))

  -- ---- at each moment of the append

  abbrev IsHalf : List ℕ → Type 0
  IsHalf image = IsHalfWritten (new_bytes base) (gate_of base) (text_of base entry) image

  -- the gate and what is before it are as they were
  old_gate : (image : List ℕ) → image ≡ new_bytes base → IsHalf image
  old_gate image is = inl (ap (λ (l : List ℕ). take (gate_of base + 1) l) is)

  text_there_is : (image : List ℕ) → image ≡ text_there base entry → IsHalf image
  text_there_is image is =
      let long = take_long (gate_of base) (new_bytes base) (new_inside base good) in
      inl (ap (λ (l : List ℕ). take (gate_of base + 1) l) is
      ∙ take_at (take (gate_of base + 1) (new_bytes base))
      (text_of base entry ++ drop (gate_of base + 1 + length (text_of base entry)) (new_bytes base)) (gate_of base + 1) long)

  whole_is : (image : List ℕ) → image ≡ bytes_with base entry → IsHalf image
  whole_is image is = inr (1, is)

  torn_text : (image before : List ℕ) → before ≡ new_bytes base → Torn (gate_of base + 1) (length (text_of base entry)) before image
      → IsHalf image
  torn_text image before is torn = inl (torn.before ∙ ap (λ (l : List ℕ). take (gate_of base + 1) l) is)

  gate_torn : (image before : List ℕ) → before ≡ text_there base entry → Torn (gate_of base) 1 before image → IsHalf image
  gate_torn image before is torn =
      torn_gate (new_bytes base) (text_of base entry) (text_there base entry) (gate_of base) (new_inside base good) refl image
      (subst (λ (l : List ℕ). Torn (gate_of base) 1 l image) is torn)

  -- what a crash may leave, by the moment, from the last one back
  after_text : (image : List ℕ) → Images (text_write base entry ∷ []) (text_there base entry) image → IsHalf image
  after_text image (inl is) = text_there_is image is
  after_text image (inr torn) = torn_text image torn.1.0 torn.1.1 torn.1.2

  after_sync : (image : List ℕ)
      → Images (synced (text_there base entry) ∷ text_write base entry ∷ []) (text_there base entry) image
      → image ≡ text_there base entry
  after_sync image (inl is) = is
  after_sync image (inr torn) = let never : false ≡ true = torn.0 in cc

  after_gate : (image : List ℕ)
      → Images (gate_write base entry ∷ synced (text_there base entry) ∷ text_write base entry ∷ []) (bytes_with base entry) image
      → IsHalf image
  after_gate image (inl is) = whole_is image is
  after_gate image (inr torn) = gate_torn image torn.1.0 (after_sync torn.1.0 torn.1.1) torn.1.2

  after_all : (image : List ℕ) → Images (events_of base entry) (bytes_with base entry) image
      → image ≡ bytes_with base entry
  after_all image (inl is) = is
  after_all image (inr torn) = let never : false ≡ true = torn.0 in cc

  from_text : (image : List ℕ) → LeftSince (text_write base entry ∷ []) (text_there base entry) 0 image → IsHalf image
  from_text image (inl now) = after_text image now
  from_text image (inr earlier) = old_gate image earlier.1

  from_sync : (image : List ℕ)
      → LeftSince (synced (text_there base entry) ∷ text_write base entry ∷ []) (text_there base entry) 0 image → IsHalf image
  from_sync image (inl now) = text_there_is image (after_sync image now)
  from_sync image (inr earlier) = from_text image earlier.1

  from_gate : (image : List ℕ)
      → LeftSince (gate_write base entry ∷ synced (text_there base entry) ∷ text_write base entry ∷ []) (bytes_with base entry) 0 image
      → IsHalf image
  from_gate image (inl now) = after_gate image now
  from_gate image (inr earlier) = from_sync image earlier.1

  at_any_moment : (image : List ℕ) → LeftSince (events_of base entry) (bytes_with base entry) 0 image → IsHalf image
  at_any_moment image (inl now) = whole_is image (after_all image now)
  at_any_moment image (inr earlier) = from_gate image earlier.1

  -- a crash at any moment of the append leaves the journal without the entry, or with it
  pub appending : (x y : List ℕ) → left_since (device_with base entry).first 0 x → left_since other_disk 0 y
      → Keep x y (new_contents base) ⊎ Keep x y (contents_with base entry)
  appending x y left other =
      elim (while_appending (new_bytes base) (gate_of base) (new_texts base) (new_front base good) (new_inside base good)
      (new_shut base good) (entry_sealed base entry) (entry_is_short entry fine (seal_of base)) x (at_any_moment x left)) [
        | inl means ↦ inl (subst (λ (z : List ℕ). Keep x z (new_contents base)) (sym other)
            (keep (new_texts base) (new_contents base) x (new_spells base good) means))
        | inr means ↦ inr (subst (λ (z : List ℕ). Keep x z (contents_with base entry)) (sym other) (keeps_with x means))
      ]

  -- and a crash after it leaves the journal with the entry
  pub appended : (x y : List ℕ) → may_leave (device_with base entry).first x → may_leave other_disk y
      → Keep x y (contents_with base entry)
  appended x y left other =
      subst (λ (z : List ℕ). Keep z y (contents_with base entry)) (sym (after_all x left))
      (subst (λ (z : List ℕ). Keep (bytes_with base entry) z (contents_with base entry)) (sym other) with_keeps)

  pub still_appended : (x y : List ℕ) → may_leave (opened_device base entry).first x → may_leave other_disk y
      → Keep x y (contents_with base entry)
  still_appended x y left other =
      subst (λ (z : List ℕ). Keep z y (contents_with base entry)) (sym left)
      (subst (λ (z : List ℕ). Keep (bytes_with base entry) z (contents_with base entry)) (sym other) with_keeps)

-- a crash leaves a new journal as it is
pub untouched : (base : Base) → IsGoodBase base → (x y : List ℕ) → may_leave (new_device base).first x → may_leave other_disk y
    → Keep x y (new_contents base)
untouched base good x y left other =
    subst (λ (z : List ℕ). Keep z y (new_contents base)) (sym left)
    (subst (λ (z : List ℕ). Keep (new_bytes base) z (new_contents base)) (sym other) (new_keeps base good))
