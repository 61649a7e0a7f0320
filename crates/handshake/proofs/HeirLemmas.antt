-- A leaf that was told that the hub is the heir of its net, by the bytes that it read last.
use Rattle.std.proofs.Common.{◌≡◌, ◌↔◌, ◌∙◌, IsTrue, ℕ, ◌+◌, Bool, true, false, List, take, codes, Option, None, Some, if◌then◌else◌, refl, sym, ap, subst}
use Rattle.std.specs.Str.{bytes_eq}
use Rattle.handshake.specs.declared.fault.HandshakeFault.{HandshakeFault}
use Rattle.handshake.specs.declared.fault.HandshakeFault.TheVariants.{NoGreeting, OtherVersion, Told}
use Rattle.handshake.specs.declared.reading.HubSaid.{HubSaid}
use Rattle.handshake.specs.declared.reading.HubSaid.TheVariants.{Welcome, No}
use Rattle.handshake.specs.declared.refusal.HandshakeRefusal.{HandshakeRefusal}
use Rattle.handshake.specs.declared.refusal.HandshakeRefusal.TheVariants.{Heir}
use Rattle.handshake.specs.declared.leaf_side.LeafSide.{LeafSide}
use Rattle.handshake.specs.declared.leaf_side.LeafHears.{LeafHears}
use Rattle.handshake.specs.declared.leaf_side.LeafHears.TheVariants.{Refused}
use Rattle.handshake.specs.Reading.{greeting_in, hub_said_in, line_len}
use Rattle.handshake.specs.Heirs.{IsToldBy}
use Rattle.handshake.specs.Sides.{greeting_fault, hears_greeting, hears_hub, leaf_after, leaf_hears, leaf_hears_line, leaf_hears_next, nonce_after, greeted_by}

-- which greeting was read does not change what the hub's second line means
same_hub : (side : LeafSide) (greeted : Option (List ℕ)) (used : ℕ) (hub_nonce : List ℕ) (said : Option HubSaid)
    → hears_hub (record side { greeted = greeted }) used hub_nonce said ≡ hears_hub side used hub_nonce said
same_hub side greeted used hub_nonce None = refl
same_hub side greeted used hub_nonce (Some (Welcome answer code)) = refl
same_hub side greeted used hub_nonce (Some (No refusal code)) = refl

-- a first line refuses nobody
no_refusal : (side : LeafSide) (used : ℕ) (line : List ℕ) (found : Option (List ℕ)) (refusal : HandshakeRefusal)
    → hears_greeting side used line found ≡ Refused (Told refusal) → ⊥
no_refusal side used line None refusal told = by (bytes_eq (take 9 line) (codes "eggnet 2 ")) (bytes_eq (take 7 line) (codes "eggnet ")) told
  where
    by : (b c : Bool) → Refused (if b then NoGreeting else if c then OtherVersion else NoGreeting) ≡ Refused (Told refusal) → ⊥
    by true c same = cc
    by false true same = cc
    by false false same = cc
no_refusal side used line (Some nonce) refusal told = cc

told_next : (side : LeafSide) (used : ℕ) (line : List ℕ) (greeted : Option (List ℕ)) (refusal : HandshakeRefusal) → side.greeted ≡ greeted
    → leaf_hears_next side used line side.greeted ≡ Refused (Told refusal)
    → leaf_hears_next (record side { greeted = nonce_after side.greeted line }) used line (nonce_after side.greeted line) ≡ Refused (Told refusal)
told_next side used line None refusal is told =
    absurd (no_refusal side used line (greeting_in line) refusal (sym (ap (leaf_hears_next side used line) is) ∙ told))
told_next side used line (Some hub_nonce) refusal is told =
    ap (leaf_hears_next (record side { greeted = nonce_after side.greeted line }) used line) (ap (λ greeted. nonce_after greeted line) is)
    ∙ same_hub side (nonce_after side.greeted line) used hub_nonce (hub_said_in line)
    ∙ sym (ap (leaf_hears_next side used line) is) ∙ told

told_line : (side : LeafSide) (heard : List ℕ) (len : Option ℕ) (refusal : HandshakeRefusal)
    → leaf_hears_line side heard len ≡ Refused (Told refusal)
    → leaf_hears_line (record side { greeted = greeted_by side.greeted heard len }) heard len ≡ Refused (Told refusal)
told_line side heard None refusal told = told
told_line side heard (Some n) refusal told = told_next side (n + 1) (take n heard) side.greeted refusal refl told

-- A leaf was told so by the bytes that it heard last: they mean the same after they were heard.
pub told_after : (side after : LeafSide) (heard bytes : List ℕ) (fault : HandshakeFault) (told : Bool) → bytes ≡ heard
    → Refused fault ≡ leaf_hears side bytes → after ≡ leaf_after side bytes → IsTrue told ↔ (fault ≡ Told Heir)
    → ∥ IsToldBy after heard told ∥₁
told_after side after heard bytes fault false bytes_are hears is heir = ∣ tt ∣₁
told_after side after heard bytes fault true bytes_are hears is heir =
    ∣ subst (λ (those : List ℕ). leaf_hears after those ≡ Refused (Told Heir)) bytes_are
    (ap (λ (s : LeafSide). leaf_hears s bytes) is
    ∙ told_line side bytes (line_len bytes) Heir (sym hears ∙ ap (λ (f : HandshakeFault). Refused f) (heir.0 refl))) ∣₁
