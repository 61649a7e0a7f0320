-- Packets whose frames stand before others.
use Rattle.std.proofs.Common.{◌≡◌, ◌∙◌, ℕ, List, [], ◌∷◌, ◌++◌, refl, ap, sym, append_assoc}
use Rattle.std.specs.List.{flat_map, AllByRecursion}
use Rattle.sharewire.specs.declared.packet.Packet.{Packet}
use Rattle.sharewire.specs.Frames.{frame, IsGoodPacket}
use Rattle.sharewire.specs.Streams.{Ending, Tells}

-- what `frames_are_apart` says
abbrev pub AreApart : Type 0
AreApart = (a b : Packet) (x y : List ℕ) → IsGoodPacket a → IsGoodPacket b → frame a ++ x ≡ frame b ++ y → (a ≡ b) × (x ≡ y)

some_byte : (byte : ℕ) (bytes : List ℕ) → byte ∷ bytes ≡ [] → ⊥
some_byte byte bytes e = cc

-- a frame has bytes
has_bytes : (packet : Packet) (rest : List ℕ) → frame packet ++ rest ≡ [] → ⊥
has_bytes packet rest e = some_byte _ _ e

-- packets whose frames stand before bytes, which together are frames of others, are the first of these
front_packets : AreApart → (packets others : List Packet) (x : List ℕ) → AllByRecursion IsGoodPacket packets
    → AllByRecursion IsGoodPacket others → flat_map frame packets ++ x ≡ flat_map frame others
    → (rest : List Packet) × (others ≡ packets ++ rest)
front_packets apart [] others x good goods e = (others, refl)
front_packets apart (p ∷ ps) [] x good goods e =
    absurd (has_bytes p (flat_map frame ps ++ x) (sym (append_assoc (frame p) (flat_map frame ps) x) ∙ e))
front_packets apart (p ∷ ps) (q ∷ qs) x good goods e =
    let same = apart p q (flat_map frame ps ++ x) (flat_map frame qs) good.0 goods.0
    (sym (append_assoc (frame p) (flat_map frame ps) x) ∙ e) in
    let rest = front_packets apart ps qs x good.1 goods.1 same.1 in
    (rest.0, ap (λ (ps' : List Packet). q ∷ ps') rest.1 ∙ ap (λ (z : Packet). z ∷ (ps ++ rest.0)) (sym same.0))

-- packets that are read of the front of frames
pub read_first : AreApart → (read sealed rest waiting : List ℕ) (queued packets : List Packet) (ending : Ending)
    → sealed ≡ read ++ rest → AllByRecursion IsGoodPacket queued → sealed ++ waiting ≡ flat_map frame queued
    → Tells read packets ending → (more : List Packet) × (queued ≡ packets ++ more)
read_first apart read sealed rest waiting queued packets ending front good all tells =
    front_packets apart packets queued ((tells.rest ++ rest) ++ waiting) tells.good good
    (sym (append_assoc (flat_map frame packets) (tells.rest ++ rest) waiting)
    ∙ ap (λ (bytes : List ℕ). bytes ++ waiting) (sym (append_assoc (flat_map frame packets) tells.rest rest))
    ∙ ap (λ (bytes : List ℕ). (bytes ++ rest) ++ waiting) (sym tells.parts)
    ∙ ap (λ (bytes : List ℕ). bytes ++ waiting) (sym front) ∙ all)
