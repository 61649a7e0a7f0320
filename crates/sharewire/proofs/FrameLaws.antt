-- What stands at the front of bytes that begin with a frame.
use Rattle.std.proofs.Common.{◌≡◌, ℕ, ◌+◌, ◌^◌, ◌<◌, ◌≤◌, List, ◌∷◌, ◌++◌, length, take, drop, refl, sym, ap, subst, ◌∙◌, arith}
use Rattle.std.specs.Prelude.{IsSome}
use Rattle.std.specs.Int.{w16}
use Rattle.std.proofs.lemmas.List.{take_at, length-append}
use Rattle.std.proofs.lemmas.Nat.{from_be_bytes-to_be_bytes_2}
use Rattle.usercodec.specs.Fields.{number}
use Rattle.sharewire.specs.declared.fault.WireFault.TheVariants.{BadBody}
use Rattle.sharewire.specs.declared.kind.Kind.{Kind}
use Rattle.sharewire.specs.declared.packet.Packet.{Packet}
use Rattle.sharewire.specs.Kinds.{kind_byte, kind_from}
use Rattle.sharewire.specs.Frames.{inside, IsGoodPacket}
use Rattle.sharewire.specs.Streams.{said, kind_in, IsLength, HasFault}
use Rattle.sharewire.specs.Steps.{IsFrame}
use Rattle.sharewire.proofs.BodyLaws.{kind_from-byte}

-- ---- lengths

pub said_is : (text rest : List ℕ) → IsLength (length text) → said (number w16 (length text) ++ (text ++ rest)) ≡ length text
said_is text rest fits = let small : length text < 2 ^ 16 = omega arith in from_be_bytes-to_be_bytes_2 (length text) small

pub inside_is : (text rest : List ℕ) → IsLength (length text)
    → take (said (number w16 (length text) ++ (text ++ rest))) (drop 2 (number w16 (length text) ++ (text ++ rest))) ≡ text
inside_is text rest fits = ap (λ (n : ℕ). take n (text ++ rest)) (said_is text rest fits) ∙ take_at text rest (length text) refl

-- a frame's front bytes are good, and it is whole
pub record StandsWhole (bytes text : List ℕ) : Type 0 where
  pub fits : IsLength (said bytes)
  pub whole : 2 + said bytes ≤ length bytes
  pub same : take (said bytes) (drop 2 bytes) ≡ text

pub stands : (bytes text rest : List ℕ) → bytes ≡ number w16 (length text) ++ (text ++ rest) → IsLength (length text) → StandsWhole bytes text
stands bytes text rest parts fits =
    let of : List ℕ = number w16 (length text) ++ (text ++ rest) in
    let n = said_is text rest fits in
    let length_is : length of ≡ 2 + (length text + length rest) = omega (arith, length-append text rest) in
    let here : StandsWhole of text = record {
      fits = subst IsLength (sym n) fits;
      whole = omega (arith, n, length_is);
      same = inside_is text rest fits;
    } in
    subst (λ (b : List ℕ). StandsWhole b text) (sym parts) here

known_kind : (kind : Kind) → IsSome (kind_from (kind_byte kind))
known_kind kind = subst IsSome (sym (kind_from-byte kind)) refl

pub stands_kind : (bytes : List ℕ) (kind : Kind) (body rest : List ℕ) → bytes ≡ number w16 (length (kind_byte kind ∷ body)) ++ ((kind_byte kind ∷ body) ++ rest)
    → IsSome (kind_from (kind_in bytes))
stands_kind bytes kind body rest parts = subst (λ (b : List ℕ). IsSome (kind_from (kind_in b))) (sym parts) (known_kind kind)

-- ---- faults

pub bad_body : (bytes : List ℕ) (kind : Kind) (body rest : List ℕ) → IsFrame bytes kind body rest
    → ((packet : Packet) → IsGoodPacket packet → inside packet ≡ kind_byte kind ∷ body → ⊥) → HasFault BadBody bytes
bad_body bytes kind body rest is none =
    let whole = stands bytes (kind_byte kind ∷ body) rest is.parts is.fits in
    (whole.fits, (stands_kind bytes kind body rest is.parts, (whole.whole, λ packet good e. none packet good (e ∙ whole.same))))
