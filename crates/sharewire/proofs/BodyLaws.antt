-- Bodies of each kind: what is read is spelled so, and what is spelled so is read.
use Rattle.std.proofs.Common.{◌≡◌, ℕ, ◌^◌, ◌<◌, ◌==◌, nat_le, Bool, true, false, if◌then◌else◌, List, [], ◌∷◌, ◌++◌, Some, Ok, Err, refl, sym, ap, subst, ◌∙◌, arith}
use Rattle.std.proofs.lemmas.Bool.{eqb-true}
use Rattle.std.proofs.lemmas.Bool.Decides.{nat_tests}
use Rattle.std.specs.Int.{w16, w32}
use Rattle.std.proofs.lemmas.List.{append-nil}
use Rattle.usercodec.specs.declared.fault.CodecFault.{CodecFault}
use Rattle.usercodec.specs.Fields.{number, counted, Reading, byte_at, number_at}
use Rattle.usercodec.specs.Records.{record_bytes}
use Rattle.usercodec.proofs.ItemLaws.{counted_part}
use Rattle.usercodec.specs.Changes.{both, made, change_at, change_bytes, IsGoodChange}
use Rattle.usercodec.proofs.Steps.{IsBytes, bind_ok, ok_is, Takes}
use Rattle.sharewire.specs.declared.kind.Kind.{Kind}
use Rattle.sharewire.specs.declared.kind.Kind.TheVariants.{Hello as hello, LaterHello as later_hello, Change as change, Part as part, Request as request, Accepted as accepted, Refused as refused, BotText as bot_text}
use Rattle.sharewire.specs.declared.packet.Packet.{Packet}
use Rattle.sharewire.specs.declared.packet.Packet.TheVariants.{Hello, Change, Part, Request, Accepted, Refused, BotText}
use Rattle.sharewire.specs.Kinds.{kind_byte, kind_from, hello_kind, kind_of}
use Rattle.sharewire.specs.Texts.{is_bot_text}
use Rattle.sharewire.specs.Frames.{long_text, hello_body, body_of, inside, HoldsPart, IsGoodPacket}
use Rattle.sharewire.specs.Bodies.{bot_text_at, part_records_at, layout_at, hello_at, later_hello_at, change_packet_at, part_at, request_at, accepted_at, refused_at, bot_text_packet_at, body_at}
use Rattle.usercodec.proofs.PartLaws.{IsPart, both_part, checked_part}
use Rattle.usercodec.proofs.ReaderLaws.{byte_part, u16_part, u32_part, record_part, change_part, refused_part, some_is}
use Rattle.sharewire.proofs.LongTextLaws.{bot_text_part}

-- ---- the fields of each kind

hello_part : IsPart (both (number_at w16) (number_at w32)) (λ x. number w16 x.0 ++ number w32 x.1) (λ x. (x.0 < 2 ^ 16) × (x.1 < 2 ^ 32))
hello_part = both_part u16_part u32_part

layout_part : IsPart layout_at (λ layout. layout ∷ []) (λ layout. (layout < 256) × (nat_le 2 layout ≡ true))
unfolding layout_at
layout_part = checked_part byte_part (λ layout. nat_le 2 layout)

later_hello_part : IsPart (both layout_at (both (number_at w16) (number_at w32)))
    (λ x. (x.0 ∷ []) ++ (number w16 x.1.0 ++ number w32 x.1.1))
    (λ x. ((x.0 < 256) × (nat_le 2 x.0 ≡ true)) × ((x.1.0 < 2 ^ 16) × (x.1.1 < 2 ^ 32)))
later_hello_part = both_part layout_part hello_part

request_part : IsPart (both (number_at w16) (both (number_at w32) change_at)) (λ x. number w16 x.0 ++ (number w32 x.1.0 ++ change_bytes x.1.1))
    (λ x. (x.0 < 2 ^ 16) × ((x.1.0 < 2 ^ 32) × IsGoodChange x.1.1))
request_part = both_part u16_part (both_part u32_part change_part)

part_records_part : IsPart part_records_at (counted record_bytes) HoldsPart
unfolding part_records_at
part_records_part = counted_part record_part 8 (omega arith)

part_part : IsPart (both (number_at w32) (both byte_at (both byte_at part_records_at)))
    (λ x. number w32 x.0 ++ ((x.1.0 ∷ []) ++ ((x.1.1.0 ∷ []) ++ counted record_bytes x.1.1.1)))
    (λ x. (x.0 < 2 ^ 32) × ((x.1.0 < 2 ^ 8) × ((x.1.1.0 < 2 ^ 8) × HoldsPart x.1.1.1)))
part_part = both_part u32_part (both_part byte_part (both_part byte_part part_records_part))

change_packet_part : IsPart (both (number_at w32) (both (number_at w16) (both (number_at w32) change_at)))
    (λ x. number w32 x.0 ++ (number w16 x.1.0 ++ (number w32 x.1.1.0 ++ change_bytes x.1.1.1)))
    (λ x. (x.0 < 2 ^ 32) × ((x.1.0 < 2 ^ 16) × ((x.1.1.0 < 2 ^ 32) × IsGoodChange x.1.1.1)))
change_packet_part = both_part u32_part (both_part u16_part (both_part u32_part change_part))

accepted_part : IsPart (both (number_at w16) (both (number_at w32) (number_at w32))) (λ x. number w16 x.0 ++ (number w32 x.1.0 ++ number w32 x.1.1))
    (λ x. (x.0 < 2 ^ 16) × ((x.1.0 < 2 ^ 32) × (x.1.1 < 2 ^ 32)))
accepted_part = both_part u16_part (both_part u32_part u32_part)

bot_text_packet_part : IsPart (both (number_at w16) (both (number_at w16) bot_text_at)) (λ x. number w16 x.0 ++ (number w16 x.1.0 ++ long_text x.1.1))
    (λ x. (x.0 < 2 ^ 16) × ((x.1.0 < 2 ^ 16) × (is_bot_text x.1.1 ≡ true)))
bot_text_packet_part = both_part u16_part (both_part u16_part bot_text_part)

-- ---- hellos of a later layout than 1

later_kind : (layout : ℕ) → (layout == 1) ≡ false → kind_of (Hello layout 0 0) ≡ later_hello
later_kind layout is = ap (λ (b : Bool). if b then hello else later_hello) is

later_body : (layout leaf version : ℕ) → (layout == 1) ≡ false
    → hello_body layout leaf version ≡ layout ∷ (number w16 leaf ++ number w32 version)
later_body layout leaf version is =
    ap (λ (b : Bool). if b then number w16 leaf ++ number w32 version else layout ∷ (number w16 leaf ++ number w32 version)) is

later_some : (layout : ℕ) → nat_le 2 layout ≡ true → 0 < layout
later_some layout is = grind (arith, nat_tests, is)

later_not_1 : (layout : ℕ) → nat_le 2 layout ≡ true → (layout == 1) ≡ false
later_not_1 layout is = grind (arith, nat_tests, is)

later_from : (layout : ℕ) → 0 < layout → (layout == 1) ≡ false → nat_le 2 layout ≡ true
later_from layout some is = grind (arith, nat_tests, is)

-- ---- bodies

-- what is told of a packet that was read
pub record IsTaken (kind : Kind) (bytes : List ℕ) (packet : Packet) (rest : List ℕ) : Type 0 where
  pub took : Takes bytes (body_of packet) rest
  pub good : IsGoodPacket packet
  pub of_kind : kind_of packet ≡ kind

made_takes : {A : Type 0} {read : List ℕ → Reading A} {spelling : A → List ℕ} {IsGood : A → Type 0} (packet_of : A → Packet) (kind : Kind)
    → IsPart read spelling IsGood → ((x : A) → IsGood x → body_of (packet_of x) ≡ spelling x) → ((x : A) → IsGood x → IsGoodPacket (packet_of x))
    → ((x : A) → IsGood x → kind_of (packet_of x) ≡ kind)
    → (bytes : List ℕ) (packet : Packet) (rest : List ℕ) → IsBytes bytes → made packet_of (read bytes) ≡ Ok (packet, rest) → IsTaken kind bytes packet rest
made_takes {read = read} packet_of kind fields spelled good kinds bytes packet rest fits e =
    let a = bind_ok (read bytes) (λ x. Ok (packet_of x.0, x.1)) (packet, rest) e in
    let t = fields.takes bytes a.0.0 a.0.1 fits a.1 in
    let same = ok_is (packet_of a.0.0, a.0.1) (packet, rest) a.2 in
    let took : Takes bytes (body_of (packet_of a.0.0)) a.0.1 = subst (λ (b : List ℕ). Takes bytes b a.0.1) (sym (spelled a.0.0 t.1)) t.0 in
    subst (λ (p : Packet × List ℕ). IsTaken kind bytes p.0 p.1) same (record { took = took; good = good a.0.0 t.1; of_kind = kinds a.0.0 t.1 })

pub body_takes : (kind : Kind) (bytes : List ℕ) (packet : Packet) (rest : List ℕ) → IsBytes bytes → body_at kind bytes ≡ Ok (packet, rest)
    → IsTaken kind bytes packet rest
unfolding hello_at later_hello_at change_packet_at part_at request_at accepted_at refused_at bot_text_packet_at
body_takes hello bytes packet rest fits e =
    made_takes (λ x. Hello 1 x.0 x.1) hello hello_part (λ x g. refl) (λ x g. (omega arith, (omega arith, g))) (λ x g. refl) bytes packet rest fits e
body_takes later_hello bytes packet rest fits e =
    made_takes (λ x. Hello x.0 x.1.0 x.1.1) later_hello later_hello_part (λ x g. later_body x.0 x.1.0 x.1.1 (later_not_1 x.0 g.0.1))
    (λ x g. (later_some x.0 g.0.1, (g.0.0, g.1))) (λ x g. later_kind x.0 (later_not_1 x.0 g.0.1)) bytes packet rest fits e
body_takes change bytes packet rest fits e =
    made_takes (λ x. Change x.0 x.1.0 x.1.1.0 x.1.1.1) change change_packet_part (λ x g. refl) (λ x g. g) (λ x g. refl) bytes packet rest fits e
body_takes part bytes packet rest fits e =
    made_takes (λ x. Part x.0 x.1.0 x.1.1.0 x.1.1.1) part part_part (λ x g. refl) (λ x g. g) (λ x g. refl) bytes packet rest fits e
body_takes request bytes packet rest fits e =
    made_takes (λ x. Request x.0 x.1.0 x.1.1) request request_part (λ x g. refl) (λ x g. g) (λ x g. refl) bytes packet rest fits e
body_takes accepted bytes packet rest fits e =
    made_takes (λ x. Accepted x.0 x.1.0 x.1.1) accepted accepted_part (λ x g. refl) (λ x g. g) (λ x g. refl) bytes packet rest fits e
body_takes refused bytes packet rest fits e =
    made_takes (λ x. Refused x.0 x.1.0 x.1.1) refused refused_part (λ x g. refl) (λ x g. (g.0, g.1.0)) (λ x g. refl) bytes packet rest fits e
body_takes bot_text bytes packet rest fits e =
    made_takes (λ x. BotText x.0 x.1.0 x.1.1) bot_text bot_text_packet_part (λ x g. refl) (λ x g. g) (λ x g. refl) bytes packet rest fits e

pub body_again : (packet : Packet) (rest : List ℕ) → IsGoodPacket packet → body_at (kind_of packet) (body_of packet ++ rest) ≡ Ok (packet, rest)
unfolding hello_at later_hello_at change_packet_at part_at request_at accepted_at refused_at bot_text_packet_at
body_again (Hello layout leaf version) rest good = by (layout == 1) refl
  where
    by : (first : Bool) → (layout == 1) ≡ first → body_at (hello_kind layout) (hello_body layout leaf version ++ rest) ≡ Ok (Hello layout leaf version, rest)
    by true is =
        let one : layout ≡ 1 = eqb-true layout 1 is in
        rw one (ap (made (λ x. Hello 1 x.0 x.1)) (hello_part.again (leaf, version) rest good.1.1))
    by false is =
        let later = later_from layout good.0 is in
        rw (later_body layout leaf version is, later_kind layout is)
        (ap (made (λ x. Hello x.0 x.1.0 x.1.1)) (later_hello_part.again (layout, (leaf, version)) rest ((good.1.0, later), good.1.1)))
body_again (Change n origin r c) rest good =
    ap (made (λ x. Change x.0 x.1.0 x.1.1.0 x.1.1.1)) (change_packet_part.again (n, (origin, (r, c))) rest good)
body_again (Part version n count records) rest good =
    ap (made (λ x. Part x.0 x.1.0 x.1.1.0 x.1.1.1)) (part_part.again (version, (n, (count, records))) rest good)
body_again (Request leaf r c) rest good = ap (made (λ x. Request x.0 x.1.0 x.1.1)) (request_part.again (leaf, (r, c)) rest good)
body_again (Accepted leaf r n) rest good = ap (made (λ x. Accepted x.0 x.1.0 x.1.1)) (accepted_part.again (leaf, (r, n)) rest good)
body_again (Refused leaf r fault) rest good =
    ap (made (λ x. Refused x.0 x.1.0 x.1.1)) (refused_part.again (leaf, (r, fault)) rest (good.0, (good.1, tt)))
body_again (BotText from to text) rest good = ap (made (λ x. BotText x.0 x.1.0 x.1.1)) (bot_text_packet_part.again (from, (to, text)) rest good)

-- ---- kinds

pub kind_from-byte : (kind : Kind) → kind_from (kind_byte kind) ≡ Some kind
kind_from-byte hello = refl
kind_from-byte change = refl
kind_from-byte part = refl
kind_from-byte request = refl
kind_from-byte accepted = refl
kind_from-byte refused = refl
kind_from-byte bot_text = refl
kind_from-byte later_hello = refl

pub same_kind : (a b : Kind) → kind_byte a ≡ kind_byte b → a ≡ b
same_kind a b e = some_is a b (sym (kind_from-byte a) ∙ ap kind_from e ∙ kind_from-byte b)

-- ---- whole bodies

cons_is : (a b : ℕ) (x y : List ℕ) → a ∷ x ≡ b ∷ y → (a ≡ b) × (x ≡ y)
cons_is a b x y e = (cc, cc)

-- what is the inside of a good packet reads as it
pub reads_again : (kind : Kind) (body : List ℕ) (packet : Packet) → IsGoodPacket packet → inside packet ≡ kind_byte kind ∷ body
    → body_at kind body ≡ Ok (packet, [])
reads_again kind body packet good e =
    let parts = cons_is (kind_byte (kind_of packet)) (kind_byte kind) (body_of packet) body e in
    let whole : body_of packet ++ [] ≡ body = append-nil (body_of packet) ∙ parts.1 in
    ap (λ (k : Kind). body_at k body) (sym (same_kind (kind_of packet) kind parts.0)) ∙ ap (body_at (kind_of packet)) (sym whole)
    ∙ body_again packet [] good

-- a body that reads whole is the packet's
pub reads_whole : (kind : Kind) (body : List ℕ) (packet : Packet) (rest : List ℕ) → IsBytes body → body_at kind body ≡ Ok (packet, rest) → rest ≡ []
    → IsGoodPacket packet × (inside packet ≡ kind_byte kind ∷ body)
reads_whole kind body packet rest fits e none =
    let t = body_takes kind body packet rest fits e in
    let whole : body ≡ body_of packet = t.took.parts ∙ ap (λ (r : List ℕ). body_of packet ++ r) none ∙ append-nil (body_of packet) in
    (t.good, ap (λ (k : Kind). kind_byte k ∷ body_of packet) t.of_kind ∙ ap (λ (b : List ℕ). kind_byte kind ∷ b) (sym whole))

-- a body with bytes left over is no packet's
pub reads_more : (kind : Kind) (body : List ℕ) (found : Packet) (rest : List ℕ) → body_at kind body ≡ Ok (found, rest) → (rest ≡ [] → ⊥)
    → (packet : Packet) → IsGoodPacket packet → inside packet ≡ kind_byte kind ∷ body → ⊥
reads_more kind body found rest e some packet good is =
    let same = ok_is (found, rest) (packet, []) (sym e ∙ reads_again kind body packet good is) in
    some (ap (λ (p : Packet × List ℕ). p.1) same)

-- nor is one that has a fault
pub reads_none : (kind : Kind) (body : List ℕ) (fault : CodecFault) → body_at kind body ≡ Err fault
    → (packet : Packet) → IsGoodPacket packet → inside packet ≡ kind_byte kind ∷ body → ⊥
reads_none kind body fault e packet good is = no_value fault packet (sym e ∙ reads_again kind body packet good is)
  where
    no_value : (fault : CodecFault) (packet : Packet) → (let r : Reading Packet = Err fault in r) ≡ Ok (packet, []) → ⊥
    no_value fault packet e = cc
