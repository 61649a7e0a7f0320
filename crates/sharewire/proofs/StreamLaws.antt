-- What a stream tells: one thing, and always something.
use Rattle.std.proofs.Common.{◌≡◌, ℕ, ◌≤◌, List, [], ◌∷◌, ◌++◌, length, drop, Option, Some, None, Ok, Err, refl, sym, ap, subst, ◌∙◌, append_assoc, arith}
use Rattle.std.specs.Prelude.{IsSome}
use Rattle.std.specs.List.{flat_map, AllByRecursion}
use Rattle.std.proofs.lemmas.List.{drop_at, append-nil}
use Rattle.usercodec.proofs.Steps.{ok_is}
use Rattle.sharewire.specs.declared.fault.WireFault.{WireFault}
use Rattle.sharewire.specs.declared.fault.WireFault.TheVariants.{BadLength, BadKind, BadBody, Failed}
use Rattle.sharewire.specs.declared.packet.Packet.{Packet}
use Rattle.sharewire.specs.declared.packet.Packet.TheVariants.{Hello, Change, Part, Request, Accepted, Refused, BotText}
use Rattle.sharewire.specs.Kinds.{kind_from, kind_of}
use Rattle.sharewire.specs.Frames.{body_of, inside, frame, CanBeWritten, IsGoodPacket}
use Rattle.sharewire.specs.Streams.{kind_in, IsLength, IsUnfinished, HasFault, Ending, Ends, Tells}
use Rattle.sharewire.proofs.LengthLaws.{inside_is_short}
use Rattle.sharewire.proofs.BodyLaws.{reads_again}
use Rattle.sharewire.proofs.FrameLaws.{StandsWhole, stands, stands_kind}

-- ---- one end

none_is_none : {A : Type 0} (o : Option A) → IsSome o → o ≡ None → ⊥
none_is_none (Some x) some none = cc
none_is_none None some none = cc

not_both : (fault : WireFault) (bytes : List ℕ) → IsUnfinished bytes → HasFault fault bytes → ⊥
not_both BadLength bytes cut bad = bad.1 (cut.fits bad.0)
not_both BadKind bytes cut bad = none_is_none (kind_from (kind_in bytes)) (cut.known bad.0) bad.1.1
not_both BadBody bytes cut bad = let long : 2 ≤ length bytes = omega arith in let short = cut.cut long in omega arith
not_both Failed bytes cut bad = bad

one_fault : (a b : WireFault) (bytes : List ℕ) → HasFault a bytes → HasFault b bytes → a ≡ b
one_fault BadLength BadLength bytes p q = refl
one_fault BadLength BadKind bytes p q = absurd (p.1 q.1.0)
one_fault BadLength BadBody bytes p q = absurd (p.1 q.0)
one_fault BadKind BadLength bytes p q = absurd (q.1 p.1.0)
one_fault BadKind BadKind bytes p q = refl
one_fault BadKind BadBody bytes p q = absurd (none_is_none (kind_from (kind_in bytes)) q.1.0 p.1.1)
one_fault BadBody BadLength bytes p q = absurd (q.1 p.0)
one_fault BadBody BadKind bytes p q = absurd (none_is_none (kind_from (kind_in bytes)) p.1.0 q.1.1)
one_fault BadBody BadBody bytes p q = refl
one_fault BadLength Failed bytes p q = absurd q
one_fault BadKind Failed bytes p q = absurd q
one_fault BadBody Failed bytes p q = absurd q
one_fault Failed b bytes p q = absurd p

one_ending : (a b : Ending) (rest : List ℕ) → Ends rest a → Ends rest b → a ≡ b
one_ending (Ok x) (Ok y) rest p q = ap (λ (r : List ℕ). Ok r) (sym p.0 ∙ q.0)
one_ending (Ok x) (Err fault) rest p q = absurd (not_both fault rest p.1 q)
one_ending (Err fault) (Ok y) rest p q = absurd (not_both fault rest q.1 p)
one_ending (Err a) (Err b) rest p q = ap (λ (f : WireFault). Err f) (one_fault a b rest p q)

-- ---- frames

good_can : (packet : Packet) → IsGoodPacket packet → CanBeWritten packet
good_can (Hello layout leaf version) good = good.0
good_can (Change n origin r c) good = good.1.1.1.shape
good_can (Part version n count records) good = good.1.1.1
good_can (Request leaf r c) good = good.1.1.shape
good_can (Accepted leaf r n) good = tt
good_can (Refused leaf r fault) good = tt
good_can (BotText from to text) good = good.1.1

good_fits : (packet : Packet) → IsGoodPacket packet → IsLength (length (inside packet))
good_fits packet good = let short = inside_is_short packet (good_can packet good) in (omega arith, omega arith)

frame_stands : (bytes : List ℕ) (packet : Packet) (rest : List ℕ) → IsGoodPacket packet → bytes ≡ frame packet ++ rest → StandsWhole bytes (inside packet)
frame_stands bytes packet rest good e = stands bytes (inside packet) rest e (good_fits packet good)

frame_kind : (bytes : List ℕ) (packet : Packet) (rest : List ℕ) → bytes ≡ frame packet ++ rest → IsSome (kind_from (kind_in bytes))
frame_kind bytes packet rest e = stands_kind bytes (kind_of packet) (body_of packet) rest e

-- bytes that begin with a frame do not end before it
not_ended : (ending : Ending) (bytes : List ℕ) (packet : Packet) (rest : List ℕ) → IsGoodPacket packet → bytes ≡ frame packet ++ rest → Ends bytes ending → ⊥
not_ended (Ok begun) bytes packet rest good e ends =
    let whole = (frame_stands bytes packet rest good e).whole in
    let long : 2 ≤ length bytes = omega arith in
    let short = ends.1.cut long in omega arith
not_ended (Err BadLength) bytes packet rest good e bad = bad.1 (frame_stands bytes packet rest good e).fits
not_ended (Err BadKind) bytes packet rest good e bad = none_is_none (kind_from (kind_in bytes)) (frame_kind bytes packet rest e) bad.1.1
not_ended (Err BadBody) bytes packet rest good e bad = bad.1.1.1 packet good (sym (frame_stands bytes packet rest good e).same)
not_ended (Err Failed) bytes packet rest good e bad = bad

same_packet : (a b : Packet) → IsGoodPacket a → IsGoodPacket b → inside a ≡ inside b → a ≡ b
same_packet a b good_a good_b e =
    let same = ok_is (a, []) (b, []) (sym (reads_again (kind_of a) (body_of a) a good_a refl) ∙ reads_again (kind_of a) (body_of a) b good_b (sym e)) in
    ap (λ (p : Packet × List ℕ). p.0) same

pub after_frame : (packet : Packet) (rest : List ℕ) → drop (length (frame packet)) (frame packet ++ rest) ≡ rest
after_frame packet rest = drop_at (frame packet) rest (length (frame packet)) refl

pub apart : (a b : Packet) (x y : List ℕ) → IsGoodPacket a → IsGoodPacket b → frame a ++ x ≡ frame b ++ y → (a ≡ b) × (x ≡ y)
apart a b x y good_a good_b e =
    let whole_a = frame_stands (frame a ++ x) a x good_a refl in
    let whole_b = frame_stands (frame a ++ x) b y good_b e in
    let same = same_packet a b good_a good_b (sym whole_a.same ∙ whole_b.same) in
    let back : frame a ++ x ≡ frame a ++ y = e ∙ ap (λ (p : Packet). frame p ++ y) (sym same) in
    (same, sym (after_frame a x) ∙ ap (drop (length (frame a))) back ∙ after_frame a y)

-- ---- streams

first_parts : (packet : Packet) (packets : List Packet) (rest : List ℕ)
    → flat_map frame (packet ∷ packets) ++ rest ≡ frame packet ++ (flat_map frame packets ++ rest)
first_parts packet packets rest = append_assoc (frame packet) (flat_map frame packets) rest

tells_rest : (packet : Packet) (packets : List Packet) (stream : List ℕ) (ending : Ending) (t : Tells stream (packet ∷ packets) ending)
    → Tells (flat_map frame packets ++ t.rest) packets ending
tells_rest packet packets stream ending t = record { rest = t.rest; parts = refl; good = t.good.1; ends = t.ends }

tells_first : (packet : Packet) (packets : List Packet) (stream : List ℕ) (ending : Ending) (t : Tells stream (packet ∷ packets) ending)
    → stream ≡ frame packet ++ (flat_map frame packets ++ t.rest)
tells_first packet packets stream ending t = t.parts ∙ first_parts packet packets t.rest

pub tells_once : (stream : List ℕ) (a b : List Packet) (x y : Ending) → Tells stream a x → Tells stream b y → (a ≡ b) × (x ≡ y)
tells_once stream [] [] x y s t =
    let p : Ends stream x = subst (λ (r : List ℕ). Ends r x) (sym s.parts) s.ends in
    let q : Ends stream y = subst (λ (r : List ℕ). Ends r y) (sym t.parts) t.ends in
    (refl, one_ending x y stream p q)
tells_once stream [] (b ∷ bs) x y s t =
    let p : Ends stream x = subst (λ (r : List ℕ). Ends r x) (sym s.parts) s.ends in
    absurd (not_ended x stream b (flat_map frame bs ++ t.rest) t.good.0 (tells_first b bs stream y t) p)
tells_once stream (a ∷ more_a) [] x y s t =
    let q : Ends stream y = subst (λ (r : List ℕ). Ends r y) (sym t.parts) t.ends in
    absurd (not_ended y stream a (flat_map frame more_a ++ s.rest) s.good.0 (tells_first a more_a stream x s) q)
tells_once stream (a ∷ more_a) (b ∷ bs) x y s t =
    let split = apart a b (flat_map frame more_a ++ s.rest) (flat_map frame bs ++ t.rest) s.good.0 t.good.0
    (sym (tells_first a more_a stream x s) ∙ tells_first b bs stream y t) in
    let other : Tells (flat_map frame more_a ++ s.rest) bs y = subst (λ (r : List ℕ). Tells r bs y) (sym split.1) (tells_rest b bs stream y t) in
    let more = tells_once (flat_map frame more_a ++ s.rest) more_a bs x y (tells_rest a more_a stream x s) other in
    (ap (λ (p : Packet). p ∷ more_a) split.0 ∙ ap (λ (ps : List Packet). b ∷ ps) more.0, more.1)

pub empty_unfinished : IsUnfinished []
empty_unfinished = record { fits = λ h. absurd (omega arith); known = λ h. absurd (omega arith); cut = λ h. absurd (omega arith) }

pub written : (packets : List Packet) → AllByRecursion IsGoodPacket packets → Tells (flat_map frame packets) packets (Ok [])
written packets good = record { rest = []; parts = sym (append-nil (flat_map frame packets)); good = good; ends = (refl, empty_unfinished) }
