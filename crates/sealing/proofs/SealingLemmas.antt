-- Records that are appended.
use Rattle.std.proofs.Common.{◌≡◌, ℕ, zero, suc, ◌+◌, ◌-◌, ◌≤◌, false, List, [], ◌∷◌, ◌++◌, length, take, drop, get_or, min, refl, sym, ap, ◌∙◌}
use Rattle.std.proofs.Common.{append_assoc, append-nil, arith, length-append, take_at, drop_at}
use Rattle.std.specs.Int.{w16, to_be_bytes}
use Rattle.std.specs.Prelude.{◌==◌}
use Rattle.sealing.specs.declared.kind.Kind.{Kind}
use Rattle.sealing.specs.declared.kind.Kind.TheVariants.{Frames, Beat}
use Rattle.sealing.specs.Records.{kind_byte, body_of, tag_of, sealed, all_sealed, carried}
use Rattle.sealing.specs.Streams.{record_count, sealed_len, AreSealed}
use Rattle.sealing.specs.Steps.{ArePut}
use Rattle.sealing.proofs.RecordLemmas.{length-sealed, all_sealed-push, carried-push, all_good-append}

-- ---- one record

-- the first three bytes of a record
pub head_put : (before room digits : List ℕ) (n byte kind : ℕ) → room ≡ before → digits ≡ to_be_bytes w16 n → byte ≡ kind
    → room ++ get_or digits 0 0 ∷ get_or digits 1 0 ∷ byte ∷ [] ≡ before ++ digits ++ kind ∷ []
head_put before room digits n byte kind room_is digits_are byte_is =
    ap (λ (l : List ℕ). l ++ get_or digits 0 0 ∷ get_or digits 1 0 ∷ byte ∷ []) room_is
    ∙ ap (λ (d : List ℕ). before ++ get_or d 0 0 ∷ get_or d 1 0 ∷ byte ∷ []) digits_are
    ∙ ap (λ (b : ℕ). before ++ (to_be_bytes w16 n ++ b ∷ [])) byte_is
    ∙ ap (λ (d : List ℕ). before ++ (d ++ kind ∷ [])) (sym digits_are) ∙ sym (append_assoc before digits (kind ∷ []))

-- the parts of a record, one after the other
pub record_put : (key : List ℕ) (count : ℕ) (kind : Kind) (content before one two three digits tag : List ℕ) (n : ℕ) → n ≡ suc (length content)
    → digits ≡ to_be_bytes w16 n → one ≡ before ++ digits ++ kind_byte kind ∷ [] → two ≡ one ++ content
    → tag ≡ tag_of key count (drop (length before + 2) two) → three ≡ two ++ tag
    → three ≡ before ++ sealed key count (body_of kind content)
record_put key count kind content before one two three digits tag n same digits_are head more tag_is all =
    let body : List ℕ = body_of kind content in
    let length_is : digits ≡ to_be_bytes w16 (length body) = digits_are ∙ ap (to_be_bytes w16) same in
    let two_is : two ≡ (before ++ digits) ++ body =
    more ∙ ap (λ (l : List ℕ). l ++ content) head ∙ append_assoc (before ++ digits) (kind_byte kind ∷ []) content in
    let front : length (before ++ digits) ≡ length before + 2 = length-append before digits ∙ ap (λ (l : List ℕ). length before + length l) length_is in
    let body_is : drop (length before + 2) two ≡ body =
    ap (drop (length before + 2)) two_is ∙ drop_at (before ++ digits) body (length before + 2) front in
    all ∙ ap (λ (l : List ℕ). l ++ tag) two_is ∙ append_assoc (before ++ digits) body tag
    ∙ append_assoc before digits (body ++ tag)
    ∙ ap (λ (l : List ℕ). before ++ (l ++ (body ++ tag))) length_is
    ∙ ap (λ (l : List ℕ). before ++ (to_be_bytes w16 (length body) ++ (body ++ l))) (tag_is ∙ ap (tag_of key count) body_is)

-- ---- the records of frames

pub some_left : (n : ℕ) → (n == 0) ≡ false → 1 ≤ n
some_left zero none = cc
some_left (suc n) none = omega arith

-- frames that are left need one record more than what a record of them leaves
pub one_record_less : (n : ℕ) → 1 ≤ n → record_count n ≡ 1 + record_count (n - min n 16383)
one_record_less n some = omega arith

-- where the records of the frames that are left have room, those after the next one have it too
pub room_left : (key : List ℕ) (count : ℕ) (piece after more : List ℕ) (left behind room new_room : ℕ)
    → more ≡ after ++ sealed key count (body_of Frames piece) → behind + length piece ≡ left
    → record_count left ≡ 1 + record_count behind → room ≤ new_room
    → length after + sealed_len left ≤ room → length more + sealed_len behind ≤ new_room
room_left key count piece after more left behind room new_room put parts less grown fits =
    omega (
      arith,
      fits,
      less,
      parts,
      grown,
      ap length put,
      length-append after (sealed key count (body_of Frames piece)),
      length-sealed key count (body_of Frames piece),
    )

pub none_put : (key : List ℕ) (first : ℕ) (before frames : List ℕ) → ArePut key first before frames frames before first
none_put key first before frames = record {
  bodies = [];
  parts = sym (append-nil before);
  good = tt;
  frames_are = refl;
  no_beats = refl;
  few = omega arith;
  counts = omega arith;
}

pub one_put : (key : List ℕ) (first : ℕ) (before frames rest after : List ℕ) (count : ℕ) (piece behind more : List ℕ)
    → ArePut key first before frames rest after count → rest ≡ piece ++ behind → length piece ≤ 16383
    → record_count (length rest) ≡ 1 + record_count (length behind)
    → more ≡ after ++ sealed key count (body_of Frames piece) → ArePut key first before frames behind more (count + 1)
one_put key first before frames rest after count piece behind more p split fits less put =
    let body : List ℕ = body_of Frames piece in
    record {
      bodies = p.bodies ++ body ∷ [];
      parts =
          put ∙ ap (λ (c : ℕ). after ++ sealed key c body) p.counts
          ∙ ap (λ (l : List ℕ). l ++ sealed key (first + length p.bodies) body) p.parts
          ∙ all_sealed-push key before first p.bodies body;
      good = all_good-append p.bodies (body ∷ []) p.good ((omega arith, omega (arith, fits)), tt);
      frames_are =
          p.frames_are ∙ ap (λ (l : List ℕ). carried Frames p.bodies ++ l) split
          ∙ sym (append_assoc (carried Frames p.bodies) piece behind)
          ∙ ap (λ (l : List ℕ). l ++ behind) (sym (carried-push Frames p.bodies body));
      no_beats = carried-push Beat p.bodies body ∙ append-nil (carried Beat p.bodies) ∙ p.no_beats;
      few = omega (arith, p.few, less, length-append p.bodies (body ∷ []));
      counts = omega (arith, p.counts, length-append p.bodies (body ∷ []));
    }

pub all_put : (key : List ℕ) (first : ℕ) (before frames rest after : List ℕ) (count : ℕ)
    → ArePut key first before frames rest after count → rest ≡ []
    → AreSealed (record { key = key; count = first }) before frames after (record { key = key; count = count })
all_put key first before frames rest after count p none = record {
  bodies = p.bodies;
  parts = p.parts;
  good = p.good;
  frames_are = p.frames_are ∙ ap (λ (l : List ℕ). carried Frames p.bodies ++ l) none ∙ append-nil (carried Frames p.bodies);
  no_beats = p.no_beats;
  few = omega (arith, p.few, ap (λ (l : List ℕ). record_count (length l)) none);
  next = ap (λ (c : ℕ). record { key = key; count = c }) p.counts;
}

-- what was there before is still at the front
pub begun_stays : (key : List ℕ) (first : ℕ) (before frames rest after : List ℕ) (count : ℕ)
    → ArePut key first before frames rest after count → take (length before) after ≡ before
begun_stays key first before frames rest after count p =
    ap (take (length before)) p.parts ∙ take_at before (all_sealed key first p.bodies) (length before) refl
