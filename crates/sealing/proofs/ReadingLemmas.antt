-- What is read so far, and what a piece more brings.
use Rattle.std.proofs.Common.{◌≡◌, ℕ, ◌+◌, ◌-◌, ◌<◌, ◌≤◌, true, false, List, [], ◌∷◌, ◌++◌, length, take, drop, Option, Some, None, is_some, Ok, refl, sym, ap, subst, ◌∙◌}
use Rattle.std.proofs.Common.{append_assoc, append-nil, arith, length-append, length-drop, drop_at, eqb-true}
use Rattle.std.proofs.lemmas.List.{take-append-le, drop-append-le, nil_from_length}
use Rattle.std.specs.Prelude.{◌==◌}
use Rattle.sealing.specs.declared.fault.SealFault.{SealFault}
use Rattle.sealing.specs.declared.fault.SealFault.TheVariants.{BadLength, BadTag, Spent, Failed}
use Rattle.sealing.specs.declared.kind.Kind.TheVariants.{Frames, Beat}
use Rattle.sealing.specs.declared.opener.OpenedPiece.{OpenedPiece}
use Rattle.sealing.specs.Records.{tag_of, IsLength, IsBody, sealed, all_sealed, content}
use Rattle.sealing.specs.Streams.{said, body_in, tag_in, max_records, HasFault, Ending, Ends, ended, Opening, Opens, GoesOn}
use Rattle.sealing.specs.Steps.{AreTold}
use Rattle.sealing.proofs.RecordLemmas.{all_sealed-append, all_sealed-push, carried-push, all_good-append}

-- ---- a fault stays as more bytes come

said-append : (bytes piece : List ℕ) → 2 ≤ length bytes → said (bytes ++ piece) ≡ said bytes
said-append [] piece long = absurd (omega arith)
said-append (a ∷ []) piece long = absurd (omega arith)
said-append (a ∷ b ∷ more) piece long = refl

fault_stays : (key : List ℕ) (count : ℕ) (fault : SealFault) (rest piece : List ℕ) → HasFault key count fault rest
    → HasFault key count fault (rest ++ piece)
fault_stays key count BadLength rest piece bad =
    let more = length-append rest piece in
    (bad.0, (omega (arith, bad.1.0, more), λ fits. bad.1.1 (subst IsLength (said-append rest piece bad.1.0) fits)))
fault_stays key count BadTag rest piece bad =
    let more = length-append rest piece in
    let same = said-append rest piece (omega (arith, bad.1.1.0)) in
    let two : drop 2 (rest ++ piece) ≡ drop 2 rest ++ piece = drop-append-le 2 rest piece (omega (arith, bad.1.1.0)) in
    let body : body_in (rest ++ piece) ≡ body_in rest =
    ap (λ (k : ℕ). take k (drop 2 (rest ++ piece))) same ∙ ap (take (said rest)) two
    ∙ take-append-le (said rest) (drop 2 rest) piece (omega (arith, bad.1.1.0, length-drop 2 rest)) in
    let tag : tag_in (rest ++ piece) ≡ tag_in rest =
    ap (λ (k : ℕ). take 16 (drop (2 + k) (rest ++ piece))) same
    ∙ ap (take 16) (drop-append-le (2 + said rest) rest piece (omega (arith, bad.1.1.0)))
    ∙ take-append-le 16 (drop (2 + said rest) rest) piece (omega (arith, bad.1.1.0, length-drop (2 + said rest) rest)) in (
      bad.0,
      (
        subst IsLength (sym same) bad.1.0,
        (
          omega (arith, bad.1.1.0, more, same),
          λ right. bad.1.1.1 (ap (tag_of key count) (sym body) ∙ right ∙ tag),
        ),
      ),
    )
fault_stays key count Spent rest piece bad = bad
fault_stays key count Failed rest piece bad = bad

-- ---- the records of some bytes

-- no record yet
pub none_told : (key : List ℕ) (first : ℕ) (bytes : List ℕ) → first ≤ max_records → AreTold key first bytes [] [] bytes first
none_told key first bytes few = record {
  bodies = [];
  parts = refl;
  frames_are = refl;
  beats_are = refl;
  good = tt;
  counts = omega arith;
  few = few;
}

-- one record more
pub one_more : (key : List ℕ) (first : ℕ) (bytes frames beats rest : List ℕ) (count : ℕ) (body behind : List ℕ)
    → AreTold key first bytes frames beats rest count → rest ≡ sealed key count body ++ behind → IsBody body → count < max_records
    → AreTold key first bytes (frames ++ content Frames body) (beats ++ content Beat body) behind (count + 1)
one_more key first bytes frames beats rest count body behind t is good few = record {
  bodies = t.bodies ++ body ∷ [];
  parts =
      t.parts ∙ ap (λ (l : List ℕ). all_sealed key first t.bodies ++ l) is
      ∙ ap (λ (c : ℕ). all_sealed key first t.bodies ++ (sealed key c body ++ behind)) t.counts
      ∙ sym (append_assoc (all_sealed key first t.bodies) (sealed key (first + length t.bodies) body) behind)
      ∙ ap (λ (l : List ℕ). l ++ behind) (all_sealed-push key [] first t.bodies body);
  frames_are = ap (λ (l : List ℕ). l ++ content Frames body) t.frames_are ∙ sym (carried-push Frames t.bodies body);
  beats_are = ap (λ (l : List ℕ). l ++ content Beat body) t.beats_are ∙ sym (carried-push Beat t.bodies body);
  good = all_good-append t.bodies (body ∷ []) t.good (good, tt);
  counts = omega (arith, t.counts, length-append t.bodies (body ∷ []));
  few = omega arith;
}

-- the last bytes, as many as the rest has, are the rest
pub left_is : (key : List ℕ) (first : ℕ) (bytes frames beats rest : List ℕ) (count : ℕ)
    → AreTold key first bytes frames beats rest count → drop (length bytes - length rest) bytes ≡ rest
left_is key first bytes frames beats rest count t =
    let len : length bytes ≡ length (all_sealed key first t.bodies) + length rest =
    ap length t.parts ∙ length-append (all_sealed key first t.bodies) rest in
    ap (λ (l : List ℕ). drop (length bytes - length rest) l) t.parts
    ∙ drop_at (all_sealed key first t.bodies) rest (length bytes - length rest) (omega (arith, len))

-- ---- a piece more

pub told_on : (stream piece begun : List ℕ) (bodies : List (List ℕ)) (old new : Opening) (opened : OpenedPiece) (rest : List ℕ)
    → old.ending ≡ Ok begun
    → AreTold old.key old.count (begun ++ piece) opened.frames.items opened.beats.items rest new.count
    → Ends old.key new.count rest new.ending → Opens old.key stream bodies old → GoesOn stream piece bodies old new opened
told_on stream piece begun bodies old new opened rest is t ends o = record {
  more = t.bodies;
  frames = t.frames_are;
  beats = t.beats_are;
  opens = record {
    rest = rest;
    parts =
        ap (λ (l : List ℕ). l ++ piece) (o.parts ∙ ap (λ (l : List ℕ). all_sealed old.key 0 bodies ++ l) begun_is)
        ∙ append_assoc (all_sealed old.key 0 bodies) begun piece
        ∙ ap (λ (l : List ℕ). all_sealed old.key 0 bodies ++ l) t.parts
        ∙ ap (λ (c : ℕ). all_sealed old.key 0 bodies ++ (all_sealed old.key c t.bodies ++ rest)) {x = old.count} {y = 0 + length bodies} (omega (arith, o.count))
        ∙ sym (append_assoc (all_sealed old.key 0 bodies) (all_sealed old.key (0 + length bodies) t.bodies) rest)
        ∙ ap (λ (l : List ℕ). l ++ rest) (sym (all_sealed-append old.key 0 bodies t.bodies));
    good = all_good-append bodies t.bodies o.good t.good;
    few = omega (arith, all, t.few);
    count = all;
    ends = subst (λ (c : ℕ). Ends old.key c rest new.ending) all ends;
  };
}
  where
    all : new.count ≡ length (bodies ++ t.bodies)
    all = omega (arith, t.counts, o.count, length-append bodies t.bodies)

    at_begun : Ends old.key (length bodies) o.rest (Ok begun)
    at_begun = subst (λ (e : Ending). Ends old.key (length bodies) o.rest e) is o.ends

    begun_is : o.rest ≡ begun
    begun_is = at_begun.0

-- nothing more is told after a fault
pub failed_on : (stream piece : List ℕ) (bodies : List (List ℕ)) (held : List ℕ) (fault : Option SealFault) (old : Opening) (opened : OpenedPiece)
    → ended held fault ≡ old.ending → is_some fault ≡ true → opened.frames.items ≡ [] → opened.beats.items ≡ []
    → Opens old.key stream bodies old → GoesOn stream piece bodies old old opened
failed_on stream piece bodies held None old opened is some no_frames no_beats o = cc
failed_on stream piece bodies held (Some fault) old opened is some no_frames no_beats o = record {
  more = [];
  frames = no_frames;
  beats = no_beats;
  opens = record {
    rest = o.rest ++ piece;
    parts = ap (λ (l : List ℕ). l ++ piece) o.parts ∙ append_assoc (all_sealed old.key 0 bodies) o.rest piece
        ∙ ap (λ (b : List (List ℕ)). all_sealed old.key 0 b ++ (o.rest ++ piece)) (sym (append-nil bodies));
    good = all_good-append bodies [] o.good tt;
    few = subst (λ (b : List (List ℕ)). length b ≤ max_records) (sym (append-nil bodies)) o.few;
    count = o.count ∙ ap length (sym (append-nil bodies));
    ends =
        subst (λ (e : Ending). Ends old.key (length (bodies ++ [])) (o.rest ++ piece) e) is
        (subst (λ (b : List (List ℕ)). HasFault old.key (length b) fault (o.rest ++ piece)) (sym (append-nil bodies))
        (fault_stays old.key (length bodies) fault o.rest piece
        (subst (λ (e : Ending). Ends old.key (length bodies) o.rest e) (sym is) o.ends)));
  };
}

-- nothing more comes
pub same_on : (stream piece : List ℕ) (bodies : List (List ℕ)) (old : Opening) (opened : OpenedPiece) → (length piece == 0) ≡ true
    → opened.frames.items ≡ [] → opened.beats.items ≡ [] → Opens old.key stream bodies old → GoesOn stream piece bodies old old opened
same_on stream piece bodies old opened none no_frames no_beats o = record {
  more = [];
  frames = no_frames;
  beats = no_beats;
  opens =
      subst (λ (b : List (List ℕ)). Opens old.key (stream ++ piece) b old) (sym (append-nil bodies))
      (subst (λ (s : List ℕ). Opens old.key s bodies old)
      (sym (append-nil stream) ∙ ap (λ (p : List ℕ). stream ++ p) (sym (nil_from_length piece (eqb-true (length piece) 0 none)))) o);
}

pub none_is : (held : List ℕ) (fault : Option SealFault) → is_some fault ≡ false → ended held fault ≡ Ok held
none_is held None none = refl
none_is held (Some fault) none = cc
