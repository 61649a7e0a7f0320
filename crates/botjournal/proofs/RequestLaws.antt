-- The requests that are out in each layout: what is read is spelled so, and what is spelled so is read.
use Rattle.std.proofs.Common.{◌≡◌, ℕ, ◌^◌, ◌<◌, nat_le, true, eqb, List, [], ◌∷◌, ◌++◌, length, Option, Some, None, Ok, Err, refl, sym, ap, subst, ◌∙◌, inl, inr, arith}
use Rattle.std.specs.Int.{w32}
use Rattle.std.specs.List.{AllByRecursion}
use Rattle.std.proofs.lemmas.Bool.{eqb-true}
use Rattle.std.proofs.lemmas.Bool.Decides.{nat_tests}
use Rattle.userfile.specs.declared.change.Change.{Change}
use Rattle.usercodec.specs.declared.fault.CodecFault.TheVariants.{NotCanonical}
use Rattle.usercodec.specs.Fields.{number, counted, Reading, byte_at, number_at}
use Rattle.usercodec.specs.Changes.{both, made, change_bytes}
use Rattle.usercodec.proofs.Steps.{IsBytes, chosen, bind_ok, ok_is, Takes}
use Rattle.usercodec.proofs.PartLaws.{IsPart, checked_part, made_part, both_part}
use Rattle.usercodec.proofs.ReaderLaws.{byte_part, u32_part}
use Rattle.usercodec.proofs.ItemLaws.{counted_part}
use Rattle.botjournal.specs.declared.TheConstants.{WINDOW}
use Rattle.botjournal.specs.declared.request.Request.{Request}
use Rattle.botjournal.specs.declared.layouts.Layout.{Layout}
use Rattle.botjournal.specs.declared.layouts.Layout.TheVariants.{First, Second, Third, Fourth}
use Rattle.botjournal.specs.Layouts.{IsGoodChangeBy, change_by}
use Rattle.botjournal.specs.Bases.{request_bytes, one_out_bytes, out_bytes_by, are_out, IsGoodRequestBy, AreWindow, IsOneOut, AreOutBy}
use Rattle.botjournal.specs.Bases.{change_out_from, change_out_at, one_out, one_out_at, request_at, requests_listed_at, window_at, out_at}
use Rattle.botjournal.proofs.LayoutLaws.{change_part_by}
use Rattle.botjournal.proofs.WindowLaws.{out_few}

-- ---- the change that is out in an older layout

abbrev change_out_bytes : Option Change → List ℕ
change_out_bytes None = 0 ∷ []
change_out_bytes (Some change) = 1 ∷ change_bytes change

abbrev IsGoodChangeOut : Layout → Option Change → Type 0
IsGoodChangeOut layout None = Unit {0}
IsGoodChangeOut layout (Some change) = IsGoodChangeBy layout change

no_out : (x : Option Change) (rest : List ℕ) → (let r : Reading (Option Change) = Err NotCanonical in r) ≡ Ok (x, rest) → ⊥
no_out x rest e = cc

abbrev some_change : Change → Option Change
some_change change = Some change

abbrev none_out : Option Change
none_out = None

change_out_part : (layout : Layout) → IsPart (change_out_at layout) change_out_bytes (IsGoodChangeOut layout)
unfolding change_out_at change_out_from byte_at
change_out_part layout = record { takes = takes; again = again }
  where
    from_takes : (byte : ℕ) (bytes : List ℕ) (x : Option Change) (rest : List ℕ) → IsBytes bytes → change_out_from layout byte bytes ≡ Ok (x, rest)
        → Takes (byte ∷ bytes) (change_out_bytes x) rest × IsGoodChangeOut layout x
    from_takes byte bytes x rest fits e =
        elim (chosen (eqb byte 0) _ _ _ e) [
          | inl p ↦
              let parts : byte ∷ bytes ≡ (0 ∷ []) ++ bytes = ap (λ (k : ℕ). k ∷ bytes) (eqb-true byte 0 p.0) in
              subst (λ (q : Option Change × List ℕ). Takes (byte ∷ bytes) (change_out_bytes q.0) q.1 × IsGoodChangeOut layout q.0) (ok_is (none_out, bytes) (x, rest) p.1)
              (record { parts = parts; rest_fits = fits }, tt)
          | inr p ↦
              elim (chosen (eqb byte 1) _ _ _ p.1) [
                | inl p ↦
                    let a = bind_ok (change_by layout bytes) (λ c. Ok (some_change c.0, c.1)) (x, rest) p.1 in
                    let t = (change_part_by layout).takes bytes a.0.0 a.0.1 fits a.1 in
                    let parts : byte ∷ bytes ≡ (1 ∷ change_bytes a.0.0) ++ a.0.1 =
                    ap (λ (k : ℕ). k ∷ bytes) (eqb-true byte 1 p.0) ∙ ap (λ (b : List ℕ). 1 ∷ b) t.0.parts in
                    subst (λ (q : Option Change × List ℕ). Takes (byte ∷ bytes) (change_out_bytes q.0) q.1 × IsGoodChangeOut layout q.0)
                    (ok_is (some_change a.0.0, a.0.1) (x, rest) a.2)
                    (record { parts = parts; rest_fits = t.0.rest_fits }, t.1)
                | inr p ↦ absurd (no_out x rest p.1)
              ]
        ]

    takes : (bytes : List ℕ) (x : Option Change) (rest : List ℕ) → IsBytes bytes → change_out_at layout bytes ≡ Ok (x, rest)
        → Takes bytes (change_out_bytes x) rest × IsGoodChangeOut layout x
    takes bytes x rest fits e =
        let a = bind_ok (byte_at bytes) (λ byte. change_out_from layout byte.0 byte.1) (x, rest) e in
        let t = byte_part.takes bytes a.0.0 a.0.1 fits a.1 in
        let u = from_takes a.0.0 a.0.1 x rest t.0.rest_fits a.2 in
        (record { parts = t.0.parts ∙ u.0.parts; rest_fits = u.0.rest_fits }, u.1)

    again : (x : Option Change) (rest : List ℕ) → IsGoodChangeOut layout x → change_out_at layout (change_out_bytes x ++ rest) ≡ Ok (x, rest)
    again None rest good = refl
    again (Some change) rest good = ap (made some_change) ((change_part_by layout).again change rest good)

-- ---- the one request of an older layout

abbrev numbered : ℕ × Option Change → ℕ × List Request
numbered x = (x.0, one_out x.0 x.1)

one_out_part : (layout : Layout) → IsPart (one_out_at layout) (λ x. number w32 x.0 ++ one_out_bytes x.1) (λ x. (x.0 < 2 ^ 32) × IsOneOut layout x.0 x.1)
unfolding one_out_at
one_out_part layout = record { takes = takes; again = again }
  where
    part : IsPart (both (number_at w32) (change_out_at layout)) (λ x. number w32 x.0 ++ change_out_bytes x.1)
        (λ x. (x.0 < 2 ^ 32) × IsGoodChangeOut layout x.1)
    part = both_part u32_part (change_out_part layout)

    spelled : (last : ℕ) (change : Option Change) → one_out_bytes (one_out last change) ≡ change_out_bytes change
    spelled last None = refl
    spelled last (Some change) = refl

    good_one : (last : ℕ) (change : Option Change) → IsGoodChangeOut layout change → IsOneOut layout last (one_out last change)
    good_one last None good = tt
    good_one last (Some change) good = (refl, good)

    takes : (bytes : List ℕ) (x : ℕ × List Request) (rest : List ℕ) → IsBytes bytes → one_out_at layout bytes ≡ Ok (x, rest)
        → Takes bytes (number w32 x.0 ++ one_out_bytes x.1) rest × ((x.0 < 2 ^ 32) × IsOneOut layout x.0 x.1)
    takes bytes x rest fits e =
        let a = bind_ok (both (number_at w32) (change_out_at layout) bytes) (λ y. Ok (numbered y.0, y.1)) (x, rest) e in
        let t = part.takes bytes a.0.0 a.0.1 fits a.1 in
        let took : Takes bytes (number w32 a.0.0.0 ++ one_out_bytes (one_out a.0.0.0 a.0.0.1)) a.0.1 =
        subst (λ (b : List ℕ). Takes bytes (number w32 a.0.0.0 ++ b) a.0.1) (sym (spelled a.0.0.0 a.0.0.1)) t.0 in
        subst (λ (p : (ℕ × List Request) × List ℕ). Takes bytes (number w32 p.0.0 ++ one_out_bytes p.0.1) p.1 × ((p.0.0 < 2 ^ 32) × IsOneOut layout p.0.0 p.0.1))
        (ok_is (numbered a.0.0, a.0.1) (x, rest) a.2) (took, (t.1.0, good_one a.0.0.0 a.0.0.1 t.1.1))

    again_by : (last : ℕ) (requests : List Request) (rest : List ℕ) → last < 2 ^ 32 → IsOneOut layout last requests
        → one_out_at layout ((number w32 last ++ one_out_bytes requests) ++ rest) ≡ Ok ((last, requests), rest)
    again_by last [] rest small good = ap (made numbered) (part.again (last, None) rest (small, tt))
    again_by last (request ∷ []) rest small good =
        ap (made numbered) (part.again (last, Some request.change) rest (small, good.1))
        ∙ ap (λ (n : ℕ). Ok ((last, record { number = n; change = request.change } ∷ []), rest)) (sym good.0)
    again_by last (request ∷ other ∷ more) rest small good = absurd good

    again : (x : ℕ × List Request) (rest : List ℕ) → (x.0 < 2 ^ 32) × IsOneOut layout x.0 x.1
        → one_out_at layout ((number w32 x.0 ++ one_out_bytes x.1) ++ rest) ≡ Ok (x, rest)
    again x rest good = again_by x.0 x.1 rest good.0 good.1

-- ---- the requests from layout 3 on

request_part : (layout : Layout) → IsPart (request_at layout) request_bytes (IsGoodRequestBy layout)
unfolding request_at
request_part layout =
    made_part (both_part u32_part (change_part_by layout)) (λ x. record { number = x.0; change = x.1 }) (λ y. (y.number, y.change)) (λ y. refl) request_bytes (λ x. refl)
    (λ y. refl) (IsGoodRequestBy layout) (λ x g. g) (λ y g. g)

requests_part : (layout : Layout) → IsPart (requests_listed_at layout) (counted request_bytes)
    (λ requests. (nat_le (length requests) WINDOW ≡ true) × AllByRecursion (IsGoodRequestBy layout) requests)
unfolding requests_listed_at
requests_part layout = counted_part (request_part layout) WINDOW (omega arith)

-- one that passes the test has few enough for the count
window_part : (layout : Layout) → IsPart (window_at layout) (λ x. number w32 x.0 ++ counted request_bytes x.1)
    (λ x. (x.0 < 2 ^ 32) × AreWindow layout x.0 x.1)
unfolding window_at
window_part layout = record {
  takes = λ bytes x rest fits e. (let t = part.takes bytes x rest fits e in (t.0, (t.1.0.0, (t.1.0.1.1, t.1.1))));
  again = λ x rest good. part.again x rest ((good.0, (few x.0 x.1 good.1.1, good.1.0)), good.1.1);
}
  where
    part : IsPart (window_at layout) (λ x. number w32 x.0 ++ counted request_bytes x.1)
        (λ x. ((x.0 < 2 ^ 32) × ((nat_le (length x.1) WINDOW ≡ true) × AllByRecursion (IsGoodRequestBy layout) x.1)) × (are_out x.0 x.1 ≡ true))
    part = checked_part (both_part u32_part (requests_part layout)) (λ x. are_out x.0 x.1)

    few : (last : ℕ) (requests : List Request) → are_out last requests ≡ true → nat_le (length requests) WINDOW ≡ true
    few last requests out = let is_few = out_few last requests out in grind (arith, nat_tests)

-- ---- in each layout

pub out_part : (layout : Layout) → IsPart (out_at layout) (λ x. number w32 x.0 ++ out_bytes_by layout x.1) (λ x. (x.0 < 2 ^ 32) × AreOutBy layout x.0 x.1)
out_part First = one_out_part First
out_part Second = one_out_part Second
out_part Third = window_part Third
out_part Fourth = window_part Fourth
