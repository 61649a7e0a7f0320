-- What holds of every table holds of the one that a call leaves.
use Rattle.std.proofs.Common.{◌≡◌, ℕ, ◌+◌, ◌<◌, ◌≤◌, Bool, true, false, not, cond, if◌then◌else◌, ◌&&◌, ◌||◌, List, [], ◌∷◌, ◌++◌, length}
use Rattle.std.proofs.lemmas.Bool.{and_parts, or_left, or_parts}
use Rattle.std.proofs.Common.{map, filter, refl, sym, ap, ◌∙◌, arith}
use Rattle.std.proofs.Common.{is_none, subst, length-append}
use Rattle.std.proofs.lemmas.List.{length-map}
use Rattle.std.proofs.lemmas.List.Sums.{length-filter}
use Rattle.std.proofs.lemmas.List.Folds.{list_all-append}
use Rattle.std.specs.List.{list_any, list_all}
use Rattle.std.specs.Str.{bytes_eq}
use Rattle.rfccase.specs.Casemapping.{folded, is_same}
use Rattle.flagexpr.specs.Faults.{expression_fault}
use Rattle.procs.specs.declared.bind_kind.BindKind.{BindKind}
use Rattle.procs.specs.declared.bind.Bind.{Bind}
use Rattle.procs.specs.Kinds.{is_kind, is_single}
use Rattle.procs.specs.Tables.{Asked, is_bad_cron, is_bad_mask, is_such, is_replaced, count_left, without_replaced, with_flags}
use Rattle.procs.specs.declared.index.KindIndex.{KindIndex}
use Rattle.procs.specs.declared.limits.TheConstants.{MAX_BINDS}
use Rattle.procs.specs.Masks.{entry_of, key_of}
use Rattle.procs.specs.Index.{of_kind, AreIndexed}
use Rattle.procs.specs.Sound.{IsSound, AreRising, AreApart, is_rival, is_good}
use Rattle.std.proofs.Common.{zero, suc, take, get_or}
use Rattle.std.proofs.Math.Seq.{take-suc}
use Rattle.procs.proofs.OnceLemmas.{filter-none, list_any-at}
use Rattle.procs.proofs.ApartLemmas.{same_kind, is_kind-refl, swapped_texts}

-- ---- numbers

rising-above : (low high : ℕ) (binds : List Bind) (last : ℕ) → low ≤ high → AreRising high binds last → AreRising low binds last
rising-above low high [] last le up = omega arith
rising-above low high (b ∷ binds) last le up = (let h : high < b.number = up.0 in omega arith, up.1)

pub rising-filter : (p : Bind → Bool) (low : ℕ) (binds : List Bind) (last : ℕ) → AreRising low binds last → AreRising low (filter p binds) last
rising-filter p low [] last up = up
rising-filter p low (b ∷ binds) last up = by (p b) (rising-filter p b.number binds last up.1)
  where
    by : (c : Bool) → AreRising b.number (filter p binds) last → AreRising low (cond c (b ∷ filter p binds) (filter p binds)) last
    by true rest = (up.0, rest)
    by false rest = let h : low < b.number = up.0 in rising-above low b.number (filter p binds) last (omega arith) rest

pub rising-append : (low : ℕ) (binds : List Bind) (last : ℕ) (b : Bind) → AreRising low binds last → b.number ≡ last + 1
    → AreRising low (binds ++ b ∷ []) (last + 1)
rising-append low [] last b up e = (omega arith, omega arith)
rising-append low (x ∷ binds) last b up e = (up.0, rising-append x.number binds last b up.1 e)

pub rising-map : (f : Bind → Bind) → ((b : Bind) → (f b).number ≡ b.number) → (low : ℕ) (binds : List Bind) (last : ℕ) → AreRising low binds last
    → AreRising low (map f binds) last
rising-map f same low [] last up = up
rising-map f same low (b ∷ binds) last up =
    let number : (f b).number ≡ b.number = same b in
    let h : low < b.number = up.0 in
    (omega arith, rising-above (f b).number b.number (map f binds) last (omega arith) (rising-map f same b.number binds last up.1))

-- ---- no two stand for one

none-filter : (t p : Bind → Bool) (binds : List Bind) → list_any t binds ≡ false → list_any t (filter p binds) ≡ false
none-filter t p [] none = refl
none-filter t p (b ∷ binds) none =
    let parts = or_parts (t b) (list_any t binds) none in
    by (p b) parts.0 (none-filter t p binds parts.1)
  where
    by : (c : Bool) → t b ≡ false → list_any t (filter p binds) ≡ false → list_any t (cond c (b ∷ filter p binds) (filter p binds)) ≡ false
    by true here rest = ap (λ x. x || list_any t (filter p binds)) here ∙ rest
    by false here rest = rest

pub apart-filter : (p : Bind → Bool) (binds : List Bind) → AreApart binds → AreApart (filter p binds)
apart-filter p [] apart = tt
apart-filter p (b ∷ binds) apart = by (p b) (none-filter (is_rival b) p binds apart.0) (apart-filter p binds apart.1)
  where
    by : (c : Bool) → list_any (is_rival b) (filter p binds) ≡ false → AreApart (filter p binds) → AreApart (cond c (b ∷ filter p binds) (filter p binds))
    by true none rest = (none, rest)
    by false none rest = rest

none-append : (t : Bind → Bool) (binds : List Bind) (b : Bind) → list_any t binds ≡ false → t b ≡ false → list_any t (binds ++ b ∷ []) ≡ false
none-append t [] b none fails = ap (λ x. x || false) fails
none-append t (x ∷ binds) b none fails =
    let parts = or_parts (t x) (list_any t binds) none in
    ap (λ y. y || list_any t (binds ++ b ∷ [])) parts.0 ∙ none-append t binds b parts.1 fails

pub apart-append : (binds : List Bind) (one : Bind) → AreApart binds → list_any (λ b. is_rival b one) binds ≡ false → AreApart (binds ++ one ∷ [])
apart-append [] one apart none = (refl, tt)
apart-append (b ∷ binds) one apart none =
    let parts = or_parts (is_rival b one) (list_any (λ x. is_rival x one) binds) none in
    (none-append (is_rival b) binds one apart.0 parts.0, apart-append binds one apart.1 parts.1)

pub apart-map : (f : Bind → Bind) → ((a b : Bind) → is_rival (f a) (f b) ≡ is_rival a b) → (binds : List Bind) → AreApart binds → AreApart (map f binds)
apart-map f same [] apart = tt
apart-map f same (b ∷ binds) apart = (any binds ∙ apart.0, apart-map f same binds apart.1)
  where
    any : (xs : List Bind) → list_any (is_rival (f b)) (map f xs) ≡ list_any (is_rival b) xs
    any [] = refl
    any (x ∷ xs) = ap (λ c. c || list_any (is_rival (f b)) (map f xs)) (same b x) ∙ ap (λ c. is_rival b x || c) (any xs)

all_three : (a b c : Bool) → a ≡ true → b ≡ true → c ≡ true → (a && (b && c)) ≡ true
all_three true true true p q r = refl
all_three true true false p q r = absurd cc
all_three true false c p q r = absurd cc
all_three false b c p q r = absurd cc

-- a bind that is neither such nor replaced is no rival
no_rival : (one b : Bind) → is_such one.kind one.mask one.proc b ≡ false → is_replaced one.kind one.mask b ≡ false → is_rival b one ≡ false
no_rival one b other stays = by (is_rival b one) refl
  where
    rival : is_rival b one ≡ true → (r : Bool) → is_single b.kind ≡ r → (is_single b.kind || bytes_eq b.proc one.proc) ≡ true → is_kind b.kind one.kind ≡ true
        → is_same b.mask one.mask ≡ true → ⊥
    rival e true single proc kind mask =
        let same : b.kind ≡ one.kind = same_kind b.kind one.kind kind in
        let here = all_three (is_single one.kind) (is_kind one.kind b.kind) (is_same one.mask b.mask) (ap is_single (sym same) ∙ single)
        (ap (is_kind one.kind) same ∙ is_kind-refl one.kind) (swapped_texts b.mask one.mask mask) in
        cc
    rival e false many proc kind mask =
        let same : b.kind ≡ one.kind = same_kind b.kind one.kind kind in
        let equal : bytes_eq b.proc one.proc ≡ true = ap (λ s. s || bytes_eq b.proc one.proc) (sym many) ∙ proc in
        let here = all_three (is_kind one.kind b.kind) (is_same one.mask b.mask) (bytes_eq b.proc one.proc)
        (ap (is_kind one.kind) same ∙ is_kind-refl one.kind) (swapped_texts b.mask one.mask mask) equal in
        cc

    by : (r : Bool) → is_rival b one ≡ r → r ≡ false
    by true e =
        let first = and_parts (is_kind b.kind one.kind) (is_same b.mask one.mask && (is_single b.kind || bytes_eq b.proc one.proc)) e in
        let second = and_parts (is_same b.mask one.mask) (is_single b.kind || bytes_eq b.proc one.proc) first.1 in
        absurd (rival e (is_single b.kind) refl second.1 first.0 second.0)
    by false e = refl

none-rival : (one : Bind) (binds : List Bind) → list_any (is_such one.kind one.mask one.proc) binds ≡ false
    → list_any (λ b. is_rival b one) (without_replaced one.kind one.mask binds) ≡ false
none-rival one [] none = refl
none-rival one (b ∷ binds) none =
    let parts = or_parts (is_such one.kind one.mask one.proc b) (list_any (is_such one.kind one.mask one.proc) binds) none in
    by (is_replaced one.kind one.mask b) (λ stays. no_rival one b parts.0 stays) (none-rival one binds parts.1)
  where
    by : (c : Bool) → (c ≡ false → is_rival b one ≡ false) → list_any (λ x. is_rival x one) (without_replaced one.kind one.mask binds) ≡ false
        → list_any (λ x. is_rival x one) (cond (not c) (b ∷ without_replaced one.kind one.mask binds) (without_replaced one.kind one.mask binds)) ≡ false
    by true here rest = rest
    by false here rest = ap (λ x. x || list_any (λ y. is_rival y one) (without_replaced one.kind one.mask binds)) (here refl) ∙ rest

pub apart-new : (one : Bind) (binds : List Bind) → AreApart binds → list_any (is_such one.kind one.mask one.proc) binds ≡ false
    → AreApart (without_replaced one.kind one.mask binds ++ one ∷ [])
apart-new one binds apart none =
    apart-append (without_replaced one.kind one.mask binds) one (apart-filter (λ b. not (is_replaced one.kind one.mask b)) binds apart)
    (none-rival one binds none)

-- ---- each could be made

pub good-filter : (p : Bind → Bool) (binds : List Bind) → list_all is_good binds ≡ true → list_all is_good (filter p binds) ≡ true
good-filter p [] good = refl
good-filter p (b ∷ binds) good =
    let parts = and_parts (is_good b) (list_all is_good binds) good in
    by (p b) parts.0 (good-filter p binds parts.1)
  where
    by : (c : Bool) → is_good b ≡ true → list_all is_good (filter p binds) ≡ true → list_all is_good (cond c (b ∷ filter p binds) (filter p binds)) ≡ true
    by true here rest = ap (λ x. x && list_all is_good (filter p binds)) here ∙ rest
    by false here rest = rest

pub good-append : (binds : List Bind) (one : Bind) → list_all is_good binds ≡ true → is_good one ≡ true → list_all is_good (binds ++ one ∷ []) ≡ true
good-append binds one good here =
    list_all-append is_good binds (one ∷ []) ∙ ap (λ x. x && (is_good one && true)) good ∙ ap (λ x. x && true) here

pub good-map : (f : Bind → Bind) → ((b : Bind) → is_good b ≡ true → is_good (f b) ≡ true) → (binds : List Bind) → list_all is_good binds ≡ true
    → list_all is_good (map f binds) ≡ true
good-map f keeps [] good = refl
good-map f keeps (b ∷ binds) good =
    let parts = and_parts (is_good b) (list_all is_good binds) good in
    ap (λ x. x && list_all is_good (map f binds)) (keeps b parts.0) ∙ good-map f keeps binds parts.1

-- ---- few

pub few-filter : (p : Bind → Bool) (binds : List Bind) → length (filter p binds) ≤ length binds
few-filter p [] = omega arith
few-filter p (b ∷ binds) = by (p b) (few-filter p binds)
  where
    by : (c : Bool) → length (filter p binds) ≤ length binds → length (cond c (b ∷ filter p binds) (filter p binds)) ≤ length (b ∷ binds)
    by true h = omega arith
    by false h = omega arith

-- ---- the tables that calls leave

-- without some
pub sound-filter : (p : Bind → Bool) (binds : List Bind) (last : ℕ) → IsSound (record { binds = binds; last = last })
    → IsSound (record { binds = filter p binds; last = last })
sound-filter p binds last sound =
    record {
      rising = rising-filter p 0 binds last sound.rising;
      apart = apart-filter p binds sound.apart;
      good = good-filter p binds sound.good;
      few = let h : length binds ≤ MAX_BINDS = sound.few in omega (arith, few-filter p binds);
    }

-- with one that is new
pub sound-new : (binds new : List Bind) (last next : ℕ) (one : Bind) → IsSound (record { binds = binds; last = last })
    → new ≡ without_replaced one.kind one.mask binds ++ one ∷ [] → next ≡ last + 1 → one.number ≡ last + 1
    → is_good one ≡ true → list_any (is_such one.kind one.mask one.proc) binds ≡ false → count_left one.kind one.mask binds < MAX_BINDS
    → IsSound (record { binds = new; last = next })
sound-new binds new last next one sound is_new is_next number good free room =
    subst (λ bs. IsSound (record { binds = bs; last = next })) (sym is_new)
    (subst (λ n. IsSound (record { binds = without_replaced one.kind one.mask binds ++ one ∷ []; last = n })) (sym is_next)
    (record {
      rising = rising-append 0 (without_replaced one.kind one.mask binds) last one (rising-filter (λ b. not (is_replaced one.kind one.mask b)) 0
          binds last sound.rising) number;
      apart = apart-new one binds sound.apart free;
      good = good-append (without_replaced one.kind one.mask binds) one (good-filter (λ b. not (is_replaced one.kind one.mask b)) binds sound.good) good;
      few = omega (
        arith,
        length-append (without_replaced one.kind one.mask binds) (one ∷ []),
        length-filter (λ b. not (is_replaced one.kind
            one.mask b)) binds,
      );
    }))

-- with other flags
module _ (asked : Asked) where
  same_parts : (b : Bind) → ((with_flags asked b).number ≡ b.number) × ((with_flags asked b).kind ≡ b.kind) × ((with_flags asked b).mask ≡ b.mask)
      × ((with_flags asked b).proc ≡ b.proc)
  same_parts b = by (is_such asked.kind asked.mask asked.proc b)
    where
      by : (c : Bool) → let f : Bind = (if c then record b { flags = asked.flags } else b) in (f.number ≡ b.number) × (f.kind
          ≡ b.kind) × (f.mask ≡ b.mask) × (f.proc ≡ b.proc)
      by true = (refl, refl, refl, refl)
      by false = (refl, refl, refl, refl)

  same_rivals : (a b : Bind) → is_rival (with_flags asked a) (with_flags asked b) ≡ is_rival a b
  same_rivals a b =
      let p = same_parts a in
      let q = same_parts b in
      λ i. is_kind (p.1 i) (q.1 i) && (is_same (p.2 i) (q.2 i) && (is_single (p.1 i) || bytes_eq (p.3 i) (q.3 i)))

  good_still : is_none (expression_fault asked.flags) ≡ true → (b : Bind) → is_good b ≡ true → is_good (with_flags asked b) ≡ true
  good_still parses b = by (is_such asked.kind asked.mask asked.proc b)
    where
      by : (c : Bool) → is_good b ≡ true → is_good (if c then record b { flags = asked.flags } else b) ≡ true
      by true good =
          ap (λ x. x && not (is_bad_mask b.kind b.mask || is_bad_cron b.kind b.mask)) parses
          ∙ (and_parts (is_none (expression_fault b.flags)) (not (is_bad_mask b.kind b.mask || is_bad_cron b.kind b.mask)) good).1
      by false good = good

  pub sound-flags : (binds new : List Bind) (last : ℕ) → is_none (expression_fault asked.flags) ≡ true → IsSound (record { binds = binds; last = last })
      → new ≡ map (with_flags asked) binds → IsSound (record { binds = new; last = last })
  sound-flags binds new last parses sound is_new =
      subst (λ bs. IsSound (record { binds = bs; last = last })) (sym is_new)
      (record {
        rising = rising-map (with_flags asked) (λ b. (same_parts b).0) 0 binds last sound.rising;
        apart = apart-map (with_flags asked) same_rivals binds sound.apart;
        good = good-map (with_flags asked) (good_still parses) binds sound.good;
        few = let h : length binds ≤ MAX_BINDS = sound.few in omega (arith, length-map binds (with_flags asked));
      })

  -- and with the same entries and keywords
  same_entry : (b : Bind) → entry_of (with_flags asked b) ≡ entry_of b
  same_entry b = by (is_such asked.kind asked.mask asked.proc b)
    where
      by : (c : Bool) → entry_of (if c then record b { flags = asked.flags } else b) ≡ entry_of b
      by true = refl
      by false = refl

  same_of_kind : {X : Type 0} (f : Bind → X) → ((b : Bind) → f (with_flags asked b) ≡ f b) → (kind : BindKind) (binds : List Bind)
      → map f (of_kind kind (map (with_flags asked) binds)) ≡ map f (of_kind kind binds)
  same_of_kind f same kind [] = refl
  same_of_kind f same kind (b ∷ binds) =
      by (same b) (is_kind kind (with_flags asked b).kind) (is_kind kind b.kind) (ap (is_kind kind) (same_parts b).1) (same_of_kind f same kind binds)
    where
      by : f (with_flags asked b) ≡ f b → (c d : Bool) → c ≡ d
          → map f (of_kind kind (map (with_flags asked) binds)) ≡ map f (of_kind kind binds)
          → map f (cond c (with_flags asked b ∷ of_kind kind (map (with_flags asked) binds)) (of_kind kind (map (with_flags asked) binds)))
          ≡ map f (cond d (b ∷ of_kind kind binds) (of_kind kind binds))
      by here true true e rest = λ i. here i ∷ rest i
      by here false false e rest = rest
      by here true false e rest = absurd cc
      by here false true e rest = absurd cc

  pub indexed-flags : (binds new : List Bind) (indexes : List KindIndex) → AreIndexed binds indexes → new ≡ map (with_flags asked) binds
      → AreIndexed new indexes
  indexed-flags binds new indexes indexed is_new kind index found =
      let is = indexed kind index found in
      record {
        entries = is.entries ∙ sym (ap (λ bs. map entry_of (of_kind kind bs)) is_new ∙ same_of_kind entry_of same_entry kind binds);
        words =
            is.words
            ∙ ap (λ ws. if is_single kind then ws else [])
            (sym (ap (λ bs. map key_of (of_kind kind bs)) is_new ∙ same_of_kind key_of (λ b. ap folded (same_parts b).2) kind binds));
      }

-- ---- a copy, bind by bind

pub apart-take : (n : ℕ) (binds : List Bind) → AreApart binds → AreApart (take n binds)
apart-take zero binds apart = tt
apart-take (suc n) [] apart = tt
apart-take (suc n) (b ∷ binds) apart = (none-take (is_rival b) n binds apart.0, apart-take n binds apart.1)
  where
    none-take : (t : Bind → Bool) (n : ℕ) (xs : List Bind) → list_any t xs ≡ false → list_any t (take n xs) ≡ false
    none-take t zero xs none = refl
    none-take t (suc n) [] none = refl
    none-take t (suc n) (x ∷ xs) none =
        let parts = or_parts (t x) (list_any t xs) none in
        ap (λ c. c || list_any t (take n xs)) parts.0 ∙ none-take t n xs parts.1

-- a bind replaces none of those before it
stays_before : (n : ℕ) (binds : List Bind) (one : Bind) → AreApart binds → n < length binds → one ≡ get_or binds n one
    → list_any (is_replaced one.kind one.mask) (take n binds) ≡ false
stays_before n [] one apart within is = absurd (omega arith)
stays_before zero (b ∷ binds) one apart within is = refl
stays_before (suc n) (b ∷ binds) one apart within is =
    ap (λ c. c || list_any (is_replaced one.kind one.mask) (take n binds)) (by (is_replaced one.kind one.mask b) refl)
    ∙ stays_before n binds one apart.1 (omega arith) is
  where
    by : (c : Bool) → is_replaced one.kind one.mask b ≡ c → c ≡ false
    by true e =
        let first = and_parts (is_single one.kind) (is_kind one.kind b.kind && is_same one.mask b.mask) e in
        let second = and_parts (is_kind one.kind b.kind) (is_same one.mask b.mask) first.1 in
        let same : one.kind ≡ b.kind = same_kind one.kind b.kind second.0 in
        let rival : is_rival b one ≡ true =
        λ i. (ap (is_kind b.kind) same ∙ is_kind-refl b.kind) i
        && (swapped_texts one.mask b.mask second.1 i && or_left (is_single b.kind) (bytes_eq b.proc one.proc) (ap is_single (sym same) ∙ first.0) i) in
        let some = list_any-at (is_rival b) binds n one (omega arith) (ap (is_rival b) (sym is) ∙ rival) in
        let none = apart.0 in
        absurd cc
    by false e = refl

-- so with it put last there is one more of them
pub put-copy : (n : ℕ) (binds copies new : List Bind) (one twin : Bind) → AreApart binds → n < length binds → one ≡ get_or binds n one → twin ≡ one
    → copies ≡ take n binds → new ≡ without_replaced twin.kind twin.mask copies ++ twin ∷ [] → new ≡ take (n + 1) binds
put-copy n binds copies new one twin apart within is same so_far is_new =
    let before : without_replaced one.kind one.mask (take n binds) ≡ take n binds =
    filter-none (is_replaced one.kind one.mask) (take n binds) (stays_before n binds one apart within is) in
    is_new ∙ (λ i. without_replaced (same i).kind (same i).mask (so_far i) ++ same i ∷ [])
    ∙ ap (λ bs. bs ++ one ∷ []) before ∙ ap (λ (b : Bind). take n binds ++ b ∷ []) is ∙ sym (take-more n binds one within)
  where
    take-more : (n : ℕ) (xs : List Bind) (d : Bind) → n < length xs → take (n + 1) xs ≡ take n xs ++ get_or xs n d ∷ []
    take-more n xs d within = ap (λ k. take k xs) (let e : n + 1 ≡ suc n = omega arith in e) ∙ take-suc xs n d within

pub take-all : {X : Type 0} (n : ℕ) (xs : List X) → length xs ≤ n → take n xs ≡ xs
take-all zero [] le = refl
take-all zero (x ∷ xs) le = absurd (omega arith)
take-all (suc n) [] le = refl
take-all (suc n) (x ∷ xs) le = ap (λ ys. x ∷ ys) (take-all n xs (omega arith))

-- no binds are sound
pub sound-none : IsSound (record { binds = []; last = 0 })
sound-none = record { rising = omega arith; apart = tt; good = refl; few = omega arith }
