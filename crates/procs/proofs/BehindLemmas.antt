-- The binds behind entries: how they are found, and which of them an event calls.
use Rattle.std.proofs.Common.{◌≡◌, ℕ, zero, suc, ◌<◌, ◌≤◌, ◌==◌, Bool, true, false, cond, ◌&&◌, List, [], ◌∷◌, ◌++◌, length, map, take}
use Rattle.std.proofs.Common.{drop, filter, get_or, slice_get, Option, Some, None, Ordering, inl, inr, refl, sym, ap, subst, ◌∙◌, arith}
use Rattle.std.proofs.Common.{nat_cmp}
use Rattle.std.proofs.Common.{append_assoc}
use Rattle.std.proofs.lemmas.List.{append-nil}
use Rattle.std.proofs.Common.{◌⊎◌, Less, Equal, Greater}
use Rattle.std.specs.Ordering.{MatchOrdering, ordering_index}
use Rattle.std.specs.Cmp.{ranks}
use borrow.Author.Tests.{tests}
use Rattle.std.proofs.lemmas.Bool.{eqb-true, eq-eqb, ne_eqb, cases_lt, and_parts, or_parts}
use Rattle.std.proofs.lemmas.List.Folds.{list_any_none}
use Rattle.std.specs.List.{cons_option, list_any}
use Rattle.std.specs.List.Sorted.{IsNonDecreasingBy, IsPartitionPoint}
use Rattle.wildmask.specs.WideSignatures.{WidePairs, wide_text_signature, is_wide_within}
use Rattle.procs.specs.declared.bind.Bind.{Bind}
use Rattle.procs.specs.declared.index.IndexEntry.{IndexEntry}
use Rattle.procs.specs.Kinds.{is_kind}
use Rattle.procs.specs.Calls.{Occurrence, called, is_called, takes_event, takes_person, numbers_of}
use Rattle.procs.specs.Masks.{needs_of, entry_of}
use Rattle.procs.specs.Sound.{AreRising}
use Rattle.procs.specs.Behind.{AreKnown, HaveRisen, Tells, behind, bind_of}
use Rattle.bytetext.proofs.Lists.{find-none}
use Rattle.procs.proofs.OnceLemmas.{AtMostOnce, find-once}
use Rattle.procs.proofs.MaskLemmas.{takes_event-needs}

-- ---- one entry

-- a bind that needs what the subject lacks isn't called
pub not_needed : (event : Occurrence) (needs pairs : WidePairs) (o : Option Bind) → Tells needs o → pairs ≡ wide_text_signature event.subject → is_wide_within needs pairs ≡ false
    → None ≡ slice_get (called event (cons_option o [])) 0
not_needed event needs pairs None told is_pairs lacks = refl
not_needed event needs pairs (Some b) told is_pairs lacks = sym (ap (λ c. slice_get (cond c (b ∷ []) []) 0) (by (is_called event b) refl))
  where
    by : (c : Bool) → is_called event b ≡ c → c ≡ false
    by true e =
        let rest = and_parts (is_kind event.kind b.kind) (takes_event b event && takes_person b event) e in
        let text = and_parts (takes_event b event) (takes_person b event) rest.1 in
        let has : is_wide_within needs pairs ≡ true = ap (λ n. is_wide_within n pairs) told ∙ ap (is_wide_within (needs_of b)) is_pairs
        ∙ takes_event-needs b event text.0 in
        absurd cc
    by false e = refl

-- what one entry more comes to
pub behind-cons : (event : Occurrence) (binds : List Bind) (e : IndexEntry) (entries : List IndexEntry)
    → called event (behind binds (e ∷ entries)) ≡ called event (behind binds (e ∷ [])) ++ called event (behind binds entries)
behind-cons event binds e entries = by (bind_of e.number binds)
  where
    by : (o : Option Bind) → called event (cons_option o (behind binds entries)) ≡ called event (cons_option o []) ++ called event (behind binds entries)
    by None = refl
    by (Some b) = by_call (is_called event b)
      where
        by_call : (c : Bool) → cond c (b ∷ called event (behind binds entries)) (called event (behind binds entries))
            ≡ cond c (b ∷ []) [] ++ called event (behind binds entries)
        by_call true = refl
        by_call false = refl

-- one entry has one bind at most
pub behind-one : (event : Occurrence) (binds : List Bind) (e : IndexEntry) (o : Option Bind) → o ≡ slice_get (called event (behind binds (e ∷ []))) 0
    → called event (behind binds (e ∷ [])) ≡ cons_option o []
behind-one event binds e o is = by (bind_of e.number binds) is
  where
    by_call : (b : Bind) (c : Bool) → o ≡ slice_get (cond c (b ∷ []) []) 0 → cond c (b ∷ []) [] ≡ cons_option o []
    by_call b true e = sym (ap (λ (x : Option Bind). cons_option x []) e)
    by_call b false e = sym (ap (λ (x : Option Bind). cons_option x []) e)

    by : (p : Option Bind) → o ≡ slice_get (called event (cons_option p [])) 0 → called event (cons_option p []) ≡ cons_option o []
    by None e = sym (ap (λ (x : Option Bind). cons_option x []) e)
    by (Some b) e = by_call b (is_called event b) e

-- the first entry has been looked at
pub behind-next : (event : Occurrence) (binds : List Bind) (entries rest : List IndexEntry) (e : IndexEntry) (o : Option Bind) → entries ≡ e ∷ rest
    → o ≡ slice_get (called event (behind binds (e ∷ []))) 0
    → called event (behind binds entries) ≡ cons_option o [] ++ called event (behind binds rest)
behind-next event binds entries rest e o first is_o =
    ap (λ (es : List IndexEntry). called event (behind binds es)) first ∙ behind-cons event binds e rest
    ∙ ap (λ bs. bs ++ called event (behind binds rest)) (behind-one event binds e o is_o)

-- what is known of some entries is known of the first and of the rest
pub known-next : (binds : List Bind) (entries rest : List IndexEntry) (e : IndexEntry) → entries ≡ e ∷ rest → AreKnown binds entries → AreKnown binds (e ∷ rest)
known-next binds entries rest e first known = subst (AreKnown binds) first known

-- if the subject lacks what each of some entries needs, none of their binds is called
pub none-needed : (event : Occurrence) (binds : List Bind) (entries : List IndexEntry) → AreKnown binds entries
    → list_any (λ e. is_wide_within e.needs (wide_text_signature event.subject)) entries ≡ false → called event (behind binds entries) ≡ []
none-needed event binds [] known none = refl
none-needed event binds (e ∷ entries) known none =
    let pairs = wide_text_signature event.subject in
    let parts = or_parts (is_wide_within e.needs pairs) (list_any (λ (x : IndexEntry). is_wide_within x.needs pairs) entries) none in
    behind-next event binds (e ∷ entries) entries e None refl (not_needed event e.needs pairs (bind_of e.number binds) known.0 refl parts.0)
    ∙ none-needed event binds entries known.1 parts.1

-- ---- numbers that rise

rising-low : (low : ℕ) (binds : List Bind) (last : ℕ) → AreRising low binds last → (k : ℕ) (d : Bind) → k < length binds → low < (get_or binds k d).number
rising-low low [] last up k d within = absurd (omega arith)
rising-low low (b ∷ binds) last up zero d within = up.0
rising-low low (b ∷ binds) last up (suc k) d within =
    let first : low < b.number = up.0 in
    let later : b.number < (get_or binds k d).number = rising-low b.number binds last up.1 k d (omega arith) in
    omega arith

rising-at : (low : ℕ) (binds : List Bind) (last : ℕ) → AreRising low binds last → (i j : ℕ) (d : Bind) → i ≤ j → j < length binds
    → (get_or binds i d).number ≤ (get_or binds j d).number
rising-at low [] last up i j d le within = absurd (omega arith)
rising-at low (b ∷ binds) last up zero zero d le within = omega arith
rising-at low (b ∷ binds) last up zero (suc j) d le within = let h = rising-low b.number binds last up.1 j d (omega arith) in omega arith
rising-at low (b ∷ binds) last up (suc i) zero d le within = absurd (omega arith)
rising-at low (b ∷ binds) last up (suc i) (suc j) d le within = rising-at b.number binds last up.1 i j d (omega arith) (omega arith)

once-number : (n low : ℕ) (binds : List Bind) (last : ℕ) → AreRising low binds last → AtMostOnce (λ b. b.number == n) binds
once-number n low [] last up = tt
once-number n low (b ∷ binds) last up = (
  λ here.
      let is : b.number ≡ n = eqb-true b.number n here in
      list_any_none (λ x. x.number == n) binds (λ k d within.
      let later : b.number < (get_or binds k d).number = rising-low b.number binds last up.1 k d within in
      ne_eqb (get_or binds k d).number n (λ same. absurd (omega arith))),
  once-number n b.number binds last up.1,
)

-- ---- a binary search for a number

ranked : (x n : ℕ) (o : Ordering) → nat_cmp x n ≡ o → MatchOrdering o (x < n) (x ≡ n) (n < x)
ranked x n o e = subst (λ p. MatchOrdering p (x < n) (x ≡ n) (n < x)) e (ranks x n)

pub searched-found : (binds : List Bind) → HaveRisen binds → (n at : ℕ) (b : Bind) → at < length binds
    → ((d : Bind) → nat_cmp (get_or binds at d).number n ≡ Equal) → b ≡ get_or binds at b → Some b ≡ bind_of n binds
searched-found binds risen n at b within equal is =
    let number : (get_or binds at b).number ≡ n = ranked (get_or binds at b).number n Equal (equal b) in
    ap Some is ∙ sym (find-once (λ x. x.number == n) binds at b (once-number n 0 binds risen.0 risen.1) within (eq-eqb (get_or binds at b).number n number))

pub searched-none : (binds : List Bind) → HaveRisen binds → (n i : ℕ)
    → (IsNonDecreasingBy (λ (y : Bind). ordering_index (nat_cmp y.number n)) binds
    → IsPartitionPoint (λ (y : Bind). nat_cmp y.number n ≡ Less) (λ (y : Bind). nat_cmp y.number n ≡ Greater) binds i)
    → None ≡ bind_of n binds
searched-none binds risen n i parted =
    let at = parted (λ a b d le within. higher (get_or binds a d).number (get_or binds b d).number (rising-at 0 binds risen.0 risen.1 a b d le within)) in
    sym (find-none (λ x. x.number == n) binds (list_any_none (λ x. x.number == n) binds (λ k d within.
    ne_eqb (get_or binds k d).number n (apart k d within at (cases_lt k i)))))
  where
    higher : (a b : ℕ) → a ≤ b → ordering_index (nat_cmp a n) ≤ ordering_index (nat_cmp b n)
    higher a b le = grind (arith, tests)

    apart : (k : ℕ) (d : Bind) → k < length binds
        → IsPartitionPoint (λ (y : Bind). nat_cmp y.number n ≡ Less) (λ (y : Bind). nat_cmp y.number n ≡ Greater) binds i
        → (k < i) ⊎ (i ≤ k) → (get_or binds k d).number ≡ n → ⊥
    apart k d within at (inl before) same = let h : (get_or binds k d).number < n = ranked (get_or binds k d).number n Less (at.0 k d (omega
        arith) before) in omega arith
    apart k d within at (inr after) same = let h : n < (get_or binds k d).number = ranked (get_or binds k d).number n Greater (at.1 k d after
        within) in omega arith

-- ---- the entries of binds that are held

-- each of some binds is found by its number
abbrev pub AreFound : List Bind → List Bind → Type 0
AreFound binds [] = Unit {0}
AreFound binds (x ∷ xs) = (bind_of x.number binds ≡ Some x) × AreFound binds xs

pub found-filter : (binds : List Bind) (p : Bind → Bool) (xs : List Bind) → AreFound binds xs → AreFound binds (filter p xs)
found-filter binds p [] found = tt
found-filter binds p (x ∷ xs) found = by (p x) (found-filter binds p xs found.1)
  where
    by : (c : Bool) → AreFound binds (filter p xs) → AreFound binds (cond c (x ∷ filter p xs) (filter p xs))
    by true rest = (found.0, rest)
    by false rest = rest

pub found-take : (binds : List Bind) (n : ℕ) (xs : List Bind) → AreFound binds xs → AreFound binds (take n xs)
found-take binds zero xs found = tt
found-take binds (suc n) [] found = tt
found-take binds (suc n) (x ∷ xs) found = (found.0, found-take binds n xs found.1)

pub found-drop : (binds : List Bind) (n : ℕ) (xs : List Bind) → AreFound binds xs → AreFound binds (drop n xs)
found-drop binds zero xs found = found
found-drop binds (suc n) [] found = tt
found-drop binds (suc n) (x ∷ xs) found = found-drop binds n xs found.1

-- one before others that have greater numbers hides none of them
found-cons : (b : Bind) (binds xs : List Bind) → ((k : ℕ) (d : Bind) → k < length xs → b.number < (get_or xs k d).number) → AreFound binds xs
    → AreFound (b ∷ binds) xs
found-cons b binds [] above found = tt
found-cons b binds (x ∷ xs) above found =
    let first : b.number < x.number = above 0 x (omega arith) in
    let other : (b.number == x.number) ≡ false = ne_eqb b.number x.number (λ same. absurd (omega arith)) in
    (ap (λ c. cond c (Some b) (bind_of x.number binds)) other ∙ found.0, found-cons b binds xs (λ k d within. above (suc k) d (omega arith)) found.1)

pub found-all : (low : ℕ) (binds : List Bind) (last : ℕ) → AreRising low binds last → AreFound binds binds
found-all low [] last up = tt
found-all low (b ∷ binds) last up = (
  ap (λ c. cond c (Some b) (bind_of b.number binds)) (eq-eqb b.number b.number refl),
  found-cons b binds binds (rising-low b.number binds last up.1) (found-all b.number binds last up.1),
)

-- behind their entries are the binds, and the entries tell what is so
pub behind-entries : (binds xs : List Bind) → AreFound binds xs → behind binds (map entry_of xs) ≡ xs
behind-entries binds [] found = refl
behind-entries binds (x ∷ xs) found =
    ap (λ (o : Option Bind). cons_option o (behind binds (map entry_of xs))) found.0 ∙ ap (λ bs. x ∷ bs) (behind-entries binds xs found.1)

pub known-entries : (binds xs : List Bind) → AreFound binds xs → AreKnown binds (map entry_of xs)
known-entries binds [] found = tt
known-entries binds (x ∷ xs) found =
    (subst (λ (o : Option Bind). Tells (needs_of x) o) (sym found.0) refl, known-entries binds xs found.1)

-- ---- one after another

pub next-number : (all rest : List Bind) (b : Bind) (numbers more : List ℕ) → Some b ≡ slice_get all 0 → rest ≡ drop 1 all → more ≡ numbers ++ b.number ∷ []
    → more ++ numbers_of rest ≡ numbers ++ numbers_of all
next-number [] rest b numbers more first is_rest is_more = absurd cc
next-number (x ∷ xs) rest b numbers more first is_rest is_more =
    let same : b ≡ x = cc in
    ap (λ ns. ns ++ numbers_of rest) is_more ∙ ap (λ (bs : List Bind). (numbers ++ b.number ∷ []) ++ numbers_of bs) is_rest
    ∙ append_assoc numbers (b.number ∷ []) (numbers_of xs) ∙ ap (λ (y : Bind). numbers ++ y.number ∷ numbers_of xs) same

pub next-shorter : (all rest : List Bind) (b : Bind) → Some b ≡ slice_get all 0 → rest ≡ drop 1 all → length rest < length all
next-shorter [] rest b first is_rest = absurd cc
next-shorter (x ∷ xs) rest b first is_rest = let len : length rest ≡ length xs = ap length is_rest in omega arith

pub none-left : (all : List Bind) (numbers : List ℕ) → None ≡ slice_get all 0 → numbers ≡ numbers ++ numbers_of all
none-left [] numbers none = sym (append-nil numbers)
none-left (x ∷ xs) numbers none = absurd cc

-- where one is left, one is called
pub some-called : (left all : List Bind) (numbers : List ℕ) (b : Bind) → Some b ≡ slice_get left 0 → numbers ++ numbers_of left ≡ numbers_of all
    → 0 < length all
some-called [] all numbers b first whole = absurd cc
some-called (x ∷ left) (y ∷ all) numbers b first whole = omega arith
some-called (x ∷ left) [] [] b first whole = absurd cc
some-called (x ∷ left) [] (n ∷ numbers) b first whole = absurd cc
