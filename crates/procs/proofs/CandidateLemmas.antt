-- The entries that an index gives for an event are those of all binds that the event calls.
use Rattle.std.proofs.Common.{◌≡◌, ℕ, zero, suc, ◌<◌, ◌≤◌, ◌==◌, Bool, true, false, not, cond, ◌&&◌, ◌||◌, if◌then◌else◌, List, [], ◌∷◌}
use Rattle.std.proofs.lemmas.Bool.{and_parts, or_parts}
use Rattle.std.proofs.Common.{length, map, take, drop, filter, get_or, Option, Some, None, refl, sym, ap, subst, ◌∙◌, arith}
use Rattle.std.proofs.Common.{nat_lt, is_none, ◌↔◌}
use Rattle.std.proofs.lemmas.List.{length-map}
use Rattle.std.proofs.lemmas.List.Elements.{filter_passes}
use Rattle.std.proofs.lemmas.List.Quantifiers.{position-Some}
use Rattle.std.proofs.lemmas.Bool.Decides.{nat_tests}
use Rattle.std.specs.Cmp.Lexicographic.{bytes_decides}
use Rattle.std.specs.List.{list_any, list_all, position}
use Rattle.std.specs.Str.{bytes_eq}
use Rattle.rfccase.specs.Casemapping.{folded, is_same}
use Rattle.rfccase.proofs.SameLemmas.{length-folded}
use Rattle.wildmask.specs.Masks.{bind_mask, is_match}
use Rattle.wildmask.specs.WideSignatures.{wide_text_signature, is_wide_within}
use Rattle.wildmask.proofs.TestLemmas.{is_match-Decides}
use Rattle.flagexpr.specs.Expression.{expression_of, meets}
use Rattle.flagexpr.specs.Faults.{expression_fault}
use Rattle.procs.specs.declared.bind_kind.BindKind.{BindKind}
use Rattle.procs.specs.declared.bind.Bind.{Bind}
use Rattle.procs.specs.declared.index.IndexEntry.{IndexEntry}
use Rattle.procs.specs.declared.index.KindIndex.{KindIndex}
use Rattle.procs.specs.declared.limits.TheConstants.{MAX_MASK}
use Rattle.procs.specs.Kinds.{is_kind, is_single, is_cron, has_flags}
use Rattle.procs.specs.Tables.{is_replaced, is_bad_mask, is_bad_cron}
use Rattle.procs.specs.Calls.{Occurrence, Calls, IsTaken, called, is_called, takes_event, takes_minute, takes_person}
use Rattle.procs.specs.Masks.{entry_of, key_of}
use Rattle.procs.specs.Words.{words_of, AreShort, AreWords, AreOf, AreCandidates, IsEntryAt, place_of_word}
use Rattle.procs.specs.Index.{of_kind, IsIndexOf}
use Rattle.procs.specs.Sound.{AreApart, is_good}
use Rattle.procs.specs.Behind.{AreKnown, HaveRisen, behind}
use Rattle.procs.proofs.WordLemmas.{Key, texts_of}
use Rattle.procs.proofs.OnceLemmas.{AtMostOnce, fails_before, list_any-at}
use Rattle.bytetext.proofs.Lists.{list_any-no_position}
use Rattle.procs.proofs.ApartLemmas.{any_bind, same_kind, is_kind-refl, swapped_texts, once-replaced}
use Rattle.procs.proofs.MaskLemmas.{takes-keyword}
use Rattle.procs.proofs.SoundLemmas.{apart-filter}
use Rattle.procs.proofs.IndexLemmas.{filter-kept}
use Rattle.procs.proofs.BehindLemmas.{AreFound, found-all, found-filter, found-take, found-drop, behind-entries, known-entries, none-needed}

-- ---- lists

map-at : {X Y : Type 0} (f : X → Y) (xs : List X) (i : ℕ) (d : X) (e : Y) → i < length xs → get_or (map f xs) i e ≡ f (get_or xs i d)
map-at f [] i d e within = absurd (omega arith)
map-at f (x ∷ xs) zero d e within = refl
map-at f (x ∷ xs) (suc i) d e within = map-at f xs i d e (omega arith)

map-part : {X Y : Type 0} (f : X → Y) (xs : List X) (i : ℕ) → take 1 (drop i (map f xs)) ≡ map f (take 1 (drop i xs))
map-part f [] zero = refl
map-part f [] (suc i) = refl
map-part f (x ∷ xs) zero = refl
map-part f (x ∷ xs) (suc i) = map-part f xs i

filter-nothing : {X : Type 0} (p u : X → Bool) → ((x : X) → p x ≡ true → u x ≡ true) → (xs : List X) → list_any u xs ≡ false → filter p xs ≡ []
filter-nothing p u within [] none = refl
filter-nothing p u within (x ∷ xs) none =
    let parts = or_parts (u x) (list_any u xs) none in
    by (p x) (within x) parts.0 ∙ filter-nothing p u within xs parts.1
  where
    by : (c : Bool) → (c ≡ true → u x ≡ true) → u x ≡ false → cond c (x ∷ filter p xs) (filter p xs) ≡ filter p xs
    by true h fails = let here = h refl in absurd cc
    by false h fails = refl

-- what passes a test is among the one that passes a wider one
filter-once : {X : Type 0} (p u : X → Bool) → ((x : X) → p x ≡ true → u x ≡ true) → (xs : List X) (i : ℕ) (d : X) → AtMostOnce u xs → i < length xs
    → u (get_or xs i d) ≡ true → filter p xs ≡ filter p (take 1 (drop i xs))
filter-once p u within [] i d once inside passes = absurd (omega arith)
filter-once p u within (x ∷ xs) zero d once inside passes =
    ap (λ ys. cond (p x) (x ∷ ys) ys) (filter-nothing p u within xs (once.0 passes))
filter-once p u within (x ∷ xs) (suc i) d once inside passes =
    by (p x) (within x) (fails_before u x xs i d once.0 (omega arith) passes) ∙ filter-once p u within xs i d once.1 (omega arith) passes
  where
    by : (c : Bool) → (c ≡ true → u x ≡ true) → u x ≡ false → cond c (x ∷ filter p xs) (filter p xs) ≡ filter p xs
    by true h fails = let here = h refl in absurd cc
    by false h fails = refl

pub position-none : {X : Type 0} (t : X → Bool) (xs : List X) → list_any t xs ≡ false → position t xs ≡ None
position-none t [] none = refl
position-none t (x ∷ xs) none = by (position t (x ∷ xs)) refl
  where
    by : (r : Option ℕ) → position t (x ∷ xs) ≡ r → r ≡ None
    by None e = refl
    by (Some i) e =
        let found = position-Some t (x ∷ xs) i x e in
        let some = list_any-at t (x ∷ xs) i x found.0 found.1 in
        absurd cc

-- ---- keywords

-- a text that is longer than all words is none of them
pub long-word : (word : List ℕ) (keys : List Key) → MAX_MASK < length word → AreShort (texts_of keys)
    → list_any (λ key. bytes_eq (folded word) key.items) keys ≡ false
long-word word [] long short = refl
long-word word (k ∷ keys) long short = ap (λ c. c || list_any (λ key. bytes_eq (folded word) key.items) keys) (by (bytes_eq (folded word)
    k.items) refl) ∙ long-word word keys long short.1
  where
    by : (c : Bool) → bytes_eq (folded word) k.items ≡ c → c ≡ false
    by true e =
        let same : folded word ≡ k.items = (bytes_decides (folded word) k.items).0 e in
        let len : length (folded word) ≡ length k.items = ap length same in
        let was : length (folded word) ≡ length word = length-folded word in
        let few : length k.items ≤ MAX_MASK = short.0 in
        absurd (omega arith)
    by false e = refl

good-short : (b : Bind) → is_good b ≡ true → length (key_of b) ≤ MAX_MASK
good-short b good =
    by (is_bad_mask b.kind b.mask) refl (and_parts (is_none (expression_fault b.flags)) (not (is_bad_mask b.kind b.mask || is_bad_cron b.kind b.mask)) good).1
  where
    by : (c : Bool) → is_bad_mask b.kind b.mask ≡ c → not (c || is_bad_cron b.kind b.mask) ≡ true → length (key_of b) ≤ MAX_MASK
    by true e fails = absurd cc
    by false e fails =
        let first = or_parts (length b.mask == 0 || nat_lt MAX_MASK (length b.mask)) (is_single b.kind && list_any (λ byte. byte == 32) b.mask) e in
        let short : nat_lt MAX_MASK (length b.mask) ≡ false = (or_parts (length b.mask == 0) (nat_lt MAX_MASK (length b.mask)) first.0).1 in
        let len : length (folded b.mask) ≡ length b.mask = length-folded b.mask in
        let most : length b.mask ≤ MAX_MASK = grind (arith, nat_tests) in
        omega arith

short-keys : (p : Bind → Bool) (binds : List Bind) → list_all is_good binds ≡ true → AreShort (map key_of (filter p binds))
short-keys p [] good = tt
short-keys p (b ∷ binds) good =
    let parts = and_parts (is_good b) (list_all is_good binds) good in
    by (p b) (good-short b parts.0) (short-keys p binds parts.1)
  where
    by : (c : Bool) → length (key_of b) ≤ MAX_MASK → AreShort (map key_of (filter p binds))
        → AreShort (map key_of (cond c (b ∷ filter p binds) (filter p binds)))
    by true here rest = (here, rest)
    by false here rest = rest

-- each entry of a single kind has its word
pub are_words : (kind : BindKind) (binds : List Bind) (index : KindIndex) → IsIndexOf kind binds index → list_all is_good binds ≡ true
    → is_single kind ≡ true → AreWords index
are_words kind binds index is good single =
    let words : words_of index ≡ map key_of (of_kind kind binds) = is.words ∙ ap (λ s. if s then map key_of (of_kind kind binds) else []) single in
    record {
      each =
          sym (length-map index.words.keys (λ key. key.items)) ∙ ap length words ∙ length-map (of_kind kind binds) key_of
          ∙ sym (ap length is.entries ∙ length-map (of_kind kind binds) entry_of);
      short = subst AreShort (sym words) (short-keys (λ b. is_kind kind b.kind) binds good);
    }

-- ---- who is called

-- a bind of a single kind that is called is the one of the keyword
called-word : (event : Occurrence) → is_single event.kind ≡ true → (b : Bind) → is_called event b ≡ true → is_replaced event.kind event.subject b ≡ true
called-word event single b e =
    let first = and_parts (is_kind event.kind b.kind) (takes_event b event && takes_person b event) e in
    let text = (and_parts (takes_event b event) (takes_person b event) first.1).0 in
    let kind : event.kind ≡ b.kind = same_kind event.kind b.kind first.0 in
    let same : is_same b.mask event.subject ≡ true = takes-keyword b event (ap is_single (sym kind) ∙ single) ∙ text in
    λ i. single i && (first.0 i && swapped_texts b.mask event.subject same i)

-- none of the binds of a kind has a word that is none of their keywords
none-word : (kind : BindKind) (word : List ℕ) (binds : List Bind) → list_any (bytes_eq (folded word)) (map key_of binds) ≡ false
    → list_any (is_replaced kind word) binds ≡ false
none-word kind word [] none = refl
none-word kind word (b ∷ binds) none =
    let parts = or_parts (bytes_eq (folded word) (key_of b)) (list_any (bytes_eq (folded word)) (map key_of binds)) none in
    by (is_single kind) (is_kind kind b.kind) (is_same word b.mask) parts.0 (none-word kind word binds parts.1)
  where
    by : (s k m : Bool) → m ≡ false → list_any (is_replaced kind word) binds ≡ false → ((s && (k && m)) || list_any (is_replaced kind word) binds) ≡ false
    by s k true fails rest = absurd cc
    by true true false fails rest = rest
    by true false false fails rest = rest
    by false k false fails rest = rest

called-of_kind : (event : Occurrence) (binds : List Bind) → called event (of_kind event.kind binds) ≡ called event binds
called-of_kind event binds =
    filter-kept (is_called event) (λ b. is_kind event.kind b.kind)
    (λ b e. (and_parts (is_kind event.kind b.kind) (takes_event b event && takes_person b event) e).0) binds

-- the entries of some of the binds that are held
from_some : (event : Occurrence) (held xs : List Bind) (some : List IndexEntry) → AreFound held xs → some ≡ map entry_of xs → called event xs ≡ called event held
    → AreKnown held some × (called event (behind held some) ≡ called event held)
from_some event held xs some found is all = (
  subst (AreKnown held) (sym is) (known-entries held xs found),
  ap (λ es. called event (behind held es)) is ∙ ap (called event) (behind-entries held xs found) ∙ all,
)

any_texts : (word : List ℕ) (keys : List Key) → list_any (λ key. bytes_eq word key.items) keys ≡ list_any (bytes_eq word) (texts_of keys)
any_texts word [] = refl
any_texts word (k ∷ keys) = ap (λ b. bytes_eq word k.items || b) (any_texts word keys)

-- the place of a keyword is that of the bind that has it
word-at : (kind : BindKind) (word : List ℕ) (xs : List Bind) (keys : List Key) (at : ℕ) (d : Bind) → texts_of keys ≡ map key_of xs
    → position (λ key. bytes_eq (folded word) key.items) keys ≡ Some at
    → (at < length xs) × (is_same word (get_or xs at d).mask ≡ true)
word-at kind word xs [] at d words found = absurd cc
word-at kind word xs (k ∷ keys) at d words found =
    let there = position-Some (λ key. bytes_eq (folded word) key.items) (k ∷ keys) at k found in
    let len : length (k ∷ keys) ≡ length xs =
    sym (length-map (k ∷ keys) (λ key. key.items)) ∙ ap length words ∙ length-map xs key_of in
    let inside : at < length (k ∷ keys) = there.0 in
    let within : at < length xs = omega arith in
    let same : (get_or (k ∷ keys) at k).items ≡ key_of (get_or xs at d) =
    sym (map-at (λ (key : Key). key.items) (k ∷ keys) at k [] inside) ∙ ap (λ ws. get_or ws at []) words ∙ map-at key_of xs at d [] within in
    (within, ap (bytes_eq (folded word)) (sym same) ∙ there.1)

-- the entries that an index gives for an event tell what is so, and the binds behind them that the event calls are all that
-- it calls
pub candidates-call : (event : Occurrence) (held : List Bind) (index : KindIndex) (some : List IndexEntry) → HaveRisen held → AreApart held
    → IsIndexOf event.kind held index → AreCandidates event.kind event.subject index some
    → AreKnown held some × (called event (behind held some) ≡ called event held)
candidates-call event held index some risen apart is = by_kind (is_single event.kind) refl
  where
    found : AreFound held (of_kind event.kind held)
    found = found-filter held (λ b. is_kind event.kind b.kind) held (found-all 0 held risen.0 risen.1)

    by_place : (o : Option ℕ) → place_of_word event.subject index ≡ o → is_single event.kind ≡ true → IsEntryAt o index.entries.items some
        → AreKnown held some × (called event (behind held some) ≡ called event held)
    by_place (Some at) place single is_some =
        let xs = of_kind event.kind held in
        let words : words_of index ≡ map key_of xs = is.words ∙ ap (λ s. if s then map key_of xs else []) single in
        let d = any_bind event.kind in
        let there = word-at event.kind event.subject xs index.words.keys at d words place in
        let of_it : is_kind event.kind (get_or xs at d).kind ≡ true = filter_passes (λ b. is_kind event.kind b.kind) held at d there.0 in
        let one : is_replaced event.kind event.subject (get_or xs at d) ≡ true = λ i. single i && (of_it i && there.1 i) in
        let once = once-replaced event.kind event.subject xs (apart-filter (λ b. is_kind event.kind b.kind) held apart) in
        from_some event held (take 1 (drop at xs)) some (found-take held 1 (drop at xs) (found-drop held at xs found))
        (is_some ∙ ap (λ es. take 1 (drop at es)) is.entries ∙ map-part entry_of xs at)
        (sym (filter-once (is_called event) (is_replaced event.kind event.subject) (called-word event single) xs at d once there.0 one)
        ∙ called-of_kind event held)
    by_place None place single is_some =
        let xs = of_kind event.kind held in
        let words : words_of index ≡ map key_of xs = is.words ∙ ap (λ s. if s then map key_of xs else []) single in
        let none : list_any (bytes_eq (folded event.subject)) (map key_of xs) ≡ false =
        ap (list_any (bytes_eq (folded event.subject))) (sym words)
        ∙ sym (any_texts (folded event.subject) index.words.keys) ∙ list_any-no_position (λ key. bytes_eq (folded event.subject) key.items) index.words.keys place in
        let nobody : called event xs ≡ [] =
        filter-nothing (is_called event) (is_replaced event.kind event.subject) (called-word event single) xs (none-word event.kind event.subject xs none) in
        from_some event held [] some tt is_some (sym nobody ∙ called-of_kind event held)

    by_kind : (s : Bool) → is_single event.kind ≡ s → AreOf s event.subject index some → AreKnown held some × (called event (behind held some)
        ≡ called event held)
    by_kind true single is_some = by_place (place_of_word event.subject index) refl single is_some
    by_kind false many is_some =
        from_some event held (of_kind event.kind held) some found (is_some ∙ is.entries) (called-of_kind event held)

-- if the subject lacks what each of the entries that an index gives for it needs, it calls no bind, whoever it is by
pub takes-none : (kind : BindKind) (subject : List ℕ) (held : List Bind) (index : KindIndex) (some : List IndexEntry)
    → HaveRisen held → AreApart held → IsIndexOf kind held index → AreCandidates kind subject index some
    → list_any (λ e. is_wide_within e.needs (wide_text_signature subject)) some ≡ false
    → (event : Occurrence) → event.kind ≡ kind → event.subject ≡ subject → called event held ≡ []
takes-none kind subject held index some risen apart is is_some none event of_kind of_subject =
    let here : IsIndexOf event.kind held index = subst (λ (k : BindKind). IsIndexOf k held index) (sym of_kind) is in
    let these : AreCandidates event.kind event.subject index some =
    subst (λ (k : BindKind). AreCandidates k event.subject index some) (sym of_kind)
    (subst (λ (s : List ℕ). AreCandidates kind s index some) (sym of_subject) is_some) in
    let all = candidates-call event held index some risen apart here these in
    let lacks : list_any (λ (e : IndexEntry). is_wide_within e.needs (wide_text_signature event.subject)) some ≡ false =
    ap (λ (s : List ℕ). list_any (λ (e : IndexEntry). is_wide_within e.needs (wide_text_signature s)) some) of_subject ∙ none in
    sym all.1 ∙ none-needed event held some all.0 lacks

-- ---- the test is the relation

pub called-means : (event : Occurrence) (b : Bind) → (is_called event b ≡ true) ↔ Calls event b
called-means event b = (told, tested)
  where
    mask : (s c : Bool) → ((if s then is_same b.mask event.subject
        else (if c then takes_minute b.mask event.minute else is_match (bind_mask b.mask) event.subject)) ≡ true) ↔ IsTaken s c b event
    mask true c = bytes_decides (folded b.mask) (folded event.subject)
    mask false true = (λ e. e, λ e. e)
    mask false false = is_match-Decides (bind_mask b.mask) event.subject

    person : (f m : Bool) → ((not f || m) ≡ true) ↔ (f ≡ true → m ≡ true)
    person true m = (λ e h. e, λ h. h refl)
    person false m = (λ e h. absurd cc, λ h. refl)

    told : is_called event b ≡ true → Calls event b
    told e =
        let first = and_parts (is_kind event.kind b.kind) (takes_event b event && takes_person b event) e in
        let second = and_parts (takes_event b event) (takes_person b event) first.1 in
        record {
          kind = same_kind event.kind b.kind first.0;
          mask = (mask (is_single b.kind) (is_cron b.kind)).0 second.0;
          flags = (person (has_flags b.kind) (meets (expression_of b.flags) event.global event.channel event.bot)).0 second.1;
        }

    tested : Calls event b → is_called event b ≡ true
    tested h = λ i.
        (ap (is_kind event.kind) (sym h.kind) ∙ is_kind-refl event.kind) i
        && ((mask (is_single b.kind) (is_cron b.kind)).1 h.mask i
        && (person (has_flags b.kind) (meets (expression_of b.flags) event.global event.channel event.bot)).1 h.flags i)
