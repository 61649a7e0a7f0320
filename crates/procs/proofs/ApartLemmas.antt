-- Of binds that are apart, each call speaks of one at most.
use Rattle.std.proofs.Common.{◌≡◌, ℕ, ◌==◌, Bool, true, false, cond, ◌||◌, ◌&&◌, List, [], ◌∷◌, map, not, if◌then◌else◌, refl, sym, ap, ◌∙◌}
use Rattle.std.proofs.lemmas.Bool.{eqb-true, eq-eqb, and_parts, or_left, or_parts}
use Rattle.std.specs.List.{list_any}
use Rattle.std.specs.Str.{bytes_eq}
use Rattle.std.specs.Cmp.Lexicographic.{bytes_decides}
use Rattle.rfccase.specs.Casemapping.{folded, is_same}
use Rattle.procs.specs.declared.bind_kind.BindKind.{BindKind}
use Rattle.procs.specs.declared.bind_kind.BindKind.TheVariants.{Raw, Msg, Msgm, Notc, Pub, Pubm, Join, Part, Sign, Kick, Nick, Mode, Topc, Account}
use Rattle.procs.specs.declared.bind_kind.BindKind.TheVariants.{Bot, Time, Cron}
use Rattle.procs.specs.declared.bind.Bind.{Bind}
use Rattle.procs.specs.Kinds.{is_kind, is_single, place_of}
use Rattle.procs.specs.Tables.{is_such, is_replaced, without_replaced}
use Rattle.procs.specs.Masks.{key_of}
use Rattle.procs.specs.Index.{of_kind}
use Rattle.procs.specs.Sound.{AreApart, is_rival}
use Rattle.procs.proofs.OnceLemmas.{AtMostOnce, list_any-kept}

none_rivals : (t : Bind → Bool) → ((a b : Bind) → t a ≡ true → t b ≡ true → is_rival a b ≡ true) → (a : Bind) → t a ≡ true → (binds : List Bind)
    → list_any (is_rival a) binds ≡ false → list_any t binds ≡ false
none_rivals t rivals a passes [] e = refl
none_rivals t rivals a passes (x ∷ xs) e =
    let parts = or_parts (is_rival a x) (list_any (is_rival a) xs) e in
    by (t x) (λ also. rivals a x passes also) parts.0 (none_rivals t rivals a passes xs parts.1)
  where
    by : (b : Bool) → (b ≡ true → is_rival a x ≡ true) → is_rival a x ≡ false → list_any t xs ≡ false → (b || list_any t xs) ≡ false
    by true rival never rest = let is = rival refl in absurd cc
    by false rival never rest = rest

-- where all that pass are rivals, one passes at most
once-apart : (t : Bind → Bool) → ((a b : Bind) → t a ≡ true → t b ≡ true → is_rival a b ≡ true) → (binds : List Bind) → AreApart binds → AtMostOnce t binds
once-apart t rivals [] apart = tt
once-apart t rivals (b ∷ binds) apart = ((λ passes. none_rivals t rivals b passes binds apart.0), once-apart t rivals binds apart.1)

-- ---- kinds

-- the kind of a number; another number has cron's
kind_at : ℕ → BindKind
kind_at n =
    cond (n == 0) Raw (cond (n == 1) Msg (cond (n == 2) Msgm (cond (n == 3) Notc (cond (n == 4) Pub (cond (n == 5) Pubm (cond (n == 6) Join (cond (n == 7) Part (cond (n == 8) Sign (cond (n == 9) Kick (cond (n == 10) Nick (cond (n == 11) Mode (cond (n == 12) Topc (cond (n == 13) Account (cond (n == 14) Bot (cond (n == 15) Time Cron)))))))))))))))

kind_at-place_of : (kind : BindKind) → kind_at (place_of kind) ≡ kind
unfolding kind_at
kind_at-place_of Raw = refl
kind_at-place_of Msg = refl
kind_at-place_of Msgm = refl
kind_at-place_of Notc = refl
kind_at-place_of Pub = refl
kind_at-place_of Pubm = refl
kind_at-place_of Join = refl
kind_at-place_of Part = refl
kind_at-place_of Sign = refl
kind_at-place_of Kick = refl
kind_at-place_of Nick = refl
kind_at-place_of Mode = refl
kind_at-place_of Topc = refl
kind_at-place_of Account = refl
kind_at-place_of Bot = refl
kind_at-place_of Time = refl
kind_at-place_of Cron = refl

-- kinds of one number are one
pub same_place : (a b : BindKind) → place_of a ≡ place_of b → a ≡ b
same_place a b e = sym (kind_at-place_of a) ∙ ap kind_at e ∙ kind_at-place_of b

pub same_kind : (a b : BindKind) → is_kind a b ≡ true → a ≡ b
same_kind a b e = same_place a b (eqb-true (place_of a) (place_of b) e)

pub is_kind-refl : (a : BindKind) → is_kind a a ≡ true
is_kind-refl a = eq-eqb (place_of a) (place_of a) refl

-- ---- texts

same_texts : (a b c : List ℕ) → is_same c a ≡ true → is_same c b ≡ true → is_same a b ≡ true
same_texts a b c left right =
    (bytes_decides (folded a) (folded b)).1 (sym ((bytes_decides (folded c) (folded a)).0 left) ∙ (bytes_decides (folded c) (folded b)).0 right)

pub swapped_texts : (a b : List ℕ) → is_same a b ≡ true → is_same b a ≡ true
swapped_texts a b same = (bytes_decides (folded b) (folded a)).1 (sym ((bytes_decides (folded a) (folded b)).0 same))

equal_texts : (a b c : List ℕ) → bytes_eq a c ≡ true → bytes_eq b c ≡ true → bytes_eq a b ≡ true
equal_texts a b c left right = (bytes_decides a b).1 ((bytes_decides a c).0 left ∙ sym ((bytes_decides b c).0 right))

-- ---- binds

joined : (a b c d : Bool) → a ≡ true → b ≡ true → (c || d) ≡ true → (a && (b && (c || d))) ≡ true
joined true true c d p q r = r
joined true false c d p q r = absurd cc
joined false b c d p q r = absurd cc

right_or : (c d : Bool) → d ≡ true → (c || d) ≡ true
right_or true d e = refl
right_or false d e = e

-- no two are of one kind, mask and proc
pub once-such : (kind : BindKind) (mask proc : List ℕ) (binds : List Bind) → AreApart binds → AtMostOnce (is_such kind mask proc) binds
once-such kind mask proc = once-apart (is_such kind mask proc) rivals
  where
    rivals : (a b : Bind) → is_such kind mask proc a ≡ true → is_such kind mask proc b ≡ true → is_rival a b ≡ true
    rivals a b p q =
        let a1 = and_parts (is_kind kind a.kind) (is_same mask a.mask && bytes_eq a.proc proc) p in
        let a2 = and_parts (is_same mask a.mask) (bytes_eq a.proc proc) a1.1 in
        let b1 = and_parts (is_kind kind b.kind) (is_same mask b.mask && bytes_eq b.proc proc) q in
        let b2 = and_parts (is_same mask b.mask) (bytes_eq b.proc proc) b1.1 in
        let kinds : a.kind ≡ b.kind = sym (same_kind kind a.kind a1.0) ∙ same_kind kind b.kind b1.0 in
        joined (is_kind a.kind b.kind) (is_same a.mask b.mask) (is_single a.kind) (bytes_eq a.proc b.proc)
        (ap (λ k. is_kind k b.kind) kinds ∙ is_kind-refl b.kind) (same_texts a.mask b.mask mask a2.0 b2.0)
        (right_or (is_single a.kind) (bytes_eq a.proc b.proc) (equal_texts a.proc b.proc proc a2.1 b2.1))

-- no two of a single kind have one keyword
pub once-replaced : (kind : BindKind) (mask : List ℕ) (binds : List Bind) → AreApart binds → AtMostOnce (is_replaced kind mask) binds
once-replaced kind mask = once-apart (is_replaced kind mask) rivals
  where
    rivals : (a b : Bind) → is_replaced kind mask a ≡ true → is_replaced kind mask b ≡ true → is_rival a b ≡ true
    rivals a b p q =
        let a1 = and_parts (is_single kind) (is_kind kind a.kind && is_same mask a.mask) p in
        let a2 = and_parts (is_kind kind a.kind) (is_same mask a.mask) a1.1 in
        let b1 = and_parts (is_single kind) (is_kind kind b.kind && is_same mask b.mask) q in
        let b2 = and_parts (is_kind kind b.kind) (is_same mask b.mask) b1.1 in
        let kinds : a.kind ≡ b.kind = sym (same_kind kind a.kind a2.0) ∙ same_kind kind b.kind b2.0 in
        joined (is_kind a.kind b.kind) (is_same a.mask b.mask) (is_single a.kind) (bytes_eq a.proc b.proc)
        (ap (λ k. is_kind k b.kind) kinds ∙ is_kind-refl b.kind) (same_texts a.mask b.mask mask a2.1 b2.1)
        (or_left (is_single a.kind) (bytes_eq a.proc b.proc) (ap is_single (sym (same_kind kind a.kind a2.0)) ∙ a1.0))

-- what is replaced is of the kind
pub replaced-kind : (kind : BindKind) (mask : List ℕ) (b : Bind) → is_replaced kind mask b ≡ true → is_kind kind b.kind ≡ true
replaced-kind kind mask b e =
    let rest = and_parts (is_single kind) (is_kind kind b.kind && is_same mask b.mask) e in
    (and_parts (is_kind kind b.kind) (is_same mask b.mask) rest.1).0

-- what is such is of the kind
pub such-kind : (kind : BindKind) (mask proc : List ℕ) (b : Bind) → is_such kind mask proc b ≡ true → is_kind kind b.kind ≡ true
such-kind kind mask proc b e = (and_parts (is_kind kind b.kind) (is_same mask b.mask && bytes_eq b.proc proc) e).0

-- what is left of a single kind has another keyword
pub no_word-left : (kind : BindKind) (mask : List ℕ) (binds : List Bind) → is_single kind ≡ true
    → list_any (bytes_eq (folded mask)) (map key_of (of_kind kind (without_replaced kind mask binds))) ≡ false
no_word-left kind mask binds single =
    list_any-kept (bytes_eq (folded mask)) key_of (λ b. is_kind kind b.kind) (λ b. not (is_replaced kind mask b))
    (λ b of_it stays. by (is_single kind) (is_kind kind b.kind) (is_same mask b.mask) single of_it stays) binds
  where
    by : (s k m : Bool) → s ≡ true → k ≡ true → not (s && (k && m)) ≡ true → m ≡ false
    by s k false p q e = refl
    by true true true p q e = absurd cc
    by true false true p q e = absurd cc
    by false k true p q e = absurd cc

-- the same, as the code comes to it
pub absent-word : (kind : BindKind) (mask word : List ℕ) (words : List (List ℕ)) (binds left : List Bind) → is_single kind ≡ true → word ≡ folded mask
    → words ≡ (if is_single kind then map key_of (of_kind kind left) else []) → left ≡ without_replaced kind mask binds → list_any (bytes_eq word) words ≡ false
absent-word kind mask word words binds left single is_word are_words is_left =
    let keys : words ≡ map key_of (of_kind kind left) = are_words ∙ ap (λ s. if s then map key_of (of_kind kind left) else []) single in
    ap (λ w. list_any (bytes_eq w) words) is_word ∙ ap (list_any (bytes_eq (folded mask))) (keys ∙ ap (λ bs. map key_of (of_kind kind bs)) is_left)
    ∙ no_word-left kind mask binds single

-- a bind, where a list is to be read at a place that it has
abbrev pub any_bind : BindKind → Bind
any_bind kind = record { number = 0; kind = kind; flags = []; mask = []; proc = [] }
