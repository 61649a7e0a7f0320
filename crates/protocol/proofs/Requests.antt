-- The requests of a leaf that are out: one more of them, and all but one.
use Rattle.std.proofs.Common.{◌≡◌, ℕ, ◌+◌, ◌<◌, ◌≤◌, ◌==◌, nat_lt, Bool, true, false, ◌||◌, if◌then◌else◌, List, [], ◌∷◌, length, length-append, Some, refl, sym, subst, ◌∙◌, arith, eqb-true, eq-eqb, leb-true, le-leb, ltb-true, lt-ltb}
use Rattle.std.proofs.lemmas.Bool.{ne_eqb}
use Rattle.std.specs.List.{list_all}
use Rattle.userfile.specs.declared.change.Change.{Change as UserChange}
use Rattle.userfile.proofs.RepeatLemmas.{and_true, and_both}
use Rattle.botjournal.specs.declared.request.Request.{Request as OutRequest}
use Rattle.botjournal.specs.Bases.{numbers_rise_from, is_near, are_out}
use Rattle.protocol.specs.Numbers.{last_number, item_at}
use Rattle.protocol.specs.LeafRules.{is_out, without, has_room, may_go_out, with_request}
use Rattle.protocol.specs.History.{Extends}
use Rattle.protocol.specs.Soundness.{AreAsked}
use Rattle.protocol.proofs.Lists.{item_at-more}

-- ---- which are out

or_more : (a b c : Bool) → (b ≡ true → c ≡ true) → (a || b) ≡ true → (a || c) ≡ true
or_more true b c more e = refl
or_more false b c more e = more e

or_right : (a b : Bool) → b ≡ true → (a || b) ≡ true
or_right true b e = refl
or_right false b e = e

pub is_out-more : (r : ℕ) (out : List OutRequest) (n : ℕ) (c : UserChange) → is_out r out ≡ true
    → is_out r (with_request n c out) ≡ true
is_out-more r [] n c e = cc
is_out-more r (one ∷ out) n c e =
    or_more (one.number == r) (is_out r out) (is_out r (with_request n c out)) (is_out-more r out n c) e

pub is_out-new : (r : ℕ) (out : List OutRequest) (n : ℕ) (c : UserChange) → n ≡ r → is_out r (with_request n c out) ≡ true
is_out-new r [] n c is = rw (eq-eqb n r is) refl
is_out-new r (one ∷ out) n c is = or_right (one.number == r) (is_out r (with_request n c out)) (is_out-new r out n c is)

-- those of other numbers stay
pub is_out-without : (r s : ℕ) (out : List OutRequest) → (r ≡ s → ⊥) → is_out r out ≡ true → is_out r (without s out) ≡ true
is_out-without r s [] other e = cc
is_out-without r s (one ∷ out) other e = by (one.number == s) refl (is_out-without r s out other)
  where
    by : (b : Bool) → (one.number == s) ≡ b → (is_out r out ≡ true → is_out r (without s out) ≡ true)
        → is_out r (if b then out else one ∷ without s out) ≡ true
    by true f rest =
        let apart : (one.number == r) ≡ false = ne_eqb one.number r (λ same. other (sym same ∙ eqb-true one.number s f)) in
        subst (λ (b : Bool). (b || is_out r out) ≡ true) apart e
    by false f rest = or_more (one.number == r) (is_out r out) (is_out r (without s out)) rest e

-- ---- what they ask for

pub AreAsked-more : (asked asked' : List UserChange) (out : List OutRequest) → Extends asked asked' → AreAsked asked out
    → AreAsked asked' out
AreAsked-more asked asked' [] more t = tt
AreAsked-more asked asked' (one ∷ out) more t =
    (item_at-more asked asked' one.number one.change more t.0, AreAsked-more asked asked' out more t.1)

pub AreAsked-last : (asked : List UserChange) (out : List OutRequest) (n : ℕ) (c : UserChange) → AreAsked asked out
    → item_at asked n ≡ Some c → AreAsked asked (with_request n c out)
AreAsked-last asked [] n c t at = (at, tt)
AreAsked-last asked (one ∷ out) n c t at = (t.0, AreAsked-last asked out n c t.1 at)

pub AreAsked-without : (asked : List UserChange) (r : ℕ) (out : List OutRequest) → AreAsked asked out → AreAsked asked (without r out)
AreAsked-without asked r [] t = tt
AreAsked-without asked r (one ∷ out) t = by (one.number == r) (AreAsked-without asked r out t.1)
  where
    by : (b : Bool) → AreAsked asked (without r out) → AreAsked asked (if b then out else one ∷ without r out)
    by true rest = t.1
    by false rest = (t.0, rest)

-- ---- their numbers

-- numbers from this one on, and none above the last
abbrev Rise : ℕ → ℕ → List OutRequest → Type 0
Rise least last [] = Unit {0}
Rise least last (one ∷ out) = (least ≤ one.number) × (one.number ≤ last) × (last < one.number + 8) × Rise (one.number + 1) last out

to_rise : (least last : ℕ) (out : List OutRequest) → numbers_rise_from least out ≡ true → list_all (is_near last) out ≡ true
    → Rise least last out
to_rise least last [] rises near = tt
to_rise least last (one ∷ out) rises near =
    let up = and_true rises in
    let all = and_true near in
    let here = and_true all.0 in
    (leb-true least one.number up.0, leb-true one.number last here.0, ltb-true last (one.number + 8) here.1, to_rise (one.number + 1) last out up.1 all.1)

rise_from : (least last : ℕ) (out : List OutRequest) → Rise least last out → numbers_rise_from least out ≡ true
rise_from least last [] t = refl
rise_from least last (one ∷ out) t = and_both (le-leb least one.number t.0) (rise_from (one.number + 1) last out t.3)

rise_near : (least last : ℕ) (out : List OutRequest) → Rise least last out → list_all (is_near last) out ≡ true
rise_near least last [] t = refl
rise_near least last (one ∷ out) t =
    and_both (and_both (le-leb one.number last t.1) (lt-ltb last (one.number + 8) t.2)) (rise_near (one.number + 1) last out t.3)

rises : (last : ℕ) (out : List OutRequest) → are_out last out ≡ true → Rise 0 last out
rises last out is = to_rise 0 last out (and_true is).0 (and_true is).1

risen : (last : ℕ) (out : List OutRequest) → Rise 0 last out → are_out last out ≡ true
risen last out t = and_both (rise_from 0 last out t) (rise_near 0 last out t)

Rise-less : (least more last : ℕ) (out : List OutRequest) → least ≤ more → Rise more last out → Rise least last out
Rise-less least more last [] le t = tt
Rise-less least more last (one ∷ out) le t = (omega (arith, le, t.0), t.1, t.2, t.3)

Rise-without : (r least last : ℕ) (out : List OutRequest) → Rise least last out → Rise least last (without r out)
Rise-without r least last [] t = tt
Rise-without r least last (one ∷ out) t = by (one.number == r) (Rise-without r (one.number + 1) last out t.3)
  where
    by : (b : Bool) → Rise (one.number + 1) last (without r out) → Rise least last (if b then out else one ∷ without r out)
    by true rest = Rise-less least (one.number + 1) last out (omega (arith, t.0)) t.3
    by false rest = (t.0, t.1, t.2, rest)

-- the next number is less than eight above each
Rise-next : (least last : ℕ) (out : List OutRequest) (c : UserChange) → least ≤ last + 1 → last + 1 < least + 8 → Rise least last out
    → Rise least (last + 1) (with_request (last + 1) c out)
Rise-next least last [] c le near t = (le, omega arith, omega arith, tt)
Rise-next least last (one ∷ out) c le near t = (
  t.0,
  omega (arith, t.1),
  omega (arith, t.0, near),
  Rise-next (one.number + 1) last out c (omega (arith, t.1)) (omega (arith, t.0, near)) t.3,
)

-- from the lowest number on
Rise-lowest : (last : ℕ) (one : OutRequest) (out : List OutRequest) → are_out last (one ∷ out) ≡ true
    → Rise one.number last (one ∷ out)
Rise-lowest last one out is = let t = rises last (one ∷ out) is in (omega arith, t.1, t.2, t.3)

pub out-next : (last : ℕ) (out : List OutRequest) (c : UserChange) → may_go_out last out ≡ true → are_out last out ≡ true
    → are_out (last + 1) (with_request (last + 1) c out) ≡ true
out-next last [] c may is = risen (last + 1) (with_request (last + 1) c []) (omega arith, omega arith, omega arith, tt)
out-next last (one ∷ out) c may is =
    let t = Rise-lowest last one out is in
    let tests = and_true {a = nat_lt last last_number} {b = has_room last (one ∷ out)} may in
    let room : last + 1 < one.number + 8 = ltb-true (last + 1) (one.number + 8) tests.1 in
    risen (last + 1) (with_request (last + 1) c (one ∷ out))
    (Rise-less 0 one.number (last + 1) (with_request (last + 1) c (one ∷ out)) (omega arith)
    (Rise-next one.number last (one ∷ out) c (omega (arith, t.1)) room t))

pub out-without : (last r : ℕ) (out : List OutRequest) → are_out last out ≡ true → are_out last (without r out) ≡ true
out-without last r out is = risen last (without r out) (Rise-without r 0 last out (rises last out is))

-- ---- how many

Rise-many : (least last : ℕ) (out : List OutRequest) → least ≤ last + 1 → Rise least last out → least + length out ≤ last + 1
Rise-many least last [] le t = omega (arith, le)
Rise-many least last (one ∷ out) le t =
    omega (arith, t.0, Rise-many (one.number + 1) last out (omega (arith, t.1)) t.3)

-- at most eight are out
pub few_out : (last : ℕ) (out : List OutRequest) → are_out last out ≡ true → length out ≤ 8
few_out last [] is = omega arith
few_out last (one ∷ out) is =
    let t = Rise-lowest last one out is in
    omega (arith, t.2, Rise-many one.number last (one ∷ out) (omega (arith, t.1)) t)

-- and fewer where one more may go out
pub few_before : (last : ℕ) (out : List OutRequest) (c : UserChange) → may_go_out last out ≡ true → are_out last out ≡ true
    → length out < 8
few_before last out c may is =
    omega (arith, few_out (last + 1) (with_request (last + 1) c out) (out-next last out c may is), length-append out (record { number = last + 1; change = c } ∷ []))
