-- Replies as a base lists them, leaf by leaf, and as a hub keeps them, at each leaf's place.
use Rattle.std.proofs.Common.{◌≡◌, ◌⊎◌, ◌<◌, ◌≤◌, ◌==◌, ◌+◌, ◌*◌, ◌&&◌, ℕ, zero, suc, nat_lt, Bool, true, false, if◌then◌else◌, List, [], ◌∷◌, ◌++◌, length, slice_get, Some, refl, sym, ap, subst, ◌∙◌, inl, inr, arith, eq-eqb, ltb-true, lt-ltb, length-append}
use Rattle.std.proofs.lemmas.Bool.{and_parts, eqb-true, ne_eqb, cases_order}
use Rattle.std.proofs.lemmas.Bool.Decides.{nat_tests}
use Rattle.botjournal.specs.declared.reply.Reply.{Reply}
use Rattle.botjournal.specs.declared.TheConstants.{WINDOW}
use Rattle.botjournal.specs.Bases.{is_next_reply, may_follow, are_kept}
use Rattle.protocol.specs.HubRules.{AreNumbered}
use Rattle.protocol.specs.Journals.{replies_among, replies_of, replies_in, AreTo}
use Rattle.sharelink.specs.States.{IsKept, ArePlaced}

-- ---- the replies of a base to one leaf

-- a reply after another is to a leaf above, or to the same leaf's next request
abbrev Follows : Reply → ℕ → Reply → List Reply → Type 0
Follows before count reply replies =
    ((before.leaf < reply.leaf) × (may_follow reply 1 replies ≡ true))
    ⊎ ((reply.leaf ≡ before.leaf) × (reply.request ≡ before.request + 1) × (count < 8) × (may_follow reply (count + 1) replies ≡ true))

follows : (before : Reply) (count : ℕ) (reply : Reply) (replies : List Reply) → may_follow before count (reply ∷ replies) ≡ true
    → Follows before count reply replies
follows before count reply replies is = by (nat_lt before.leaf reply.leaf) refl is
  where
    by : (b : Bool) → nat_lt before.leaf reply.leaf ≡ b
        → (if b then may_follow reply 1 replies
        else ((is_next_reply before reply && nat_lt count WINDOW) && may_follow reply (count + 1) replies)) ≡ true
        → Follows before count reply replies
    by true above is = inl (ltb-true before.leaf reply.leaf above, is)
    by false level is =
        let parts = and_parts (is_next_reply before reply && nat_lt count WINDOW) (may_follow reply (count + 1) replies) is in
        let tests = and_parts (is_next_reply before reply) (nat_lt count WINDOW) parts.0 in
        let next = and_parts (reply.leaf == before.leaf) (reply.request == (before.request + 1)) tests.0 in
        inr (eqb-true reply.leaf before.leaf next.0, eqb-true reply.request (before.request + 1) next.1, ltb-true count WINDOW tests.1, parts.1)

-- a reply to another leaf is none to this one
among-other : (leaf : ℕ) (reply : Reply) (replies : List Reply) → (reply.leaf ≡ leaf → ⊥)
    → replies_among leaf (reply ∷ replies) ≡ replies_among leaf replies
among-other leaf reply replies other = rw (ne_eqb reply.leaf leaf other) refl

among-same : (leaf : ℕ) (reply : Reply) (replies : List Reply) → reply.leaf ≡ leaf
    → replies_among leaf (reply ∷ replies) ≡ reply ∷ replies_among leaf replies
among-same leaf reply replies same = rw (eq-eqb reply.leaf leaf same) refl

-- after a reply to a leaf above there is none
among-below : (leaf : ℕ) (before : Reply) (count : ℕ) (replies : List Reply) → leaf < before.leaf → may_follow before count replies ≡ true
    → replies_among leaf replies ≡ []
among-below leaf before count [] low is = refl
among-below leaf before count (reply ∷ replies) low is =
    by (λ n. among-below leaf reply n replies) (follows before count reply replies is)
  where
    by : ((n : ℕ) → leaf < reply.leaf → may_follow reply n replies ≡ true → replies_among leaf replies ≡ [])
        → Follows before count reply replies → replies_among leaf (reply ∷ replies) ≡ []
    by rest (inl above) =
        among-other leaf reply replies (λ same. absurd (omega (arith, same, low, above.0)))
        ∙ rest 1 (omega (arith, low, above.0)) above.1
    by rest (inr next) =
        among-other leaf reply replies (λ same. absurd (omega (arith, same, low, next.0)))
        ∙ rest (count + 1) (omega (arith, low, next.0)) next.3

-- replies to this leaf's requests from this number on, after this number of others
abbrev Goes : ℕ → ℕ → ℕ → List Reply → Type 0
Goes leaf number count kept = AreTo leaf kept × AreNumbered number kept × (count + length kept ≤ 8)

-- after a reply to this leaf come those to its next requests
among-next : (leaf : ℕ) (before : Reply) (count : ℕ) (replies : List Reply) → before.leaf ≡ leaf → count ≤ 8
    → may_follow before count replies ≡ true → Goes leaf (before.request + 1) count (replies_among leaf replies)
among-next leaf before count [] same few is = (tt, tt, omega (arith, few))
among-next leaf before count (reply ∷ replies) same few is =
    by (among-next leaf reply (count + 1) replies) (follows before count reply replies is)
  where
    by : (reply.leaf ≡ leaf → count + 1 ≤ 8 → may_follow reply (count + 1) replies ≡ true
        → Goes leaf (reply.request + 1) (count + 1) (replies_among leaf replies))
        → Follows before count reply replies → Goes leaf (before.request + 1) count (replies_among leaf (reply ∷ replies))
    by later (inl above) =
        subst (Goes leaf (before.request + 1) count)
        (sym (among-other leaf reply replies (λ at. absurd (omega (arith, at, same, above.0)))
        ∙ among-below leaf reply 1 replies (omega (arith, same, above.0)) above.1)) (tt, tt, omega (arith, few))
    by later (inr next) =
        let at : reply.leaf ≡ leaf = next.0 ∙ same in
        let rest = later at (omega (arith, next.2)) next.3 in
        subst (Goes leaf (before.request + 1) count) (sym (among-same leaf reply replies at)) (
          (at, rest.0),
          (next.1, subst (λ n. AreNumbered (n + 1) (replies_among leaf replies)) next.1 rest.1),
          omega (arith, rest.2),
        )

none-kept : (leaf : ℕ) → IsKept leaf []
none-kept leaf = (tt, record { first = 0; numbered = tt; few = omega arith })

-- from the first reply to a leaf on
among-first : (leaf : ℕ) (reply : Reply) (replies : List Reply) → (reply.leaf < leaf → IsKept leaf (replies_among leaf replies))
    → may_follow reply 1 replies ≡ true → IsKept leaf (replies_among leaf (reply ∷ replies))
among-first leaf reply replies later is = by (cases_order reply.leaf leaf)
  where
    by : (reply.leaf ≡ leaf) ⊎ ((reply.leaf < leaf) ⊎ (leaf < reply.leaf)) → IsKept leaf (replies_among leaf (reply ∷ replies))
    by (inl same) =
        let rest = among-next leaf reply 1 replies same (omega arith) is in
        subst (IsKept leaf) (sym (among-same leaf reply replies same))
        ((same, rest.0), record { first = reply.request; numbered = (refl, rest.1); few = omega (arith, rest.2) })
    by (inr (inl low)) =
        subst (IsKept leaf) (sym (among-other leaf reply replies (λ same. absurd (omega (arith, same, low))))) (later low)
    by (inr (inr high)) =
        subst (IsKept leaf)
        (sym (among-other leaf reply replies (λ same. absurd (omega (arith, same, high))) ∙ among-below leaf reply 1 replies high is))
        (none-kept leaf)

among-later : (leaf : ℕ) (before : Reply) (count : ℕ) (replies : List Reply) → before.leaf < leaf → may_follow before count replies ≡ true
    → IsKept leaf (replies_among leaf replies)
among-later leaf before count [] low is = none-kept leaf
among-later leaf before count (reply ∷ replies) low is =
    by (λ n. among-later leaf reply n replies) (follows before count reply replies is)
  where
    by : ((n : ℕ) → reply.leaf < leaf → may_follow reply n replies ≡ true → IsKept leaf (replies_among leaf replies))
        → Follows before count reply replies → IsKept leaf (replies_among leaf (reply ∷ replies))
    by later (inl above) = among-first leaf reply replies (λ lower. later 1 lower above.1) above.1
    by later (inr next) =
        subst (IsKept leaf) (sym (among-other leaf reply replies (λ same. absurd (omega (arith, same, low, next.0)))))
        (later (count + 1) (omega (arith, low, next.0)) next.3)

-- each leaf's are those that a hub keeps
pub among-kept : (leaf : ℕ) (replies : List Reply) → are_kept replies ≡ true → IsKept leaf (replies_among leaf replies)
among-kept leaf [] is = none-kept leaf
among-kept leaf (reply ∷ replies) is = among-first leaf reply replies (λ lower. among-later leaf reply 1 replies lower is) is

-- ---- the places of a base's replies

pub replies_of-length : (first count : ℕ) (replies : List Reply) → length (replies_of first count replies) ≡ count
replies_of-length first zero replies = refl
replies_of-length first (suc count) replies = ap suc (replies_of-length (first + 1) count replies)

replies_of-kept : (first count : ℕ) (replies : List Reply) → are_kept replies ≡ true → (place : ℕ) (kept : List Reply)
    → slice_get (replies_of first count replies) place ≡ Some kept → IsKept (first + place) kept
replies_of-kept first zero replies is place kept at = absurd (cc)
replies_of-kept first (suc count) replies is zero kept at =
    let same : replies_among first replies ≡ kept = cc in
    let here : first ≡ first + 0 = omega arith in
    subst (IsKept (first + 0)) same (subst (λ leaf. IsKept leaf (replies_among first replies)) here (among-kept first replies is))
replies_of-kept first (suc count) replies is (suc place) kept at =
    let next : first + 1 + place ≡ first + suc place = omega arith in
    subst (λ leaf. IsKept leaf kept) next (replies_of-kept (first + 1) count replies is place kept at)

-- each leaf's replies are at its place
pub replies_of-placed : (leaves : ℕ) (replies : List Reply) → are_kept replies ≡ true → ArePlaced (replies_of 1 leaves replies)
replies_of-placed leaves replies is place kept at =
    let next : 1 + place ≡ suc place = omega arith in
    subst (λ leaf. IsKept leaf kept) next (replies_of-kept 1 leaves replies is place kept at)

-- ---- the replies that a hub keeps, one place after another

-- those at each place are to the leaf of that place, the first of which is this one
abbrev AreFrom : ℕ → List (List Reply) → Type 0
AreFrom first held = (place : ℕ) (kept : List Reply) → slice_get held place ≡ Some kept → IsKept (first + place) kept

from-here : (first : ℕ) (kept : List Reply) (held : List (List Reply)) → AreFrom first (kept ∷ held) → IsKept first kept
from-here first kept held placed =
    let here : first + 0 ≡ first = omega arith in subst (λ leaf. IsKept leaf kept) here (placed 0 kept refl)

from-rest : (first : ℕ) (one : List Reply) (held : List (List Reply)) → AreFrom first (one ∷ held) → AreFrom (first + 1) held
from-rest first one held placed place kept at =
    let next : first + suc place ≡ first + 1 + place = omega arith in
    subst (λ leaf. IsKept leaf kept) next (placed (suc place) kept at)

-- those to one leaf, and then what may follow any reply to it
one-follows : (leaf : ℕ) (before : Reply) (count : ℕ) (more rest : List Reply) → before.leaf ≡ leaf
    → Goes leaf (before.request + 1) count more → ((last : Reply) (n : ℕ) → last.leaf ≡ leaf → may_follow last n rest ≡ true)
    → may_follow before count (more ++ rest) ≡ true
one-follows leaf before count [] rest same these goes = goes before count same
one-follows leaf before count (reply ∷ more) rest same these goes =
    let at : reply.leaf ≡ leaf = these.0.0 in
    let level : nat_lt before.leaf reply.leaf ≡ false = grind (arith, nat_tests, same, at) in
    let to_it : (reply.leaf == before.leaf) ≡ true = eq-eqb reply.leaf before.leaf (at ∙ sym same) in
    let next : (reply.request == (before.request + 1)) ≡ true = eq-eqb reply.request (before.request + 1) these.1.0 in
    let room : nat_lt count 8 ≡ true = lt-ltb count 8 (omega (arith, these.2)) in
    rw (level, to_it, next, room)
    (one-follows leaf reply (count + 1) more rest at
    (these.0.1, subst (λ n. AreNumbered (n + 1) more) (sym these.1.0) these.1.1, omega (arith, these.2)) goes)

-- a place that has replies, and those after it
some-follow : (first : ℕ) (reply : Reply) (more : List Reply) (held : List (List Reply)) → AreFrom first ((reply ∷ more) ∷ held)
    → ((last : Reply) (n : ℕ) → last.leaf ≡ first → may_follow last n (replies_in held) ≡ true)
    → (reply.leaf ≡ first) × (may_follow reply 1 (more ++ replies_in held) ≡ true)
some-follow first reply more held placed goes =
    let kept = from-here first (reply ∷ more) held placed in
    let numbered = kept.1.numbered in (
      kept.0.0,
      one-follows first reply 1 more (replies_in held) kept.0.0
          (kept.0.1, subst (λ n. AreNumbered (n + 1) more) (sym numbered.0) numbered.1, omega (arith, kept.1.few)) goes,
    )

all-follow : (first : ℕ) (before : Reply) (count : ℕ) (held : List (List Reply)) → AreFrom first held → before.leaf < first
    → may_follow before count (replies_in held) ≡ true
all-follow first before count [] placed low = refl
all-follow first before count ([] ∷ held) placed low =
    all-follow (first + 1) before count held (from-rest first [] held placed) (omega (arith, low))
all-follow first before count ((reply ∷ more) ∷ held) placed low =
    let here = some-follow first reply more held placed
    (λ last n same. all-follow (first + 1) last n held (from-rest first (reply ∷ more) held placed) (omega (arith, same))) in
    let above : nat_lt before.leaf reply.leaf ≡ true = lt-ltb before.leaf reply.leaf (omega (arith, low, here.0)) in
    rw above here.1

kept-from : (first : ℕ) (held : List (List Reply)) → AreFrom first held → are_kept (replies_in held) ≡ true
kept-from first [] placed = refl
kept-from first ([] ∷ held) placed = kept-from (first + 1) held (from-rest first [] held placed)
kept-from first ((reply ∷ more) ∷ held) placed =
    (some-follow first reply more held placed
    (λ last n same. all-follow (first + 1) last n held (from-rest first (reply ∷ more) held placed) (omega (arith, same)))).1

few-from : (first : ℕ) (held : List (List Reply)) → AreFrom first held → length (replies_in held) ≤ 8 * length held
few-from first [] placed = omega arith
few-from first (kept ∷ held) placed =
    omega (
      arith,
      length-append kept (replies_in held),
      (from-here first kept held placed).1.few,
      few-from (first + 1) held (from-rest first kept held placed),
    )

-- those of a hub, whose first leaf is 1
from-one : (held : List (List Reply)) → ArePlaced held → AreFrom 1 held
from-one held placed place kept at =
    let next : suc place ≡ 1 + place = omega arith in subst (λ leaf. IsKept leaf kept) next (placed place kept at)

pub replies_in-kept : (held : List (List Reply)) → ArePlaced held → are_kept (replies_in held) ≡ true
replies_in-kept held placed = kept-from 1 held (from-one held placed)

pub replies_in-few : (held : List (List Reply)) → ArePlaced held → length (replies_in held) ≤ 8 * length held
replies_in-few held placed = few-from 1 held (from-one held placed)
