-- The first of some members by their nicks.
use Rattle.std.proofs.Common.{◌≡◌, ◌∙◌, ◌<◌, ◌&&◌, not, ℕ, zero, suc, List, Bool, true, false, refl, ap, sym, arith, Ordering, Less, Equal, Greater}
use Rattle.std.specs.List.{list_any, count_by}
use Rattle.std.specs.Cmp.{tied_itself}
use Rattle.std.specs.Cmp.Lexicographic.{slice_cmp, nat_list_cmp_total, bytes_decides}
use Rattle.std.specs.Ordering.{nat_cmp, is_lt}
use Rattle.std.proofs.lemmas.Bool.{and_from, and_parts}
use Rattle.rfccase.specs.declared.casemappings.Casemapping.{Casemapping}
use Rattle.rfccase.specs.Casemapping.{folded_by, is_same_by, IsSameBy}
use Rattle.chanstate.specs.declared.member.Member.{Member}
use Rattle.chanstate.specs.Members.{is_called}
use Rattle.eggprocs.specs.Hands.{comes_before}
use Rattle.eggprocs.proofs.Lists.{any-more, fewer, among}

-- ---- the order of nicks

less-is : (o : Ordering) → is_lt o ≡ true → o ≡ Less
less-is Less e = refl
less-is Equal e = cc
less-is Greater e = cc

-- nothing comes before itself
pub not-before-itself : (mapping : Casemapping) (nick other : List ℕ) → IsSameBy mapping nick other → comes_before mapping nick other ≡ false
not-before-itself mapping nick other same =
    ap (λ (text : List ℕ). is_lt (slice_cmp nat_cmp text (folded_by mapping other))) same
    ∙ ap is_lt (tied_itself nat_list_cmp_total (folded_by mapping other))

onward : (mapping : Casemapping) (a b c : List ℕ) → comes_before mapping a b ≡ true → comes_before mapping b c ≡ true
    → comes_before mapping a c ≡ true
onward mapping a b c first second =
    ap is_lt (nat_list_cmp_total.trans (folded_by mapping a) (folded_by mapping b) (folded_by mapping c)
    (less-is (slice_cmp nat_cmp (folded_by mapping a) (folded_by mapping b)) first)
    (less-is (slice_cmp nat_cmp (folded_by mapping b) (folded_by mapping c)) second))

pub same-is : (mapping : Casemapping) (a b : List ℕ) → is_same_by mapping a b ≡ true → IsSameBy mapping a b
same-is mapping a b = (bytes_decides (folded_by mapping a) (folded_by mapping b)).0

-- who has the nick of one that comes before another comes before it too
pub called-before : (mapping : Casemapping) (nick other : List ℕ) (member : Member) → is_called mapping nick member ≡ true
    → comes_before mapping nick other ≡ true → comes_before mapping member.nick other ≡ true
called-before mapping nick other member called before =
    let same : IsSameBy mapping member.nick nick = sym (same-is mapping nick member.nick called) in
    ap (λ (text : List ℕ). is_lt (slice_cmp nat_cmp text (folded_by mapping other))) same ∙ before

-- ---- the first of those that pass a test

-- one that passes the test, and comes before a nick
abbrev pub is_prior : Casemapping → (Member → Bool) → List ℕ → Member → Bool
is_prior mapping may nick member = comes_before mapping member.nick nick && may member

-- fewer come before one of them than before a nick that it comes before
pub counts-apart : (mapping : Casemapping) (may : Member → Bool) (members : List Member) (nick other : List ℕ) → comes_before mapping nick other ≡ true
    → list_any (λ member. is_called mapping nick member && may member) members ≡ true
    → count_by (is_prior mapping may nick) members < count_by (is_prior mapping may other) members
counts-apart mapping may members nick other before there =
    fewer (is_prior mapping may nick) (is_prior mapping may other) wider members
    (any-more (λ member. is_called mapping nick member && may member)
    (λ member. is_prior mapping may other member && not (is_prior mapping may nick member)) members between there)
  where
    wider : (member : Member) → is_prior mapping may nick member ≡ true → is_prior mapping may other member ≡ true
    wider member ahead =
        let parts = and_parts (comes_before mapping member.nick nick) (may member) ahead in
        and_from (comes_before mapping member.nick other) (may member) (onward mapping member.nick nick other parts.0 before) parts.1

    between : (member : Member) → (is_called mapping nick member && may member) ≡ true
        → (is_prior mapping may other member && not (is_prior mapping may nick member)) ≡ true
    between member is =
        let parts = and_parts (is_called mapping nick member) (may member) is in
        and_from (is_prior mapping may other member) (not (is_prior mapping may nick member))
        (and_from (comes_before mapping member.nick other) (may member) (called-before mapping nick other member parts.0 before) parts.1)
        (ap (λ (b : Bool). not (b && may member)) (not-before-itself mapping member.nick nick (sym (same-is mapping nick member.nick parts.0))))

-- one of them that none of them comes before
pub record First (mapping : Casemapping) (may : Member → Bool) (members : List Member) : Type 0 where
  pub one : Member
  pub passes : may one ≡ true
  pub none : list_any (is_prior mapping may one.nick) members ≡ false
  pub any : (q : Member → Bool) → q one ≡ true → list_any q members ≡ true

module _ (mapping : Casemapping) (may : Member → Bool) (members : List Member) where
  -- one of them is the first, or one comes before it, and the search goes on from that one
  first-from : (steps : ℕ) (member : Member) → may member ≡ true → ((q : Member → Bool) → q member ≡ true → list_any q members ≡ true)
      → count_by (is_prior mapping may member.nick) members < steps → First mapping may members
  first-from zero member passes any few = absurd (omega (arith, few))
  first-from (suc steps) member passes any few = by (first-from steps) (list_any (is_prior mapping may member.nick) members) refl
    where
      by : ((next : Member) → may next ≡ true → ((q : Member → Bool) → q next ≡ true → list_any q members ≡ true)
          → count_by (is_prior mapping may next.nick) members < steps → First mapping may members)
          → (some : Bool) → list_any (is_prior mapping may member.nick) members ≡ some → First mapping may members
      by from-next false none = record { one = member; passes = passes; none = none; any = any }
      by from-next true some =
          let next = among (is_prior mapping may member.nick) members some in
          let parts = and_parts (comes_before mapping next.one.nick member.nick) (may next.one) next.passes in
          let less = counts-apart mapping may members next.one.nick member.nick parts.0
          (next.any (λ one. is_called mapping next.one.nick one && may one)
          (and_from (is_called mapping next.one.nick next.one) (may next.one)
          ((bytes_decides (folded_by mapping next.one.nick) (folded_by mapping next.one.nick)).1 refl) parts.1)) in
          from-next next.one parts.1 next.any (omega (arith, less, few))

-- if some pass the test, there is a first
pub first-of : (mapping : Casemapping) (may : Member → Bool) (members : List Member) → list_any may members ≡ true → First mapping may members
first-of mapping may members some =
    let one = among may members some in
    first-from mapping may members (suc (count_by (is_prior mapping may one.one.nick) members)) one.one one.passes one.any (omega arith)
