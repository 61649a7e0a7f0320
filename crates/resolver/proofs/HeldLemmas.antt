-- The addresses of an answer stand in the reply.
use Rattle.std.proofs.Common.{◌≡◌, ◌∙◌, ℕ, zero, suc, ◌+◌, ◌-◌, Bool, true, false, List, [], ◌∷◌, ◌++◌, length, take, drop, Option, None, Some, ap, sym, refl, subst}
use Rattle.std.specs.Prelude.{option_and_then, if◌then◌else◌, nat_lt, ◌==◌, IfSome}
use Rattle.std.specs.Option.{option_map}
use Rattle.std.specs.List.{AllByRecursion}
use Rattle.std.specs.Str.{bytes_eq}
use Rattle.std.proofs.lemmas.List.{drop-drop}
use Rattle.std.proofs.lemmas.Slice.Eq.{bytes_eq-Decides}
use Rattle.std.specs.declared.net.ip_addr.IpAddr.{IpAddr}
use Rattle.std.proofs.lemmas.Option.{same_Some}
use Rattle.resolver.specs.declared.family.Family.{Family}
use Rattle.resolver.specs.declared.reply.NameAnswer.{NameAnswer}
use Rattle.resolver.specs.declared.reply.NameAnswer.TheVariants.{Found, Nothing}
use Rattle.resolver.specs.declared.addresses.TheConstants.{MAX_ADDRESSES}
use Rattle.resolver.specs.Queries.{Asked, kind_and_class}
use Rattle.resolver.specs.Replies.{Held, number_at, put, address_of, behind_byte, after_name, record_in, record_at, noted, found_at, is_cut, code_in, answer_with, found_in, answer_in}
use Rattle.resolver.specs.Held.{IsHeld, AreHeld}
use Rattle.resolver.proofs.RecordLemmas.{found_at-zero, found_at-suc}

-- ---- options

none_is : {A : Type 0} (P : Type 0) (y : A) → (let s : Option A = None in s) ≡ Some y → P
none_is P y e = cc

-- what holds of either choice
picks : {A P : Type 0} (t : Bool) (x y : Option A) (z : A) → (x ≡ Some z → P) → (y ≡ Some z → P) → (if t then x else y) ≡ Some z → P
picks true x y z p q e = p e
picks false x y z p q e = q e

-- ---- the end of a text

-- these bytes are the end of a text, from some place on
abbrev IsEnd : List ℕ → List ℕ → Type 0
IsEnd text rest = (place : ℕ) × (rest ≡ drop place text)

end_drop : (text bytes : List ℕ) (count : ℕ) → IsEnd text bytes → IsEnd text (drop count bytes)
end_drop text bytes count (place, is) = (place + count, ap (drop count) is ∙ drop-drop count place text)

end_is : (text bytes rest : List ℕ) → (let s : Option (List ℕ) = Some bytes in s) ≡ Some rest → IsEnd text bytes → IsEnd text rest
end_is text bytes rest e end = subst (IsEnd text) (same_Some bytes rest e) end

behind_byte-end : (text bytes rest : List ℕ) → IsEnd text bytes → behind_byte bytes ≡ Some rest → IsEnd text rest
behind_byte-end text [] rest end e = none_is _ rest e
behind_byte-end text (b ∷ bs) rest end e = end_is text bs rest e (end_drop text (b ∷ bs) 1 end)

after_name-end : (text : List ℕ) (left : ℕ) (bytes rest : List ℕ) → IsEnd text bytes → after_name left bytes ≡ Some rest → IsEnd text rest
after_name-end text left [] rest end e = none_is _ rest e
after_name-end text left (b ∷ bs) rest end e =
    let behind = end_drop text (b ∷ bs) 1 end in
    picks (nat_lt 0 left) _ _ rest (after_name-end text (left - 1) bs rest behind)
    (picks (b == 0) _ _ rest (λ e. end_is text bs rest e behind)
    (picks (nat_lt b 64) _ _ rest (after_name-end text b bs rest behind)
    (picks (nat_lt b 192) _ _ rest (none_is _ rest) (behind_byte-end text bs rest behind)))) e

-- ---- records

-- a record whose fields after the name stand at this place
record IsAt (reply : List ℕ) (held : Held) : Type 0 where
  place : ℕ
  kind : held.kind ≡ take 4 (drop place reply)
  contents : held.contents ≡ take (number_at 8 (drop place reply)) (drop (place + 10) reply)
  end : IsEnd reply held.rest

record_in-at : (reply bytes : List ℕ) (held : Held) → IsEnd reply bytes → record_in bytes ≡ Some held → IsAt reply held
record_in-at reply bytes held (place, is) e =
    picks (nat_lt (length bytes) 10) _ _ held (none_is _ held)
    (picks (nat_lt (length (drop 10 bytes)) (number_at 8 bytes)) _ _ held (none_is _ held) (λ e.
    let same = same_Some _ held e in
    record {
      place = place;
      kind = sym (ap (λ h. h.kind) same) ∙ ap (take 4) is;
      contents = sym (ap (λ h. h.contents) same)
          ∙ ap (λ bs. take (number_at 8 bs) (drop 10 bs)) is
          ∙ ap (take (number_at 8 (drop place reply))) (drop-drop 10 place reply);
      end = subst (IsEnd reply) (ap (λ h. h.rest) same) (end_drop reply (drop 10 bytes) (number_at 8 bytes)
          (end_drop reply bytes 10 (place, is)));
    })) e

and_then-at : (reply : List ℕ) (after : Option (List ℕ)) (held : Held) → ((rest : List ℕ) → after ≡ Some rest → IsEnd reply rest)
    → option_and_then record_in after ≡ Some held → IsAt reply held
and_then-at reply None held ends e = none_is _ held e
and_then-at reply (Some rest) held ends e = record_in-at reply rest held (ends rest refl) e

record_at-at : (reply bytes : List ℕ) (held : Held) → IsEnd reply bytes → record_at bytes ≡ Some held → IsAt reply held
record_at-at reply bytes held end e = and_then-at reply (after_name 0 bytes) held (λ rest. after_name-end reply 0 bytes rest end) e

-- ---- addresses

all_put : (P : IpAddr → Type 0) (found : List IpAddr) (address : IpAddr) → AllByRecursion P found → P address
    → AllByRecursion P (found ++ address ∷ [])
all_put P [] address all is = (is, tt)
all_put P (x ∷ found) address all is = (all.0, all_put P found address all.1 is)

put-all : (P : IpAddr → Type 0) (t : Bool) (found : List IpAddr) (address : IpAddr) → AllByRecursion P found → P address
    → AllByRecursion P (if t then found ++ address ∷ [] else found)
put-all P true found address all is = all_put P found address all is
put-all P false found address all is = all

taken : (family : Family) (reply : List ℕ) (found longer : List IpAddr) (read : Option IpAddr)
    → ((address : IpAddr) → read ≡ Some address → IsHeld family reply address) → AllByRecursion (IsHeld family reply) found
    → option_map (λ address. put address found) read ≡ Some longer → AllByRecursion (IsHeld family reply) longer
taken family reply found longer None held all e = none_is _ longer e
taken family reply found longer (Some address) held all e =
    subst (AllByRecursion (IsHeld family reply)) (same_Some _ longer e)
    (put-all (IsHeld family reply) (nat_lt (length found) MAX_ADDRESSES) found address all (held address refl))

noted-held : (family : Family) (reply : List ℕ) (found longer : List IpAddr) (held : Held) (t : Bool)
    → bytes_eq held.kind (kind_and_class family) ≡ t → IsAt reply held → AllByRecursion (IsHeld family reply) found
    → (if t then option_map (λ address. put address found) (address_of family held.contents) else Some found) ≡ Some longer
    → AllByRecursion (IsHeld family reply) longer
noted-held family reply found longer held true same at all e =
    taken family reply found longer (address_of family held.contents)
    (λ address is. record {
      place = at.place;
      kind = sym at.kind ∙ (bytes_eq-Decides held.kind (kind_and_class family)).0 same;
      holds = sym (ap (address_of family) at.contents) ∙ is;
    }) all e
noted-held family reply found longer held false same at all e =
    subst (AllByRecursion (IsHeld family reply)) (same_Some found longer e) all

abbrev AllHeld : Family → List ℕ → List IpAddr → Type 0
AllHeld family reply found = AllByRecursion (IsHeld family reply) found

-- one record more, if it is noted
more-held : (family : Family) (reply : List ℕ) (all : List IpAddr) (next : List IpAddr → Option (List IpAddr)) (longer : Option (List IpAddr))
    → ((xs : List IpAddr) → longer ≡ Some xs → AllHeld family reply xs)
    → ((xs : List IpAddr) → AllHeld family reply xs → next xs ≡ Some all → AllHeld family reply all)
    → option_and_then next longer ≡ Some all → AllHeld family reply all
more-held family reply all next None held goes e = none_is _ all e
more-held family reply all next (Some xs) held goes e = goes xs (held xs refl) e

step-held : (family : Family) (reply : List ℕ) (all : List IpAddr) (next : Held → Option (List IpAddr)) (held : Option Held)
    → ((h : Held) → held ≡ Some h → IsAt reply h)
    → ((h : Held) → IsAt reply h → next h ≡ Some all → AllHeld family reply all)
    → option_and_then next held ≡ Some all → AllHeld family reply all
step-held family reply all next None at goes e = none_is _ all e
step-held family reply all next (Some h) at goes e = goes h (at h refl) e

found_at-held : (family : Family) (count : ℕ) (reply : List ℕ) (found all : List IpAddr) (bytes : List ℕ) → IsEnd reply bytes
    → AllHeld family reply found → found_at family count found bytes ≡ Some all → AllHeld family reply all
found_at-held family zero reply found all bytes end held e =
    subst (AllHeld family reply) (same_Some found all (sym (found_at-zero family found bytes) ∙ e)) held
found_at-held family (suc n) reply found all bytes end held e =
    step-held family reply all _ (record_at bytes) (λ h. record_at-at reply bytes h end)
    (λ h at. more-held family reply all (λ longer. found_at family n longer h.rest) (noted family found h.kind h.contents)
    (λ xs. noted-held family reply found xs h (bytes_eq h.kind (kind_and_class family)) refl at held)
    (λ xs held. found_at-held family n reply xs all h.rest at.end held))
    (sym (found_at-suc family n found bytes) ∙ e)

-- ---- answers

with-held : (family : Family) (reply : List ℕ) (cut : Bool) (found : List IpAddr) (answer : NameAnswer) → AllHeld family reply found
    → answer_with cut found ≡ Some answer → AreHeld family reply answer
with-held family reply true [] answer held e = none_is _ answer e
with-held family reply false [] answer held e = subst (AreHeld family reply) (same_Some Nothing answer e) tt
with-held family reply cut (x ∷ found) answer held e = subst (AreHeld family reply) (same_Some (Found (x ∷ found)) answer e) held

whole-held : (family : Family) (reply : List ℕ) (cut : Bool) (found : Option (List IpAddr)) (answer : NameAnswer)
    → ((xs : List IpAddr) → found ≡ Some xs → AllHeld family reply xs)
    → option_and_then (answer_with cut) found ≡ Some answer → AreHeld family reply answer
whole-held family reply cut None answer held e = none_is _ answer e
whole-held family reply cut (Some xs) answer held e = with-held family reply cut xs answer (held xs refl) e

answer_in-held : (asked : Asked) (reply : List ℕ) (answer : NameAnswer) → answer_in asked reply ≡ Some answer
    → AreHeld asked.family reply answer
answer_in-held asked reply answer e =
    picks (code_in reply == 0) _ _ answer
    (whole-held asked.family reply (is_cut reply) (found_in asked reply) answer
    (λ xs. found_at-held asked.family (number_at 6 reply) reply [] xs (drop (length asked.bytes) reply) (length asked.bytes, refl) tt))
    (picks (code_in reply == 3) _ _ answer (λ e. subst (AreHeld asked.family reply) (same_Some Nothing answer e) tt) (none_is _ answer)) e

-- what an answer holds stands in the reply
pub answer-held : (asked : Asked) (reply : List ℕ) (answer : Option NameAnswer) → answer ≡ answer_in asked reply
    → IfSome answer (AreHeld asked.family reply)
answer-held asked reply None is = tt
answer-held asked reply (Some answer) is = answer_in-held asked reply answer (sym is)
