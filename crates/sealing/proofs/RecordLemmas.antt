-- Records, alone and one after the other.
use Rattle.std.proofs.Common.{◌≡◌, ℕ, zero, suc, ◌+◌, ◌<◌, ◌≤◌, true, List, [], ◌∷◌, ◌++◌, length, take, drop, get_or, refl, sym, ap, ◌∙◌}
use Rattle.std.proofs.Common.{append_assoc, append-nil, arith, length-append, length-take-le, take-append-drop, drop-drop, length-drop}
use Rattle.std.proofs.lemmas.Nat.{be_bytes_2}
use Rattle.std.specs.Int.{w16, w64, to_be_bytes}
use Rattle.std.specs.Str.{bytes_eq}
use Rattle.std.specs.List.{AllByRecursion}
use Rattle.sha2.specs.Sha256.{sha256}
use Rattle.sha2.proofs.Facts256.{length-sha256}
use Rattle.sealing.specs.Hmac.{hmac_of, xored}
use Rattle.sealing.specs.declared.kind.Kind.{Kind}
use Rattle.sealing.specs.Records.{tag_of, IsBody, sealed, all_sealed, content, carried}
use Rattle.sealing.specs.Streams.{said}
use Rattle.sealing.proofs.TagLemmas.{bytes_eq-equal}

-- ---- lengths

pub length-tag : (key : List ℕ) (count : ℕ) (body : List ℕ) → length (tag_of key count body) ≡ 16
unfolding hmac_of
length-tag key count body = length-take-le 16 (hmac_of key (to_be_bytes w64 count ++ body)) (omega (
  arith,
  length-sha256 (xored 0x5c key ++ sha256 (xored 0x36 key ++ (to_be_bytes w64 count ++ body))),
))

pub length-sealed : (key : List ℕ) (count : ℕ) (body : List ℕ) → length (sealed key count body) ≡ length body + 18
length-sealed key count body =
    omega (arith, length-tag key count body, length-append body (tag_of key count body))

-- ---- the record at the front

-- the two bytes of a length
two_bytes : (a b : ℕ) (more : List ℕ) (n : ℕ) → ((i : ℕ) → get_or (a ∷ b ∷ more) i 0 < 256) → n ≡ said (a ∷ b ∷ more)
    → to_be_bytes w16 n ≡ a ∷ b ∷ []
two_bytes a b more n fits is = be_bytes_2 (a ∷ b ∷ []) n refl two is
  where
    two : (i : ℕ) → get_or (a ∷ b ∷ []) i 0 < 256
    two zero = fits 0
    two (suc zero) = fits 1
    two (suc (suc i)) = omega arith

front_is : (bytes : List ℕ) (n : ℕ) → ((i : ℕ) → get_or bytes i 0 < 256) → n ≡ said bytes → 2 ≤ length bytes
    → bytes ≡ to_be_bytes w16 n ++ drop 2 bytes
front_is [] n fits is long = absurd (omega arith)
front_is (a ∷ []) n fits is long = absurd (omega arith)
front_is (a ∷ b ∷ more) n fits is long = ap (λ (d : List ℕ). d ++ more) (sym (two_bytes a b more n fits is))

-- bytes that are long enough and show the right tag begin with a record
pub whole_record : (key : List ℕ) (count : ℕ) (bytes : List ℕ) (n : ℕ) → ((i : ℕ) → get_or bytes i 0 < 256) → n ≡ said bytes
    → 2 + n + 16 ≤ length bytes → bytes_eq (tag_of key count (take n (drop 2 bytes))) (take 16 (drop (2 + n) bytes)) ≡ true
    → bytes ≡ sealed key count (take n (drop 2 bytes)) ++ drop (2 + n + 16) bytes
whole_record key count bytes n fits is long same =
    let body : List ℕ = take n (drop 2 bytes) in
    let rest : List ℕ = drop (2 + n + 16) bytes in
    let tag : List ℕ = tag_of key count body in
    let shown : List ℕ = take 16 (drop (2 + n) bytes) in
    let len : length body ≡ n = length-take-le n (drop 2 bytes) (omega (arith, length-drop 2 bytes)) in
    let behind : drop (2 + n) bytes ≡ shown ++ rest =
    sym (take-append-drop 16 (drop (2 + n) bytes)) ∙ ap (λ (l : List ℕ). shown ++ l) (drop-drop 16 (2 + n) bytes) in
    let more_is : drop 2 bytes ≡ body ++ (shown ++ rest) =
    sym (take-append-drop n (drop 2 bytes)) ∙ ap (λ (l : List ℕ). body ++ l) (drop-drop n 2 bytes ∙ behind) in
    let with_tag : body ++ (shown ++ rest) ≡ (body ++ tag) ++ rest =
    ap (λ (t : List ℕ). body ++ (t ++ rest)) (sym (bytes_eq-equal tag shown same)) ∙ sym (append_assoc body tag rest) in
    front_is bytes n fits is (omega arith) ∙ ap (λ (l : List ℕ). to_be_bytes w16 n ++ l) (more_is ∙ with_tag)
    ∙ ap (λ (k : ℕ). to_be_bytes w16 k ++ ((body ++ tag) ++ rest)) (sym len)
    ∙ sym (append_assoc (to_be_bytes w16 (length body)) (body ++ tag) rest)

-- ---- several records

pub all_sealed-append : (key : List ℕ) (count : ℕ) (xs ys : List (List ℕ))
    → all_sealed key count (xs ++ ys) ≡ all_sealed key count xs ++ all_sealed key (count + length xs) ys
all_sealed-append key count [] ys = ap (λ (c : ℕ). all_sealed key c ys) {x = count} {y = count + 0} (omega arith)
all_sealed-append key count (x ∷ xs) ys =
    ap (λ (l : List ℕ). sealed key count x ++ l) (all_sealed-append key (count + 1) xs ys)
    ∙ sym (append_assoc (sealed key count x) (all_sealed key (count + 1) xs) (all_sealed key (count + 1 + length xs) ys))
    ∙ ap (λ (c : ℕ). all_sealed key count (x ∷ xs) ++ all_sealed key c ys) {x = count + 1 + length xs} {y = count + suc (length xs)} (omega arith)

-- one record more after some bytes
pub all_sealed-push : (key before : List ℕ) (first : ℕ) (bodies : List (List ℕ)) (body : List ℕ)
    → (before ++ all_sealed key first bodies) ++ sealed key (first + length bodies) body
    ≡ before ++ all_sealed key first (bodies ++ body ∷ [])
all_sealed-push key before first bodies body =
    let last : List ℕ = sealed key (first + length bodies) body in
    append_assoc before (all_sealed key first bodies) last
    ∙ ap (λ (l : List ℕ). before ++ (all_sealed key first bodies ++ l)) (sym (append-nil last))
    ∙ ap (λ (l : List ℕ). before ++ l) (sym (all_sealed-append key first bodies (body ∷ [])))

pub carried-append : (kind : Kind) (xs ys : List (List ℕ)) → carried kind (xs ++ ys) ≡ carried kind xs ++ carried kind ys
carried-append kind [] ys = refl
carried-append kind (x ∷ xs) ys =
    ap (λ (l : List ℕ). content kind x ++ l) (carried-append kind xs ys)
    ∙ sym (append_assoc (content kind x) (carried kind xs) (carried kind ys))

pub carried-push : (kind : Kind) (bodies : List (List ℕ)) (body : List ℕ)
    → carried kind (bodies ++ body ∷ []) ≡ carried kind bodies ++ content kind body
carried-push kind bodies body =
    carried-append kind bodies (body ∷ []) ∙ ap (λ (l : List ℕ). carried kind bodies ++ l) (append-nil (content kind body))

pub all_good-append : (xs ys : List (List ℕ)) → AllByRecursion IsBody xs → AllByRecursion IsBody ys → AllByRecursion IsBody (xs ++ ys)
all_good-append [] ys p q = q
all_good-append (x ∷ xs) ys p q = (p.0, all_good-append xs ys p.1 q)
