-- What several steps of a writer add.
use Rattle.std.proofs.Common.{◌≡◌, ◌∙◌, ◌++◌, ◌+◌, ◌≤◌, ◌<◌, ◌^◌, nat_le, ℕ, true, List, length, length-append, append_assoc, decimal, ap, sym, arith}
use Rattle.std.proofs.lemmas.Bool.Decides.{nat_tests}
use Rattle.std.proofs.lemmas.Fmt.{length-decimal-le}
use Rattle.page.specs.Answers.{BeginsWith}
use Rattle.page.specs.Writing.{Adds, AddsSome, Written, nothing}

-- one text after another
pub adds_both : (a b c : Written) (xs ys : List ℕ) → Adds a xs b → Adds b ys c → Adds a (xs ++ ys) c
adds_both a b c xs ys first second whole =
    let after = second whole in
    let before = first after.0 in
    (before.0, after.1 ∙ ap (λ bytes. bytes ++ ys) before.1 ∙ append_assoc a.bytes xs ys)

-- a text of at most so many bytes
pub adds_some : (a b : Written) (xs : List ℕ) (most : ℕ) → Adds a xs b → length xs ≤ most → AddsSome a most b
adds_some a b xs most adds short whole = let is = adds whole in (is.0, (xs, (is.1, short)))

-- a text whose length computes
pub adds_words : (a b : Written) (xs : List ℕ) (most : ℕ) → Adds a xs b → nat_le (length xs) most ≡ true → AddsSome a most b
adds_words a b xs most adds short = adds_some a b xs most adds (grind (arith, nat_tests))

pub decimal_short : (n : ℕ) → n < 2 ^ 64 → length (decimal n) ≤ 20
decimal_short n small = length-decimal-le 20 n (omega arith) (omega (arith, small)) small

-- some bytes after others
pub some_more : (a b c : Written) (most more : ℕ) → AddsSome a most b → AddsSome b more c → AddsSome a (most + more) c
some_more a b c most more first second whole =
    let after = second whole in
    let before = first after.0 in
    let xs = before.1.0 in
    let ys = after.1.0 in
    (before.0, (xs ++ ys, (after.1.1.0 ∙ ap (λ bytes. bytes ++ ys) before.1.1.0 ∙ append_assoc a.bytes xs ys, both xs ys before.1.1.1 after.1.1.1)))
  where
    both : (xs ys : List ℕ) → length xs ≤ most → length ys ≤ more → length (xs ++ ys) ≤ most + more
    both xs ys short shorter = let sum : length (xs ++ ys) ≡ length xs + length ys = length-append xs ys in omega arith

-- a head begins with its line
pub begins : (line bytes : List ℕ) (most : ℕ) (a b : Written) → Adds nothing line a → AddsSome a most b → b ≡ record { bytes = bytes; is_whole = true }
    → BeginsWith line bytes × (length bytes ≤ length line + most)
begins line bytes most a b first second whole =
    let after = second (ap (λ (w : Written). w.is_whole) whole) in
    let before = first after.0 in
    let more = after.1.0 in
    let same : bytes ≡ line ++ more = sym (ap (λ (w : Written). w.bytes) whole) ∙ after.1.1.0 ∙ ap (λ front. front ++ more) before.1 in
    ((more, same), short more same after.1.1.1)
  where
    short : (more : List ℕ) → bytes ≡ line ++ more → length more ≤ most → length bytes ≤ length line + most
    short more same few = let sum : length bytes ≡ length line + length more = ap length same ∙ length-append line more in omega arith
