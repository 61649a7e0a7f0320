-- Lists of seconds.
use Rattle.std.proofs.Common.{◌≡◌, ℕ, zero, suc, ◌+◌, [], ◌∷◌, ◌++◌, arith, ap, ◌∙◌}
use Rattle.std.specs.List.{range_with_len}

-- one second more
pub range_more : (a n j : ℕ) → a + n ≡ j → range_with_len a (n + 1) ≡ range_with_len a n ++ j ∷ []
range_more a zero j last = let same : a ≡ j = omega (arith, last) in ap (λ k. k ∷ []) same
range_more a (suc n) j last =
    let more : suc n + 1 ≡ suc (n + 1) = omega arith in
    ap (range_with_len a) more ∙ ap (λ ks. a ∷ ks) (range_more (a + 1) n j (omega (arith, last)))
