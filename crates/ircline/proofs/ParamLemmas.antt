-- The parameters of a text, one at a time.
use Rattle.std.proofs.Common.{◌≡◌, ℕ, zero, suc, ◌+◌, ◌-◌, ◌<◌, true, false, List, [], ◌∷◌, ◌++◌, refl, sym, ◌∙◌, ap, arith, append_assoc}
use Rattle.ircline.specs.Words.{before}
use Rattle.ircline.specs.Reading.{flush, tail_of, last_param, is_last, params_at}

pub params_at-zero : (text : List ℕ) → params_at 0 text ≡ last_param text
unfolding params_at
params_at-zero text = refl

pub params_at-last : (n : ℕ) (text : List ℕ) → is_last text ≡ true → params_at n text ≡ last_param text
unfolding params_at
params_at-last zero text last = refl
params_at-last (suc n) text last = rw last refl

pub params_at-more : (n : ℕ) (text : List ℕ) → is_last text ≡ false → params_at (suc n) text ≡ before 32 text ∷ params_at n (flush (tail_of text))
unfolding params_at
params_at-more n text more = rw more refl

-- one more parameter that ends at a space
pub params_step : (ps qs : List (List ℕ)) (p text behind next : List ℕ) (all : List (List ℕ)) (i : ℕ) → i < 14 → ps ++ params_at (14 - i) text ≡ all
    → is_last text ≡ false → p ≡ before 32 text → behind ≡ tail_of text → next ≡ flush behind → qs ≡ ps ++ p ∷ [] → qs ++ params_at (14 - (i + 1)) next ≡ all
params_step ps qs p text behind next all i lt so_far more p-is behind-is next-is qs-is =
    let count : 14 - i ≡ suc (14 - (i + 1)) = omega arith in
    let one : params_at (14 - i) text ≡ p ∷ params_at (14 - (i + 1)) next = ap (λ (n : ℕ). params_at n text) count
    ∙ params_at-more (14 - (i + 1)) text more ∙ (rw (p-is, next-is, behind-is) refl) in
    ap (λ (x : List (List ℕ)). x ++ params_at (14 - (i + 1)) next) qs-is ∙ append_assoc ps (p ∷ []) (params_at (14 - (i + 1)) next)
    ∙ ap (λ (x : List (List ℕ)). ps ++ x) (sym one) ∙ so_far
