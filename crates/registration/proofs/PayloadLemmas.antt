-- The pieces of a login's message.
use Rattle.std.proofs.Common.{◌≡◌, ℕ, suc, ◌-◌, ◌/◌, ◌<◌, ◌≤◌, List, [], ◌∷◌, ◌++◌, length, take, drop, ap, ◌∙◌, sym, arith, length-drop, append_assoc}
use Rattle.registration.specs.declared.limits.TheConstants.{PIECE}
use Rattle.registration.specs.Payloads.{lines_from, or_plus, payload_lines, piece_line}

div_step : (n : ℕ) → 400 ≤ n → n / 400 ≡ suc ((n - 400) / 400)
div_step n more = omega arith

div_end : (n : ℕ) → n < 400 → n / 400 ≡ 0
div_end n less = omega arith

-- a text that has a whole piece
pub lines_step : (text : List ℕ) → PIECE ≤ length text
    → payload_lines text ≡ piece_line (take PIECE text) ∷ payload_lines (drop PIECE text)
lines_step text more =
    ap (λ n. lines_from n text) {x = length text / 400} {y = suc ((length text - 400) / 400)} (div_step (length text) more)
    ∙ ap (λ n. piece_line (take 400 text) ∷ lines_from (n / 400) (drop 400 text)) (sym (length-drop 400 text))

-- a text that has none
pub lines_end : (text : List ℕ) → length text < PIECE → payload_lines text ≡ piece_line (or_plus text) ∷ []
lines_end text less = ap (λ n. lines_from n text) {x = length text / 400} {y = 0} (div_end (length text) less)

-- the lines of a whole piece and of the rest, after others
pub more_lines : (lines : List (List ℕ)) (text : List ℕ) → PIECE ≤ length text
    → (lines ++ piece_line (take PIECE text) ∷ []) ++ payload_lines (drop PIECE text) ≡ lines ++ payload_lines text
more_lines lines text more =
    append_assoc lines (piece_line (take PIECE text) ∷ []) (payload_lines (drop PIECE text))
    ∙ ap (λ (l : List (List ℕ)). lines ++ l) (sym (lines_step text more))
