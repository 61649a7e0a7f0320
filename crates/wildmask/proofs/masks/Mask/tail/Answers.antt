use Rattle.std.proofs.Common.{◌≡◌, ◌≤◌, List, ℕ, length, subst, sym, arith}
use Rattle.wildmask.specs.Masks.{mask_items}
use Rattle.wildmask.specs.Tails.{end_key}
use Rattle.wildmask.proofs.MatchLemmas.{Matches-wider}
use Rattle.wildmask.proofs.TailLemmas.{tail_ends, length-tail_of}
use Rattle.wildmask.proofs.masks.Mask.tail.Goals as goal

pub returns-clause-value : goal.returns-clause-value
returns-clause-value c = c.last_literals.ensures

pub returns-clause-ends : goal.returns-clause-ends
returns-clause-ends c = λ by text m. subst (λ (xs : List ℕ). xs
    ≡ end_key (length xs) text) (sym (returns-clause-value c)) (tail_ends (mask_items c.args.self.now) text (Matches-wider by (mask_items c.args.self.now) text m)).0

pub returns-clause-within : goal.returns-clause-within
returns-clause-within c = λ by text m. subst (λ (xs : List ℕ). length xs ≤ length text) (sym (returns-clause-value c))
    (tail_ends (mask_items c.args.self.now) text (Matches-wider by (mask_items c.args.self.now) text m)).1

pub returns-clause-short : goal.returns-clause-short
returns-clause-short c = subst (λ (xs : List ℕ). length xs ≤ 16) (sym (returns-clause-value c)) (omega (arith, length-tail_of (mask_items c.args.self.now)))
