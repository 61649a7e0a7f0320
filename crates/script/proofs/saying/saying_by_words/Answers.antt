use Rattle.std.proofs.Common.{◌≡◌, ℕ, ◌-◌, ◌<◌, IfOk, arith, subst, refl, length, List, [], ◌∷◌}
use Rattle.std.specs.Borrow.{Bor}
use Rattle.script.specs.declared.saying.Saying.{Saying}
use Rattle.script.specs.declared.saying.Saying.TheVariants.{Wrong}
use Rattle.script.specs.Grammar.{saying_by_words}
use Rattle.script.proofs.Sayings.{more_words-at, now_of}
use Rattle.script.proofs.saying.saying_by_words.Goals as goal

pub returns-in-len3-up : goal.returns-in-len3-up
returns-in-len3-up c =
    subst (λ (x : Saying). IfOk c.more_words.result (λ saying. saying ≡ x))
    (more_words-at c.args.words.now (record { ref_ptr = (0, 0); now = [] }) (length c.args.words.now - 3) (omega arith) (omega arith)) c.more_words.ensures

-- fewer than two words say nothing that is right
few_words : (words : List (Bor (List ℕ))) → length words < 2 → Wrong ≡ saying_by_words (now_of words)
few_words [] few = refl
few_words (verb ∷ []) few = refl
few_words (verb ∷ a ∷ words) few = absurd (omega arith)

pub returns-in-empty : goal.returns-in-empty
returns-in-empty c = few_words c.args.words.now c.in-empty.len_below
