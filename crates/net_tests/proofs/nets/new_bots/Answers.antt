use Rattle.std.proofs.Common.{◌≡◌, ◌⊎◌, ℕ, zero, suc, List, [], ◌∷◌, ◌++◌, slice_get, Some, ap, sym, subst, ◌∙◌, inl, inr}
use Rattle.botcore.specs.Bots.{Bot, new_bot}
use Rattle.botworld.specs.Network.{AllNew}
use Rattle.net_tests.proofs.nets.new_bots.Goals as goal

-- one more at the end
one_more : (xs : List Bot) (y : Bot) (i : ℕ) (x : Bot) → slice_get (xs ++ y ∷ []) i ≡ Some x → (slice_get xs i ≡ Some x) ⊎ (y ≡ x)
one_more [] y zero x e = inr cc
one_more [] y (suc i) x e = cc
one_more (z ∷ xs) y zero x e = inl e
one_more (z ∷ xs) y (suc i) x e = one_more xs y i x e

-- one new bot more
AllNew-more : (bots all : List Bot) (bot : Bot) → AllNew bots → bot ≡ new_bot bot.config bot.link.device → all ≡ bots ++ bot ∷ [] → AllNew all
AllNew-more bots all bot new made added = λ place b e.
    elim (one_more bots bot place b (ap (λ (l : List Bot). slice_get l place) (sym added) ∙ e)) [
      | inl h ↦ new place b h
      | inr h ↦ subst (λ (x : Bot). x ≡ new_bot x.config x.link.device) h made
    ]

pub loop-number-preserved : goal.loop-number-preserved
loop-number-preserved c =
    AllNew-more c.loop-number.bots.items c.push.new.self.items c.in_ok-new_bot.field-0 c.loop-number.invariant c.in_ok-new_bot.ensures
    c.in_ok-push.ensures.items
