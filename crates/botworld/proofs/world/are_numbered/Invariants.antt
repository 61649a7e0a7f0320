use Rattle.std.proofs.Common.{◌≡◌, ◌<◌, ℕ, length, slice_get, Some}
use Rattle.botcore.specs.Bots.{Bot}
use Rattle.botworld.specs.Network.{IsNumberedAt}
use Rattle.botworld.proofs.world.are_numbered.Given as goal

-- the bots so far are numbered
abbrev pub invariant-loop-place : goal.invariant-loop-place
invariant-loop-place g l = (place : ℕ) (b : Bot) → place < l.place → slice_get l.bots place ≡ Some b → IsNumberedAt (length l.bots) place b
