-- Which servers are tried one after another.
use Rattle.std.specs.Prelude.{◌≡◌, ◌<◌, ℕ, Bool, ◌||◌, List, [], ◌∷◌, length}
use Rattle.net.specs.Dials.{Dials, lost}

-- a try that failed at this second, or a connection that was lost then, which was good or not
pub record Loss : Type 0 where
  pub now : ℕ
  pub was_good : Bool

abbrev pub after_loss : Dials → Loss → Dials
after_loss dials loss = lost (record dials { good = dials.good || loss.was_good }) loss.now

-- after these losses, one after another
abbrev pub after_losses : Dials → List Loss → Dials
after_losses dials [] = dials
after_losses dials (loss ∷ losses) = after_losses (after_loss dials loss) losses

-- fewer losses than there are servers lead to the server at this place, whenever they come
pub record IsTriedSoon (dials : Dials) (place : ℕ) : Type 0 where
  pub count : ℕ
  pub few : count < dials.servers
  pub tried : (losses : List Loss) → length losses ≡ count → (after_losses dials losses).place ≡ place
