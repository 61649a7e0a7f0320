-- An end whose last request has the number 0 is a new end.
use Rattle.std.proofs.Common.{◌≡◌, ℕ, zero, suc, refl}
use Rattle.botjournal.specs.Ledger.{Device}
use Rattle.protocol.specs.Ends.{new_end}
use Rattle.sharelink.specs.BotLinks.{new_bot_end, end_after, bot_end_after}

pub end_after-0 : (number leaves : ℕ) → end_after number leaves 0 ≡ new_end number leaves
end_after-0 zero leaves = refl
end_after-0 (suc place) leaves = refl

pub bot_end_after-0 : (number leaves : ℕ) (device : Device) → bot_end_after number leaves 0 device ≡ new_bot_end number leaves device
bot_end_after-0 zero leaves device = refl
bot_end_after-0 (suc place) leaves device = refl
