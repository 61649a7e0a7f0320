-- What a bot that was opened has to do with the bytes of its disks, and what a crash leaves there.
use Rattle.std.specs.Prelude.{◌≡◌, ◌+◌, ℕ, List}
use Rattle.disks.specs.State.{moment, left_since}
use Rattle.botjournal.specs.Contents.{meaning}
use Rattle.sharelink.specs.BotLinks.{BotEnd}
use Rattle.sharelink.specs.BotOpening.{IsKeptOf, IsLeft}
use Rattle.botcore.specs.Bots.{Bot, begun}

-- a crash at some moment between `was` and `after` may leave these bytes
pub record CrashesIn (was after : BotEnd) (first second : List ℕ) : Type 0 where
  pub first_left : left_since after.device.first (moment was.device.first) first
  pub second_left : left_since after.device.second (moment was.device.second) second

-- The bot with this number, in a net of `bots` bots, keeps what these bytes mean; if they have an older layout, it
-- keeps what a compaction makes of it. Its binds, channels, clock, timers and queues are new.
pub record IsOpened (bot bots : ℕ) (first second : List ℕ) (after : Bot) : Type 0 where
  pub number : after.config.number ≡ bot
  pub leaves : after.config.leaves + 1 ≡ bots
  pub kept : IsKeptOf after.config.number after.config.leaves (meaning first second) after.link.end
  pub link : after.link ≡ record {
    number = after.config.number;
    leaves = after.config.leaves;
    end = after.link.end;
    device = after.link.device;
  }
  pub anew : after ≡ begun after.config after.link

-- These bytes mean what the bytes `x` and `y` mean, from which the bot with this number, in a net of `bots` bots, was
-- to be opened; or, if those have an older layout, the same rewritten in the present one.
pub record IsUnopened (bot bots : ℕ) (x y first second : List ℕ) : Type 0 where
  pub leaves : ℕ
  pub many : leaves + 1 ≡ bots
  pub left : IsLeft bot leaves (meaning x y) first second
