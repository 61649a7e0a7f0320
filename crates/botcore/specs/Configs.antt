-- The configurations with which a bot can be made.
use Rattle.std.specs.Prelude.{◌≡◌, ℕ, ◌≤◌, ◌==◌, nat_lt, nat_le, Bool, true, not, ◌&&◌, List, length, slice_index, codes}
use Rattle.std.specs.List.{list_all}
use Rattle.rfccase.specs.Channels.{is_channel_name}
use Rattle.sharelink.specs.declared.TheConstants.{MAX_LEAVES}
use Rattle.bytejournal.specs.Faults.{code_of as journal_code}
use Rattle.botcore.specs.declared.config.Config.{Config}
use Rattle.botcore.specs.declared.fault.BotFault.{BotFault}
use Rattle.botcore.specs.declared.fault.BotFault.TheVariants.{BadConfig, Journal}
use Rattle.botcore.specs.declared.limits.TheConstants.{MAX_NICK}

-- the code that transcripts print
abbrev pub code_of : BotFault → List ℕ
code_of BadConfig = codes "G1"
code_of (Journal fault) = journal_code fault

-- a nick has no space or control byte, and none of ! @ , * ?
abbrev pub is_nick_byte : ℕ → Bool
is_nick_byte b = nat_lt 32 b && (not (b == 33) && (not (b == 64) && (not (b == 44) && (not (b == 42) && not (b == 63)))))

-- a nick has 1 to 30 such bytes, and does not begin with a colon
abbrev pub is_nick : List ℕ → Bool
is_nick nick = nat_le 1 (length nick) && (nat_le (length nick) MAX_NICK && (not (slice_index nick 0 == 58) && list_all is_nick_byte nick))

-- a bot can be made with this configuration
pub record IsGood (config : Config) : Type 0 where
  pub few : config.leaves ≤ MAX_LEAVES
  pub numbered : config.number ≤ config.leaves
  pub nick : is_nick config.nick ≡ true
  pub channels : list_all is_channel_name config.channels ≡ true
