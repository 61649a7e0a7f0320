-- The lines that say who floods the bot or a channel.
use Rattle.std.specs.Prelude.{ℕ, ◌==◌, ◌||◌, ◌*◌, not, Bool, true, false, is_some, List, drop, length, Option, None, Some, if◌then◌else◌, unwrap_or}
use Rattle.std.specs.List.{prefix_len, take_while}
use Rattle.floods.specs.declared.limits.Limit.{Limit}
use Rattle.floods.specs.declared.limits.Limits.{Limits}
use Rattle.floods.specs.Windows.{eggdrop}
use Rattle.settings.specs.declared.advice.SettingAdvice.{SettingAdvice}
use Rattle.settings.specs.declared.advice.SettingAdvice.TheVariants.{Form, Once}
use Rattle.settings.specs.declared.flooding.FloodDraft.{FloodDraft}
use Rattle.settings.specs.declared.flooding.FloodSaying.{FloodSaying}
use Rattle.settings.specs.declared.flooding.FloodSaying.TheVariants.{Channel, Ctcp, Deop, Ignore, Join, Kick, Message, Nick}
use Rattle.settings.specs.declared.saying.SettingSaying.{SettingSaying}
use Rattle.settings.specs.declared.saying.SettingSaying.TheVariants.{Flood, Wrong}
use Rattle.settings.specs.declared.setting_word.SettingWord.{SettingWord}
use Rattle.settings.specs.declared.setting_word.SettingWord.TheVariants.{FloodChan, FloodCtcp, FloodDeop, FloodJoin, FloodKick, FloodMsg, FloodNick, IgnoreTime}
use Rattle.settings.specs.Words.{number_of, rest_of, word_of}

-- ---- one line

-- LINES:SECONDS
abbrev pub is_not_colon : ℕ → Bool
is_not_colon b = not (b == 58)

abbrev pub before_colon : List ℕ → List ℕ
before_colon word = take_while is_not_colon word

abbrev pub after_colon : List ℕ → List ℕ
after_colon word = drop 1 (drop (prefix_len is_not_colon word) word)

-- 0 for either number is no limit, as in Eggdrop
abbrev pub limit_by : ℕ → ℕ → Option Limit
limit_by lines seconds = if lines == 0 || seconds == 0 then None else Some (record { lines = lines; seconds = seconds })

abbrev pub limit_found : Option ℕ → Option ℕ → Option (Option Limit)
limit_found None seconds = None
limit_found (Some lines) None = None
limit_found (Some lines) (Some seconds) = Some (limit_by lines seconds)

abbrev pub limit_in : List ℕ → Option (Option Limit)
limit_in word = limit_found (number_of (before_colon word)) (number_of (after_colon word))

-- the limit alone
abbrev pub flood_limit : List ℕ → Option (Option Limit)
flood_limit rest = if length (rest_of rest) == 0 then limit_in (word_of rest) else None

abbrev pub message_limit_said : Option (Option Limit) → SettingSaying
message_limit_said None = Wrong (Form FloodMsg)
message_limit_said (Some limit) = Flood (Message limit)

abbrev pub ctcp_limit_said : Option (Option Limit) → SettingSaying
ctcp_limit_said None = Wrong (Form FloodCtcp)
ctcp_limit_said (Some limit) = Flood (Ctcp limit)

abbrev pub channel_limit_said : Option (Option Limit) → SettingSaying
channel_limit_said None = Wrong (Form FloodChan)
channel_limit_said (Some limit) = Flood (Channel limit)

abbrev pub join_limit_said : Option (Option Limit) → SettingSaying
join_limit_said None = Wrong (Form FloodJoin)
join_limit_said (Some limit) = Flood (Join limit)

abbrev pub nick_limit_said : Option (Option Limit) → SettingSaying
nick_limit_said None = Wrong (Form FloodNick)
nick_limit_said (Some limit) = Flood (Nick limit)

abbrev pub kick_limit_said : Option (Option Limit) → SettingSaying
kick_limit_said None = Wrong (Form FloodKick)
kick_limit_said (Some limit) = Flood (Kick limit)

abbrev pub deop_limit_said : Option (Option Limit) → SettingSaying
deop_limit_said None = Wrong (Form FloodDeop)
deop_limit_said (Some limit) = Flood (Deop limit)

-- ignore-time MINUTES, at least one
abbrev pub ignore_found : Option ℕ → SettingSaying
ignore_found None = Wrong (Form IgnoreTime)
ignore_found (Some minutes) = if minutes == 0 then Wrong (Form IgnoreTime) else Flood (Ignore (60 * minutes))

abbrev pub ignore_time_said : List ℕ → SettingSaying
ignore_time_said rest = if length (rest_of rest) == 0 then ignore_found (number_of (word_of rest)) else Wrong (Form IgnoreTime)

-- ---- the lines together

abbrev pub no_flood_line : FloodDraft
no_flood_line =
    record { message = None; ctcp = None; channel = None; join = None; nick = None; kick = None; deop = None; ignore = None }

-- a line that may stand once is refused if there is one already
abbrev pub once : SettingWord → Bool → Option SettingAdvice
once word false = None
once word true = Some (Once word)

abbrev pub flood_refusal : FloodDraft → FloodSaying → Option SettingAdvice
flood_refusal draft (Message limit) = once FloodMsg (is_some draft.message)
flood_refusal draft (Ctcp limit) = once FloodCtcp (is_some draft.ctcp)
flood_refusal draft (Channel limit) = once FloodChan (is_some draft.channel)
flood_refusal draft (Join limit) = once FloodJoin (is_some draft.join)
flood_refusal draft (Nick limit) = once FloodNick (is_some draft.nick)
flood_refusal draft (Kick limit) = once FloodKick (is_some draft.kick)
flood_refusal draft (Deop limit) = once FloodDeop (is_some draft.deop)
flood_refusal draft (Ignore seconds) = once IgnoreTime (is_some draft.ignore)

abbrev pub flood_added : FloodDraft → FloodSaying → FloodDraft
flood_added draft (Message limit) = record draft { message = Some limit }
flood_added draft (Ctcp limit) = record draft { ctcp = Some limit }
flood_added draft (Channel limit) = record draft { channel = Some limit }
flood_added draft (Join limit) = record draft { join = Some limit }
flood_added draft (Nick limit) = record draft { nick = Some limit }
flood_added draft (Kick limit) = record draft { kick = Some limit }
flood_added draft (Deop limit) = record draft { deop = Some limit }
flood_added draft (Ignore seconds) = record draft { ignore = Some seconds }

-- without a line, Eggdrop's default
abbrev pub flood_limits : FloodDraft → Limits
flood_limits draft =
    record {
      message = unwrap_or draft.message eggdrop.message;
      ctcp = unwrap_or draft.ctcp eggdrop.ctcp;
      channel = unwrap_or draft.channel eggdrop.channel;
      join = unwrap_or draft.join eggdrop.join;
      nick = unwrap_or draft.nick eggdrop.nick;
      kick = unwrap_or draft.kick eggdrop.kick;
      deop = unwrap_or draft.deop eggdrop.deop;
      ignore = unwrap_or draft.ignore eggdrop.ignore;
    }
