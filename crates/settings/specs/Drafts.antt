-- What the lines of a file say together: which of them is refused after those before it, and what it adds.
use Rattle.std.specs.Prelude.{ℕ, ◌==◌, ◌&&◌, not, nat_le, Bool, true, false, is_some, List, [], ◌∷◌, ◌++◌, length, Option, None, Some, if◌then◌else◌}
use Rattle.std.specs.List.{list_any}
use Rattle.std.specs.Str.{bytes_eq}
use Rattle.settings.specs.declared.TheConstants.{MAX_HUBS}
use Rattle.settings.specs.declared.setting_word.SettingWord.TheVariants.{Account as account_word, Bot as bot_word, Data as data_word}
use Rattle.settings.specs.declared.setting_word.SettingWord.TheVariants.{Exclusive as exclusive_word, Listen as listen_word}
use Rattle.settings.specs.declared.setting_word.SettingWord.TheVariants.{Nick as nick_word, Page as page_word, Secret as secret_word, Zone as zone_word}
use Rattle.settings.specs.declared.advice.SettingAdvice.{SettingAdvice}
use Rattle.settings.specs.declared.advice.SettingAdvice.TheVariants.{Again, Hubs as too_many_hubs, LeafAgain, LogFile as file_again}
use Rattle.settings.specs.declared.saying.SettingSaying.{SettingSaying}
use Rattle.settings.specs.declared.saying.SettingSaying.TheVariants.{Nothing, Wrong, Account, Bind, Bot, Channel, Data, Exclusive, Hub, Leaf, Listen}
use Rattle.settings.specs.declared.saying.SettingSaying.TheVariants.{Flood, LogFile, LogJson, LogLines, Nick, Page, Perform, Secret, Server, Zone}
use Rattle.settings.specs.declared.settings.Address.{Address}
use Rattle.settings.specs.declared.settings.LeafLine.{LeafLine}
use Rattle.settings.specs.declared.settings.LeafRule.{LeafRule}
use Rattle.settings.specs.declared.settings.LeafRule.TheVariants.{Reads, Persons}
use Rattle.settings.specs.declared.draft.Draft.{Draft}
use Rattle.settings.specs.Flooding.{flood_added, flood_refusal, no_flood_line, once}

-- no line is read
abbrev pub no_line : Draft
no_line = record {
  folder = None;
  station = None;
  nick = None;
  channels = [];
  servers = [];
  hubs = [];
  listen = None;
  limits = [];
  secret = None;
  account = None;
  zone = None;
  exclusive = false;
  floods = no_flood_line;
  log_lines = false;
  log_json = false;
  log_file = None;
  page = None;
  performs = [];
  binds = [];
}

-- a second file for the log is refused by its own words, since the word log may stand more often
abbrev pub once_file : Bool → Option SettingAdvice
once_file false = None
once_file true = Some file_again

-- so is a line of a leaf that another one is of, whatever that one says
abbrev pub is_said_of : ℕ → List LeafLine → Bool
is_said_of leaf lines = list_any (λ line. line.leaf == leaf) lines

abbrev pub leaf_again : Bool → Option SettingAdvice
leaf_again false = None
leaf_again true = Some LeafAgain

abbrev pub same_rule : LeafRule → LeafRule → Bool
same_rule Reads Reads = true
same_rule Reads Persons = false
same_rule Persons Reads = false
same_rule Persons Persons = true

-- one of the lines says this of the leaf
abbrev pub is_limited : ℕ → LeafRule → List LeafLine → Bool
is_limited leaf rule lines = list_any (λ line. line.leaf == leaf && same_rule line.rule rule) lines

abbrev pub again : Bool → Option SettingAdvice
again false = None
again true = Some Again

-- two lines name the same hub
abbrev pub same_flag : Bool → Bool → Bool
same_flag true other = other
same_flag false other = not other

abbrev pub same_address : Address → Address → Bool
same_address one other = one.port == other.port && (same_flag one.tls other.tls && bytes_eq one.host other.host)

abbrev pub is_named : Address → List Address → Bool
is_named address hubs = list_any (λ hub. same_address hub address) hubs

-- no hub is named twice, and there are at most so many
abbrev pub hub_refusal : Address → List Address → Option SettingAdvice
hub_refusal address hubs =
    if is_named address hubs then Some Again
    else if nat_le MAX_HUBS (length hubs) then Some too_many_hubs
    else None

-- why a line is refused after these
abbrev pub refusal_of : Draft → SettingSaying → Option SettingAdvice
refusal_of draft Nothing = None
refusal_of draft (Wrong advice) = Some advice
refusal_of draft (Account account) = once account_word (is_some draft.account)
refusal_of draft (Bind words) = None
refusal_of draft (Bot station) = once bot_word (is_some draft.station)
refusal_of draft (Channel channel) = None
refusal_of draft (Data folder) = once data_word (is_some draft.folder)
refusal_of draft Exclusive = once exclusive_word draft.exclusive
refusal_of draft (Flood saying) = flood_refusal draft.floods saying
refusal_of draft (Hub address) = hub_refusal address draft.hubs
refusal_of draft (Leaf leaf rule) = leaf_again (is_said_of leaf draft.limits)
refusal_of draft (Listen address) = once listen_word (is_some draft.listen)
refusal_of draft (LogFile path) = once_file (is_some draft.log_file)
refusal_of draft LogJson = again draft.log_json
refusal_of draft LogLines = again draft.log_lines
refusal_of draft (Nick nick) = once nick_word (is_some draft.nick)
refusal_of draft (Page page) = once page_word (is_some draft.page)
refusal_of draft (Perform line) = None
refusal_of draft (Secret file) = once secret_word (is_some draft.secret)
refusal_of draft (Server server) = None
refusal_of draft (Zone zone) = once zone_word (is_some draft.zone)

-- what the line of this number adds
abbrev pub added : ℕ → Draft → SettingSaying → Draft
added line draft Nothing = draft
added line draft (Wrong advice) = draft
added line draft (Account account) = record draft { account = Some account }
added line draft (Bind words) = record draft { binds = draft.binds ++ record { line = line; words = words } ∷ [] }
added line draft (Bot station) = record draft { station = Some station }
added line draft (Channel channel) = record draft { channels = draft.channels ++ channel ∷ [] }
added line draft (Data folder) = record draft { folder = Some folder }
added line draft Exclusive = record draft { exclusive = true }
added line draft (Flood saying) = record draft { floods = flood_added draft.floods saying }
added line draft (Hub address) = record draft { hubs = draft.hubs ++ address ∷ [] }
added line draft (Leaf leaf rule) =
    record draft { limits = draft.limits ++ record { line = line; leaf = leaf; rule = rule } ∷ [] }
added line draft (Listen address) = record draft { listen = Some address }
added line draft (LogFile path) = record draft { log_file = Some path }
added line draft LogJson = record draft { log_json = true }
added line draft LogLines = record draft { log_lines = true }
added line draft (Nick nick) = record draft { nick = Some nick }
added line draft (Page page) = record draft { page = Some page }
added line draft (Perform text) = record draft { performs = draft.performs ++ text ∷ [] }
added line draft (Secret file) = record draft { secret = Some file }
added line draft (Server server) = record draft { servers = draft.servers ++ server ∷ [] }
added line draft (Zone zone) = record draft { zone = Some zone }
