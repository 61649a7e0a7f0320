-- What a file says, or why it is refused.
use Rattle.std.specs.Prelude.{◌≡◌, ℕ, suc, ◌==◌, ◌≤◌, ◌&&◌, not, Bool, true, false, is_some, find, List, [], ◌∷◌, length, nat_le, nat_lt, Option, None, Some, Result, Ok, Err}
use Rattle.std.specs.Prelude.{if◌then◌else◌, unwrap_or, pos}
use Rattle.std.specs.List.{slice_split}
use Rattle.bottimers.specs.Zones.{TzText, fixed_rule}
use Rattle.bytetext.specs.declared.failure.Failure.{Failure}
use Rattle.bytetext.specs.declared.failure.Failure.TheVariants.{Refused, NoMemory}
use Rattle.settings.specs.declared.TheConstants.{MAX_FILE}
use Rattle.settings.specs.declared.advice.SettingAdvice.{SettingAdvice}
use Rattle.settings.specs.declared.advice.SettingAdvice.TheVariants.{NoLeaf, HubAlone}
use Rattle.settings.specs.declared.fault.SettingsFault.{SettingsFault}
use Rattle.settings.specs.declared.fault.SettingsFault.TheVariants.{TooLong, Line, Lacks}
use Rattle.settings.specs.declared.fault.Lack.{Lack}
use Rattle.settings.specs.declared.fault.Lack.TheVariants.{Data, Nick, Server, Hub, LeafListens, Listen, HubOfHub, Secret, Tunnel}
use Rattle.settings.specs.declared.settings.Settings.{Settings}
use Rattle.settings.specs.declared.settings.LeafLine.{LeafLine}
use Rattle.settings.specs.declared.settings.Station.{Station}
use Rattle.settings.specs.declared.draft.Draft.{Draft}
use Rattle.settings.specs.Grammar.{saying_of}
use Rattle.settings.specs.Pluses.{all_fit, hubs_fit, may_fit}
use Rattle.settings.specs.Drafts.{no_line, refusal_of, added}
use Rattle.settings.specs.Flooding.{flood_limits}

-- ---- line by line

-- the lines, split at each line feed: after a line feed at the end stands an empty line
abbrev pub lines_of : List ℕ → List (List ℕ)
lines_of bytes = slice_split (λ b. b == 10) bytes

-- a line that is refused ends the reading
abbrev pub unless : Option SettingAdvice → ℕ → Result Draft SettingsFault → Result Draft SettingsFault
unless None line later = later
unless (Some advice) line later = Err (Line line advice)

-- reads the lines from this number on, after those before
unfoldable pub read_from : Draft → ℕ → List (List ℕ) → Result Draft SettingsFault
read_from draft line [] = Ok draft
read_from draft line (bytes ∷ lines) =
    unless (refusal_of draft (saying_of bytes)) line (read_from (added line draft (saying_of bytes)) (suc line) lines)

abbrev pub lines_read : List (List ℕ) → Result Draft SettingsFault
lines_read lines = read_from no_line 1 lines

-- ---- the whole

-- a hub without leaves
abbrev pub alone : Station
alone = record { number = 0; leaves = 0 }

-- which bot right lines are of
abbrev pub station_of : Draft → Station
station_of draft = unwrap_or draft.station alone

-- a line leaf is for a hub, and of one of its leaves
abbrev pub is_placed : Station → LeafLine → Bool
is_placed station line = station.number == 0 && (nat_le 1 line.leaf && nat_le line.leaf station.leaves)

abbrev pub misplaced : Draft → Option LeafLine
misplaced draft = find (λ line. not (is_placed (station_of draft) line)) draft.limits

abbrev pub misplacing : Station → SettingAdvice
misplacing station = if station.number == 0 then NoLeaf else HubAlone

-- a clock that shows UTC
abbrev pub utc : TzText
utc = fixed_rule (pos 0)

-- the first lack of two, if there is one
abbrev pub first_of_two : Option Lack → Option Lack → Option Lack
first_of_two (Some lack) other = Some lack
first_of_two None other = other

abbrev pub needs : Bool → Lack → Option Lack
needs true lack = None
needs false lack = Some lack

abbrev pub bars : Bool → Lack → Option Lack
bars true lack = Some lack
bars false lack = None

-- a leaf has a line hub, no line listen, and a secret; a hub has no line hub, and with leaves a line listen and a
-- secret
abbrev pub role_lack : Station → Bool → Bool → Bool → Option Lack
role_lack station hub listen secret =
    if nat_lt 0 station.number
    then first_of_two (needs hub Hub) (first_of_two (bars listen LeafListens) (needs secret Secret))
    else if nat_lt 0 station.leaves
    then first_of_two (needs listen Listen) (first_of_two (bars hub HubOfHub) (needs secret Secret))
    else bars hub HubOfHub

-- the path of each tunnel's socket is short enough
abbrev pub folder_len : Draft → ℕ
folder_len draft = length (unwrap_or draft.folder [])

abbrev pub tunnels_fit : Draft → Bool
tunnels_fit draft =
    hubs_fit (folder_len draft) draft.hubs && (may_fit (folder_len draft) draft.listen
    && all_fit (folder_len draft) draft.servers)

-- the first thing that right lines lack together
abbrev pub lack_of : Draft → Option Lack
lack_of draft =
    first_of_two (needs (is_some draft.folder) Data)
    (first_of_two (needs (is_some draft.nick) Nick)
    (first_of_two (needs (nat_lt 0 (length draft.servers)) Server)
    (first_of_two (role_lack (station_of draft) (nat_lt 0 (length draft.hubs)) (is_some draft.listen) (is_some draft.secret))
    (needs (tunnels_fit draft) Tunnel))))

-- what lines say that lack nothing
abbrev pub settings_of : Draft → Settings
settings_of draft = record {
  folder = unwrap_or draft.folder [];
  station = station_of draft;
  nick = unwrap_or draft.nick [];
  channels = draft.channels;
  servers = draft.servers;
  hubs = draft.hubs;
  listen = draft.listen;
  limits = draft.limits;
  secret = draft.secret;
  account = draft.account;
  zone = unwrap_or draft.zone utc;
  exclusive = draft.exclusive;
  floods = flood_limits draft.floods;
  log_lines = draft.log_lines;
  log_json = draft.log_json;
  log_file = draft.log_file;
  page = draft.page;
  performs = draft.performs;
  binds = draft.binds;
}

-- right lines may not fit the bot, and then may lack something
abbrev pub completed : Option LeafLine → Option Lack → Draft → Result Settings SettingsFault
completed (Some misplaced) lack draft = Err (Line misplaced.line (misplacing (station_of draft)))
completed None (Some lack) draft = Err (Lacks lack)
completed None None draft = Ok (settings_of draft)

-- what right lines say together
unfoldable pub said_by : Draft → Result Settings SettingsFault
said_by draft = completed (misplaced draft) (lack_of draft) draft

abbrev pub said_together : Result Draft SettingsFault → Result Settings SettingsFault
said_together (Ok draft) = said_by draft
said_together (Err fault) = Err fault

-- what these bytes say as a file
abbrev pub settings_in : List ℕ → Result Settings SettingsFault
settings_in bytes = if nat_lt MAX_FILE (length bytes) then Err TooLong else said_together (lines_read (lines_of bytes))

-- ---- what reading answers

-- this is what is to be answered, unless memory runs out
abbrev pub Answers : {T : Type 0} → Result T SettingsFault → Result T (Failure SettingsFault) → Type 0
Answers said (Ok value) = said ≡ Ok value
Answers said (Err (Refused fault)) = said ≡ Err fault
Answers said (Err NoMemory) = Unit {0}

-- these bytes are read as this; a file that is too long needs no memory
abbrev pub ReadsAs : List ℕ → Result Settings (Failure SettingsFault) → Type 0
ReadsAs bytes (Ok settings) = settings_in bytes ≡ Ok settings
ReadsAs bytes (Err (Refused fault)) = settings_in bytes ≡ Err fault
ReadsAs bytes (Err NoMemory) = length bytes ≤ MAX_FILE
