-- What a line says by itself.
use Rattle.std.specs.Prelude.{ℕ, ◌==◌, ◌||◌, ◌&&◌, ◌-◌, not, nat_le, nat_lt, Bool, false, List, [], ◌∷◌, length, slice_index, Option, None, Some, if◌then◌else◌, codes}
use Rattle.std.specs.List.{list_all}
use Rattle.std.specs.Str.{bytes_eq}
use Rattle.rfccase.specs.Channels.{is_channel_name}
use Rattle.bottimers.specs.Zones.{TzText, rule_in}
use Rattle.settings.specs.declared.TheConstants.{MAX_LEAVES, MAX_LINE}
use Rattle.settings.specs.declared.setting_word.SettingWord.{SettingWord}
use Rattle.settings.specs.declared.setting_word.SettingWord.TheVariants.{Account as account_word, Bind as bind_word, Bot as bot_word, Channel as channel_word}
use Rattle.settings.specs.declared.setting_word.SettingWord.TheVariants.{Data as data_word, Exclusive as exclusive_word, Hub as hub_word, Leaf as leaf_word}
use Rattle.settings.specs.declared.setting_word.SettingWord.TheVariants.{Listen as listen_word, Log as log_word, Nick as nick_word, Page as page_word, Perform as perform_word}
use Rattle.settings.specs.declared.setting_word.SettingWord.TheVariants.{Secret as secret_word, Server as server_word, Zone as zone_word}
use Rattle.settings.specs.declared.setting_word.SettingWord.TheVariants.{FloodChan, FloodCtcp, FloodDeop, FloodJoin, FloodKick, FloodMsg, FloodNick, IgnoreTime}
use Rattle.settings.specs.declared.advice.SettingAdvice.TheVariants.{Form, Key, Leaves, Address, PageAddress, PagePassword, Port, TlsHost, Unknown, CarriageReturn, Control, ByteOrderMark}
use Rattle.settings.specs.declared.saying.SettingSaying.{SettingSaying}
use Rattle.settings.specs.declared.saying.SettingSaying.TheVariants.{Nothing, Wrong, Account, Bind, Bot, Channel, Data, Exclusive, Hub, Leaf, Listen}
use Rattle.settings.specs.declared.saying.SettingSaying.TheVariants.{LogFile, LogJson, LogLines, Nick, Page, Perform, Secret, Server, Zone}
use Rattle.settings.specs.declared.settings.LeafRule.{LeafRule}
use Rattle.settings.specs.declared.settings.LeafRule.TheVariants.{Reads, Persons}
use Rattle.settings.specs.Names.{is_key, is_nick}
use Rattle.settings.specs.Addresses.{is_address, is_loopback}
use Rattle.settings.specs.Words.{word_of, rest_of, after_spaces, number_of, port_of}
use Rattle.settings.specs.Pluses.{has_plus, without_plus, is_tls_host}
use Rattle.settings.specs.Flooding.{channel_limit_said, ctcp_limit_said, deop_limit_said, flood_limit, ignore_time_said, join_limit_said}
use Rattle.settings.specs.Flooding.{kick_limit_said, message_limit_said, nick_limit_said}
use Rattle.settings.specs.Vocabulary.{word_named}

abbrev pub is_empty : List ℕ → Bool
is_empty word = length word == 0

-- ---- what follows each word

-- data FOLDER
abbrev pub data_said : List ℕ → SettingSaying
data_said rest = if is_empty rest then Wrong (Form data_word) else Data rest

-- secret FILE
abbrev pub secret_said : List ℕ → SettingSaying
secret_said rest = if is_empty rest then Wrong (Form secret_word) else Secret rest

-- perform LINE, which is at most as long as a line may be
abbrev pub perform_said : List ℕ → SettingSaying
perform_said rest = if is_empty rest || nat_lt MAX_LINE (length rest) then Wrong (Form perform_word) else Perform rest

-- nick NICK
abbrev pub nick_said : List ℕ → SettingSaying
nick_said rest = if is_nick (word_of rest) && is_empty (rest_of rest) then Nick (word_of rest) else Wrong (Form nick_word)

-- exclusive
abbrev pub exclusive_said : List ℕ → SettingSaying
exclusive_said rest = if is_empty rest then Exclusive else Wrong (Form exclusive_word)

-- log json and log lines
abbrev pub log_form_said : List ℕ → List ℕ → SettingSaying
log_form_said word rest =
    if bytes_eq word (codes "json") && is_empty rest then LogJson
    else if bytes_eq word (codes "lines") && is_empty rest then LogLines
    else Wrong (Form log_word)

-- log file PATH, or one of these
abbrev pub log_said : List ℕ → SettingSaying
log_said rest =
    if bytes_eq (word_of rest) (codes "file") && not (is_empty (rest_of rest)) then LogFile (rest_of rest)
    else log_form_said (word_of rest) (rest_of rest)

-- account NAME FILE
abbrev pub account_said : List ℕ → SettingSaying
account_said rest =
    if is_empty (rest_of rest) then Wrong (Form account_word) else Account (record { name = word_of rest; file = rest_of rest })

-- bot NUMBER of LEAVES: the number is at most LEAVES, and LEAVES is not too high
abbrev pub bot_numbered : Option ℕ → Option ℕ → SettingSaying
bot_numbered None leaves = Wrong (Form bot_word)
bot_numbered (Some n) None = Wrong (Form bot_word)
bot_numbered (Some n) (Some m) =
    if nat_le n m && nat_le m MAX_LEAVES then Bot (record { number = n; leaves = m }) else Wrong Leaves

abbrev pub bot_of : List ℕ → List ℕ → SettingSaying
bot_of number rest =
    if bytes_eq (word_of rest) (codes "of") && is_empty (rest_of (rest_of rest))
    then bot_numbered (number_of number) (number_of (word_of (rest_of rest))) else Wrong (Form bot_word)

abbrev pub bot_said : List ℕ → SettingSaying
bot_said rest = bot_of (word_of rest) (rest_of rest)

-- a host before a port with a plus is one that a tunnel may lead to
abbrev pub is_reached : List ℕ → Bool → Bool
is_reached host tls = not tls || is_tls_host host

-- hub HOST PORT, and hub HOST +PORT
abbrev pub hub_found : List ℕ → Bool → Option ℕ → SettingSaying
hub_found host tls None = Wrong Port
hub_found host tls (Some port) =
    if is_reached host tls then Hub (record { host = host; port = port; tls = tls }) else Wrong TlsHost

abbrev pub hub_said : List ℕ → SettingSaying
hub_said rest =
    if is_empty (rest_of rest) || not (is_empty (rest_of (rest_of rest))) then Wrong (Form hub_word)
    else hub_found (word_of rest) (has_plus (word_of (rest_of rest))) (port_of (without_plus (word_of (rest_of rest))))

-- listen ADDRESS PORT, and listen ADDRESS +PORT
abbrev pub listen_found : List ℕ → Bool → Option ℕ → SettingSaying
listen_found host tls None = Wrong Port
listen_found host tls (Some port) =
    if is_address host then Listen (record { host = host; port = port; tls = tls }) else Wrong Address

abbrev pub listen_said : List ℕ → SettingSaying
listen_said rest =
    if is_empty (rest_of rest) || not (is_empty (rest_of (rest_of rest))) then Wrong (Form listen_word)
    else listen_found (word_of rest) (has_plus (word_of (rest_of rest))) (port_of (without_plus (word_of (rest_of rest))))

-- what a leaf may do, by the word for it
abbrev pub rule_named : List ℕ → Option LeafRule
rule_named word =
    if bytes_eq word (codes "reads") then Some Reads
    else if bytes_eq word (codes "persons") then Some Persons
    else None

-- leaf N reads, and leaf N persons
abbrev pub leaf_found : Option ℕ → Option LeafRule → SettingSaying
leaf_found None rule = Wrong (Form leaf_word)
leaf_found (Some leaf) None = Wrong (Form leaf_word)
leaf_found (Some leaf) (Some rule) = Leaf leaf rule

abbrev pub leaf_said : List ℕ → SettingSaying
leaf_said rest =
    if is_empty (rest_of (rest_of rest)) then leaf_found (number_of (word_of rest)) (rule_named (word_of (rest_of rest)))
    else Wrong (Form leaf_word)

-- a last word that may be left out
abbrev pub pass_of : List ℕ → Option (List ℕ)
pass_of rest = if is_empty rest then None else Some rest

-- channel NAME KEY; the KEY may be left out
abbrev pub channel_keyed : List ℕ → List ℕ → SettingSaying
channel_keyed name key = if not (is_empty key) && not (is_key key) then Wrong Key else Channel (record { name = name; key = pass_of key })

abbrev pub channel_said : List ℕ → SettingSaying
channel_said rest =
    if is_channel_name (word_of rest) && is_empty (rest_of (rest_of rest)) then channel_keyed (word_of rest) (word_of (rest_of rest))
    else Wrong (Form channel_word)

-- server HOST PORT PASS, and server HOST +PORT PASS; the PASS may be left out
abbrev pub server_found : List ℕ → Bool → Option ℕ → List ℕ → SettingSaying
server_found host tls None pass = Wrong Port
server_found host tls (Some port) pass =
    if is_reached host tls
    then Server (record { address = record { host = host; port = port; tls = tls }; pass = pass_of pass }) else Wrong TlsHost

abbrev pub server_said : List ℕ → SettingSaying
server_said rest =
    if is_empty (rest_of rest) then Wrong (Form server_word)
    else server_found (word_of rest) (has_plus (word_of (rest_of rest))) (port_of (without_plus (word_of (rest_of rest))))
    (rest_of (rest_of rest))

-- page ADDRESS PORT FILE; the FILE may be left out if no other machine reaches the address
abbrev pub page_placed : List ℕ → ℕ → List ℕ → SettingSaying
page_placed host port file =
    if not (is_address host) then Wrong PageAddress
    else if is_empty file && not (is_loopback host) then Wrong PagePassword
    else Page (record { address = record { host = host; port = port; tls = false }; password = pass_of file })

abbrev pub page_found : List ℕ → Option ℕ → List ℕ → SettingSaying
page_found host None file = Wrong Port
page_found host (Some port) file = page_placed host port file

abbrev pub page_said : List ℕ → SettingSaying
page_said rest =
    if is_empty (rest_of rest) then Wrong (Form page_word)
    else page_found (word_of rest) (port_of (word_of (rest_of rest))) (rest_of (rest_of rest))

-- zone RULE
abbrev pub zone_found : Option TzText → SettingSaying
zone_found None = Wrong (Form zone_word)
zone_found (Some rule) = Zone rule

abbrev pub zone_said : List ℕ → SettingSaying
zone_said rest = if is_empty (rest_of rest) then zone_found (rule_in (word_of rest)) else Wrong (Form zone_word)

-- bind TYPE FLAGS PROC MASK
abbrev pub bind_said : List ℕ → SettingSaying
bind_said rest =
    if is_empty (rest_of (rest_of (rest_of rest))) then Wrong (Form bind_word)
    else Bind (record {
      kind = word_of rest;
      flags = word_of (rest_of rest);
      proc = word_of (rest_of (rest_of rest));
      mask = rest_of (rest_of (rest_of rest));
    })

-- ---- a line

abbrev pub said_of : Option SettingWord → List ℕ → SettingSaying
said_of None rest = Wrong Unknown
said_of (Some account_word) rest = account_said rest
said_of (Some bind_word) rest = bind_said rest
said_of (Some bot_word) rest = bot_said rest
said_of (Some channel_word) rest = channel_said rest
said_of (Some data_word) rest = data_said rest
said_of (Some exclusive_word) rest = exclusive_said rest
said_of (Some FloodChan) rest = channel_limit_said (flood_limit rest)
said_of (Some FloodCtcp) rest = ctcp_limit_said (flood_limit rest)
said_of (Some FloodDeop) rest = deop_limit_said (flood_limit rest)
said_of (Some FloodJoin) rest = join_limit_said (flood_limit rest)
said_of (Some FloodKick) rest = kick_limit_said (flood_limit rest)
said_of (Some FloodMsg) rest = message_limit_said (flood_limit rest)
said_of (Some FloodNick) rest = nick_limit_said (flood_limit rest)
said_of (Some hub_word) rest = hub_said rest
said_of (Some IgnoreTime) rest = ignore_time_said rest
said_of (Some leaf_word) rest = leaf_said rest
said_of (Some listen_word) rest = listen_said rest
said_of (Some log_word) rest = log_said rest
said_of (Some nick_word) rest = nick_said rest
said_of (Some page_word) rest = page_said rest
said_of (Some perform_word) rest = perform_said rest
said_of (Some secret_word) rest = secret_said rest
said_of (Some server_word) rest = server_said rest
said_of (Some zone_word) rest = zone_said rest

-- a byte that shows: no control byte
abbrev pub is_shown : ℕ → Bool
is_shown b = nat_le 32 b && not (b == 127)

-- a carriage return at the end
abbrev pub ends_in_return : List ℕ → Bool
ends_in_return line = slice_index line (length line - 1) == 13

-- an unseen mark that some editors put before the first line
abbrev pub has_mark : List ℕ → Bool
has_mark line = slice_index line 0 == 239 && (slice_index line 1 == 187 && slice_index line 2 == 191)

unfoldable pub saying_by_words : List ℕ → SettingSaying
saying_by_words line =
    if ends_in_return line then Wrong CarriageReturn
    else if not (list_all is_shown line) then Wrong Control
    else if has_mark line then Wrong ByteOrderMark
    else said_of (word_named (word_of line)) (rest_of line)

-- an empty line, and one that begins with #, says nothing
abbrev pub saying_after : List ℕ → SettingSaying
saying_after [] = Nothing
saying_after (b ∷ bs) = if b == 35 then Nothing else saying_by_words (b ∷ bs)

abbrev pub saying_of : List ℕ → SettingSaying
saying_of line = saying_after (after_spaces line)
