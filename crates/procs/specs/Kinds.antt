-- The kinds of binds: their words, their properties, and the calls that they make (Eggdrop's Tcl commands document,
-- "bind").
use Rattle.std.specs.Prelude.{ℕ, ◌==◌, Bool, true, false, List, [], ◌∷◌, Option, find, codes}
use Rattle.std.specs.Str.{bytes_eq}
use Rattle.procs.specs.declared.call_kind.CallKind.{CallKind}
use Rattle.procs.specs.declared.call_kind.CallKind.TheVariants.{Raw as raw_call, Msg as msg_call, Msgm as msgm_call, Notc as notc_call}
use Rattle.procs.specs.declared.call_kind.CallKind.TheVariants.{Pub as pub_call, Pubm as pubm_call, Join as join_call, Part as part_call}
use Rattle.procs.specs.declared.call_kind.CallKind.TheVariants.{Sign as sign_call, Kick as kick_call, Nick as nick_call, Mode as mode_call}
use Rattle.procs.specs.declared.call_kind.CallKind.TheVariants.{Topc as topc_call, Account as account_call}
use Rattle.procs.specs.declared.call_kind.CallKind.TheVariants.{Bot as bot_call, Time as time_call, Cron as cron_call}
use Rattle.procs.specs.declared.bind_kind.BindKind.{BindKind}
use Rattle.procs.specs.declared.bind_kind.BindKind.TheVariants.{Raw, Msg, Msgm, Notc, Pub, Pubm, Join, Part, Sign, Kick, Nick, Mode, Topc, Account}
use Rattle.procs.specs.declared.bind_kind.BindKind.TheVariants.{Bot, Time, Cron}

-- the words, as scripts write them
abbrev pub word_of : BindKind → List ℕ
word_of Raw = codes "raw"
word_of Msg = codes "msg"
word_of Msgm = codes "msgm"
word_of Notc = codes "notc"
word_of Pub = codes "pub"
word_of Pubm = codes "pubm"
word_of Join = codes "join"
word_of Part = codes "part"
word_of Sign = codes "sign"
word_of Kick = codes "kick"
word_of Nick = codes "nick"
word_of Mode = codes "mode"
word_of Topc = codes "topc"
word_of Account = codes "account"
word_of Bot = codes "bot"
word_of Time = codes "time"
word_of Cron = codes "cron"

abbrev pub all_kinds : List BindKind
all_kinds = Raw ∷ Msg ∷ Msgm ∷ Notc ∷ Pub ∷ Pubm ∷ Join ∷ Part ∷ Sign ∷ Kick ∷ Nick ∷ Mode ∷ Topc ∷ Account ∷ Bot ∷ Time ∷ Cron ∷ []

-- the kind whose word this is: no two kinds share one
abbrev pub kind_of : List ℕ → Option BindKind
kind_of word = find (λ kind. bytes_eq (word_of kind) word) all_kinds

-- the kind of call that a bind makes
abbrev pub call_kind_of : BindKind → CallKind
call_kind_of Raw = raw_call
call_kind_of Msg = msg_call
call_kind_of Msgm = msgm_call
call_kind_of Notc = notc_call
call_kind_of Pub = pub_call
call_kind_of Pubm = pubm_call
call_kind_of Join = join_call
call_kind_of Part = part_call
call_kind_of Sign = sign_call
call_kind_of Kick = kick_call
call_kind_of Nick = nick_call
call_kind_of Mode = mode_call
call_kind_of Topc = topc_call
call_kind_of Account = account_call
call_kind_of Bot = bot_call
call_kind_of Time = time_call
call_kind_of Cron = cron_call

-- whether a keyword has at most one bind, and the mask of the bind is that keyword, without wildcards
abbrev pub is_single : BindKind → Bool
is_single Raw = false
is_single Msg = true
is_single Msgm = false
is_single Notc = false
is_single Pub = true
is_single Pubm = false
is_single Join = false
is_single Part = false
is_single Sign = false
is_single Kick = false
is_single Nick = false
is_single Mode = false
is_single Topc = false
is_single Account = false
is_single Bot = true
is_single Time = false
is_single Cron = false

-- whether its mask is cron fields
abbrev pub is_cron : BindKind → Bool
is_cron Raw = false
is_cron Msg = false
is_cron Msgm = false
is_cron Notc = false
is_cron Pub = false
is_cron Pubm = false
is_cron Join = false
is_cron Part = false
is_cron Sign = false
is_cron Kick = false
is_cron Nick = false
is_cron Mode = false
is_cron Topc = false
is_cron Account = false
is_cron Bot = false
is_cron Time = false
is_cron Cron = true

-- whether flags matter: a raw line and a minute are nobody's, and another bot needs no flags
abbrev pub has_flags : BindKind → Bool
has_flags Raw = false
has_flags Msg = true
has_flags Msgm = true
has_flags Notc = true
has_flags Pub = true
has_flags Pubm = true
has_flags Join = true
has_flags Part = true
has_flags Sign = true
has_flags Kick = true
has_flags Nick = true
has_flags Mode = true
has_flags Topc = true
has_flags Account = true
has_flags Bot = false
has_flags Time = false
has_flags Cron = false

-- the number of a kind, by which a table keeps kinds and tells them apart
abbrev pub place_of : BindKind → ℕ
place_of Raw = 0
place_of Msg = 1
place_of Msgm = 2
place_of Notc = 3
place_of Pub = 4
place_of Pubm = 5
place_of Join = 6
place_of Part = 7
place_of Sign = 8
place_of Kick = 9
place_of Nick = 10
place_of Mode = 11
place_of Topc = 12
place_of Account = 13
place_of Bot = 14
place_of Time = 15
place_of Cron = 16

abbrev pub is_kind : BindKind → BindKind → Bool
is_kind a b = place_of a == place_of b
