-- Laws of the procs: when nothing is done, and for whose call.
use Rattle.std.specs.Prelude.{◌≡◌, ◌⊎◌, ℕ, not, ◌&&◌, ◌||◌, Bool, true, false, List, [], ◌∷◌, ◌++◌, slice_get, Option, Some, None, codes}
use Rattle.std.specs.List.{list_all, list_any}
use Rattle.std.specs.Str.{bytes_eq}
use Rattle.bytetext.specs.Words.{after_word}
use Rattle.flagexpr.specs.Letters.{has_letter}
use Rattle.rfccase.specs.declared.casemappings.Casemapping.{Casemapping}
use Rattle.userfile.specs.declared.change.Change.{Change}
use Rattle.userfile.specs.declared.edit.Edit.{Edit}
use Rattle.userfile.specs.declared.edit.Edit.TheVariants.{AddUser, DelUser, AddHost, DelHost, SetGlobal, SetChan, SetBot, AddBan, DelBan, SetInfo, SetSticky}
use Rattle.userfile.specs.declared.ban.Ban.{Ban}
use Rattle.userfile.specs.declared.flags.PersonFlags.{PersonFlags}
use Rattle.userfile.specs.declared.user.User.{User}
use Rattle.userfile.specs.Apply.{refusal}
use Rattle.userfile.specs.Held.{user_of}
use Rattle.userfile.specs.Hostmasks.{is_match, literals}
use Rattle.userfile.specs.Persons.{claims, is_most, user_for}
use Rattle.userfile.specs.Rights.{may}
use Rattle.chanstate.specs.declared.event.IrcEvent.{IrcEvent}
use Rattle.chanstate.specs.declared.member.Member.{Member}
use Rattle.chanstate.specs.Views.{mapping_of, members_in}
use Rattle.procs.specs.declared.action.Action.{Action}
use Rattle.procs.specs.declared.action.Action.TheVariants.{Ask, Timer, Utimer, KillTimer, SendBot, Put}
use Rattle.procs.specs.declared.call.Call.{Call}
use Rattle.procs.specs.declared.reply.ProcReply.{ProcReply}
use Rattle.procs.specs.Heard.{Person, is_personal, who_of, flags_on, person_of}
use Rattle.procs.specs.Promises.{IsKept}
use Rattle.procs.specs.Seen.{Seen}
use Rattle.eggprocs.specs.declared.rights.TheConstants.{AUTO_OP, AUTO_VOICE, OP, FRIEND, MASTER, OWNER}
use Rattle.eggprocs.specs.declared.duties.Duty.TheVariants.{First}
use Rattle.eggprocs.specs.declared.rights.Requester.TheVariants.{Master}
use Rattle.eggprocs.specs.Args.{handle_of, channel_of, mode_argument}
use Rattle.eggprocs.specs.Askers.{asker_of, caller_claim}
use Rattle.eggprocs.specs.Ends.{has_ended_by, holds_ended}
use Rattle.eggprocs.specs.Everyone.{is_own_join, address_of, flags_of_member}
use Rattle.eggprocs.specs.Infos.{info_by}
use Rattle.eggprocs.specs.Keeping.{is_by_bot, is_by_server, is_by_trusted, flags_named, is_hit, is_self}
use Rattle.eggprocs.specs.Lines.{mode, kick}
use Rattle.eggprocs.specs.People.{told, for_masters}
use Rattle.eggprocs.specs.Procs.{ours}
use Rattle.eggprocs.specs.Rights.{flags_by, has_flag, has_bot, global_by, is_bot_op, standing_of}
use Rattle.eggprocs.specs.Turns.{turn_of}
use Rattle.eggprocs.specs.Whereabouts.{shared}
use Rattle.eggprocs.specs.Whois.{has_host, name_asked, member_called, account_by, is_by_account, member_shown, means_of, deciding_mask, strange_account}

-- whether a person has one of these flags, everywhere or on the channel
abbrev pub has_one_of : List ℕ → PersonFlags → Bool
has_one_of letters flags = list_any (λ letter. has_flag letter flags) letters

-- whatever the proc of this name answers, it requests nothing
abbrev pub DoesNothing : List ℕ → Call → Seen → Type 0
DoesNothing name call seen = (reply : ProcReply) → IsKept ours name call seen reply → reply.actions ≡ []

-- a proc does nothing for a caller who has none of these flags
abbrev pub IsOnlyForOneOf : List ℕ → List ℕ → Type 0
IsOnlyForOneOf letters name =
    (call : Call) (seen : Seen) → has_one_of letters (flags_by call seen) ≡ false → DoesNothing name call seen

-- a proc does nothing if the bot is no operator of the call's channel
abbrev pub IsOnlyByOps : List ℕ → Type 0
IsOnlyByOps name = (call : Call) (seen : Seen) → is_bot_op call seen ≡ false → DoesNothing name call seen

-- ---- lines

-- this line for the server
abbrev pub is_line : List ℕ → Action → Bool
is_line line (Put wish) = bytes_eq wish.line line
is_line line (Ask change) = false
is_line line (Timer wish) = false
is_line line (Utimer wish) = false
is_line line (KillTimer name) = false
is_line line (SendBot wish) = false

-- a later look for this line: a call of `later` that would send it
abbrev pub is_look : List ℕ → Action → Bool
is_look line (Utimer wish) = bytes_eq wish.proc (codes "later") && bytes_eq (after_word wish.text) line
is_look line (Ask change) = false
is_look line (Timer wish) = false
is_look line (KillTimer name) = false
is_look line (SendBot wish) = false
is_look line (Put wish) = false

-- this line at once, or a later look for it if another bot comes first
abbrev pub is_line_in_turn : List ℕ → Action → Bool
is_line_in_turn line action = is_line line action || is_look line action

-- ---- changes

-- an action that requests a change of the userfile
abbrev pub is_ask : Action → Bool
is_ask (Ask change) = true
is_ask (Timer wish) = false
is_ask (Utimer wish) = false
is_ask (KillTimer name) = false
is_ask (SendBot wish) = false
is_ask (Put wish) = false

-- whatever the proc of this name answers, it requests no change
abbrev pub AsksNoChange : List ℕ → Call → Seen → Type 0
AsksNoChange name call seen =
    (reply : ProcReply) → IsKept ours name call seen reply → list_any is_ask reply.actions ≡ false

-- each change that these actions request is so
abbrev pub EachAsk : (Change → Type 0) → List Action → Type 0
EachAsk is_so actions = (place : ℕ) (change : Change) → slice_get actions place ≡ Some (Ask change) → is_so change

-- whatever the proc of this name answers, each change that it requests is so
abbrev pub AsksOnly : (Call → Seen → Change → Type 0) → List ℕ → Type 0
AsksOnly is_so name =
    (call : Call) (seen : Seen) (reply : ProcReply) → IsKept ours name call seen reply → EachAsk (is_so call seen) reply.actions

-- a change that is requested in the caller's name: the caller's claim and the casemapping of the bot's server
abbrev pub IsInCallersName : Call → Seen → Change → Type 0
IsInCallersName call seen change = change.by ≡ Some (asker_of call seen)

-- an edit that gives nobody a flag or a hostmask: it adds a user, or deletes a ban
abbrev pub gives_nothing : Edit → Bool
gives_nothing (AddUser handle) = true
gives_nothing (DelBan channel mask) = true
gives_nothing (DelUser handle) = false
gives_nothing (AddHost handle mask) = false
gives_nothing (DelHost handle mask) = false
gives_nothing (SetGlobal handle flags) = false
gives_nothing (SetChan handle channel flags) = false
gives_nothing (SetBot handle flags) = false
gives_nothing (AddBan channel mask creator expires comment) = false
gives_nothing (SetInfo handle info) = false
gives_nothing (SetSticky channel mask on) = false

-- a change that is requested in the caller's name, or in nobody's and gives nothing
abbrev pub IsNamedOrGivesNothing : Call → Seen → Change → Type 0
IsNamedOrGivesNothing call seen change =
    IsInCallersName call seen change ⊎ ((change.by ≡ None) × (gives_nothing change.edit ≡ true))

-- the records know the caller under the call's handle
abbrev pub KnowsCaller : Call → Seen → Type 0
KnowsCaller call seen =
    user_for (mapping_of seen.sight.channels) (caller_claim call seen) seen.sight.records.users ≡ user_of (handle_of call) seen.sight.records.users

-- a change to which the caller has the right, if the records know the caller under the call's handle
abbrev pub IsAllowed : Call → Seen → Change → Type 0
IsAllowed call seen change = KnowsCaller call seen → may seen.sight.records.users (asker_of call seen) change.edit ≡ true

-- a change that the records which the proc sees take, so that its asker has the right to it by them
abbrev pub IsTaken : Call → Seen → Change → Type 0
IsTaken call seen change = refusal seen.sight.records change ≡ None

-- a proc requests no change for a caller who has neither m nor n everywhere
abbrev pub IsOnlyForMasters : List ℕ → Type 0
IsOnlyForMasters name =
    (call : Call) (seen : Seen)
    → has_letter (global_by call seen) MASTER ≡ false → has_letter (global_by call seen) OWNER ≡ false
    → AsksNoChange name call seen

-- ---- who somebody is

-- a master asks for a nick that is no user's handle, and the bot sees this member of that nick
pub record AsksAbout (call : Call) (seen : Seen) (member : Member) : Type 0 where
  pub master : standing_of call seen ≡ Master
  pub no_handle : user_of (name_asked call) seen.sight.records.users ≡ None
  pub there : member_called (name_asked call) seen ≡ Some member

-- an event by this member, from the address and under the account that the bot sees
pub record IsEventBy (member : Member) (seen : Seen) (event : IrcEvent) : Type 0 where
  pub personal : is_personal event.kind ≡ true
  pub address : who_of event.arguments ≡ address_of member
  pub account : event.account ≡ account_by member seen

-- the person behind an event, as binds know one: the handle, and the flags
abbrev pub person_behind : IrcEvent → Seen → Person
person_behind event seen = person_of (mapping_of seen.sight.channels) seen.sight.records.users event

-- the user whom binds find behind an event
abbrev pub user_behind : IrcEvent → Seen → Option User
user_behind event seen = user_of (person_behind event seen).handle seen.sight.records.users

-- whatever the proc of this name answers, it is a NOTICE of these words to the caller
abbrev pub Answers : List ℕ → Call → Seen → List ℕ → Type 0
Answers name call seen words = (reply : ProcReply) → IsKept ours name call seen reply → reply.actions ≡ told call words ∷ []

-- for a member whom binds know as a user, a proc names the handle whose flags the binds take, and by what it is found
abbrev pub NamesWhomBindsKnow : List ℕ → Type 0
NamesWhomBindsKnow name =
    (call : Call) (seen : Seen) (member : Member) (event : IrcEvent) (user : User)
    → AsksAbout call seen member → IsEventBy member seen event → (is_by_account member seen || has_host member) ≡ true
    → user_behind event seen ≡ Some user
    → ((person_behind event seen).flags ≡ flags_on seen.sight.records.users (person_behind event seen).handle event.channel)
    × Answers name call seen
    (member_shown member ++ codes " is " ++ (person_behind event seen).handle ++ codes " by the " ++ means_of user member seen)

-- for a member whom binds know as nobody, a proc says so
abbrev pub LeavesStrangers : List ℕ → Type 0
LeavesStrangers name =
    (call : Call) (seen : Seen) (member : Member) (event : IrcEvent)
    → AsksAbout call seen member → IsEventBy member seen event → (is_by_account member seen || has_host member) ≡ true
    → user_behind event seen ≡ None
    → Answers name call seen (member_shown member ++ codes " is known to no user" ++ strange_account member seen)

-- The hostmask that is named for the user whom a person is decides that: it is one of the user's, it matches, and no
-- hostmask of anybody that matches has more literals.
abbrev pub NamesTheDecider : Type 0
NamesTheDecider =
    (mapping : Casemapping) (users : List User) (who : List ℕ) (user : User) → user_for mapping who users ≡ Some user
    → (list_any (bytes_eq (deciding_mask mapping who user.masks)) user.masks ≡ true)
    × ((is_match mapping (deciding_mask mapping who user.masks) who ≡ true)
    × (is_most (literals (deciding_mask mapping who user.masks)) (claims mapping who users) ≡ true))

-- for a caller who has neither m nor n everywhere, a proc says that it is for masters, or nothing
abbrev pub TellsOnlyMasters : List ℕ → Type 0
TellsOnlyMasters name =
    (call : Call) (seen : Seen)
    → has_letter (global_by call seen) MASTER ≡ false → has_letter (global_by call seen) OWNER ≡ false
    → (reply : ProcReply) → IsKept ours name call seen reply
    → (reply.actions ≡ []) ⊎ (reply.actions ≡ told call for_masters ∷ [])

-- ---- info lines

-- an edit of the info line of this handle's user
abbrev pub is_info_of : List ℕ → Edit → Bool
is_info_of handle (SetInfo other info) = bytes_eq other handle
is_info_of handle (AddUser other) = false
is_info_of handle (DelUser other) = false
is_info_of handle (AddHost other mask) = false
is_info_of handle (DelHost other mask) = false
is_info_of handle (SetGlobal other flags) = false
is_info_of handle (SetChan other channel flags) = false
is_info_of handle (SetBot other flags) = false
is_info_of handle (AddBan channel mask creator expires comment) = false
is_info_of handle (DelBan channel mask) = false
is_info_of handle (SetSticky channel mask on) = false

-- an action that requests no change, or one of the caller's info line
abbrev pub is_own : Call → Action → Bool
is_own call (Ask change) = is_info_of (handle_of call) change.edit
is_own call (Timer wish) = true
is_own call (Utimer wish) = true
is_own call (KillTimer name) = true
is_own call (SendBot wish) = true
is_own call (Put wish) = true

-- whatever the proc of this name answers, it requests no change except of the caller's info line
abbrev pub ChangesOwnInfo : List ℕ → Type 0
ChangesOwnInfo name =
    (call : Call) (seen : Seen) (reply : ProcReply) → IsKept ours name call seen reply → list_all (is_own call) reply.actions ≡ true

-- a proc requests no change for a caller whom the userfile does not know
abbrev pub IsOnlyForKnown : List ℕ → Type 0
IsOnlyForKnown name =
    (call : Call) (seen : Seen) → user_of (handle_of call) seen.sight.records.users ≡ None → AsksNoChange name call seen

-- a proc does nothing for a caller without an info line
abbrev pub IsOnlyWithInfo : List ℕ → Type 0
IsOnlyWithInfo name = (call : Call) (seen : Seen) → info_by call seen ≡ [] → DoesNothing name call seen

-- ---- everyone on a channel

-- op for a member who has the flag a, or voice for one who has the flag g
abbrev pub is_due_to : Call → Seen → Action → Member → Bool
is_due_to call seen action member =
    (has_flag AUTO_OP (flags_of_member call seen member) && is_line_in_turn (mode (channel_of call) (codes "+o") member.nick) action)
    || (has_flag AUTO_VOICE (flags_of_member call seen member) && is_line_in_turn (mode (channel_of call) (codes "+v") member.nick) action)

-- the same for some member of the call's channel
abbrev pub is_due : Call → Seen → Action → Bool
is_due call seen action = list_any (is_due_to call seen action) (members_in (channel_of call) seen.sight.channels)

-- except when the bot itself joins, whatever the proc of this name answers, it gives op and voice to members who have
-- the flag, and does nothing else
abbrev pub GivesWhatIsDue : List ℕ → Type 0
GivesWhatIsDue name =
    (call : Call) (seen : Seen) → is_own_join call seen ≡ false
    → (reply : ProcReply) → IsKept ours name call seen reply → list_all (is_due call seen) reply.actions ≡ true

-- ---- keeping a channel

-- a proc does nothing for what the bot itself does
abbrev pub IsOnlyForOthers : List ℕ → Type 0
IsOnlyForOthers name = (call : Call) (seen : Seen) → is_by_bot call seen ≡ true → DoesNothing name call seen

-- a proc does nothing for a caller who has one of the flags m and n, everywhere or on the channel, or b everywhere
abbrev pub LeavesTrusted : List ℕ → Type 0
LeavesTrusted name = (call : Call) (seen : Seen) → is_by_trusted call seen ≡ true → DoesNothing name call seen

-- a proc does nothing for what a server does
abbrev pub LeavesServers : List ℕ → Type 0
LeavesServers name = (call : Call) (seen : Seen) → is_by_server call ≡ true → DoesNothing name call seen

-- whatever the proc of this name answers, each action passes this test
abbrev pub DoesOnly : (Call → Seen → Action → Bool) → List ℕ → Type 0
DoesOnly is_right name =
    (call : Call) (seen : Seen) (reply : ProcReply) → IsKept ours name call seen reply → list_all (is_right call seen) reply.actions ≡ true

-- the same for a caller who has one of the flags m and n, everywhere or on the channel, or b everywhere
abbrev pub DoesOnlyForTrusted : (Call → Seen → Action → Bool) → List ℕ → Type 0
DoesOnlyForTrusted is_right name =
    (call : Call) (seen : Seen) → is_by_trusted call seen ≡ true
    → (reply : ProcReply) → IsKept ours name call seen reply → list_all (is_right call seen) reply.actions ≡ true

-- the flags of operators, and the flags of those whom bans spare
abbrev pub op_letters : List ℕ
op_letters = OP ∷ MASTER ∷ OWNER ∷ []

abbrev pub spared_letters : List ℕ
spared_letters = OP ∷ MASTER ∷ OWNER ∷ FRIEND ∷ []

-- whether a member, if there is one, has one of the flags of operators, and whether it has none of them, nor b everywhere
abbrev pub has_op_flag : Option PersonFlags → Bool
has_op_flag None = false
has_op_flag (Some flags) = has_one_of op_letters flags

abbrev pub lacks_op_flag : Option PersonFlags → Bool
lacks_op_flag None = false
lacks_op_flag (Some flags) = not (has_one_of op_letters flags || has_bot flags)

-- op for the member whom the change names, who has one of the flags o, m and n
abbrev pub is_op_of_known : Call → Seen → Action → Bool
is_op_of_known call seen action =
    has_op_flag (flags_named call seen) && is_line_in_turn (mode (channel_of call) (codes "+o") (mode_argument call)) action

-- the end of op for the member whom the change names, who has none of these flags, nor b everywhere
abbrev pub is_deop_of_unknown : Call → Seen → Action → Bool
is_deop_of_unknown call seen action =
    lacks_op_flag (flags_named call seen) && is_line_in_turn (mode (channel_of call) (codes "-o") (mode_argument call)) action

-- a member who is the bot, or has one of the flags o, m, n and f
abbrev pub is_bot_or_known : Call → Seen → Member → Bool
is_bot_or_known call seen member = is_self seen member || has_one_of spared_letters (flags_of_member call seen member)

-- the end of the ban that the change sets, whose mask matches such a member
abbrev pub is_end_of_ban : Call → Seen → Action → Bool
is_end_of_ban call seen action =
    list_any (λ member. is_hit (mode_argument call) seen member && is_bot_or_known call seen member) (members_in (channel_of call) seen.sight.channels)
    && is_line (mode (channel_of call) (codes "-b") (mode_argument call)) action

-- the end of the ban that the change sets, whose mask matches the bot itself
abbrev pub is_end_of_ban_on_bot : Call → Seen → Action → Bool
is_end_of_ban_on_bot call seen action =
    list_any (λ member. is_hit (mode_argument call) seen member && is_self seen member) (members_in (channel_of call) seen.sight.channels)
    && is_line (mode (channel_of call) (codes "-b") (mode_argument call)) action

-- a kick of a member whom the ban's mask matches, and who is neither the bot nor has one of these flags
abbrev pub is_kick_of : Call → Seen → Action → Member → Bool
is_kick_of call seen action member =
    (is_hit (mode_argument call) seen member && not (is_bot_or_known call seen member))
    && is_line_in_turn (kick (channel_of call) member.nick (codes "banned")) action

-- the same for some member of the call's channel
abbrev pub is_kick_of_banned : Call → Seen → Action → Bool
is_kick_of_banned call seen action = list_any (is_kick_of call seen action) (members_in (channel_of call) seen.sight.channels)

-- ---- where people are

-- if the caller shares no channel with the nick in question, a proc answers by the records alone, whatever else the
-- channels hold; on a channel, if the bot is the one that answers there, or is not
abbrev pub KeepsChannelsApart : List ℕ → Type 0
KeepsChannelsApart name =
    (call : Call) (one other : Seen) → one.sight.records ≡ other.sight.records → shared call one ≡ None → shared call other ≡ None
    → turn_of First call one ≡ turn_of First call other
    → (a b : ProcReply) → IsKept ours name call one a → IsKept ours name call other b → a.actions ≡ b.actions

-- ---- bans that have ended

-- an edit that deletes this ban from the records
abbrev pub deletes_ban : Ban → Edit → Bool
deletes_ban ban (DelBan channel mask) = bytes_eq channel ban.channel && bytes_eq mask ban.mask
deletes_ban ban (AddUser handle) = false
deletes_ban ban (DelUser handle) = false
deletes_ban ban (AddHost handle mask) = false
deletes_ban ban (DelHost handle mask) = false
deletes_ban ban (SetGlobal handle flags) = false
deletes_ban ban (SetChan handle channel flags) = false
deletes_ban ban (SetBot handle flags) = false
deletes_ban ban (AddBan channel mask creator expires comment) = false
deletes_ban ban (SetInfo handle info) = false
deletes_ban ban (SetSticky channel mask on) = false

-- the request of such an edit
abbrev pub is_deletion_of : Ban → Action → Bool
is_deletion_of ban (Ask change) = deletes_ban ban change.edit
is_deletion_of ban (Timer wish) = false
is_deletion_of ban (Utimer wish) = false
is_deletion_of ban (KillTimer name) = false
is_deletion_of ban (SendBot wish) = false
is_deletion_of ban (Put wish) = false

-- the end of this ban, on its channel or in the records, if its expiry is not 0 and at most the second that the proc sees
abbrev pub is_end_of : Seen → Action → Ban → Bool
is_end_of seen action ban =
    has_ended_by seen.second ban && (is_line (mode ban.channel (codes "-b") ban.mask) action || is_deletion_of ban action)

-- the same for some ban of the records
abbrev pub is_end_of_ended : Call → Seen → Action → Bool
is_end_of_ended call seen action = list_any (is_end_of seen action) seen.sight.records.bans

-- an edit that deletes no ban, or one that has ended
abbrev pub spares_lasting : Seen → Edit → Bool
spares_lasting seen (DelBan channel mask) = holds_ended channel mask seen
spares_lasting seen (AddUser handle) = true
spares_lasting seen (DelUser handle) = true
spares_lasting seen (AddHost handle mask) = true
spares_lasting seen (DelHost handle mask) = true
spares_lasting seen (SetGlobal handle flags) = true
spares_lasting seen (SetChan handle channel flags) = true
spares_lasting seen (SetBot handle flags) = true
spares_lasting seen (AddBan channel mask creator expires comment) = true
spares_lasting seen (SetInfo handle info) = true
spares_lasting seen (SetSticky channel mask on) = true

-- an action that requests no deletion of a ban, or that of one that has ended
abbrev pub deletes_no_lasting : Call → Seen → Action → Bool
deletes_no_lasting call seen (Ask change) = spares_lasting seen change.edit
deletes_no_lasting call seen (Timer wish) = true
deletes_no_lasting call seen (Utimer wish) = true
deletes_no_lasting call seen (KillTimer name) = true
deletes_no_lasting call seen (SendBot wish) = true
deletes_no_lasting call seen (Put wish) = true
