-- Laws of the procs that keep a channel by themselves, and of those that answer other programs.
use Rattle.std.specs.Prelude.{◌≡◌, ◌⊎◌, ◌<◌, ◌*◌, ◌==◌, ℕ, not, ◌&&◌, ◌||◌, List, [], ◌∷◌, ◌++◌, slice_get, find, Bool, true, false, if◌then◌else◌, Option, Some, None, codes}
use Rattle.std.specs.List.{list_all, list_any}
use Rattle.std.specs.Str.{bytes_eq}
use Rattle.userfile.specs.declared.ban.Ban.{Ban}
use Rattle.userfile.specs.Persons.{bars, returns_to}
use Rattle.chanstate.specs.declared.member.Member.{Member}
use Rattle.chanstate.specs.Views.{mapping_of, member_in, members_in, channels_with}
use Rattle.outqueue.specs.declared.queue.Queue.TheVariants.{Mode as mode_queue, Server}
use Rattle.procs.specs.declared.action.Action.{Action}
use Rattle.procs.specs.declared.action.Action.TheVariants.{Ask, Timer, Utimer, KillTimer, SendBot, Put}
use Rattle.procs.specs.declared.call.Call.{Call}
use Rattle.procs.specs.declared.reply.ProcReply.{ProcReply}
use Rattle.procs.specs.Promises.{IsKept}
use Rattle.procs.specs.Seen.{Seen}
use Rattle.eggprocs.specs.declared.duties.Duty.TheVariants.{TurnsOp}
use Rattle.eggprocs.specs.declared.looks.TheConstants.{LOOK_SECONDS}
use Rattle.eggprocs.specs.declared.needs.TheConstants.{GIVE_SECONDS}
use Rattle.eggprocs.specs.Args.{nick_of, channel_of, mode_change, mode_argument, or_else}
use Rattle.eggprocs.specs.Askers.{caller_address}
use Rattle.eggprocs.specs.Channel.{put}
use Rattle.eggprocs.specs.Ctcp.{addressee_of, command_of}
use Rattle.eggprocs.specs.Cycling.{leaver_of, is_self_or}
use Rattle.eggprocs.specs.Dynamic.{is_sticky}
use Rattle.eggprocs.specs.Ends.{call_on}
use Rattle.eggprocs.specs.Entries.{refuses_join, closed_channel}
use Rattle.eggprocs.specs.Everyone.{is_own_nick, address_of, flags_of_member}
use Rattle.eggprocs.specs.Floods.{is_flood, flooder_of, flood_place, flood_kind, is_nowhere, is_of_joins, is_of_nicks, is_flooder, is_banned}
use Rattle.eggprocs.specs.Keeping.{is_by_bot, is_change_by_others}
use Rattle.eggprocs.specs.Laws.{DoesNothing, has_one_of, op_letters, is_bot_or_known, is_line_in_turn}
use Rattle.eggprocs.specs.Lines.{mode, plain_mode, kick, invite}
use Rattle.eggprocs.specs.Looks.{look_after, look_of, or_at_once}
use Rattle.eggprocs.specs.Modes.{has_plain_reverse, reverse_of, sets_key}
use Rattle.eggprocs.specs.Needs.{needed_on, needed_by}
use Rattle.eggprocs.specs.Procs.{ours}
use Rattle.eggprocs.specs.Recorded.{second_of, ban_text, ban_line, is_newcomer, ban_on, kick_line, is_beside, ban_back}
use Rattle.eggprocs.specs.Rights.{has_bot, is_join, is_change, is_bot_op, is_op_of}
use Rattle.eggprocs.specs.TurnLaws.{is_look_after}
use Rattle.eggprocs.specs.Turns.{turn_of}

-- ---- modes

-- the reverse of the change, if it has no argument
abbrev pub is_plain_reverse : Call → Seen → Action → Bool
is_plain_reverse call seen action =
    has_plain_reverse seen.sight.channels.support (mode_change call)
    && is_line_in_turn (plain_mode (channel_of call) (reverse_of (mode_change call))) action

-- the end of the key that the change sets
abbrev pub is_end_of_key : Call → Seen → Action → Bool
is_end_of_key call seen action =
    sets_key seen.sight.channels.support (mode_change call)
    && is_line_in_turn (mode (channel_of call) (codes "-k") (mode_argument call)) action

abbrev pub is_reverse : Call → Seen → Action → Bool
is_reverse call seen action = is_plain_reverse call seen action || is_end_of_key call seen action

-- ---- a channel without operators

-- a proc does nothing if somebody is left besides the bot
abbrev pub LeavesNobodyBehind : List ℕ → Type 0
LeavesNobodyBehind name =
    (call : Call) (seen : Seen) (leaver : List ℕ) → leaver_of call ≡ Some leaver
    → list_all (is_self_or leaver seen) (members_in (channel_of call) seen.sight.channels) ≡ false → DoesNothing name call seen

-- a proc does nothing if the bot is an operator of the call's channel
abbrev pub IsOnlyWithoutOp : List ℕ → Type 0
IsOnlyWithoutOp name = (call : Call) (seen : Seen) → is_bot_op call seen ≡ true → DoesNothing name call seen

-- ---- the bot's own bans

-- a proc does nothing for what anybody but the bot does
abbrev pub IsOnlyForOwn : List ℕ → Type 0
IsOnlyForOwn name = (call : Call) (seen : Seen) → is_by_bot call seen ≡ false → DoesNothing name call seen

-- a proc does nothing for a ban whose mask is a sticky ban's
abbrev pub SparesSticky : List ℕ → Type 0
SparesSticky name =
    (call : Call) (seen : Seen) (second : ℕ) → seen.second ≡ Some second → is_sticky second call seen ≡ true → DoesNothing name call seen

-- ---- the bans of the records

-- whether a ban of the records keeps the caller off the call's channel: it is of that channel or of all, it has not ended,
-- and its mask matches
abbrev pub is_barring : Call → Seen → Ban → Bool
is_barring call seen ban = bars (mapping_of seen.sight.channels) (channel_of call) (caller_address call) (second_of seen) ban

-- the line that sets a ban on the call's channel, or the one that kicks the caller for its comment
abbrev pub is_line_of : Call → Ban → Action → Bool
is_line_of call ban action =
    is_line_in_turn (mode (channel_of call) (codes "+b") ban.mask) action
    || is_line_in_turn (kick (channel_of call) (nick_of call) (or_else ban.comment (codes "banned"))) action

-- such a line for a caller who joins, and for a ban of the records that keeps the caller off
abbrev pub is_kept_off : Call → Seen → Action → Bool
is_kept_off call seen action = is_join call.kind && list_any (λ ban. is_barring call seen ban && is_line_of call ban action) seen.sight.records.bans

-- the line that sets a sticky ban of the records again, whose mask is the one that a mode removes, and which has not ended
abbrev pub is_set_again : Call → Seen → Action → Bool
is_set_again call seen action =
    is_change (codes "-b") call && list_any (λ ban.
    returns_to (mapping_of seen.sight.channels) (channel_of call) (mode_argument call) (second_of seen) ban
    && is_line_in_turn (mode (channel_of call) (codes "+b") ban.mask) action) seen.sight.records.bans

-- a line by which the bans of the records are kept
abbrev pub is_kept : Call → Seen → Action → Bool
is_kept call seen action = is_kept_off call seen action || is_set_again call seen action

-- a proc does nothing for a caller who joins and whom no ban of the records keeps off
abbrev pub SparesUnbanned : List ℕ → Type 0
SparesUnbanned name =
    (call : Call) (seen : Seen) → is_join call.kind ≡ true → list_any (is_barring call seen) seen.sight.records.bans ≡ false
    → DoesNothing name call seen

-- the first bot sets the first ban of the records that keeps off somebody else who joins, and kicks that person, if this ban
-- keeps off no other member
abbrev pub KeepsOff : List ℕ → Type 0
KeepsOff name =
    (call : Call) (seen : Seen) (ban : Ban) → is_join call.kind ≡ true → is_newcomer call seen ≡ true → ban_on call seen ≡ Some ban
    → list_any (is_beside ban.mask call seen) (members_in (channel_of call) seen.sight.channels) ≡ false
    → turn_of TurnsOp call seen ≡ 0
    → (reply : ProcReply) → IsKept ours name call seen reply → reply.actions ≡ ban_line call ban ∷ kick_line call ban ∷ []

-- If this ban keeps off another member, the first bot kicks that person all the same, and sets the ban only by a look after
-- five seconds, at the first such member. It sets the ban at once if that member's address has a space, so that there is no
-- such look.
abbrev pub KeepsOffBeside : List ℕ → Type 0
KeepsOffBeside name =
    (call : Call) (seen : Seen) (ban : Ban) (member : Member)
    → is_join call.kind ≡ true → is_newcomer call seen ≡ true → ban_on call seen ≡ Some ban
    → find (is_beside ban.mask call seen) (members_in (channel_of call) seen.sight.channels) ≡ Some member
    → turn_of TurnsOp call seen ≡ 0
    → (reply : ProcReply) → IsKept ours name call seen reply
    → reply.actions ≡ or_at_once (ban_text call ban) (look_of 1 (ban_text call ban) (address_of member)) ∷ kick_line call ban ∷ []

-- the first bot sets the first sticky ban of the records again that anybody else removes
abbrev pub SetsAgain : List ℕ → Type 0
SetsAgain name =
    (call : Call) (seen : Seen) (ban : Ban) → is_join call.kind ≡ false → is_change_by_others (codes "-b") call seen ≡ true
    → ban_back call seen ≡ Some ban → turn_of TurnsOp call seen ≡ 0
    → (reply : ProcReply) → IsKept ours name call seen reply → reply.actions ≡ ban_line call ban ∷ []

-- a later bot does nothing if somebody removes a ban
abbrev pub LeavesRemovalsToTheFirst : List ℕ → Type 0
LeavesRemovalsToTheFirst name =
    (call : Call) (seen : Seen) → is_join call.kind ≡ false → 0 < turn_of TurnsOp call seen → DoesNothing name call seen

-- ---- op for other bots

-- op, at once or by a later look, for this member, who has the flag b everywhere and one of o, m and n, everywhere or on the
-- channel
abbrev pub is_gift_to : List ℕ → Option Member → Seen → Action → Bool
is_gift_to channel None seen action = false
is_gift_to channel (Some member) seen action =
    (has_bot (flags_of_member (call_on channel) seen member) && has_one_of op_letters (flags_of_member (call_on channel) seen member))
    && is_line_in_turn (mode channel (codes "+o") member.nick) action

-- the same for the member of the channel and the nick that a text names
abbrev pub is_gift : Call → Seen → Action → Bool
is_gift call seen action = is_gift_to (needed_on call) (member_in (needed_on call) (needed_by call) seen.sight.channels) seen action

-- Op for a member is given by a look a second later, and by nothing else, if there is such a look: there is none for an
-- address that has a space. So it is given once, if several texts ask for it.
abbrev pub GivesOpLater : List ℕ → Type 0
GivesOpLater name =
    (call : Call) (seen : Seen) (member : Member) (look : Action)
    → member_in (needed_on call) (needed_by call) seen.sight.channels ≡ Some member
    → look_after GIVE_SECONDS (mode (needed_on call) (codes "+o") member.nick) (address_of member) ≡ Some look
    → (reply : ProcReply) → IsKept ours name call seen reply → (reply.actions ≡ []) ⊎ (reply.actions ≡ look ∷ [])

-- ---- requests of other programs

-- a proc does nothing for a line to anybody but the bot
abbrev pub IsOnlyToBot : List ℕ → Type 0
IsOnlyToBot name = (call : Call) (seen : Seen) → is_own_nick seen (addressee_of call) ≡ false → DoesNothing name call seen

-- a proc does nothing for a line of any command but PRIVMSG
abbrev pub IsOnlyForTexts : List ℕ → Type 0
IsOnlyForTexts name = (call : Call) (seen : Seen) → bytes_eq (command_of call) (codes "PRIVMSG") ≡ false → DoesNothing name call seen

-- ---- floods

-- the channels that the line of a flood is about: its place, or all channels of the bot
abbrev pub flood_channels : Call → Seen → List (List ℕ)
flood_channels call seen =
    if is_nowhere call then channels_with seen.sight.channels.nick seen.sight.channels else flood_place call ∷ []

-- a kick of a member of this channel who has the address of the line, and who is neither the bot nor has one of the flags
-- o, m, n and f
abbrev pub is_flood_kick : List ℕ → Call → Seen → Action → Member → Bool
is_flood_kick channel call seen action member =
    (is_flooder call member && not (is_bot_or_known (call_on channel) seen member))
    && is_line_in_turn (kick channel member.nick (codes "flood of " ++ flood_kind call)) action

-- the ban of the address for a flood of joins, if no member who is the bot or has one of these flags has that address
abbrev pub is_flood_ban : List ℕ → Call → Seen → Action → Bool
is_flood_ban channel call seen action =
    (is_of_joins call
    && not (list_any (λ member. is_flooder call member && is_bot_or_known (call_on channel) seen member) (members_in channel seen.sight.channels)))
    && is_line_in_turn (mode channel (codes "+b") (codes "*!" ++ flooder_of call)) action

-- such a kick, or such a ban, on a channel on which the bot is an operator
abbrev pub is_flood_line : Call → Seen → Action → List ℕ → Bool
is_flood_line call seen action channel =
    is_op_of channel seen
    && (list_any (is_flood_kick channel call seen action) (members_in channel seen.sight.channels) || is_flood_ban channel call seen action)

-- the same for some channel of the flood
abbrev pub is_against_flood : Call → Seen → Action → Bool
is_against_flood call seen action = list_any (is_flood_line call seen action) (flood_channels call seen)

-- a proc does nothing for a flood on no channel, unless it is one of changes of the nick
abbrev pub LeavesOtherFloods : List ℕ → Type 0
LeavesOtherFloods name =
    (call : Call) (seen : Seen) → is_nowhere call ≡ true → is_of_nicks call ≡ false → DoesNothing name call seen

-- a later bot does nothing but look, five seconds later for each turn
abbrev pub LooksAfterFloods : List ℕ → Type 0
LooksAfterFloods name =
    (call : Call) (seen : Seen) → is_nowhere call ≡ false → 0 < turn_of TurnsOp (call_on (flood_place call)) seen
    → (reply : ProcReply) → IsKept ours name call seen reply
    → list_all (is_look_after (turn_of TurnsOp (call_on (flood_place call)) seen * LOOK_SECONDS)) reply.actions ≡ true

-- the first bot bans the address of a flood of joins, if bans spare nobody of it, before it does anything else
abbrev pub BansJoiners : List ℕ → Type 0
BansJoiners name =
    (call : Call) (seen : Seen) → is_flood call ≡ true → is_nowhere call ≡ false → is_op_of (flood_place call) seen ≡ true
    → is_banned (call_on (flood_place call)) call seen ≡ true → turn_of TurnsOp (call_on (flood_place call)) seen ≡ 0
    → (reply : ProcReply) → IsKept ours name call seen reply
    → slice_get reply.actions 0 ≡ Some (put mode_queue (mode (flood_place call) (codes "+b") (codes "*!" ++ flooder_of call)))

-- ---- entries

-- one invitation of the nick and to the channel that a text names, where the bot is an operator and nobody of that nick is
pub record IsInvitation (call : Call) (seen : Seen) (actions : List Action) : Type 0 where
  pub by_op : is_op_of (needed_on call) seen ≡ true
  pub outside : member_in (needed_on call) (needed_by call) seen.sight.channels ≡ None
  pub one : actions ≡ put Server (invite (needed_by call) (needed_on call)) ∷ []

-- whatever the proc of this name answers, it requests nothing, or one such invitation
abbrev pub InvitesWhoIsNamed : List ℕ → Type 0
InvitesWhoIsNamed name =
    (call : Call) (seen : Seen) (reply : ProcReply) → IsKept ours name call seen reply
    → (reply.actions ≡ []) ⊎ IsInvitation call seen reply.actions

-- the text to the hub that names the channel of the line and the bot's own nick
abbrev pub is_entry_text : Call → Seen → Action → Bool
is_entry_text call seen (SendBot wish) =
    (wish.to == 0) && bytes_eq wish.text (codes "needin " ++ closed_channel call ++ codes " " ++ seen.sight.channels.nick)
is_entry_text call seen (Ask change) = false
is_entry_text call seen (Timer wish) = false
is_entry_text call seen (Utimer wish) = false
is_entry_text call seen (KillTimer name) = false
is_entry_text call seen (Put wish) = false

-- a proc does nothing for a line that refuses no JOIN
abbrev pub IsOnlyForRefusals : List ℕ → Type 0
IsOnlyForRefusals name = (call : Call) (seen : Seen) → refuses_join (command_of call) ≡ false → DoesNothing name call seen
