-- What `guard` requests when somebody sets a ban, and which of the bots on the channel removes it (after what Eggdrop does
-- about bans on friends).
--
-- Exactly one of the net's bots that are operators removes a ban. If the ban hits such bots, it is the first of those that
-- it hits: they know best that the ban is not to stay, whoever sets it. If it hits none of them, it is the first of all.
-- Nobody looks later, since a bot does not know the list of a channel's bans.
use Rattle.std.specs.Prelude.{ℕ, not, ◌&&◌, List, [], Bool, true, false, if◌then◌else◌, codes, Option, Some, None}
use Rattle.std.specs.List.{list_any}
use Rattle.rfccase.specs.Casemapping.{is_same_by}
use Rattle.userfile.specs.Shapes.{is_hostmask}
use Rattle.chanstate.specs.declared.member.Member.{Member}
use Rattle.chanstate.specs.Views.{mapping_of, member_in, members_in}
use Rattle.procs.specs.declared.action.Action.{Action}
use Rattle.procs.specs.declared.call.Call.{Call}
use Rattle.procs.specs.Seen.{Seen}
use Rattle.eggprocs.specs.Args.{nick_of, channel_of, mode_argument}
use Rattle.eggprocs.specs.Hands.{is_hand, is_hand_itself, comes_before}
use Rattle.eggprocs.specs.Keeping.{is_by_trusted, is_change_by_others, mode_back, is_hit, is_self, is_spared}

-- ---- whether the ban is to stay

-- whether `guard` takes off a ban that hits a member: one whom bans spare, but only the bot itself if a master or
-- another bot sets the ban
abbrev pub is_guarded : Call → Seen → Member → Bool
is_guarded call seen member = if is_by_trusted call seen then is_self seen member else is_spared call seen member

-- whether a ban's mask matches such a member
abbrev pub hits_guarded : List ℕ → Call → Seen → Member → Bool
hits_guarded mask call seen member = is_hit mask seen member && is_guarded call seen member

-- ---- who removes it

-- whether a member sets the ban
abbrev pub is_setter : Call → Seen → Member → Bool
is_setter call seen member = is_same_by (mapping_of seen.sight.channels) (nick_of call) member.nick

-- whether a ban's mask matches a bot of the net that is op, other than the one that sets the ban
abbrev pub is_hit_hand : List ℕ → Call → Seen → Member → Bool
is_hit_hand mask call seen member = is_hit mask seen member && (is_hand true call seen member && not (is_setter call seen member))

-- whether it matches any such bot of the channel
abbrev pub hits_hands : List ℕ → Call → Seen → Bool
hits_hands mask call seen = list_any (is_hit_hand mask call seen) (members_in (channel_of call) seen.sight.channels)

-- whether a member is one of the bots of which the first removes the ban: those that it hits if it hits any, else all
abbrev pub may_remove : Bool → List ℕ → Call → Seen → Member → Bool
may_remove hits mask call seen member = if hits then is_hit_hand mask call seen member else is_hand true call seen member

abbrev pub may_remove_if : Bool → List ℕ → Call → Seen → Option Member → Bool
may_remove_if hits mask call seen None = false
may_remove_if hits mask call seen (Some member) = may_remove hits mask call seen member

-- whether the bot itself is one of them
abbrev pub may_remove_itself : Bool → List ℕ → Call → Seen → Bool
may_remove_itself hits mask call seen =
    may_remove_if hits mask call seen (member_in (channel_of call) seen.sight.channels.nick seen.sight.channels)

-- whether a member is one of them, and comes before a nick
abbrev pub is_before : Bool → List ℕ → Call → Seen → List ℕ → Member → Bool
is_before hits mask call seen nick member =
    comes_before (mapping_of seen.sight.channels) member.nick nick && may_remove hits mask call seen member

-- whether one of them comes before a nick
abbrev pub has_before : Bool → List ℕ → Call → Seen → List ℕ → Bool
has_before hits mask call seen nick =
    list_any (is_before hits mask call seen nick) (members_in (channel_of call) seen.sight.channels)

-- whether the bot itself is the first of them
abbrev pub is_remover : Bool → List ℕ → Call → Seen → Bool
is_remover hits mask call seen =
    may_remove_itself hits mask call seen && not (has_before hits mask call seen seen.sight.channels.nick)

-- whether the bot itself removes the ban: the first of these bots, or a bot that is no hand, so that a bot that no record
-- names acts alone
abbrev pub removes : List ℕ → Call → Seen → Bool
removes mask call seen = if is_hand_itself true call seen then is_remover (hits_hands mask call seen) mask call seen else true

-- ---- what is requested

-- the end of a ban, by one bot
abbrev pub ban_undone : List ℕ → Call → Seen → List Action
ban_undone mask call seen = if removes mask call seen then mode_back (codes "-b") call else []

-- what `guard` requests: the end of a ban that somebody else sets, if its mask matches a member whom `guard` guards
abbrev pub asked_by_guard : Call → Seen → List Action
asked_by_guard call seen =
    if (is_change_by_others (codes "+b") call seen && is_hostmask (mode_argument call))
    && list_any (hits_guarded (mode_argument call) call seen) (members_in (channel_of call) seen.sight.channels)
    then ban_undone (mode_argument call) call seen
    else []
