-- Which bot of a net comes first on a channel, so that not all of them do the same there.
--
-- A hand is a member whom the userfile knows as a bot. The rank of a nick is how many hands have a nick that comes before
-- it. Each bot works out its rank by itself, from what all of them see: the records, the members and their marks, and the
-- casemapping of the server. The order
-- in which the members came is another one at each bot, so it counts for nothing.
use Rattle.std.specs.Prelude.{ℕ, not, ◌&&◌, ◌||◌, Bool, false, List, if◌then◌else◌, Option, Some, None}
use Rattle.std.specs.Cmp.Lexicographic.{slice_cmp}
use Rattle.std.specs.List.{count_by}
use Rattle.std.specs.Ordering.{nat_cmp, is_lt}
use Rattle.rfccase.specs.declared.casemappings.Casemapping.{Casemapping}
use Rattle.rfccase.specs.Casemapping.{folded_by}
use Rattle.chanstate.specs.declared.member.Member.{Member}
use Rattle.chanstate.specs.Views.{mapping_of, member_in, members_in}
use Rattle.procs.specs.declared.call.Call.{Call}
use Rattle.procs.specs.Seen.{Seen}
use Rattle.eggprocs.specs.Args.{channel_of}
use Rattle.eggprocs.specs.Everyone.{flags_of_member}
use Rattle.eggprocs.specs.Rights.{has_bot}

-- ---- hands

-- a member whom the userfile knows with the flag b everywhere; where only operators count, one who is op
abbrev pub is_hand : Bool → Call → Seen → Member → Bool
is_hand needs_op call seen member = (not needs_op || member.op) && has_bot (flags_of_member call seen member)

abbrev pub is_hand_if : Bool → Call → Seen → Option Member → Bool
is_hand_if needs_op call seen None = false
is_hand_if needs_op call seen (Some member) = is_hand needs_op call seen member

-- whether the bot itself is a hand on the call's channel
abbrev pub is_hand_itself : Bool → Call → Seen → Bool
is_hand_itself needs_op call seen = is_hand_if needs_op call seen (member_in (channel_of call) seen.sight.channels.nick seen.sight.channels)

-- ---- ranks

-- whether a nick comes before another: their lower cases by a server's casemapping, as lists of bytes
abbrev pub comes_before : Casemapping → List ℕ → List ℕ → Bool
comes_before mapping nick other = is_lt (slice_cmp nat_cmp (folded_by mapping nick) (folded_by mapping other))

-- whether a member is a hand that comes before a nick
abbrev pub is_ahead : Bool → Call → Seen → List ℕ → Member → Bool
is_ahead needs_op call seen nick member = comes_before (mapping_of seen.sight.channels) member.nick nick && is_hand needs_op call seen member

-- how many hands come before a nick
abbrev pub hands_ahead : Bool → Call → Seen → List ℕ → ℕ
hands_ahead needs_op call seen nick = count_by (is_ahead needs_op call seen nick) (members_in (channel_of call) seen.sight.channels)

-- how many hands come before the bot itself; none if it is no hand, so that a bot that no record names acts alone
abbrev pub rank : Bool → Call → Seen → ℕ
rank needs_op call seen = if is_hand_itself needs_op call seen then hands_ahead needs_op call seen seen.sight.channels.nick else 0
