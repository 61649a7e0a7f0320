-- Laws of the bots that share a channel: which one acts, and what the others do.
use Rattle.std.specs.Prelude.{◌≡◌, ◌⊎◌, ◌<◌, ◌*◌, ◌==◌, ◌&&◌, ℕ, not, Bool, true, false, List, [], ◌∷◌, ◌++◌, length, Option, Some, None, codes}
use Rattle.std.specs.List.{list_all, list_any}
use Rattle.std.specs.List.Sorted.{IsPermutation}
use Rattle.std.specs.Str.{bytes_eq}
use Rattle.rfccase.specs.Casemapping.{IsSameBy}
use Rattle.userfile.specs.Shapes.{is_hostmask}
use Rattle.chanstate.specs.declared.member.Member.{Member}
use Rattle.chanstate.specs.Views.{mapping_of, member_in, members_in}
use Rattle.outqueue.specs.declared.queue.Queue.TheVariants.{Mode as mode_queue}
use Rattle.procs.specs.declared.action.Action.{Action}
use Rattle.procs.specs.declared.action.Action.TheVariants.{Ask, Timer, Utimer, KillTimer, SendBot, Put}
use Rattle.procs.specs.declared.call.Call.{Call}
use Rattle.procs.specs.declared.reply.ProcReply.{ProcReply}
use Rattle.procs.specs.Promises.{IsKept}
use Rattle.procs.specs.Seen.{Seen}
use Rattle.eggprocs.specs.declared.effects.LineEffect.{LineEffect}
use Rattle.eggprocs.specs.declared.effects.LineEffect.TheVariants.{Kick}
use Rattle.eggprocs.specs.declared.looks.TheConstants.{LOOK_SECONDS}
use Rattle.eggprocs.specs.declared.proc_name.ProcName.{ProcName}
use Rattle.eggprocs.specs.Args.{channel_of, mode_argument, timer_text}
use Rattle.eggprocs.specs.Channel.{put}
use Rattle.eggprocs.specs.Effects.{channel_in, target_in, effect_in, is_ban, is_done}
use Rattle.eggprocs.specs.Everyone.{address_of, flags_of_member}
use Rattle.eggprocs.specs.Hands.{is_hand, is_hand_itself, comes_before, hands_ahead, rank}
use Rattle.eggprocs.specs.Guards.{hits_hands, may_remove, has_before}
use Rattle.eggprocs.specs.Keeping.{is_change_by_others, is_hit, is_self}
use Rattle.eggprocs.specs.Laws.{DoesNothing, is_line}
use Rattle.eggprocs.specs.Lines.{mode, kick}
use Rattle.eggprocs.specs.Looks.{is_here, line_of}
use Rattle.eggprocs.specs.Procs.{ours, name_of, duty_of, wanted_by}
use Rattle.eggprocs.specs.Rights.{has_bot, is_op_of}
use Rattle.eggprocs.specs.Turns.{is_each, is_heard_by_all, needs_op, turn_of}
use Rattle.bytetext.specs.Words.{first_word}

-- ---- ranks

-- two bots see the same of a call's channel: equal records, the same casemapping of the server, and the same members with
-- the same marks and addresses, in whatever order each bot has them
pub record SeeTheSame (call : Call) (one other : Seen) : Type 0 where
  pub records : one.sight.records ≡ other.sight.records
  pub mappings : mapping_of one.sight.channels ≡ mapping_of other.sight.channels
  pub members : IsPermutation (members_in (channel_of call) one.sight.channels) (members_in (channel_of call) other.sight.channels)

-- of two bots that see the same, and are both hands, the one whose nick comes before the other's has the lower rank
abbrev pub RanksRise : Bool → Type 0
RanksRise needs_op =
    (call : Call) (one other : Seen) → SeeTheSame call one other
    → is_hand_itself needs_op call one ≡ true → is_hand_itself needs_op call other ≡ true
    → comes_before (mapping_of one.sight.channels) one.sight.channels.nick other.sight.channels.nick ≡ true
    → rank needs_op call one < rank needs_op call other

-- such bots have the same rank only if they have the same nick, so no two have rank 0, and no two look at one second
abbrev pub RanksDiffer : Bool → Type 0
RanksDiffer needs_op =
    (call : Call) (one other : Seen) → SeeTheSame call one other
    → is_hand_itself needs_op call one ≡ true → is_hand_itself needs_op call other ≡ true
    → rank needs_op call one ≡ rank needs_op call other
    → IsSameBy (mapping_of one.sight.channels) one.sight.channels.nick other.sight.channels.nick

-- a hand that no hand comes before
abbrev pub is_first_hand : Bool → Call → Seen → Member → Bool
is_first_hand needs_op call seen member = is_hand needs_op call seen member && (hands_ahead needs_op call seen member.nick == 0)

-- if the bot itself is a hand, some hand has rank 0
abbrev pub SomeoneIsFirst : Bool → Type 0
SomeoneIsFirst needs_op =
    (call : Call) (seen : Seen) → is_hand_itself needs_op call seen ≡ true
    → list_any (is_first_hand needs_op call seen) (members_in (channel_of call) seen.sight.channels) ≡ true

-- if no other member is a hand, the bot has rank 0
abbrev pub LoneIsFirst : Bool → Type 0
LoneIsFirst needs_op =
    (call : Call) (seen : Seen)
    → list_any (λ member. not (is_self seen member) && is_hand needs_op call seen member) (members_in (channel_of call) seen.sight.channels) ≡ false
    → rank needs_op call seen ≡ 0

-- a bot that is no hand itself has rank 0
abbrev pub UnknownIsFirst : Bool → Type 0
UnknownIsFirst needs_op = (call : Call) (seen : Seen) → is_hand_itself needs_op call seen ≡ false → rank needs_op call seen ≡ 0

-- another member whom the userfile does not know with the flag b everywhere changes no rank, wherever it is among the
-- members
abbrev pub StrangersCountNot : Bool → Type 0
StrangersCountNot needs_op =
    (call : Call) (without with_one : Seen) (before after : List Member) (stranger : Member)
    → without.sight.records ≡ with_one.sight.records → mapping_of without.sight.channels ≡ mapping_of with_one.sight.channels
    → without.sight.channels.nick ≡ with_one.sight.channels.nick
    → members_in (channel_of call) without.sight.channels ≡ before ++ after
    → members_in (channel_of call) with_one.sight.channels ≡ before ++ stranger ∷ after
    → is_self with_one stranger ≡ false → has_bot (flags_of_member call with_one stranger) ≡ false
    → rank needs_op call with_one ≡ rank needs_op call without

-- ---- turns

-- whatever a proc answers at turn 0, it requests what it would request of a lone bot
abbrev pub ActsAtOnce : ProcName → Type 0
ActsAtOnce which =
    (call : Call) (seen : Seen) → turn_of (duty_of which) call seen ≡ 0
    → (reply : ProcReply) → IsKept ours (name_of which) call seen reply → reply.actions ≡ wanted_by which call seen

-- one call of `later` after so many seconds
abbrev pub is_look_after : ℕ → Action → Bool
is_look_after seconds (Utimer wish) = (wish.interval == seconds) && ((wish.count == 1) && bytes_eq wish.proc (codes "later"))
is_look_after seconds (Ask change) = false
is_look_after seconds (Timer wish) = false
is_look_after seconds (KillTimer name) = false
is_look_after seconds (SendBot wish) = false
is_look_after seconds (Put wish) = false

-- whatever a proc answers at a later turn, it requests nothing but looks, five seconds later for each turn
abbrev pub OnlyLooks : ProcName → Type 0
OnlyLooks which =
    (call : Call) (seen : Seen) → 0 < turn_of (duty_of which) call seen
    → (reply : ProcReply) → IsKept ours (name_of which) call seen reply
    → list_all (is_look_after (turn_of (duty_of which) call seen * LOOK_SECONDS)) reply.actions ≡ true

-- a proc does nothing at a later turn
abbrev pub LeavesItToTheFirst : ProcName → Type 0
LeavesItToTheFirst which = (call : Call) (seen : Seen) → 0 < turn_of (duty_of which) call seen → DoesNothing (name_of which) call seen

-- a later call of `later`
abbrev pub is_wait : Action → Bool
is_wait (Utimer wish) = bytes_eq wish.proc (codes "later")
is_wait (Ask change) = false
is_wait (Timer wish) = false
is_wait (KillTimer name) = false
is_wait (SendBot wish) = false
is_wait (Put wish) = false

-- Of two bots that see the same, are both hands and have different nicks, one does nothing but wait, whatever both answer
-- to a call that all bots on a channel get. This holds of each proc that is not each bot's own.
abbrev pub OneActs : ProcName → Type 0
OneActs which =
    (call : Call) (one other : Seen) → SeeTheSame call one other
    → is_each (duty_of which) ≡ false → is_heard_by_all call.kind ≡ true
    → is_hand_itself (needs_op (duty_of which)) call one ≡ true → is_hand_itself (needs_op (duty_of which)) call other ≡ true
    → (IsSameBy (mapping_of one.sight.channels) one.sight.channels.nick other.sight.channels.nick → ⊥)
    → (a b : ProcReply) → IsKept ours (name_of which) call one a → IsKept ours (name_of which) call other b
    → (list_all is_wait a.actions ≡ true) ⊎ (list_all is_wait b.actions ≡ true)

-- ---- who removes a ban

-- whether a ban's mask matches the bot itself
abbrev pub is_hit_if : List ℕ → Seen → Option Member → Bool
is_hit_if mask seen None = false
is_hit_if mask seen (Some member) = is_hit mask seen member

abbrev pub hits_itself : List ℕ → Call → Seen → Bool
hits_itself mask call seen = is_hit_if mask seen (member_in (channel_of call) seen.sight.channels.nick seen.sight.channels)

-- of two bots that see the same, are both hands that are op, and have different nicks, one does nothing
abbrev pub OneRemoves : List ℕ → Type 0
OneRemoves name =
    (call : Call) (one other : Seen) → SeeTheSame call one other
    → is_hand_itself true call one ≡ true → is_hand_itself true call other ≡ true
    → (IsSameBy (mapping_of one.sight.channels) one.sight.channels.nick other.sight.channels.nick → ⊥)
    → (a b : ProcReply) → IsKept ours name call one a → IsKept ours name call other b
    → (a.actions ≡ []) ⊎ (b.actions ≡ [])

-- one of the bots of which the first removes a ban, before which none of them comes
abbrev pub is_first_of_these : List ℕ → Call → Seen → Member → Bool
is_first_of_these mask call seen member =
    may_remove (hits_hands mask call seen) mask call seen member && not (has_before (hits_hands mask call seen) mask call seen member.nick)

-- if the bot itself is a hand that is op, there is such a bot
abbrev pub SomeoneRemoves : Type 0
SomeoneRemoves =
    (mask : List ℕ) (call : Call) (seen : Seen) → is_hand_itself true call seen ≡ true
    → list_any (is_first_of_these mask call seen) (members_in (channel_of call) seen.sight.channels) ≡ true

-- a bot removes a ban that hits it, if no other hand that the ban hits comes before it
abbrev pub RemovesBansOnItself : List ℕ → Type 0
RemovesBansOnItself name =
    (call : Call) (seen : Seen) → is_change_by_others (codes "+b") call seen ≡ true → is_hostmask (mode_argument call) ≡ true
    → hits_itself (mode_argument call) call seen ≡ true → has_before true (mode_argument call) call seen seen.sight.channels.nick ≡ false
    → (reply : ProcReply) → IsKept ours name call seen reply
    → reply.actions ≡ put mode_queue (mode (channel_of call) (codes "-b") (mode_argument call)) ∷ []

-- a bot that the ban does not hit does nothing if the ban hits another hand
abbrev pub LeavesBansToTheHit : List ℕ → Type 0
LeavesBansToTheHit name =
    (call : Call) (seen : Seen) → is_hand_itself true call seen ≡ true → hits_itself (mode_argument call) call seen ≡ false
    → hits_hands (mode_argument call) call seen ≡ true → DoesNothing name call seen

-- a bot that the ban does not hit does nothing if another hand that is op comes first
abbrev pub LeavesOthersBansToTheFirst : List ℕ → Type 0
LeavesOthersBansToTheFirst name =
    (call : Call) (seen : Seen) → 0 < rank true call seen → hits_itself (mode_argument call) call seen ≡ false → DoesNothing name call seen

-- ---- looks

-- a look for a ban does nothing if nobody of the look's address is on the channel
abbrev pub WantsTheBanned : List ℕ → Type 0
WantsTheBanned name =
    (call : Call) (seen : Seen) → is_ban (effect_in (line_of call)) ≡ true
    → is_here (first_word (timer_text call)) (channel_in (line_of call)) seen ≡ false → DoesNothing name call seen

-- any other look does nothing if nobody of the nick is on the channel
abbrev pub WantsSomebody : List ℕ → Type 0
WantsSomebody name =
    (call : Call) (seen : Seen) → is_ban (effect_in (line_of call)) ≡ false
    → member_in (channel_in (line_of call)) (target_in (line_of call)) seen.sight.channels ≡ None
    → DoesNothing name call seen

-- any other look does nothing if the member of that nick has another address
abbrev pub WantsTheSamePerson : List ℕ → Type 0
WantsTheSamePerson name =
    (call : Call) (seen : Seen) (member : Member) → is_ban (effect_in (line_of call)) ≡ false
    → member_in (channel_in (line_of call)) (target_in (line_of call)) seen.sight.channels ≡ Some member
    → bytes_eq (address_of member) (first_word (timer_text call)) ≡ false
    → DoesNothing name call seen

-- a look does nothing if the member shows the effect of the line
abbrev pub WantsItUndone : List ℕ → Type 0
WantsItUndone name =
    (call : Call) (seen : Seen) (member : Member)
    → member_in (channel_in (line_of call)) (target_in (line_of call)) seen.sight.channels ≡ Some member
    → is_done (effect_in (line_of call)) member ≡ true
    → DoesNothing name call seen

-- a look does nothing if the bot is no operator of the line's channel
abbrev pub WantsOp : List ℕ → Type 0
WantsOp name = (call : Call) (seen : Seen) → is_op_of (channel_in (line_of call)) seen ≡ false → DoesNothing name call seen

-- the line of the look
abbrev pub is_own_line : Call → Seen → Action → Bool
is_own_line call seen action = is_line (line_of call) action

-- ---- what a look reads in its line

-- a text with a byte, and without a space
abbrev pub is_word : List ℕ → Bool
is_word text = not (length text == 0) && list_all (λ b. not (b == 32)) text

-- a look reads the effect, the channel and the nick of a line
pub record IsRead (line : List ℕ) (what : LineEffect) (where_at whom : List ℕ) : Type 0 where
  pub effect : effect_in line ≡ what
  pub channel : channel_in line ≡ where_at
  pub nick : target_in line ≡ whom

-- of the lines that the procs send for a channel and a nick that are words
abbrev pub ReadsModes : List ℕ → LineEffect → Type 0
ReadsModes change effect =
    (channel nick : List ℕ) → is_word channel ≡ true → is_word nick ≡ true → IsRead (mode channel change nick) effect channel nick

abbrev pub ReadsKicks : Type 0
ReadsKicks =
    (channel nick reason : List ℕ) → is_word channel ≡ true → is_word nick ≡ true → IsRead (kick channel nick reason) Kick channel nick
