-- What actions leave of the link and the rest.
use Rattle.std.proofs.Common.{◌≡◌, ◌≢◌, ◌∙◌, ℕ, ◌+◌, ◌<◌, nat_lt, Bool, true, false, if◌then◌else◌, List, [], ◌∷◌, ◌++◌, length, drop, get_or, refl, ap, sym, subst, append_assoc, Option, Some, None, Result, Ok, Err}
use Rattle.std.proofs.lemmas.List.{append-nil, drop_more}
use Rattle.std.proofs.Math.Seq.{take-append_seam}
use Rattle.userfile.specs.Apply.{bad_shape}
use Rattle.userfile.specs.declared.change.Change.{Change}
use Rattle.userfile.specs.declared.error.ChangeFault.{ChangeFault}
use Rattle.procs.specs.declared.action.Action.{Action}
use Rattle.bytetext.specs.declared.failure.Failure.{Failure}
use Rattle.bytetext.specs.declared.failure.Failure.TheVariants.{Refused, NoMemory}
use Rattle.protocol.specs.Notes.{Note as Meaning, LinkFault as Meant}
use Rattle.protocol.specs.Notes.Note.{Queued}
use Rattle.protocol.specs.Notes.LinkFault.{Down, BadChange, AsksFull, OtherLayout, Diverged, NumbersSpent, JournalFault, BadBotText, DiskFault}
use Rattle.protocol.specs.Bots.{Works, noted, refused}
use Rattle.protocol.specs.HubRules.{Hub, ask_taken}
use Rattle.protocol.specs.LeafRules.{Leaf}
use Rattle.protocol.specs.Network.Event.{Ask}
use Rattle.sharelink.specs.declared.answer.Answer.{Answer}
use Rattle.sharelink.specs.declared.error.LinkFault.{LinkFault}
use Rattle.sharelink.specs.declared.error.LinkFault.TheVariants as fault
use Rattle.sharelink.specs.Calls.{note_of, IsFault}
use Rattle.protocol.specs.Ends.{End, AtHub, AtLeaf, end_asks, with_asks, with_oldest, end_did}
use Rattle.sharelink.specs.BotLinks.{BotEnd, Asks, keeps_asks}
use Rattle.botcore.specs.declared.fault.ActionFault.{ActionFault}
use Rattle.botcore.specs.declared.fault.StepFault.{StepFault}
use Rattle.botcore.specs.declared.report.End.TheVariants.{NoMemory as ends_no_memory}
use Rattle.procs.specs.declared.made_call.MadeCall.{MadeCall}
use Rattle.botcore.specs.Acting.{Acting, acted, acted_all, with_fault, action_faults, actions_of}
use Rattle.botcore.specs.Links.{ask_count, link_with_asks, fault_told}
use Rattle.botcore.specs.Progress.{Progress, Leaves, LeavesAll, HasMoreAsks, acting_at}
use Rattle.botcore.specs.Putting.{HasMoreLines}
use Rattle.botcore.specs.Reports.{answer_report}
use Rattle.botcore.proofs.PutLemmas.{HasMoreLines-then}

-- asks -------------------------------------------------------------------------------------------------------------------

-- the asks that wait are those that wait
with_asks-same : (end : End) → with_asks end (end_asks end) ≡ end
with_asks-same (AtHub hub) = refl
with_asks-same (AtLeaf leaf) = refl

with_asks-append : (end : End) (xs ys : List Change)
    → with_asks (with_asks end (end_asks end ++ xs)) (end_asks (with_asks end (end_asks end ++ xs)) ++ ys)
    ≡ with_asks end (end_asks end ++ (xs ++ ys))
with_asks-append (AtHub hub) xs ys = ap (λ (asks : List Change). AtHub (record hub { loose = asks })) (append_assoc hub.loose xs ys)
with_asks-append (AtLeaf leaf) xs ys =
    ap (λ (asks : List Change). AtLeaf (record leaf { loose = record leaf.loose { waiting = asks } })) (append_assoc leaf.loose.waiting xs ys)

-- no ask more
pub HasMoreAsks_refl : (link : BotEnd) → HasMoreAsks link link
HasMoreAsks_refl link = (
  [],
  sym (ap (λ (end : End). record link { end = end })
      (ap (with_asks link.end) (append-nil (end_asks link.end)) ∙ with_asks-same link.end)),
)

-- asks after asks
link_with_asks-append : (link : BotEnd) (xs ys : List Change) → link_with_asks (link_with_asks link xs) ys ≡ link_with_asks link (xs ++ ys)
link_with_asks-append link xs ys = ap (λ (end : End). record link { end = end }) (with_asks-append link.end xs ys)

pub HasMoreAsks-then : (a b c : BotEnd) → HasMoreAsks a b → HasMoreAsks b c → HasMoreAsks a c
HasMoreAsks-then a b c one other =
    (one.0 ++ other.0, other.1 ∙ ap (λ (l : BotEnd). link_with_asks l other.0) one.1 ∙ link_with_asks-append a one.0 other.0)

-- the asks of before are the oldest
oldest_asks : (end : End) (more : List Change) → with_oldest (with_asks end (end_asks end ++ more)) (length (end_asks end)) ≡ end
oldest_asks (AtHub hub) more = ap (λ (asks : List Change). AtHub (record hub { loose = asks })) (take-append_seam hub.loose more)
oldest_asks (AtLeaf leaf) more =
    ap (λ (asks : List Change). AtLeaf (record leaf { loose = record leaf.loose { waiting = asks } })) (take-append_seam leaf.loose.waiting more)

pub asks_back : (old new : BotEnd) (count : ℕ) → HasMoreAsks old new → count ≡ ask_count old → keeps_asks new count ≡ old
asks_back old new count more counted =
    ap (λ (l : BotEnd). keeps_asks l count) more.1
    ∙ ap (keeps_asks (link_with_asks old more.0)) counted
    ∙ ap (λ (end : End). record old { end = end }) (oldest_asks old.end more.0)

-- an ask that is taken leaves one ask more
taken_waits : {S : Type 0} (old with_it : S) (waiting : ℕ) (fault : Option ChangeFault) (note : Meaning)
    → (ask_taken old with_it waiting fault).told ≡ Ok note → (ask_taken old with_it waiting fault).after ≡ with_it
taken_waits old with_it waiting (Some fault) note is = cc
taken_waits old with_it waiting None note is = by (nat_lt waiting 64) is
  where
    by : (room : Bool) → (if room then noted Queued with_it else refused AsksFull old).told ≡ Ok note
        → (if room then noted Queued with_it else refused AsksFull old).after ≡ with_it
    by true is = refl
    by false is = cc

up_waits : {S : Type 0} (down : Bool) (old with_it : S) (waiting : ℕ) (fault : Option ChangeFault) (note : Meaning)
    → (if down then refused Down old else ask_taken old with_it waiting fault).told ≡ Ok note
    → (if down then refused Down old else ask_taken old with_it waiting fault).after ≡ with_it
up_waits true old with_it waiting fault note is = cc
up_waits false old with_it waiting fault note is = taken_waits old with_it waiting fault note is

asked_waits : (leaves number : ℕ) (end : End) (change : Change) (note : Meaning)
    → (end_did leaves number Works end (Ask change)).told ≡ Ok note
    → (end_did leaves number Works end (Ask change)).after ≡ with_asks end (end_asks end ++ change ∷ [])
asked_waits leaves number (AtHub hub) change note is =
    ap (λ (h : Hub). AtHub h)
    (up_waits hub.down hub (record hub { loose = hub.loose ++ change ∷ [] }) (length hub.loose) (bad_shape change) note is)
asked_waits leaves number (AtLeaf leaf) change note is =
    ap (λ (l : Leaf). AtLeaf l)
    (up_waits leaf.down leaf (record leaf { loose = record leaf.loose { waiting = leaf.loose.waiting ++ change ∷ [] } })
    (length leaf.loose.waiting) (bad_shape change) note is)

-- an ask leaves the link with one ask more, or as it was
pub HasMoreAsks-asked : (old : BotEnd) (change : Change) (result : Result Answer (Failure LinkFault)) (new : BotEnd)
    → Asks old change result new → HasMoreAsks old new
HasMoreAsks-asked old change (Ok answer) new is = (
  change ∷ [],
  is.1 ∙ ap (λ (end : End). record old { end = end })
      (is.0.after ∙ asked_waits old.leaves old.number old.end change (note_of answer.note) is.0.told),
)
HasMoreAsks-asked old change (Err (Refused fault)) new is = subst (HasMoreAsks old) (sym is.1) (HasMoreAsks_refl old)
HasMoreAsks-asked old change (Err NoMemory) new is = subst (HasMoreAsks old) (sym is.1) (HasMoreAsks_refl old)

-- a report ends out of memory only where the link's call did
pub answer_ends : (answer : Result Answer (Failure LinkFault)) → answer ≢ Err NoMemory → (answer_report answer).end ≢ ends_no_memory
answer_ends (Ok answer) has = λ same. cc
answer_ends (Err (Refused fault)) has = λ same. cc
answer_ends (Err NoMemory) has = λ same. has refl

-- an ask, as an action ----------------------------------------------------------------------------------------------------

-- a fault is told as the link tells it
pub fault_is : (fault : LinkFault) (said : Result Meaning Meant) → IsFault fault said → (why : Meant) × (said ≡ Err why) × (fault_told why ≡ fault)
fault_is fault.Down said is = (Down, is, refl)
fault_is (fault.BadChange of_change) said is = (BadChange of_change, is, refl)
fault_is fault.AsksFull said is = (AsksFull, is, refl)
fault_is fault.OtherLayout said is = (OtherLayout, is, refl)
fault_is fault.Diverged said is = (Diverged, is, refl)
fault_is fault.NumbersSpent said is = (NumbersSpent, is, refl)
fault_is fault.JournalFault said is = (JournalFault, is, refl)
fault_is fault.BadBotText said is = (BadBotText, is, refl)
fault_is fault.TextsFull said is = absurd is
fault_is fault.DiskFault said is = (DiskFault, is, refl)

-- actions after actions ----------------------------------------------------------------------------------------------------

acted_all-append : (old : Acting) (xs ys : List Action) → acted_all old (xs ++ ys) ≡ acted_all (acted_all old xs) ys
acted_all-append old [] ys = refl
acted_all-append old (x ∷ xs) ys = acted_all-append (acted old x).after xs ys

with_fault-append : (fault : Option ActionFault) (xs ys : List StepFault) → with_fault fault (xs ++ ys) ≡ with_fault fault xs ++ ys
with_fault-append None xs ys = refl
with_fault-append (Some fault) xs ys = refl

action_faults-append : (old : Acting) (xs ys : List Action) → action_faults old (xs ++ ys) ≡ action_faults old xs ++ action_faults (acted_all old xs) ys
action_faults-append old [] ys = refl
action_faults-append old (x ∷ xs) ys =
    ap (with_fault (acted old x).fault) (action_faults-append (acted old x).after xs ys)
    ∙ with_fault-append (acted old x).fault (action_faults (acted old x).after xs) (action_faults (acted_all (acted old x).after xs) ys)

-- some of all actions were done, from a first moment on, and these are left
pub record IsActing (before : BotEnd) (old : Progress) (all : List Action) (link : BotEnd) (now : Progress) (left : List Action) : Type 0 where
  pub acting : acted_all (acting_at link now) left ≡ acted_all (acting_at before old) all
  pub faults : now.faults ++ action_faults (acting_at link now) left ≡ old.faults ++ action_faults (acting_at before old) all
  pub kept : HasMoreAsks before link
  pub lines : HasMoreLines old.queues now.queues

-- these were done next
pub IsActing-more : (before : BotEnd) (old : Progress) (all : List Action) (link : BotEnd) (now : Progress) (left xs rest : List Action) (next : BotEnd) (new : Progress)
    → IsActing before old all link now left → left ≡ xs ++ rest → LeavesAll link now xs next new → HasMoreAsks link next
    → HasMoreLines now.queues new.queues
    → IsActing before old all next new rest
IsActing-more before old all link now left xs rest next new is here done more lines =
    record {
      acting = ap (λ (a : Acting). acted_all a rest) done.acting ∙ sym (acted_all-append (acting_at link now) xs rest)
          ∙ ap (acted_all (acting_at link now)) (sym here) ∙ is.acting;
      faults = ap (λ (fs : List StepFault). fs ++ action_faults (acting_at next new) rest) done.faults
          ∙ ap (λ (a : Acting). (now.faults ++ action_faults (acting_at link now) xs) ++ action_faults a rest) done.acting
          ∙ append_assoc now.faults (action_faults (acting_at link now) xs) _
          ∙ ap (λ (fs : List StepFault). now.faults ++ fs) (sym (action_faults-append (acting_at link now) xs rest))
          ∙ ap (λ (actions : List Action). now.faults ++ action_faults (acting_at link now) actions) (sym here) ∙ is.faults;
      kept = HasMoreAsks-then before link next is.kept more;
      lines = HasMoreLines-then old.queues now.queues new.queues is.lines lines;
    }

-- one action is all of it
LeavesAll-one : (link : BotEnd) (now : Progress) (x : Action) (next : BotEnd) (new : Progress)
    → Leaves now (acted (acting_at link now) x) next new → LeavesAll link now (x ∷ []) next new
LeavesAll-one link now x next new one = record { acting = one.acting; faults = one.faults }

-- one more action
pub IsActing-action : (before : BotEnd) (old : Progress) (all : List Action) (link : BotEnd) (now : Progress) (i : ℕ) (x : Action) (next : BotEnd) (new : Progress)
    → IsActing before old all link now (drop i all) → i < length all → x ≡ get_or all i x
    → Leaves now (acted (acting_at link now) x) next new → HasMoreAsks link next → HasMoreLines now.queues new.queues
    → IsActing before old all next new (drop (i + 1) all)
IsActing-action before old all link now i x next new is within here one more lines =
    IsActing-more before old all link now (drop i all) (x ∷ []) (drop (i + 1) all) next new is
    (drop_more all i x within ∙ ap (λ (a : Action). a ∷ drop (i + 1) all) (sym here)) (LeavesAll-one link now x next new one) more lines

-- one more call
pub IsActing-call : (before : BotEnd) (old : Progress) (calls : List MadeCall) (link : BotEnd) (now : Progress) (i : ℕ) (m : MadeCall) (xs : List Action)
    (next : BotEnd) (new : Progress)
    → IsActing before old (actions_of calls) link now (actions_of (drop i calls)) → i < length calls → m ≡ get_or calls i m → xs ≡ m.reply.actions
    → LeavesAll link now xs next new → HasMoreAsks link next → HasMoreLines now.queues new.queues
    → IsActing before old (actions_of calls) next new (actions_of (drop (i + 1) calls))
IsActing-call before old calls link now i m xs next new is within here same done more lines =
    IsActing-more before old (actions_of calls) link now (actions_of (drop i calls)) xs (actions_of (drop (i + 1) calls)) next new is
    (ap actions_of (drop_more calls i m within ∙ ap (λ (c : MadeCall). c ∷ drop (i + 1) calls) (sym here))
    ∙ ap (λ (these : List Action). these ++ actions_of (drop (i + 1) calls)) (sym same)) done more lines
