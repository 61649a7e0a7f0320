-- What the procs request by which masters change the userfile, and what they say.
use Rattle.std.specs.Prelude.{ℕ, ◌&&◌, List, [], ◌∷◌, if◌then◌else◌, codes, Option, Some, None}
use Rattle.flagexpr.specs.declared.fault.FlagFault.{FlagFault}
use Rattle.flagexpr.specs.Faults.{flags_fault}
use Rattle.flagexpr.specs.Letters.{set_of}
use Rattle.loosemask.specs.declared.looseness.Looseness.{Looseness}
use Rattle.loosemask.specs.Loose.{looseness_of, warning_of}
use Rattle.userfile.specs.declared.change.Change.{Change}
use Rattle.userfile.specs.declared.edit.Edit.{Edit}
use Rattle.userfile.specs.declared.edit.Edit.TheVariants.{AddUser, DelUser, AddHost, DelHost, SetGlobal}
use Rattle.userfile.specs.declared.error.ChangeFault.{ChangeFault}
use Rattle.userfile.specs.Apply.{refusal}
use Rattle.bytetext.specs.Words.{first_word, after_word}
use Rattle.outqueue.specs.declared.queue.Queue.TheVariants.{Help}
use Rattle.procs.specs.declared.action.Action.{Action}
use Rattle.procs.specs.declared.action.Action.TheVariants.{Ask}
use Rattle.procs.specs.declared.call.Call.{Call}
use Rattle.procs.specs.Seen.{Seen}
use Rattle.eggprocs.specs.declared.rights.Requester.{Requester}
use Rattle.eggprocs.specs.declared.rights.Requester.TheVariants.{Elsewhere, Stranger, Master}
use Rattle.eggprocs.specs.Args.{nick_of, has_word}
use Rattle.eggprocs.specs.Askers.{in_callers_name}
use Rattle.eggprocs.specs.Channel.{put}
use Rattle.eggprocs.specs.Lines.{notice}
use Rattle.eggprocs.specs.Outcomes.{mask_added, refusal_text}

-- a NOTICE to the caller
abbrev pub told : Call → List ℕ → Action
told call words = put Help (notice (nick_of call) words)

-- what the NOTICE to a stranger says, whatever the command
abbrev pub for_masters : List ℕ
for_masters = codes "only masters and owners may do that"

-- a NOTICE of why a hostmask is loose, if it is
abbrev pub warned : Call → Option Looseness → List Action
warned call None = []
warned call (Some looseness) = told call (warning_of looseness) ∷ []

-- the request of a change, with a warning if it adds a loose hostmask, or a NOTICE of why the userfile refuses it
abbrev pub asked_unless : Option ChangeFault → Call → Change → List Action
asked_unless None call change = Ask change ∷ warned call (looseness_of (mask_added change.edit))
asked_unless (Some fault) call change = told call (refusal_text fault) ∷ []

-- the request of an edit in the caller's name, or a NOTICE of why the bot's userfile would refuse it: for one, because
-- the caller has no right to it
abbrev pub asked_for : Call → Seen → Edit → List Action
asked_for call seen edit = asked_unless (refusal seen.sight.records (in_callers_name call seen edit)) call (in_callers_name call seen edit)

-- what a master's command requests: its edit, or a NOTICE of how it is used
abbrev pub asked_by_master : Call → Seen → List ℕ → Option Edit → List Action
asked_by_master call seen usage None = told call usage ∷ []
asked_by_master call seen usage (Some edit) = asked_for call seen edit

-- what a command to the bot requests
abbrev pub asked_by_command : Requester → Call → Seen → List ℕ → Option Edit → List Action
asked_by_command Elsewhere call seen usage wish = []
asked_by_command Stranger call seen usage wish = told call for_masters ∷ []
asked_by_command Master call seen usage wish = asked_by_master call seen usage wish

-- ---- the edits that texts mean, if they have all the words

-- HANDLE
abbrev pub plus_user : List ℕ → Option Edit
plus_user text = if has_word text then Some (AddUser (first_word text)) else None

abbrev pub minus_user : List ℕ → Option Edit
minus_user text = if has_word text then Some (DelUser (first_word text)) else None

-- HANDLE MASK
abbrev pub plus_host : List ℕ → Option Edit
plus_host text =
    if has_word text && has_word (after_word text) then Some (AddHost (first_word text) (first_word (after_word text))) else None

abbrev pub minus_host : List ℕ → Option Edit
minus_host text =
    if has_word text && has_word (after_word text) then Some (DelHost (first_word text) (first_word (after_word text))) else None

-- HANDLE FLAGS: the flags that the user has everywhere from then on, or - for none
abbrev pub flags_unless : Option FlagFault → List ℕ → Option Edit
flags_unless None text = Some (SetGlobal (first_word text) (set_of (first_word (after_word text))))
flags_unless (Some fault) text = None

abbrev pub chattr : List ℕ → Option Edit
chattr text =
    if has_word text && has_word (after_word text) then flags_unless (flags_fault (first_word (after_word text))) text else None
