-- What `stick`, `unstick` and `bans` request.
use Rattle.std.specs.Prelude.{ℕ, ◌-◌, Bool, true, false, List, [], ◌∷◌, ◌++◌, map, take, drop, if◌then◌else◌, unwrap_or, codes, Option, Some, None}
use Rattle.recordtext.specs.Words.{number_below}
use Rattle.userfile.specs.declared.edit.Edit.{Edit}
use Rattle.userfile.specs.declared.edit.Edit.TheVariants.{SetSticky}
use Rattle.userfile.specs.declared.ban.Ban.{Ban}
use Rattle.bytetext.specs.Words.{first_word, after_word}
use Rattle.procs.specs.declared.action.Action.{Action}
use Rattle.procs.specs.declared.call.Call.{Call}
use Rattle.procs.specs.declared.limits.TheConstants.{MAX_ACTIONS}
use Rattle.procs.specs.Seen.{Seen}
use Rattle.eggprocs.specs.declared.rights.Requester.{Requester}
use Rattle.eggprocs.specs.declared.rights.Requester.TheVariants.{Elsewhere, Stranger, Master}
use Rattle.eggprocs.specs.Args.{told_of, has_word, or_else}
use Rattle.eggprocs.specs.People.{told, for_masters}

-- ---- the edits that texts mean

-- MASK CHANNEL: of the ban on all channels if no channel is given
abbrev pub marked : List ℕ → Bool → Option Edit
marked text on = if has_word text then Some (SetSticky (first_word (after_word text)) (first_word text) on) else None

abbrev pub stick : List ℕ → Option Edit
stick text = marked text true

abbrev pub unstick : List ℕ → Option Edit
unstick text = marked text false

-- ---- bans

-- a sticky ban's mark
abbrev pub mark_text : Bool → List ℕ
mark_text true = codes ", sticky"
mark_text false = []

-- CHANNEL MASK by HANDLE, with * for all channels
abbrev pub ban_text : Ban → List ℕ
ban_text ban = or_else ban.channel (codes "*") ++ codes " " ++ ban.mask ++ codes " by " ++ ban.creator ++ mark_text ban.sticky

abbrev pub told_ban : Call → Ban → Action
told_ban call ban = told call (ban_text ban)

-- how many bans a text leaves out: those before the number with which it begins, counted from 1
abbrev pub left_out : List ℕ → ℕ
left_out text = unwrap_or (number_below 65536 (first_word text)) 1 - 1

-- a NOTICE for each ban, or one if there is none
abbrev pub told_bans : Call → List Ban → List Action
told_bans call [] = told call (codes "there is no such ban") ∷ []
told_bans call (ban ∷ bans) = map (told_ban call) (ban ∷ bans)

-- what `bans` requests: NOTICEs that list the bans to a master, as many as an answer has room for
abbrev pub asked_by_bans : Requester → Call → Seen → List Action
asked_by_bans Elsewhere call seen = []
asked_by_bans Stranger call seen = told call for_masters ∷ []
asked_by_bans Master call seen = told_bans call (take MAX_ACTIONS (drop (left_out (told_of call)) seen.sight.records.bans))
