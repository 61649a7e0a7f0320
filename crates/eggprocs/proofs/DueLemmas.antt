-- What `opall` gives: op for the flag a, and voice for the flag g.
use Rattle.std.proofs.Common.{◌≡◌, ◌&&◌, ◌||◌, ◌∷◌, not, ℕ, List, [], take, Bool, true, false, refl, ap, subst, codes, if◌then◌else◌, Option, Some, None}
use Rattle.std.proofs.lemmas.Bool.{or_right}
use Rattle.std.proofs.lemmas.List.Elements.{All-take}
use Rattle.std.proofs.lemmas.List.Sums.{AllPass-from_list_all, list_all-from_AllPass}
use Rattle.std.proofs.lemmas.Slice.Eq.{bytes_eq-Decides}
use Rattle.std.specs.List.{list_all, filter_map}
use Rattle.std.specs.Option.{option_map}
use Rattle.chanstate.specs.declared.member.Member.{Member}
use Rattle.chanstate.specs.Views.{members_in}
use Rattle.procs.specs.declared.action.Action.{Action}
use Rattle.outqueue.specs.declared.queue.Queue.TheVariants.{Mode as mode_queue, Server}
use Rattle.procs.specs.declared.call.Call.{Call}
use Rattle.procs.specs.declared.limits.TheConstants.{MAX_ACTIONS}
use Rattle.procs.specs.Seen.{Seen}
use Rattle.eggprocs.specs.declared.rights.TheConstants.{AUTO_OP, AUTO_VOICE}
use Rattle.eggprocs.specs.declared.proc_name.ProcName.TheVariants as which
use Rattle.eggprocs.specs.Args.{channel_of}
use Rattle.eggprocs.specs.Channel.{put}
use Rattle.eggprocs.specs.Everyone.{is_own_join, gives_bot_op, flags_of_member, is_left, mode_for}
use Rattle.eggprocs.specs.Laws.{is_line_in_turn, is_due_to, is_due, GivesWhatIsDue}
use Rattle.eggprocs.specs.Lines.{mode, who}
use Rattle.eggprocs.specs.Procs.{wanted_by}
use Rattle.eggprocs.specs.Rights.{has_flag}
use Rattle.eggprocs.proofs.TurnLemmas.{KeepsLooks, keeps-line}
use Rattle.eggprocs.proofs.LawLemmas.{shares-kept}
use Rattle.eggprocs.proofs.Lists.{any-more, all-given}

-- the mode of a member is op for the flag a, or voice for the flag g
abbrev is_due_if : Bool → Bool → List ℕ → List ℕ → Option Action → Bool
is_due_if op voice channel nick None = true
is_due_if op voice channel nick (Some action) =
    (op && is_line_in_turn (mode channel (codes "+o") nick) action) || (voice && is_line_in_turn (mode channel (codes "+v") nick) action)

due-by : (left op voice voiced : Bool) (channel nick : List ℕ) (action : Action)
    → option_map (λ change. put mode_queue (mode channel change nick))
    (if left then None else (if op then Some (codes "+o") else (if voice && not voiced then Some (codes "+v") else None))) ≡ Some action
    → is_due_if op voice channel nick (Some action) ≡ true
due-by true op voice voiced channel nick action is = cc
due-by false true voice voiced channel nick action is = subst (λ (one : Option Action). is_due_if true voice channel nick one ≡ true) is
    (ap (λ (b : Bool). (b || false) || (voice && is_line_in_turn (mode channel (codes "+v") nick) (put mode_queue (mode channel (codes "+o") nick))))
    ((bytes_eq-Decides (mode channel (codes "+o") nick) (mode channel (codes "+o") nick)).1 refl))
due-by false false true true channel nick action is = cc
due-by false false true false channel nick action is = subst (λ (one : Option Action). is_due_if false true channel nick one ≡ true) is
    (ap (λ (b : Bool). b || false) ((bytes_eq-Decides (mode channel (codes "+v") nick) (mode channel (codes "+v") nick)).1 refl))
due-by false false false voiced channel nick action is = cc

due-mode : (call : Call) (seen : Seen) (member : Member) (action : Action) → mode_for call seen member ≡ Some action
    → is_due_to call seen action member ≡ true
due-mode call seen member action is =
    due-by (is_left seen member) (has_flag AUTO_OP (flags_of_member call seen member)) (has_flag AUTO_VOICE (flags_of_member call seen member))
    member.voice (channel_of call) member.nick action is

-- a look for a due mode is due
due-look : (call : Call) (seen : Seen) → KeepsLooks call seen (is_due call seen)
due-look call seen turn action look is due =
    any-more (is_due_to call seen action) (is_due_to call seen look) (members_in (channel_of call) seen.sight.channels)
    (λ member. either-kept (has_flag AUTO_OP (flags_of_member call seen member)) (has_flag AUTO_VOICE (flags_of_member call seen member))
    (is_line_in_turn (mode (channel_of call) (codes "+o") member.nick) action) (is_line_in_turn (mode (channel_of call) (codes "+v") member.nick) action)
    (is_line_in_turn (mode (channel_of call) (codes "+o") member.nick) look) (is_line_in_turn (mode (channel_of call) (codes "+v") member.nick) look)
    (keeps-line (mode (channel_of call) (codes "+o") member.nick) call seen turn action look is)
    (keeps-line (mode (channel_of call) (codes "+v") member.nick) call seen turn action look is)) due
  where
    either-kept : (op voice a b c d : Bool) → (a ≡ true → c ≡ true) → (b ≡ true → d ≡ true) → ((op && a) || (voice && b)) ≡ true → ((op && c) || (voice && d)) ≡ true
    either-kept true voice true b c d first second is = ap (λ (x : Bool). x || (voice && d)) (first refl)
    either-kept true true false b c d first second is = or_right c d (second is)
    either-kept true false false b c d first second is = cc
    either-kept false true a b c d first second is = second is
    either-kept false false a b c d first second is = cc

opall-due : (call : Call) (seen : Seen) (joins gets : Bool) → joins ≡ false → list_all (is_due call seen)
    (if joins then put Server (who (channel_of call)) ∷ []
    else if gets then take MAX_ACTIONS (filter_map (mode_for call seen) (members_in (channel_of call) seen.sight.channels))
    else []) ≡ true
opall-due call seen true gets none = cc
opall-due call seen false false none = refl
opall-due call seen false true none =
    let members = members_in (channel_of call) seen.sight.channels in
    let each = AllPass-from_list_all (is_due call seen) (filter_map (mode_for call seen) members)
    (all-given (mode_for call seen) (is_due_to call seen) (due-mode call seen) members) in
    list_all-from_AllPass (is_due call seen) (take MAX_ACTIONS (filter_map (mode_for call seen) members))
    (All-take (λ action. is_due call seen action ≡ true) MAX_ACTIONS (filter_map (mode_for call seen) members) each)

pub opall-law : GivesWhatIsDue (codes "opall")
unfolding wanted_by
opall-law call seen none =
    shares-kept which.OpAll call seen (is_due call seen) (due-look call seen) (opall-due call seen (is_own_join call seen) (gives_bot_op call seen) none)
