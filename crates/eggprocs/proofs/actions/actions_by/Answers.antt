use Rattle.std.proofs.Common.{◌≡◌, ◌∙◌, List, ap}
use Rattle.procs.specs.declared.action.Action.{Action}
use Rattle.procs.specs.declared.call.Call.{Call}
use Rattle.procs.specs.Seen.{Seen}
use Rattle.eggprocs.specs.declared.duties.Duty.{Duty}
use Rattle.eggprocs.specs.declared.proc_name.ProcName.{ProcName}
use Rattle.eggprocs.specs.Procs.{duty_of, wanted_by, actions_by}
use Rattle.eggprocs.specs.Turns.{share_out}
use Rattle.eggprocs.proofs.actions.actions_by.Goals as goal

shared : (which : ProcName) (call : Call) (seen : Seen) (duty : Duty) (wanted actions : List Action) → duty ≡ duty_of which
    → wanted ≡ wanted_by which call seen → actions ≡ share_out duty call seen wanted → actions ≡ actions_by which call seen
unfolding actions_by
shared which call seen duty wanted actions by_name same is =
    is ∙ ap (share_out duty call seen) same ∙ ap (λ (d : Duty). share_out d call seen (wanted_by which call seen)) by_name

pub returns : goal.returns
returns c =
    shared c.args.which c.args.call.now c.args.view.now c.duty.result c.in_ok-wanted.wanted c.in_ok-actions.actions c.duty.ensures c.in_ok-wanted.ensures
    c.in_ok-actions.ensures
