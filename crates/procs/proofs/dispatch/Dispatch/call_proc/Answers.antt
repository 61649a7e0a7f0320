use Rattle.std.proofs.Common.{◌≡◌, ◌∙◌, ◌++◌, ◌∷◌, [], ap, sym, subst, true, List, ℕ}
use Rattle.procs.specs.Calling.{holds}
use Rattle.procs.specs.Promises.{IsKept}
use Rattle.procs.specs.Made.{Made}
use Rattle.procs.proofs.MakingLemmas.{Adds-called, Adds-missing, absent}
use Rattle.procs.proofs.dispatch.Dispatch.call_proc.Goals as goal

pub returns-in-Ok-clause-ok : goal.returns-in-Ok-clause-ok
returns-in-Ok-clause-ok g c =
    let calls = c.push_reserved.ensures.items
    ∙ ap (λ ms. ms ++ record { bind = c.args.number; proc = c.in_ok-proc.proc; call = c.in_ok-call_copy.call_copy; reply = c.in-Ok.reply } ∷ [])
    (c.reserve.ensures.items ∙ ap (λ (m : Made). m.calls) c.self.view_is) in
    let unbound = ap (λ (m : Made). m.unbound) c.self.view_is in
    Adds-called g.P.Promise.promised c.args.scene.now.view.now c.args.scene.now.store.now c.args.call.now c.args.number c.args.name.now c.args.self.now _
    c.in_ok-proc.proc c.in_ok-call_copy.call_copy c.in-Ok.reply calls unbound c.in_ok-proc.ensures c.in_ok-call_copy.ensures
    (subst (λ (name : List ℕ). (holds c.args.scene.now.store.now name ≡ true) × IsKept g.P.Promise.promised name c.args.call.now c.args.scene.now.view.now c.in-Ok.reply)
    c.as_bytes.ensures c.in-Ok.ensures)

pub returns-in_ok-push-in-Err-Refused-NoSuchProc-clause-ok : goal.returns-in_ok-push-in-Err-Refused-NoSuchProc-clause-ok
returns-in_ok-push-in-Err-Refused-NoSuchProc-clause-ok g c =
    let calls = c.reserve.ensures.items ∙ ap (λ (m : Made). m.calls) c.self.view_is in
    let unbound = c.in_ok-push-in-Err-Refused-NoSuchProc.ensures.items
    ∙ ap (λ us. us ++ record { bind = c.args.number; proc = c.in_ok-proc.proc } ∷ [])
    (ap (λ (m : Made). m.unbound) c.self.view_is) in
    Adds-missing g.P.Promise.promised c.args.scene.now.view.now c.args.scene.now.store.now c.args.call.now c.args.number c.args.name.now c.args.self.now _
    c.in_ok-proc.proc calls unbound c.in_ok-proc.ensures
    (ap (holds c.args.scene.now.store.now) (sym c.as_bytes.ensures)
    ∙ absent g.P.Promise.promised c.args.scene.now.view.now c.args.scene.now.store.now c.as_bytes.result.now c.args.call.now
    c.in-Err-Refused-NoSuchProc.field-0 c.in-Err-Refused-NoSuchProc.field-0-0 c.in-Err-Refused-NoSuchProc.field-0-is c.in-Err-Refused-NoSuchProc.ensures)
