use Rattle.std.proofs.Common.{ℕ, ◌∙◌, List, None, OnOk, OnErr, ap, subst}
use Rattle.procs.specs.declared.bind_kind.BindKind.TheVariants.{Time}
use Rattle.procs.specs.Calls.{seen}
use Rattle.procs.specs.Tellings.{Telling}
use Rattle.procs.specs.Dispatched.{setting_in}
use Rattle.procs.specs.Made.{Adds, AddsFront}
use Rattle.procs.specs.Occasions.{by_nobody, time_seen, time_call}
use Rattle.procs.proofs.HeardLemmas.{told_seen-same}
use Rattle.procs.proofs.dispatch.Dispatch.call_time.Goals as goal

pub returns-clause-ok : goal.returns-clause-ok
returns-clause-ok g c =
    let setting = setting_in g.P.Promise.promised c.args.scene.now in
    let same = told_seen-same setting (seen c.by_nobody-seen.result) (time_seen c.args.minute.now) c.in-Ok-time_call.call (time_call c.args.minute.now)
    (c.by_nobody-seen.ensures ∙ ap (λ (s : List ℕ). by_nobody Time s None) (c.as_bytes.ensures ∙ c.in-Ok.ensures)) (c.in-Ok-time_call.ensures) in
    subst (λ (ts : List Telling). OnOk c.call_seen.result (Adds g.P.Promise.promised c.args.scene.now.view.now c.args.self.now ts c.call_seen.new.self))
    same c.call_seen.ensures.ok

pub returns-clause-err : goal.returns-clause-err
returns-clause-err g c =
    let setting = setting_in g.P.Promise.promised c.args.scene.now in
    let same = told_seen-same setting (seen c.by_nobody-seen.result) (time_seen c.args.minute.now) c.in-Ok-time_call.call (time_call c.args.minute.now)
    (c.by_nobody-seen.ensures ∙ ap (λ (s : List ℕ). by_nobody Time s None) (c.as_bytes.ensures ∙ c.in-Ok.ensures)) (c.in-Ok-time_call.ensures) in
    subst (λ (ts : List Telling). OnErr c.call_seen.result (AddsFront g.P.Promise.promised c.args.scene.now.view.now c.args.self.now ts c.call_seen.new.self))
    same c.call_seen.ensures.err
