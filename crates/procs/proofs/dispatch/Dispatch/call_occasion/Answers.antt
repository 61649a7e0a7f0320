use Rattle.std.proofs.Common.{List, ◌&&◌, OnOk, OnErr, ap, sym, subst, ◌∙◌}
use Rattle.procs.specs.declared.call_kind.CallKind.{CallKind}
use Rattle.procs.specs.Tellings.{Telling}
use Rattle.procs.specs.Dispatched.{setting_in}
use Rattle.procs.specs.Dispatching.{told_alone, is_word}
use Rattle.procs.specs.Made.{Adds, AddsFront}
use Rattle.procs.proofs.NextLemmas.{told-loud}
use Rattle.procs.proofs.dispatch.Dispatch.call_occasion.Goals as goal

pub returns-in-Said-clause-ok : goal.returns-in-Said-clause-ok
returns-in-Said-clause-ok g c =
    let setting = setting_in g.P.Promise.promised c.args.scene.now in
    let loud = sym (c.is_silent.ensures ∙ ap (λ (k : CallKind). setting.exclusive && (c.args.taken && is_word k)) c.kind.ensures) ∙ c.if-is_silent.false in
    subst (λ (ts : List Telling). OnOk c.call_said.result (Adds g.P.Promise.promised c.args.scene.now.view.now c.args.self.now ts c.call_said.new.self))
    (ap (told_alone setting) (sym c.in-Said.is) ∙ sym (told-loud setting c.args.taken c.args.occasion.now loud)) c.call_said.ensures.ok

pub returns-in-Said-clause-err : goal.returns-in-Said-clause-err
returns-in-Said-clause-err g c =
    let setting = setting_in g.P.Promise.promised c.args.scene.now in
    let loud = sym (c.is_silent.ensures ∙ ap (λ (k : CallKind). setting.exclusive && (c.args.taken && is_word k)) c.kind.ensures) ∙ c.if-is_silent.false in
    subst (λ (ts : List Telling). OnErr c.call_said.result (AddsFront g.P.Promise.promised c.args.scene.now.view.now c.args.self.now ts c.call_said.new.self))
    (ap (told_alone setting) (sym c.in-Said.is) ∙ sym (told-loud setting c.args.taken c.args.occasion.now loud)) c.call_said.ensures.err
