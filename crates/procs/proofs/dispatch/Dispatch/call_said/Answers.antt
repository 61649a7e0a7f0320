use Rattle.std.proofs.Common.{ℕ, ◌∙◌, List, None, OnOk, OnErr, ap, subst}
use Rattle.procs.specs.declared.bind_kind.BindKind.TheVariants.{Bot}
use Rattle.procs.specs.Calls.{seen}
use Rattle.procs.specs.Tellings.{Telling}
use Rattle.procs.specs.Dispatched.{setting_in}
use Rattle.procs.specs.Made.{Adds, AddsFront}
use Rattle.bytetext.specs.Words.{first_word}
use Rattle.procs.specs.Occasions.{by_nobody, said_seen, said_call}
use Rattle.procs.proofs.HeardLemmas.{told_seen-same}
use Rattle.procs.proofs.dispatch.Dispatch.call_said.Goals as goal

pub returns-clause-ok : goal.returns-clause-ok
returns-clause-ok g c =
    let setting = setting_in g.P.Promise.promised c.args.scene.now in
    let same = told_seen-same setting (seen c.by_nobody-seen.result) (said_seen c.args.text.now) c.in-Ok.call (said_call c.args.from c.args.text.now)
    (c.by_nobody-seen.ensures ∙ ap (λ (s : List ℕ). by_nobody Bot s None) (c.first_word.ensures ∙ ap first_word c.as_bytes-2.ensures)) (c.in-Ok.ensures ∙ ap (said_call c.args.from) c.as_bytes.ensures) in
    subst (λ (ts : List Telling). OnOk c.call_seen.result (Adds g.P.Promise.promised c.args.scene.now.view.now c.args.self.now ts c.call_seen.new.self))
    same c.call_seen.ensures.ok

pub returns-clause-err : goal.returns-clause-err
returns-clause-err g c =
    let setting = setting_in g.P.Promise.promised c.args.scene.now in
    let same = told_seen-same setting (seen c.by_nobody-seen.result) (said_seen c.args.text.now) c.in-Ok.call (said_call c.args.from c.args.text.now)
    (c.by_nobody-seen.ensures ∙ ap (λ (s : List ℕ). by_nobody Bot s None) (c.first_word.ensures ∙ ap first_word c.as_bytes-2.ensures)) (c.in-Ok.ensures ∙ ap (said_call c.args.from) c.as_bytes.ensures) in
    subst (λ (ts : List Telling). OnErr c.call_seen.result (AddsFront g.P.Promise.promised c.args.scene.now.view.now c.args.self.now ts c.call_seen.new.self))
    same c.call_seen.ensures.err
