use Rattle.std.proofs.Common.{◌∙◌, ◌∷◌, [], List, ap, refl, subst}
use Rattle.procs.specs.Promises.{code_at}
use Rattle.procs.specs.Tellings.{Telling, told_proc, told_all}
use Rattle.procs.specs.Dispatched.{setting_in}
use Rattle.procs.specs.Dispatching.{told_heard}
use Rattle.procs.specs.Heard.{KnownPeople, people_in, person_of}
use Rattle.procs.specs.Made.{Adds, AddsFront}
use Rattle.procs.proofs.HeardLemmas.{first_and_rest, called-seen, told_heard-found}
use Rattle.procs.proofs.MakingLemmas.{Adds-append, Adds-none, AddsFront-after, stopped}
use Rattle.procs.proofs.dispatch.Dispatch.call_heard.Goals as goal

pub returns-in-Ok-call_each-clause-ok : goal.returns-in-Ok-call_each-clause-ok
returns-in-Ok-call_each-clause-ok g c =
    let scene = c.args.scene.now in
    let people = people_in scene.view.now.sight in
    let binds = scene.binds.now.binds in
    let code_of = code_at g.P.Promise.promised scene.view.now.sight in
    let call = c.in-Ok-call_by.call in
    let first = c.in-Some.first.now in
    let found = called-seen people.mapping people.users binds c.called-found.result c.args.event.now c.in-Ok.person.flags c.kind_of.result c.as_bytes.result.now
    (c.in-Ok.ensures.flags ∙ ap (λ (p : KnownPeople). (person_of p.mapping p.users c.args.event.now).flags) c.requires) c.kind_of.ensures c.as_bytes.ensures c.called-found.ensures.binds in
    let all = ap (told_all code_of scene.store.now call) (first_and_rest c.called-found.result c.next.new.self first c.in-Some.ensures.first c.in-Some.ensures.rest)
    ∙ told_heard-found code_of scene.store.now people.mapping people.users binds c.called-found.result scene.exclusive c.args.event.now c.in-Ok.person.handle.now call
    (c.in-Ok.ensures.handle ∙ ap (λ (p : KnownPeople). (person_of p.mapping p.users c.args.event.now).handle) c.requires) c.in-Ok-call_by.ensures found in
    subst (λ (ts : List Telling). Adds g.P.Promise.promised scene.view.now c.args.self.now ts c.call_each.new.self) all
    (Adds-append g.P.Promise.promised scene.view.now c.args.self.now c.call_proc.new.self c.call_each.new.self
    (told_proc code_of scene.store.now call first.number first.proc ∷ []) (told_all code_of scene.store.now call c.next.new.self)
    c.in-Ok-call_proc.ensures.ok c.in-Ok-call_each.ensures.ok)

pub returns-clause-err : goal.returns-clause-err
returns-clause-err g c =
    let scene = c.args.scene.now in
    let people = people_in scene.view.now.sight in
    let binds = scene.binds.now.binds in
    let code_of = code_at g.P.Promise.promised scene.view.now.sight in
    let call = c.in-Ok-call_by.call in
    let first = c.in-Some.first.now in
    let found = called-seen people.mapping people.users binds c.called-found.result c.args.event.now c.in-Ok.person.flags c.kind_of.result c.as_bytes.result.now
    (c.in-Ok.ensures.flags ∙ ap (λ (p : KnownPeople). (person_of p.mapping p.users c.args.event.now).flags) c.requires) c.kind_of.ensures c.as_bytes.ensures c.called-found.ensures.binds in
    let all = ap (told_all code_of scene.store.now call) (first_and_rest c.called-found.result c.next.new.self first c.in-Some.ensures.first c.in-Some.ensures.rest)
    ∙ told_heard-found code_of scene.store.now people.mapping people.users binds c.called-found.result scene.exclusive c.args.event.now c.in-Ok.person.handle.now call
    (c.in-Ok.ensures.handle ∙ ap (λ (p : KnownPeople). (person_of p.mapping p.users c.args.event.now).handle) c.requires) c.in-Ok-call_by.ensures found in
    subst (λ (ts : List Telling). AddsFront g.P.Promise.promised scene.view.now c.args.self.now ts c.call_each.new.self) all
    (AddsFront-after g.P.Promise.promised scene.view.now c.args.self.now c.call_proc.new.self c.call_each.new.self
    (told_proc code_of scene.store.now call first.number first.proc ∷ []) (told_all code_of scene.store.now call c.next.new.self)
    c.in-Ok-call_proc.ensures.ok c.in-Err-call_each.ensures.err)

pub returns-in-Err-call_proc-clause-err : goal.returns-in-Err-call_proc-clause-err
returns-in-Err-call_proc-clause-err g c =
    let scene = c.args.scene.now in
    let ts = told_heard (setting_in g.P.Promise.promised scene) c.args.event.now in
    stopped g.P.Promise.promised scene.view.now c.args.self.now c.args.self.now c.call_proc.new.self [] ts ts c.in-Err-call_proc.ensures.err
    (Adds-none g.P.Promise.promised scene.view.now c.args.self.now) refl
