use Rattle.std.proofs.Common.{◌∙◌, [], map, refl, sym, ap, subst}
use Rattle.procs.specs.Made.{Made, IsMade, entry_of}
use Rattle.procs.specs.Dispatching.{next_of, told_of, takes_memory}
use Rattle.procs.specs.Dispatched.{setting_for}
use Rattle.procs.proofs.NextLemmas.{IsFrontMade-occasion, dispatched-more, any-behind}
use Rattle.procs.proofs.dispatch.call_procs.Goals as goal

pub loop-occasion-init : goal.loop-occasion-init
loop-occasion-init g c = (
  [],
  subst (λ (m : Made). IsMade g.P.Promise.promised c.args.scene.now.view.now m []) (sym c.new-made.ensures)
      (record { calls = refl; unbound = refl; kept = tt }),
  refl,
  c.new-people.ensures,
  λ e. e,
)

pub returns-in-Err-clause-made : goal.returns-in-Err-clause-made
returns-in-Err-clause-made g c =
    let scene = c.args.scene.now in
    let setting = setting_for g.P.Promise.promised scene.store.now scene.view.now.sight scene.binds.now.binds scene.exclusive in
    IsFrontMade-occasion g.P.Promise.promised scene.view.now setting c.call_occasion.new.self c.loop-occasion.next c.in-Go.taken
    c.in-Some.occasion.now c.loop-occasion.rest.now c.in-Some.behind.now
    c.loop-occasion.invariant.0 (told_of setting c.args.occasions.now) c.in-Some.ensures.cases.0 c.in-Go.is c.loop-occasion.invariant.2
    (c.in-Err.ensures.err c.loop-occasion.invariant.0 c.loop-occasion.invariant.1)

pub loop-occasion-preserved : goal.loop-occasion-preserved
loop-occasion-preserved g c =
    let scene = c.args.scene.now in
    let setting = setting_for g.P.Promise.promised scene.store.now scene.view.now.sight scene.binds.now.binds scene.exclusive in
    let more = dispatched-more g.P.Promise.promised scene.view.now setting c.loop-occasion.made c.call_occasion.new.self c.loop-occasion.next c.next_of-next.result c.in-Go.taken
    c.in-Some.occasion.now c.loop-occasion.rest.now c.in-Some.behind.now c.loop-occasion.invariant.0 (told_of setting c.args.occasions.now)
    c.call_count-before.result c.calls_since.result.now c.in-Some.ensures.cases.0 c.in-Go.is c.loop-occasion.invariant.2 c.loop-occasion.invariant.1
    c.in-Ok.ensures.ok c.call_count-before.ensures c.calls_since.ensures
    (c.next_of-next.ensures ∙ ap (λ kind. next_of kind (map entry_of c.calls_since.result.now)) c.kind.ensures) in (
      more.0,
      more.1,
      more.2,
      c.call_occasion.ensures.people ∙ c.loop-occasion.invariant.3,
      λ e. c.loop-occasion.invariant.4 (any-behind (takes_memory setting) c.loop-occasion.rest.now c.in-Some.behind.now c.in-Some.occasion.now
          c.in-Some.ensures.cases.0 e),
    )
