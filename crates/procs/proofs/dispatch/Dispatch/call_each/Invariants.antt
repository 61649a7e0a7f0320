use Rattle.std.proofs.Common.{◌≡◌, ◌++◌, List, length}
use Rattle.procs.specs.Promises.{code_at}
use Rattle.procs.specs.Tellings.{Telling, told_all}
use Rattle.procs.specs.Made.{Adds}
use Rattle.procs.proofs.dispatch.Dispatch.call_each.Given as goal

-- the binds so far have been called, and the rest are left
abbrev pub invariant-loop-bind : goal.invariant-loop-bind
invariant-loop-bind g l =
    (done : List Telling) × Adds g.P.Promise.promised l.fn.scene.view.now l.fn.self done l.self
    × (done ++ told_all (code_at g.P.Promise.promised l.fn.scene.view.now.sight) l.fn.scene.store.now l.call l.binds ≡ told_all (code_at g.P.Promise.promised l.fn.scene.view.now.sight) l.fn.scene.store.now l.call l.fn.binds)

abbrev pub decreases-loop-bind : goal.decreases-loop-bind
decreases-loop-bind g l = length l.binds
