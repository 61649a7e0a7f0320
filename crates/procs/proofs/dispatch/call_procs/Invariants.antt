use Rattle.std.proofs.Common.{◌≡◌, ◌++◌, List, length, true}
use Rattle.std.specs.List.{list_any}
use Rattle.procs.specs.Tellings.{Telling}
use Rattle.procs.specs.Made.{IsMade}
use Rattle.procs.specs.Dispatching.{told_from, told_of, takes_memory}
use Rattle.procs.specs.Dispatched.{setting_for}
use Rattle.procs.specs.Heard.{people_in}
use Rattle.procs.proofs.dispatch.call_procs.Given as goal

-- the occasions so far have been dispatched, and the rest are left; the people are the scene's; memory that one of the rest takes
-- is taken for all
abbrev pub invariant-loop-occasion : goal.invariant-loop-occasion
invariant-loop-occasion g l =
    let scene = l.fn.scene in
    let setting = setting_for g.P.Promise.promised scene.store.now scene.view.now.sight scene.binds.now.binds scene.exclusive in
    (done : List Telling) × IsMade g.P.Promise.promised l.fn.scene.view.now l.made done
    × (done ++ told_from setting l.next l.rest ≡ told_of setting l.fn.occasions)
    × (l.people ≡ people_in scene.view.now.sight)
    × (list_any (takes_memory setting) l.rest ≡ true → list_any (takes_memory setting) l.fn.occasions ≡ true)

abbrev pub decreases-loop-occasion : goal.decreases-loop-occasion
decreases-loop-occasion g l = length l.rest
