use Rattle.std.proofs.Common.{◌≡◌, sym, subst, map, unwrap_or}
use Rattle.bottimers.specs.declared.entry.Entry.{Entry}
use Rattle.bottimers.specs.declared.timers.Timers.TheInside.{Inside}
use Rattle.bottimers.specs.Held.{Held, status_of, statuses}
use Rattle.bottimers.specs.Countdown.{held}
use Rattle.bottimers.proofs.EntryLists.{map-map}
use Rattle.bottimers.proofs.timers.Timers.list.Goals as goal

statuses_is : (inside : Inside) (h : Held) → held inside ≡ h
    → map (λ e. status_of (unwrap_or inside.last 0) e.timer) inside.entries.items ≡ statuses h
statuses_is inside h view =
    subst (λ g. map (λ e. status_of (unwrap_or inside.last 0) e.timer) inside.entries.items ≡ statuses g) view
    (sym (map-map (status_of (unwrap_or inside.last 0)) (λ (e : Entry). e.timer) inside.entries.items))

pub returns-clause-list : goal.returns-clause-list
returns-clause-list c =
    let is = statuses_is c.self.inside c.args.self.now c.self.view_is in
    let list = rw (c.as_slice.ensures.value, c.unwrap_or.ensures, is) at c.statuses_of.ensures.list in
    list
