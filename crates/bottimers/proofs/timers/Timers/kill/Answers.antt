use Rattle.std.proofs.Common.{◌≡◌, ◌∙◌, ap, sym, subst, map, List, not, eqb, refl, ℕ, arith}
use Rattle.std.specs.List.{list_any}
use Rattle.std.proofs.lemmas.Bool.{false≢true}
use Rattle.std.proofs.lemmas.List.Elements.{All-filter, All-same}
use Rattle.bottimers.specs.declared.timer.Timer.{Timer}
use Rattle.bottimers.specs.declared.entry.Entry.{Entry}
use Rattle.bottimers.specs.declared.timers.Timers.TheInside.{Inside}
use Rattle.bottimers.specs.Held.{Held, holds, without}
use Rattle.bottimers.specs.Countdown.{IsRunningAt, held, held_of}
use Rattle.bottimers.proofs.EntryLists.{filter-map, list_any-map}
use Rattle.bottimers.proofs.timers.Timers.kill.Goals as goal

holds_is : (inside : Inside) (h : Held) (id : ℕ) → held inside ≡ h → holds h id ≡ list_any (λ e. eqb e.timer.id id) inside.entries.items
holds_is inside h id view =
    subst (λ g. holds g id ≡ list_any (λ e. eqb e.timer.id id) inside.entries.items) view
    (list_any-map (λ (m : Timer). eqb m.id id) (λ (e : Entry). e.timer) inside.entries.items)

pub returns-then-not-has_id-clause-held : goal.returns-then-not-has_id-clause-held
returns-then-not-has_id-clause-held c =
    let is = holds_is c.self.inside c.args.self.now c.args.id c.self.view_is in
    (λ e. absurd (false≢true e), λ h. cc)

pub returns-clause-held : goal.returns-clause-held
returns-clause-held c =
    let is = holds_is c.self.inside c.args.self.now c.args.id c.self.view_is in
    (λ _. cc, λ _. refl)

pub invariant_of-self : goal.invariant_of-self
invariant_of-self c =
    record {
      running =
          All-same (IsRunningAt c.self.inside.last) _ _ c.remove_id.ensures.items
          (All-filter (λ (e : Entry). not (eqb e.timer.id c.args.id)) (IsRunningAt c.self.inside.last) c.self.inside.entries.items c.self.invariant.running);
      room = omega (arith, c.self.invariant.room, c.remove_id.ensures.room, c.remove_id.ensures.fewer);
    }

pub returns-clause-killed : goal.returns-clause-killed
returns-clause-killed c =
    let left =
    ap (map (λ (e : Entry). e.timer)) c.remove_id.ensures.items
    ∙ sym (filter-map (λ (m : Timer). not (eqb m.id c.args.id)) (λ (e : Entry). e.timer) c.self.inside.entries.items) in
    let inside = c.self.inside in
    let timers = map (λ (e : Entry). e.timer) c.remove_id.new.entries.items in
    subst (λ h. held_of timers inside.last inside.spent inside.room ≡ without h c.args.id) c.self.view_is
    (ap (λ (ts : List Timer). held_of ts inside.last inside.spent inside.room) left)
