use Rattle.std.proofs.Common.{◌≡◌, ◌∙◌, ap, sym, subst, map, arith, List, Some, unwrap_or}
use Rattle.std.proofs.lemmas.List.Elements.{All-same}
use Rattle.bottimers.specs.declared.timer.Timer.{Timer}
use Rattle.bottimers.specs.declared.entry.Entry.{Entry}
use Rattle.bottimers.specs.Held.{IsAbove, passed}
use Rattle.bottimers.specs.Countdown.{IsRunning, held_of}
use Rattle.bottimers.proofs.EntryLists.{running_to, running_kept, timers_kept}
use Rattle.bottimers.proofs.timers.Timers.pass.Goals as goal

pub invariant_of-self : goal.invariant_of-self
invariant_of-self c =
    let above = subst (λ h. IsAbove h.last c.args.second) (sym c.self.view_is) c.requires in
    record {
      running =
          All-same (IsRunning c.args.second) _ _ c.pass.ensures.items
          (running_kept (unwrap_or c.self.inside.last 0) c.args.second c.self.inside.entries.items
          (running_to c.self.inside.last c.args.second c.self.inside.entries.items above c.self.invariant.running));
      room = omega (arith, c.self.invariant.room, c.pass.ensures.room, c.pass.ensures.fewer);
    }

pub returns : goal.returns
returns c =
    let inside = c.self.inside in
    let timers = map (λ (e : Entry). e.timer) c.pass.new.entries.items in
    let kept = ap (map (λ (e : Entry). e.timer)) c.pass.ensures.items ∙ timers_kept c.args.second inside.entries.items in
    subst (λ h. held_of timers (Some c.args.second) inside.spent inside.room ≡ passed c.args.second h) c.self.view_is
    (ap (λ (ts : List Timer). held_of ts (Some c.args.second) inside.spent inside.room) kept)
