use Rattle.std.proofs.Common.{◌≡◌, ◌∙◌, ◌+◌, ap, sym, subst, Some, unwrap_or, arith}
use Rattle.std.proofs.lemmas.List.Elements.{All-push, All-same}
use Rattle.bottimers.specs.declared.timer.Timer.{Timer}
use Rattle.bottimers.specs.Held.{Held, IsNotBelow}
use Rattle.bottimers.specs.Countdown.{IsRunning}
use Rattle.bottimers.proofs.EntryLists.{running_not_below, running_kept}
use Rattle.bottimers.proofs.Adding.{with_timer_is}
use Rattle.bottimers.proofs.timers.Timers.push.Goals as goal

pub invariant_of-self : goal.invariant_of-self
invariant_of-self c =
    let inside = c.self.inside in
    let now = c.args.now in
    let below = subst (λ h. IsNotBelow h.last (Some now)) (sym c.self.view_is) c.requires.reading in
    let since = running_not_below inside.last now inside.entries.items below c.self.invariant.running in
    let kept = running_kept (unwrap_or inside.last 0) now inside.entries.items since in
    let before = All-same (IsRunning now) _ _ c.pass.ensures.items kept in
    record {
      running =
          All-same (IsRunning now) _ _ c.push_reserved.ensures.items
          (All-push (IsRunning now) c.pass.new.entries.items c.new.result before c.new.ensures.running);
      room = omega (
        arith,
        c.self.invariant.room,
        c.pass.ensures.room,
        c.pass.ensures.fewer,
        c.push_reserved.ensures.capacity,
        c.push_reserved.ensures.len,
        c.requires.room,
      );
    }

pub returns-clause-added : goal.returns-clause-added
returns-clause-added c =
    let inside = c.self.inside in
    let spent : inside.spent ≡ c.args.self.now.spent = ap (λ (h : Held). h.spent) c.self.view_is in
    let id : c.args.self.now.spent + 1 ≡ inside.spent + 1 = ap (λ k. k + 1) (sym spent) in
    let m : Timer =
    record {
      id = c.args.self.now.spent + 1;
      kind = c.args.kind;
      made = c.args.now;
      interval = c.args.interval;
      count = c.args.count;
      proc = c.args.proc;
      text = c.args.text;
    } in
    let made : c.new.result.timer ≡ record m { id = inside.spent + 1 } = c.new.ensures.timer in
    let same : c.new.result.timer ≡ m = made ∙ ap (λ k. let t : Timer = record m { id = k } in t) (sym id) in
    with_timer_is inside c.args.self.now c.self.view_is m c.pass.new.entries.items c.push_reserved.new.self.items c.new.result
    same c.pass.ensures.items c.push_reserved.ensures.items id
