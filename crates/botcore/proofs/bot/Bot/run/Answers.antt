use Rattle.std.proofs.Common.{◌∙◌, ℕ, Option, ap, sym, subst, Some}
use Rattle.bottimers.specs.Held.{Held}
use Rattle.bottimers.specs.Seconds.{seconds_run, last_after}
use Rattle.botcore.specs.Bots.{Bot}
use Rattle.botcore.specs.Rising.{IsReached, Rise}
use Rattle.botcore.specs.Happenings.{passed_all, seconds_of}
use Rattle.botcore.specs.Shown.{AreOccasions}
use Rattle.botcore.specs.Steps.{is_past}
use Rattle.botcore.proofs.RunningLemmas.{rise_run, passed_run, last_after_reading}
use Rattle.botcore.proofs.bot.Bot.run.Goals as goal

pub run_seconds-requires : goal.run_seconds-requires
run_seconds-requires g c =
    let now = c.args.now in
    let inside = c.self.inside in
    let seconds = c.as_slice.ensures.value ∙ c.in-Ok.ensures.seconds ∙ ap (λ (k : Option ℕ). seconds_run k now) c.in_ok-clock.ensures.equal in
    let fresh = ap (λ (b : Bot). is_past b.clock now) c.self.view_is ∙ c.requires.above in
    record {
      rise = subst (λ (h : Held). Rise h.last c.as_slice.result.now) (sym c.in_ok-timers.ensures)
          (subst (Rise inside.timers.last) (sym seconds) (rise_run inside.clock inside.timers.last now c.self.invariant.0 c.requires.moment fresh));
    }

pub returns-clause-reading : goal.returns-clause-reading
returns-clause-reading g c =
    let now = c.args.now in
    let inside = c.self.inside in
    let seconds = c.as_slice.ensures.value ∙ c.in-Ok.ensures.seconds ∙ ap (λ (k : Option ℕ). seconds_run k now) c.in_ok-clock.ensures.equal in
    let fresh = ap (λ (b : Bot). is_past b.clock now) c.self.view_is ∙ c.requires.above in
    let ran = c.in_ok-occasions.ensures.passed ∙ ap (λ (h : Held). passed_all h c.as_slice.result.now) c.in_ok-timers.ensures
    ∙ ap (passed_all inside.timers) seconds in
    let read = c.in-Ok.ensures.moved ∙ ap (λ (k : Option ℕ). Some (last_after k now)) c.in_ok-clock.ensures.equal
    ∙ ap (λ (t : ℕ). Some t) (last_after_reading inside.clock now fresh) in
    subst (λ (h : Held). IsReached h.last c.advance.new.self) (sym ran)
    (subst (IsReached (passed_all inside.timers (seconds_run inside.clock now)).last) (sym read)
    (passed_run inside.clock inside.timers now c.self.invariant.0 fresh))

pub returns-clause-clock : goal.returns-clause-clock
returns-clause-clock g c =
    let now = c.args.now in
    let inside = c.self.inside in
    let fresh = ap (λ (b : Bot). is_past b.clock now) c.self.view_is ∙ c.requires.above in
    c.in-Ok.ensures.moved ∙ ap (λ (k : Option ℕ). Some (last_after k now)) c.in_ok-clock.ensures.equal
    ∙ ap (λ (t : ℕ). Some t) (last_after_reading inside.clock now fresh)

pub returns-clause-timers : goal.returns-clause-timers
returns-clause-timers g c =
    let now = c.args.now in
    let inside = c.self.inside in
    let seconds = c.as_slice.ensures.value ∙ c.in-Ok.ensures.seconds ∙ ap (λ (k : Option ℕ). seconds_run k now) c.in_ok-clock.ensures.equal in
    c.in_ok-occasions.ensures.passed ∙ ap (λ (h : Held). passed_all h c.as_slice.result.now) c.in_ok-timers.ensures
    ∙ ap (passed_all inside.timers) seconds ∙ ap (λ (b : Bot). passed_all b.timers (seconds_run b.clock now)) c.self.view_is

pub returns-clause-occasions : goal.returns-clause-occasions
returns-clause-occasions g c =
    let now = c.args.now in
    let inside = c.self.inside in
    let items = c.in_ok-occasions.occasions.items in
    let seconds = c.as_slice.ensures.value ∙ c.in-Ok.ensures.seconds ∙ ap (λ (k : Option ℕ). seconds_run k now) c.in_ok-clock.ensures.equal in
    subst (λ (b : Bot). AreOccasions (seconds_of b.config.zone b.timers (seconds_run b.clock now)) items) c.self.view_is
    (subst (λ s. AreOccasions (seconds_of inside.config.zone inside.timers s) items) seconds
    (subst (λ (h : Held). AreOccasions (seconds_of inside.config.zone h c.as_slice.result.now) items) c.in_ok-timers.ensures c.in_ok-occasions.ensures.occasions))
