use Rattle.std.proofs.Common.{◌∙◌, ◌<◌, List, Option, ℕ, None, Some, refl, ap, sym, subst, arith}
use Rattle.bytetext.specs.declared.moment.TheConstants.{MOMENTS_END}
use Rattle.bottimers.specs.Held.{Held}
use Rattle.bottimers.specs.Seconds.{seconds_run}
use Rattle.procs.specs.declared.made_call.MadeCall.{MadeCall}
use Rattle.procs.specs.Dispatching.{told_of}
use Rattle.botcore.specs.Acting.{faults_of}
use Rattle.botcore.specs.Bots.{Bot, bot_setting, seen_at}
use Rattle.botcore.specs.Happenings.{seconds_of}
use Rattle.botcore.specs.Lines.{acting_of, acting_after, finish_reading}
use Rattle.botcore.specs.Reports.{cut_short, told as told_as}
use Rattle.botcore.specs.Shown.{AreOccasions}
use Rattle.botcore.specs.Steps.{is_stale}
use Rattle.botcore.proofs.CallingLemmas.{cut_short-seconds, front_all, none-seconds, quiet_takes, quiet_ends, seconds-reading, told-seconds}
use Rattle.botcore.proofs.StillLemmas.{seconds_none}
use Rattle.botcore.proofs.bot.Bot.read_clock.Goals as goal

pub returns-then-is_still_until-clause-takes : goal.returns-then-is_still_until-clause-takes
returns-then-is_still_until-clause-takes g c =
    let old = c.args.self.now in
    let now = c.args.now in
    let moment : now < MOMENTS_END = omega arith in
    let fresh = ap (λ (b : Bot). is_stale b.config.sends_at_once b.clock now) (sym c.self.view_is)
    ∙ ap (λ (k : Option ℕ). is_stale c.self.inside.config.sends_at_once k now) (sym c.last.ensures)
    ∙ sym c.is_stale.ensures.stale ∙ c.if-is_stale.false in
    let none = seconds_none old.config.zone old.timers (seconds_run old.clock now) (sym c.is_still_until.ensures ∙ c.if-is_still_until.true) in
    seconds-reading g.P.Promise.promised c.args.store.now old c.pass_to.new.self now c.quiet_report.result moment fresh
    (quiet_takes g.P.Promise.promised c.args.store.now old c.pass_to.new.self now c.pass_to.result c.quiet_report.result none
    c.quiet_report.ensures.done c.quiet_report.ensures.lacks c.pass_to.ensures.lines c.pass_to.ensures.ok c.pass_to.ensures.err)

pub returns-then-is_still_until-clause-needs_none : goal.returns-then-is_still_until-clause-needs_none
returns-then-is_still_until-clause-needs_none g c = λ quiet.
    quiet_ends c.pass_to.result c.quiet_report.result (c.pass_to.ensures.needs_none quiet.lines) c.quiet_report.ensures.done

pub returns-in-Err-clause-takes : goal.returns-in-Err-clause-takes
returns-in-Err-clause-takes g c =
    let old = c.args.self.now in
    let now = c.args.now in
    let moment : now < MOMENTS_END = omega arith in
    let fresh = ap (λ (b : Bot). is_stale b.config.sends_at_once b.clock now) (sym c.self.view_is)
    ∙ ap (λ (k : Option ℕ). is_stale c.self.inside.config.sends_at_once k now) (sym c.last.ensures)
    ∙ sym c.is_stale.ensures.stale ∙ c.if-is_stale.false in
    seconds-reading g.P.Promise.promised c.args.store.now old old now c.cut_short.result moment fresh
    (none-seconds g.P.Promise.promised c.args.store.now old old now c.cut_short.result refl (c.cut_short.ensures ∙ ap cut_short c.empty.ensures))

pub returns-in-Err-call_procs-clause-takes : goal.returns-in-Err-call_procs-clause-takes
returns-in-Err-call_procs-clause-takes g c =
    let old = c.args.self.now in
    let now = c.args.now in
    let moment : now < MOMENTS_END = omega arith in
    let fresh = ap (λ (b : Bot). is_stale b.config.sends_at_once b.clock now) (sym c.self.view_is)
    ∙ ap (λ (k : Option ℕ). is_stale c.self.inside.config.sends_at_once k now) (sym c.last.ensures)
    ∙ sym c.is_stale.ensures.stale ∙ c.if-is_stale.false in
    let occasions = c.as_slice.result.now in
    let all = subst (AreOccasions (seconds_of old.config.zone old.timers (seconds_run old.clock now))) (sym c.as_slice.ensures.value)
    c.in-Ok.ensures.occasions in
    seconds-reading g.P.Promise.promised c.args.store.now old old now c.cut_short-in-Err-call_procs.result moment fresh
    (cut_short-seconds g.P.Promise.promised c.args.store.now old old now occasions c.in-Err-call_procs.made
    c.into_parts.result.0 c.cut_short-in-Err-call_procs.result all c.in-Err-call_procs.ensures c.into_parts.ensures.calls refl
    c.cut_short-in-Err-call_procs.ensures)

pub returns-in-Ok-settle_at-clause-takes : goal.returns-in-Ok-settle_at-clause-takes
returns-in-Ok-settle_at-clause-takes g c =
    let old = c.args.self.now in
    let now = c.args.now in
    let moment : now < MOMENTS_END = omega arith in
    let fresh = ap (λ (b : Bot). is_stale b.config.sends_at_once b.clock now) (sym c.self.view_is)
    ∙ ap (λ (k : Option ℕ). is_stale c.self.inside.config.sends_at_once k now) (sym c.last.ensures)
    ∙ sym c.is_stale.ensures.stale ∙ c.if-is_stale.false in
    let occasions = c.as_slice.result.now in
    let all = subst (AreOccasions (seconds_of old.config.zone old.timers (seconds_run old.clock now))) (sym c.as_slice.ensures.value)
    c.in-Ok.ensures.occasions in
    let start = ap (λ (k : Option ℕ). record old { clock = k; timers = c.in-Ok.ran.timers }) c.in-Ok.ensures.clock
    ∙ ap (λ (h : Held). record old { clock = Some now; timers = h }) c.in-Ok.ensures.timers in
    let calls = c.as_slice-2.result.now in
    let unbound = c.into_parts-calls.result.1.items in
    let told = c.in-Ok-settle_at.told in
    let done = c.in-Ok-settle_at.ensures in
    seconds-reading g.P.Promise.promised c.args.store.now old c.settle_at.new.self now c.told.result moment fresh
    (told-seconds g.P.Promise.promised c.args.store.now old c.settle_at.new.self now occasions c.in-Ok-call_procs.made
    calls unbound told.packets told.lines told.faults c.told.result all c.in-Ok-call_procs.ensures
    (c.as_slice-2.ensures ∙ c.into_parts-calls.ensures.calls) c.into_parts-calls.ensures.unbound
    (done.packets ∙ ap (λ (b : Bot). (acting_after b calls).sent) start)
    (done.lines ∙ ap (λ (b : Bot). (finish_reading b now calls).lines) start)
    (done.faults ∙ ap (λ (b : Bot). faults_of (acting_of b) calls unbound) start)
    (done.ok ∙ ap (λ (b : Bot). (finish_reading b now calls).after) start)
    (c.told.ensures ∙ ap (λ (ms : List MadeCall). told_as None ms told.packets told.lines told.faults) (sym c.as_slice-2.ensures)))

pub returns-clause-takes : goal.returns-clause-takes
returns-clause-takes g c =
    let old = c.args.self.now in
    let now = c.args.now in
    let moment : now < MOMENTS_END = omega arith in
    let fresh = ap (λ (b : Bot). is_stale b.config.sends_at_once b.clock now) (sym c.self.view_is)
    ∙ ap (λ (k : Option ℕ). is_stale c.self.inside.config.sends_at_once k now) (sym c.last.ensures)
    ∙ sym c.is_stale.ensures.stale ∙ c.if-is_stale.false in
    let occasions = c.as_slice.result.now in
    let told = told_of (bot_setting g.P.Promise.promised c.args.store.now old) occasions in
    let all = subst (AreOccasions (seconds_of old.config.zone old.timers (seconds_run old.clock now))) (sym c.as_slice.ensures.value)
    c.in-Ok.ensures.occasions in
    seconds-reading g.P.Promise.promised c.args.store.now old c.settle_at.new.self now c.cut_short-in-Err-settle_at.result moment fresh
    (cut_short-seconds g.P.Promise.promised c.args.store.now old c.settle_at.new.self now occasions c.in-Ok-call_procs.made
    c.into_parts-calls.result.0 c.cut_short-in-Err-settle_at.result all
    (front_all g.P.Promise.promised (seen_at old (Some now)) c.in-Ok-call_procs.made told c.in-Ok-call_procs.ensures) c.into_parts-calls.ensures.calls
    c.in-Err-settle_at.ensures.err c.cut_short-in-Err-settle_at.ensures)
