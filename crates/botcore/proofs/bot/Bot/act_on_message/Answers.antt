use Rattle.std.proofs.Common.{◌≡◌, ◌∙◌, List, ap, sym, subst, OnOk, IfOk}
use Rattle.botcore.specs.declared.fault.StepFault.{StepFault}
use Rattle.botcore.specs.Acting.{faults_of}
use Rattle.botcore.specs.Bots.{Bot}
use Rattle.botcore.specs.Lines.{acting_of}
use Rattle.botcore.proofs.BackLemmas.{HasMore-then, HasMore-same_then, on_err}
use Rattle.botcore.proofs.LineLemmas.{raw_line, raw_faults, left_line, left_faults}
use Rattle.botcore.proofs.bot.Bot.act_on_message.Goals as goal

pub returns-then-has_raw_one-clause-ok : goal.returns-then-has_raw_one-clause-ok
returns-then-has_raw_one-clause-ok g c =
    let raw = sym c.has_raw_one.ensures ∙ c.if-has_raw_one.true in
    subst (λ (b : Bot). OnOk c.act_alone.result (c.act_alone.new.self ≡ b))
    (sym (raw_line c.args.self.now c.args.message.now c.args.calls.now raw)) c.act_alone.ensures.ok

pub returns-then-has_raw_one-clause-faults : goal.returns-then-has_raw_one-clause-faults
returns-then-has_raw_one-clause-faults g c =
    let raw = sym c.has_raw_one.ensures ∙ c.if-has_raw_one.true in
    let before = faults_of (acting_of c.args.self.now) c.args.calls.now c.args.unbound.items in
    subst (λ (faults : List StepFault). IfOk c.act_alone.result (λ told. told.faults ≡ faults))
    (sym (raw_faults c.args.self.now c.args.message.now c.args.calls.now before raw)) c.act_alone.ensures.faults

pub returns-in_err-put_own-clause-err : goal.returns-in_err-put_own-clause-err
returns-in_err-put_own-clause-err g c =
    on_err c.from_residual-in_err-put_own.result
    (HasMore-then c.args.self.now c.carry_out.new.self c.put_own.new.self c.carry_out.ensures.kept c.put_own.ensures.kept)

pub returns-in_err-take_in-clause-err : goal.returns-in_err-take_in-clause-err
returns-in_err-take_in-clause-err g c =
    on_err c.from_residual-in_err-take_in.result
    (HasMore-same_then c.args.self.now c.put_own.new.self c.take_in.new.self
    (HasMore-then c.args.self.now c.carry_out.new.self c.put_own.new.self c.carry_out.ensures.kept c.put_own.ensures.kept) c.in_err-take_in.ensures.err)

pub returns-clause-ok : goal.returns-clause-ok
returns-clause-ok g c =
    let old = c.args.self.now in
    let calls = c.args.calls.now in
    let raw = sym c.has_raw_one.ensures ∙ c.if-has_raw_one.false in
    let known = ap (λ (b : Bot). b.welcomed) c.self.view_is in
    left_line old c.args.message.now calls c.carry_out.new.self c.put_own.new.self c.take_in.new.self c.put_timers.new.self
    c.in_ok-timers.field-0.timers c.in_ok-wishes.wishes.items c.manner_of-manner.result c.self.inside.welcomed c.manner_of-manner.ensures raw c.in_ok-wishes.ensures.lines known
    c.in_ok-timers.ensures.timers c.in_ok-timers.ensures.ok c.in_ok-put_own.ensures.queues c.in_ok-take_in.ensures.ok c.put_timers.ensures

pub returns-clause-faults : goal.returns-clause-faults
returns-clause-faults g c =
    let old = c.args.self.now in
    let calls = c.args.calls.now in
    let raw = sym c.has_raw_one.ensures ∙ c.if-has_raw_one.false in
    let known = ap (λ (b : Bot). b.welcomed) c.self.view_is in
    left_faults old c.args.message.now calls c.carry_out.new.self (faults_of (acting_of old) calls c.args.unbound.items)
    c.in_ok-timers.field-0.faults c.put_own.new.faults c.in_ok-wishes.wishes.items c.manner_of-manner.result c.self.inside.welcomed c.manner_of-manner.ensures raw c.in_ok-wishes.ensures.lines known
    c.in_ok-timers.ensures.ok c.in_ok-timers.ensures.faults c.in_ok-put_own.ensures.faults
