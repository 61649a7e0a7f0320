use Rattle.std.proofs.Common.{◌≡◌, ◌∙◌, List, [], None, false, true, refl, ap, sym, subst, rules}
use Rattle.std.proofs.lemmas.List.{nil_from_length}
use Rattle.std.specs.Prelude.{codes}
use Rattle.std.specs.Cmp.Lexicographic.{bytes_decides}
use Rattle.ircline.specs.declared.line.Line.{Line as ReadLine}
use Rattle.sharelink.specs.Shapes.{AreGood}
use Rattle.procs.specs.declared.made_call.MadeCall.{MadeCall}
use Rattle.botcore.specs.declared.event.BotEvent.TheVariants.{Line}
use Rattle.botcore.specs.declared.report.Report.{Report}
use Rattle.botcore.specs.Bots.{bot_seen}
use Rattle.botcore.specs.Lines.{finish_line}
use Rattle.botcore.specs.Quiet.{NeedsNone}
use Rattle.botcore.specs.Reports.{told as told_as}
use Rattle.botcore.specs.Steps.{message_told}
use Rattle.botcore.proofs.BackLemmas.{taken_back}
use Rattle.botcore.proofs.CallingLemmas.{cut_short-takes, front_all, told-takes}
use Rattle.botcore.proofs.GoodLemmas.{sent_good}
use Rattle.botcore.proofs.LineLemmas.{message-line, said_faults, said_line}
use Rattle.botcore.proofs.bot.Bot.take_line.Goals as goal

pub returns-in-Err-clause-takes : goal.returns-in-Err-clause-takes
returns-in-Err-clause-takes g c =
    let old = c.args.self.now in
    let message = c.in-Message.message in
    let told = message_told g.P.Promise.promised c.args.store.now old message in
    message-line g.P.Promise.promised c.args.store.now old c.args.line.now message c.cut_short.result old c.in-Message.is
    (cut_short-takes g.P.Promise.promised told old old old None (finish_line old message) c.in-Err.made
    c.into_parts.result.0 c.cut_short.result c.in-Err.ensures.dispatched c.into_parts.ensures.calls refl c.cut_short.ensures)

pub returns-in-Err-clause-needs_none : goal.returns-in-Err-clause-needs_none
returns-in-Err-clause-needs_none g c = λ quiet.
    let brings = subst (λ (l : ReadLine). NeedsNone c.args.self.now (Line l)) c.in-Message.is quiet in
    absurd (c.in-Err.ensures.needs_none brings.calls)

pub returns-then-is_empty-2-clause-takes : goal.returns-then-is_empty-2-clause-takes
returns-then-is_empty-2-clause-takes g c =
    let old = c.args.self.now in
    let message = c.in-Message.message in
    let told = message_told g.P.Promise.promised c.args.store.now old message in
    let is : message.command ≡ codes "PRIVMSG" =
    (bytes_decides message.command (codes "PRIVMSG")).0 (sym c.is_said.ensures ∙ c.if-is_said.true) in
    let calls : c.into_parts-calls.result.0 ≡ [] = search rules in
    let unbound : c.into_parts-calls.result.1.items ≡ [] =
    sym c.as_slice.ensures.value ∙ nil_from_length c.as_slice.result.now (search rules) in
    message-line g.P.Promise.promised c.args.store.now old c.args.line.now message c.done-then-is_empty-2.result old c.in-Message.is
    (told-takes g.P.Promise.promised told old old old None (finish_line old message) c.in-Ok.made [] [] [] [] [] c.done-then-is_empty-2.result
    c.in-Ok.ensures.dispatched (sym calls ∙ c.into_parts-calls.ensures.calls) (sym unbound ∙ c.into_parts-calls.ensures.unbound)
    refl refl (sym (said_faults old message is)) (sym (said_line old message is)) c.done-then-is_empty-2.ensures)

pub returns-in-Ok-act_on_message-clause-takes : goal.returns-in-Ok-act_on_message-clause-takes
returns-in-Ok-act_on_message-clause-takes g c =
    let old = c.args.self.now in
    let message = c.in-Message.message in
    let told = message_told g.P.Promise.promised c.args.store.now old message in
    let left = c.in-Ok-act_on_message.told in
    let done = c.in-Ok-act_on_message.ensures in
    message-line g.P.Promise.promised c.args.store.now old c.args.line.now message c.told.result c.act_on_message.new.self c.in-Message.is
    (told-takes g.P.Promise.promised told old c.act_on_message.new.self old None (finish_line old message) c.in-Ok.made
    c.as_slice-2.result.now c.into_parts-calls.result.1.items left.packets left.lines left.faults c.told.result
    c.in-Ok.ensures.dispatched (c.as_slice-2.ensures ∙ c.into_parts-calls.ensures.calls) c.into_parts-calls.ensures.unbound
    done.packets done.lines done.faults done.ok
    (c.told.ensures ∙ ap (λ (ms : List MadeCall). told_as None ms left.packets left.lines left.faults) (sym c.as_slice-2.ensures)))

pub returns-in-Ok-act_on_message-clause-good_records : goal.returns-in-Ok-act_on_message-clause-good_records
returns-in-Ok-act_on_message-clause-good_records g c =
    subst AreGood (sym (ap (λ (r : Report). r.packets) c.told.ensures ∙ c.in-Ok-act_on_message.ensures.packets))
    (sent_good c.args.self.now c.as_slice-2.result.now)

pub returns-in-Err-act_on_message-clause-takes : goal.returns-in-Err-act_on_message-clause-takes
returns-in-Err-act_on_message-clause-takes g c =
    let old = c.args.self.now in
    let message = c.in-Message.message in
    let told = message_told g.P.Promise.promised c.args.store.now old message in
    let marks = c.marks-marks in
    let back = taken_back old c.act_on_message.new.self marks.result.asks marks.result.lines c.in-Err-act_on_message.ensures.err
    marks.ensures.asks marks.ensures.lines marks.ensures.no_room in
    message-line g.P.Promise.promised c.args.store.now old c.args.line.now message c.cut_short-in-Err-act_on_message.result c.take_back.new.self
    c.in-Message.is
    (cut_short-takes g.P.Promise.promised told old c.take_back.new.self old None (finish_line old message) c.in-Ok.made
    c.into_parts-calls.result.0 c.cut_short-in-Err-act_on_message.result
    (front_all g.P.Promise.promised (bot_seen old) c.in-Ok.made told c.in-Ok.ensures.dispatched) c.into_parts-calls.ensures.calls
    (c.take_back.ensures.taken ∙ back) c.cut_short-in-Err-act_on_message.ensures)

pub returns-in-Err-act_on_message-clause-needs_none : goal.returns-in-Err-act_on_message-clause-needs_none
returns-in-Err-act_on_message-clause-needs_none g c = λ quiet.
    let brings = subst (λ (l : ReadLine). NeedsNone c.args.self.now (Line l)) c.in-Message.is quiet in
    let called = c.in-Ok.ensures.needs_none brings.calls in
    let is_ok : false ≡ true = c.in-Err-act_on_message.ensures.needs_none
    (c.as_slice-2.ensures ∙ c.into_parts-calls.ensures.calls ∙ called.0) (c.into_parts-calls.ensures.unbound ∙ called.1) brings in
    cc
