use Rattle.std.proofs.Common.{refl, Some}
use Rattle.botcore.specs.Bots.{bot_setting}
use Rattle.procs.specs.Dispatching.{told_of}
use Rattle.botcore.specs.Happenings.{Saying}
use Rattle.botcore.specs.Lines.{finish_text}
use Rattle.botcore.specs.Steps.{said_occasions, text_note}
use Rattle.botcore.proofs.CallingLemmas.{cut_short-takes}
use Rattle.botcore.proofs.bot.Bot.hear_text.Goals as goal

pub returns-in-Err-clause-takes : goal.returns-in-Err-clause-takes
returns-in-Err-clause-takes g c =
    let old = c.args.self.now in
    let saying : Saying = record { from = c.args.from; text = c.args.text } in
    let told = told_of (bot_setting g.P.Promise.promised c.args.store.now old) (said_occasions saying) in
    cut_short-takes g.P.Promise.promised told old old old (Some (text_note saying)) (finish_text old) c.in-Err.made
    c.into_parts.result.0 c.cut_short.result c.in-Err.ensures c.into_parts.ensures.calls refl c.cut_short.ensures
