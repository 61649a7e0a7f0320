use Rattle.std.proofs.Common.{◌∙◌, sym, subst}
use Rattle.chanstate.specs.Speech.{to_channel}
use Rattle.procs.specs.Unheard.{CallNone}
use Rattle.botcore.specs.Bots.{Bot}
use Rattle.botcore.proofs.UnheardLemmas.{said-on}
use Rattle.botcore.proofs.bot.Bot.says_none_on.Goals as goal

pub returns : goal.returns
returns g c taken nick address =
    subst (λ (b : Bot). CallNone b.binds.binds (to_channel nick address c.args.channel.now c.args.text.now)) c.self.view_is
    (said-on c.self.inside.binds.binds nick address c.args.channel.now c.args.text.now
    (λ event of_kind of_subject. c.takes_none.ensures c.if-not-takes_none.false event of_kind (of_subject ∙ sym c.first_word.ensures))
    (λ event of_kind of_subject. c.takes_none-2.ensures taken event of_kind (of_subject ∙ sym (c.as_slice.ensures.value ∙ c.in_ok-subject.ensures))))
