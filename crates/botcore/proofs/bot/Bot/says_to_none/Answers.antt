use Rattle.std.proofs.Common.{◌≡◌, ◌∙◌, ℕ, Bool, List, IsTrue, ap, sym, subst}
use Rattle.std.proofs.lemmas.Result.{IfOk-weaker}
use Rattle.chanstate.specs.declared.state.ChanState.{ChanState}
use Rattle.chanstate.specs.Speech.{said, to_channel}
use Rattle.procs.specs.Unheard.{CallNone}
use Rattle.botcore.specs.Bots.{Bot}
use Rattle.botcore.proofs.UnheardLemmas.{said-held, said-hidden}
use Rattle.botcore.proofs.bot.Bot.says_to_none.Goals as goal

pub returns-then-is_for_programs : goal.returns-then-is_for_programs
returns-then-is_for_programs g c taken nick address =
    said-hidden c.args.self.now.binds.binds nick address c.args.target.now c.args.text.now c.args.self.now.channels
    (sym c.is_for_programs.ensures ∙ c.if-is_for_programs.true)

pub returns-in-Some : goal.returns-in-Some
returns-in-Some g c =
    let binds = c.args.self.now.binds.binds in
    let target = c.args.target.now in
    let text = c.args.text.now in
    let name = c.in-Some.channel.now in
    let state = c.current-channels.result.now in
    let current : state ≡ c.args.self.now.channels = c.current-channels.ensures ∙ ap (λ (b : Bot). b.channels) c.self.view_is in
    IfOk-weaker c.says_none_on.result (λ (none : Bool). IsTrue none → (nick address : List ℕ) → CallNone binds (to_channel nick address name text))
    (λ (none : Bool). IsTrue none → (nick address : List ℕ) → CallNone binds (said nick address target text c.args.self.now.channels))
    (λ none calls taken nick address. subst (λ (s : ChanState). CallNone binds (said nick address target text s)) current
    (said-held binds nick address target text name state (sym c.is_for_programs.ensures ∙ c.if-is_for_programs.false)
    (sym c.is_own.ensures ∙ c.if-is_own.false) c.in-Some.ensures (calls taken nick address)))
    c.says_none_on.ensures
