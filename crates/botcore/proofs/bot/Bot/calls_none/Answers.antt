use Rattle.std.proofs.Common.{◌≡◌, ◌∙◌, ℕ, Bool, List, IsTrue, [], ◌∷◌, length, ap, sym, subst, arith}
use Rattle.std.specs.Prelude.{codes}
use Rattle.std.specs.Cmp.Lexicographic.{bytes_decides}
use Rattle.std.proofs.lemmas.Result.{IfOk-weaker}
use Rattle.chanstate.specs.Events.{events_of}
use Rattle.chanstate.specs.Speech.{said}
use Rattle.procs.specs.declared.bind_kind.BindKind.TheVariants.{Raw}
use Rattle.procs.specs.Unheard.{CallNone}
use Rattle.botcore.specs.Bots.{Bot}
use Rattle.botcore.proofs.UnheardLemmas.{TakesNone, both-of, message-none}
use Rattle.botcore.proofs.bot.Bot.calls_none.Goals as goal

pub returns-in-len2 : goal.returns-in-len2
returns-in-len2 g c =
    let binds = c.args.self.now.binds.binds in
    let message = c.args.message.now in
    let state = c.args.self.now.channels in
    let target = c.as_bytes.result.now in
    let text = c.as_bytes-in-len2.result.now in
    let list = c.as_slice.result.now in
    let two : length list ≡ 2 = omega (arith, c.in-len2.len_at_least, c.in-len2.len_below) in
    let params : message.params ≡ target ∷ text ∷ [] =
    sym c.as_slice.ensures ∙ both-of list c.target-item.result c.text-item.result two c.target-item.is c.text-item.is
    ∙ ap (λ (t : List ℕ). t ∷ c.text-item.result ∷ []) (sym c.as_bytes.ensures) ∙ ap (λ (t : List ℕ). target ∷ t ∷ []) (sym c.as_bytes-in-len2.ensures) in
    let takes : TakesNone binds Raw message.command =
    subst (λ (b : Bot). TakesNone b.binds.binds Raw message.command) c.self.view_is
    (λ event of_kind of_subject. c.takes_none.ensures c.if-not-takes_none.false event of_kind (of_subject ∙ sym c.as_bytes-command.ensures)) in
    let is : message.command ≡ codes "PRIVMSG" =
    (bytes_decides message.command (codes "PRIVMSG")).0 (sym c.is_said.ensures ∙ c.if-not-is_said.false) in
    IfOk-weaker c.says_to_none.result (λ (none : Bool). IsTrue none → (nick address : List ℕ) → CallNone binds (said nick address target text state))
    (λ (none : Bool). IsTrue none → CallNone binds (events_of message state))
    (λ none calls taken. message-none binds message state target text is params takes (calls taken))
    c.says_to_none.ensures
