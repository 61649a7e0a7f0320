use Rattle.std.proofs.Common.{◌∙◌, ap, sym, Option}
use Rattle.rfccase.specs.declared.casemappings.Casemapping.{Casemapping}
use Rattle.serverlink.specs.declared.cue.Cue.{Cue}
use Rattle.serverlink.specs.declared.session.Session.{Session}
use Rattle.serverlink.specs.Casings.{mapping_in}
use Rattle.serverlink.specs.Cues.{cue_of}
use Rattle.serverlink.specs.Waiting.{casing_heard, wants_in}
use Rattle.serverlink.specs.Wanting.{nick_noted}
use Rattle.serverlink.proofs.SpeechLemmas.{no_cue, nothing_noted}
use Rattle.serverlink.proofs.WaitingLemmas.{has_heard}
use Rattle.serverlink.proofs.irc_connection.IrcConnection.take_in.Goals as goal

pub returns-then-is_said-clause-cue : goal.returns-then-is_said-clause-cue
returns-then-is_said-clause-cue c =
    sym (no_cue (mapping_in c.args.self.now.session) c.args.message.now c.args.own.now (sym c.is_said.ensures ∙ c.if-is_said.true))

pub returns-then-is_said-clause-wants : goal.returns-then-is_said-clause-wants
returns-then-is_said-clause-wants c =
    nothing_noted c.args.message.now c.args.own.now c.args.settings.now.nick c.args.now c.args.self.now.session
    (sym c.is_said.ensures ∙ c.if-is_said.true)

pub returns-clause-wants : goal.returns-clause-wants
returns-clause-wants c =
    let line = c.args.line.now in
    let message = c.args.message.now in
    let own = c.args.own.now in
    let wanted = c.args.settings.now.nick in
    let now = c.args.now in
    let after = c.hear_for_login.new.self.session in
    has_heard line message own wanted now c.args.self.now.session after c.note_all.new.self.session (sym c.in_ok-hear_for_login.ensures.heard)
    (c.in_ok-note_all.ensures.wants
    ∙ ap (λ (session : Option Session). wants_in (nick_noted c.casemapping-mapping.result c.cue_of-cue.result message wanted now session)) c.hear_casing.ensures
    ∙ ap (λ (cue : Cue). wants_in (nick_noted c.casemapping-mapping.result cue message wanted now (casing_heard message after))) c.cue_of-cue.ensures
    ∙ ap (λ (mapping : Casemapping). wants_in (nick_noted mapping (cue_of mapping message own) message wanted now (casing_heard message after)))
    c.casemapping-mapping.ensures)
