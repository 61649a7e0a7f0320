use Rattle.std.proofs.Common.{◌∙◌}
use Rattle.handshake.specs.Keys.{link_keys}
use Rattle.handshake.specs.Lines.{hub_code}
use Rattle.handshake.proofs.hub_side.HubSide.keys.Goals as goal

pub returns : goal.returns
returns c =
    let code = c.code-hub_code.ensures ∙ (λ i. hub_code (c.key_of-key.ensures i) (c.answer.ensures i) c.args.ask.now.words.nonce c.args.self.now.nonce) in
    c.link_keys.ensures ∙ (λ i. link_keys (c.key_of-key.ensures i) c.args.ask.now.code (code i))
