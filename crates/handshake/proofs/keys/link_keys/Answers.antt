use Rattle.std.proofs.Common.{ap, ◌∙◌}
use Rattle.handshake.specs.Keys.{key_of_text}
use Rattle.handshake.proofs.keys.link_keys.Goals as goal

pub returns : goal.returns
returns c =
    let to_leaf = c.key_of_text.ensures ∙ ap (key_of_text c.args.key.now) c.both_codes.ensures in
    let to_hub = c.key_of_text-2.ensures ∙ ap (key_of_text c.args.key.now) c.both_codes-2.ensures in
    λ i. record { to_leaf = to_leaf i; to_hub = to_hub i }
