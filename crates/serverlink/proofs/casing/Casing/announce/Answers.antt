use Rattle.std.proofs.Common.{◌<◌, ◌+◌, ◌∙◌, List, ℕ, drop, length, sym, ap, arith}
use Rattle.std.proofs.lemmas.List.{at_drop_more, at_drop_all}
use Rattle.serverlink.specs.Casings.{with_tokens, with_token}
use Rattle.serverlink.proofs.casing.Casing.announce.Goals as goal

pub loop-token-preserved : goal.loop-token-preserved
loop-token-preserved c =
    let at = c.loop-token in
    let tokens = c.args.tokens.now in
    let token : List ℕ = c.token-item.result in
    let less : at.token-index < length tokens = omega arith in
    ap (with_tokens (drop (at.token-index + 1) tokens)) (c.announce_one.ensures ∙ ap (λ t. with_token t at.self) (c.as_bytes.ensures ∙ c.token-item.is))
    ∙ sym (at_drop_more (λ ts. with_tokens ts at.self) tokens at.token-index token less)
    ∙ at.invariant

pub returns : goal.returns
returns c =
    let at = c.loop-token in
    sym (at_drop_all (λ ts. with_tokens ts at.self) c.args.tokens.now at.token-index (omega arith)) ∙ at.invariant
