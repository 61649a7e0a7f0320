use Rattle.std.proofs.Common.{List, ℕ, length, ap, ◌∙◌, ◌++◌}
use Rattle.std.proofs.lemmas.List.{drop-replicate}
use Rattle.registration.proofs.wide_key.padded.Goals as goal

pub returns : goal.returns
returns c =
    let zeros = drop-replicate (length c.args.bytes.now) 128 0 in
    c.put_front.ensures ∙ ap (λ (zs : List ℕ). c.args.bytes.now ++ zs) zeros
