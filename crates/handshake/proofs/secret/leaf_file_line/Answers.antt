use Rattle.std.proofs.Common.{arith, ap, ◌∙◌, Ok}
use Rattle.sealing.specs.Hmac.{block_of, hmac_of}
use Rattle.handshake.specs.declared.secret.Secret.TheVariants.{Leaf}
use Rattle.handshake.specs.Secrets.{secret_in}
use Rattle.handshake.proofs.SecretLemmas.{file_reads}
use Rattle.handshake.proofs.secret.leaf_file_line.Goals as goal

pub returns-clause-reads : goal.returns-clause-reads
returns-clause-reads c some =
    ap secret_in c.line_of_digits.ensures ∙ file_reads c.args.leaf _ c.mac-key.result some (omega (arith, c.ranges.leaf)) c.digits_of.ensures.reads
    ∙ ap (λ k. Ok (Leaf c.args.leaf (block_of k))) (c.mac-key.ensures ∙ ap (hmac_of c.args.secret.now) (c.as_bytes.ensures ∙ c.leaf_key_text.ensures))
