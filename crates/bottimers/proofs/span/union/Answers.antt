use Rattle.bytetext.proofs.Bits.{bit_test_or}
use Rattle.bottimers.proofs.span.union.Goals as goal

pub returns : goal.returns
returns c = λ n. bit_test_or c.args.a c.args.b n
