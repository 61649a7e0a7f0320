use Rattle.std.proofs.Common.{◌≡◌, ℕ, refl, sym, ◌∙◌, arith}
use Rattle.memchr.specs.Find.{is_byte2}
use Rattle.ircline.specs.Classes.{is_end}
use Rattle.ircline.proofs.PlaceLemmas.{first_same}
use Rattle.ircline.proofs.read.first_end.Goals as goal

same : (b : ℕ) → is_byte2 13 10 b ≡ is_end b
same b = refl

pub returns : goal.returns
returns c = first_same (is_byte2 13 10) is_end c.args.bytes.now c.memchr2.result same c.memchr2.ensures

pub returns-then-is_end : goal.returns-then-is_end
returns-then-is_end c = (record { low = omega arith; high = omega arith; before = λ k from below. absurd (omega arith) }, sym c.is_end.ensures ∙ c.if-is_end.true)
