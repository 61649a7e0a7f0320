use Rattle.std.proofs.Common.{arith}
use Rattle.sharewire.proofs.LengthLaws.{bot_text_is_short}
use Rattle.sharewire.proofs.long_text.put_long_text.Goals as goal

pub overflow_cast-text : goal.overflow_cast-text
overflow_cast-text c = omega (arith, bot_text_is_short c.args.text.now c.requires)
