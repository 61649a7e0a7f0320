use Rattle.std.proofs.Common.{◌≡◌, ◌∷◌, length, arith, ap}
use Rattle.std.proofs.lemmas.Grind.{common_steps}
use Rattle.sharewire.specs.Frames.{inside}
use Rattle.sharewire.proofs.LengthLaws.{inside_is_short}
use Rattle.sharewire.proofs.writer.write_packet.Goals as goal

pub overflow_cast-len : goal.overflow_cast-len
overflow_cast-len c =
    let whole : c.put_body.new.out.items ≡ 0 ∷ 0 ∷ inside c.args.packet.now = grind (arith, common_steps) in
    omega (arith, inside_is_short c.args.packet.now c.requires, c.len.ensures, ap length whole)
