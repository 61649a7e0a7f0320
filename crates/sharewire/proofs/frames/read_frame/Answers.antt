use Rattle.sharewire.proofs.FrameLaws.{bad_body}
use Rattle.sharewire.proofs.frames.read_frame.Goals as goal

pub returns-in-None : goal.returns-in-None
returns-in-None c =
    bad_body c.args.bytes.now c.in-Ok-Some.inside.kind c.in-Ok-Some.inside.body.now c.in-Ok-Some.inside.rest.now
    (rw c.in-Ok-Some.field-0-is at c.in-Ok-Some.ensures) (rw c.in-None.is at c.in_ok-packet-in-Ok-Some.ensures)
