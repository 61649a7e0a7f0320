use Rattle.sealing.specs.declared.kind.Kind.TheVariants.{Frames}
use Rattle.sealing.specs.Records.{carried}
use Rattle.runlaws.proofs.Queued.{read_first}
use Rattle.runlaws.proofs.network.only_what_was_queued_is_read.Goals as goal

pub returns : goal.returns
returns c = λ key given waiting made bodies opening queued packets ending unforged opens good all tells.
    let front = c.only_what_was_sealed_opens.ensures.carried key given made bodies opening Frames unforged opens in
    read_first c.frames_are_apart.ensures (carried Frames bodies) (carried Frames made) front.0 waiting queued packets ending
    front.1 good all tells
