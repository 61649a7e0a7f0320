use Rattle.std.proofs.Common.{[], ◌∷◌, length, arith}
use Rattle.usercodec.specs.Fields.{text}
use Rattle.usercodec.proofs.WriterLaws.{no_room}
use Rattle.usercodec.proofs.users.put_masks.Goals as goal

pub returns-in_err-put_mask-clause-memory : goal.returns-in_err-put_mask-clause-memory
returns-in_err-put_mask-clause-memory c =
    no_room text c.args.masks.now c.loop-mask.mask-index c.mask-item.result (length c.args.masks.now ∷ [])
    c.args.out.now c.loop-mask.out c.from_residual-in_err-put_mask.result (omega arith) c.mask-item.is c.loop-mask.invariant.bytes
    c.loop-mask.invariant.capacity c.in_err-put_mask.ensures.memory
