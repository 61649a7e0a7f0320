use Rattle.std.proofs.Common.{◌≡◌, ◌++◌, ◌∷◌, [], ap, ◌∙◌, arith}
use Rattle.std.proofs.lemmas.List.{map_push}
use Rattle.std.proofs.lemmas.Result.{err_from_is_err_and}
use Rattle.usercodec.specs.Records.{mask_at, items_at}
use Rattle.usercodec.specs.Users.{texts_of}
use Rattle.usercodec.proofs.ItemSteps.{goes_on, ends, is_done}
use Rattle.usercodec.proofs.user_fields.counted_masks.Goals as goal

pub returns-in_err-mask : goal.returns-in_err-mask
returns-in_err-mask c =
    let p = err_from_is_err_and c.from_residual.result c.from_residual.ensures.1 in
    rw (p.1, p.2) (ends mask_at c.in_err-mask.field-0.0 c.args.count c.loop.counter (texts_of c.loop.masks.items) c.loop.reader
    (items_at mask_at c.args.count [] c.args.reader.now) (texts_of c.as_slice.result.now) c.loop-test.true
    (ap texts_of c.as_slice.ensures.value) c.in_err-mask.ensures c.loop.invariant.read)

pub loop-preserved : goal.loop-preserved
loop-preserved c =
    let mask = c.in_ok-mask.mask in
    let pushed : texts_of c.push.new.self.items ≡ texts_of c.loop.masks.items ++ mask.now ∷ [] =
    ap texts_of c.push.ensures.items ∙ map_push _ c.loop.masks.items mask in
    record {
      read = rw pushed (goes_on mask_at c.args.count c.loop.counter (texts_of c.loop.masks.items) c.loop.reader mask.now c.mask.new.reader
          (items_at mask_at c.args.count [] c.args.reader.now) (texts_of c.as_slice.result.now) c.loop-test.true
          (ap texts_of c.as_slice.ensures.value) c.in_ok-mask.ensures c.loop.invariant.read);
      so_many = omega (arith, c.push.ensures.len, c.loop.invariant.so_many);
    }

pub returns : goal.returns
returns c =
    is_done mask_at c.args.count c.loop.counter (texts_of c.loop.masks.items) c.loop.reader (items_at mask_at c.args.count [] c.args.reader.now)
    c.loop-test.false c.loop.invariant.read
