use Rattle.std.proofs.Common.{◌≡◌, ◌≤◌, ◌+◌, ◌-◌, ℕ, List, length, vec_capacity, min, sym, ap, ◌∙◌, arith}
use Rattle.sealing.specs.Streams.{record_count}
use Rattle.sealing.proofs.SealingLemmas.{one_put, one_record_less, room_left, some_left}
use Rattle.sealing.proofs.sealer.put_records.Goals as goal

pub loop-rest-preserved : goal.loop-rest-preserved
loop-rest-preserved c =
    let rest : List ℕ = c.loop-rest.rest.now in
    let piece : List ℕ = c.split_at.result.0.now in
    let behind : List ℕ = c.split_at.result.1.now in
    let some : 1 ≤ length rest = some_left (length rest) (sym c.is_empty.ensures ∙ c.loop-rest-test.true) in
    let left : length behind ≡ length rest - min (length rest) 16383 = omega (arith, c.min.ensures, c.split_at.ensures.back_len) in
    let less : record_count (length rest) ≡ 1 + record_count (length behind) =
    one_record_less (length rest) some ∙ ap (λ (n : ℕ). 1 + record_count n) (sym left) in
    record {
      put = one_put c.args.key.now c.args.first c.args.out.now.items c.args.frames.now rest c.loop-rest.out.items c.loop-rest.count piece behind
          c.put_record.new.out.items c.loop-rest.invariant.put c.split_at.ensures.by_index.0
          (omega (arith, c.min.ensures, c.split_at.ensures.front_len)) less c.in_ok-put_record.ensures.ok;
      room = λ was. room_left c.args.key.now c.loop-rest.count piece c.loop-rest.out.items c.put_record.new.out.items (length rest) (length behind)
          (vec_capacity c.loop-rest.out) (vec_capacity c.put_record.new.out) c.in_ok-put_record.ensures.ok
          (omega (arith, c.split_at.ensures.front_len, c.split_at.ensures.back_len)) less c.in_ok-put_record.ensures.capacity
          (c.loop-rest.invariant.room was);
    }
