use Rattle.std.proofs.Common.{◌≡◌, ◌∙◌, [], length, ap, sym, arith}
use Rattle.std.specs.Vec.Iter.{into_iter_items}
use Rattle.chanstate.specs.Channels.{put_each_last}
use Rattle.std.proofs.lemmas.List.{nil_from_length}
use Rattle.chanstate.proofs.channels.put_each.Goals as goal

pub put-requires : goal.put-requires
put-requires c = let left = ap length c.in-Some.ensures.steps.0 in omega (arith, left, c.loop-channel.invariant.room)

pub loop-channel-preserved : goal.loop-channel-preserved
loop-channel-preserved c =
    let at = c.loop-channel in
    let steps = c.in-Some.ensures.steps.0 in
    let left = ap length steps in
    record {
      len = omega (arith, left, at.invariant.len, c.in-Some.ensures.steps.1);
      room = omega (arith, left, at.invariant.room, c.put.ensures.len, c.put.ensures.capacity);
      put = ap (put_each_last c.args.mapping (into_iter_items c.next.new.self)) c.put.ensures.put ∙ ap (λ cs. put_each_last c.args.mapping cs at.items.items) (sym steps)
          ∙ at.invariant.put;
    }

pub returns : goal.returns
returns c =
    let at = c.loop-channel in
    let empty : into_iter_items at.channel-iterator ≡ [] = nil_from_length _ (sym at.invariant.len ∙ c.in-None.ensures.steps.0) in
    ap (λ cs. put_each_last c.args.mapping cs at.items.items) (sym empty) ∙ at.invariant.put
    ∙ ap (λ cs. put_each_last c.args.mapping cs c.args.items.now.items) c.into_iter-channel-iterator.ensures.into_iter_gives.0
