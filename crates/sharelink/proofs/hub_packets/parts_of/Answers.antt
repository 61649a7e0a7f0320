use Rattle.std.proofs.Common.{ap, arith, subst}
use Rattle.usercodec.specs.Records.{IsGoodRecord}
use Rattle.std.specs.List.{AllByRecursion}
use Rattle.protocol.specs.Packets.{Outgoing}
use Rattle.sharelink.proofs.Sending.{parts-more, part-is, good-parts, parts-end, parts-few}
use Rattle.sharelink.proofs.hub_packets.parts_of.Goals as goal

pub loop-place-preserved : goal.loop-place-preserved
loop-place-preserved c =
    parts-more c.args.hub.now c.args.leaf c.loop-place.place c.args.count c.loop-place.packets.items c.push.new.self.items _ _ c.loop-place-test.true
    c.in_ok-push.ensures.items
    (ap (λ p. (let o : Outgoing = record { to = c.args.leaf; packet = p } in o))
    (part-is c.args.hub.now c.version.result c.args.count c.loop-place.place c.args.items.now _ c.version.ensures c.requires.count
    c.requires.items c.in_ok-records.ensures)) c.loop-place.invariant

pub returns-clause-good : goal.returns-clause-good
returns-clause-good c =
    good-parts c.args.hub.now c.args.leaf 1 c.args.count c.loop-place.packets.items
    (subst (λ items. AllByRecursion IsGoodRecord items) c.requires.items c.requires.good)
    (parts-end c.args.hub.now c.args.leaf c.loop-place.place c.args.count _ _ (omega (arith, c.loop-place-test.false)) c.loop-place.invariant)

pub returns-clause-few : goal.returns-clause-few
returns-clause-few c =
    omega (
      arith,
      c.ranges.count.fits,
      parts-few c.args.hub.now c.args.leaf 1 c.args.count c.loop-place.packets.items
          (parts-end c.args.hub.now c.args.leaf c.loop-place.place c.args.count _ _ (omega (arith, c.loop-place-test.false)) c.loop-place.invariant),
    )
