use Rattle.std.proofs.Common.{ap, arith}
use Rattle.userfile.specs.Records.{Records}
use Rattle.eggprocs.proofs.EndLemmas.{ended-at, none-ended-at}
use Rattle.eggprocs.proofs.ends.holds_ended.Goals as goal

pub returns-then-is_ended_at : goal.returns-then-is_ended_at
returns-then-is_ended_at c =
    ended-at c.args.view.now.second c.second.result c.args.channel.now c.args.mask.now c.args.view.now.sight.records.bans c.userfile-userfile.result.now.bans
    c.loop-place.place c.is_ended_at.result (ap (λ (records : Records). records.bans) c.userfile-userfile.ensures) c.second.ensures c.is_ended_at.ensures
    c.if-is_ended_at.true

pub loop-place-preserved : goal.loop-place-preserved
loop-place-preserved c =
    none-ended-at c.args.view.now.second c.second.result c.args.channel.now c.args.mask.now c.userfile-userfile.result.now.bans c.loop-place.place
    c.is_ended_at.result (omega (arith, c.loop-place-test.true, c.ban_count-place-end.ensures)) c.loop-place.invariant c.second.ensures c.is_ended_at.ensures
    c.if-is_ended_at.false
