use Rattle.std.proofs.Common.{subst}
use Rattle.bottimers.specs.Zones.{TzText}
use Rattle.botworld.specs.Standing.{beginning}
use Rattle.replay.specs.Starting.{IsFirst}
use Rattle.replay.proofs.Doings.{Does-first}
use Rattle.replay.proofs.transcripts.text_of.Goals as goal

pub returns : goal.returns
returns g c =
    let world = c.in_ok-world.ensures in
    record {
      first = world.0;
      begins = subst (λ (zone : TzText). IsFirst c.args.script.leaves zone c.args.store world.0) c.zone_or_utc.ensures world.1;
      done = Does-first g.P.Promise.promised world.0 c.as_slice.result.now c.args.script.commands _ _ _ c.new-text.ensures.items
          c.as_slice.ensures (c.in_ok-put_commands.ensures (beginning world.0) world.2);
    }
