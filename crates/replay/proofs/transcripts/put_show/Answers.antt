use Rattle.replay.proofs.Doings.{show_put}
use Rattle.replay.proofs.transcripts.put_show.Goals as goal

pub returns : goal.returns
returns g c = show_put g.P.Promise.promised _ c.args.world.now c.args.bot _ _ c.put_shown.ensures
