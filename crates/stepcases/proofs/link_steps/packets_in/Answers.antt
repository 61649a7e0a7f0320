use Rattle.std.specs.Prelude.{[]}
use Rattle.stepcases.proofs.link_steps.packets_in.Goals as goal

-- the reader was new, so what it told is what these bytes tell
pub returns : goal.returns
returns c = (c.in_ok-feed.ensures.told [] [] c.new-reader.ensures.told).good
