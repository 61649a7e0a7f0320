use Rattle.botjournal.specs.declared.TheConstants.{LAYOUT}
use Rattle.sharelink.proofs.Folding.{leaf-failed, leaf-read}
use Rattle.sharelink.proofs.EndStates.{leaf_out-good}
use Rattle.sharelink.proofs.leaf_state.LeafState.read.Goals as goal

pub returns-in-Ok-clause-reads : goal.returns-in-Ok-clause-reads
returns-in-Ok-clause-reads c layout =
    leaf-read c.args.number layout c.args.generation c.args.base c.args.entries c.in_ok-leaf.leaf c.take_all.new.self c.in_ok-leaf.ensures.reads
    c.in-Ok.ensures

pub returns-in-Ok-clause-good : goal.returns-in-Ok-clause-good
returns-in-Ok-clause-good c each =
    leaf_out-good c.args.number
    (record { layout = LAYOUT; generation = c.args.generation; base = c.args.base; entries = c.args.entries }) c.take_all.new.self c.requires.good each
    (leaf-read c.args.number LAYOUT c.args.generation c.args.base c.args.entries c.in_ok-leaf.leaf c.take_all.new.self
    c.in_ok-leaf.ensures.reads c.in-Ok.ensures)

pub returns-in-Err-clause-reads : goal.returns-in-Err-clause-reads
returns-in-Err-clause-reads c layout =
    leaf-failed c.args.number layout c.args.generation c.args.base c.args.entries c.in_ok-leaf.leaf c.take_all.new.self c.in-Err.error
    c.in_ok-leaf.ensures.reads c.in-Err.ensures
