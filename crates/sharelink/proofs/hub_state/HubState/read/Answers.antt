use Rattle.botjournal.specs.declared.TheConstants.{LAYOUT}
use Rattle.sharelink.proofs.Folding.{hub-failed, hub-read}
use Rattle.sharelink.proofs.HubStates.{hub_meaning-state}
use Rattle.sharelink.specs.EndLaws.{hub-generation}
use Rattle.sharelink.proofs.hub_state.HubState.read.Goals as goal

pub returns-in-Ok-clause-reads : goal.returns-in-Ok-clause-reads
returns-in-Ok-clause-reads c layout =
    hub-read c.args.leaves layout c.args.generation c.args.base c.args.entries c.in_ok-hub.hub c.take_all.new.self c.in_ok-hub.ensures.reads c.in-Ok.ensures

pub returns-in-Ok-clause-state : goal.returns-in-Ok-clause-state
returns-in-Ok-clause-state c =
    hub_meaning-state c.args.leaves
    (record { layout = LAYOUT; generation = c.args.generation; base = c.args.base; entries = c.args.entries }) c.take_all.new.self c.requires.good
    (hub-read c.args.leaves LAYOUT c.args.generation c.args.base c.args.entries c.in_ok-hub.hub c.take_all.new.self c.in_ok-hub.ensures.reads
    c.in-Ok.ensures)

pub returns-in-Ok-clause-generation : goal.returns-in-Ok-clause-generation
returns-in-Ok-clause-generation c =
    hub-generation c.args.leaves
    (record { layout = LAYOUT; generation = c.args.generation; base = c.args.base; entries = c.args.entries }) c.take_all.new.self
    (hub-read c.args.leaves LAYOUT c.args.generation c.args.base c.args.entries c.in_ok-hub.hub c.take_all.new.self c.in_ok-hub.ensures.reads
    c.in-Ok.ensures)

pub returns-in-Err-clause-reads : goal.returns-in-Err-clause-reads
returns-in-Err-clause-reads c layout =
    hub-failed c.args.leaves layout c.args.generation c.args.base c.args.entries c.in_ok-hub.hub c.take_all.new.self c.in-Err.error
    c.in_ok-hub.ensures.reads c.in-Err.ensures
