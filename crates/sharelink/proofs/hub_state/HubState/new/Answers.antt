use Rattle.sharelink.proofs.Folding.{new_hub-is}
use Rattle.sharelink.proofs.HubStates.{new_hub-state}
use Rattle.sharelink.proofs.hub_state.HubState.new.Goals as goal

pub returns-clause-start : goal.returns-clause-start
returns-clause-start c =
    new_hub-is c.args.leaves c.new.result.items c.new-2.result c.in_ok-replies.replies.items c.new.ensures.items c.new-2.ensures c.in_ok-replies.ensures.placed

pub returns-clause-state : goal.returns-clause-state
returns-clause-state c =
    new_hub-state c.args.leaves c.new.result.items c.new-2.result c.in_ok-replies.replies.items c.new-2.ensures c.in_ok-replies.ensures.placed
