use Rattle.std.proofs.Common.{◌∙◌, sym, ap}
use Rattle.protocol.specs.HubRules.{Settle, hub_folded}
use Rattle.protocol.specs.Journals.{is_next_of}
use Rattle.sharelink.proofs.Folding.{folds, settled-is}
use Rattle.sharelink.proofs.hub_state.HubState.settle.Goals as goal

pub returns-clause-takes : goal.returns-clause-takes
returns-clause-takes c =
    folds hub_folded c.args.self.now _ _ (Settle c.args.leaf c.args.fault)
    (ap (λ place. is_next_of place c.args.request) (sym c.replies_to.ensures) ∙ sym c.is_next_of.ensures ∙ c.if-not-is_next_of.false)
    (settled-is c.args.self.now c.self.inside.floor c.self.inside.generation c.self.inside.tail.items c.self.inside.userfile
    c.self.inside.replies.items c.put_reply.new.held.items c.args.leaf c.args.fault c.self.view_is c.put_reply.ensures)
