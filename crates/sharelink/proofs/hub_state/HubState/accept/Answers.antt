use Rattle.std.proofs.Common.{◌∙◌, sym}
use Rattle.protocol.specs.HubRules.{Accept, hub_folded}
use Rattle.sharelink.proofs.Folding.{folds, accepted-is}
use Rattle.sharelink.proofs.hub_state.HubState.accept.Goals as goal

pub returns : goal.returns
returns c =
    folds hub_folded c.args.self.now _ _ (Accept (record { origin = c.args.origin; request = c.args.request; change = c.args.change }))
    (sym c.may_accept.ensures.may ∙ c.if-not-may_accept.false)
    (accepted-is c.args.self.now c.self.inside.floor c.self.inside.generation c.self.inside.tail.items c.apply_next.new.tail.items
    c.self.inside.userfile c.apply_next.new.userfile c.self.inside.replies.items c.put_reply.new.held.items c.new-entry.result
    (record { origin = c.args.origin; request = c.args.request; change = c.args.change }) c.version-number.result c.self.view_is
    c.new-entry.ensures
    c.in_ok-apply_next.ensures.tail c.in_ok-apply_next.ensures.records c.put_reply.ensures c.version-number.ensures)
