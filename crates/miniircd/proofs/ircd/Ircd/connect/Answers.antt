use Rattle.std.proofs.Common.{Some, ◌∙◌, ap}
use Rattle.miniircd.proofs.WholeLemmas.{came_whole}
use Rattle.miniircd.proofs.ircd.Ircd.connect.Goals as goal

pub invariant_of-self-2 : goal.invariant_of-self-2
invariant_of-self-2 c =
    let updates = c.in_ok-key.ensures.updates in
    came_whole c.self.inside.clients.slots c.insert.new.self.slots c.in_ok-key.key c.self.inside.channels.items
    (updates.changed ∙ ap Some c.blank.ensures) updates.others c.self.invariant
