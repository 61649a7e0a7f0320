use Rattle.std.proofs.Common.{◌<◌, ◌∙◌, length, filter, subst, OnErr}
use Rattle.chanstate.specs.Members.{has_member}
use Rattle.chanstate.proofs.channels.Channels.names_with.Goals as goal

pub returns-clause-memory : goal.returns-clause-memory
returns-clause-memory c =
    subst (λ channels. OnErr c.names_with.result (0 < length (filter (λ channel. has_member c.args.mapping c.args.nick.now channel.members) channels)))
    (c.as_slice.ensures.value ∙ c.self.view_is) c.names_with.ensures.memory
