use Rattle.std.proofs.Common.{refl}
use Rattle.chanstate.specs.Channels.{is_named, with_topic}
use Rattle.chanstate.proofs.FirstsLemmas.{changed_at, changed_nowhere}
use Rattle.chanstate.proofs.channels.Channels.set_topic.Goals as goal

pub returns-in-Some : goal.returns-in-Some
returns-in-Some c =
    changed_at (is_named c.args.mapping c.args.name.now)
    (with_topic c.args.topic) _ _ c.in-Some.at c.index_mut-channel.result.now _ c.self.view_is c.in-Some.ensures c.index_mut-channel.ensures.value refl

pub returns-in_default : goal.returns-in_default
returns-in_default c = changed_nowhere (is_named c.args.mapping c.args.name.now) (with_topic c.args.topic) _ c.place.result c.place.ensures c.in_default.is
