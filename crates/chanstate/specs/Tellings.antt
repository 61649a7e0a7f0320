-- What is told of a nick on every channel, prepared before anything changes.
use Rattle.std.specs.Prelude.{ℕ, List, [], ◌∷◌}
use Rattle.chanstate.specs.declared.channel.Channel.{Channel}
use Rattle.chanstate.specs.declared.detail.Detail.{Detail}
use Rattle.chanstate.specs.Firsts.{first_changed}
use Rattle.chanstate.specs.Members.{is_called, with_detail}
use Rattle.chanstate.specs.Channels.{with_members}
use Rattle.rfccase.specs.declared.casemappings.Casemapping.{Casemapping}

-- a channel with what is told of a nick, if it has a member of that nick
abbrev pub told_on : Casemapping → List ℕ → Detail → Channel → Channel
told_on mapping nick detail = with_members (first_changed (is_called mapping nick) (with_detail detail))

-- the channels with one detail each, in their order, as far as the details go
abbrev pub told_each : Casemapping → List ℕ → List Detail → List Channel → List Channel
told_each mapping nick [] cs = cs
told_each mapping nick (d ∷ ds) [] = []
told_each mapping nick (d ∷ ds) (c ∷ cs) = told_on mapping nick d c ∷ told_each mapping nick ds cs
