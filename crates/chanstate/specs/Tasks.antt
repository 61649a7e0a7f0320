-- What is to be done with the members of a channel.
use Rattle.std.specs.Prelude.{◌≡◌, ℕ, List, length}
use Rattle.std.specs.Map.{values_of}
use Rattle.rfccase.specs.Casemapping.{folded_by}
use Rattle.chanstate.specs.declared.member.Member.{Member}
use Rattle.chanstate.specs.declared.task.Task.{Task}
use Rattle.chanstate.specs.declared.task.Task.TheVariants.{Arrive, Rename, List as ListAll}
use Rattle.chanstate.specs.Members.{arrived, listed_each, renamed}
use Rattle.chanstate.specs.Seats.{IsUnder, AreUnder}
use Rattle.rfccase.specs.declared.casemappings.Casemapping.{Casemapping}

-- the members after the task
abbrev pub done_by : Casemapping → Task → List Member → List Member
done_by mapping (Arrive key one) = arrived mapping one
done_by mapping (Rename old key nick) = renamed mapping old nick
done_by mapping (ListAll ones) = listed_each mapping (values_of ones.items)

-- each key is the lower case of its nick
abbrev pub IsKeyed : Casemapping → Task → Type 0
IsKeyed mapping (Arrive key one) = IsUnder mapping key one
IsKeyed mapping (Rename old key nick) = key.items ≡ folded_by mapping nick
IsKeyed mapping (ListAll ones) = AreUnder mapping ones.items

-- how many places the task may fill
abbrev pub places_for : Task → ℕ
places_for (Arrive key one) = 1
places_for (Rename old key nick) = 1
places_for (ListAll ones) = length ones.items
