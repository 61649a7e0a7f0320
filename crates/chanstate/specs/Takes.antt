-- What is taken out of channels, so that changing it allocates nothing, and how it is put back.
use Rattle.std.specs.Prelude.{◌≡◌, ℕ, zero, suc, Bool, ◌||◌, List, [], ◌∷◌, false, true, if◌then◌else◌, nat_eq}
use Rattle.std.specs.List.{list_any}
use Rattle.chanstate.specs.declared.member.Member.{Member}
use Rattle.chanstate.specs.declared.channel.Channel.{Channel}
use Rattle.chanstate.specs.declared.task.Task.{Task}
use Rattle.chanstate.specs.Tasks.{done_by}
use Rattle.chanstate.specs.declared.take.Take.{Take}
use Rattle.chanstate.specs.Members.{arrived}
use Rattle.chanstate.specs.Channels.{with_members, on_channel}
use Rattle.rfccase.specs.declared.casemappings.Casemapping.{Casemapping}

-- one of two lists of members: as they will be, or as they are
abbrev pub pick : Bool → List Member × List Member → List Member
pick done pair = if done then pair.1 else pair.0

-- the channels with the one at a place changed
abbrev pub on_place : ℕ → (List Member → List Member) → List Channel → List Channel
on_place at change [] = []
on_place zero change (c ∷ cs) = with_members change c ∷ cs
on_place (suc i) change (c ∷ cs) = c ∷ on_place i change cs

-- the channels with everything that was taken out put back, starting with the last
abbrev pub given : Bool → List Take → List Channel → List Channel
given done [] cs = cs
given done (t ∷ ts) cs = on_place t.at (λ ms. pick done t.seating) (given done ts cs)

-- whether something was taken out at a place
abbrev pub is_taken : ℕ → List Take → Bool
is_taken at takes = list_any (λ t. nat_eq t.at at) takes

-- what was taken out gives the channels as they were, and as they are after a change
abbrev pub IsTaken : (List Channel → List Channel) → List Take → List Channel → List Channel → Type 0
IsTaken change takes left before = (given false takes left ≡ before) × (given true takes left ≡ change before)

-- a change leaves each of the members as they will be
abbrev pub AreKept : (List Member → List Member) → List Take → Type 0
AreKept change [] = Unit {0}
AreKept change (t ∷ ts) = (change t.seating.1 ≡ t.seating.1) × AreKept change ts

-- one more is taken out at a place, with what is to be done there
pub record Holds (mapping : Casemapping) (at : ℕ) (task : Task) (old : List Channel) (before : List Take) (new : List Channel)
    (takes : List Take) : Type 0 where
  pub back : given false takes new ≡ given false before old
  pub done : given true takes new ≡ given true before (on_place at (done_by mapping task) old)
  pub places : (i : ℕ) → is_taken i takes ≡ (is_taken i before || nat_eq at i)
  pub kept : (change : List Member → List Member) → ((ms : List Member) → change (done_by mapping task ms) ≡ done_by mapping task ms)
      → AreKept change before → AreKept change takes

-- someone joins each of these channels, in their order
abbrev pub came_each : Casemapping → Member → List (List ℕ) → List Channel → List Channel
came_each mapping one [] cs = cs
came_each mapping one (n ∷ ns) cs = came_each mapping one ns (on_channel mapping n (arrived mapping one) cs)
