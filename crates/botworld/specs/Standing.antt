-- Runs of the network, and the pasts for which a world stands.
use Rattle.std.specs.Prelude.{◌≡◌, ◌≤◌, ℕ, List, [], ◌∷◌, ◌++◌, length, map, slice_get, Some}
use Rattle.protocol.specs.History.{records_of}
use Rattle.procs.specs.Promises.{Promised}
use Rattle.botworld.specs.declared.step.Step.{Step}
use Rattle.botworld.specs.declared.outcome.Outcome.{Outcome}
use Rattle.botworld.specs.Net.{Net, shown_version, shown_records}
use Rattle.botworld.specs.Network.{State, IsStart, LawfulStep, NeverBack, Follows, accepted_by}
use Rattle.botworld.specs.Calling.{Calling, IsAlikeButChannels, IsAlike, calling}

-- one step that was made
pub record Moment : Type 0 where
  pub before : State
  pub step : Step
  pub outcome : Outcome
  pub after : State

-- a run of the network: each step continues from the state that the step before it left
abbrev pub Run : Promised → State → List Moment → State → Type 0
Run promised first [] last = last ≡ first
Run promised first (m ∷ ms) last = (m.before ≡ first) × LawfulStep promised m.before m.step m.outcome m.after × Run promised m.after ms last

abbrev pub steps_of : List Moment → List Step
steps_of [] = []
steps_of (m ∷ ms) = m.step ∷ steps_of ms

abbrev pub outcomes_of : List Moment → List Outcome
outcomes_of [] = []
outcomes_of (m ∷ ms) = m.outcome ∷ outcomes_of ms

-- how a world began, every step since, and the state to which they led
pub record Past : Type 0 where
  pub first : State
  pub history : List Moment
  pub now : State

-- a world before its first step
abbrev pub beginning : State → Past
beginning s = record { first = s; history = []; now = s }

-- the same past, and these steps, which led here
abbrev pub later : Past → List Moment → State → Past
later past moments now = record { first = past.first; history = past.history ++ moments; now = now }

-- a world stands for the end of a run from a first moment
pub record Stands (promised : Promised) (w : Net) (past : Past) : Type 0 where
  pub begins : IsStart past.first
  pub run : Run promised past.first past.history past.now
  pub net : w ≡ past.now.net

-- from a past, steps with these outcomes lead to a past for which the world stands
pub record LeadsTo (promised : Promised)
    (past : Past) (steps : List Step) (outcomes : List Outcome) (w : Net) : Type 0 where
  pub moments : List Moment
  pub after : State
  pub steps_are : steps_of moments ≡ steps
  pub outcomes_are : outcomes_of moments ≡ outcomes
  pub run : Run promised past.now moments after
  pub follows : Follows past.now after
  pub stands : Stands promised w (later past moments after)

-- two bots with the same version, each in its net, hold the same records
abbrev pub SameRecords : Net → Net → Type 0
SameRecords old new = (i j v : ℕ) → shown_version old i ≡ Some v → shown_version new j ≡ Some v → shown_records old i ≡ shown_records new j

-- each state so far: how a world began, and what each step left
abbrev pub states_of : Past → List State
states_of past = past.first ∷ map (λ (m : Moment). m.after) past.history

-- so did any two bots at any two states so far
abbrev pub SameAlways : Past → Type 0
SameAlways past = (i j : ℕ) (s t : State) → slice_get (states_of past) i ≡ Some s → slice_get (states_of past) j ≡ Some t
    → SameRecords s.net t.net

-- at any two states so far, no bot showed a lower version at the later one
abbrev pub NeverBackAlways : Past → Type 0
NeverBackAlways past = (i j : ℕ) (s t : State) → i ≤ j → slice_get (states_of past) i ≡ Some s → slice_get (states_of past) j ≡ Some t
    → NeverBack s.net t.net

-- a bot with a version has its records: those that this number of accepted changes, from the first on, make
abbrev pub AreAtVersion : Past → Net → Type 0
AreAtVersion past w = (bot v : ℕ) → shown_version w bot ≡ Some v
    → (v ≤ length (accepted_by past.now)) × (shown_records w bot ≡ Some (records_of (accepted_by past.now) v))

-- so had each bot at each state so far, by the changes that are accepted by now
abbrev pub AlwaysAtVersion : Past → Type 0
AlwaysAtVersion past = (i : ℕ) (s : State) → slice_get (states_of past) i ≡ Some s → AreAtVersion past s.net

-- bots that are alike called the same procs in the same order, at whatever moments
abbrev pub SameCalls : List Moment → Type 0
SameCalls history = (i j : ℕ) (m n : Moment) (a b : Calling) → slice_get history i ≡ Some m → slice_get history j ≡ Some n
    → calling m.before.net m.step m.outcome ≡ Some a → calling n.before.net n.step n.outcome ≡ Some b → IsAlike a b → a.calls ≡ b.calls

-- so did bots that were alike except for their channels, on servers that compare names alike
abbrev pub SameCallsIgnoringChannels : List Moment → Type 0
SameCallsIgnoringChannels history = (i j : ℕ) (m n : Moment) (a b : Calling) → slice_get history i ≡ Some m → slice_get history j ≡ Some n
    → calling m.before.net m.step m.outcome ≡ Some a → calling n.before.net n.step n.outcome ≡ Some b → IsAlikeButChannels a b
    → a.calls ≡ b.calls
