-- How a world and a text relate to the deeds that were done.
use Rattle.std.specs.Prelude.{◌≡◌, ℕ, List, ◌++◌}
use Rattle.procs.specs.Promises.{Promised}
use Rattle.bottimers.specs.Zones.{TzText}
use Rattle.botworld.specs.Net.{Net}
use Rattle.botworld.specs.Network.{State, AllMade}
use Rattle.botworld.specs.Standing.{Moment, Past, Run, Stands, later, steps_of, outcomes_of}
use Rattle.replay.specs.Deeds.{Deed, steps_in, deeds_text}
use Rattle.replay.specs.Starting.{IsFirst}

-- From a past of the world, its next steps were exactly those of the deeds. None of them ran out of memory, and what
-- the deeds print was appended to the text.
pub record Does (promised : Promised)
    (past : Past) (deeds : List Deed) (w : Net) (before after : List ℕ) : Type 0 where
  pub moments : List Moment
  pub last : State
  pub run : Run promised past.now moments last
  pub steps : steps_of moments ≡ steps_in deeds
  pub made : AllMade (outcomes_of moments)
  pub added : after ≡ before ++ deeds_text past.now deeds moments
  pub stands : Stands promised w (later past moments last)

-- The text is what the deeds print from a first state on, in a run of the network with exactly their steps. None of
-- them ran out of memory.
pub record IsDoneFrom (promised : Promised)
    (first : State) (deeds : List Deed) (text : List ℕ) : Type 0 where
  pub moments : List Moment
  pub last : State
  pub run : Run promised first moments last
  pub steps : steps_of moments ≡ steps_in deeds
  pub made : AllMade (outcomes_of moments)
  pub tells : text ≡ deeds_text first deeds moments

-- The same from a new hub and its new leaves in a zone.
pub record IsDoneByNew (promised : Promised)
    (leaves : ℕ) (zone : TzText) (names : List (List ℕ)) (deeds : List Deed) (text : List ℕ) : Type 0 where
  pub first : State
  pub begins : IsFirst leaves zone names first
  pub done : IsDoneFrom promised first deeds text
