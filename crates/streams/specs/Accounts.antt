-- What an account of a stream shows.
use Rattle.std.specs.Prelude.{ℕ, List, ◌==◌, if◌then◌else◌, slice_index, Result, Ok, Err}
use Rattle.streams.specs.declared.stream.Given.{Given}
use Rattle.streams.specs.declared.stream.Given.TheVariants.{Bytes as gives_bytes, End, Stall, Fault as fails_to_give}
use Rattle.streams.specs.declared.stream.Taken.{Taken}
use Rattle.streams.specs.declared.stream.Taken.TheVariants.{Bytes as takes_bytes, Nothing, Fault as fails_to_take}
use Rattle.streams.specs.State.{Giving, Taking, nothing_given, nothing_taken}
use Rattle.streams.specs.Calls.{after_give, after_take, after_flush}

-- both sides
pub record Past : Type 0 where
  pub giving : Giving
  pub taking : Taking

abbrev pub nothing_yet : Past
nothing_yet = record { giving = nothing_given; taking = nothing_taken }

abbrev pub with_given : Past → Given → List ℕ → Past
with_given past answer buffer = record past { giving = after_give past.giving answer buffer }

abbrev pub with_taken : Past → Taken → List ℕ → Past
with_taken past answer bytes = record past { taking = after_take past.taking answer bytes }

abbrev pub with_flush : {E : Type 0} → Past → Result Unit E → Past
with_flush past answer = record past { taking = after_flush past.taking answer }

-- the event with this number; `count` of these bytes were given or taken
abbrev pub noted_as : ℕ → ℕ → List ℕ → Past → Past
noted_as event count bytes past =
    if event == 0 then with_given past (gives_bytes count) bytes
    else (if event == 1 then with_given past End bytes
    else (if event == 2 then with_given past Stall bytes
    else (if event == 3 then with_given past fails_to_give bytes
    else (if event == 4 then with_taken past (takes_bytes count) bytes
    else (if event == 5 then with_taken past Nothing bytes
    else (if event == 6 then with_taken past fails_to_take bytes
    else (if event == 7 then with_flush {E = ℕ} past (Ok tt)
    else with_flush {E = ℕ} past (Err 0))))))))

-- an event: its number and its count, and the bytes
abbrev pub noted : List ℕ → List ℕ → Past → Past
noted numbers bytes past = noted_as (slice_index numbers 0) (slice_index numbers 1) bytes past
