-- What an answer of a reader or a writer means.
use Rattle.std.specs.Prelude.{ℕ, ◌==◌, if◌then◌else◌, Option, None, Some, Result, Ok, Err}
use Rattle.std.specs.IoError.{error_kind}
use Rattle.std.specs.declared.io.Error.{Error}
use Rattle.streams.specs.declared.obstacle.Obstacle.{Obstacle}
use Rattle.streams.specs.declared.obstacle.Obstacle.TheVariants.{Interruption, Wait, Fault}
use Rattle.streams.specs.declared.stream.Given.{Given}
use Rattle.streams.specs.declared.stream.Given.TheVariants.{Bytes as gives_bytes, End, Stall, Fault as fails_to_give}
use Rattle.streams.specs.declared.stream.Taken.{Taken}
use Rattle.streams.specs.declared.stream.Taken.TheVariants.{Bytes as takes_bytes, Nothing, Fault as fails_to_take}
use Rattle.streams.specs.Obstacles.{obstacle_of}

-- an interrupted call has no answer; a socket that is still connecting has nothing to give yet
abbrev pub given_at : Obstacle → Option Given
given_at Interruption = None
given_at Wait = Some Stall
given_at Fault = Some fails_to_give

-- a read of no byte is the end
abbrev pub given_by : Result ℕ Error → Option Given
given_by (Ok n) = if n == 0 then Some End else Some (gives_bytes n)
given_by (Err e) = given_at (obstacle_of (error_kind e))

abbrev pub taken_at : Obstacle → Option Taken
taken_at Interruption = None
taken_at Wait = Some Nothing
taken_at Fault = Some fails_to_take

abbrev pub taken_by : Result ℕ Error → Option Taken
taken_by (Ok n) = if n == 0 then Some Nothing else Some (takes_bytes n)
taken_by (Err e) = taken_at (obstacle_of (error_kind e))
