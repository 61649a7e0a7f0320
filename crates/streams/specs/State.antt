-- A stream as contracts see it: what it gives, and what it takes.
use Rattle.std.specs.Prelude.{ℕ, List, [], Option}

-- what a stream was asked for and gave, since it was created
pub record Giving : Type 0 where
  pub given : List ℕ  -- the bytes that it gave
  pub asked : ℕ  -- how often it was asked for bytes
  pub ends : ℕ  -- how often it then was at its end
  pub stalls : ℕ  -- how often it then had none to give yet
  pub failures : ℕ  -- how often it then failed

-- what a stream was offered and took, since it was created
pub record Taking : Type 0 where
  pub taken : List ℕ  -- the bytes that it took
  pub flushed : List ℕ  -- those that it had taken when it was last flushed
  pub refusals : ℕ  -- how often it took none of those that it was offered, and did not fail
  pub failures : ℕ  -- how often it failed, as it was offered some or as it was flushed

-- the side that gives
pub record Source : Type 0 where
  pub left : Option (List ℕ)  -- the bytes that it has left to give, where they are known
  pub past : Giving

-- the side that takes
pub record Sink : Type 0 where
  pub holds : Option (List ℕ)  -- the bytes that stand where it writes, where they are known
  pub past : Taking

-- for a stream that was just created
abbrev pub nothing_given : Giving
nothing_given = record { given = []; asked = 0; ends = 0; stalls = 0; failures = 0 }

abbrev pub nothing_taken : Taking
nothing_taken = record { taken = []; flushed = []; refusals = 0; failures = 0 }
