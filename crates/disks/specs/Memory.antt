-- A disk in memory, as contracts see it.
use Rattle.std.specs.Prelude.{◌≡◌, ◌≤◌, ◌^◌, ℕ, List, [], length, take}
use Rattle.disks.specs.State.{State, Rose}
use Rattle.disks.specs.Events.{Event, Images}
use Rattle.disks.specs.Plans.{Plan, no_plan}

-- what contracts see of a disk
pub record Memory : Type 0 where
  pub events : List Event  -- what happened to it
  pub content : List ℕ  -- what a read gives
  pub left : List ℕ  -- the image, of those that a crash may leave, that it leaves
  pub plan : Plan  -- which calls fail
  pub failures : ℕ  -- how often it failed
  pub room : ℕ  -- up to where it has room

-- a new disk
abbrev pub empty : Memory
empty = record { events = []; content = []; left = []; plan = no_plan; failures = 0; room = 0 }

-- the disk with another plan
abbrev pub with_plan : Plan → Memory → Memory
with_plan plan disk = record disk { plan = plan }

-- its state as a disk: calls need no room of their own
abbrev pub state_of : Memory → State
state_of disk = record {
  seen = disk.content;
  events = disk.events;
  failed = disk.failures;
  calls = 2 ^ 64;
  end = disk.room;
}

-- the image that a crash will leave, and the room for it
pub record IsKept (events : List Event) (content torn : List ℕ) (same content_room torn_room : ℕ) : Type 0 where
  pub image : Images events content torn
  pub content_same : same ≤ length content
  pub torn_same : same ≤ length torn
  pub front : take same torn ≡ take same content
  pub content_fits : length torn ≤ content_room
  pub torn_fits : length content ≤ torn_room

-- one fault more, and nothing else
pub record Fails (old new : Memory) : Type 0 where
  pub events : new.events ≡ old.events
  pub content : new.content ≡ old.content
  pub left : new.left ≡ old.left
  pub plan : new.plan ≡ old.plan
  pub room : new.room ≡ old.room
  pub rose : Rose old.failures new.failures
  pub no_fewer : old.failures ≤ new.failures
