-- A mirror in memory of what a file holds. When its bytes are freed, contracts still know them.
use Rattle.std.specs.Prelude.{◌≡◌, ◌≤◌, ℕ, List, [], ◌∷◌, length, Option, IfSome}
use Rattle.std.specs.declared.vec.Vec.{Vec}
use Rattle.std.specs.declared.alloc.Global.{Global}
use Rattle.std.specs.Vec.{vec_capacity}
use Rattle.disks.specs.Events.{Event}
use Rattle.disks.specs.Told.{after_writes}

-- The events of a disk that held `found`, the newest first. They are noted with the text that was written, and become
-- events with the bytes before each.
abbrev pub events_after : List ℕ → List Event → List Event
events_after found [] = []
events_after found (event ∷ past) = record event { seen = after_writes found past } ∷ events_after found past

-- if the bytes are in memory, they are `content`, and there is room up to `room`
pub record IsHeld (bytes : Option (Vec ℕ Global)) (content : List ℕ) (room : ℕ) : Type 0 where
  pub items : IfSome bytes (λ b. b.items ≡ content)
  pub capacity : IfSome bytes (λ b. room ≤ vec_capacity b)

-- the mirror of `content`: its length is kept, and until reads end its bytes too
pub record IsMirror (bytes : Option (Vec ℕ Global)) (count room : ℕ) (content : List ℕ) : Type 0 where
  pub len : count ≡ length content
  pub held : IsHeld bytes content room
