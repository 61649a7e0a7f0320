-- Nets of which each is an heir of the one before it.
use Rattle.std.specs.Prelude.{ℕ, ◌≤◌, List, [], ◌∷◌, take}
use Rattle.procs.specs.Promises.{Promised}
use Rattle.processes.specs.Deeds.{Net, Deed, Run, IsFirst, net_after}
use Rattle.heirs.specs.Heirs.{IsHeirOf}

-- the net after as many of its deeds
abbrev pub net_at : Net → List Deed → ℕ → Net
net_at w deeds moment = net_after w (take moment deeds)

-- A net that has an heir: its first moment, all its deeds, and after how many of them which bot was promoted, at which
-- version. The other deeds are what its bots did after that.
pub record Ancestor : Type 0 where
  pub net : Net
  pub deeds : List Deed
  pub moment : ℕ
  pub bot : ℕ
  pub version : ℕ

-- This is the first moment of a net with these ancestors, its parent first. Without ancestors it is a new net.
abbrev pub Descends : Promised → List Ancestor → Net → Type 0
Descends promised [] w = (count : ℕ) × IsFirst count w
Descends promised (parent ∷ others) w =
    (count : ℕ) × IsHeirOf (net_at parent.net parent.deeds parent.moment) parent.bot parent.version count w
    × Run promised parent.net parent.deeds × Descends promised others parent.net

-- in each of these nets the promoted bot was at this version, or above it
abbrev pub AreAtLeast : ℕ → List Ancestor → Type 0
AreAtLeast version [] = Unit {0}
AreAtLeast version (ancestor ∷ others) = (version ≤ ancestor.version) × AreAtLeast version others
