-- Worlds that meet every premise, so that the laws of worlds are not empty.
use Rattle.std.specs.Prelude.{◌≡◌, ◌++◌, ℕ, zero, suc, List, Some}
use Rattle.procs.specs.Promises.{Promised}
use Rattle.botcore.specs.Bots.{Bot}
use Rattle.botcore.specs.Links.{link_version}
use Rattle.processes.specs.Deeds.{Net, IsFirst}
use Rattle.runlaws.specs.Folders.{Folder, Happening, bot_of}
use Rattle.runlaws.specs.Worlds.{IsWorld}

-- folder 0 is one of the hub, and each other folder one of its only leaf
abbrev pub number_in : ℕ → ℕ
number_in zero = 0
number_in (suc place) = 1

abbrev pub of_two : (ℕ → List (List ℕ)) → ℕ → Folder
of_two names folder = record { number = number_in folder; names = names folder }

-- A hub and a leaf were created. The hub was asked for a change, accepted it, and told the leaf. The leaf's process
-- ended while the leaf applied the change, and another process opened the leaf. Both bots are at version 1, and run.
pub record ReachesLeaf (promised : Promised) (names : ℕ → List (List ℕ)) : Type 0 where
  pub first : Net
  pub world : List Happening
  pub is_first : IsFirst 1 first
  pub is_world : IsWorld promised (of_two names) 1 first world
  pub hub : Bot
  pub has_hub : bot_of (of_two names) 0 world ≡ Some hub
  pub hub_version : link_version hub.link ≡ 1
  pub leaf : Bot
  pub has_leaf : bot_of (of_two names) 1 world ≡ Some leaf
  pub leaf_version : link_version leaf.link ≡ 1

-- Later on the leaf was created in a new folder, which took its number. It is at version 0, and had been at version 1.
pub record RenewsLeaf (promised : Promised) (names : ℕ → List (List ℕ)) : Type 0 where
  pub first : Net
  pub more : List Happening
  pub world : List Happening
  pub is_first : IsFirst 1 first
  pub is_world : IsWorld promised (of_two names) 1 first (more ++ world)
  pub was : Bot
  pub had_leaf : bot_of (of_two names) 1 world ≡ Some was
  pub was_version : link_version was.link ≡ 1
  pub leaf : Bot
  pub has_leaf : bot_of (of_two names) 1 (more ++ world) ≡ Some leaf
  pub leaf_version : link_version leaf.link ≡ 0
