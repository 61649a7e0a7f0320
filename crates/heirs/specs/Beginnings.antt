-- How the link of an heir begins, and its history.
use Rattle.std.specs.Prelude.{ℕ, List, [], ◌∷◌, length}
use Rattle.userfile.specs.Records.{Records}
use Rattle.protocol.specs.Packets.{AcceptedChange, own}
use Rattle.protocol.specs.HubRules.{Hub}
use Rattle.protocol.specs.History.{History, start}
use Rattle.protocol.specs.Network.{new_hub}

-- A hub that was never used, but for its version and its records. It has no reply to any leaf. Its journal is of this
-- generation.
abbrev pub heir_hub : (count version generation : ℕ) → Records → Hub
heir_hub count version generation records = record (new_hub count) {
  kept = record (new_hub count).kept { floor = version; records = records; generation = generation };
}

-- accepted changes, each as the hub's own
abbrev pub inherited : List AcceptedChange → List AcceptedChange
inherited [] = []
inherited (entry ∷ entries) = own entry.change ∷ inherited entries

-- the start of a net of `count` leaves, but that its hub has accepted these changes
abbrev pub heir_start : ℕ → List AcceptedChange → History
heir_start count changes = record (start count) {
  hub = record (start count).hub {
    kept = record (start count).hub.kept { accepted = inherited changes; floor = length changes };
  };
}
