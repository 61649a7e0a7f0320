-- What each leaf of a hub may do, by its number.
use Rattle.std.specs.Prelude.{ℕ, List, [], ◌∷◌, set, slice_get, unwrap_or}
use Rattle.handshake.specs.declared.progress.LeafRights.{LeafRights}
use Rattle.handshake.specs.declared.progress.LeafRights.TheVariants.{Reads}
use Rattle.peers.specs.declared.stations.LeafLimit.{LeafLimit}

-- A line limits its leaf, and no other; of several lines of one leaf the last counts. A line of no leaf does nothing.
abbrev pub limited : List LeafLimit → List LeafRights → List LeafRights
limited [] rights = rights
limited (limit ∷ limits) rights = limited limits (set rights limit.leaf limit.may)

-- a number that is no leaf's may only read
abbrev pub right_of : List LeafRights → ℕ → LeafRights
right_of rights leaf = unwrap_or (slice_get rights leaf) Reads
