-- What a bot tells others about its end: the accepted changes, the last requests, and the parts of a snapshot that it holds.
use Rattle.std.specs.Prelude.{ℕ, zero, suc, ◌+◌, ◌-◌, ◌*◌, Bool, false, List, [], ◌∷◌, slice_get, if◌then◌else◌, Option, None, Some, is_some, option_map}
use Rattle.usercodec.specs.declared.records.Record.{Record}
use Rattle.protocol.specs.Numbers.{item_at}
use Rattle.protocol.specs.Snapshots.{PartSet}
use Rattle.protocol.specs.Packets.{AcceptedChange}
use Rattle.protocol.specs.HubRules.{last_request, kept_in}
use Rattle.protocol.specs.Ends.{End, AtHub, AtLeaf}
use Rattle.sharelink.specs.declared.held_snapshot.HeldSnapshot.{HeldSnapshot}

-- the accepted changes that the hub's journal holds one by one; a leaf's holds none so
abbrev pub end_tail : End → List AcceptedChange
end_tail (AtHub hub) = hub.kept.tail
end_tail (AtLeaf leaf) = []

-- the number of a leaf's last request; the hub sends none
abbrev pub end_last_request : End → ℕ
end_last_request (AtHub hub) = 0
end_last_request (AtLeaf leaf) = leaf.kept.last

-- the number of the last request of this leaf that the hub replied to: 0 if there is none
abbrev pub end_last_reply : End → ℕ → ℕ
end_last_reply (AtHub hub) leaf = last_request (kept_in (item_at hub.kept.replies leaf))
end_last_reply (AtLeaf end) leaf = 0

-- the parts of a snapshot that a leaf holds; the hub holds none
abbrev pub end_parts : End → Option PartSet
end_parts (AtHub hub) = None
end_parts (AtLeaf leaf) = leaf.loose.parts

-- ---- held parts as bits

abbrev pub is_held : Option (Option (List Record)) → Bool
is_held None = false
is_held (Some place) = is_some place

-- the part of this number, from 1, is held
abbrev pub has_part : List (Option (List Record)) → ℕ → Bool
has_part parts number = is_held (slice_get parts (number - 1))

-- 1 if the part of this number is held
abbrev pub bit_of : List (Option (List Record)) → ℕ → ℕ
bit_of parts number = if has_part parts number then 1 else 0

-- the eight parts from this number on as a byte: the first of them is its lowest bit, the eighth its highest
abbrev pub byte_from : List (Option (List Record)) → ℕ → ℕ
byte_from parts number =
    bit_of parts number + 2 * bit_of parts (number + 1) + 4 * bit_of parts (number + 2) + 8 * bit_of parts (number + 3)
    + 16 * bit_of parts (number + 4) + 32 * bit_of parts (number + 5) + 64 * bit_of parts (number + 6)
    + 128 * bit_of parts (number + 7)

-- this number of bytes, for the parts from this number on
abbrev pub bytes_from : ℕ → List (Option (List Record)) → ℕ → List ℕ
bytes_from zero parts number = []
bytes_from (suc count) parts number = byte_from parts number ∷ bytes_from count parts (number + 8)

-- a set's version, and parts 1 to 88 as eleven bytes
abbrev pub held_of : PartSet → HeldSnapshot
held_of set = record { version = set.version; bits = bytes_from 11 set.parts 1 }

-- the parts that an end holds, if it holds any
abbrev pub end_held : End → Option HeldSnapshot
end_held end = option_map held_of (end_parts end)
