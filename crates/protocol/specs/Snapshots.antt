-- The records at a version cut into parts of eight, and parts put together again.
use Rattle.std.specs.Prelude.{ℕ, zero, suc, ◌+◌, ◌-◌, ◌*◌, ◌/◌, ◌==◌, nat_lt, Bool, false, ◌&&◌, List, [], ◌∷◌, ◌++◌, length, take, drop, slice_set, if◌then◌else◌, Option, None, Some}
use Rattle.userfile.specs.Records.{Records}
use Rattle.userfile.specs.declared.user.User.{User}
use Rattle.userfile.specs.declared.ban.Ban.{Ban}
use Rattle.usercodec.specs.declared.records.Record.{Record}
use Rattle.usercodec.specs.declared.records.Record.TheVariants as records

-- ---- records one by one

abbrev pub user_items : List User → List Record
user_items [] = []
user_items (user ∷ users) = records.User user ∷ user_items users

abbrev pub ban_items : List Ban → List Record
ban_items [] = []
ban_items (ban ∷ bans) = records.Ban ban ∷ ban_items bans

-- the users first, then the bans
abbrev pub items_of : Records → List Record
items_of held = user_items held.users ++ ban_items held.bans

abbrev pub users_in : List Record → List User
users_in [] = []
users_in (records.User user ∷ items) = user ∷ users_in items
users_in (records.Ban ban ∷ items) = users_in items

abbrev pub bans_in : List Record → List Ban
bans_in [] = []
bans_in (records.User user ∷ items) = bans_in items
bans_in (records.Ban ban ∷ items) = ban ∷ bans_in items

abbrev pub records_from : List Record → Records
records_from items = record { users = users_in items; bans = bans_in items }

-- ---- cutting

-- how many parts: as many as are needed, and at least one
abbrev pub part_count : Records → ℕ
part_count held = (length (items_of held) - 1) / 8 + 1

-- the part of this number, from 1
abbrev pub part_of : Records → ℕ → List Record
part_of held number = take 8 (drop (8 * (number - 1)) (items_of held))

-- ---- putting together

-- the parts that a leaf keeps of one version: a place for each, in order
pub record PartSet : Type 0 where
  pub version : ℕ
  pub parts : List (Option (List Record))

-- one part before others
abbrev pub joined_next : Option (List Record) → Option (List Record) → Option (List Record)
joined_next None rest = None
joined_next (Some part) None = None
joined_next (Some part) (Some rest) = Some (part ++ rest)

-- the parts one after the other, if none is missing
abbrev pub joined : List (Option (List Record)) → Option (List Record)
joined [] = Some []
joined (part ∷ parts) = joined_next part (joined parts)

-- this number of places, with no part in them
abbrev pub no_places : ℕ → List (Option (List Record))
no_places zero = []
no_places (suc count) = None ∷ no_places count

-- no part of this version and count
abbrev pub no_parts : ℕ → ℕ → PartSet
no_parts version count = record { version = version; parts = no_places count }

-- the set that a part goes into: the kept one if it is of that version and count, otherwise an empty one
abbrev pub set_for : Option PartSet → ℕ → ℕ → PartSet
set_for None version count = no_parts version count
set_for (Some kept) version count =
    if (kept.version == version) && (length kept.parts == count) then kept else no_parts version count

-- the set with this part at the place of its number, from 1
abbrev pub with_part : PartSet → ℕ → List Record → PartSet
with_part kept number items = record kept { parts = slice_set kept.parts (number - 1) (Some items) }

-- the kept set is of a later version
abbrev pub is_behind : ℕ → Option PartSet → Bool
is_behind version None = false
is_behind version (Some kept) = nat_lt version kept.version
