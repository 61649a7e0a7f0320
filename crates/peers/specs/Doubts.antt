-- When a hub may be an older copy of itself.
use Rattle.std.specs.Prelude.{◌≡◌, ◌≢◌, ◌&&◌, ◌++◌, ◌∷◌, [], ℕ, nat_le, nat_lt, Bool, true, false, List, set, Option, Some, None, IsSome, slice_get, if◌then◌else◌}
use Rattle.std.specs.List.{flat_map}
use Rattle.peers.specs.declared.beat.Beat.{Beat}
use Rattle.handshake.specs.declared.book_line.BookLine.{BookLine}
use Rattle.handshake.specs.declared.book_line.BookLine.TheVariants.{Enters, Frees, Bars}
use Rattle.peers.specs.declared.doubt.Doubted.{Doubted}
use Rattle.handshake.specs.declared.refusal.HandshakeRefusal.{HandshakeRefusal}
use Rattle.handshake.specs.declared.refusal.HandshakeRefusal.TheVariants.{Heir, Net, Count, Other, Ahead, Records, Older}
use Rattle.peers.specs.declared.links.Links.{Links}
use Rattle.peers.specs.declared.links.Links.TheVariants.{Alone, Hub, Leaf}
use Rattle.peers.specs.declared.seat.Seat.{Seat}
use Rattle.peers.specs.declared.hub_links.HubLinks.{HubLinks}
use Rattle.handshake.specs.Books.{IsLine, bar_line, entry_line, free_line, with_line}
use Rattle.peers.specs.Hearing.{refusal_of}
use Rattle.peers.specs.Linked.{IsTaken}
use Rattle.peers.specs.Tells.{in_doubt}
use Rattle.peers.specs.Waiting.{queue_of}

-- the leaf is ahead of the hub, or differs from it
abbrev pub is_doubt : HandshakeRefusal → Bool
is_doubt Heir = false
is_doubt Net = false
is_doubt Count = false
is_doubt Other = false
is_doubt Ahead = true
is_doubt Records = true
is_doubt Older = false

-- the leaves that are ahead or differ, by their number, after this leaf was refused
abbrev pub with_doubt : ℕ → List ℕ → HandshakeRefusal → List (Option Doubted) → List (Option Doubted)
with_doubt leaf made refusal doubts =
    if is_doubt refusal then set doubts leaf (Some (record { doubt = record { leaf = leaf; refusal = refusal }; made = made })) else doubts

-- ---- the file `doubt`

-- a leaf that a line enters counts as one that is ahead
abbrev pub doubted_by : BookLine → Option Doubted
doubted_by (Enters leaf made) = Some (record { doubt = record { leaf = leaf; refusal = Ahead }; made = made })
doubted_by (Frees leaf) = None
doubted_by (Bars made) = None

-- the bytes begin with the line of this leaf, or with no such line
abbrev pub IsDoubtIn : List ℕ → Option Doubted → Type 0
IsDoubtIn bytes (Some doubted) =
    (doubted.doubt.refusal ≡ Ahead) × ((after : List ℕ) × (bytes ≡ entry_line doubted.doubt.leaf doubted.made ++ after))
IsDoubtIn bytes None =
    (leaf : ℕ) (made after : List ℕ) → IsLine (Enters leaf made) → bytes ≡ entry_line leaf made ++ after → ⊥

-- ---- heartbeats

-- The beat is compared with the hub's own. If the leaf is ahead or differs, its connection is to be closed.
abbrev pub ComparesIf : Option HandshakeRefusal → Seat → Option HandshakeRefusal → Seat → Type 0
ComparesIf None old found new = (found ≡ None) × (new.wire ≡ old.wire)
ComparesIf (Some refusal) old found new = (found ≡ Some refusal) × IsSome new.wire.gone

-- a leaf's last beat is compared once
abbrev pub ComparesBeat : Beat → Option Beat → Seat → Option HandshakeRefusal → Seat → Type 0
ComparesBeat own None old found new = (found ≡ None) × (new ≡ old)
ComparesBeat own (Some beat) old found new = (new.beat ≡ None) × ComparesIf (refusal_of beat own) old found new

abbrev pub Compares : Beat → Seat → Option HandshakeRefusal → Seat → Type 0
Compares own old found new = ComparesBeat own old.beat old found new

-- ---- what an administrator decides

-- the folders of the leaves that are ahead or differ
abbrev pub doubted_folder : Option Doubted → List (List ℕ)
doubted_folder None = []
doubted_folder (Some doubted) = doubted.made ∷ []

abbrev pub doubted_folders : List (Option Doubted) → List (List ℕ)
doubted_folders doubts = flat_map doubted_folder doubts

-- this copy of the hub counts: the folder of each leaf that it doubts is barred, by a line of the book, and nothing is
-- in doubt
pub record Trusts (old : HubLinks) (lines : List ℕ) (new : HubLinks) : Type 0 where
  pub bars : lines ≡ flat_map bar_line (doubted_folders old.doubts.items)
  pub barred : new.book ≡ record old.book { barred = old.book.barred ++ doubted_folders old.doubts.items }
  pub over : in_doubt new ≡ false
  pub seats : new.seats ≡ old.seats

-- the net has a leaf of this number
abbrev pub is_leaf_of : HubLinks → ℕ → Bool
is_leaf_of hub leaf = nat_lt 0 leaf && nat_le leaf hub.net.leaves

-- the number of the leaf is free, by a line of the book; the leaf is not linked, and nothing of it waits
pub record FreesLeaf (leaf : ℕ) (old : HubLinks) (line : List ℕ) (new : HubLinks) : Type 0 where
  pub is_leaf : is_leaf_of old leaf ≡ true
  pub frees : line ≡ free_line leaf
  pub freed : new.book ≡ with_line (Frees leaf) old.book
  pub gone : IsTaken (slice_get new.seats.items leaf) → ⊥
  pub dropped : queue_of new.inbox leaf ≡ []
  pub others : (place : ℕ) → place ≢ leaf → slice_get new.seats.items place ≡ slice_get old.seats.items place

abbrev pub Renews : ℕ → HubLinks → Option (List ℕ) → HubLinks → Type 0
Renews leaf old None new = (is_leaf_of old leaf ≡ false) × (new ≡ old)
Renews leaf old (Some line) new = FreesLeaf leaf old line new

-- ---- the same of a bot's connections

abbrev pub is_in_doubt : Links → Bool
is_in_doubt Alone = false
is_in_doubt (Hub hub) = in_doubt hub
is_in_doubt (Leaf leaf) = false

abbrev pub TrustsThis : Links → List ℕ → Links → Type 0
TrustsThis (Hub old) lines (Hub new) = Trusts old lines new
TrustsThis (Hub old) lines Alone = ⊥
TrustsThis (Hub old) lines (Leaf new) = ⊥
TrustsThis Alone lines new = (lines ≡ []) × (new ≡ Alone)
TrustsThis (Leaf old) lines new = (lines ≡ []) × (new ≡ Leaf old)

abbrev pub RenewsLeaf : ℕ → Links → Option (List ℕ) → Links → Type 0
RenewsLeaf leaf (Hub old) line (Hub new) = Renews leaf old line new
RenewsLeaf leaf (Hub old) line Alone = ⊥
RenewsLeaf leaf (Hub old) line (Leaf new) = ⊥
RenewsLeaf leaf Alone line new = (line ≡ None) × (new ≡ Alone)
RenewsLeaf leaf (Leaf old) line new = (line ≡ None) × (new ≡ Leaf old)
