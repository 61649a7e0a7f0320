-- The window in small cases: which requests go out, which replies are kept, and which reply answers a request.
use Rattle.std.proofs.Common.{◌≡◌, ℕ, zero, suc, true, false, List, [], ◌∷◌, length, None, Some, Ok, refl}
use Rattle.userfile.specs.declared.change.Change.{Change as UserChange}
use Rattle.botjournal.specs.declared.reply.Reply.{Reply}
use Rattle.botjournal.specs.declared.reply.Verdict.TheVariants.{Taken}
use Rattle.protocol.specs.Packets.Packet.{Request}
use Rattle.protocol.specs.Notes.Note.{Sent, Old, Repeat, Gap}
use Rattle.protocol.specs.Bots.{Works}
use Rattle.protocol.specs.HubRules.{Hub, last_request, with_next, reply_to, hub_received}
use Rattle.protocol.specs.LeafRules.{Leaf, no_loose, has_room, with_request, without, leaf_pumped}
use Rattle.protocol.specs.Network.{new_hub, new_leaf}

-- ---- which requests go out

-- eight may be out at once, and no ninth
room_for_eight : (change : UserChange) → has_room 7 (with_request 1 change []) ≡ true
room_for_eight change = refl

no_room_for_nine : (change : UserChange) → has_room 8 (with_request 1 change []) ≡ false
no_room_for_nine change = refl

-- the lowest that is out counts, however few are
few_far_apart : (change : UserChange) → has_room 20 (with_request 20 change (with_request 13 change [])) ≡ false
few_far_apart change = refl

any_where_none_is : (last : ℕ) → has_room last [] ≡ true
any_where_none_is last = refl

-- an answered one in the middle is out no more
middle_done : (a b c : UserChange)
    → without 2 (with_request 3 c (with_request 2 b (with_request 1 a []))) ≡ with_request 3 c (with_request 1 a [])
middle_done a b c = refl

-- a leaf at which these asks wait, and the same after this number of pumps
abbrev asked : List UserChange → Leaf
asked changes = record new_leaf { loose = record no_loose { waiting = changes } }

abbrev pumped : ℕ → Leaf → Leaf
pumped zero leaf = leaf
pumped (suc count) leaf = pumped count (leaf_pumped 1 1 Works leaf).after

abbrev ten : UserChange → Leaf
ten change = asked (
    change ∷ change ∷ change ∷ change ∷ change ∷ change ∷ change ∷ change ∷ change ∷ change ∷ [])

-- of ten asks eight go out, and two wait
eighth_goes : (change : UserChange) → (leaf_pumped 1 1 Works (pumped 7 (ten change))).told ≡ Ok (Sent 8)
eighth_goes change = refl

ninth_waits : (change : UserChange) → (leaf_pumped 1 1 Works (pumped 8 (ten change))).told ≡ Ok (Sent 8)
ninth_waits change = refl

eight_are_out : (change : UserChange) → length (pumped 9 (ten change)).kept.out ≡ 8
eight_are_out change = refl

two_wait : (change : UserChange) → (pumped 9 (ten change)).loose.waiting ≡ change ∷ change ∷ []
two_wait change = refl

-- a hello and eight requests are sent each time
all_go_again : (change : UserChange) → length (leaf_pumped 1 1 Works (pumped 8 (ten change))).sends ≡ 9
all_go_again change = refl

-- ---- which replies are kept

abbrev taken : ℕ → Reply
taken request = record { leaf = 1; request = request; answer = Taken request }

abbrev first_eight : List Reply
first_eight = taken 1 ∷ taken 2 ∷ taken 3 ∷ taken 4 ∷ taken 5 ∷ taken 6 ∷ taken 7 ∷ taken 8 ∷ []

abbrev next_eight : List Reply
next_eight = taken 2 ∷ taken 3 ∷ taken 4 ∷ taken 5 ∷ taken 6 ∷ taken 7 ∷ taken 8 ∷ taken 9 ∷ []

-- eight are kept, and a ninth takes the place of the oldest
eight_kept :
    with_next 1 (Taken 8) (taken 1 ∷ taken 2 ∷ taken 3 ∷ taken 4 ∷ taken 5 ∷ taken 6 ∷ taken 7 ∷ []) ≡ first_eight
eight_kept = refl

oldest_goes : with_next 1 (Taken 9) first_eight ≡ next_eight
oldest_goes = refl

none_before_first : last_request [] ≡ 0
none_before_first = refl

-- ---- which reply answers a request

oldest_answers : reply_to 2 next_eight ≡ Some (taken 2)
oldest_answers = refl

gone_is_none : reply_to 1 next_eight ≡ None
gone_is_none = refl

-- a hub that has kept these to its one leaf
abbrev hub : List Reply → Hub
hub kept = record (new_hub 1) { kept = record (new_hub 1).kept { replies = kept ∷ [] } }

repeated : (change : UserChange) → (hub_received 1 Works (hub next_eight) (Request 1 2 change)).told ≡ Ok Repeat
repeated change = refl

too_old : (change : UserChange) → (hub_received 1 Works (hub next_eight) (Request 1 1 change)).told ≡ Ok Old
too_old change = refl

too_early : (change : UserChange) → (hub_received 1 Works (hub next_eight) (Request 1 11 change)).told ≡ Ok Gap
too_early change = refl
