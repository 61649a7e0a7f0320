-- The one spelling of a base in each layout, and what reading a base returns.
use Rattle.std.specs.Prelude.{◌≡◌, ℕ, ◌+◌, ◌<◌, ◌≤◌, ◌^◌, ◌==◌, nat_le, nat_lt, Bool, true, false, ◌&&◌, List, [], ◌∷◌, ◌++◌, length, Option, Some, None, Result, Ok, Err}
use Rattle.std.specs.Prelude.{if◌then◌else◌}
use Rattle.std.specs.List.{flat_map, list_all, AllByRecursion}
use Rattle.std.specs.Int.{w16, w32}
use Rattle.bytetext.specs.declared.memory.NoMemory.{NoMemory}
use Rattle.userfile.specs.Apply.{bad_shape}
use Rattle.userfile.specs.declared.change.Change.{Change}
use Rattle.usercodec.specs.declared.fault.CodecFault.TheVariants.{NotCanonical}
use Rattle.usercodec.specs.declared.records.Record.{Record}
use Rattle.usercodec.specs.Fields.{number, counted, Reading, ◌>>=◌, checked, byte_at, number_at}
use Rattle.usercodec.specs.Changes.{change_bytes, IsGoodChange, both, made}
use Rattle.usercodec.specs.Records.{HasShape, IsGoodRecord, items_at, counted_at}
use Rattle.usercodec.specs.FaultBytes.{fault_byte, fault_from, known}
use Rattle.botjournal.specs.Whole.{whole}
use Rattle.botjournal.specs.Layouts.{IsGoodChangeBy, change_by, record_bytes_by, IsGoodRecordBy, so_many_records_by}
use Rattle.botjournal.specs.declared.layouts.Layout.{Layout}
use Rattle.botjournal.specs.declared.layouts.Layout.TheVariants.{First, Second, Third, Fourth}
use Rattle.botjournal.specs.declared.TheConstants.{WINDOW}
use Rattle.botjournal.specs.declared.base.Base.{Base}
use Rattle.botjournal.specs.declared.reply.Verdict.{Verdict}
use Rattle.botjournal.specs.declared.reply.Verdict.TheVariants.{Taken, Refused}
use Rattle.botjournal.specs.declared.reply.Reply.{Reply}
use Rattle.botjournal.specs.declared.request.Request.{Request}

-- ---- spellings

-- items after their count, which has two bytes
abbrev pub listed : {A : Type 0} → (A → List ℕ) → List A → List ℕ
listed spelling items = number w16 (length items) ++ flat_map spelling items

-- the reply to a request: 0 and the change's number, or the byte of the fault
abbrev pub answer_bytes : Verdict → List ℕ
answer_bytes (Taken n) = 0 ∷ number w32 n
answer_bytes (Refused fault) = fault_byte fault ∷ []

abbrev pub reply_bytes : Reply → List ℕ
reply_bytes reply = number w16 reply.leaf ++ (number w32 reply.request ++ answer_bytes reply.answer)

abbrev pub request_bytes : Request → List ℕ
request_bytes request = number w32 request.number ++ change_bytes request.change

-- the request of an older layout, whose number is the last request's: 0 for none, or 1 and its change
abbrev pub one_out_bytes : List Request → List ℕ
one_out_bytes [] = 0 ∷ []
one_out_bytes (request ∷ more) = 1 ∷ change_bytes request.change

-- the outstanding requests: from layout 3 on they come after their count, which has one byte
abbrev pub out_bytes_by : Layout → List Request → List ℕ
out_bytes_by First = one_out_bytes
out_bytes_by Second = one_out_bytes
out_bytes_by Third = counted request_bytes
out_bytes_by Fourth = counted request_bytes

-- a base in this layout, its fields one after the other, each number with its most significant byte first
abbrev pub base_bytes_by : Layout → Base → List ℕ
base_bytes_by layout base =
    number w16 base.bot ++ (number w32 base.version ++ (listed (record_bytes_by layout) base.records ++ (listed reply_bytes base.replies
    ++ (number w32 base.last_request ++ out_bytes_by layout base.out))))

-- a base as it is written
abbrev pub base_bytes : Base → List ℕ
base_bytes base = base_bytes_by Fourth base

-- ---- which bases have a spelling

-- the first leaf is at least this, and each other leaf is above the one before it
abbrev pub rises_from : ℕ → List Reply → Bool
rises_from least [] = true
rises_from least (reply ∷ replies) = nat_le least reply.leaf && rises_from (reply.leaf + 1) replies

-- each reply is to a leaf above that of the reply before it: older layouts had one reply to a leaf
abbrev pub are_rising : List Reply → Bool
are_rising replies = rises_from 0 replies

-- the second reply is to the first one's leaf, and to its next request
abbrev pub is_next_reply : Reply → Reply → Bool
is_next_reply first second = second.leaf == first.leaf && second.request == first.request + 1

-- These replies may follow `before`, which is the reply with the number `count` to its leaf: each is to a leaf above
-- that of the reply before it, or to the same leaf's next request. A leaf has at most eight.
abbrev pub may_follow : Reply → ℕ → List Reply → Bool
may_follow before count [] = true
may_follow before count (reply ∷ replies) =
    if nat_lt before.leaf reply.leaf then may_follow reply 1 replies
    else ((is_next_reply before reply && nat_lt count WINDOW) && may_follow reply (count + 1) replies)

-- replies as a hub keeps them: leaf by leaf, at most eight to each leaf, whose requests have consecutive numbers
abbrev pub are_kept : List Reply → Bool
are_kept [] = true
are_kept (reply ∷ replies) = may_follow reply 1 replies

abbrev pub are_kept_by : Layout → List Reply → Bool
are_kept_by First = are_rising
are_kept_by Second = are_rising
are_kept_by Third = are_kept
are_kept_by Fourth = are_kept

-- the first number is at least this, and each other number is above the one before it
abbrev pub numbers_rise_from : ℕ → List Request → Bool
numbers_rise_from least [] = true
numbers_rise_from least (request ∷ requests) = nat_le least request.number && numbers_rise_from (request.number + 1) requests

-- this number is the request's, or at most 7 above it
abbrev pub is_near : ℕ → Request → Bool
is_near last request = nat_le request.number last && nat_lt last (request.number + WINDOW)

-- Requests that may be outstanding when the last request had this number: their numbers rise, and it is at most 7 above
-- each of them. So there are at most eight.
abbrev pub are_out : ℕ → List Request → Bool
are_out last requests = numbers_rise_from 0 requests && list_all (is_near last) requests

abbrev pub are_none : {A : Type 0} → List A → Bool
are_none [] = true
are_none (item ∷ items) = false

-- the hub, which is bot 0, has no request; a leaf has no replies
abbrev pub is_of_its_bot : Base → Bool
is_of_its_bot base = if base.bot == 0 then (base.last_request == 0 && are_none base.out) else are_none base.replies

abbrev pub HasShapeOut : Request → Type 0
HasShapeOut request = bad_shape request.change ≡ None

-- the lists are not too long for their counts, and the shapes of the records and the changes are good, as the userfile
-- says
pub record HasShapes (base : Base) : Type 0 where
  pub few_records : length base.records < 2 ^ 16
  pub records : AllByRecursion HasShape base.records
  pub few_replies : length base.replies < 2 ^ 16
  pub few_out : length base.out ≤ WINDOW
  pub out : AllByRecursion HasShapeOut base.out

abbrev pub IsGoodAnswer : Verdict → Type 0
IsGoodAnswer (Taken n) = n < 2 ^ 32
IsGoodAnswer (Refused fault) = Unit {0}

abbrev pub IsGoodReply : Reply → Type 0
IsGoodReply reply = (reply.leaf < 2 ^ 16) × ((reply.request < 2 ^ 32) × IsGoodAnswer reply.answer)

abbrev pub IsGoodRequest : Request → Type 0
IsGoodRequest request = (request.number < 2 ^ 32) × IsGoodChange request.change

-- requests that have spellings, and may be outstanding when the last request had this number
abbrev pub AreOut : ℕ → List Request → Type 0
AreOut last requests = AllByRecursion IsGoodRequest requests × (are_out last requests ≡ true)

-- a request whose change has a spelling in this layout
abbrev pub IsGoodRequestBy : Layout → Request → Type 0
IsGoodRequestBy layout request = (request.number < 2 ^ 32) × IsGoodChangeBy layout request.change

-- requests that have spellings in this layout, and may be outstanding when the last request had this number
abbrev pub AreWindow : Layout → ℕ → List Request → Type 0
AreWindow layout last requests = AllByRecursion (IsGoodRequestBy layout) requests × (are_out last requests ≡ true)

-- no request, or one that has this number and whose change has a spelling in this layout
abbrev pub IsOneOut : Layout → ℕ → List Request → Type 0
IsOneOut layout last [] = Unit {0}
IsOneOut layout last (request ∷ []) = (request.number ≡ last) × IsGoodChangeBy layout request.change
IsOneOut layout last (request ∷ other ∷ more) = ⊥

-- the outstanding requests that a layout can spell
abbrev pub AreOutBy : Layout → ℕ → List Request → Type 0
AreOutBy First = IsOneOut First
AreOutBy Second = IsOneOut Second
AreOutBy Third = AreWindow Third
AreOutBy Fourth = AreWindow Fourth

-- items that have spellings, and not too many for their count
abbrev pub AreListed : {A : Type 0} → (A → Type 0) → List A → Type 0
AreListed IsGood items = (length items < 2 ^ 16) × AllByRecursion IsGood items

-- a base that has a spelling
pub record IsGoodBase (base : Base) : Type 0 where
  pub bot : base.bot < 2 ^ 16
  pub version : base.version < 2 ^ 32
  pub records : AreListed IsGoodRecord base.records
  pub replies : AreListed IsGoodReply base.replies
  pub kept : are_kept base.replies ≡ true
  pub last_request : base.last_request < 2 ^ 32
  pub out : AreOut base.last_request base.out
  pub of_its_bot : is_of_its_bot base ≡ true

-- a base that has a spelling in this layout
pub record IsGoodBaseBy (layout : Layout) (base : Base) : Type 0 where
  pub bot : base.bot < 2 ^ 16
  pub version : base.version < 2 ^ 32
  pub records : AreListed (IsGoodRecordBy layout) base.records
  pub replies : AreListed IsGoodReply base.replies
  pub kept : are_kept_by layout base.replies ≡ true
  pub last_request : base.last_request < 2 ^ 32
  pub out : AreOutBy layout base.last_request base.out
  pub of_its_bot : is_of_its_bot base ≡ true

-- ---- reading

-- items after their count
abbrev pub listed_at : {A : Type 0} → (List ℕ → Reading A) → List ℕ → Reading (List A)
listed_at item_at bytes = do
  count ← number_at w16 bytes
  items_at (λ held more. item_at more) count.0 [] count.1

-- what follows the first byte of an answer
unfoldable pub answer_from : ℕ → List ℕ → Reading Verdict
answer_from byte bytes = if byte == 0 then made Taken (number_at w32 bytes) else made Refused (known (fault_from byte) bytes)

unfoldable pub answer_at : List ℕ → Reading Verdict
answer_at bytes = do
  byte ← byte_at bytes
  answer_from byte.0 byte.1

unfoldable pub reply_at : List ℕ → Reading Reply
reply_at bytes =
    made (λ x. record { leaf = x.0; request = x.1.0; answer = x.1.1 }) (both (number_at w16) (both (number_at w32) answer_at) bytes)

unfoldable pub replies_listed_at : List ℕ → Reading (List Reply)
replies_listed_at bytes = listed_at reply_at bytes

unfoldable pub replies_at : Layout → List ℕ → Reading (List Reply)
replies_at layout bytes = checked (are_kept_by layout) (replies_listed_at bytes)

unfoldable pub records_at : Layout → List ℕ → Reading (List Record)
records_at layout bytes = do
  count ← number_at w16 bytes
  so_many_records_by layout count.0 count.1

-- what follows the byte that says whether a change is outstanding
unfoldable pub change_out_from : Layout → ℕ → List ℕ → Reading (Option Change)
change_out_from layout byte bytes =
    if byte == 0 then Ok (None, bytes) else (if byte == 1 then made Some (change_by layout bytes) else Err NotCanonical)

unfoldable pub change_out_at : Layout → List ℕ → Reading (Option Change)
change_out_at layout bytes = do
  byte ← byte_at bytes
  change_out_from layout byte.0 byte.1

-- the request of this number whose change is outstanding, if there is one
abbrev pub one_out : ℕ → Option Change → List Request
one_out last None = []
one_out last (Some change) = record { number = last; change = change } ∷ []

-- an older layout's last request number, and its outstanding request
unfoldable pub one_out_at : Layout → List ℕ → Reading (ℕ × List Request)
one_out_at layout bytes = made (λ x. (x.0, one_out x.0 x.1)) (both (number_at w32) (change_out_at layout) bytes)

unfoldable pub request_at : Layout → List ℕ → Reading Request
request_at layout bytes = made (λ x. record { number = x.0; change = x.1 }) (both (number_at w32) (change_by layout) bytes)

unfoldable pub requests_listed_at : Layout → List ℕ → Reading (List Request)
requests_listed_at layout bytes = counted_at WINDOW (λ held more. request_at layout more) bytes

-- from layout 3 on: the last request number, and the outstanding requests
unfoldable pub window_at : Layout → List ℕ → Reading (ℕ × List Request)
window_at layout bytes = checked (λ x. are_out x.0 x.1) (both (number_at w32) (requests_listed_at layout) bytes)

-- the last request number, and the outstanding requests
abbrev pub out_at : Layout → List ℕ → Reading (ℕ × List Request)
out_at First = one_out_at First
out_at Second = one_out_at Second
out_at Third = window_at Third
out_at Fourth = window_at Fourth

-- the base of these fields
abbrev pub base_of : ℕ × (ℕ × (List Record × (List Reply × (ℕ × List Request)))) → Base
base_of x = record { bot = x.0; version = x.1.0; records = x.1.1.0; replies = x.1.1.1.0; last_request = x.1.1.1.1.0; out = x.1.1.1.1.1 }

unfoldable pub parts_at : Layout → List ℕ → Reading Base
parts_at layout bytes =
    made base_of (both (number_at w16) (both (number_at w32) (both (records_at layout) (both (replies_at layout) (out_at layout)))) bytes)

unfoldable pub base_at : Layout → List ℕ → Reading Base
base_at layout bytes = checked is_of_its_bot (parts_at layout bytes)

-- ---- bases that are all of their bytes

-- the base whose spelling in this layout these bytes are
abbrev pub base_in : Layout → List ℕ → Option Base
base_in layout bytes = whole (base_at layout bytes)

-- what was found is spelled by these bytes
abbrev pub IsBaseOf : List ℕ → Option Base → Type 0
IsBaseOf bytes None = Unit {0}
IsBaseOf bytes (Some base) = IsGoodBase base × (bytes ≡ base_bytes base)

-- what was found is spelled by these bytes in this layout
abbrev pub IsBaseBy : Layout → List ℕ → Option Base → Type 0
IsBaseBy layout bytes None = Unit {0}
IsBaseBy layout bytes (Some base) = IsGoodBaseBy layout base × (bytes ≡ base_bytes_by layout base)

-- this base was found, unless memory ran out
abbrev pub FindsBase : Base → Result (Option Base) NoMemory → Type 0
FindsBase base (Ok found) = found ≡ Some base
FindsBase base (Err e) = Unit {0}
