-- Which packets bring a text to a bot, and that such a packet leaves its end of the link as it was.
use Rattle.std.proofs.Common.{◌≡◌, ◌∙◌, ℕ, zero, suc, ◌+◌, ◌==◌, nat_le, nat_lt, not, ◌||◌, Bool, true, false, if◌then◌else◌, List, [], ◌++◌, Option, Some, None, refl, ap, sym}
use Rattle.userfile.specs.Apply.{refusal}
use Rattle.userfile.specs.Records.{Records}
use Rattle.userfile.specs.Together.{records_fault}
use Rattle.userfile.specs.declared.change.Change.{Change as UserChange}
use Rattle.userfile.specs.declared.error.ChangeFault.{ChangeFault}
use Rattle.usercodec.specs.declared.records.Record.{Record}
use Rattle.botjournal.specs.declared.TheConstants.{LAYOUT}
use Rattle.botjournal.specs.declared.reply.Verdict.{Verdict}
use Rattle.botjournal.specs.declared.reply.Verdict.TheVariants.{Taken, Refused as refused_request}
use Rattle.botjournal.specs.declared.reply.Reply.{Reply}
use Rattle.protocol.specs.Numbers.{last_number, item_at, Place, Below, Same, Next, Above, place_of}
use Rattle.protocol.specs.Packets.{Packet, Outgoing, AcceptedChange, change_packet, to_each}
use Rattle.protocol.specs.Packets.Packet.{Hello, Change, Request, Accepted as accepted_packet, Refused as refused_packet, BotText, Part}
use Rattle.protocol.specs.Notes.Note.{Accepted, Installed, Old, Stray, Text}
use Rattle.protocol.specs.Notes.LinkFault.{OtherLayout, NumbersSpent, Down}
use Rattle.protocol.specs.Bots.{How, Works, Row, noted, refused, journals}
use Rattle.protocol.specs.Snapshots.{PartSet, records_from, joined, set_for, with_part, is_behind}
use Rattle.protocol.specs.HubRules.{Hub, Accept, hub_folded, version_of, last_request, reply_to, is_no_leaf, accepts, replied, next_request, repeats, request_placed, request_of, hello_served, hello_met, text_passed, hub_received, hub_received_up}
use Rattle.protocol.specs.LeafRules.{Leaf, Install, leaf_folded, is_out, change_placed, next_applied, reply_taken, reply_received, installed, set_taken, part_taken, leaf_received, leaf_received_up}
use Rattle.protocol.specs.Ends.{End, AtHub, AtLeaf, end_received}
use Rattle.botcore.specs.Happenings.{Saying, saying_of}

-- a row that brings no text
abbrev IsSilent : {S : Type 0} → Row S → Type 0
IsSilent row = saying_of row.told ≡ None

silent_if : {S : Type 0} (b : Bool) (x y : Row S) → IsSilent x → IsSilent y → IsSilent (if b then x else y)
silent_if true x y one other = one
silent_if false x y one other = other

-- so it brings none
brings_none : {S : Type 0} (down : Bool) (old : S) (row : Row S) (saying : Saying) → IsSilent row
    → saying_of (if down then refused Down old else row).told ≡ Some saying → ⊥
brings_none down old row saying none is =
    let no : saying_of (if down then refused Down old else row).told ≡ None = silent_if down (refused Down old) row refl none in
    let different : None ≡ Some saying = sym no ∙ is in cc

stays_if : {S : Type 0} (b : Bool) (x y : Row S) (old : S) → x.after ≡ old → y.after ≡ old → (if b then x else y).after ≡ old
stays_if true x y old one other = one
stays_if false x y old one other = other

-- the row of a packet that brings a text: nothing is another, and the disks have no part in it
abbrev pub IsOfText : {S : Type 0} → (How → Row S) → S → Type 0
IsOfText row old = ((row Works).after ≡ old) × ((how : How) → (row how).told ≡ (row Works).told)

-- ---- the hub

module _ (leaves : ℕ) (old : Hub) where
  accepts_silent : (entry : AcceptedChange) (first : List Outgoing) (waiting : List UserChange) → IsSilent (accepts leaves Works old entry first waiting)
  accepts_silent entry first waiting =
      silent_if (nat_lt (version_of old.kept) last_number)
      (journals hub_folded Works old (Accept entry) (Accepted (version_of old.kept + 1))
      (first ++ to_each 1 leaves (change_packet (version_of old.kept + 1) entry)) waiting)
      (refused NumbersSpent old) refl refl

  next_silent : (leaf request : ℕ) (change : UserChange) (fault : Option ChangeFault) → IsSilent (next_request leaves Works old leaf request change fault)
  next_silent leaf request change (Some fault) = refl
  next_silent leaf request change None =
      accepts_silent (record { origin = leaf; request = request; change = change })
      (replied leaves Works old leaf request (Taken (version_of old.kept + 1))) old.loose

  repeats_silent : (leaf request : ℕ) (reply : Option Reply) → IsSilent (repeats leaves Works old leaf request reply)
  repeats_silent leaf request None = refl
  repeats_silent leaf request (Some reply) = refl

  placed_silent : (leaf request : ℕ) (change : UserChange) (kept : List Reply) (place : Place)
      → IsSilent (request_placed leaves Works old leaf request change kept place)
  placed_silent leaf request change kept Below = repeats_silent leaf request (reply_to request kept)
  placed_silent leaf request change kept Same = repeats_silent leaf request (reply_to request kept)
  placed_silent leaf request change kept Next = next_silent leaf request change (refusal old.kept.records change)
  placed_silent leaf request change kept Above = refl

  request_silent : (leaf request : ℕ) (change : UserChange) (place : Option (List Reply)) → IsSilent (request_of leaves Works old leaf request change place)
  request_silent leaf request change None = refl
  request_silent leaf request change (Some kept) = placed_silent leaf request change kept (place_of request (last_request kept))

  hello_silent : (leaf version : ℕ) (below : Bool) → IsSilent (hello_served leaves Works old leaf version below)
  hello_silent leaf version true = refl
  hello_silent leaf version false = refl

  met_silent : (leaf version : ℕ) → IsSilent (hello_met leaves Works old leaf version)
  met_silent leaf version =
      silent_if (is_no_leaf leaves leaf || nat_lt (version_of old.kept) version) (noted Stray old)
      (hello_served leaves Works old leaf version (nat_lt version old.kept.floor)) refl
      (hello_silent leaf version (nat_lt version old.kept.floor))

  passed_stays : (from to : ℕ) (text : List ℕ) → (text_passed leaves Works old from to text).after ≡ old
  passed_stays from zero text = refl
  passed_stays from (suc to) text = refl

  hub_text : (packet : Packet) (saying : Saying) → saying_of (hub_received leaves Works old packet).told ≡ Some saying
      → IsOfText (λ how. hub_received leaves how old packet) old
  hub_text (Hello layout leaf version) saying is =
      absurd (brings_none old.down old (hub_received_up leaves Works old (Hello layout leaf version)) saying
      (silent_if (layout == LAYOUT) (hello_met leaves Works old leaf version) (refused OtherLayout old)
      (met_silent leaf version) refl) is)
  hub_text (Request leaf request change) saying is =
      absurd (brings_none old.down old (hub_received_up leaves Works old (Request leaf request change)) saying
      (silent_if (request == 0) (noted Stray old) (request_of leaves Works old leaf request change (item_at old.kept.replies leaf)) refl
      (request_silent leaf request change (item_at old.kept.replies leaf))) is)
  hub_text (BotText from to text) saying is = (
    stays_if old.down (refused Down old) (hub_received_up leaves Works old (BotText from to text)) old refl
        (stays_if (nat_lt leaves from || nat_lt leaves to) (noted Stray old) (text_passed leaves Works old from to text) old refl
        (passed_stays from to text)),
    λ how. refl,
  )
  hub_text (Change number origin request change) saying is = absurd (brings_none old.down old (noted Stray old) saying refl is)
  hub_text (accepted_packet leaf request number) saying is = absurd (brings_none old.down old (noted Stray old) saying refl is)
  hub_text (refused_packet leaf request fault) saying is = absurd (brings_none old.down old (noted Stray old) saying refl is)
  hub_text (Part version part count items) saying is = absurd (brings_none old.down old (noted Stray old) saying refl is)

-- ---- a leaf

module _ (leaves number : ℕ) (old : Leaf) where
  applied_silent : (change : UserChange) (fault : Option ChangeFault) → IsSilent (next_applied leaves number Works old change fault)
  applied_silent change (Some fault) = refl
  applied_silent change None = refl

  change_silent : (change : UserChange) (place : Place) → IsSilent (change_placed leaves number Works old change place)
  change_silent change Below = refl
  change_silent change Same = refl
  change_silent change Next = applied_silent change (refusal old.kept.records change)
  change_silent change Above = refl

  taken_silent : (request : ℕ) (answer : Verdict) (is_out : Bool) → IsSilent (reply_taken leaves number Works old request answer is_out)
  taken_silent request answer false = refl
  taken_silent request (Taken n) true = refl
  taken_silent request (refused_request fault) true = refl

  reply_silent : (leaf request : ℕ) (answer : Verdict) → IsSilent (reply_received leaves number Works old leaf request answer)
  reply_silent leaf request answer =
      silent_if (not (leaf == number) || (request == 0)) (noted Stray old) _ refl (taken_silent request answer (is_out request old.kept.out))

  installed_silent : (version : ℕ) (records : Records) (fault : Option ChangeFault) → IsSilent (installed leaves number Works old version records fault)
  installed_silent version records (Some fault) = refl
  installed_silent version records None =
      silent_if (nat_lt old.kept.generation last_number)
      (journals leaf_folded Works old (Install version records) (Installed version) [] (record old.loose { parts = None }))
      (refused NumbersSpent old) refl refl

  set_silent : (part : ℕ) (set : PartSet) (items : Option (List Record)) → IsSilent (set_taken leaves number Works old part set items)
  set_silent part set None = refl
  set_silent part set (Some items) =
      installed_silent set.version (records_from items) (records_fault (records_from items).users (records_from items).bans)

  part_silent : (part : ℕ) (set : PartSet) → IsSilent (part_taken leaves number Works old part set)
  part_silent part set = set_silent part set (joined set.parts)

  leaf_text : (packet : Packet) (saying : Saying) → saying_of (leaf_received leaves number Works old packet).told ≡ Some saying
      → IsOfText (λ how. leaf_received leaves number how old packet) old
  leaf_text (Change n origin request change) saying is =
      absurd (brings_none old.down old (change_placed leaves number Works old change (place_of n old.kept.version)) saying
      (change_silent change (place_of n old.kept.version)) is)
  leaf_text (accepted_packet leaf request n) saying is =
      absurd (brings_none old.down old (reply_received leaves number Works old leaf request (Taken n)) saying
      (reply_silent leaf request (Taken n)) is)
  leaf_text (refused_packet leaf request fault) saying is =
      absurd (brings_none old.down old (reply_received leaves number Works old leaf request (refused_request fault)) saying
      (reply_silent leaf request (refused_request fault)) is)
  leaf_text (Part version part count items) saying is =
      let set = with_part (set_for old.loose.parts version count) part items in
      absurd (brings_none old.down old (leaf_received_up leaves number Works old (Part version part count items)) saying
      (silent_if ((part == 0) || nat_lt count part) (noted Stray old)
      (if nat_le version old.kept.version || is_behind version old.loose.parts then noted Old old else part_taken leaves number Works old part set) refl
      (silent_if (nat_le version old.kept.version || is_behind version old.loose.parts) (noted Old old) (part_taken leaves number Works old part set) refl
      (part_silent part set))) is)
  leaf_text (BotText from to text) saying is = (
    stays_if old.down (refused Down old) (leaf_received_up leaves number Works old (BotText from to text)) old refl
        (stays_if (nat_lt leaves from || not (to == number)) (noted Stray old) (noted (Text from text) old) old refl refl),
    λ how. refl,
  )
  leaf_text (Hello layout leaf version) saying is = absurd (brings_none old.down old (noted Stray old) saying refl is)
  leaf_text (Request leaf request change) saying is = absurd (brings_none old.down old (noted Stray old) saying refl is)

-- ---- any bot

-- a packet that brings a text to a bot leaves its end of the link as it was, whatever its disks do
pub end_text : (leaves number : ℕ) (end : End) (packet : Packet) (saying : Saying)
    → saying_of (end_received leaves number Works end packet).told ≡ Some saying
    → IsOfText (λ how. end_received leaves number how end packet) end
end_text leaves number (AtHub hub) packet saying is =
    let one = hub_text leaves hub packet saying is in (ap (λ (h : Hub). AtHub h) one.0, one.1)
end_text leaves number (AtLeaf leaf) packet saying is =
    let one = leaf_text leaves number leaf packet saying is in (ap (λ (l : Leaf). AtLeaf l) one.0, one.1)
