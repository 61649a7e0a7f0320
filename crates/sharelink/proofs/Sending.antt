-- Packets one after another, and the shapes of those that a hub sends.
use Rattle.std.proofs.Common.{◌≡◌, ◌<◌, ◌≤◌, ◌+◌, ◌-◌, ◌*◌, ℕ, zero, suc, List, [], ◌∷◌, ◌++◌, length, take, drop, get_or, Result, Ok, Err, IfOk, refl, sym, ap, subst, ◌∙◌, append_assoc, arith, add-one}
use Rattle.std.proofs.lemmas.List.{append-nil}
use Rattle.std.proofs.Math.Seq.{drop-cons}
use Rattle.std.specs.List.{AllByRecursion}
use Rattle.usercodec.specs.declared.records.Record.{Record}
use Rattle.usercodec.specs.Records.{IsGoodRecord}
use Rattle.sharewire.specs.declared.packet.Packet.{Packet as WirePacket}
use Rattle.sharewire.specs.declared.packet.Packet.TheVariants as wire
use Rattle.protocol.specs.Packets.{Packet, Outgoing as Sent, AcceptedChange, from_wire, change_packet, to_each, numbered_from}
use Rattle.protocol.specs.Packets.Packet.{Hello, Change, Request, Accepted, Refused, BotText, Part}
use Rattle.protocol.specs.HubRules.{HubState, version_of, changes_from, parts_from}
use Rattle.protocol.specs.Snapshots.{items_of, part_count, part_of}
use Rattle.sharelink.specs.declared.answer.Outgoing.{Outgoing}
use Rattle.sharelink.specs.Calls.{outgoing_of, outgoings_of}
use Rattle.sharelink.specs.Shapes.{HasGoodRecords, AreGood}
use Rattle.sharelink.proofs.OutgoingLemmas.{outgoings-append}
use Rattle.sharelink.specs.HubLinks.{told_before, told_accepted}

-- ---- one after another

pub outgoings-length : (xs : List Outgoing) → length (outgoings_of xs) ≡ length xs
outgoings-length [] = refl
outgoings-length (x ∷ xs) = ap suc (outgoings-length xs)

-- one more, of those that are left
pub sent-more : (old new : List Outgoing) (out : Outgoing) (sent : Sent) (rest all : List Sent) → new ≡ old ++ out ∷ [] → outgoing_of out ≡ sent
    → outgoings_of old ++ (sent ∷ rest) ≡ all → outgoings_of new ++ rest ≡ all
sent-more old new out sent rest all pushed is so_far =
    ap (λ l. outgoings_of l ++ rest) pushed ∙ ap (λ l. l ++ rest) (outgoings-append old (out ∷ []))
    ∙ append_assoc (outgoings_of old) (outgoing_of out ∷ []) rest ∙ ap (λ s. outgoings_of old ++ (s ∷ rest)) is ∙ so_far

-- none are left
none-left : (front rest all : List Sent) → rest ≡ [] → front ++ rest ≡ all → front ≡ all
none-left front rest all none is = sym (append-nil front) ∙ ap (λ l. front ++ l) (sym none) ∙ is

-- ---- one packet to each

each-next : (first left more : ℕ) (packet : Packet) → left ≡ suc more
    → to_each first left packet ≡ record { to = first; packet = packet } ∷ to_each (first + 1) more packet
each-next first left more packet is = rw is refl

pub each-more : (packet : Packet) (old new : List Outgoing) (out : Outgoing) (place leaves : ℕ) (all : List Sent) → place < leaves
    → new ≡ old ++ out ∷ [] → outgoing_of out ≡ record { to = place + 1; packet = packet }
    → outgoings_of old ++ to_each (place + 1) (leaves - place) packet ≡ all
    → outgoings_of new ++ to_each (place + 1 + 1) (leaves - (place + 1)) packet ≡ all
each-more packet old new out place leaves all within pushed is so_far =
    sent-more old new out _ (to_each (place + 1 + 1) (leaves - (place + 1)) packet) all pushed is
    (ap (λ l. outgoings_of old ++ l) (sym (each-next (place + 1) (leaves - place) (leaves - (place + 1)) packet (omega (arith, within)))) ∙ so_far)

each-length : (first count : ℕ) (packet : Packet) → length (to_each first count packet) ≡ count
each-length first zero packet = refl
each-length first (suc count) packet = ap suc (each-length (first + 1) count packet)

-- ---- changes on from a version

pub numbered-more : (leaf number : ℕ) (entries : List AcceptedChange) (index : ℕ) (entry : AcceptedChange) (old new : List Outgoing) (out : Outgoing)
    (all : List Sent) → index < length entries → entry ≡ get_or entries index entry → new ≡ old ++ out ∷ []
    → outgoing_of out ≡ record { to = leaf; packet = change_packet (number + 1) entry }
    → outgoings_of old ++ numbered_from leaf number (drop index entries) ≡ all
    → outgoings_of new ++ numbered_from leaf (number + 1) (drop (index + 1) entries) ≡ all
numbered-more leaf number entries index entry old new out all within at pushed is so_far =
    sent-more old new out _ (numbered_from leaf (number + 1) (drop (index + 1) entries)) all pushed is
    (ap (λ l. outgoings_of old ++ numbered_from leaf number l) (sym first) ∙ so_far)
  where
    first : drop index entries ≡ entry ∷ drop (index + 1) entries
    first = rw (add-one) (drop-cons entries index entry within ∙ ap (λ e. e ∷ drop (suc index) entries) (sym at))

-- ---- records in parts

parts-next : (hub : HubState) (leaf first left more : ℕ) → left ≡ suc more → parts_from hub leaf first left
    ≡ record { to = leaf; packet = Part (version_of hub) first (part_count hub.records) (part_of hub.records first) } ∷ parts_from hub leaf (first + 1) more
parts-next hub leaf first left more is = rw is refl

pub part-is : (hub : HubState) (version count place : ℕ) (items records : List Record) → version ≡ version_of hub
    → count ≡ part_count hub.records → items ≡ items_of hub.records → records ≡ take 8 (drop (8 * place) items)
    → Part version (place + 1) count records ≡ Part (version_of hub) (place + 1) (part_count hub.records) (part_of hub.records (place + 1))
part-is hub version count place items records at many same cut =
    ap (λ v. Part v (place + 1) count records) at ∙ ap (λ n. Part (version_of hub) (place + 1) n records) many
    ∙ ap (λ l. Part (version_of hub) (place + 1) (part_count hub.records) l) (cut ∙ ap (λ l. take 8 (drop (8 * place) l)) same
    ∙ ap (λ n. take 8 (drop (8 * n) (items_of hub.records))) (let back : place ≡ place + 1 - 1 = omega arith in back))

pub parts-more : (hub : HubState) (leaf place count : ℕ) (old new : List Outgoing) (out : Outgoing) (all : List Sent) → place < count
    → new ≡ old ++ out ∷ []
    → outgoing_of out ≡ record { to = leaf; packet = Part (version_of hub) (place + 1) (part_count hub.records) (part_of hub.records (place + 1)) }
    → outgoings_of old ++ parts_from hub leaf (place + 1) (count - place) ≡ all
    → outgoings_of new ++ parts_from hub leaf (place + 1 + 1) (count - (place + 1)) ≡ all
parts-more hub leaf place count old new out all within pushed is so_far =
    sent-more old new out _ (parts_from hub leaf (place + 1 + 1) (count - (place + 1))) all pushed is
    (ap (λ l. outgoings_of old ++ l) (sym (parts-next hub leaf (place + 1) (count - place) (count - (place + 1)) (omega (arith, within)))) ∙ so_far)

pub parts-end : (hub : HubState) (leaf place count : ℕ) (front all : List Sent) → count ≤ place
    → front ++ parts_from hub leaf (place + 1) (count - place) ≡ all → front ≡ all
parts-end hub leaf place count front all over is =
    none-left front (parts_from hub leaf (place + 1) (count - place)) all
    (ap (λ n. parts_from hub leaf (place + 1) n) (let none : count - place ≡ 0 = omega (arith, over) in none)) is

pub parts-length : (hub : HubState) (leaf first count : ℕ) → length (parts_from hub leaf first count) ≡ count
parts-length hub leaf first zero = refl
parts-length hub leaf first (suc count) = ap suc (parts-length hub leaf (first + 1) count)

-- ---- shapes

-- the packet has no records
abbrev IsPlain : Packet → Type 0
IsPlain (Hello layout leaf version) = Unit {0}
IsPlain (Change number origin request change) = Unit {0}
IsPlain (Request leaf request change) = Unit {0}
IsPlain (Accepted leaf request number) = Unit {0}
IsPlain (Refused leaf request fault) = Unit {0}
IsPlain (BotText from to text) = Unit {0}
IsPlain (Part version part count items) = ⊥

abbrev pub ArePlain : List Sent → Type 0
ArePlain sends = AllByRecursion (λ (sent : Sent). IsPlain sent.packet) sends

plain-append : (xs ys : List Sent) → ArePlain xs → ArePlain ys → ArePlain (xs ++ ys)
plain-append [] ys first second = second
plain-append (x ∷ xs) ys first second = (first.0, plain-append xs ys first.1 second)

plain-each : (first count number : ℕ) (entry : AcceptedChange) → ArePlain (to_each first count (change_packet number entry))
plain-each first zero number entry = tt
plain-each first (suc count) number entry = (tt, plain-each (first + 1) count number entry)

pub plain-numbered : (leaf version : ℕ) (entries : List AcceptedChange) → ArePlain (numbered_from leaf version entries)
plain-numbered leaf version [] = tt
plain-numbered leaf version (entry ∷ entries) = (tt, plain-numbered leaf (version + 1) entries)

plain-before : (origin request number : ℕ) → ArePlain (told_before origin request number) × (length (told_before origin request number) ≤ 1)
plain-before zero request number = (tt, omega arith)
plain-before (suc place) request number = ((tt, tt), omega arith)

length-append : (xs ys : List Sent) → length (xs ++ ys) ≡ length xs + length ys
length-append [] ys = omega arith
length-append (x ∷ xs) ys = omega (arith, length-append xs ys)

pub plain-accepted : (leaves number : ℕ) (entry : AcceptedChange) → ArePlain (told_accepted leaves number entry)
plain-accepted leaves number entry =
    plain-append (told_before entry.origin entry.request number) _ (plain-before entry.origin entry.request number).0 (plain-each 1 leaves number entry)

pub few-accepted : (leaves number : ℕ) (entry : AcceptedChange) → length (told_accepted leaves number entry) ≤ leaves + 1
few-accepted leaves number entry =
    omega (
      arith,
      length-append (told_before entry.origin entry.request number) (to_each 1 leaves (change_packet number entry)),
      (plain-before entry.origin entry.request number).1,
      each-length 1 leaves (change_packet number entry),
    )

-- packets that have no records
pub good-plain : (packets : List Outgoing) → ArePlain (outgoings_of packets) → AreGood packets
good-plain [] plain = tt
good-plain (out ∷ packets) plain = (one out.packet plain.0, good-plain packets plain.1)
  where
    one : (packet : WirePacket) → IsPlain (from_wire packet) → HasGoodRecords packet
    one (wire.Hello layout leaf version) is = tt
    one (wire.Change number origin request change) is = tt
    one (wire.Request leaf request change) is = tt
    one (wire.Accepted leaf request number) is = tt
    one (wire.Refused leaf request fault) is = tt
    one (wire.BotText from to text) is = tt
    one (wire.Part version part count records) is = absurd is

pub goes-plain : (packets : List Outgoing) (sends : List Sent) (most : ℕ) → outgoings_of packets ≡ sends → ArePlain sends → length sends ≤ most
    → (length packets ≤ most) × AreGood packets
goes-plain packets sends most is plain few =
    (omega (arith, outgoings-length packets, ap (λ (l : List Sent). length l) is, few), good-plain packets (subst (λ (l : List Sent). ArePlain l) (sym is) plain))

-- some of these records are of good shape
good-drop : (n : ℕ) (items : List Record) → AllByRecursion IsGoodRecord items → AllByRecursion IsGoodRecord (drop n items)
good-drop zero items good = good
good-drop (suc n) [] good = tt
good-drop (suc n) (item ∷ items) good = good-drop n items good.1

good-take : (n : ℕ) (items : List Record) → AllByRecursion IsGoodRecord items → AllByRecursion IsGoodRecord (take n items)
good-take zero items good = tt
good-take (suc n) [] good = tt
good-take (suc n) (item ∷ items) good = (good.0, good-take n items good.1)

-- a part of records of good shape
part-good : (packet : WirePacket) (version part count : ℕ) (records : List Record) → from_wire packet ≡ Part version part count records
    → AllByRecursion IsGoodRecord records → HasGoodRecords packet
part-good (wire.Hello layout leaf at) version part count records is good = tt
part-good (wire.Change number origin request change) version part count records is good = tt
part-good (wire.Request leaf request change) version part count records is good = tt
part-good (wire.Accepted leaf request number) version part count records is good = tt
part-good (wire.Refused leaf request fault) version part count records is good = tt
part-good (wire.BotText from to text) version part count records is good = tt
part-good (wire.Part v p c held) version part count records is good =
    let same : held ≡ records = cc in subst (λ (l : List Record). AllByRecursion IsGoodRecord l) (sym same) good

pub good-parts : (hub : HubState) (leaf first count : ℕ) (packets : List Outgoing) → AllByRecursion IsGoodRecord (items_of hub.records)
    → outgoings_of packets ≡ parts_from hub leaf first count → AreGood packets
good-parts hub leaf first count [] good is = tt
good-parts hub leaf first zero (out ∷ packets) good is = absurd (cc)
good-parts hub leaf first (suc count) (out ∷ packets) good is = (one, good-parts hub leaf (first + 1) count packets good rest)
  where
    sent : Sent
    sent = record { to = leaf; packet = Part (version_of hub) first (part_count hub.records) (part_of hub.records first) }

    head : outgoing_of out ≡ sent
    head = cc

    rest : outgoings_of packets ≡ parts_from hub leaf (first + 1) count
    rest = cc

    one : HasGoodRecords out.packet
    one = part-good out.packet (version_of hub) first (part_count hub.records) (part_of hub.records first) (ap (λ (s : Sent). s.packet) head)
        (good-take 8 (drop (8 * (first - 1)) (items_of hub.records)) (good-drop (8 * (first - 1)) (items_of hub.records) good))

-- ---- what calls send

-- an accepted change goes to at most 1,000 leaves
pub goes-accepted : (leaves number : ℕ) (entry : AcceptedChange) (packets : List Outgoing) → leaves ≤ 1000
    → outgoings_of packets ≡ told_accepted leaves number entry → (length packets ≤ 1001) × AreGood packets
goes-accepted leaves number entry packets few is =
    goes-plain packets (told_accepted leaves number entry) 1001 is (plain-accepted leaves number entry) (omega (arith, few-accepted leaves number entry, few))

numbered-length : (leaf version : ℕ) (entries : List AcceptedChange) → length (numbered_from leaf version entries) ≡ length entries
numbered-length leaf version [] = refl
numbered-length leaf version (entry ∷ entries) = ap suc (numbered-length leaf (version + 1) entries)

take-few : {X : Type 0} (n : ℕ) (xs : List X) → length (take n xs) ≤ n
take-few zero xs = omega arith
take-few (suc n) [] = omega arith
take-few (suc n) (x ∷ xs) = omega (arith, take-few n xs)

pub goes-changes : (hub : HubState) (leaf version : ℕ) (packets : List Outgoing) → outgoings_of packets ≡ changes_from hub leaf version
    → (length packets ≤ 255) × AreGood packets
goes-changes hub leaf version packets is =
    let entries = take 16 (drop (version - hub.floor) hub.tail) in
    goes-plain packets (changes_from hub leaf version) 255 is (plain-numbered leaf version entries)
    (omega (arith, numbered-length leaf version entries, take-few 16 (drop (version - hub.floor) hub.tail)))

-- the same of what a call answers
pub changes-good : {V E : Type 0} (items : V → List Outgoing) (hub : HubState) (leaf version : ℕ) (result : Result V E)
    → IfOk result (λ v. outgoings_of (items v) ≡ changes_from hub leaf version) → IfOk result (λ v. AreGood (items v))
changes-good items hub leaf version (Ok v) is = (goes-changes hub leaf version (items v) is).1
changes-good items hub leaf version (Err e) is = tt

pub changes-few : {V E : Type 0} (items : V → List Outgoing) (hub : HubState) (leaf version : ℕ) (result : Result V E)
    → IfOk result (λ v. outgoings_of (items v) ≡ changes_from hub leaf version) → IfOk result (λ v. length (items v) ≤ 255)
changes-few items hub leaf version (Ok v) is = (goes-changes hub leaf version (items v) is).0
changes-few items hub leaf version (Err e) is = tt

pub parts-few : (hub : HubState) (leaf first count : ℕ) (packets : List Outgoing) → outgoings_of packets ≡ parts_from hub leaf first count
    → length packets ≡ count
parts-few hub leaf first count packets is =
    sym (outgoings-length packets) ∙ ap (λ (l : List Sent). length l) is ∙ parts-length hub leaf first count
