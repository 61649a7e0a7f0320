-- The packets of a piece that are handed on.
use Rattle.std.proofs.Common.{◌≡◌, ◌∙◌, ◌≤◌, ◌<◌, ◌+◌, ◌++◌, ℕ, min, Bool, true, false, not, List, [], ◌∷◌, if◌then◌else◌, refl, sym, ap, subst, arith, append_assoc, count_by}
use Rattle.std.proofs.lemmas.Bool.{and_parts}
use Rattle.std.proofs.lemmas.Bool.Decides.{nat_tests}
use Rattle.std.proofs.lemmas.List.Sums.{sum_by-cons}
use Rattle.std.specs.Prelude.{◌&&◌, ◌||◌, nat_lt, cond, Option, is_some}
use Rattle.std.specs.List.{AllByRecursion, filter, list_all}
use Rattle.sharewire.specs.declared.packet.Packet.{Packet}
use Rattle.sharewire.specs.declared.packet.Packet.TheVariants.{Hello, Change, Part, Request, Accepted, Refused, BotText}
use Rattle.sharelink.specs.Shapes.{HasGoodRecords}
use Rattle.handshake.specs.declared.progress.LeafRights.{LeafRights}
use Rattle.handshake.specs.declared.progress.LeafRights.TheVariants.{Asks, Reads, Persons}
use Rattle.peers.specs.Hearing.{handed, handed_if}
use Rattle.peers.specs.Picking.{grants, is_barred, is_hello, is_lost, is_nameless, is_ours, is_request, picked, said_after, said_by}
use Rattle.peers.specs.Speakers.{is_own}
use Rattle.peers.specs.Tells.{granted}

-- ---- one packet after another

-- what is kept after one more packet, and what is kept of the rest
pub picked_one : (lost : Bool) (may : LeafRights) (said next : Option ℕ) (kept more rest all : List Packet) (packet : Packet)
    → more ≡ (if lost then kept else kept ++ packet ∷ []) → lost ≡ is_lost may said packet (count_by is_hello rest)
    → next ≡ said_after said packet → kept ++ picked may said (packet ∷ rest) ≡ all → more ++ picked may next rest ≡ all
picked_one true may said next kept more rest all packet more_is lost_is next_is so_far =
    ap (λ l. l ++ picked may next rest) more_is ∙ ap (λ n. kept ++ picked may n rest) next_is
    ∙ ap (λ (b : Bool). kept ++ (if b then picked may (said_after said packet) rest else packet ∷ picked may (said_after said packet) rest)) lost_is
    ∙ so_far
picked_one false may said next kept more rest all packet more_is lost_is next_is so_far =
    ap (λ l. l ++ picked may next rest) more_is ∙ append_assoc kept (packet ∷ []) (picked may next rest)
    ∙ ap (λ n. kept ++ packet ∷ picked may n rest) next_is
    ∙ ap (λ (b : Bool). kept ++ (if b then picked may (said_after said packet) rest else packet ∷ picked may (said_after said packet) rest)) lost_is
    ∙ so_far

-- which layout was said after one more packet, and after the rest
pub said_one : (said next : Option ℕ) (packet : Packet) (rest : List Packet) (all : Option ℕ) → next ≡ said_after said packet
    → said_by said (packet ∷ rest) ≡ all → said_by next rest ≡ all
said_one said next packet rest all next_is so_far = ap (λ n. said_by n rest) next_is ∙ so_far

-- ---- each packet that is picked was there

either_good : (lost : Bool) (packet : Packet) (rest : List Packet) → HasGoodRecords packet → AllByRecursion HasGoodRecords rest
    → AllByRecursion HasGoodRecords (if lost then rest else packet ∷ rest)
either_good true packet rest one more = more
either_good false packet rest one more = (one, more)

pub picked_good : (may : LeafRights) (said : Option ℕ) (packets : List Packet) → AllByRecursion HasGoodRecords packets
    → AllByRecursion HasGoodRecords (picked may said packets)
picked_good may said [] good = tt
picked_good may said (packet ∷ packets) good =
    either_good (is_lost may said packet (count_by is_hello packets)) packet (picked may (said_after said packet) packets) good.0
    (picked_good may (said_after said packet) packets good.1)

either_own : (lost : Bool) (leaf : ℕ) (packet : Packet) (rest : List Packet) → is_own leaf packet ≡ true → list_all (is_own leaf) rest ≡ true
    → list_all (is_own leaf) (if lost then rest else packet ∷ rest) ≡ true
either_own true leaf packet rest one more = more
either_own false leaf packet rest one more = ap (λ b. b && list_all (is_own leaf) rest) one ∙ more

pub picked_own : (may : LeafRights) (said : Option ℕ) (leaf : ℕ) (packets : List Packet) → list_all (is_own leaf) packets ≡ true
    → list_all (is_own leaf) (picked may said packets) ≡ true
picked_own may said leaf [] own = refl
picked_own may said leaf (packet ∷ packets) own =
    let split = and_parts (is_own leaf packet) (list_all (is_own leaf) packets) own in
    either_own (is_lost may said packet (count_by is_hello packets)) leaf packet (picked may (said_after said packet) packets) split.0
    (picked_own may (said_after said packet) leaf packets split.1)

-- ---- at most one hello

count_cons : (p : Packet → Bool) (packet : Packet) (packets : List Packet)
    → count_by p (packet ∷ packets) ≡ cond (p packet) 1 0 + count_by p packets
count_cons p packet packets = sum_by-cons (λ x. cond (p x) 1 0) packet packets

kept_hello : (hello other : Bool) (n m : ℕ) → ((hello && nat_lt 0 n) || other) ≡ false → m ≤ min 1 n
    → cond hello 1 0 + m ≤ min 1 (cond hello 1 0 + n)
kept_hello false other n m kept few = omega arith
kept_hello true other n m kept few = last (nat_lt 0 n) refl kept
  where
    last : (test : Bool) → nat_lt 0 n ≡ test → (test || other) ≡ false → 1 + m ≤ min 1 (1 + n)
    last true is kept_is = absurd cc
    last false is kept_is = let none : n ≤ 0 = grind (arith, nat_tests, is) in omega (arith, none, few)

lost_hello : (hello : Bool) (n m : ℕ) → m ≤ min 1 n → m ≤ min 1 (cond hello 1 0 + n)
lost_hello true n m few = omega arith
lost_hello false n m few = omega arith

either_hello : (lost other : Bool) (packet : Packet) (n : ℕ) (rest : List Packet) → ((is_hello packet && nat_lt 0 n) || other) ≡ lost
    → count_by is_hello rest ≤ min 1 n
    → count_by is_hello (if lost then rest else packet ∷ rest) ≤ min 1 (cond (is_hello packet) 1 0 + n)
either_hello true other packet n rest is few = lost_hello (is_hello packet) n (count_by is_hello rest) few
either_hello false other packet n rest is few =
    subst (λ k. k ≤ min 1 (cond (is_hello packet) 1 0 + n)) (sym (count_cons is_hello packet rest))
    (kept_hello (is_hello packet) other n (count_by is_hello rest) is few)

hellos : (may : LeafRights) (said : Option ℕ) (packets : List Packet)
    → count_by is_hello (picked may said packets) ≤ min 1 (count_by is_hello packets)
hellos may said [] = omega arith
hellos may said (packet ∷ packets) =
    subst (λ k. count_by is_hello (picked may said (packet ∷ packets)) ≤ min 1 k) (sym (count_cons is_hello packet packets))
    (either_hello (is_lost may said packet (count_by is_hello packets)) (is_barred may said packet) packet
    (count_by is_hello packets) (picked may (said_after said packet) packets) refl (hellos may (said_after said packet) packets))

pub picked_hello : (may : LeafRights) (said : Option ℕ) (packets : List Packet) → count_by is_hello (picked may said packets) ≤ 1
picked_hello may said packets = omega (arith, hellos may said packets)

-- ---- the last hello is handed on

clear_hello : (may : LeafRights) (said : Option ℕ) (packet : Packet) → is_hello packet ≡ true → is_barred may said packet ≡ false
clear_hello may said (Hello layout leaf version) hello = refl
clear_hello may said (Change number origin request change) hello = refl
clear_hello may said (Part version part count records) hello = refl
clear_hello may said (Request leaf request change) hello = absurd cc
clear_hello may said (Accepted leaf request number) hello = refl
clear_hello may said (Refused leaf request fault) hello = refl
clear_hello may said (BotText from to text) hello = refl

left_lost : (hello barred : Bool) (n m : ℕ) → (hello ≡ true → barred ≡ false) → ((hello && nat_lt 0 n) || barred) ≡ true
    → min 1 n ≤ m → min 1 (cond hello 1 0 + n) ≤ m
left_lost false barred n m clear lost few = omega (arith, few)
left_lost true true n m clear lost few = let is : true ≡ false = clear refl in absurd cc
left_lost true false n m clear lost few = more (nat_lt 0 n) refl lost
  where
    more : (test : Bool) → nat_lt 0 n ≡ test → (test || false) ≡ true → min 1 (1 + n) ≤ m
    more true is lost_is = let some : 0 < n = grind (arith, nat_tests, is) in omega (arith, some, few)
    more false is lost_is = absurd cc

left_kept : (hello : Bool) (n m : ℕ) → min 1 n ≤ m → min 1 (cond hello 1 0 + n) ≤ cond hello 1 0 + m
left_kept true n m few = omega (arith, few)
left_kept false n m few = omega (arith, few)

either_left : (lost barred : Bool) (packet : Packet) (n : ℕ) (rest : List Packet) → (is_hello packet ≡ true → barred ≡ false)
    → ((is_hello packet && nat_lt 0 n) || barred) ≡ lost → min 1 n ≤ count_by is_hello rest
    → min 1 (cond (is_hello packet) 1 0 + n) ≤ count_by is_hello (if lost then rest else packet ∷ rest)
either_left true barred packet n rest clear is few = left_lost (is_hello packet) barred n (count_by is_hello rest) clear is few
either_left false barred packet n rest clear is few =
    subst (λ k. min 1 (cond (is_hello packet) 1 0 + n) ≤ k) (sym (count_cons is_hello packet rest))
    (left_kept (is_hello packet) n (count_by is_hello rest) few)

hellos_left : (may : LeafRights) (said : Option ℕ) (packets : List Packet)
    → min 1 (count_by is_hello packets) ≤ count_by is_hello (picked may said packets)
hellos_left may said [] = omega arith
hellos_left may said (packet ∷ packets) =
    subst (λ k. min 1 k ≤ count_by is_hello (picked may said (packet ∷ packets))) (sym (count_cons is_hello packet packets))
    (either_left (is_lost may said packet (count_by is_hello packets)) (is_barred may said packet) packet
    (count_by is_hello packets) (picked may (said_after said packet) packets) (clear_hello may said packet) refl
    (hellos_left may (said_after said packet) packets))

-- ---- no barred request

kept_not : (asks one barred : Bool) → (one || barred) ≡ false → (asks ≡ true → barred ≡ true) → asks ≡ false
kept_not false one barred kept bars = refl
kept_not true true barred kept bars = absurd cc
kept_not true false true kept bars = absurd cc
kept_not true false false kept bars = let is : false ≡ true = bars refl in absurd cc

-- a packet of which it is known that it is barred is not kept
either_none : (p : Packet → Bool) (lost one barred : Bool) (packet : Packet) (rest : List Packet) → (one || barred) ≡ lost
    → (p packet ≡ true → barred ≡ true) → count_by p rest ≡ 0 → count_by p (if lost then rest else packet ∷ rest) ≡ 0
either_none p true one barred packet rest is bars none = none
either_none p false one barred packet rest is bars none =
    let asks : p packet ≡ false = kept_not (p packet) one barred is bars in
    let test = ap (λ (b : Bool). cond {A = ℕ} b 1 0) asks in
    omega (arith, count_cons p packet rest, test, none)

none_of : (p : Packet → Bool) (may : LeafRights) (said : Option ℕ) (packets : List Packet)
    → ((said : Option ℕ) (packet : Packet) → p packet ≡ true → is_barred may said packet ≡ true)
    → count_by p (picked may said packets) ≡ 0
none_of p may said [] bars = refl
none_of p may said (packet ∷ packets) bars =
    either_none p (is_lost may said packet (count_by is_hello packets)) (is_hello packet && nat_lt 0 (count_by is_hello packets))
    (is_barred may said packet) packet (picked may (said_after said packet) packets) refl (bars said packet)
    (none_of p may (said_after said packet) packets bars)

-- a leaf that may only read

request_barred : (said : Option ℕ) (packet : Packet) → is_request packet ≡ true → is_barred Reads said packet ≡ true
request_barred said (Hello layout leaf version) asks = absurd cc
request_barred said (Change number origin request change) asks = absurd cc
request_barred said (Part version part count records) asks = absurd cc
request_barred said (Request leaf request change) asks = refl
request_barred said (Accepted leaf request number) asks = absurd cc
request_barred said (Refused leaf request fault) asks = absurd cc
request_barred said (BotText from to text) asks = absurd cc

pub picked_reads : (said : Option ℕ) (packets : List Packet) → count_by is_request (picked Reads said packets) ≡ 0
picked_reads said packets = none_of is_request Reads said packets request_barred

-- a leaf that asks for persons alone

neither : (named ours : Bool) → not named ≡ true → not (named && ours) ≡ true
neither true ours nameless = absurd cc
neither false ours nameless = refl

nameless_barred : (said : Option ℕ) (packet : Packet) → is_nameless packet ≡ true → is_barred Persons said packet ≡ true
nameless_barred said (Hello layout leaf version) asks = absurd cc
nameless_barred said (Change number origin request change) asks = absurd cc
nameless_barred said (Part version part count records) asks = absurd cc
nameless_barred said (Request leaf request change) asks = neither (is_some change.by) (is_ours said) asks
nameless_barred said (Accepted leaf request number) asks = absurd cc
nameless_barred said (Refused leaf request fault) asks = absurd cc
nameless_barred said (BotText from to text) asks = absurd cc

pub picked_persons : (said : Option ℕ) (packets : List Packet) → count_by is_nameless (picked Persons said packets) ≡ 0
picked_persons said packets = none_of is_nameless Persons said packets nameless_barred

-- a leaf that has said no hello of the hub's layout

unsaid : (granted ours : Bool) → ours ≡ false → not (granted && ours) ≡ true
unsaid true ours none = ap not none
unsaid false ours none = refl

layout_barred : (may : LeafRights) (said : Option ℕ) (packet : Packet) → is_ours said ≡ false → is_request packet ≡ true
    → is_barred may said packet ≡ true
layout_barred may said (Hello layout leaf version) none asks = absurd cc
layout_barred may said (Change number origin request change) none asks = absurd cc
layout_barred may said (Part version part count records) none asks = absurd cc
layout_barred may said (Request leaf request change) none asks = unsaid (grants may change) (is_ours said) none
layout_barred may said (Accepted leaf request number) none asks = absurd cc
layout_barred may said (Refused leaf request fault) none asks = absurd cc
layout_barred may said (BotText from to text) none asks = absurd cc

said_same : (said : Option ℕ) (packet : Packet) → is_hello packet ≡ false → said_after said packet ≡ said
said_same said (Hello layout leaf version) few = absurd cc
said_same said (Change number origin request change) few = refl
said_same said (Part version part count records) few = refl
said_same said (Request leaf request change) few = refl
said_same said (Accepted leaf request number) few = refl
said_same said (Refused leaf request fault) few = refl
said_same said (BotText from to text) few = refl

no_hello : (hello : Bool) (n k : ℕ) → k ≡ cond hello 1 0 + n → k ≡ 0 → (hello ≡ false) × (n ≡ 0)
no_hello true n k sum none = absurd (omega (arith, sum, none))
no_hello false n k sum none = (refl, omega (arith, sum, none))

barred_all : (may : LeafRights) (said : Option ℕ) (packets : List Packet) → is_ours said ≡ false → count_by is_hello packets ≡ 0
    → count_by is_request (picked may said packets) ≡ 0
barred_all may said [] none few = refl
barred_all may said (packet ∷ packets) none few =
    let parts = no_hello (is_hello packet) (count_by is_hello packets) (count_by is_hello (packet ∷ packets)) (count_cons is_hello packet packets) few in
    let same : said_after said packet ≡ said = said_same said packet parts.0 in
    either_none is_request (is_lost may said packet (count_by is_hello packets)) (is_hello packet && nat_lt 0 (count_by is_hello packets))
    (is_barred may said packet) packet (picked may (said_after said packet) packets) refl (layout_barred may said packet none)
    (barred_all may (said_after said packet) packets (ap is_ours same ∙ none) parts.1)

pub picked_unsaid : (may : LeafRights) (said : Option ℕ) (packets : List Packet) → is_ours said ≡ false
    → count_by is_hello (picked may said packets) ≡ 0 → count_by is_request (picked may said packets) ≡ 0
picked_unsaid may said packets none few = barred_all may said packets none (omega (arith, hellos_left may said packets, few))

-- ---- what is handed on

pub handed_good : (own : Bool) (may : LeafRights) (said : Option ℕ) (told : List Packet) → AllByRecursion HasGoodRecords told
    → AllByRecursion HasGoodRecords (handed_if own may said told)
handed_good true may said told good = picked_good may said told good
handed_good false may said told good = tt

handed_own_if : (own : Bool) (leaf : ℕ) (may : LeafRights) (said : Option ℕ) (told : List Packet) → list_all (is_own leaf) told ≡ own
    → list_all (is_own leaf) (handed_if own may said told) ≡ true
handed_own_if true leaf may said told is = picked_own may said leaf told is
handed_own_if false leaf may said told is = refl

pub handed_own : (leaf : ℕ) (may : LeafRights) (said : Option ℕ) (told : List Packet) → list_all (is_own leaf) (handed leaf may said told) ≡ true
handed_own leaf may said told = handed_own_if (list_all (is_own leaf) told) leaf may said told refl

pub handed_hello : (own : Bool) (may : LeafRights) (said : Option ℕ) (told : List Packet) → count_by is_hello (handed_if own may said told) ≤ 1
handed_hello true may said told = picked_hello may said told
handed_hello false may said told = omega arith

pub handed_reads : (own : Bool) (may : LeafRights) (said : Option ℕ) (told : List Packet) → may ≡ Reads
    → count_by is_request (handed_if own may said told) ≡ 0
handed_reads true Reads said told is = picked_reads said told
handed_reads true Asks said told is = absurd cc
handed_reads true Persons said told is = absurd cc
handed_reads false may said told is = refl

pub handed_persons : (own : Bool) (may : LeafRights) (said : Option ℕ) (told : List Packet) → may ≡ Persons
    → count_by is_nameless (handed_if own may said told) ≡ 0
handed_persons true Persons said told is = picked_persons said told
handed_persons true Asks said told is = absurd cc
handed_persons true Reads said told is = absurd cc
handed_persons false may said told is = refl

pub handed_layout : (own : Bool) (may : LeafRights) (said : Option ℕ) (told : List Packet) → is_ours said ≡ false
    → count_by is_hello (handed_if own may said told) ≡ 0 → count_by is_request (handed_if own may said told) ≡ 0
handed_layout true may said told none few = picked_unsaid may said told none few
handed_layout false may said told none few = refl

-- ---- the packets of a turn in doubt

granted_one : (test : Bool) (packet : Packet) (rest : List Packet) → HasGoodRecords packet → AllByRecursion HasGoodRecords rest
    → AllByRecursion HasGoodRecords (cond test (packet ∷ rest) rest)
granted_one true packet rest one more = (one, more)
granted_one false packet rest one more = more

filtered_good : (packets : List Packet) → AllByRecursion HasGoodRecords packets
    → AllByRecursion HasGoodRecords (filter (λ packet. not (is_request packet)) packets)
filtered_good [] good = tt
filtered_good (packet ∷ packets) good =
    granted_one (not (is_request packet)) packet (filter (λ packet. not (is_request packet)) packets) good.0 (filtered_good packets good.1)

pub granted_good : (in_doubt : Bool) (packets : List Packet) → AllByRecursion HasGoodRecords packets
    → AllByRecursion HasGoodRecords (granted in_doubt packets)
granted_good true packets good = filtered_good packets good
granted_good false packets good = good
