-- A hub and a leaf that know one secret understand each other.
use Rattle.std.proofs.Common.{◌≡◌, ◌==◌, ℕ, suc, ◌+◌, ◌-◌, ◌<◌, ◌≤◌, ◌^◌, Bool, true, not, if◌then◌else◌}
use Rattle.std.proofs.Common.{List, ◌∷◌, ◌++◌, length, take, position, codes, decimal, Option, Some, None, refl, sym, ap, ◌∙◌, arith}
use Rattle.std.proofs.Common.{append_assoc, length-append}
use Rattle.std.specs.List.{list_all}
use Rattle.std.specs.Str.{bytes_eq}
use Rattle.std.proofs.Math.Seq.{take-append_seam, take-append-add}
use Rattle.std.proofs.lemmas.Bool.{and_parts}
use Rattle.std.proofs.lemmas.Bool.Decides.{Decides-eqb}
use Rattle.std.proofs.lemmas.Fmt.{length-decimal-le}
use Rattle.std.proofs.lemmas.List.Folds.{list_all-append}
use Rattle.std.proofs.lemmas.Slice.Eq.{bytes_eq-Decides}
use Rattle.handshake.specs.declared.fault.HandshakeFault.TheVariants.{Told, OtherNet, WrongCode, NoSuchLeaf}
use Rattle.handshake.specs.declared.progress.Progress.{Progress}
use Rattle.handshake.specs.declared.progress.LeafRights.{LeafRights}
use Rattle.handshake.specs.declared.progress.LeafRights.TheVariants.{Asks as may_ask, Reads, Persons}
use Rattle.handshake.specs.declared.reading.HubSaid.TheVariants.{Welcome, No}
use Rattle.handshake.specs.declared.refusal.HandshakeRefusal.{HandshakeRefusal}
use Rattle.handshake.specs.declared.refusal.HandshakeRefusal.TheVariants.{Heir, Net, Count, Other, Ahead, Records, Older}
use Rattle.handshake.specs.declared.sides.LeafWords.{LeafWords}
use Rattle.handshake.specs.declared.sides.HubAnswer.{HubAnswer}
use Rattle.handshake.specs.declared.hub_side.HubSide.{HubSide}
use Rattle.handshake.specs.declared.hub_side.HubHears.TheVariants.{Asks, Refused as not_heard}
use Rattle.handshake.specs.declared.leaf_side.LeafSide.{LeafSide}
use Rattle.handshake.specs.declared.leaf_side.LeafHears.TheVariants.{Answers, Joined, Refused}
use Rattle.handshake.specs.Digits.{is_digit, are_digits}
use Rattle.handshake.specs.Keys.{leaf_key, link_keys}
use Rattle.handshake.specs.Lines.{greeting, hub_code, hub_front, leaf_code, leaf_line, leaf_text, line_feed, net_word, no_code, no_front, refusal_word, rights_word}
use Rattle.handshake.specs.Meetings.{AreProgress, AreWords, IsAnswer, IsNet, Meet, ask_of}
use Rattle.handshake.specs.Nets.{may_be_of}
use Rattle.handshake.specs.Reading.{ask_in, hub_said_in, line_len}
use Rattle.handshake.specs.Sides.{hears_greeting, hears_hub, hub_answer, hub_hears, hub_hears_ask, hub_hears_line, hub_keys, leaf_hears, leaf_hears_line, leaf_hears_next, leaf_keys, leaf_words, refusal_line, shows_code, welcome_line}
use Rattle.handshake.proofs.HashLemmas.{are_digits-code}
use Rattle.handshake.proofs.TextLemmas.{hub_front-words, hub_heard, leaf_read, leaf_text-words, no_front-words, no_heard}
use Rattle.handshake.proofs.WordLemmas.{are_digits-all, decimal-digits, digits-inside, digits_in-digits, is_inside, line_end}

-- ---- a line that is short enough, and what comes after it

-- it has no line feed, and fewer than 200 bytes
pub record IsShort (line : List ℕ) : Type 0 where
  pub inside : list_all is_inside line ≡ true
  pub short : length line < 200

line_len-line : (line more : List ℕ) → IsShort line → line_len (line ++ 10 ∷ more) ≡ Some (length line)
line_len-line line more is =
    let left : ℕ = 199 - length line in
    let room : 200 ≡ length line + suc left = omega (arith, is.short) in
    ap (λ n. position (λ b. b == 10) (take n (line ++ 10 ∷ more))) room
    ∙ ap (position (λ b. b == 10)) (take-append-add line (10 ∷ more) (suc left)) ∙ line_end line (take left more) is.inside

-- ---- the parts of lines

digits-length : (count : ℕ) (word : List ℕ) → are_digits count word ≡ true → length word ≡ count
digits-length count word are = (Decides-eqb (length word) count).0 (and_parts (length word == count) (list_all is_digit word) are).0

digits-in : (count : ℕ) (word : List ℕ) → are_digits count word ≡ true → list_all is_inside word ≡ true
digits-in count word are = digits-inside word (are_digits-all count word are)

number-in : (n : ℕ) → n < 2 ^ 32 → list_all is_inside (decimal n) ≡ true
number-in n small = digits-inside (decimal n) (decimal-digits n (omega arith))

number-length : (n : ℕ) → n < 2 ^ 32 → length (decimal n) ≤ 10
number-length n small = length-decimal-le 10 n (omega arith) (omega arith) (omega arith)

net-in : (net : Option (List ℕ)) → IsNet net → list_all is_inside (net_word net) ≡ true
net-in None is = refl
net-in (Some net) is = digits-in 16 net is

net-length : (net : Option (List ℕ)) → IsNet net → length (net_word net) ≤ 16
net-length None is = omega arith
net-length (Some net) is = omega (arith, digits-length 16 net is)

rights-in : (may : LeafRights) → list_all is_inside (rights_word may) ≡ true
rights-in may_ask = refl
rights-in Reads = refl
rights-in Persons = refl

rights-length : (may : LeafRights) → length (rights_word may) ≤ 7
rights-length may_ask = omega arith
rights-length Reads = omega arith
rights-length Persons = omega arith

refusal-in : (refusal : HandshakeRefusal) → list_all is_inside (refusal_word refusal) ≡ true
refusal-in Heir = refl
refusal-in Net = refl
refusal-in Count = refl
refusal-in Other = refl
refusal-in Ahead = refl
refusal-in Records = refl
refusal-in Older = refl

refusal-length : (refusal : HandshakeRefusal) → length (refusal_word refusal) ≤ 7
refusal-length Heir = omega arith
refusal-length Net = omega arith
refusal-length Count = omega arith
refusal-length Other = omega arith
refusal-length Ahead = omega arith
refusal-length Records = omega arith
refusal-length Older = omega arith

-- ---- each line is short

leaf_short : (words : LeafWords) (code : List ℕ) → AreWords words → are_digits 64 code ≡ true → IsShort (leaf_text words code)
leaf_short words code are digits =
    let a = number-in words.leaf (omega (arith, are.leaf)) in
    let b = number-in words.leaves (omega (arith, are.leaves)) in
    let c = net-in words.net are.net in
    let d = digits-in 16 words.made are.made in
    let e = number-in words.progress.version are.progress.version in
    let f = digits-in 16 words.progress.sum are.progress.sum in
    let g = number-in words.progress.last are.progress.last in
    let h = digits-in 32 words.nonce are.nonce in
    let i = digits-in 64 code digits in
    let parts : length (leaf_text words code)
    ≡ 13 + length (decimal words.leaf) + length (decimal words.leaves) + length (net_word words.net) + length words.made
    + length (decimal words.progress.version) + length words.progress.sum + length (decimal words.progress.last) + length words.nonce + length code =
    simp length-append (omega arith) in
    record {
      inside = simp (list_all-append, a, b, c, d, e, f, g, h, i);
      short = omega (
        arith,
        parts,
        number-length words.leaf (omega (arith, are.leaf)),
        number-length words.leaves (omega (arith, are.leaves)),
        net-length words.net are.net,
        digits-length 16 words.made are.made,
        number-length words.progress.version are.progress.version,
        digits-length 16 words.progress.sum are.progress.sum,
        number-length words.progress.last are.progress.last,
        digits-length 32 words.nonce are.nonce,
        digits-length 64 code digits,
      );
    }

hub_short : (answer : HubAnswer) (code : List ℕ) → IsAnswer answer → are_digits 64 code ≡ true → IsShort (hub_front answer ++ codes " " ++ code)
hub_short answer code are digits =
    let a = digits-in 16 answer.net are.net in
    let b = number-in answer.progress.version are.progress.version in
    let c = digits-in 16 answer.progress.sum are.progress.sum in
    let d = number-in answer.progress.last are.progress.last in
    let e = rights-in answer.may in
    let f = digits-in 64 code digits in
    let parts : length (hub_front answer ++ codes " " ++ code)
    ≡ 9 + length answer.net + length (decimal answer.progress.version) + length answer.progress.sum + length (decimal answer.progress.last)
    + length (rights_word answer.may) + length code =
    simp length-append (omega arith) in
    record {
      inside = simp (list_all-append, a, b, c, d, e, f);
      short = omega (
        arith,
        parts,
        digits-length 16 answer.net are.net,
        number-length answer.progress.version are.progress.version,
        digits-length 16 answer.progress.sum are.progress.sum,
        number-length answer.progress.last are.progress.last,
        rights-length answer.may,
        digits-length 64 code digits,
      );
    }

no_short : (refusal : HandshakeRefusal) (code : List ℕ) → are_digits 64 code ≡ true → IsShort (no_front refusal ++ codes " " ++ code)
no_short refusal code digits =
    let a = refusal-in refusal in
    let b = digits-in 64 code digits in
    let parts : length (no_front refusal ++ codes " " ++ code) ≡ 4 + length (refusal_word refusal) + length code = simp length-append (omega arith) in
    record {
      inside = simp (list_all-append, a, b);
      short = omega (arith, parts, refusal-length refusal, digits-length 64 code digits);
    }

greeting_short : (nonce : List ℕ) → are_digits 32 nonce ≡ true → IsShort (codes "eggnet 2 " ++ nonce)
greeting_short nonce are = record {
  inside = digits-in 32 nonce are;
  short = omega (arith, digits-length 32 nonce are, length-append (codes "eggnet 2 ") nonce);
}

-- ---- the hub hears a leaf

same_code : (code : List ℕ) → bytes_eq code code ≡ true
same_code code = (bytes_eq-Decides code code).1 refl

pub asks : (hub : HubSide) (leaf : LeafSide) (more : List ℕ) → Meet hub leaf
    → hub_hears hub (leaf_line leaf.key (leaf_words leaf) hub.nonce ++ more)
    ≡ Asks (length (leaf_line leaf.key (leaf_words leaf) hub.nonce)) (ask_of leaf hub.nonce)
asks hub leaf more meet =
    let words : LeafWords = leaf_words leaf in
    let code : List ℕ = leaf_code leaf.key words hub.nonce in
    let digits = are_digits-code leaf.key (leaf_text words hub.nonce) in
    let line : List ℕ = leaf_text words code in
    let is = leaf_short words code meet.words digits in
    let heard : line ++ line_feed ++ more ≡ line ++ 10 ∷ more = append_assoc line line_feed more in
    let said : ask_in line ≡ Some (ask_of leaf hub.nonce) =
    ap ask_in (leaf_text-words words code) ∙ leaf_read 64 words code meet.words digits in
    let shown : shows_code hub (ask_of leaf hub.nonce) ≡ true =
    ap (λ key. bytes_eq code (leaf_code key words hub.nonce)) (sym meet.key) ∙ same_code code in
    ap (hub_hears hub) heard
    ∙ ap (hub_hears_line hub (line ++ 10 ∷ more)) (line_len-line line more is)
    ∙ ap (λ l. hub_hears_ask hub (length line + 1) l (ask_in l)) (take-append_seam line (10 ∷ more))
    ∙ ap (hub_hears_ask hub (length line + 1) line) said
    ∙ ap (λ (b : Bool). if not b then not_heard NoSuchLeaf else if not (shows_code hub (ask_of leaf hub.nonce)) then not_heard WrongCode else Asks (length line + 1) (ask_of leaf hub.nonce)) meet.number
    ∙ ap (λ (b : Bool). if not b then not_heard WrongCode else Asks (length line + 1) (ask_of leaf hub.nonce)) shown
    ∙ ap (λ n. Asks n (ask_of leaf hub.nonce)) (sym (length-append line line_feed))

-- ---- a leaf hears the hub

-- a line that a leaf hears after another, or first
heard_next : (leaf : LeafSide) (line more : List ℕ) → IsShort line
    → leaf_hears leaf (line ++ line_feed ++ more) ≡ leaf_hears_next leaf (length (line ++ line_feed)) line leaf.greeted
heard_next leaf line more is =
    ap (leaf_hears leaf) (append_assoc line line_feed more)
    ∙ ap (leaf_hears_line leaf (line ++ 10 ∷ more)) (line_len-line line more is)
    ∙ ap (λ l. leaf_hears_next leaf (length line + 1) l leaf.greeted) (take-append_seam line (10 ∷ more))
    ∙ ap (λ n. leaf_hears_next leaf n line leaf.greeted) (sym (length-append line line_feed))

pub greets : (leaf : LeafSide) (nonce more : List ℕ) → leaf.greeted ≡ None → are_digits 32 nonce ≡ true
    → leaf_hears leaf (greeting nonce ++ more) ≡ Answers (length (greeting nonce)) (leaf_line leaf.key (leaf_words leaf) nonce)
greets leaf nonce more none are =
    heard_next leaf (codes "eggnet 2 " ++ nonce) more (greeting_short nonce are)
    ∙ ap (leaf_hears_next leaf (length (greeting nonce)) (codes "eggnet 2 " ++ nonce)) none
    ∙ ap (hears_greeting leaf (length (greeting nonce)) (codes "eggnet 2 " ++ nonce)) (digits_in-digits 32 nonce are)

module _ (hub : HubSide) (leaf : LeafSide) (meet : Meet hub leaf) where
  pub joins : (own : Progress) (may : LeafRights) (more : List ℕ) → AreProgress own → may_be_of hub.net leaf.net ≡ true
      → leaf_hears leaf (welcome_line hub (ask_of leaf hub.nonce) own may ++ more)
      ≡ Joined (length (welcome_line hub (ask_of leaf hub.nonce) own may)) (hub_answer hub own may) (hub_keys hub (ask_of leaf hub.nonce) own may)
  joins own may more are net =
      let answer : HubAnswer = hub_answer hub own may in
      let key : List ℕ = leaf_key hub.key leaf.leaf in
      let code : List ℕ = hub_code key answer leaf.nonce hub.nonce in
      let good : IsAnswer answer = record { net = meet.net; progress = are } in
      let digits = are_digits-code key _ in
      let line : List ℕ = hub_front answer ++ codes " " ++ code in
      let used : ℕ = length (line ++ line_feed) in
      let said : hub_said_in line ≡ Some (Welcome answer code) =
      ap hub_said_in (hub_front-words answer code) ∙ hub_heard answer code good digits in
      let shown : bytes_eq code (hub_code leaf.key answer leaf.nonce hub.nonce) ≡ true =
      ap (λ k. bytes_eq code (hub_code k answer leaf.nonce hub.nonce)) meet.key ∙ same_code code in
      heard_next leaf line more (hub_short answer code good digits)
      ∙ ap (leaf_hears_next leaf used line) meet.greeted
      ∙ ap (hears_hub leaf used hub.nonce) said
      ∙ ap (λ (b : Bool). if not b then Refused WrongCode else if not (may_be_of answer.net leaf.net) then Refused OtherNet else Joined used answer (leaf_keys leaf hub.nonce code)) shown
      ∙ ap (λ (b : Bool). if not b then Refused OtherNet else Joined used answer (leaf_keys leaf hub.nonce code)) net
      ∙ ap (λ k. Joined used answer (link_keys k (leaf_code leaf.key (leaf_words leaf) hub.nonce) code)) meet.key

  pub learns : (refusal : HandshakeRefusal) (more : List ℕ)
      → leaf_hears leaf (refusal_line hub (ask_of leaf hub.nonce) refusal ++ more) ≡ Refused (Told refusal)
  learns refusal more =
      let key : List ℕ = leaf_key hub.key leaf.leaf in
      let code : List ℕ = no_code key refusal leaf.nonce hub.nonce in
      let digits = are_digits-code key _ in
      let line : List ℕ = no_front refusal ++ codes " " ++ code in
      let used : ℕ = length (line ++ line_feed) in
      let said : hub_said_in line ≡ Some (No refusal code) =
      ap hub_said_in (no_front-words refusal code) ∙ no_heard refusal code digits in
      let shown : bytes_eq code (no_code leaf.key refusal leaf.nonce hub.nonce) ≡ true =
      ap (λ k. bytes_eq code (no_code k refusal leaf.nonce hub.nonce)) meet.key ∙ same_code code in
      heard_next leaf line more (no_short refusal code digits)
      ∙ ap (leaf_hears_next leaf used line) meet.greeted
      ∙ ap (hears_hub leaf used hub.nonce) said
      ∙ ap (λ (b : Bool). Refused (if b then Told refusal else WrongCode)) shown
