-- What a line says is read again, word by word.
use Rattle.std.proofs.Common.{◌≡◌, ◌==◌, ℕ, suc, ◌<◌, ◌^◌, Bool, true, false, ◌&&◌, if◌then◌else◌}
use Rattle.std.proofs.Common.{List, [], ◌∷◌, ◌++◌, length, take, drop, codes, decimal, Option, Some, None, refl, sym, ap, ◌∙◌, arith}
use Rattle.std.proofs.Common.{append_assoc}
use Rattle.std.specs.List.{list_all}
use Rattle.std.specs.Str.{bytes_eq}
use Rattle.std.proofs.lemmas.Bool.{and_parts}
use Rattle.std.proofs.lemmas.Bool.Decides.{Decides-eqb, nat_tests}
use Rattle.std.proofs.lemmas.Fmt.{decimal_nonempty}
use Rattle.std.proofs.lemmas.Slice.Eq.{bytes_eq-Decides}
use Rattle.handshake.specs.declared.progress.Progress.{Progress}
use Rattle.handshake.specs.declared.progress.LeafRights.{LeafRights}
use Rattle.handshake.specs.declared.progress.LeafRights.TheVariants.{Asks, Reads, Persons}
use Rattle.handshake.specs.declared.reading.Ask.{Ask}
use Rattle.handshake.specs.declared.reading.HubSaid.{HubSaid}
use Rattle.handshake.specs.declared.reading.HubSaid.TheVariants.{Welcome, No}
use Rattle.handshake.specs.declared.refusal.HandshakeRefusal.{HandshakeRefusal}
use Rattle.handshake.specs.declared.refusal.HandshakeRefusal.TheVariants.{Heir, Net, Count, Other, Ahead, Records, Older}
use Rattle.handshake.specs.declared.sides.LeafWords.{LeafWords}
use Rattle.handshake.specs.declared.sides.HubAnswer.{HubAnswer}
use Rattle.handshake.specs.Digits.{is_digit, are_digits, digits_in}
use Rattle.handshake.specs.Keys.{to_leaf_text, to_hub_text}
use Rattle.handshake.specs.Lines.{hub_front, leaf_text, net_word, no_front, refusal_word, rights_word, with_nonces}
use Rattle.handshake.specs.Meetings.{AreProgress, AreWords, IsAnswer, IsNet, use_of, LeafCode, HubCode, RefusalCode, ToLeafKey, ToHubKey}
use Rattle.handshake.specs.Numbers.{number_in, wide_in}
use Rattle.handshake.specs.Reading.{answer_after, asked, is_letter, net_in, progress_in, progressed, refusal_after, refusal_in, rest_of, rights_in, some_net, welcomed, word_of}
use Rattle.handshake.proofs.WordLemmas.{are_digits-all, decimal-digits, digits-letters, digits_in-digits, number_in-decimal, wide_in-decimal}
use Rattle.handshake.proofs.WordLemmas.{rest_of-word, word_of-word}

-- ---- words

number-letters : (n : ℕ) → n < 2 ^ 32 → list_all is_letter (decimal n) ≡ true
number-letters n small = digits-letters (decimal n) (decimal-digits n (omega arith))

made-letters : (count : ℕ) (word : List ℕ) → are_digits count word ≡ true → list_all is_letter word ≡ true
made-letters count word are = digits-letters word (are_digits-all count word are)

net-letters : (net : Option (List ℕ)) → IsNet net → list_all is_letter (net_word net) ≡ true
net-letters None is = refl
net-letters (Some net) is = made-letters 16 net is

rights-letters : (may : LeafRights) → list_all is_letter (rights_word may) ≡ true
rights-letters Asks = refl
rights-letters Reads = refl
rights-letters Persons = refl

refusal-letters : (refusal : HandshakeRefusal) → list_all is_letter (refusal_word refusal) ≡ true
refusal-letters Heir = refl
refusal-letters Net = refl
refusal-letters Count = refl
refusal-letters Other = refl
refusal-letters Ahead = refl
refusal-letters Records = refl
refusal-letters Older = refl

-- ---- what a word says

-- a number of a net is not -
not_none : (net : List ℕ) → are_digits 16 net ≡ true → bytes_eq net (codes "-") ≡ false
not_none net are = by (bytes_eq net (codes "-")) refl
  where
    by : (b : Bool) → bytes_eq net (codes "-") ≡ b → b ≡ false
    by true same =
        let long : length net ≡ 16 = (Decides-eqb (length net) 16).0 (and_parts (length net == 16) (list_all is_digit net) are).0 in
        absurd (omega (arith, long, ap length ((bytes_eq-Decides net (codes "-")).0 same)))
    by false same = refl

net_in-word : (net : Option (List ℕ)) → IsNet net → net_in (net_word net) ≡ Some net
net_in-word None is = refl
net_in-word (Some net) is =
    ap (λ (b : Bool). if b then Some None else some_net (digits_in 16 net)) (not_none net is) ∙ ap some_net (digits_in-digits 16 net is)

rights_in-word : (may : LeafRights) → rights_in (rights_word may) ≡ Some may
rights_in-word Asks = refl
rights_in-word Reads = refl
rights_in-word Persons = refl

refusal_in-word : (refusal : HandshakeRefusal) → refusal_in (refusal_word refusal) ≡ Some refusal
refusal_in-word Heir = refl
refusal_in-word Net = refl
refusal_in-word Count = refl
refusal_in-word Other = refl
refusal_in-word Ahead = refl
refusal_in-word Records = refl
refusal_in-word Older = refl

progress_in-words : (progress : Progress) → AreProgress progress
    → progress_in (decimal progress.version) progress.sum (decimal progress.last) ≡ Some progress
progress_in-words progress are =
    ap (λ v. progressed v (digits_in 16 progress.sum) (wide_in (decimal progress.last))) (wide_in-decimal progress.version are.version)
    ∙ ap (λ s. progressed (Some progress.version) s (wide_in (decimal progress.last))) (digits_in-digits 16 progress.sum are.sum)
    ∙ ap (λ l. progressed (Some progress.version) (Some progress.sum) l) (wide_in-decimal progress.last are.last)

-- ---- what a leaf says: eight words, and what comes after them

abbrev leaf_words_of : LeafWords → List ℕ → List ℕ
leaf_words_of words code =
    decimal words.leaf ++ 32 ∷ (decimal words.leaves ++ 32 ∷ (net_word words.net ++ 32 ∷ (words.made ++ 32 ∷ (decimal words.progress.version
    ++ 32 ∷ (words.progress.sum ++ 32 ∷ (decimal words.progress.last ++ 32 ∷ (words.nonce ++ 32 ∷ code)))))))

regroup_leaf : (s a b c d e f g h rest : List ℕ) → a ++ s ++ b ++ s ++ c ++ s ++ d ++ s ++ (e ++ s ++ f ++ s ++ g) ++ s ++ h ++ s ++ rest
    ≡ a ++ (s ++ (b ++ (s ++ (c ++ (s ++ (d ++ (s ++ (e ++ (s ++ (f ++ (s ++ (g ++ (s ++ (h ++ (s ++ rest)))))))))))))))
regroup_leaf s a b c d e f g h rest = simp append_assoc

pub leaf_text-words : (words : LeafWords) (code : List ℕ) → leaf_text words code ≡ codes "leaf " ++ leaf_words_of words code
leaf_text-words words code =
    ap (λ text. codes "leaf " ++ text)
    (regroup_leaf (codes " ") (decimal words.leaf) (decimal words.leaves) (net_word words.net) words.made (decimal words.progress.version)
    words.progress.sum (decimal words.progress.last) words.nonce code)

-- the same as `ask_after`, with so many digits after the words
abbrev read_leaf : ℕ → List ℕ → Option Ask
read_leaf count words =
    let leaves = rest_of words in
    let net = rest_of leaves in
    let made = rest_of net in
    let version = rest_of made in
    let sum = rest_of version in
    let last = rest_of sum in
    let nonce = rest_of last in
    asked (number_in (word_of words)) (number_in (word_of leaves)) (net_in (word_of net)) (digits_in 16 (word_of made))
    (progress_in (word_of version) (word_of sum) (word_of last)) (digits_in 32 (word_of nonce)) (digits_in count (rest_of nonce))

pub leaf_read : (count : ℕ) (words : LeafWords) (code : List ℕ) → AreWords words → are_digits count code ≡ true
    → read_leaf count (leaf_words_of words code) ≡ Some (record { words = words; code = code })
leaf_read count words code are digits =
    let a = number-letters words.leaf (omega (arith, are.leaf)) in
    let b = number-letters words.leaves (omega (arith, are.leaves)) in
    let c = net-letters words.net are.net in
    let d = made-letters 16 words.made are.made in
    let e = number-letters words.progress.version are.progress.version in
    let f = made-letters 16 words.progress.sum are.progress.sum in
    let g = number-letters words.progress.last are.progress.last in
    let h = made-letters 32 words.nonce are.nonce in
    rw (
      word_of-word (decimal words.leaf) _ a,
      rest_of-word (decimal words.leaf) _ a,
      word_of-word (decimal words.leaves) _ b,
      rest_of-word (decimal words.leaves) _ b,
      word_of-word (net_word words.net) _ c,
      rest_of-word (net_word words.net) _ c,
      word_of-word words.made _ d,
      rest_of-word words.made _ d,
      word_of-word (decimal words.progress.version) _ e,
      rest_of-word (decimal words.progress.version) _ e,
      word_of-word words.progress.sum _ f,
      rest_of-word words.progress.sum _ f,
      word_of-word (decimal words.progress.last) _ g,
      rest_of-word (decimal words.progress.last) _ g,
      word_of-word words.nonce code h,
      rest_of-word words.nonce code h,
      number_in-decimal words.leaf are.leaf,
      number_in-decimal words.leaves are.leaves,
      net_in-word words.net are.net,
      digits_in-digits 16 words.made are.made,
      progress_in-words words.progress are.progress,
      digits_in-digits 32 words.nonce are.nonce,
      digits_in-digits count code digits,
    ) refl

-- the words and the nonce of a text are its own
pub leaf_one_reading : (a b : LeafWords) (m n : List ℕ) → AreWords a → AreWords b → are_digits 32 m ≡ true → are_digits 32 n ≡ true
    → leaf_text a m ≡ leaf_text b n → (a ≡ b) × (m ≡ n)
leaf_one_reading a b m n good other first second same =
    let words : leaf_words_of a m ≡ leaf_words_of b n =
    ap (drop 5) (sym (leaf_text-words a m) ∙ same ∙ leaf_text-words b n) in
    let one : Ask = record { words = a; code = m } in
    let two : Ask = record { words = b; code = n } in
    let reading : Some one ≡ Some two =
    sym (leaf_read 32 a m good first) ∙ ap (read_leaf 32) words ∙ leaf_read 32 b n other second in
    let ask : one ≡ two = cc in
    (ap (λ (s : Ask). s.words) ask, ap (λ (s : Ask). s.code) ask)

-- ---- what a hub says: five words, and what comes after them

abbrev hub_words_of : HubAnswer → List ℕ → List ℕ
hub_words_of answer rest =
    answer.net ++ 32 ∷ (decimal answer.progress.version ++ 32 ∷ (answer.progress.sum ++ 32 ∷ (decimal answer.progress.last
    ++ 32 ∷ (rights_word answer.may ++ 32 ∷ rest))))

regroup_hub : (s a b c d e rest : List ℕ) → a ++ s ++ (b ++ s ++ c ++ s ++ d) ++ s ++ e ++ s ++ rest
    ≡ a ++ (s ++ (b ++ (s ++ (c ++ (s ++ (d ++ (s ++ (e ++ (s ++ rest)))))))))
regroup_hub s a b c d e rest = simp append_assoc

pub hub_front-words : (answer : HubAnswer) (rest : List ℕ) → hub_front answer ++ codes " " ++ rest ≡ codes "hub " ++ hub_words_of answer rest
hub_front-words answer rest =
    ap (λ text. codes "hub " ++ text)
    (regroup_hub (codes " ") answer.net (decimal answer.progress.version) answer.progress.sum (decimal answer.progress.last)
    (rights_word answer.may) rest)

-- and with the nonces after them
hub_nonces-words : (answer : HubAnswer) (leaf_nonce hub_nonce : List ℕ)
    → with_nonces (hub_front answer) leaf_nonce hub_nonce ≡ codes "hub " ++ hub_words_of answer (leaf_nonce ++ 32 ∷ hub_nonce)
hub_nonces-words answer leaf_nonce hub_nonce =
    regroup (hub_front answer) (codes " ") leaf_nonce hub_nonce ∙ hub_front-words answer (leaf_nonce ++ 32 ∷ hub_nonce)
  where
    regroup : (front s one two : List ℕ) → front ++ s ++ one ++ s ++ two ≡ front ++ s ++ (one ++ (s ++ two))
    regroup front s one two = simp append_assoc

-- the same as `answer_after`, with any text after the words
abbrev read_hub : List ℕ → Option HubSaid
read_hub words =
    let version = rest_of words in
    let sum = rest_of version in
    let last = rest_of sum in
    let may = rest_of last in
    welcomed (digits_in 16 (word_of words)) (progress_in (word_of version) (word_of sum) (word_of last)) (rights_in (word_of may)) (Some (rest_of may))

module _ (answer : HubAnswer) (rest : List ℕ) (are : IsAnswer answer) where
  net : list_all is_letter answer.net ≡ true
  net = made-letters 16 answer.net are.net

  version : list_all is_letter (decimal answer.progress.version) ≡ true
  version = number-letters answer.progress.version are.progress.version

  sum : list_all is_letter answer.progress.sum ≡ true
  sum = made-letters 16 answer.progress.sum are.progress.sum

  last : list_all is_letter (decimal answer.progress.last) ≡ true
  last = number-letters answer.progress.last are.progress.last

  pub hub_read : read_hub (hub_words_of answer rest) ≡ Some (Welcome answer rest)
  hub_read =
      rw (
        word_of-word answer.net _ net,
        rest_of-word answer.net _ net,
        word_of-word (decimal answer.progress.version) _ version,
        rest_of-word (decimal answer.progress.version) _ version,
        word_of-word answer.progress.sum _ sum,
        rest_of-word answer.progress.sum _ sum,
        word_of-word (decimal answer.progress.last) _ last,
        rest_of-word (decimal answer.progress.last) _ last,
        word_of-word (rights_word answer.may) rest (rights-letters answer.may),
        rest_of-word (rights_word answer.may) rest (rights-letters answer.may),
        digits_in-digits 16 answer.net are.net,
        progress_in-words answer.progress are.progress,
        rights_in-word answer.may,
      ) refl

  pub hub_heard : are_digits 64 rest ≡ true → answer_after (hub_words_of answer rest) ≡ Some (Welcome answer rest)
  hub_heard code =
      rw (
        word_of-word answer.net _ net,
        rest_of-word answer.net _ net,
        word_of-word (decimal answer.progress.version) _ version,
        rest_of-word (decimal answer.progress.version) _ version,
        word_of-word answer.progress.sum _ sum,
        rest_of-word answer.progress.sum _ sum,
        word_of-word (decimal answer.progress.last) _ last,
        rest_of-word (decimal answer.progress.last) _ last,
        word_of-word (rights_word answer.may) rest (rights-letters answer.may),
        rest_of-word (rights_word answer.may) rest (rights-letters answer.may),
        digits_in-digits 16 answer.net are.net,
        progress_in-words answer.progress are.progress,
        rights_in-word answer.may,
        digits_in-digits 64 rest code,
      ) refl

pub hub_one_reading : (a b : HubAnswer) (k l m n : List ℕ) → IsAnswer a → IsAnswer b → are_digits 32 k ≡ true → are_digits 32 l ≡ true
    → with_nonces (hub_front a) k m ≡ with_nonces (hub_front b) l n → (a ≡ b) × (k ≡ l) × (m ≡ n)
hub_one_reading a b k l m n good other first second same =
    let words : hub_words_of a (k ++ 32 ∷ m) ≡ hub_words_of b (l ++ 32 ∷ n) =
    ap (drop 4) (sym (hub_nonces-words a k m) ∙ same ∙ hub_nonces-words b l n) in
    let reading : Some (Welcome a (k ++ 32 ∷ m)) ≡ Some (Welcome b (l ++ 32 ∷ n)) =
    sym (hub_read a (k ++ 32 ∷ m) good) ∙ ap read_hub words ∙ hub_read b (l ++ 32 ∷ n) other in
    let answers : a ≡ b = cc in
    let nonces : k ++ 32 ∷ m ≡ l ++ 32 ∷ n = cc in
    let j = made-letters 32 k first in
    let i = made-letters 32 l second in
    (answers, sym (word_of-word k m j) ∙ ap word_of nonces ∙ word_of-word l n i, sym (rest_of-word k m j) ∙ ap rest_of nonces ∙ rest_of-word l n i)

-- ---- a refusal: one word, and what comes after it

pub no_front-words : (refusal : HandshakeRefusal) (rest : List ℕ) → no_front refusal ++ codes " " ++ rest ≡ codes "no " ++ (refusal_word refusal ++ 32 ∷ rest)
no_front-words refusal rest = simp append_assoc

pub no_heard : (refusal : HandshakeRefusal) (code : List ℕ) → are_digits 64 code ≡ true
    → refusal_after (refusal_word refusal ++ 32 ∷ code) ≡ Some (No refusal code)
no_heard refusal code are =
    rw (
      word_of-word (refusal_word refusal) code (refusal-letters refusal),
      rest_of-word (refusal_word refusal) code (refusal-letters refusal),
      refusal_in-word refusal,
      digits_in-digits 64 code are,
    ) refl

-- ---- what a text is for

digit_not_t : (b : ℕ) → is_digit b ≡ true → (b == 116) ≡ false
digit_not_t b digit = grind (arith, nat_tests, digit)

-- a text that begins with digits does not begin with a t
not_to : (word rest more : List ℕ) (n : ℕ) → list_all is_digit word ≡ true → 0 < length word
    → bytes_eq (take (suc n) (word ++ rest)) (116 ∷ more) ≡ false
not_to [] rest more n all some = absurd (omega arith)
not_to (x ∷ xs) rest more n all some =
    ap (λ b. b && bytes_eq (take n (xs ++ rest)) more) (digit_not_t x (and_parts (is_digit x) (list_all is_digit xs) all).0)

pub use_of-leaf : (words : LeafWords) (nonce : List ℕ) → AreWords words → use_of (leaf_text words nonce) ≡ LeafCode
use_of-leaf words nonce are =
    let digits = decimal-digits words.leaf (omega (arith, are.leaf)) in
    let some = decimal_nonempty words.leaf (omega (arith, are.leaf)) in
    ap use_of (leaf_text-words words nonce)
    ∙ ap (λ (b : Bool). if b then ToHubKey else LeafCode) (not_to (decimal words.leaf) _ (codes "o hub ") 6 digits some)

pub use_of-hub : (answer : HubAnswer) (leaf_nonce hub_nonce : List ℕ) → IsAnswer answer
    → use_of (with_nonces (hub_front answer) leaf_nonce hub_nonce) ≡ HubCode
use_of-hub answer leaf_nonce hub_nonce are =
    let long : length answer.net ≡ 16 = (Decides-eqb (length answer.net) 16).0 (and_parts (length answer.net == 16) (list_all is_digit answer.net) are.net).0 in
    ap use_of (hub_nonces-words answer leaf_nonce hub_nonce)
    ∙ ap (λ (b : Bool). if b then ToLeafKey else HubCode) (not_to answer.net _ (codes "o leaf ") 7 (are_digits-all 16 answer.net are.net) (omega (arith, long)))

pub use_of-refusal : (refusal : HandshakeRefusal) (leaf_nonce hub_nonce : List ℕ)
    → use_of (with_nonces (no_front refusal) leaf_nonce hub_nonce) ≡ RefusalCode
use_of-refusal refusal leaf_nonce hub_nonce = refl

pub use_of-keys : (leaf_code hub_code : List ℕ) → (use_of (to_leaf_text leaf_code hub_code) ≡ ToLeafKey) × (use_of (to_hub_text leaf_code hub_code) ≡ ToHubKey)
use_of-keys leaf_code hub_code = (refl, refl)

pub directions : (a b c d : List ℕ) → to_leaf_text a b ≡ to_hub_text c d → ⊥
directions a b c d same = let uses : ToLeafKey ≡ ToHubKey = ap use_of same in cc
