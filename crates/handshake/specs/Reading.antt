-- What the bytes of a connection mean before the first record.
use Rattle.std.specs.Prelude.{ℕ, ◌+◌, ◌==◌, ◌&&◌, not, Bool, false, List, take, drop, position, codes}
use Rattle.std.specs.Prelude.{Option, Some, None, is_some, option_and_then, if◌then◌else◌}
use Rattle.std.specs.List.{prefix_len, take_while}
use Rattle.std.specs.Str.{bytes_eq}
use Rattle.handshake.specs.declared.TheConstants.{MAX_LINE}
use Rattle.handshake.specs.declared.progress.Progress.{Progress}
use Rattle.handshake.specs.declared.progress.LeafRights.{LeafRights}
use Rattle.handshake.specs.declared.progress.LeafRights.TheVariants.{Asks, Reads, Persons}
use Rattle.handshake.specs.declared.reading.Ask.{Ask}
use Rattle.handshake.specs.declared.reading.HubSaid.{HubSaid}
use Rattle.handshake.specs.declared.reading.HubSaid.TheVariants.{Welcome, No}
use Rattle.handshake.specs.declared.refusal.HandshakeRefusal.{HandshakeRefusal}
use Rattle.handshake.specs.declared.refusal.HandshakeRefusal.TheVariants.{Heir, Net, Count, Other, Ahead, Records, Older}
use Rattle.handshake.specs.Digits.{are_digits, digits_in}
use Rattle.handshake.specs.Numbers.{number_in, wide_in}

-- ---- lines and words

-- where the first line ends: at a line feed among the first 200 bytes
abbrev pub line_len : List ℕ → Option ℕ
line_len heard = position (λ b. b == 10) (take MAX_LINE heard)

abbrev pub is_letter : ℕ → Bool
is_letter b = not (b == 32)

-- the bytes before the first space
abbrev pub word_of : List ℕ → List ℕ
word_of line = take_while is_letter line

-- the bytes after that space
abbrev pub rest_of : List ℕ → List ℕ
rest_of line = drop (prefix_len is_letter line + 1) line

-- ---- what a word says

-- the number of the leaf's net, if the leaf keeps it
abbrev pub some_net : Option (List ℕ) → Option (Option (List ℕ))
some_net None = None
some_net (Some net) = Some (Some net)

abbrev pub net_in : List ℕ → Option (Option (List ℕ))
net_in word = if bytes_eq word (codes "-") then Some None else some_net (digits_in 16 word)

abbrev pub rights_in : List ℕ → Option LeafRights
rights_in word =
    if bytes_eq word (codes "asks") then Some Asks
    else if bytes_eq word (codes "reads") then Some Reads
    else if bytes_eq word (codes "persons") then Some Persons
    else None

abbrev pub refusal_in : List ℕ → Option HandshakeRefusal
refusal_in word =
    if bytes_eq word (codes "heir") then Some Heir
    else if bytes_eq word (codes "net") then Some Net
    else if bytes_eq word (codes "count") then Some Count
    else if bytes_eq word (codes "other") then Some Other
    else if bytes_eq word (codes "ahead") then Some Ahead
    else if bytes_eq word (codes "records") then Some Records
    else if bytes_eq word (codes "older") then Some Older
    else None

-- VERSION SUM LAST
abbrev pub progressed : Option ℕ → Option (List ℕ) → Option ℕ → Option Progress
progressed (Some version) (Some sum) (Some last) = Some (record { version = version; sum = sum; last = last })
progressed (Some version) (Some sum) None = None
progressed (Some version) None last = None
progressed None sum last = None

abbrev pub progress_in : List ℕ → List ℕ → List ℕ → Option Progress
progress_in version sum last = progressed (wide_in version) (digits_in 16 sum) (wide_in last)

-- ---- leaf N COUNT NET MADE VERSION SUM LAST NONCE CODE, each of them one word

abbrev pub asked : Option ℕ → Option ℕ → Option (Option (List ℕ)) → Option (List ℕ) → Option Progress → Option (List ℕ) → Option (List ℕ) → Option Ask
asked leaf leaves net made progress nonce code =
    option_and_then (λ leaf. option_and_then (λ leaves. option_and_then (λ net. option_and_then (λ made.
    option_and_then (λ progress. option_and_then (λ nonce. option_and_then (λ code.
    Some (record {
      words = record { leaf = leaf; leaves = leaves; net = net; made = made; progress = progress; nonce = nonce };
      code = code;
    })) code) nonce) progress) made) net) leaves) leaf

-- the words after the first
abbrev pub ask_after : List ℕ → Option Ask
ask_after words =
    let leaves = rest_of words in
    let net = rest_of leaves in
    let made = rest_of net in
    let version = rest_of made in
    let sum = rest_of version in
    let last = rest_of sum in
    let nonce = rest_of last in
    asked (number_in (word_of words)) (number_in (word_of leaves)) (net_in (word_of net)) (digits_in 16 (word_of made))
    (progress_in (word_of version) (word_of sum) (word_of last)) (digits_in 32 (word_of nonce)) (digits_in 64 (rest_of nonce))

abbrev pub ask_in : List ℕ → Option Ask
ask_in line = if bytes_eq (take 5 line) (codes "leaf ") then ask_after (drop 5 line) else None

-- ---- leaf N NET NONCE CODE, as leaves of an earlier release answered

abbrev pub is_old_after : List ℕ → Bool
is_old_after words =
    let net = rest_of words in
    let nonce = rest_of net in
    is_some (number_in (word_of words)) && is_some (net_in (word_of net)) && are_digits 32 (word_of nonce) && are_digits 64 (rest_of nonce)

abbrev pub is_old_leaf : List ℕ → Bool
is_old_leaf line = if bytes_eq (take 5 line) (codes "leaf ") then is_old_after (drop 5 line) else false

-- ---- hub NET VERSION SUM LAST MAY CODE, each of them one word

abbrev pub welcomed : Option (List ℕ) → Option Progress → Option LeafRights → Option (List ℕ) → Option HubSaid
welcomed net progress may code =
    option_and_then (λ net. option_and_then (λ progress. option_and_then (λ may. option_and_then (λ code.
    Some (Welcome (record { net = net; progress = progress; may = may }) code)) code) may) progress) net

abbrev pub answer_after : List ℕ → Option HubSaid
answer_after words =
    let version = rest_of words in
    let sum = rest_of version in
    let last = rest_of sum in
    let may = rest_of last in
    welcomed (digits_in 16 (word_of words)) (progress_in (word_of version) (word_of sum) (word_of last)) (rights_in (word_of may)) (digits_in 64 (rest_of may))

-- ---- no WORD CODE

abbrev pub refused : Option HandshakeRefusal → Option (List ℕ) → Option HubSaid
refused (Some refusal) (Some code) = Some (No refusal code)
refused (Some refusal) None = None
refused None code = None

abbrev pub refusal_after : List ℕ → Option HubSaid
refusal_after words = refused (refusal_in (word_of words)) (digits_in 64 (rest_of words))

-- ---- either of them

abbrev pub hub_said_in : List ℕ → Option HubSaid
hub_said_in line =
    if bytes_eq (take 4 line) (codes "hub ") then answer_after (drop 4 line)
    else if bytes_eq (take 3 line) (codes "no ") then refusal_after (drop 3 line)
    else None

-- ---- eggnet 2 NONCE: the nonce

abbrev pub greeting_in : List ℕ → Option (List ℕ)
greeting_in line = if bytes_eq (take 9 line) (codes "eggnet 2 ") then digits_in 32 (drop 9 line) else None
