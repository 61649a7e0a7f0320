-- What the bytes that each side has read mean.
use Rattle.std.specs.Prelude.{◌≡◌, ℕ, ◌+◌, ◌&&◌, not, nat_le, Bool, true, List, length, take, codes, Option, Some, None, if◌then◌else◌}
use Rattle.std.specs.Str.{bytes_eq}
use Rattle.handshake.specs.declared.TheConstants.{MAX_LINE}
use Rattle.handshake.specs.declared.fault.HandshakeFault.{HandshakeFault}
use Rattle.handshake.specs.declared.fault.HandshakeFault.TheVariants.{TooLong, NoGreeting, OtherVersion, NoLeafLine, OldLeaf}
use Rattle.handshake.specs.declared.fault.HandshakeFault.TheVariants.{NoSuchLeaf, NoHubLine, WrongCode, OtherNet, Told}
use Rattle.handshake.specs.declared.keys.LinkKeys.{LinkKeys}
use Rattle.handshake.specs.declared.progress.Progress.{Progress}
use Rattle.handshake.specs.declared.progress.LeafRights.{LeafRights}
use Rattle.handshake.specs.declared.reading.Ask.{Ask}
use Rattle.handshake.specs.declared.reading.HubSaid.{HubSaid}
use Rattle.handshake.specs.declared.reading.HubSaid.TheVariants.{Welcome, No}
use Rattle.handshake.specs.declared.refusal.HandshakeRefusal.{HandshakeRefusal}
use Rattle.handshake.specs.declared.sides.LeafWords.{LeafWords}
use Rattle.handshake.specs.declared.sides.HubAnswer.{HubAnswer}
use Rattle.handshake.specs.declared.hub_side.HubSide.{HubSide}
use Rattle.handshake.specs.declared.hub_side.HubHears.{HubHears}
use Rattle.handshake.specs.declared.hub_side.HubHears.TheVariants.{More, Asks, Refused}
use Rattle.handshake.specs.declared.leaf_side.LeafSide.{LeafSide}
use Rattle.handshake.specs.declared.leaf_side.LeafHears.{LeafHears}
use Rattle.handshake.specs.declared.leaf_side.LeafHears.TheVariants.{More as more_to_hear, Answers, Joined, Refused as refused}
use Rattle.handshake.specs.Keys.{leaf_key, link_keys}
use Rattle.handshake.specs.Nets.{may_be_of}
use Rattle.handshake.specs.Lines.{leaf_code, leaf_line, hub_code, hub_line, no_code, no_line}
use Rattle.handshake.specs.Reading.{line_len, ask_in, is_old_leaf, hub_said_in, greeting_in}

-- ---- the hub

-- a leaf of the net has a number from 1 to the number of leaves
abbrev pub is_leaf : ℕ → ℕ → Bool
is_leaf leaves leaf = nat_le 1 leaf && nat_le leaf leaves

-- the code is the one of the leaf's words and of this connection's nonces under the leaf's own key
abbrev pub shows_code : HubSide → Ask → Bool
shows_code side ask = bytes_eq ask.code (leaf_code (leaf_key side.key ask.words.leaf) ask.words side.nonce)

-- why a line is not a leaf's
abbrev pub leaf_line_fault : List ℕ → HandshakeFault
leaf_line_fault line = if is_old_leaf line then OldLeaf else NoLeafLine

abbrev pub hub_hears_ask : HubSide → ℕ → List ℕ → Option Ask → HubHears
hub_hears_ask side used line None = Refused (leaf_line_fault line)
hub_hears_ask side used line (Some ask) =
    if not (is_leaf side.leaves ask.words.leaf) then Refused NoSuchLeaf
    else if not (shows_code side ask) then Refused WrongCode
    else Asks used ask

abbrev pub hub_hears_line : HubSide → List ℕ → Option ℕ → HubHears
hub_hears_line side heard None = if nat_le MAX_LINE (length heard) then Refused TooLong else More
hub_hears_line side heard (Some n) = hub_hears_ask side (n + 1) (take n heard) (ask_in (take n heard))

abbrev pub hub_hears : HubSide → List ℕ → HubHears
hub_hears side heard = hub_hears_line side heard (line_len heard)

-- These bytes begin with a line of `used` bytes in which this leaf of the net shows the code under its own key.
pub record ShowsKey (side : HubSide) (heard : List ℕ) (used : ℕ) (ask : Ask) : Type 0 where
  pub len : ℕ
  pub line : line_len heard ≡ Some len
  pub used_is : used ≡ len + 1
  pub says : ask_in (take len heard) ≡ Some ask
  pub known : is_leaf side.leaves ask.words.leaf ≡ true
  pub code : ask.code ≡ leaf_code (leaf_key side.key ask.words.leaf) ask.words side.nonce

-- only such a leaf asks
abbrev pub IsShown : HubSide → List ℕ → HubHears → Type 0
IsShown side heard More = Unit {0}
IsShown side heard (Asks used ask) = ShowsKey side heard used ask
IsShown side heard (Refused fault) = Unit {0}

-- what the hub says of itself
abbrev pub hub_answer : HubSide → Progress → LeafRights → HubAnswer
hub_answer side own may = record { net = side.net; progress = own; may = may }

-- under the key of the leaf that asks: the line that welcomes it, one that refuses it, and the keys of the records
abbrev pub welcome_line : HubSide → Ask → Progress → LeafRights → List ℕ
welcome_line side ask own may =
    hub_line (leaf_key side.key ask.words.leaf) (hub_answer side own may) ask.words.nonce side.nonce

abbrev pub refusal_line : HubSide → Ask → HandshakeRefusal → List ℕ
refusal_line side ask refusal = no_line (leaf_key side.key ask.words.leaf) refusal ask.words.nonce side.nonce

abbrev pub hub_keys : HubSide → Ask → Progress → LeafRights → LinkKeys
hub_keys side ask own may =
    link_keys (leaf_key side.key ask.words.leaf) ask.code
    (hub_code (leaf_key side.key ask.words.leaf) (hub_answer side own may) ask.words.nonce side.nonce)

-- ---- a leaf

-- what the leaf says of itself
abbrev pub leaf_words : LeafSide → LeafWords
leaf_words side = record {
  leaf = side.leaf;
  leaves = side.leaves;
  net = side.net;
  made = side.made;
  progress = side.own;
  nonce = side.nonce;
}

abbrev pub greeting_fault : List ℕ → HandshakeFault
greeting_fault line =
    if bytes_eq (take 9 line) (codes "eggnet 2 ") then NoGreeting
    else if bytes_eq (take 7 line) (codes "eggnet ") then OtherVersion
    else NoGreeting

abbrev pub hears_greeting : LeafSide → ℕ → List ℕ → Option (List ℕ) → LeafHears
hears_greeting side used line None = refused (greeting_fault line)
hears_greeting side used line (Some hub_nonce) = Answers used (leaf_line side.key (leaf_words side) hub_nonce)

-- the keys of the records, if the hub shows this code
abbrev pub leaf_keys : LeafSide → List ℕ → List ℕ → LinkKeys
leaf_keys side hub_nonce code = link_keys side.key (leaf_code side.key (leaf_words side) hub_nonce) code

-- a welcome counts only with the hub's code
abbrev pub hears_welcome : LeafSide → ℕ → List ℕ → HubAnswer → List ℕ → LeafHears
hears_welcome side used hub_nonce answer code =
    if not (bytes_eq code (hub_code side.key answer side.nonce hub_nonce)) then refused WrongCode
    else if not (may_be_of answer.net side.net) then refused OtherNet
    else Joined used answer (leaf_keys side hub_nonce code)

-- and so does a refusal
abbrev pub refusal_fault : LeafSide → List ℕ → HandshakeRefusal → List ℕ → HandshakeFault
refusal_fault side hub_nonce refusal code =
    if bytes_eq code (no_code side.key refusal side.nonce hub_nonce) then Told refusal else WrongCode

abbrev pub hears_hub : LeafSide → ℕ → List ℕ → Option HubSaid → LeafHears
hears_hub side used hub_nonce None = refused NoHubLine
hears_hub side used hub_nonce (Some (Welcome answer code)) = hears_welcome side used hub_nonce answer code
hears_hub side used hub_nonce (Some (No refusal code)) = refused (refusal_fault side hub_nonce refusal code)

-- the first line is the hub's greeting, the second its answer
abbrev pub leaf_hears_next : LeafSide → ℕ → List ℕ → Option (List ℕ) → LeafHears
leaf_hears_next side used line None = hears_greeting side used line (greeting_in line)
leaf_hears_next side used line (Some hub_nonce) = hears_hub side used hub_nonce (hub_said_in line)

abbrev pub leaf_hears_line : LeafSide → List ℕ → Option ℕ → LeafHears
leaf_hears_line side heard None = if nat_le MAX_LINE (length heard) then refused TooLong else more_to_hear
leaf_hears_line side heard (Some n) = leaf_hears_next side (n + 1) (take n heard) side.greeted

abbrev pub leaf_hears : LeafSide → List ℕ → LeafHears
leaf_hears side heard = leaf_hears_line side heard (line_len heard)

-- the hub's nonce is kept once its greeting was read
abbrev pub nonce_after : Option (List ℕ) → List ℕ → Option (List ℕ)
nonce_after (Some hub_nonce) line = Some hub_nonce
nonce_after None line = greeting_in line

abbrev pub greeted_by : Option (List ℕ) → List ℕ → Option ℕ → Option (List ℕ)
greeted_by before heard None = before
greeted_by before heard (Some n) = nonce_after before (take n heard)

abbrev pub leaf_after : LeafSide → List ℕ → LeafSide
leaf_after side heard = record side { greeted = greeted_by side.greeted heard (line_len heard) }
