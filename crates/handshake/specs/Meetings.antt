-- A hub and a leaf that meet, and what each says of itself.
use Rattle.std.specs.Prelude.{◌≡◌, ◌<◌, ◌^◌, ℕ, true, List, take, codes, Option, None, Some, if◌then◌else◌}
use Rattle.std.specs.Str.{bytes_eq}
use Rattle.handshake.specs.declared.progress.Progress.{Progress}
use Rattle.handshake.specs.declared.reading.Ask.{Ask}
use Rattle.handshake.specs.declared.sides.LeafWords.{LeafWords}
use Rattle.handshake.specs.declared.sides.HubAnswer.{HubAnswer}
use Rattle.handshake.specs.declared.hub_side.HubSide.{HubSide}
use Rattle.handshake.specs.declared.leaf_side.LeafSide.{LeafSide}
use Rattle.handshake.specs.Digits.{are_digits}
use Rattle.handshake.specs.Keys.{leaf_key}
use Rattle.handshake.specs.Lines.{leaf_code}
use Rattle.handshake.specs.Sides.{is_leaf, leaf_words}

-- ---- what can be said: numbers in their ranges, and texts of so many digits

pub record AreProgress (progress : Progress) : Type 0 where
  pub version : progress.version < 2 ^ 32
  pub sum : are_digits 16 progress.sum ≡ true
  pub last : progress.last < 2 ^ 32

abbrev pub IsNet : Option (List ℕ) → Type 0
IsNet None = Unit {0}
IsNet (Some net) = are_digits 16 net ≡ true

pub record AreWords (words : LeafWords) : Type 0 where
  pub leaf : words.leaf < 65536
  pub leaves : words.leaves < 65536
  pub net : IsNet words.net
  pub made : are_digits 16 words.made ≡ true
  pub progress : AreProgress words.progress
  pub nonce : are_digits 32 words.nonce ≡ true

pub record IsAnswer (answer : HubAnswer) : Type 0 where
  pub net : are_digits 16 answer.net ≡ true
  pub progress : AreProgress answer.progress

-- ---- a connection

-- The leaf has its own key of the hub's secret, and has read this hub's greeting.
pub record Meet (hub : HubSide) (leaf : LeafSide) : Type 0 where
  pub key : leaf.key ≡ leaf_key hub.key leaf.leaf
  pub number : is_leaf hub.leaves leaf.leaf ≡ true
  pub greeted : leaf.greeted ≡ Some hub.nonce
  pub words : AreWords (leaf_words leaf)
  pub nonce : are_digits 32 hub.nonce ≡ true
  pub net : are_digits 16 hub.net ≡ true

-- what the leaf's line says to a hub that drew this nonce
abbrev pub ask_of : LeafSide → List ℕ → Ask
ask_of leaf hub_nonce = record { words = leaf_words leaf; code = leaf_code leaf.key (leaf_words leaf) hub_nonce }

-- ---- what a text is for, of which an HMAC is made under a leaf's key

pub data Use : Type 0 where
  LeafCode : Use
  HubCode : Use
  RefusalCode : Use
  ToLeafKey : Use
  ToHubKey : Use

abbrev pub use_of : List ℕ → Use
use_of text =
    if bytes_eq (take 12 text) (codes "leaf to hub ") then ToHubKey
    else if bytes_eq (take 12 text) (codes "hub to leaf ") then ToLeafKey
    else if bytes_eq (take 4 text) (codes "hub ") then HubCode
    else if bytes_eq (take 3 text) (codes "no ") then RefusalCode
    else LeafCode
