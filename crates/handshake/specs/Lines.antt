-- What each side sends before the first record, and what its code stands for. A key is the block that RFC 2104 makes of
-- a secret; the numbers of a net and of a folder, a sum and a nonce are texts of digits.
use Rattle.std.specs.Prelude.{ℕ, List, [], ◌∷◌, ◌++◌, codes, decimal, Option, Some, None}
use Rattle.hex.specs.Hex.{encode_lower}
use Rattle.sealing.specs.Hmac.{hmac_of}
use Rattle.handshake.specs.declared.progress.Progress.{Progress}
use Rattle.handshake.specs.declared.progress.LeafRights.{LeafRights}
use Rattle.handshake.specs.declared.progress.LeafRights.TheVariants.{Asks, Reads, Persons}
use Rattle.handshake.specs.declared.refusal.HandshakeRefusal.{HandshakeRefusal}
use Rattle.handshake.specs.declared.refusal.HandshakeRefusal.TheVariants.{Heir, Net, Count, Other, Ahead, Records, Older}
use Rattle.handshake.specs.declared.sides.LeafWords.{LeafWords}
use Rattle.handshake.specs.declared.sides.HubAnswer.{HubAnswer}

abbrev pub line_feed : List ℕ
line_feed = 10 ∷ []

-- ---- words

-- the number of a net; a leaf that keeps none yet sends -
abbrev pub net_word : Option (List ℕ) → List ℕ
net_word None = codes "-"
net_word (Some net) = net

-- VERSION SUM LAST
abbrev pub progress_words : Progress → List ℕ
progress_words progress = decimal progress.version ++ codes " " ++ progress.sum ++ codes " " ++ decimal progress.last

abbrev pub rights_word : LeafRights → List ℕ
rights_word Asks = codes "asks"
rights_word Reads = codes "reads"
rights_word Persons = codes "persons"

abbrev pub refusal_word : HandshakeRefusal → List ℕ
refusal_word Heir = codes "heir"
refusal_word Net = codes "net"
refusal_word Count = codes "count"
refusal_word Other = codes "other"
refusal_word Ahead = codes "ahead"
refusal_word Records = codes "records"
refusal_word Older = codes "older"

-- ---- a line is its front, a code of the front and of nonces, and a line feed

abbrev pub code_of : List ℕ → List ℕ → List ℕ
code_of key text = encode_lower (hmac_of key text)

abbrev pub with_code : List ℕ → List ℕ → List ℕ
with_code front code = front ++ codes " " ++ code ++ line_feed

-- the code of a hub's line stands for its front and both nonces
abbrev pub with_nonces : List ℕ → List ℕ → List ℕ → List ℕ
with_nonces front leaf_nonce hub_nonce = front ++ codes " " ++ leaf_nonce ++ codes " " ++ hub_nonce

abbrev pub front_code : List ℕ → List ℕ → List ℕ → List ℕ → List ℕ
front_code key front leaf_nonce hub_nonce = code_of key (with_nonces front leaf_nonce hub_nonce)

-- ---- eggnet 2 NONCE: the hub, first

abbrev pub greeting : List ℕ → List ℕ
greeting hub_nonce = codes "eggnet 2 " ++ hub_nonce ++ line_feed

-- ---- leaf N COUNT NET MADE VERSION SUM LAST NONCE CODE

abbrev pub leaf_front : LeafWords → List ℕ
leaf_front words =
    codes "leaf " ++ decimal words.leaf ++ codes " " ++ decimal words.leaves ++ codes " " ++ net_word words.net ++ codes " " ++ words.made
    ++ codes " " ++ progress_words words.progress ++ codes " " ++ words.nonce

-- what its code stands for
abbrev pub leaf_text : LeafWords → List ℕ → List ℕ
leaf_text words hub_nonce = leaf_front words ++ codes " " ++ hub_nonce

abbrev pub leaf_code : List ℕ → LeafWords → List ℕ → List ℕ
leaf_code key words hub_nonce = code_of key (leaf_text words hub_nonce)

abbrev pub leaf_line : List ℕ → LeafWords → List ℕ → List ℕ
leaf_line key words hub_nonce = with_code (leaf_front words) (leaf_code key words hub_nonce)

-- ---- hub NET VERSION SUM LAST MAY CODE

abbrev pub hub_front : HubAnswer → List ℕ
hub_front answer =
    codes "hub " ++ answer.net ++ codes " " ++ progress_words answer.progress ++ codes " " ++ rights_word answer.may

abbrev pub hub_code : List ℕ → HubAnswer → List ℕ → List ℕ → List ℕ
hub_code key answer leaf_nonce hub_nonce = front_code key (hub_front answer) leaf_nonce hub_nonce

abbrev pub hub_line : List ℕ → HubAnswer → List ℕ → List ℕ → List ℕ
hub_line key answer leaf_nonce hub_nonce = with_code (hub_front answer) (hub_code key answer leaf_nonce hub_nonce)

-- ---- no WORD CODE

abbrev pub no_front : HandshakeRefusal → List ℕ
no_front refusal = codes "no " ++ refusal_word refusal

abbrev pub no_code : List ℕ → HandshakeRefusal → List ℕ → List ℕ → List ℕ
no_code key refusal leaf_nonce hub_nonce = front_code key (no_front refusal) leaf_nonce hub_nonce

abbrev pub no_line : List ℕ → HandshakeRefusal → List ℕ → List ℕ → List ℕ
no_line key refusal leaf_nonce hub_nonce = with_code (no_front refusal) (no_code key refusal leaf_nonce hub_nonce)
