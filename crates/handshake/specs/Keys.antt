-- The keys that come of a net's secret, each the block that RFC 2104 makes of an HMAC's 32 bytes.
use Rattle.std.specs.Prelude.{ℕ, List, ◌++◌, codes, decimal}
use Rattle.sealing.specs.Hmac.{block_of, hmac_of}
use Rattle.handshake.specs.declared.keys.LinkKeys.{LinkKeys}

-- the key that is made of a text under another key
abbrev pub key_of_text : List ℕ → List ℕ → List ℕ
key_of_text key text = block_of (hmac_of key text)

-- ---- a leaf's key

abbrev pub leaf_key_text : ℕ → List ℕ
leaf_key_text leaf = codes "eggnet leaf " ++ decimal leaf

abbrev pub leaf_key : List ℕ → ℕ → List ℕ
leaf_key secret leaf = key_of_text secret (leaf_key_text leaf)

-- ---- the keys of a connection's records

-- the codes that both sides showed, which stand for all words of their lines and both nonces
abbrev pub both_codes : List ℕ → List ℕ → List ℕ
both_codes leaf_code hub_code = leaf_code ++ codes " " ++ hub_code

abbrev pub to_leaf_text : List ℕ → List ℕ → List ℕ
to_leaf_text leaf_code hub_code = codes "hub to leaf " ++ both_codes leaf_code hub_code

abbrev pub to_hub_text : List ℕ → List ℕ → List ℕ
to_hub_text leaf_code hub_code = codes "leaf to hub " ++ both_codes leaf_code hub_code

-- under the leaf's key
abbrev pub link_keys : List ℕ → List ℕ → List ℕ → LinkKeys
link_keys key leaf_code hub_code = record {
  to_leaf = key_of_text key (to_leaf_text leaf_code hub_code);
  to_hub = key_of_text key (to_hub_text leaf_code hub_code);
}
