-- Sets of mechanisms and of capabilities, and what a server's list offers. The bytes: 32 is a space, 44 ',', 61 '='.
use Rattle.std.specs.Prelude.{ℕ, ◌==◌, ◌&&◌, ◌||◌, not, Bool, true, false, List, [], ◌∷◌, codes, Option, Some, None, if◌then◌else◌}
use Rattle.bytetext.specs.Words.{first_word}
use Rattle.registration.specs.declared.capabilities.Capabilities.{Capabilities}
use Rattle.registration.specs.declared.capabilities.Offer.{Offer}
use Rattle.registration.specs.declared.mechanism.Mechanism.{Mechanism}
use Rattle.registration.specs.declared.mechanism.Mechanism.TheVariants.{ScramSha512, ScramSha256, External, Plain}
use Rattle.registration.specs.declared.mechanism.Mechanisms.{Mechanisms}
use Rattle.registration.specs.Lists.{has_item, item_tail}

-- ---- mechanisms

abbrev pub mechanism_name : Mechanism → List ℕ
mechanism_name ScramSha512 = codes "SCRAM-SHA-512"
mechanism_name ScramSha256 = codes "SCRAM-SHA-256"
mechanism_name External = codes "EXTERNAL"
mechanism_name Plain = codes "PLAIN"

abbrev pub holds_mechanism : Mechanisms → Mechanism → Bool
holds_mechanism set ScramSha512 = set.scram_sha_512
holds_mechanism set ScramSha256 = set.scram_sha_256
holds_mechanism set External = set.external
holds_mechanism set Plain = set.plain

abbrev pub all_mechanisms : Mechanisms
all_mechanisms = record { scram_sha_512 = true; scram_sha_256 = true; external = true; plain = true }

-- of a list with commas
abbrev pub names_mechanism : Mechanism → List ℕ → Bool
names_mechanism mechanism list = has_item 44 (mechanism_name mechanism) list

abbrev pub mechanisms_in : List ℕ → Mechanisms
mechanisms_in list = record {
  scram_sha_512 = names_mechanism ScramSha512 list;
  scram_sha_256 = names_mechanism ScramSha256 list;
  external = names_mechanism External list;
  plain = names_mechanism Plain list;
}

abbrev pub both_mechanisms : Mechanisms → Mechanisms → Mechanisms
both_mechanisms a b = record {
  scram_sha_512 = a.scram_sha_512 && b.scram_sha_512;
  scram_sha_256 = a.scram_sha_256 && b.scram_sha_256;
  external = a.external && b.external;
  plain = a.plain && b.plain;
}

abbrev pub either_mechanisms : Mechanisms → Mechanisms → Mechanisms
either_mechanisms a b = record {
  scram_sha_512 = a.scram_sha_512 || b.scram_sha_512;
  scram_sha_256 = a.scram_sha_256 || b.scram_sha_256;
  external = a.external || b.external;
  plain = a.plain || b.plain;
}

-- the first in the order in which they are tried
abbrev pub first_mechanism : Mechanisms → Option Mechanism
first_mechanism set =
    if set.scram_sha_512 then Some ScramSha512
    else if set.scram_sha_256 then Some ScramSha256
    else if set.external then Some External
    else if set.plain then Some Plain
    else None

abbrev pub without_mechanism : Mechanisms → Mechanism → Mechanisms
without_mechanism set ScramSha512 = record set { scram_sha_512 = false }
without_mechanism set ScramSha256 = record set { scram_sha_256 = false }
without_mechanism set External = record set { external = false }
without_mechanism set Plain = record set { plain = false }

-- ---- capabilities

abbrev pub no_capabilities : Capabilities
no_capabilities = record {
  account_notify = false;
  extended_join = false;
  multi_prefix = false;
  userhost_in_names = false;
  chghost = false;
  away_notify = false;
  invite_notify = false;
}

-- of a list with spaces
abbrev pub capabilities_in : List ℕ → Capabilities
capabilities_in list = record {
  account_notify = has_item 32 (codes "account-notify") list;
  extended_join = has_item 32 (codes "extended-join") list;
  multi_prefix = has_item 32 (codes "multi-prefix") list;
  userhost_in_names = has_item 32 (codes "userhost-in-names") list;
  chghost = has_item 32 (codes "chghost") list;
  away_notify = has_item 32 (codes "away-notify") list;
  invite_notify = has_item 32 (codes "invite-notify") list;
}

abbrev pub both_capabilities : Capabilities → Capabilities → Capabilities
both_capabilities a b = record {
  account_notify = a.account_notify && b.account_notify;
  extended_join = a.extended_join && b.extended_join;
  multi_prefix = a.multi_prefix && b.multi_prefix;
  userhost_in_names = a.userhost_in_names && b.userhost_in_names;
  chghost = a.chghost && b.chghost;
  away_notify = a.away_notify && b.away_notify;
  invite_notify = a.invite_notify && b.invite_notify;
}

-- an account that a JOIN says is of use only if the server also says when somebody logs in or out
abbrev pub without_stale_accounts : Capabilities → Capabilities
without_stale_accounts set = record set { extended_join = set.extended_join && set.account_notify }

abbrev pub either_capabilities : Capabilities → Capabilities → Capabilities
either_capabilities a b = record {
  account_notify = a.account_notify || b.account_notify;
  extended_join = a.extended_join || b.extended_join;
  multi_prefix = a.multi_prefix || b.multi_prefix;
  userhost_in_names = a.userhost_in_names || b.userhost_in_names;
  chghost = a.chghost || b.chghost;
  away_notify = a.away_notify || b.away_notify;
  invite_notify = a.invite_notify || b.invite_notify;
}

abbrev pub is_empty : Capabilities → Bool
is_empty set =
    not (set.account_notify || set.extended_join || set.multi_prefix || set.userhost_in_names || set.chghost
    || set.away_notify || set.invite_notify)

-- ---- what a list offers

-- the mechanisms that follow the word sasl: a list after '=', or all
abbrev pub named_mechanisms : List ℕ → Mechanisms
named_mechanisms [] = all_mechanisms
named_mechanisms (b ∷ bs) = if b == 61 then mechanisms_in (first_word bs) else all_mechanisms

abbrev pub sasl_offer : Option (List ℕ) → Capabilities → Offer
sasl_offer None others = record { sasl = false; mechanisms = mechanisms_in []; others = others }
sasl_offer (Some tail) others = record { sasl = true; mechanisms = named_mechanisms tail; others = others }

abbrev pub offer_in : List ℕ → Offer
offer_in list = sasl_offer (item_tail 32 (codes "sasl") list) (capabilities_in list)

abbrev pub no_offer : Offer
no_offer = sasl_offer None no_capabilities

abbrev pub both_offers : Offer → Offer → Offer
both_offers a b = record {
  sasl = a.sasl || b.sasl;
  mechanisms = either_mechanisms a.mechanisms b.mechanisms;
  others = either_capabilities a.others b.others;
}
