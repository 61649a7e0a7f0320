-- Hosts that are read as addresses.
use Rattle.std.proofs.Common.{◌≡◌, ◌∙◌, ◌++◌, ℕ, true, false, List, [], ◌∷◌, length, None, Some, Result, Ok, Err, ◌||◌, ◌↔◌, IsTrue, inl, inr, refl, ap, sym, subst, append-nil, ne_eqb, arith, lit≤}
use Rattle.std.proofs.lemmas.Bool.{cases_Bool, or_cases}
use Rattle.std.proofs.Math.Bool.{or-true}
use Rattle.std.specs.Option.{is_some}
use Rattle.std.specs.Result.{is_ok}
use Rattle.std.specs.declared.net.ip_addr.IpAddr.{IpAddr}
use Rattle.std.specs.declared.net.ip_addr.IpAddr.TheVariants as Ip
use Rattle.std.specs.Net.Grammar.{IsDotted, IsColonHex, IsIpText, Parses}
use Rattle.std.specs.Net.Reader.{Read, whole_value, read_ipv4, read_ipv6}
use Rattle.std.proofs.NetLemmas.Ipv4.{read_ipv4_complete, read_ipv4_sound}
use Rattle.std.proofs.NetLemmas.Ipv6.{read_ipv6_complete, read_ipv6_sound, EndsGroups-nil}
use Rattle.settings.specs.Addresses.{SpellsAddress, is_address}

-- what a reader of the front of a text tells of the whole text
module _ {Spells : List ℕ → List ℕ → Type 0} (read : List ℕ → Read (List ℕ))
    (sound : (text parts rest : List ℕ) → read text ≡ Some (parts, rest) → (front : List ℕ) × (text ≡ front ++ rest) × Spells front parts) where
  spelled_by : (text : List ℕ) (raw : Read (List ℕ)) → read text ≡ raw → is_some (whole_value raw) ≡ true → (parts : List ℕ) × Spells text parts
  spelled_by text None is whole = cc
  spelled_by text (Some (parts, [])) is whole =
      let (front, split, spells) = sound text parts [] is in
      (parts, subst (λ t. Spells t parts) (sym (split ∙ append-nil front)) spells)
  spelled_by text (Some (parts, b ∷ rest)) is whole =
      let never : false ≡ true = rw (ne_eqb (length (b ∷ rest)) 0 (omega arith)) at whole in
      cc

  spelled : (text : List ℕ) → is_some (whole_value (read text)) ≡ true → (parts : List ℕ) × Spells text parts
  spelled text whole = spelled_by text (read text) refl whole

v4_read : (text octets : List ℕ) → IsDotted text octets → is_some (whole_value (read_ipv4 text)) ≡ true
v4_read text octets dotted = rw (rw append-nil at (read_ipv4_complete text octets [] dotted (lit≤ tt)))

v6_read : (text segments : List ℕ) → IsColonHex text segments → is_some (whole_value (read_ipv6 text)) ≡ true
v6_read text segments colons = rw (rw append-nil at (read_ipv6_complete text segments [] colons EndsGroups-nil))

-- a host that spells an address is read as one
address_read : (host : List ℕ) (ip : IpAddr) → IsIpText host ip → is_address host ≡ true
address_read host (Ip.V4 a) spells = rw (v4_read host _ spells)
address_read host (Ip.V6 a) spells = ap (λ b. is_some (whole_value (read_ipv4 host)) || b) (v6_read host _ spells) ∙ or-true (is_some (whole_value (read_ipv4 host)))

-- and the other way round
read_address : (host : List ℕ) → is_address host ≡ true → SpellsAddress host
read_address host is = elim (or_cases _ _ is) [
  | inl four ↦ let (octets, dotted) = spelled read_ipv4 read_ipv4_sound host four in (Ip.V4 (record { octets = octets }), dotted)
  | inr six ↦ let (segments, colons) = spelled read_ipv6 read_ipv6_sound host six in (Ip.V6 (record { segments = segments }), colons)
]

pub is_address-spells : (host : List ℕ) → IsTrue (is_address host) ↔ SpellsAddress host
is_address-spells host = (read_address host, λ found. address_read host found.0 found.1)

-- the parser of std says the same
pub parsed_is : {E : Type 0} (host : List ℕ) (parsed : Result IpAddr E) → Parses IsIpText host parsed → is_ok parsed ≡ is_address host
parsed_is host (Ok ip) spells = sym (address_read host ip spells)
parsed_is host (Err e) never = elim (cases_Bool (is_address host)) [
  | inl is ↦ let found = read_address host is in absurd (never found.0 found.1)
  | inr none ↦ sym none
]
