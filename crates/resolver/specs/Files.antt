-- What the two files of a machine say about names: `/etc/resolv.conf` and `/etc/hosts`.
-- The bytes: 9 is a tab, 10 LF, 13 CR, 32 a space, 35 '#'.
use Rattle.std.specs.Prelude.{◌≡◌, ℕ, ◌==◌, ◌||◌, not, nat_lt, Bool, List, [], ◌∷◌, ◌++◌, length, take, drop, codes, Option, None, Some, if◌then◌else◌}
use Rattle.std.specs.List.{list_any, prefix_len, slice_split}
use Rattle.std.specs.Str.{bytes_eq}
use Rattle.std.specs.declared.net.ip_addr.IpAddr.{IpAddr}
use Rattle.std.specs.declared.net.ip_addr.IpAddr.TheVariants as Ip
use Rattle.std.specs.Net.Grammar.{IsIpText}
use Rattle.resolver.specs.declared.addresses.TheConstants.{MAX_ADDRESSES}
use Rattle.resolver.specs.declared.servers.TheConstants.{MAX_SERVERS}
use Rattle.resolver.specs.Names.{bare}
use Rattle.resolver.specs.Replies.{folded}

-- ---- lines and words

-- the lines, split at each LF
abbrev pub lines_of : List ℕ → List (List ℕ)
lines_of text = slice_split (λ b. b == 10) text

-- a line that ends with CR LF has its CR as a blank
abbrev pub is_blank : ℕ → Bool
is_blank b = b == 32 || (b == 9 || b == 13)

abbrev pub word_len : List ℕ → ℕ
word_len line = prefix_len (λ b. not (is_blank b)) line

-- a line without the blanks that it begins with
abbrev pub trimmed : List ℕ → List ℕ
trimmed line = drop (prefix_len is_blank line) line

abbrev pub first_word : List ℕ → List ℕ
first_word line = take (word_len (trimmed line)) (trimmed line)

-- whether this is a word of the line; the case of letters does not count
abbrev pub has_word : List ℕ → List ℕ → Bool
has_word line word = list_any (λ other. bytes_eq (folded other) (folded word)) (slice_split is_blank line)

-- what stands before a comment
abbrev pub uncommented : List ℕ → List ℕ
uncommented line = take (prefix_len (λ b. not (b == 35)) line) line

-- ---- addresses

-- the address that a text spells, if there is a text and it spells one
abbrev pub Spells : Option (List ℕ) → Option IpAddr → Type 0
Spells None said = said ≡ None
Spells (Some text) None = (ip : IpAddr) → IsIpText text ip → ⊥
Spells (Some text) (Some address) = IsIpText text address

-- the text of the name server on a line, after the word that the line must begin with
abbrev pub server_text : List ℕ → Option (List ℕ)
server_text line =
    if bytes_eq (take (word_len line) line) (codes "nameserver") then Some (first_word (drop (word_len line) line)) else None

-- the text of the address on a line, if the line has this name; the empty name stands nowhere
abbrev pub host_text : List ℕ → List ℕ → Option (List ℕ)
host_text name line =
    if length name == 0 then None
    else if has_word (uncommented line) name then Some (first_word (uncommented line)) else None

-- one address more, if there is one and fewer than `most` were found
abbrev pub added : ℕ → Option IpAddr → List IpAddr → List IpAddr
added most None found = found
added most (Some address) found = if nat_lt (length found) most then found ++ address ∷ [] else found

-- the addresses found so far, and those of some lines in order
abbrev pub Collects : (List ℕ → Option (List ℕ)) → ℕ → List (List ℕ) → List IpAddr → List IpAddr → Type 0
Collects text_on most [] found all = all ≡ found
Collects text_on most (line ∷ lines) found all =
    (said : Option IpAddr) × Spells (text_on line) said × Collects text_on most lines (added most said found) all

-- ---- files

-- this machine itself
abbrev pub own4 : IpAddr
own4 = Ip.V4 (record { octets = 127 ∷ 0 ∷ 0 ∷ 1 ∷ [] })

abbrev pub own6 : IpAddr
own6 = Ip.V6 (record { segments = 0 ∷ 0 ∷ 0 ∷ 0 ∷ 0 ∷ 0 ∷ 0 ∷ 1 ∷ [] })

-- these if there is one, else those
abbrev pub or_else : List IpAddr → List IpAddr → List IpAddr
or_else [] others = others
or_else (address ∷ found) others = address ∷ found

-- the first name servers that a text names; this machine if it names none
pub record AreServers (text : List ℕ) (servers : List IpAddr) : Type 0 where
  pub named : List IpAddr
  pub collected : Collects server_text MAX_SERVERS (lines_of text) [] named
  pub all : servers ≡ or_else named (own4 ∷ [])

-- what a name means where no line has it
abbrev pub by_itself : List ℕ → List IpAddr
by_itself name = if bytes_eq (folded name) (codes "localhost") then own4 ∷ own6 ∷ [] else []

-- the addresses of a name
pub record AreKnown (text name : List ℕ) (known : List IpAddr) : Type 0 where
  pub listed : List IpAddr
  pub collected : Collects (host_text (bare name)) MAX_ADDRESSES (lines_of text) [] listed
  pub all : known ≡ or_else listed (by_itself (bare name))
