-- The classes of bytes and words that RFC 2812 section 2.3.1 names, as tests.
-- The bytes: 0 is NUL, 10 LF, 13 CR, 32 a space, 58 ':'; 48 to 57 are digits, 65 to 90 and 97 to 122 letters.
use Rattle.std.specs.Prelude.{ℕ, ◌-◌, Bool, false, List, [], ◌∷◌, ◌&&◌, ◌||◌, ◌==◌, nat_le, nat_lt, not, length, if◌then◌else◌}
use Rattle.std.specs.List.{list_all}
use Rattle.ircline.specs.Sources.{nick_of}

-- a byte that ends a line
abbrev pub is_end : ℕ → Bool
is_end b = b == 13 || b == 10

-- ":" / " " / nospcrlfcl: any octet except NUL, CR and LF
abbrev pub octet : ℕ → Bool
octet b = not (b == 0) && not (is_end b)

-- ":" / nospcrlfcl: any octet except NUL, CR, LF and " "
abbrev pub nospcrlf : ℕ → Bool
nospcrlf b = octet b && not (b == 32)

-- whether there is a byte
abbrev pub filled : List ℕ → Bool
filled text = nat_lt 0 (length text)

-- middle = nospcrlfcl *( ":" / nospcrlfcl ), where nospcrlfcl is nospcrlf without ":"
abbrev pub middle : List ℕ → Bool
middle [] = false
middle (b ∷ bs) = not (b == 58) && list_all nospcrlf (b ∷ bs)

-- trailing = *( ":" / " " / nospcrlfcl )
abbrev pub trailing : List ℕ → Bool
trailing text = list_all octet text

-- letter = %x41-5A / %x61-7A
abbrev pub letter : ℕ → Bool
letter b = (nat_le 65 b && nat_le b 90) || (nat_le 97 b && nat_le b 122)

-- digit = %x30-39
abbrev pub digit : ℕ → Bool
digit b = nat_le 48 b && nat_le b 57

-- command = 1*letter / 3digit
abbrev pub command : List ℕ → Bool
command text = (filled text && list_all letter text) || (length text == 3 && list_all digit text)

-- prefix = servername / ( nickname [ [ "!" user ] "@" host ] ). Servers differ in what they allow in a name, so only
-- two things are required here: no part has a space, and there is a nick or a server's name.
abbrev pub names : List ℕ → Bool
names text = list_all nospcrlf text && filled (nick_of text)

-- a letter in upper case, any other byte as it is
abbrev pub upper : ℕ → ℕ
upper b = if nat_le 97 b && nat_le b 122 then b - 32 else b
