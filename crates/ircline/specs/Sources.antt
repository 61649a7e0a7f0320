-- The source of a message, by its prefix (RFC 2812 section 2.3.1: a server's name, or a nick with user and host). Three
-- points are our own choice: a nick may have a host without a user, it may have a user without a host, and a bare name
-- without a dot is a nick, since the RFC's grammar leaves bare names open.
-- The bytes: 33 is '!', 46 is '.', 64 is '@'.
use Rattle.std.specs.Prelude.{ℕ, Bool, List, [], ◌∷◌, ◌&&◌, not, if◌then◌else◌}
use Rattle.ircline.specs.Words.{holds, before, behind}

-- a prefix as its parts: none, a server's name, or a person
pub data Source : Type 0 where
  Nobody : Source
  Server : List ℕ → Source
  Person : List ℕ → List ℕ → List ℕ → Source

-- what is before the first '!', or if there is no '!' before the first '@'
abbrev pub nick_of : List ℕ → List ℕ
nick_of prefix = if holds 33 prefix then before 33 prefix else before 64 prefix

-- what is between the first '!' and the first '@' after it; empty without a '!'
abbrev pub user_of : List ℕ → List ℕ
user_of prefix = if holds 33 prefix then before 64 (behind 33 prefix) else []

-- what is after that '@', or without a '!' after the first '@'; empty if there is no such '@'
abbrev pub host_of : List ℕ → List ℕ
host_of prefix = if holds 33 prefix then behind 64 (behind 33 prefix) else behind 64 prefix

-- a server's name has a dot, and neither '!' nor '@'
abbrev pub is_server : List ℕ → Bool
is_server prefix = not (holds 33 prefix) && (not (holds 64 prefix) && holds 46 prefix)

-- the parts of a prefix; the empty prefix has none
abbrev pub source_of : List ℕ → Source
source_of [] = Nobody
source_of (b ∷ bs) =
    if is_server (b ∷ bs) then Server (b ∷ bs) else Person (nick_of (b ∷ bs)) (user_of (b ∷ bs)) (host_of (b ∷ bs))
