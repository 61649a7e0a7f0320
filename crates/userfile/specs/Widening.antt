-- What a server's casemapping never widens: who is known, and whom a ban keeps off.
use Rattle.std.specs.Prelude.{◌≡◌, ℕ, true, List, Some, None}
use Rattle.std.specs.List.{list_any}
use Rattle.rfccase.specs.declared.casemappings.Casemapping.{Casemapping}
use Rattle.rfccase.specs.declared.casemappings.Casemapping.TheVariants.{Rfc1459}
use Rattle.userfile.specs.declared.user.User.{User}
use Rattle.userfile.specs.declared.ban.Ban.{Ban}
use Rattle.userfile.specs.Hostmasks.{is_match}
use Rattle.userfile.specs.Persons.{user_for, bars, ban_for, returns_to, sticky_ban}

-- a mask that matches by a server's casemapping matches by that of RFC 2812
abbrev pub MatchIsWider : Casemapping → Type 0
MatchIsWider mapping = (mask who : List ℕ) → is_match mapping mask who ≡ true → is_match Rfc1459 mask who ≡ true

-- the user that a person is has a mask that matches by the casemapping of RFC 2812
abbrev pub KnownIsWider : Casemapping → Type 0
KnownIsWider mapping =
    (users : List User) (who : List ℕ) (user : User) → user_for mapping who users ≡ Some user
    → list_any (λ mask. is_match Rfc1459 mask who) user.masks ≡ true

-- a person whom the casemapping of RFC 2812 leaves unknown is unknown by a server's
abbrev pub StrangersStay : Casemapping → Type 0
StrangersStay mapping = (users : List User) (who : List ℕ) → user_for Rfc1459 who users ≡ None → user_for mapping who users ≡ None

-- the ban that keeps a person off a channel keeps that person off by the casemapping of RFC 2812: its mask matches, and
-- it is of that channel or of all
abbrev pub BanIsWider : Casemapping → Type 0
BanIsWider mapping =
    (bans : List Ban) (channel who : List ℕ) (now : ℕ) (ban : Ban) → ban_for mapping bans channel who now ≡ Some ban
    → bars Rfc1459 channel who now ban ≡ true

-- the ban that comes back to a channel comes back by the casemapping of RFC 2812
abbrev pub StickyIsWider : Casemapping → Type 0
StickyIsWider mapping =
    (bans : List Ban) (channel mask : List ℕ) (now : ℕ) (ban : Ban) → sticky_ban mapping bans channel mask now ≡ Some ban
    → returns_to Rfc1459 channel mask now ban ≡ true
