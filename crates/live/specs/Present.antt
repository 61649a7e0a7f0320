-- The guest or leaf that a call is for: a call for nobody never allocates.
use Rattle.std.specs.Prelude.{◌==◌, ℕ, Bool, true, false, Option, None, Some, List}
use Rattle.std.specs.Str.{bytes_eq}
use Rattle.sharewire.specs.declared.packet.Packet.{Packet}
use Rattle.sharewire.specs.declared.packet.Packet.TheVariants.{Hello, Change, Part, Request, Accepted, Refused, BotText}
use Rattle.live.specs.declared.guest.Guest.{Guest}
use Rattle.live.specs.declared.link.End.{End}

-- whether the guest was invited as this nick
abbrev pub is_named : List ℕ → Guest → Bool
is_named nick guest = bytes_eq guest.nick nick

-- whether a connection is that of this leaf
abbrev pub is_leaf : ℕ → Option ℕ → Bool
is_leaf number None = false
is_leaf number (Some leaf) = leaf == number

abbrev pub is_of : ℕ → End → Bool
is_of number end = is_leaf number end.leaf

-- a hello, after which other packets may follow
abbrev pub is_hello : Packet → Bool
is_hello (Hello layout leaf version) = true
is_hello (Change n origin request change) = false
is_hello (Part version part count records) = false
is_hello (Request leaf request change) = false
is_hello (Accepted leaf request n) = false
is_hello (Refused leaf request reason) = false
is_hello (BotText from to text) = false
