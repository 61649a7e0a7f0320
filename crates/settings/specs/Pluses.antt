-- Ports with a plus before them: the connection is encrypted by TLS, and goes through a tunnel of this machine.
use Rattle.std.specs.Prelude.{ℕ, ◌==◌, ◌||◌, ◌&&◌, ◌+◌, not, nat_le, Bool, true, false, List, [], ◌∷◌, length, Option, None, Some, if◌then◌else◌}
use Rattle.std.specs.List.{list_all}
use Rattle.settings.specs.declared.TheConstants.{MAX_TUNNEL}
use Rattle.settings.specs.declared.settings.Address.{Address}
use Rattle.settings.specs.declared.settings.Server.{Server}

-- a plus stands before a port
abbrev pub has_plus : List ℕ → Bool
has_plus [] = false
has_plus (b ∷ bs) = b == 43

-- the port without it
abbrev pub without_plus : List ℕ → List ℕ
without_plus [] = []
without_plus (b ∷ bs) = if b == 43 then bs else b ∷ bs

-- A host that a tunnel may lead to is part of the name of a file and of the tunnel's configuration, so it has only
-- letters, digits, . - _ and :
abbrev pub is_tls_byte : ℕ → Bool
is_tls_byte b =
    (nat_le 48 b && nat_le b 57) || ((nat_le 65 b && nat_le b 90) || ((nat_le 97 b && nat_le b 122)
    || (b == 46 || (b == 45 || (b == 95 || b == 58)))))

abbrev pub is_tls_host : List ℕ → Bool
is_tls_host host = list_all is_tls_byte host

-- the path of a tunnel's socket has the folder and the host in it, and a path is short
abbrev pub fits : ℕ → Address → Bool
fits folder address = not address.tls || nat_le (folder + length address.host) MAX_TUNNEL

abbrev pub may_fit : ℕ → Option Address → Bool
may_fit folder None = true
may_fit folder (Some address) = fits folder address

abbrev pub hubs_fit : ℕ → List Address → Bool
hubs_fit folder hubs = list_all (λ hub. fits folder hub) hubs

abbrev pub all_fit : ℕ → List Server → Bool
all_fit folder servers = list_all (λ server. fits folder server.address) servers
