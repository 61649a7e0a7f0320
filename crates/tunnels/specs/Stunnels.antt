-- What stunnel is told of a bot's tunnels.
use Rattle.std.specs.Prelude.{ℕ, ◌==◌, ◌&&◌, ◌||◌, not, Bool, false, List, [], ◌∷◌, ◌++◌, Option, None, Some, if◌then◌else◌, codes, decimal}
use Rattle.std.specs.List.{flat_map, list_any}
use Rattle.std.specs.Str.{bytes_eq}
use Rattle.settings.specs.Addresses.{is_address}
use Rattle.settings.specs.declared.settings.Address.{Address}
use Rattle.settings.specs.declared.settings.Server.{Server}
use Rattle.settings.specs.declared.settings.Settings.{Settings}
use Rattle.tunnels.specs.Paths.{host_port, socket_name, tunnel_path}
use Rattle.tunnels.specs.declared.stunnel.TheConstants.{ACCEPT, CLIENT, CONNECT, HEAD, IDENTITY, KEYED, OPEN, VERIFIED}

-- ---- which addresses have a tunnel

abbrev pub uses_tls : Option Address → Bool
uses_tls None = false
uses_tls (Some address) = address.tls

abbrev pub has_tunnels : Settings → Bool
has_tunnels settings =
    list_any (λ hub. hub.tls) settings.hubs || (uses_tls settings.listen || list_any (λ server. server.address.tls) settings.servers)

-- two lines with a plus name the same
abbrev pub same_address : Address → Address → Bool
same_address one other = other.tls && (one.port == other.port && bytes_eq one.host other.host)

abbrev pub is_named : Address → List Server → Bool
is_named address servers = list_any (λ server. same_address address server.address) servers

-- ---- a server: stunnel verifies whose certificate it shows

-- The certificate is to be that of the host, which is asked for by its name. An address is no such name (RFC 6066
-- section 3).
unfoldable pub check_options : List ℕ → List ℕ
check_options host =
    if is_address host then codes "checkIP = " ++ (host ++ codes "\nsni =\n")
    else codes "checkHost = " ++ (host ++ (codes "\nsni = " ++ (host ++ codes "\n")))

-- the chain of certificates is verified, and the host is looked up when a connection begins
unfoldable pub verified_options : List ℕ
verified_options = VERIFIED.now

-- a section that accepts at the socket
unfoldable pub accept_options : List ℕ → Address → List ℕ
accept_options folder address = OPEN.now ++ (socket_name address ++ (CLIENT.now ++ tunnel_path folder address))

-- and connects to the host
unfoldable pub connect_option : Address → List ℕ
connect_option address = CONNECT.now ++ (host_port address (codes ":") ++ codes "\n")

unfoldable pub server_section : List ℕ → Address → List ℕ
server_section folder address =
    accept_options folder address ++ (connect_option address ++ (check_options address.host ++ verified_options))

-- a server without a plus has none, and of several with one address the last has
abbrev pub server_part : List ℕ → Address → List Server → List ℕ
server_part folder address later =
    if address.tls && not (is_named address later) then server_section folder address else []

abbrev pub servers_text : List ℕ → List Server → List ℕ
servers_text folder [] = []
servers_text folder (server ∷ later) = server_part folder server.address later ++ servers_text folder later

-- ---- the link of two bots: no certificate counts, only a key that both have

unfoldable pub key_options : List ℕ → List ℕ
key_options folder = KEYED.now ++ (folder ++ codes "/tls/keys\n")

-- the name of a leaf's key
unfoldable pub identity_option : ℕ → List ℕ
identity_option leaf = IDENTITY.now ++ (decimal leaf ++ codes "\n")

-- a leaf's stunnel accepts at the socket, and connects to the hub's
unfoldable pub hub_section : List ℕ → Address → ℕ → List ℕ
hub_section folder address leaf =
    accept_options folder address ++ (connect_option address ++ (identity_option leaf ++ key_options folder))

abbrev pub hub_part : List ℕ → ℕ → Address → List ℕ
hub_part folder leaf hub = if hub.tls then hub_section folder hub leaf else []

-- no two hubs have the same address
abbrev pub hubs_text : List ℕ → ℕ → List Address → List ℕ
hubs_text folder leaf hubs = flat_map (λ hub. hub_part folder leaf hub) hubs

-- a section that accepts at the address
unfoldable pub door_options : Address → List ℕ
door_options address = OPEN.now ++ (socket_name address ++ (ACCEPT.now ++ host_port address (codes ":")))

-- and connects to the bot's socket
unfoldable pub bot_option : List ℕ → Address → List ℕ
bot_option folder address = CONNECT.now ++ (tunnel_path folder address ++ codes "\n")

-- a hub's stunnel accepts at the address, and connects to the socket
unfoldable pub listen_section : List ℕ → Address → List ℕ
listen_section folder address =
    door_options address ++ (bot_option folder address ++ key_options folder)

abbrev pub listen_part : List ℕ → Option Address → List ℕ
listen_part folder None = []
listen_part folder (Some address) = if address.tls then listen_section folder address else []

-- ---- all of them

-- what is said of all: stunnel stays the child of whoever started it, writes no file, and logs to standard error
unfoldable pub head_text : List ℕ
head_text = HEAD.now

abbrev pub stunnel_text : Settings → List ℕ
stunnel_text settings =
    head_text ++ (servers_text settings.folder settings.servers
    ++ (hubs_text settings.folder settings.station.number settings.hubs ++ listen_part settings.folder settings.listen))
