-- Where the sockets of the tunnels lie.
use Rattle.std.specs.Prelude.{ℕ, ◌≤◌, List, ◌++◌, codes, decimal, length, IsUtf8}
use Rattle.settings.specs.declared.settings.Address.{Address}
use Rattle.tunnels.specs.declared.path.TheConstants.{MAX_PATH}

-- a host and its port, with this between them
abbrev pub joined_by : List ℕ → List ℕ → ℕ → List ℕ
joined_by between host port = host ++ (between ++ decimal port)

abbrev pub host_port : Address → List ℕ → List ℕ
host_port address between = joined_by between address.host address.port

-- the socket's name: HOST_PORT
abbrev pub socket_name : Address → List ℕ
socket_name address = host_port address (codes "_")

-- and its path: FOLDER/tls/HOST_PORT
abbrev pub joined_path : List ℕ → List ℕ → ℕ → List ℕ
joined_path folder host port = folder ++ (codes "/tls/" ++ joined_by (codes "_") host port)

abbrev pub tunnel_path : List ℕ → Address → List ℕ
tunnel_path folder address = folder ++ (codes "/tls/" ++ socket_name address)

-- the system takes the path: it is text, and not too long
pub record HasPath (folder : List ℕ) (address : Address) : Type 0 where
  pub folder_is_text : IsUtf8 folder
  pub host_is_text : IsUtf8 address.host
  pub fits : length (tunnel_path folder address) ≤ MAX_PATH
