-- The sections of servers, one after another.
use Rattle.std.proofs.Common.{◌≡◌, ◌∙◌, ℕ, ◌+◌, ◌<◌, ◌++◌, List, ◌∷◌, length, drop, get_or, ap, sym}
use Rattle.std.proofs.lemmas.List.{drop_more, append_assoc}
use Rattle.settings.specs.declared.settings.Server.{Server}
use Rattle.tunnels.specs.Stunnels.{server_part, servers_text}

-- the next server's section
pub next_section : (folder out new all : List ℕ) (servers later : List Server) (i : ℕ) (server : Server) → i < length servers
    → out ++ servers_text folder (drop i servers) ≡ all
    → server ≡ get_or servers i server
    → later ≡ drop (i + 1) servers
    → new ≡ out ++ server_part folder server.address later
    → new ++ servers_text folder (drop (i + 1) servers) ≡ all
next_section folder out new all servers later i server within so_far here rest is =
    ap (λ text. text ++ servers_text folder (drop (i + 1) servers)) (is ∙ ap (λ those. out ++ server_part folder server.address those) rest)
    ∙ append_assoc out (server_part folder server.address (drop (i + 1) servers)) (servers_text folder (drop (i + 1) servers))
    ∙ ap (λ rest. out ++ servers_text folder rest)
    (ap (λ it. it ∷ drop (i + 1) servers) here ∙ sym (drop_more servers i server within))
    ∙ so_far
