-- When a bot's journal is rewritten.
use Rattle.std.specs.Prelude.{ℕ, Bool, ◌-◌, ◌==◌, ◌&&◌, ◌||◌, nat_le, nat_lt, if◌then◌else◌}
use Rattle.peers.specs.declared.pumps.TheConstants.{REST}
use Rattle.serverlink.specs.Lines.{is_base_due}
use Rattle.upkeep.specs.declared.bases.Bases.{Bases}
use Rattle.upkeep.specs.declared.bases.TheConstants.{MOST}

-- a bot starts at a version, and it is unknown when its journal was last rewritten
abbrev pub begun : ℕ → Bases
begun version = record { base = 0; from = version; version = version; since = 0 }

-- the bot is at a version at a second: since then, unless it was there before
abbrev pub seen : ℕ → ℕ → Bases → Bases
seen version now bases =
    if (version == bases.version) && nat_lt 0 bases.since then bases else record bases { version = version; since = now }

-- its journal is rewritten
abbrev pub written : ℕ → Bases → Bases
written version bases = record bases { base = version; from = version }

-- Many changes have come since the last rewrite, and none for 30 seconds, or very many since the start or the last
-- rewrite.
abbrev pub is_due : Bases → ℕ → Bool
is_due bases now = is_base_due bases.base bases.version
    && (nat_le REST (now - bases.since) || nat_le MOST (bases.version - bases.from))
