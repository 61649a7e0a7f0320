-- The binds that a bot has without a line of its configuration: of the proc that keeps bans.
use Rattle.std.specs.Prelude.{◌≡◌, ℕ, List, codes, if◌then◌else◌}
use Rattle.procs.specs.Calling.{holds}
use Rattle.procs.specs.Tables.{Asked, bound}
use Rattle.procs.specs.declared.bind_kind.BindKind.{BindKind}
use Rattle.procs.specs.declared.bind_kind.BindKind.TheVariants.{Join, Mode}
use Rattle.botcore.specs.Bots.{Bot}

-- a bind of that proc, for anybody
abbrev pub keeper_asked : BindKind → List ℕ → Asked
keeper_asked kind mask = record { kind = kind; flags = codes "-"; mask = mask; proc = codes "keepbans" }

abbrev pub with_bind : Asked → Bot → Bot
with_bind asked bot = record bot { binds = bound bot.binds asked }

-- the proc is called when somebody joins, and when somebody removes a ban
abbrev pub with_keeper : Bot → Bot
with_keeper bot = with_bind (keeper_asked Mode (codes "* -b")) (with_bind (keeper_asked Join (codes "*")) bot)

-- if the store holds it
abbrev pub kept_by : List (List ℕ) → Bot → Bot
kept_by names bot = if holds names (codes "keepbans") then with_keeper bot else bot

-- these binds were made last
abbrev pub HasKeeper : List (List ℕ) → Bot → Type 0
HasKeeper names bot = (before : Bot) × (bot ≡ kept_by names before)
