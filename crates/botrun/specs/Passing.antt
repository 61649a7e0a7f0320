-- What a turn's steps send to a server, and which changes the hub takes from a bot.
use Rattle.std.specs.Prelude.{ℕ, ◌||◌, List, [], ◌∷◌, Option, option_map, if◌then◌else◌}
use Rattle.administrators.specs.declared.noticing.HubTakes.{HubTakes}
use Rattle.administrators.specs.declared.noticing.HubTakes.TheVariants.{All, OfPersons, Nothing}
use Rattle.botcore.specs.declared.report.Report.{Report}
use Rattle.net.specs.Connections.{Talk}
use Rattle.peers.specs.Asking.{is_new_leaf, may_ask, may_ask_nameless}
use Rattle.peers.specs.declared.links.Links.{Links}
use Rattle.serverlink.specs.Talks.{told}

-- these lines, one after another
abbrev pub told_all : List (List ℕ) → Option Talk → Option Talk
told_all [] talk = talk
told_all (line ∷ lines) talk = told_all lines (option_map (told line) talk)

-- the lines of these reports, one report after another
abbrev pub told_of : List Report → Option Talk → Option Talk
told_of [] talk = talk
told_of (report ∷ reports) talk = told_of reports (told_all report.lines talk)

-- which changes the hub takes from this bot, as a leaf knows it; one that was never linked doesn't know yet
abbrev pub hub_takes : Links → HubTakes
hub_takes links =
    if is_new_leaf links || may_ask_nameless links then All
    else if may_ask links then OfPersons
    else Nothing
