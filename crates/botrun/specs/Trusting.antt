-- Whom a bot never ignores.
use Rattle.std.specs.Prelude.{ℕ, Bool, List, [], ◌||◌}
use Rattle.flagexpr.specs.Letters.{has_letter}
use Rattle.userfile.specs.Persons.{flags_of}
use Rattle.ircline.specs.Sources.{Source, Nobody, Server, Person, source_of}
use Rattle.chanstate.specs.Views.{account_in, mapping_of}
use Rattle.procs.specs.Identity.{handle_by}
use Rattle.botcore.specs.Automatic.{is_own}
use Rattle.botcore.specs.Bots.{Bot}
use Rattle.botcore.specs.Links.{link_records}

-- a master, an owner, and an op everywhere
abbrev pub is_of_trust : ℕ → Bool
is_of_trust flags = has_letter flags 109 || (has_letter flags 110 || has_letter flags 111)

-- the nick of a person
abbrev pub nick_in : Source → List ℕ
nick_in Nobody = []
nick_in (Server name) = []
nick_in (Person nick user host) = nick

-- the handle by which a bot knows a person: by the account that it knows of the nick first, and else by nick!user@host
abbrev pub handle_at : Bot → List ℕ → List ℕ
handle_at bot person =
    handle_by (mapping_of bot.channels) (link_records bot.link).users (account_in (nick_in (source_of person)) bot.channels) person

-- whether the user of that handle has one of these flags
abbrev pub is_known_trusted : Bot → List ℕ → Bool
is_known_trusted bot person = is_of_trust (flags_of (link_records bot.link).users (handle_at bot person) []).global

-- whether a bot trusts a person: the bot itself, and a user with one of these flags
abbrev pub trusts : Bot → List ℕ → Bool
trusts bot person = is_own (source_of person) bot.channels || is_known_trusted bot person
