-- What contracts see of a borrowed source.
use Rattle.ircline.specs.declared.sources.Source.{Source as BorrowedSource}
use Rattle.ircline.specs.declared.sources.Source.TheVariants as variant
use Rattle.ircline.specs.Sources.{Source, Nobody, Server, Person}

-- a source without the addresses of its parts
abbrev pub seen : BorrowedSource → Source
seen variant.None = Nobody
seen (variant.Server name) = Server name.now
seen (variant.Person person) = Person person.nick.now person.user.now person.host.now
