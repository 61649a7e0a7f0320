-- What contracts see of a record in a reply.
use Rattle.std.specs.Prelude.{Option}
use Rattle.std.specs.Option.{option_map}
use Rattle.resolver.specs.declared.records.Record.{Record}
use Rattle.resolver.specs.Replies.{Held}

abbrev pub seen : Option Record → Option Held
seen found = option_map (λ found. record { kind = found.kind.now; contents = found.contents.now; rest = found.rest.now }) found
