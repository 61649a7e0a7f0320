-- Binds that wait for messages of the server.
use Rattle.std.specs.Prelude.{Bool, true, false, List}
use Rattle.std.specs.List.{list_any}
use Rattle.procs.specs.declared.bind.Bind.{Bind}
use Rattle.procs.specs.declared.bind_kind.BindKind.{BindKind}
use Rattle.procs.specs.declared.bind_kind.BindKind.TheVariants.{Raw, Msg, Msgm, Notc, Pub, Pubm, Join, Part, Sign, Kick, Nick, Mode, Topc, Account}
use Rattle.procs.specs.declared.bind_kind.BindKind.TheVariants.{Bot, Time, Cron}

-- whether a kind waits for messages: the other kinds wait for texts of bots, and for minutes
abbrev pub is_of_messages : BindKind → Bool
is_of_messages Raw = true
is_of_messages Msg = true
is_of_messages Msgm = true
is_of_messages Notc = true
is_of_messages Pub = true
is_of_messages Pubm = true
is_of_messages Join = true
is_of_messages Part = true
is_of_messages Sign = true
is_of_messages Kick = true
is_of_messages Nick = true
is_of_messages Mode = true
is_of_messages Topc = true
is_of_messages Account = true
is_of_messages Bot = false
is_of_messages Time = false
is_of_messages Cron = false

-- whether one of these binds waits for messages
abbrev pub hear_messages : List Bind → Bool
hear_messages binds = list_any (λ b. is_of_messages b.kind) binds
