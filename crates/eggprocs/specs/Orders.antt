-- The commands by which masters change the userfile, and how each is used.
use Rattle.std.specs.Prelude.{ℕ, List, codes, Option}
use Rattle.userfile.specs.declared.edit.Edit.{Edit}
use Rattle.procs.specs.declared.action.Action.{Action}
use Rattle.procs.specs.declared.call.Call.{Call}
use Rattle.procs.specs.Seen.{Seen}
use Rattle.eggprocs.specs.declared.orders.Order.{Order}
use Rattle.eggprocs.specs.declared.orders.Order.TheVariants.{PlusUser, MinusUser, PlusHost, MinusHost, Chattr, Stick, Unstick}
use Rattle.eggprocs.specs.Args.{told_of}
use Rattle.eggprocs.specs.Marks.{stick, unstick}
use Rattle.eggprocs.specs.People.{asked_by_command, plus_user, minus_user, plus_host, minus_host, chattr}
use Rattle.eggprocs.specs.Rights.{standing_of}

-- what the NOTICE says if a word is missing
abbrev pub usage_of : Order → List ℕ
usage_of PlusUser = codes "use +user HANDLE"
usage_of MinusUser = codes "use -user HANDLE"
usage_of PlusHost = codes "use +host HANDLE MASK"
usage_of MinusHost = codes "use -host HANDLE MASK"
usage_of Chattr = codes "use chattr HANDLE FLAGS"
usage_of Stick = codes "use stick MASK CHANNEL"
usage_of Unstick = codes "use unstick MASK CHANNEL"

-- the edit that a text means
abbrev pub wish_of : Order → List ℕ → Option Edit
wish_of PlusUser text = plus_user text
wish_of MinusUser text = minus_user text
wish_of PlusHost text = plus_host text
wish_of MinusHost text = minus_host text
wish_of Chattr text = chattr text
wish_of Stick text = stick text
wish_of Unstick text = unstick text

-- what such a command requests
abbrev pub asked_by_order : Order → Call → Seen → List Action
asked_by_order order call seen = asked_by_command (standing_of call seen) call seen (usage_of order) (wish_of order (told_of call))
