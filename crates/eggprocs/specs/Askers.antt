-- In whose name a proc requests a change: in the caller's, by the caller's claim and the casemapping of the bot's server. By
-- these two the bot finds the caller's handle, and the userfile what the caller may change.
use Rattle.std.specs.Prelude.{ℕ, List, ◌++◌, codes}
use Rattle.userfile.specs.Changes.{by_person}
use Rattle.userfile.specs.declared.change.Asker.{Asker}
use Rattle.userfile.specs.declared.change.Change.{Change}
use Rattle.userfile.specs.declared.edit.Edit.{Edit}
use Rattle.chanstate.specs.Views.{mapping_of, account_in}
use Rattle.procs.specs.declared.call.Call.{Call}
use Rattle.procs.specs.Identity.{claim_by}
use Rattle.procs.specs.Seen.{Seen}
use Rattle.eggprocs.specs.Args.{arg_at, nick_of}

-- the caller as nick!user@host
abbrev pub caller_address : Call → List ℕ
caller_address call = nick_of call ++ codes "!" ++ arg_at call.args 1

-- the account under which the caller is logged in, as the bot's channels show it; empty if none is known
abbrev pub caller_account : Call → Seen → List ℕ
caller_account call seen = account_in (nick_of call) seen.sight.channels

-- the caller's claim: $a:NAME if a user has a hostmask of the caller's account NAME, and else nick!user@host
abbrev pub caller_claim : Call → Seen → List ℕ
caller_claim call seen =
    claim_by (mapping_of seen.sight.channels) seen.sight.records.users (caller_account call seen) (caller_address call)

-- who asks for what a caller wants
abbrev pub asker_of : Call → Seen → Asker
asker_of call seen = record { person = caller_claim call seen; casemapping = mapping_of seen.sight.channels }

-- an edit of the userfile, requested in the caller's name
abbrev pub in_callers_name : Call → Seen → Edit → Change
in_callers_name call seen edit = by_person (asker_of call seen) edit
