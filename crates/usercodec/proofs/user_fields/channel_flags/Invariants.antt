use Rattle.std.proofs.Common.{◌≡◌, take}
use Rattle.usercodec.specs.Users.{entries_of}
use Rattle.usercodec.proofs.user_fields.channel_flags.Given as goal

abbrev pub invariant-loop-entry : goal.invariant-loop-entry
invariant-loop-entry l = l.made.items ≡ entries_of (take l.entry-index l.entries)
