use Rattle.std.specs.List.{AllByRecursion}
use Rattle.live.specs.Grammar.{IsGoodCommand}
use Rattle.live.proofs.running.do_all.Given as goal

-- none of those that are left tells a bot a packet
abbrev pub invariant-loop-command : goal.invariant-loop-command
invariant-loop-command g l = AllByRecursion IsGoodCommand l.command-iterator.rest.items
