use Rattle.botworld.specs.Network.{AllNew}
use Rattle.net_tests.proofs.nets.new_bots.Given as goal

abbrev pub invariant-loop-number : goal.invariant-loop-number
invariant-loop-number l = AllNew l.bots.items
