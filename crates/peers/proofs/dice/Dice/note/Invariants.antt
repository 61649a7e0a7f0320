use Rattle.peers.proofs.dice.Dice.note.Given as goal

abbrev pub ghost-after : goal.ghost-after
ghost-after a = a._nonce.now
