use Rattle.peers.proofs.account.MailAccount.note.Given as goal

abbrev pub ghost-after : goal.ghost-after
ghost-after a = a._outgoing.now
