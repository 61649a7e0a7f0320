use Rattle.eggprocs.proofs.LookLemmas.{own-line-only, wants-op, wants-the-banned, wants-somebody, wants-the-same-person, wants-it-undone}
use Rattle.eggprocs.proofs.turn_laws.looks_want_it_undone.Goals as goal

pub returns : goal.returns
returns c = record {
  line = own-line-only;
  op = wants-op;
  banned = wants-the-banned;
  somebody = wants-somebody;
  same_person = wants-the-same-person;
  undone = wants-it-undone;
}
