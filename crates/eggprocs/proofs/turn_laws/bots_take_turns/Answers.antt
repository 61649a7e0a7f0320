use Rattle.std.proofs.Common.{refl}
use Rattle.eggprocs.specs.declared.proc_name.ProcName.TheVariants as which
use Rattle.eggprocs.proofs.LookLemmas.{acts-at-once, only-looks, left-to-first}
use Rattle.eggprocs.proofs.turn_laws.bots_take_turns.Goals as goal

pub returns : goal.returns
returns c = record {
  at_once = acts-at-once;
  later = only-looks;
  greet = left-to-first which.Greet refl;
  seen = left-to-first which.Seen refl;
  echo = left-to-first which.Echo refl;
  adduser = left-to-first which.AddUser refl;
  topic = left-to-first which.Topic refl;
  invite = left-to-first which.Invite refl;
  ban = left-to-first which.Ban refl;
  unban = left-to-first which.Unban refl;
  keepmodes = left-to-first which.KeepModes refl;
}
