use Rattle.std.proofs.Common.{Result, Ok, Err, OnOk, ap, refl}
use Rattle.watching.proofs.FollowingLemmas.{at_watched}
use Rattle.watching.proofs.SendingLemmas.{up_quiet}
use Rattle.botrun.proofs.StationLemmas.{up_same}
use Rattle.botrun.proofs.process.Process.execute.Goals as goal

-- what holds in any case holds where a call succeeds
always : {X E P : Type 0} (result : Result X E) → P → OnOk result P
always (Ok x) p = p
always (Err e) p = tt

pub bind-requires : goal.bind-requires
bind-requires g c = record { watched = at_watched _ _ _ _ _ _ c.requires.up.even.at }

pub unbind-requires : goal.unbind-requires
unbind-requires g c = record { watched = at_watched _ _ _ _ _ _ c.requires.up.even.at }

pub returns-in-Show : goal.returns-in-Show
returns-in-Show g c = record { up = always c.show.result c.requires.up }

pub returns-in-Changes : goal.returns-in-Changes
returns-in-Changes g c = record { up = always c.changes.result c.requires.up }

pub returns-in-Status : goal.returns-in-Status
returns-in-Status g c = record { up = always c.status.result c.requires.up }

pub returns-in-StatusJson : goal.returns-in-StatusJson
returns-in-StatusJson g c = record { up = always c.status_json.result c.requires.up }

pub returns-in-HandOver : goal.returns-in-HandOver
returns-in-HandOver g c = record {
  up = always c.begin_hand_over.result (up_same _ _ _ _ _ _ _ _ _ c.begin_hand_over.ensures.bot
      (ap (λ mail. mail.account.told) c.begin_hand_over.ensures.mail) c.requires.up);
}

pub returns-in-Bind : goal.returns-in-Bind
returns-in-Bind g c = record {
  up = always c.bind.result (up_quiet _ _ _ _ _ _ _ _ _ _ c.requires.up c.bind.ensures refl);
}

pub returns-in-Unbind : goal.returns-in-Unbind
returns-in-Unbind g c = record {
  up = always c.unbind.result (up_quiet _ _ _ _ _ _ _ _ _ _ c.requires.up c.unbind.ensures refl);
}

pub returns-in-Say : goal.returns-in-Say
returns-in-Say g c = record { up = always c.say.result c.requires.up }

pub returns-in-Jump : goal.returns-in-Jump
returns-in-Jump g c = record { up = always c.jump.result c.requires.up }

pub returns-in-Renew : goal.returns-in-Renew
returns-in-Renew g c = record { up = always c.renew.result c.requires.up }

pub returns-in-Trust : goal.returns-in-Trust
returns-in-Trust g c = record { up = always c.trust.result c.requires.up }

pub returns-in-Die : goal.returns-in-Die
returns-in-Die g c = record { up = always c.die.result c.requires.up }

pub reload-requires-clause-watched : goal.reload-requires-clause-watched
reload-requires-clause-watched g c = at_watched _ _ _ _ _ _ c.requires.up.even.at

pub returns-in-Reload : goal.returns-in-Reload
returns-in-Reload g c = record {
  up = always c.reload.result (up_quiet _ _ _ _ _ _ _ _ _ _ c.requires.up c.reload.ensures refl);
}

pub returns-in-Reopen : goal.returns-in-Reopen
returns-in-Reopen g c = record { up = always c.reopen.result c.requires.up }

pub returns-in-Backup : goal.returns-in-Backup
returns-in-Backup g c = record { up = always c.backup.result c.requires.up }

pub returns-in-Join : goal.returns-in-Join
returns-in-Join g c = record { up = always c.join.result c.requires.up }

pub returns-in-Part : goal.returns-in-Part
returns-in-Part g c = record { up = always c.part.result c.requires.up }
