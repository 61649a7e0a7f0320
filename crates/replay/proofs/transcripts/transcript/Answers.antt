use Rattle.std.proofs.Common.{ℕ}
use Rattle.std.specs.declared.vec.Vec.{Vec}
use Rattle.std.specs.declared.alloc.Global.{Global}
use Rattle.script.proofs.Faults.{HasFault-not_spelled}
use Rattle.replay.proofs.Endings.{TellsFault-read, TellsWhy-read}
use Rattle.replay.proofs.transcripts.transcript.Goals as goal

pub returns-in_ok-text_of-in-Ok-clause-whole : goal.returns-in_ok-text_of-in-Ok-clause-whole
returns-in_ok-text_of-in-Ok-clause-whole g c = record { script = c.in-Ok.script; spells = c.in-Ok.ensures.reads; tells = c.in_ok-text_of-in-Ok.ensures }

pub returns-in_ok-text_of-in-Ok-clause-faulty : goal.returns-in_ok-text_of-in-Ok-clause-faulty
returns-in_ok-text_of-in-Ok-clause-faulty g c = λ line fault. HasFault-not_spelled c.args.script.now line c.in-Ok.script fault c.in-Ok.ensures.reads

pub returns-in-Err-clause-faulty : goal.returns-in-Err-clause-faulty
returns-in-Err-clause-faulty g c = λ line fault. TellsFault-read (Vec ℕ Global) c.args.script.now line c.in-Err.error c.in-Err.ensures.reads fault

pub returns-in-Err-clause-reasons : goal.returns-in-Err-clause-reasons
returns-in-Err-clause-reasons g c = TellsWhy-read (Vec ℕ Global) c.args.script.now c.in-Err.error c.in-Err.ensures.reasons
