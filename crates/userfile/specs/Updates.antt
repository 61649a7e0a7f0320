-- What making a change ready returns.
use Rattle.std.specs.Prelude.{◌≡◌, Some, None}
use Rattle.std.specs.Borrow.{Fml, MutBor, RestsIfErr}
use Rattle.std.specs.declared.result.Result.{Result}
use Rattle.bytetext.specs.declared.failure.Failure.{Failure}
use Rattle.bytetext.specs.declared.failure.Failure.TheVariants.{Refused, NoMemory}
use Rattle.userfile.specs.Records.{Records}
use Rattle.userfile.specs.Apply.{refusal, changed}
use Rattle.userfile.specs.Plans.{before, after, Suits}
use Rattle.userfile.specs.declared.change.Change.{Change}
use Rattle.userfile.specs.declared.error.ChangeFault.{ChangeFault}
use Rattle.userfile.specs.declared.plan.Plan.{Plan}
use Rattle.userfile.specs.declared.update.Update.{Update}
use Rattle.userfile.specs.contracts.userfile.Userfile.{the_row}

-- the records before the change
abbrev pub records_before : Update Plan → Records
records_before update = before update.plan update.change.now.edit update.userfile.now

-- the records after the change
abbrev pub records_after : Update Plan → Records
records_after update = after update.plan update.change.now.edit update.userfile.now

-- an update has what its change needs
abbrev pub IsSuited : Update Plan → Type 0
IsSuited update = Suits update.plan update.change.now.edit update.userfile.now

-- the update is that of this change of the records `old`, and the change isn't refused
pub record IsReady (change : Change) (old : Records) (update : Update Plan) : Type 0 where
  pub taken : refusal old change ≡ None
  pub earlier : records_before update ≡ old
  pub later : records_after update ≡ changed old change
  pub suits : IsSuited update

-- why a change isn't ready
abbrev pub IsWhy : Change → Records → Failure ChangeFault → Type 0
IsWhy change old (Refused fault) = refusal old change ≡ Some fault
IsWhy change old NoMemory = refusal old change ≡ None

-- if the call fails, the userfile behind its reference is as before
abbrev pub rests_if_refused : {E : Type 0} → MutBor Records → Result (Update Plan) E → Fml
rests_if_refused s r = RestsIfErr the_row s (λ update. update.userfile.ghost_name) r (λ left. left ≡ s.now)
