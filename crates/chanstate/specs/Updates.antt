-- What a call that failed leaves.
use Rattle.std.specs.Prelude.{◌≡◌}
use Rattle.std.specs.Borrow.{Fml, MutBor, RestsIfErr}
use Rattle.std.specs.declared.result.Result.{Result}
use Rattle.chanstate.specs.declared.state.ChanState.{ChanState}
use Rattle.chanstate.specs.declared.state_update.StateUpdate.{StateUpdate}
use Rattle.chanstate.specs.declared.state_update.Made.{Made}
use Rattle.chanstate.specs.contracts.state.ChanState.{the_row}

-- the state behind the reference that a failed call got is unchanged
abbrev pub rests_if_refused : {E : Type 0} → MutBor ChanState → Result (StateUpdate Made) E → Fml
rests_if_refused s r = RestsIfErr the_row s (λ update. update.state.ghost_name) r (λ left. left ≡ s.now)
