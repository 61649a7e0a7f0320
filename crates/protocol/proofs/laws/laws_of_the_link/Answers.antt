use Rattle.protocol.proofs.Runs.{new_net_runs, run_same_records, run_never_back, run_fine}
use Rattle.protocol.proofs.Moves.{moves_as_told, next_is_applied, pump_accepts}
use Rattle.protocol.proofs.laws.laws_of_the_link.Goals as goal

pub returns-clause-same_records : goal.returns-clause-same_records
returns-clause-same_records c = run_same_records

pub returns-clause-never_back : goal.returns-clause-never_back
returns-clause-never_back c = run_never_back

pub returns-clause-fine : goal.returns-clause-fine
returns-clause-fine c = run_fine

pub returns-clause-runs : goal.returns-clause-runs
returns-clause-runs c = new_net_runs

pub returns-clause-moves : goal.returns-clause-moves
returns-clause-moves c = moves_as_told

pub returns-clause-applied : goal.returns-clause-applied
returns-clause-applied c = next_is_applied

pub returns-clause-accepted : goal.returns-clause-accepted
returns-clause-accepted c = pump_accepts
