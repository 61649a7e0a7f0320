use Rattle.protocol.specs.History.{start}
use Rattle.protocol.proofs.Rights.{rights}
use Rattle.processes.proofs.Running.{stands_at_version, run_goes, first_stands, run_same_records, run_never_back, stands_once}
use Rattle.processes.proofs.Running.{run_begins_anew}
use Rattle.processes.proofs.Calling.{run_same_calls, run_same_calls_ignoring_channels}
use Rattle.processes.proofs.Dying.{step_dies}
use Rattle.processes.proofs.Deeds.{deed_goes}
use Rattle.processes.proofs.Renewing.{made_replaces}
use Rattle.processes.proofs.Turning.{steps_are_deeds}
use Rattle.processes.proofs.laws.laws_of_processes.Goals as goal

pub returns-clause-begins : goal.returns-clause-begins
returns-clause-begins g c = first_stands

pub returns-clause-goes : goal.returns-clause-goes
returns-clause-goes g c = λ w h deeds st run. (run_goes g.P.Promise.promised w h deeds st run).reaches

pub returns-clause-at_version : goal.returns-clause-at_version
returns-clause-at_version g c = stands_at_version

pub returns-clause-allowed : goal.returns-clause-allowed
returns-clause-allowed g c = λ w h st. (rights h st.moment.sound).allowed

pub returns-clause-ranks : goal.returns-clause-ranks
returns-clause-ranks g c = λ w h st. (rights h st.moment.sound).ranks

pub returns-clause-nobody_climbs : goal.returns-clause-nobody_climbs
returns-clause-nobody_climbs g c = λ w h st. (rights h st.moment.sound).nobody_climbs

pub returns-clause-nobody_becomes_owner : goal.returns-clause-nobody_becomes_owner
returns-clause-nobody_becomes_owner g c = λ w h st. (rights h st.moment.sound).nobody_becomes_owner

pub returns-clause-same_records : goal.returns-clause-same_records
returns-clause-same_records g c = λ count w first more is run. run_same_records g.P.Promise.promised
    count w first more is run

pub returns-clause-never_back : goal.returns-clause-never_back
returns-clause-never_back g c = λ count w first more is run. run_never_back g.P.Promise.promised count
    w first more is run

pub returns-clause-grows_as_told : goal.returns-clause-grows_as_told
returns-clause-grows_as_told g c = λ w h deed st happens. (deed_goes w h st g.P.Promise.promised deed happens).leads

pub returns-clause-once : goal.returns-clause-once
returns-clause-once g c =
    λ count w deeds is run.
    let last = (run_goes g.P.Promise.promised w (start count) deeds (first_stands count w is) run).reaches in
    stands_once _ last.after last.stands

pub returns-clause-begins_anew : goal.returns-clause-begins_anew
returns-clause-begins_anew g c = λ count w first more leaf new is run stays. run_begins_anew g.P.Promise.promised count
    w first more leaf new is run stays

pub returns-clause-replaced : goal.returns-clause-replaced
returns-clause-replaced g c = λ w hub end config first second bot at has above many makes.
    made_replaces w hub end config bot at has above many makes.0 makes.1

pub returns-clause-same_calls : goal.returns-clause-same_calls
returns-clause-same_calls g c =
    λ count w deeds is run i j one other s t a b. run_same_calls g.P.Promise.promised count w deeds is
    run i j one other s t a b

pub returns-clause-same_calls_ignoring_channels : goal.returns-clause-same_calls_ignoring_channels
returns-clause-same_calls_ignoring_channels g c =
    λ ignores count w deeds is run i j one other s t a b. run_same_calls_ignoring_channels g.P.Promise.promised count w deeds is
    run ignores i j one other s t a b

pub returns-clause-turned : goal.returns-clause-turned
returns-clause-turned g c = λ w bot names old new events reports at told steps.
    steps_are_deeds g.P.Promise.promised w bot names old new events reports at told steps

pub returns-clause-stopped : goal.returns-clause-stopped
returns-clause-stopped g c = λ first second link leaves x y left right. (leaves x y left right).mean

pub returns-clause-died : goal.returns-clause-died
returns-clause-died g c = λ names event was after report x y leaves takes crash.
    step_dies g.P.Promise.promised names event was report after x y leaves takes crash
