use Rattle.std.proofs.Common.{◌∷◌, refl}
use Rattle.heirs.proofs.Requests.{stands_once}
use Rattle.heirs.proofs.Lines.{begins, lost_nothing, stands_whole, descends_stands, net_same_records, ancestors_agree, hub_not_below, hands_over, net_never_back}
use Rattle.heirs.proofs.Calls.{net_same_calls, ancestors_same_calls}
use Rattle.heirs.proofs.Example.{catches_up}
use Rattle.heirs.proofs.Folders.{can_show, is_founded}
use Rattle.heirs.proofs.laws.laws_of_heirs.Goals as goal

pub returns-clause-begins : goal.returns-clause-begins
returns-clause-begins g c = λ old h st bot version count w is. begins old h st bot version count w is

pub returns-clause-nothing_lost : goal.returns-clause-nothing_lost
returns-clause-nothing_lost g c = lost_nothing

pub returns-clause-all_stands : goal.returns-clause-all_stands
returns-clause-all_stands g c = stands_whole

pub returns-clause-stands : goal.returns-clause-stands
returns-clause-stands g c =
    descends_stands g.P.Promise.promised c.laws_of_processes.ensures.goes c.laws_of_processes.ensures.begins

pub returns-clause-same_records : goal.returns-clause-same_records
returns-clause-same_records g c = λ ancestors w deeds d run.
    net_same_records g.P.Promise.promised c.laws_of_processes.ensures.goes c.laws_of_processes.ensures.begins
    ancestors w deeds d run

pub returns-clause-agree : goal.returns-clause-agree
returns-clause-agree g c = λ parent others w deeds d run i j one other version le.
    ancestors_agree g.P.Promise.promised c.laws_of_processes.ensures.goes c.laws_of_processes.ensures.begins
    (parent ∷ others) w deeds d run 0 parent refl i j one other version (le, tt)

pub returns-clause-agree_with_ancestors : goal.returns-clause-agree_with_ancestors
returns-clause-agree_with_ancestors g c = λ ancestors w deeds d run.
    ancestors_agree g.P.Promise.promised c.laws_of_processes.ensures.goes c.laws_of_processes.ensures.begins
    ancestors w deeds d run

pub returns-clause-never_back : goal.returns-clause-never_back
returns-clause-never_back g c = λ ancestors w first more d run.
    net_never_back g.P.Promise.promised c.laws_of_processes.ensures.goes c.laws_of_processes.ensures.begins
    ancestors w first more d run

pub returns-clause-not_below : goal.returns-clause-not_below
returns-clause-not_below g c = λ parent others w deeds d run.
    hub_not_below g.P.Promise.promised c.laws_of_processes.ensures.goes c.laws_of_processes.ensures.begins
    parent others w d deeds run

pub returns-clause-once : goal.returns-clause-once
returns-clause-once g c = λ ancestors w deeds d run.
    let here = descends_stands g.P.Promise.promised c.laws_of_processes.ensures.goes c.laws_of_processes.ensures.begins ancestors w d in
    let last = c.laws_of_processes.ensures.goes w here.0 deeds here.1 run in
    stands_once _ last.after last.stands

pub returns-clause-handed_over : goal.returns-clause-handed_over
returns-clause-handed_over g c = λ parent others w d.
    hands_over g.P.Promise.promised c.laws_of_processes.ensures.goes c.laws_of_processes.ensures.begins parent others w d

pub returns-clause-stopped : goal.returns-clause-stopped
returns-clause-stopped g c = can_show g.P.Promise.promised

pub returns-clause-founded : goal.returns-clause-founded
returns-clause-founded g c = λ count version records x y device leaves mean. is_founded count version records x y device mean leaves

pub returns-clause-same_calls : goal.returns-clause-same_calls
returns-clause-same_calls g c = λ ancestors w deeds d run.
    net_same_calls g.P.Promise.promised c.laws_of_processes.ensures.goes c.laws_of_processes.ensures.begins
    ancestors w deeds d run

pub returns-clause-same_calls_as_ancestors : goal.returns-clause-same_calls_as_ancestors
returns-clause-same_calls_as_ancestors g c = λ ancestors w deeds d run.
    ancestors_same_calls g.P.Promise.promised c.laws_of_processes.ensures.goes c.laws_of_processes.ensures.begins
    ancestors w deeds d run

pub returns-clause-catches_up : goal.returns-clause-catches_up
returns-clause-catches_up g c = λ names config device. catches_up config device g.P.Promise.promised names
