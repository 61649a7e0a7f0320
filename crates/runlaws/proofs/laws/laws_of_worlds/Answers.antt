use Rattle.botworld.specs.Calling.{IsAlike, IsAlikeButChannels}
use Rattle.runlaws.proofs.Moments.{are_deeds, world_same_records, world_never_back, world_once, world_same_calls}
use Rattle.runlaws.proofs.Accepting.{world_accepted}
use Rattle.runlaws.proofs.Lawful.{pasts_lawful}
use Rattle.runlaws.proofs.Example.{change_reaches, leaf_renews}
use Rattle.runlaws.proofs.laws.laws_of_worlds.Goals as goal

pub returns-clause-lawful : goal.returns-clause-lawful
returns-clause-lawful g c = pasts_lawful g.P.Promise.promised

pub returns-clause-deeds : goal.returns-clause-deeds
returns-clause-deeds g c = λ folders count first world is_first is.
    are_deeds g.P.Promise.promised folders count first c.laws_of_processes.ensures.died world is_first is

pub returns-clause-accepted : goal.returns-clause-accepted
returns-clause-accepted g c = λ folders count first world is_first is.
    world_accepted g.P.Promise.promised folders count first c.laws_of_processes.ensures.died c.laws_of_processes.ensures.begins
    c.laws_of_processes.ensures.grows_as_told c.laws_of_processes.ensures.at_version world is_first is

pub returns-clause-same_records : goal.returns-clause-same_records
returns-clause-same_records g c = λ folders count first more world is_first is one other a b has_a has_b same.
    world_same_records g.P.Promise.promised folders count first c.laws_of_processes.ensures.died more world is_first is
    one other a b has_a has_b c.laws_of_processes.ensures.same_records same

pub returns-clause-never_back : goal.returns-clause-never_back
returns-clause-never_back g c = λ folders count first more world is_first is who a b has_a has_b stays.
    world_never_back g.P.Promise.promised folders count first c.laws_of_processes.ensures.died more world is_first is
    who a b has_a has_b stays c.laws_of_processes.ensures.never_back

pub returns-clause-once : goal.returns-clause-once
returns-clause-once g c = λ folders count first world is_first is.
    world_once g.P.Promise.promised folders count first c.laws_of_processes.ensures.died world is_first is
    c.laws_of_processes.ensures.once

pub returns-clause-same_calls : goal.returns-clause-same_calls
returns-clause-same_calls g c = λ folders count first world is_first is i j one other s t a b at_s at_t same is_a is_b alike.
    world_same_calls g.P.Promise.promised folders count first c.laws_of_processes.ensures.died world is_first is
    IsAlike c.laws_of_processes.ensures.same_calls i j one other s t a b at_s at_t same is_a is_b alike

pub returns-clause-same_calls_ignoring_channels : goal.returns-clause-same_calls_ignoring_channels
returns-clause-same_calls_ignoring_channels g c =
    λ ignores folders count first world is_first is i j one other s t a b at_s at_t same is_a is_b alike.
    world_same_calls g.P.Promise.promised folders count first c.laws_of_processes.ensures.died world is_first is
    IsAlikeButChannels (c.laws_of_processes.ensures.same_calls_ignoring_channels ignores)
    i j one other s t a b at_s at_t same is_a is_b alike

pub returns-clause-reaches : goal.returns-clause-reaches
returns-clause-reaches g c = change_reaches g.P.Promise.promised

pub returns-clause-renews : goal.returns-clause-renews
returns-clause-renews g c = leaf_renews g.P.Promise.promised
