use Rattle.botworld.proofs.Calls.{same_calls, same_calls_ignoring_channels}
use Rattle.botworld.proofs.Runs.{same_later, same_at_once, same_always, at_version, always_at_version, none_back, never_back_always, promises_kept, rights_kept}
use Rattle.botworld.proofs.world.World.run.Goals as goal

pub returns-clause-same_records : goal.returns-clause-same_records
returns-clause-same_records g c past stands = same_later _ past _ _ _ _ stands (c.run_all.ensures.leads past stands)

pub returns-clause-same_now : goal.returns-clause-same_now
returns-clause-same_now g c past stands = let led = c.run_all.ensures.leads past stands in same_at_once _ _ _ led.stands

pub returns-clause-same_always : goal.returns-clause-same_always
returns-clause-same_always g c past stands = same_always _ _ past stands

pub returns-clause-at_version : goal.returns-clause-at_version
returns-clause-at_version g c past stands = at_version _ _ past stands

pub returns-clause-always_at_version : goal.returns-clause-always_at_version
returns-clause-always_at_version g c past stands = always_at_version _ _ past stands

pub returns-clause-never_back_always : goal.returns-clause-never_back_always
returns-clause-never_back_always g c past stands = never_back_always _ _ past stands

pub returns-clause-never_back : goal.returns-clause-never_back
returns-clause-never_back g c past stands = none_back _ past _ _ _ _ stands (c.run_all.ensures.leads past stands)

pub returns-clause-promises : goal.returns-clause-promises
returns-clause-promises g c past stands = promises_kept _ _ past stands

pub returns-clause-same_calls : goal.returns-clause-same_calls
returns-clause-same_calls g c past stands = same_calls _ _ past stands

pub returns-clause-same_calls_ignoring_channels : goal.returns-clause-same_calls_ignoring_channels
returns-clause-same_calls_ignoring_channels g c ignores past stands = same_calls_ignoring_channels _ _ past ignores stands

pub returns-clause-allowed : goal.returns-clause-allowed
returns-clause-allowed g c past stands = (rights_kept _ _ past stands).allowed

pub returns-clause-ranks : goal.returns-clause-ranks
returns-clause-ranks g c past stands = (rights_kept _ _ past stands).ranks

pub returns-clause-nobody_climbs : goal.returns-clause-nobody_climbs
returns-clause-nobody_climbs g c past stands = (rights_kept _ _ past stands).nobody_climbs

pub returns-clause-nobody_becomes_owner : goal.returns-clause-nobody_becomes_owner
returns-clause-nobody_becomes_owner g c past stands = (rights_kept _ _ past stands).nobody_becomes_owner
