-- Where any deed leads.
use Rattle.procs.specs.Promises.{Promised}
use Rattle.protocol.specs.History.{History}
use Rattle.processes.specs.Deeds.{Net, Deed, Made, Died, Opened, Unopened, Replaced, Happens}
use Rattle.processes.specs.Standing.{Stands}
use Rattle.processes.proofs.Standing.{Follows}
use Rattle.processes.proofs.Going.{running, made_goes, died_goes, opened_goes, unopened_goes}
use Rattle.processes.proofs.Renewing.{replaced_goes}

module _ (w : Net) (h : History) (st : Stands w h) (promised : Promised) where
  pub deed_goes : (deed : Deed) → Happens promised w deed → Follows w h st deed
  deed_goes (Made bot step) m = made_goes w h st promised bot step m
  deed_goes (Died bot was doing first second) d =
      died_goes w h st bot was (running w h st bot was d.running) first second doing d.told d.leaves
  deed_goes (Opened bot after) o = opened_goes w h st bot o.0 o.1 o.2 after o.3
  deed_goes (Unopened bot first second) o = unopened_goes w h st bot o.0 o.1 first second o.2 o.3
  deed_goes (Replaced leaf after) r = (replaced_goes w h st leaf after r).follows
