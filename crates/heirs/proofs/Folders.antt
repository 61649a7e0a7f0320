-- What the folder of a stopped bot shows, and that of an heir.
use Rattle.std.proofs.Common.{◌≡◌, inl, ◌+◌, ℕ, suc, List, length, slice_get, Some, refl, ap, sym, subst, arith}
use Rattle.userfile.specs.Records.{Records}
use Rattle.procs.specs.Promises.{Promised}
use Rattle.botjournal.specs.Contents.{meaning}
use Rattle.botjournal.specs.Ledger.{Device}
use Rattle.protocol.specs.Ends.{End, AtHub, end_version, end_records}
use Rattle.sharelink.specs.BotLinks.{BotEnd, MeanEnd}
use Rattle.sharelink.specs.BotOpening.{IsKeptOf}
use Rattle.botcore.specs.declared.config.Config.{Config}
use Rattle.botcore.specs.Bots.{Bot, begun}
use Rattle.botworld.proofs.Lists.{slice_get-set-same}
use Rattle.processes.specs.Deeds.{Process, Runs, Ended, Net, Opened, IsNew, after_deed, version_in, records_in}
use Rattle.heirs.specs.Beginnings.{heir_hub}
use Rattle.heirs.specs.Heirs.{IsHeir, CanShow, MeanHeir, net_over}

module _ (promised : Promised) (w : Net) (bot : ℕ) (x y : List ℕ) (config : Config) (device : Device) (end : End)
    (at : slice_get w.processes bot ≡ Some (Ended x y)) (number : config.number ≡ bot)
    (many : config.leaves + 1 ≡ length w.processes) (kept : IsKeptOf bot config.leaves (meaning x y) end) where
  abbrev link : BotEnd
  link = record { number = config.number; leaves = config.leaves; end = end; device = device }

  abbrev after : Bot
  after = begun config link

  runs : slice_get (after_deed w (Opened bot after)).processes bot ≡ Some (Runs after)
  runs = slice_get-set-same w.processes bot (Ended x y) (Runs after) at

  pub can_show : CanShow promised w bot (end_version end) (end_records end)
  can_show = record {
    after = after;
    opens = (
      x,
      y,
      at,
      record {
        number = number;
        leaves = many;
        kept = subst (λ n. IsKeptOf n config.leaves (meaning x y) end) (sym number) kept;
        link = refl;
        anew = refl;
      },
    );
    shows_version = ap version_in runs;
    shows_records = ap records_in runs;
  }

module _ (count version : ℕ) (records : Records) (x y : List ℕ) (device : Device) (mean : MeanHeir count version records x y) where
  abbrev heir_link : BotEnd
  heir_link = record {
    number = 0;
    leaves = count;
    end = AtHub (heir_hub count version mean.generation records);
    device = device;
  }

  heir_has : MeanEnd heir_link x y
  heir_has = record { contents = mean.contents; found = mean.found; means = inl mean.means }

  pub is_founded : (leaves : List Process) → length leaves ≡ count
      → ((place : ℕ) (process : Process) → slice_get leaves place ≡ Some process → IsNew count (suc place) process)
      → IsHeir count version records (net_over x y leaves)
  is_founded leaves many new = record {
    many = omega (arith, many);
    packets = refl;
    hub = Ended x y;
    at = refl;
    link = heir_link;
    has = heir_has;
    number = refl;
    leaves = refl;
    generation = mean.generation;
    end = refl;
    all_new = new;
  }
