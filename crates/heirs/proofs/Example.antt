-- A leaf that has its hub's first change is promoted, and the heir's own first change reaches the heir's leaf. Nothing is said
-- of what is on the disks here: each step may leave them as they are.
use Rattle.std.proofs.Common.{◌≡◌, inl, ℕ, zero, suc, List, [], ◌∷◌, slice_get, Some, Ok, refl, subst}
use Rattle.userfile.specs.Shapes.{is_handle}
use Rattle.userfile.specs.declared.change.Change.{Change as UserChange}
use Rattle.userfile.specs.Changes.{by_nobody}
use Rattle.userfile.specs.declared.edit.Edit.TheVariants.{AddUser}
use Rattle.sharewire.specs.declared.packet.Packet.{Packet}
use Rattle.sharewire.specs.declared.packet.Packet.TheVariants.{Hello, Change, Part}
use Rattle.procs.specs.Promises.{Promised}
use Rattle.botjournal.specs.declared.TheConstants.{LAYOUT}
use Rattle.botjournal.specs.Ledger.{Device}
use Rattle.protocol.specs.Packets.{own}
use Rattle.protocol.specs.HubRules.{Hub, Accept, hub_folded}
use Rattle.protocol.specs.LeafRules.{Leaf, Apply, Install, leaf_folded}
use Rattle.protocol.specs.Snapshots.{part_of}
use Rattle.protocol.specs.Network.{new_hub, new_leaf}
use Rattle.protocol.specs.Ends.{End, AtHub, AtLeaf}
use Rattle.sharelink.specs.declared.answer.Answer.{Answer}
use Rattle.sharelink.specs.declared.note.LinkNote.TheVariants as notes
use Rattle.botcore.specs.declared.config.Config.{Config}
use Rattle.botcore.specs.declared.event.BotEvent.{BotEvent}
use Rattle.botcore.specs.declared.event.BotEvent.TheVariants.{Ask, Pump, Receive}
use Rattle.botcore.specs.Bots.{Bot, begun}
use Rattle.botcore.specs.Reports.{answer_report}
use Rattle.botcore.specs.Steps.{TakesStep}
use Rattle.processes.specs.Deeds.{Process, Runs, Net, Step, Deed, Made, Run, IsNew, IsFirst}
use Rattle.heirs.specs.Beginnings.{heir_hub}
use Rattle.heirs.specs.Heirs.{IsHeir}
use Rattle.heirs.specs.Descents.{Ancestor}
use Rattle.heirs.specs.Examples.{CatchesUp}

-- ---- the changes, and the ends of the link

abbrev first : UserChange
first = by_nobody (AddUser (97 ∷ []))

abbrev second : UserChange
second = by_nobody (AddUser (98 ∷ []))

-- the hub with an ask that waits, and after it accepted that
abbrev asked : Hub → UserChange → Hub
asked hub change = record hub { loose = change ∷ [] }

abbrev grown : Hub → UserChange → Hub
grown hub change = record hub { kept = hub_folded hub.kept (Accept (own change)) }

abbrev grown_leaf : Leaf
grown_leaf = record new_leaf { kept = leaf_folded new_leaf.kept (Apply first) }

abbrev heir : Hub
heir = heir_hub 1 1 1 grown_leaf.kept.records

-- the heir's leaf, after it has got the records at version 2
abbrev caught_up : Leaf
caught_up = record new_leaf { kept = leaf_folded new_leaf.kept (Install 2 (grown heir second).kept.records) }

-- ---- what is answered

abbrev queued : Answer
queued = record { note = notes.Queued; packets = [] }

abbrev change_packet : ℕ → UserChange → Packet
change_packet number change = Change number 0 0 change

abbrev accepting : ℕ → UserChange → Answer
accepting number change =
    record { note = notes.Accepted number; packets = record { to = 1; packet = change_packet number change } ∷ [] }

abbrev applying : Answer
applying = record { note = notes.Applied 1; packets = [] }

abbrev hello : Packet
hello = Hello LAYOUT 1 0

abbrev greeting : Answer
greeting = record { note = notes.Idle; packets = record { to = 0; packet = hello } ∷ [] }

abbrev part : Packet
part = Part 2 1 1 (part_of (grown heir second).kept.records 1)

abbrev serving : Answer
serving = record { note = notes.Served 1; packets = record { to = 1; packet = part } ∷ [] }

abbrev installing : Answer
installing = record { note = notes.Installed 2; packets = [] }

module _ (config : Config) (device : Device) where
  -- ---- the bots

  abbrev bot_of : ℕ → End → Bot
  bot_of number end =
      begun (record config { number = number; leaves = 1 })
      (record { number = number; leaves = 1; end = end; device = device })

  abbrev hub_of : Hub → Bot
  hub_of hub = bot_of 0 (AtHub hub)

  abbrev leaf_of : Leaf → Bot
  leaf_of leaf = bot_of 1 (AtLeaf leaf)

  new_leaf_is : IsNew 1 1 (Runs (leaf_of new_leaf))
  new_leaf_is = record { bot = leaf_of new_leaf; runs = refl; made = refl; number = refl; leaves = refl }

  new_hub_is : IsNew 1 0 (Runs (hub_of (new_hub 1)))
  new_hub_is = record { bot = hub_of (new_hub 1); runs = refl; made = refl; number = refl; leaves = refl }

  -- ---- the nets

  abbrev net_of : Hub → Net
  net_of hub = record { processes = Runs (hub_of hub) ∷ Runs (leaf_of new_leaf) ∷ []; packets = [] }

  all_new : (place : ℕ) (process : Process) → slice_get (net_of (new_hub 1)).processes place ≡ Some process → IsNew 1 place process
  all_new zero process at = subst (λ (p : Process). IsNew 1 0 p) (let same : Runs (hub_of (new_hub 1)) ≡ process = cc in same) new_hub_is
  all_new (suc zero) process at = subst (λ (p : Process). IsNew 1 1 p) (let same : Runs (leaf_of new_leaf) ≡ process = cc in same) new_leaf_is
  all_new (suc (suc place)) process at = cc

  is_first : IsFirst 1 (net_of (new_hub 1))
  is_first = record { many = refl; packets = refl; all_new = all_new }

  leaves_new : (place : ℕ) (process : Process) → slice_get (net_of heir).processes (suc place) ≡ Some process
      → IsNew 1 (suc place) process
  leaves_new zero process at = subst (λ (p : Process). IsNew 1 1 p) (let same : Runs (leaf_of new_leaf) ≡ process = cc in same) new_leaf_is
  leaves_new (suc place) process at = cc

  is_heir : IsHeir 1 1 grown_leaf.kept.records (net_of heir)
  is_heir = record {
    many = refl;
    packets = refl;
    hub = Runs (hub_of heir);
    at = refl;
    link = (hub_of heir).link;
    has = refl;
    number = refl;
    leaves = refl;
    generation = 1;
    end = refl;
    all_new = leaves_new;
  }

  -- ---- the steps

  module _ (promised : Promised) (names : List (List ℕ)) where
    abbrev step : Bot → BotEvent → Answer → Bot → Step
    step was event answer after =
        record { names = names; was = was; event = event; report = answer_report (Ok answer); after = after }

    abbrev Takes : Bot → BotEvent → Answer → Bot → Type 0
    Takes was event answer after = TakesStep promised names was event (answer_report (Ok answer)) after

    first_asked : Takes (hub_of (new_hub 1)) (Ask first) queued (hub_of (asked (new_hub 1) first))
    unfolding is_handle
    first_asked =
        record { answer = Ok queued; met = (record { told = refl; sends = refl; after = refl }, refl); report = refl; after = refl }

    first_accepted : Takes (hub_of (asked (new_hub 1) first)) Pump (accepting 1 first) (hub_of (grown (new_hub 1) first))
    unfolding is_handle
    first_accepted = record {
      answer = Ok (accepting 1 first);
      met = record { row = record { told = refl; sends = refl; after = refl }; number = refl; leaves = refl; moments = inl refl };
      report = refl;
      after = refl;
    }

    first_applied : Takes (leaf_of new_leaf) (Receive (change_packet 1 first)) applying (leaf_of grown_leaf)
    unfolding is_handle
    first_applied = record {
      answer = Ok applying;
      met = record { row = record { told = refl; sends = refl; after = refl }; number = refl; leaves = refl; moments = inl refl };
      report = refl;
      after = refl;
    }

    second_asked : Takes (hub_of heir) (Ask second) queued (hub_of (asked heir second))
    unfolding is_handle
    second_asked =
        record { answer = Ok queued; met = (record { told = refl; sends = refl; after = refl }, refl); report = refl; after = refl }

    second_accepted : Takes (hub_of (asked heir second)) Pump (accepting 2 second) (hub_of (grown heir second))
    unfolding is_handle
    second_accepted = record {
      answer = Ok (accepting 2 second);
      met = record { row = record { told = refl; sends = refl; after = refl }; number = refl; leaves = refl; moments = inl refl };
      report = refl;
      after = refl;
    }

    leaf_greets : Takes (leaf_of new_leaf) Pump greeting (leaf_of new_leaf)
    leaf_greets = record {
      answer = Ok greeting;
      met = record { row = record { told = refl; sends = refl; after = refl }; number = refl; leaves = refl; moments = inl refl };
      report = refl;
      after = refl;
    }

    hub_serves : Takes (hub_of (grown heir second)) (Receive hello) serving (hub_of (grown heir second))
    unfolding is_handle
    hub_serves = record {
      answer = Ok serving;
      met = record { row = record { told = refl; sends = refl; after = refl }; number = refl; leaves = refl; moments = inl refl };
      report = refl;
      after = refl;
    }

    leaf_installs : Takes (leaf_of new_leaf) (Receive part) installing (leaf_of caught_up)
    unfolding is_handle
    leaf_installs = record {
      answer = Ok installing;
      met = record { row = record { told = refl; sends = refl; after = refl }; number = refl; leaves = refl; moments = inl refl };
      report = refl;
      after = refl;
    }

    -- ---- the deeds

    abbrev old_deeds : List Deed
    old_deeds =
        Made 0 (step (hub_of (new_hub 1)) (Ask first) queued (hub_of (asked (new_hub 1) first)))
        ∷ Made 0 (step (hub_of (asked (new_hub 1) first)) Pump (accepting 1 first) (hub_of (grown (new_hub 1) first)))
        ∷ Made 1 (step (leaf_of new_leaf) (Receive (change_packet 1 first)) applying (leaf_of grown_leaf))
        ∷ []

    old_run : Run promised (net_of (new_hub 1)) old_deeds
    old_run = (
      record { running = refl; told = tt; takes = first_asked },
      (
        record { running = refl; told = tt; takes = first_accepted },
        (
          record { running = refl; told = (1, 0, refl); takes = first_applied },
          tt,
        ),
      ),
    )

    abbrev deeds : List Deed
    deeds =
        Made 0 (step (hub_of heir) (Ask second) queued (hub_of (asked heir second)))
        ∷ Made 0 (step (hub_of (asked heir second)) Pump (accepting 2 second) (hub_of (grown heir second)))
        ∷ Made 1 (step (leaf_of new_leaf) Pump greeting (leaf_of new_leaf))
        ∷ Made 0 (step (hub_of (grown heir second)) (Receive hello) serving (hub_of (grown heir second)))
        ∷ Made 1 (step (leaf_of new_leaf) (Receive part) installing (leaf_of caught_up))
        ∷ []

    run : Run promised (net_of heir) deeds
    run = (
      record { running = refl; told = tt; takes = second_asked },
      (
        record { running = refl; told = tt; takes = second_accepted },
        (
          record { running = refl; told = tt; takes = leaf_greets },
          (
            record { running = refl; told = (2, 1, refl); takes = hub_serves },
            (
              record { running = refl; told = (3, 0, refl); takes = leaf_installs },
              tt,
            ),
          ),
        ),
      ),
    )

    abbrev parent : Ancestor
    parent = record { net = net_of (new_hub 1); deeds = old_deeds; moment = 3; bot = 1; version = 1 }

    pub catches_up : CatchesUp promised
    catches_up = record {
      parent = parent;
      net = net_of heir;
      deeds = deeds;
      descends = (
        1,
        record { records = grown_leaf.kept.records; shows_version = refl; shows_records = refl; heir = is_heir },
        old_run,
        (1, is_first),
      );
      run = run;
      promoted = refl;
      began = refl;
      hub = refl;
      leaf = refl;
    }
