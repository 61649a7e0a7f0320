-- A hub and a leaf are created, and a change that the hub accepts reaches the leaf, whose process ends in that step. Later on
-- the leaf is created in another folder.
use Rattle.std.proofs.Common.{◌≡◌, ◌==◌, inl, inr, ℕ, zero, suc, Bool, true, false, List, [], ◌∷◌, slice_get, None, Some, Ok, refl, subst, arith}
use Rattle.userfile.specs.Shapes.{is_handle}
use Rattle.userfile.specs.declared.change.Change.{Change as UserChange}
use Rattle.userfile.specs.Changes.{by_nobody}
use Rattle.userfile.specs.declared.edit.Edit.TheVariants.{AddUser}
use Rattle.usercodec.specs.Changes.{IsGoodChange}
use Rattle.sharewire.specs.declared.packet.Packet.{Packet}
use Rattle.sharewire.specs.declared.packet.Packet.TheVariants.{Change}
use Rattle.procs.specs.Promises.{Promised}
use Rattle.botjournal.specs.declared.base.Base.{Base}
use Rattle.botjournal.specs.declared.entry.Entry.{Entry}
use Rattle.botjournal.specs.declared.entry.Entry.TheVariants.{Accepted, Applied}
use Rattle.botjournal.specs.Bases.{IsGoodBase}
use Rattle.botjournal.specs.Entries.{IsGoodEntry}
use Rattle.botjournal.specs.Contents.{Contents, new_contents}
use Rattle.botjournal.specs.Ledger.{Device}
use Rattle.protocol.specs.Packets.{own}
use Rattle.protocol.specs.Bots.{Works, Fails, Counts}
use Rattle.protocol.specs.HubRules.{Hub, Accept, hub_folded}
use Rattle.protocol.specs.LeafRules.{Leaf, Apply, leaf_folded}
use Rattle.protocol.specs.Network.{Restart as restarts, Pump as pumps, new_hub, new_leaf}
use Rattle.protocol.specs.Ends.{End, AtHub, AtLeaf}
use Rattle.sharelink.specs.declared.answer.Answer.{Answer}
use Rattle.sharelink.specs.declared.note.LinkNote.TheVariants as notes
use Rattle.sharelink.specs.BotLinks.{BotEnd, did, took, end_meaning, AreOf, LeavesOwn}
use Rattle.botcore.specs.declared.config.Config.{Config}
use Rattle.botcore.specs.declared.event.BotEvent.TheVariants.{Ask, Pump, Receive}
use Rattle.botcore.specs.declared.report.Report.{Report}
use Rattle.botcore.specs.Bots.{Bot, new_bot}
use Rattle.botcore.specs.Reports.{answer_report}
use Rattle.botcore.specs.Steps.{TakesStep}
use Rattle.watching.specs.Openings.{CrashesIn, IsOpened}
use Rattle.watching.specs.Acts.{Act, Opens, Creates, Began, Told, Made, Hears, IsKept}
use Rattle.watching.specs.Following.{IsLawful}
use Rattle.watching.specs.Following.Follows.{so_far, more}
use Rattle.processes.specs.Deeds.{Process, Runs, Net, IsNew, IsFirst}
use Rattle.runlaws.specs.Calls.{Telling}
use Rattle.runlaws.specs.Folders.{Happening, Does, Takes, Ends, Holder, NoneYet, holder_with, call_by, call_of}
use Rattle.runlaws.specs.Worlds.{IsWorld, IsRenewed, station}
use Rattle.runlaws.specs.Examples.{ReachesLeaf, RenewsLeaf, number_in, of_two}
use Rattle.runlaws.proofs.Journaling.{closed_gate, Keep, new_device, bytes_with, device_with, opened_device, contents_with, untouched, with_keeps, appending, appended, still_appended}

-- ---- the change

abbrev change : UserChange
change = by_nobody (AddUser (97 ∷ []))

good_change : IsGoodChange change
unfolding is_handle
good_change = record { shape = refl; room = tt }

-- ---- what is journaled

abbrev base_of : ℕ → Base
base_of number = record { bot = number; version = 0; records = []; replies = []; last_request = 0; out = [] }

good_hub : IsGoodBase (base_of 0)
good_hub = record {
  bot = omega arith;
  version = omega arith;
  records = (omega arith, tt);
  replies = (omega arith, tt);
  kept = refl;
  last_request = omega arith;
  out = (tt, refl);
  of_its_bot = refl;
}

good_leaf : IsGoodBase (base_of 1)
good_leaf = record {
  bot = omega arith;
  version = omega arith;
  records = (omega arith, tt);
  replies = (omega arith, tt);
  kept = refl;
  last_request = omega arith;
  out = (tt, refl);
  of_its_bot = refl;
}

abbrev accepted : Entry
accepted = Accepted 0 0 change

good_accepted : IsGoodEntry accepted
good_accepted = (omega arith, (omega arith, good_change))

abbrev applied : Entry
applied = Applied 1 change

good_applied : IsGoodEntry applied
good_applied = (omega arith, good_change)

-- ---- the reports

-- the hub is asked for the change, accepts it, and tells the leaf
abbrev queued : Answer
queued = record { note = notes.Queued; packets = [] }

abbrev packet : Packet
packet = Change 1 0 0 change

abbrev accepting : Answer
accepting = record { note = notes.Accepted 1; packets = record { to = 1; packet = packet } ∷ [] }

-- the leaf applies it
abbrev applying : Answer
applying = record { note = notes.Applied 1; packets = [] }

abbrev report_of : Answer → Report
report_of answer = answer_report (Ok answer)

-- ---- the ends of the link

-- the hub, at which the change waits, and which has accepted it
abbrev asked_hub : Hub
asked_hub = record (new_hub 1) { loose = change ∷ [] }

abbrev grown_hub : Hub
grown_hub = record (new_hub 1) { kept = hub_folded (new_hub 1).kept (Accept (own change)) }

-- the leaf, which has applied it
abbrev grown_leaf : Leaf
grown_leaf = record new_leaf { kept = leaf_folded new_leaf.kept (Apply change) }

abbrev link_of : ℕ → End → Device → BotEnd
link_of number end device = record { number = number; leaves = 1; end = end; device = device }

-- what bytes that keep these contents are to such an end
are_of : (link : BotEnd) (contents : Contents) → end_meaning link.number link.leaves contents ≡ Some (did link restarts Works).after
    → (x y : List ℕ) → Keep x y contents → AreOf link x y
are_of link contents means x y keep = record {
  mean = record { contents = contents; found = keep.found; means = inl means };
  first_whole = keep.first_whole;
  second_whole = keep.second_whole;
}

-- the same, if what is in doubt counts
are_counted : (link : BotEnd) (contents : Contents) → end_meaning link.number link.leaves contents ≡ Some (did link restarts Counts).after
    → (x y : List ℕ) → Keep x y contents → AreOf link x y
are_counted link contents means x y keep = record {
  mean = record { contents = contents; found = keep.found; means = inr means };
  first_whole = keep.first_whole;
  second_whole = keep.second_whole;
}

some_is : {X : Type 0} (x y : X) → Some x ≡ Some y → x ≡ y
some_is x y e = cc

none_is : {X : Type 0} (x : X) → None ≡ Some x → ⊥
none_is x e = cc

-- ---- the bots

module _ (config : Config) where
  abbrev as_bot : ℕ → Config
  as_bot number = record config { number = number; leaves = 1 }

  -- the hub: created, asked for the change, and having accepted it
  abbrev hub : Bot
  hub = new_bot (as_bot 0) (new_device (base_of 0))

  abbrev hub_asked : Bot
  hub_asked = record hub { link = link_of 0 (AtHub asked_hub) (new_device (base_of 0)) }

  abbrev hub_grown : Bot
  hub_grown = record hub { link = link_of 0 (AtHub grown_hub) (device_with (base_of 0) accepted) }

  -- the leaf: created, having applied the change, and opened by another process
  abbrev leaf : Bot
  leaf = new_bot (as_bot 1) (new_device (base_of 1))

  abbrev leaf_grown : Bot
  leaf_grown = record leaf { link = link_of 1 (AtLeaf grown_leaf) (device_with (base_of 1) applied) }

  abbrev leaf_opened : Bot
  leaf_opened = record leaf { link = link_of 1 (AtLeaf grown_leaf) (opened_device (base_of 1) applied) }

  -- ---- what their disks keep

  hub_kept : IsKept hub
  hub_kept x y left other = are_of hub.link (new_contents (base_of 0)) refl x y (untouched (base_of 0) good_hub x y left other)

  hub_asked_kept : IsKept hub_asked
  hub_asked_kept x y left other =
      are_of hub_asked.link (new_contents (base_of 0)) refl x y (untouched (base_of 0) good_hub x y left other)

  hub_grown_kept : IsKept hub_grown
  unfolding is_handle
  hub_grown_kept x y left other =
      are_of hub_grown.link (contents_with (base_of 0) accepted) refl x y
      (appended (base_of 0) good_hub accepted good_accepted x y left other)

  leaf_kept : IsKept leaf
  leaf_kept x y left other = are_of leaf.link (new_contents (base_of 1)) refl x y (untouched (base_of 1) good_leaf x y left other)

  leaf_opened_kept : IsKept leaf_opened
  unfolding is_handle
  leaf_opened_kept x y left other =
      are_of leaf_opened.link (contents_with (base_of 1) applied) refl x y
      (still_appended (base_of 1) good_leaf applied good_applied x y left other)

  -- ---- the disks while the change is journaled

  -- the hub's end, if a disk failed while the change was journaled
  abbrev hub_in_doubt : BotEnd
  hub_in_doubt = record hub_asked.link { end = (did hub_asked.link pumps Fails).after }

  hub_moments : LeavesOwn hub_in_doubt hub_asked.link.device hub_grown.link.device
  unfolding is_handle
  hub_moments = record {
    first_later = omega arith;
    second_later = omega arith;
    each = λ x y left other. elim (appending (base_of 0) good_hub accepted good_accepted x y left other) [
      | inl keep ↦ are_of hub_in_doubt (new_contents (base_of 0)) refl x y keep
      | inr keep ↦ are_counted hub_in_doubt (contents_with (base_of 0) accepted) refl x y keep
    ];
  }

  -- and the leaf's end
  abbrev leaf_in_doubt : BotEnd
  leaf_in_doubt = record leaf.link { end = (took leaf.link packet Fails).after }

  leaf_moments : LeavesOwn leaf_in_doubt leaf.link.device leaf_grown.link.device
  unfolding is_handle
  leaf_moments = record {
    first_later = omega arith;
    second_later = omega arith;
    each = λ x y left other. elim (appending (base_of 1) good_leaf applied good_applied x y left other) [
      | inl keep ↦ are_of leaf_in_doubt (new_contents (base_of 1)) refl x y keep
      | inr keep ↦ are_counted leaf_in_doubt (contents_with (base_of 1) applied) refl x y keep
    ];
  }

  -- ---- the steps

  module _ (promised : Promised) (names : List (List ℕ)) where
    hub_is_asked : TakesStep promised names hub (Ask change) (report_of queued) hub_asked
    unfolding is_handle
    hub_is_asked = record {
      answer = Ok queued;
      met = (record { told = refl; sends = refl; after = refl }, refl);
      report = refl;
      after = refl;
    }

    hub_accepts : TakesStep promised names hub_asked Pump (report_of accepting) hub_grown
    unfolding is_handle
    hub_accepts = record {
      answer = Ok accepting;
      met = record {
        row = record { told = refl; sends = refl; after = refl };
        number = refl;
        leaves = refl;
        moments = inr hub_moments;
      };
      report = refl;
      after = refl;
    }

    leaf_applies : TakesStep promised names leaf (Receive packet) (report_of applying) leaf_grown
    unfolding is_handle
    leaf_applies = record {
      answer = Ok applying;
      met = record {
        row = record { told = refl; sends = refl; after = refl };
        number = refl;
        leaves = refl;
        moments = inr leaf_moments;
      };
      report = refl;
      after = refl;
    }

  -- ---- the leaf's process ends in the step, and another one opens the leaf

  leaf_crashes : CrashesIn leaf.link leaf_grown.link (bytes_with (base_of 1) applied) closed_gate
  leaf_crashes = record { first_left = inl (inl refl); second_left = refl }

  leaf_is_opened : IsOpened 1 2 (bytes_with (base_of 1) applied) closed_gate leaf_opened
  unfolding is_handle
  leaf_is_opened = record {
    number = refl;
    leaves = refl;
    kept = record {
      contents = contents_with (base_of 1) applied;
      found = (with_keeps (base_of 1) good_leaf applied good_applied).found;
      before = AtLeaf grown_leaf;
      means = refl;
      keeps = inl (refl, refl);
    };
    link = refl;
    anew = refl;
  }

  -- ---- the world

  abbrev first_net : Net
  first_net = record { processes = Runs hub ∷ Runs leaf ∷ []; packets = [] }

  all_new : (place : ℕ) (process : Process) → slice_get first_net.processes place ≡ Some process → IsNew 1 place process
  all_new zero process at = subst (λ (p : Process). IsNew 1 0 p) (some_is (Runs hub) process at)
      (record { bot = hub; runs = refl; made = refl; number = refl; leaves = refl })
  all_new (suc zero) process at = subst (λ (p : Process). IsNew 1 1 p) (some_is (Runs leaf) process at)
      (record { bot = leaf; runs = refl; made = refl; number = refl; leaves = refl })
  all_new (suc (suc place)) process at = absurd (none_is process at)

  is_first_net : IsFirst 1 first_net
  is_first_net = record { many = refl; packets = refl; all_new = all_new }

  abbrev does : ℕ → Act → Happening
  does folder act = record { folder = folder; what = Does act }

  abbrev takes : ℕ → Bot → Happening
  takes folder bot = record { folder = folder; what = Takes bot }

  module _ (promised : Promised) (names : ℕ → List (List ℕ)) where
    abbrev world : List Happening
    world =
        does 1 (Began leaf_opened)
        ∷ does 1 (Opens (bytes_with (base_of 1) applied) closed_gate)
        ∷ record { folder = 1; what = Ends (bytes_with (base_of 1) applied) closed_gate }
        ∷ does 1 (Told leaf (Receive packet))
        ∷ does 1 (Hears (packet ∷ []))
        ∷ does 0 (Made (report_of accepting) hub_grown)
        ∷ does 0 (Told hub_asked Pump)
        ∷ does 0 (Made (report_of queued) hub_asked)
        ∷ does 0 (Told hub (Ask change))
        ∷ takes 1 leaf
        ∷ does 1 (Creates [] [] 0)
        ∷ takes 0 hub
        ∷ does 0 (Creates [] [] 0)
        ∷ []

    -- ---- what each process does is lawful

    abbrev Lawful : ℕ → List Act → Type 0
    Lawful folder past = IsLawful promised (names folder) (station 1 (number_in folder)) past

    hub_created : Lawful 0 (Creates [] [] 0 ∷ [])
    hub_created = more so_far (refl, refl, refl)

    hub_begun : Lawful 0 (Began hub ∷ Creates [] [] 0 ∷ [])
    hub_begun = more hub_created (refl, (refl, refl), hub_kept)

    hub_told : Lawful 0 (Told hub (Ask change) ∷ Began hub ∷ Creates [] [] 0 ∷ [])
    hub_told = more hub_begun (refl, tt)

    hub_was_asked : Lawful 0 (Made (report_of queued) hub_asked ∷ Told hub (Ask change) ∷ Began hub ∷ Creates [] [] 0 ∷ [])
    hub_was_asked = more hub_told (hub_is_asked promised (names 0), hub_asked_kept)

    hub_pumps : Lawful 0 (Told hub_asked Pump ∷ Made (report_of queued) hub_asked ∷ Told hub (Ask change) ∷ Began hub
        ∷ Creates [] [] 0 ∷ [])
    hub_pumps = more hub_was_asked (refl, tt)

    hub_has_accepted : Lawful 0 (Made (report_of accepting) hub_grown ∷ Told hub_asked Pump ∷ Made (report_of queued) hub_asked
        ∷ Told hub (Ask change) ∷ Began hub ∷ Creates [] [] 0 ∷ [])
    hub_has_accepted = more hub_pumps (hub_accepts promised (names 0), hub_grown_kept)

    leaf_created : (folder : ℕ) → Lawful folder (Creates [] [] 0 ∷ [])
    leaf_created folder = more so_far (refl, refl, refl)

    leaf_begun : (place : ℕ) → Lawful (suc place) (Began leaf ∷ Creates [] [] 0 ∷ [])
    leaf_begun place = more (leaf_created (suc place)) (refl, (refl, refl), leaf_kept)

    leaf_heard : Lawful 1 (Hears (packet ∷ []) ∷ Began leaf ∷ Creates [] [] 0 ∷ [])
    leaf_heard = more (leaf_begun 0) (leaf, refl)

    leaf_told : Lawful 1 (Told leaf (Receive packet) ∷ Hears (packet ∷ []) ∷ Began leaf ∷ Creates [] [] 0 ∷ [])
    leaf_told = more leaf_heard (refl, inl (inl refl))

    leaf_opens : Lawful 1 (Opens (bytes_with (base_of 1) applied) closed_gate ∷ [])
    leaf_opens = more so_far tt

    leaf_begun_again : Lawful 1 (Began leaf_opened ∷ Opens (bytes_with (base_of 1) applied) closed_gate ∷ [])
    leaf_begun_again = more leaf_opens (leaf_is_opened, (refl, refl), leaf_opened_kept)

    -- ---- it is a world

    is_a_world : IsWorld promised (of_two names) 1 first_net world
    is_a_world = (
      leaf_begun_again,
      tt,
      (
        leaf_opens,
        refl,
        (
          so_far,
          (report_of applying, leaf_grown, leaf_applies promised (names 1), leaf_crashes),
          (
            leaf_told,
            (1, 0, refl),
            (
              leaf_heard,
              tt,
              (
                hub_has_accepted,
                tt,
                (
                  hub_pumps,
                  tt,
                  (
                    hub_was_asked,
                    tt,
                    (
                      hub_told,
                      tt,
                      (leaf_begun 0, refl, (leaf_created 1, tt, (hub_begun, refl, (hub_created, tt, tt)))),
                    ),
                  ),
                ),
              ),
            ),
          ),
        ),
      ),
    )

    -- ---- the leaf is created in another folder

    abbrev created_again : List Happening
    created_again = does 2 (Creates [] [] 0) ∷ world

    -- who holds a number in a world, by whether it is the hub's and whether it is the leaf's
    pick : (is_hub is_leaf : Bool) → ℕ → Bool
    pick is_hub is_leaf zero = is_hub
    pick is_hub is_leaf (suc place) = is_leaf

    holder_by : (ℕ → Bool) → List Happening → Holder
    holder_by is [] = NoneYet
    holder_by is (h ∷ hs) = holder_with (of_two names) (is (number_in h.folder)) h (holder_by is hs)

    -- no bot is in a step
    silent : (is_hub is_leaf : Bool) (was : Bot) (taken : Packet)
        → call_by (holder_by (pick is_hub is_leaf) created_again) created_again ≡ Telling was (Receive taken) → ⊥
    unfolding pick holder_by
    silent true true was taken is = cc
    silent true false was taken is = cc
    silent false true was taken is = cc
    silent false false was taken is = cc

    quiet : (other : ℕ) (was : Bot) (taken : Packet) → call_of (of_two names) other created_again ≡ Telling was (Receive taken) → ⊥
    unfolding pick holder_by
    quiet other was taken is = silent (0 == other) (1 == other) was taken is

    renewed : IsRenewed (of_two names) 1 1 created_again leaf
    renewed = record {
      above = omega arith;
      hub = Runs hub_grown;
      at = refl;
      end = AtHub grown_hub;
      has = (refl, refl);
      made = refl;
      quiet = λ other was taken is. absurd (quiet other was taken is);
    }

    is_a_later_world : IsWorld promised (of_two names) 1 first_net (takes 2 leaf ∷ created_again)
    is_a_later_world = (leaf_begun 1, renewed, (leaf_created 2, tt, is_a_world))

pub change_reaches : (promised : Promised) (names : ℕ → List (List ℕ)) → Config → ReachesLeaf promised names
change_reaches promised names config = record {
  first = first_net config;
  world = world config promised names;
  is_first = is_first_net config;
  is_world = is_a_world config promised names;
  hub = hub_grown config;
  has_hub = refl;
  hub_version = refl;
  leaf = leaf_opened config;
  has_leaf = refl;
  leaf_version = refl;
}

pub leaf_renews : (promised : Promised) (names : ℕ → List (List ℕ)) → Config → RenewsLeaf promised names
leaf_renews promised names config = record {
  first = first_net config;
  more = takes config 2 (leaf config) ∷ does config 2 (Creates [] [] 0) ∷ [];
  world = world config promised names;
  is_first = is_first_net config;
  is_world = is_a_later_world config promised names;
  was = leaf_opened config;
  had_leaf = refl;
  was_version = refl;
  leaf = leaf config;
  has_leaf = refl;
  leaf_version = refl;
}
