-- Each step from a sound moment leads to one.
use Rattle.std.proofs.Common.{◌≡◌, ℕ, zero, suc, ◌≤◌, List, ◌++◌, length, slice_get, length-set, Option, None, Some, refl, ap, sym, ◌∙◌}
use Rattle.userfile.specs.declared.change.Change.{Change as UserChange}
use Rattle.protocol.specs.Numbers.{item_at, set_at}
use Rattle.protocol.specs.Packets.{Sent}
use Rattle.protocol.specs.Bots.{How, Fails, Row}
use Rattle.protocol.specs.HubRules.{Hub}
use Rattle.protocol.specs.LeafRules.{Leaf}
use Rattle.protocol.specs.History.{PastHub, HubPast, LeafPast, History, asked_of, AllExtend, HubGrows, LeafGrows, Grows}
use Rattle.protocol.specs.Truth.{IsTrue, HubSays, LeafSays, IsKeptAnswer, AllOutgoing}
use Rattle.protocol.specs.Soundness.{HubSound, LeafSound, IsSound}
use Rattle.protocol.specs.Network.{Net, Event, Ask, Pump, Tell, Compact, Restart, Step, At, Deliver, Outcome, OutOfMemory, NoSuchBot, NoSuchPacket, Course, Makes, LacksMemory, Stepped, posted, unmoved, hub_stepped, leaf_stepped, leaf_met, at_bot, hub_event, leaf_event, delivered, happened, lacked, stepped}
use Rattle.protocol.specs.Standing.{LeafStands, BotStands, Stands}
use Rattle.protocol.specs.Claims.{IsFineOutcome}
use Rattle.protocol.proofs.Lists.{AllExtend-refl, set_at-elim, set-elim, set_at-same, records_of-more}
use Rattle.protocol.proofs.Truth.{AllSent-posted, AllSent-at, AllSent-map, AllOutgoing-map, KeepsTrueParts-more, IsTrue-more, HubSays-true, LeafSays-true, HubSays-kept, LeafSays-kept}
use Rattle.protocol.proofs.Counted.{HubHolds-more, HubFits-more, LeafHolds-more, LeafFits-more}
use Rattle.protocol.proofs.Growing.{HubGrows-refl, LeafGrows-refl, Grows-refl}
use Rattle.protocol.proofs.HubGoes.{HubGoes, hub_asks, hub_tells, hub_pumps, hub_compacts, hub_restarts, hub_receives}
use Rattle.protocol.proofs.LeafGoes.{LeafGoes, leaf_asks, leaf_tells, leaf_pumps, leaf_compacts, leaf_restarts, leaf_receives}

-- what a step leaves stands for a sound moment into which history grew
pub record Follows (s : History) (given : Stepped) : Type 0 where
  pub after : History
  pub stands : Stands given.after after
  pub sound : IsSound after
  pub grows : Grows s after
  pub answers : AllOutgoing (IsKeptAnswer after.hub.kept) given.sends
  pub fine : IsFineOutcome given.outcome

stay : (w : Net) (s : History) → Stands w s → IsSound s → (o : Outcome) → IsFineOutcome o → Follows s (unmoved w o)
stay w s st sound o fine = record {
  after = s;
  stands = st;
  sound = sound;
  grows = Grows-refl s;
  answers = tt;
  fine = fine;
}

-- ---- the hub's part moves

leaf_stands-more : (g g' : PastHub) (w : Leaf) (l : LeafPast) → HubGrows g g' → l.kept.version ≤ length g.accepted
    → BotStands (LeafStands g.accepted) w l → BotStands (LeafStands g'.accepted) w l
leaf_stands-more g g' w l grows within st = record {
  kept =
      record {
        version = st.kept.version;
        records = st.kept.records ∙ sym (records_of-more g.accepted g'.accepted l.kept.version grows.accepted within);
        last = st.kept.last;
        out = st.kept.out;
      };
  loose = st.loose;
  down = st.down;
  doubt = st.doubt;
}

leaf_sound-more : (g g' : PastHub) (i : ℕ) (l : LeafPast) → HubGrows g g' → LeafSound g i l → LeafSound g' i l
leaf_sound-more g g' i l grows sound = record {
  kept = LeafHolds-more g g' i l.kept grows sound.kept;
  loose = KeepsTrueParts-more g g' l.loose grows sound.loose;
  doubt = λ rec e. ((sound.doubt rec e).0, LeafFits-more g g' i l.kept rec grows (sound.doubt rec e).1);
}

hub_moves : (w : Net) (s : History) → Stands w s → IsSound s → (row : Row Hub) → HubGoes (asked_of s.leaves) s.hub row
    → Follows s (hub_stepped w row)
hub_moves w s st sound row goes =
    let asked = asked_of s.leaves in
    record {
      after = record s { hub = goes.after; packets = s.packets ++ posted 0 row.sends };
      stands = record {
        count = st.count;
        hub = goes.stands;
        length = st.length;
        leaves =
            λ place leaf at.
            leaf_stands-more s.hub.kept goes.after.kept leaf (s.leaves (suc place)) goes.grows (sound.leaves (suc place)).kept.version
            (st.leaves place leaf at);
        packets = ap (λ ps. ps ++ posted 0 row.sends) st.packets;
      };
      sound = record {
        hub = goes.sound;
        leaves = λ i. leaf_sound-more s.hub.kept goes.after.kept i (s.leaves i) goes.grows (sound.leaves i);
        packets = AllSent-posted (IsTrue goes.after.kept asked) s.packets 0 row.sends
            (AllSent-map (IsTrue s.hub.kept asked) (IsTrue goes.after.kept asked)
            (IsTrue-more s.hub.kept goes.after.kept asked asked goes.grows (AllExtend-refl asked)) s.packets sound.packets)
            (AllOutgoing-map (HubSays goes.after.kept) (IsTrue goes.after.kept asked) (HubSays-true goes.after.kept asked) row.sends goes.sends);
      };
      grows = record { hub = goes.grows; leaves = λ i. LeafGrows-refl (s.leaves i).kept; packets = (posted 0 row.sends, refl) };
      answers =
          AllOutgoing-map (HubSays goes.after.kept) (IsKeptAnswer goes.after.kept) (HubSays-kept goes.after.kept) row.sends goes.sends;
      fine = goes.fine;
    }

-- ---- a leaf's part moves

hub_sound-more : (asked asked' : ℕ → List UserChange) (h : HubPast) → AllExtend asked asked' → HubSound asked h
    → HubSound asked' h
hub_sound-more asked asked' h more sound = record {
  kept = HubHolds-more h.kept asked asked' more sound.kept;
  loose = tt;
  doubt = λ rec e. ((sound.doubt rec e).0, HubFits-more h.kept asked asked' rec more (sound.doubt rec e).1);
}

leaf_moves : (w : Net) (s : History) → Stands w s → IsSound s → (place : ℕ) (row : Row Leaf)
    → LeafGoes s.hub.kept (suc place) (s.leaves (suc place)) row → Follows s (leaf_stepped w place row)
leaf_moves w s st sound place row goes =
    let i = suc place in
    let leaves' = set_at s.leaves i goes.after in
    let asked = asked_of s.leaves in
    let asked' = asked_of leaves' in
    let grows : (j : ℕ) → LeafGrows (s.leaves j).kept (leaves' j).kept =
    set_at-elim (λ j (l : LeafPast). LeafGrows (s.leaves j).kept l.kept) s.leaves i goes.after goes.grows
    (λ j. LeafGrows-refl (s.leaves j).kept) in
    let more : AllExtend asked asked' = λ j. (grows j).asked in
    let here : asked' i ≡ goes.after.kept.asked = ap (λ (l : LeafPast). l.kept.asked) (set_at-same s.leaves i goes.after) in
    record {
      after = record s { leaves = leaves'; packets = s.packets ++ posted i row.sends };
      stands = record {
        count = st.count;
        hub = st.hub;
        length = length-set w.leaves place row.after ∙ st.length;
        leaves =
            set-elim (λ j (x : Leaf) (l : LeafPast). BotStands (LeafStands s.hub.kept.accepted) x l) w.leaves s.leaves place row.after
            goes.after (λ u e. goes.stands) st.leaves;
        packets = ap (λ ps. ps ++ posted i row.sends) st.packets;
      };
      sound = record {
        hub = hub_sound-more asked asked' s.hub more sound.hub;
        leaves = set_at-elim (λ j (l : LeafPast). LeafSound s.hub.kept j l) s.leaves i goes.after goes.sound sound.leaves;
        packets = AllSent-posted (IsTrue s.hub.kept asked') s.packets i row.sends
            (AllSent-map (IsTrue s.hub.kept asked) (IsTrue s.hub.kept asked')
            (IsTrue-more s.hub.kept s.hub.kept asked asked' (HubGrows-refl s.hub.kept) more) s.packets sound.packets)
            (AllOutgoing-map (LeafSays i goes.after.kept) (IsTrue s.hub.kept asked')
            (LeafSays-true s.hub.kept asked' i goes.after.kept here) row.sends goes.sends);
      };
      grows = record { hub = HubGrows-refl s.hub.kept; leaves = grows; packets = (posted i row.sends, refl) };
      answers =
          AllOutgoing-map (LeafSays i goes.after.kept) (IsKeptAnswer s.hub.kept) (LeafSays-kept s.hub.kept i goes.after.kept) row.sends
          goes.sends;
      fine = goes.fine;
    }

-- ---- every step

at_some_bot : (w : Net) (s : History) → Stands w s → IsSound s → (bot : ℕ) (hub_row : Row Hub) (leaf_row : ℕ → Leaf → Row Leaf)
    → HubGoes (asked_of s.leaves) s.hub hub_row
    → ((place : ℕ) (leaf : Leaf) → slice_get w.leaves place ≡ Some leaf
    → LeafGoes s.hub.kept (suc place) (s.leaves (suc place)) (leaf_row (suc place) leaf))
    → Follows s (at_bot w bot hub_row leaf_row)
at_some_bot w s st sound zero hub_row leaf_row hub leaf = hub_moves w s st sound hub_row hub
at_some_bot w s st sound (suc place) hub_row leaf_row hub leaf = by (slice_get w.leaves place) refl
  where
    by : (o : Option Leaf) → slice_get w.leaves place ≡ o → Follows s (leaf_met w place (leaf_row (suc place)) o)
    by None e = stay w s st sound NoSuchBot tt
    by (Some x) e = leaf_moves w s st sound place (leaf_row (suc place) x) (leaf place x e)

module _ (w : Net) (s : History) (st : Stands w s) (sound : IsSound s) (how : How) where
  hub_events : (event : Event) → HubGoes (asked_of s.leaves) s.hub (hub_event w.count how w.hub event)
  hub_events (Ask c) = hub_asks (asked_of s.leaves) w.hub s.hub st.hub sound.hub w.count how c
  hub_events Pump = hub_pumps (asked_of s.leaves) w.hub s.hub st.hub sound.hub w.count how
  hub_events (Tell to text) = hub_tells (asked_of s.leaves) w.hub s.hub st.hub sound.hub w.count how to text
  hub_events Compact = hub_compacts (asked_of s.leaves) w.hub s.hub st.hub sound.hub w.count how
  hub_events Restart = hub_restarts (asked_of s.leaves) w.hub s.hub st.hub sound.hub w.count how

  leaf_events : (event : Event) (place : ℕ) (leaf : Leaf) → slice_get w.leaves place ≡ Some leaf
      → LeafGoes s.hub.kept (suc place) (s.leaves (suc place)) (leaf_event w.count how (suc place) leaf event)
  leaf_events (Ask c) place leaf at =
      leaf_asks s.hub.kept (asked_of s.leaves) sound.hub.kept w.count (suc place) leaf (s.leaves (suc place)) (st.leaves place leaf at)
      (sound.leaves (suc place)) how c
  leaf_events Pump place leaf at =
      leaf_pumps s.hub.kept (asked_of s.leaves) sound.hub.kept w.count (suc place) leaf (s.leaves (suc place)) (st.leaves place leaf at)
      (sound.leaves (suc place)) how
  leaf_events (Tell to text) place leaf at =
      leaf_tells s.hub.kept (asked_of s.leaves) sound.hub.kept w.count (suc place) leaf (s.leaves (suc place)) (st.leaves place leaf at)
      (sound.leaves (suc place)) how to text
  leaf_events Compact place leaf at =
      leaf_compacts s.hub.kept (asked_of s.leaves) sound.hub.kept w.count (suc place) leaf (s.leaves (suc place)) (st.leaves place leaf at)
      (sound.leaves (suc place)) how
  leaf_events Restart place leaf at =
      leaf_restarts s.hub.kept (asked_of s.leaves) sound.hub.kept w.count (suc place) leaf (s.leaves (suc place)) (st.leaves place leaf at)
      (sound.leaves (suc place)) how

  deliveries : (n : ℕ) (o : Option Sent) → item_at s.packets n ≡ o → Follows s (delivered how w o)
  deliveries n None e = stay w s st sound NoSuchPacket tt
  deliveries n (Some sent) e =
      let t = AllSent-at (IsTrue s.hub.kept (asked_of s.leaves)) s.packets n sent sound.packets e in
      at_some_bot w s st sound sent.to _ _
      (hub_receives (asked_of s.leaves) w.hub s.hub st.hub sound.hub w.count how sent.packet t)
      (λ place leaf at.
      leaf_receives s.hub.kept (asked_of s.leaves) sound.hub.kept w.count (suc place) leaf (s.leaves (suc place))
      (st.leaves place leaf at) (sound.leaves (suc place)) how sent.packet t)

  happens : (step : Step) → Follows s (happened how w step)
  happens (At bot event) = at_some_bot w s st sound bot _ _ (hub_events event) (leaf_events event)
  happens (Deliver n) = deliveries n (item_at w.packets n) (ap (λ (ps : List Sent). item_at ps n) (sym st.packets))

module _ (w : Net) (s : History) (st : Stands w s) (sound : IsSound s) where
  -- a step that reports that it is out of memory
  untold : (step : Step) → Follows s (happened Fails w step)
      → Follows s (record (happened Fails w step) { outcome = OutOfMemory })
  untold step goes =
      record { after = goes.after; stands = goes.stands; sound = goes.sound; grows = goes.grows; answers = goes.answers; fine = tt }

  lacks : (step : Step) → Follows s (lacked w step)
  lacks (At bot (Ask change)) = stay w s st sound OutOfMemory tt
  lacks (At bot Pump) = stay w s st sound OutOfMemory tt
  lacks (At bot (Tell to text)) = stay w s st sound OutOfMemory tt
  lacks (At bot Compact) = stay w s st sound OutOfMemory tt
  lacks (At bot Restart) = untold (At bot Restart) (happens w s st sound Fails (At bot Restart))
  lacks (Deliver n) = stay w s st sound OutOfMemory tt

  pub follows : (course : Course) (step : Step) → Follows s (stepped course w step)
  follows (Makes how) step = happens w s st sound how step
  follows LacksMemory step = lacks step
