-- Every run of a new net is lawful, and all that is promised holds at each of its moments.
use Rattle.std.proofs.Common.{◌≡◌, inr, ℕ, zero, suc, ◌≤◌, List, [], ◌∷◌, length, slice_get, Some, refl, ap, sym, subst, ◌∙◌, arith, ◌++◌}
use Rattle.userfile.specs.Together.{AreSound}
use Rattle.botjournal.specs.declared.reply.Reply.{Reply}
use Rattle.protocol.specs.Numbers.{item_at}
use Rattle.protocol.specs.Packets.{AcceptedChange}
use Rattle.protocol.specs.LeafRules.{Leaf}
use Rattle.protocol.specs.History.{History, start, records_of, Grows}
use Rattle.protocol.specs.Soundness.{IsSound}
use Rattle.protocol.specs.Network.{Net, Step, Course, no_replies, new_leaf, new_leaves, new_net, stepped}
use Rattle.protocol.specs.Standing.{Stands, LeafStands, BotStands, KeepsLast}
use Rattle.protocol.specs.Claims.{shown_version, shown_records, IsFineOutcome, Made, net_after, Leads, Ends}
use Rattle.protocol.proofs.Growing.{Grows-refl, Grows-trans}
use Rattle.protocol.proofs.Steps.{Follows, follows}
use Rattle.protocol.proofs.Holding.{holds, same_records, versions_grow, lawful}

-- ---- every run from a sound moment

pub runs : (w : Net) (s : History) → Stands w s → IsSound s → (made : List Made) → Ends w s made
runs w s st sound [] = record { after = s; leads = refl; stands = st; sound = sound }
runs w s st sound (m ∷ others) = by (runs (stepped m.course w m.step).after next.after next.stands next.sound others)
  where
    next : Follows s (stepped m.course w m.step)
    next = follows w s st sound m.course m.step

    by : Ends (stepped m.course w m.step).after next.after others → Ends w s (m ∷ others)
    by rest = record {
      after = rest.after;
      leads =
          (next.after, lawful w s st sound m.course m.step, holds (stepped m.course w m.step).after next.after next.stands next.sound, rest.leads);
      stands = rest.stands;
      sound = rest.sound;
    }

-- a run only adds to history
pub leads_grows : (w : Net) (s : History) (made : List Made) (s' : History) → Leads w s made s' → Grows s s'
leads_grows w s [] s' same = subst (λ t. Grows s t) (sym same) (Grows-refl s)
leads_grows w s (m ∷ others) s' leads =
    Grows-trans s leads.0 s' leads.1.grows (leads_grows (stepped m.course w m.step).after leads.0 others s' leads.3)

-- ---- the start

no_records_sound : (version : ℕ) → AreSound (records_of [] version)
no_records_sound zero = record { users = refl; bans = refl; together = refl }
no_records_sound (suc version) = record { users = refl; bans = refl; together = refl }

no_replies_stand : (count place : ℕ) (kept : List Reply) → slice_get (no_replies count) place ≡ Some kept → KeepsLast kept []
no_replies_stand zero place kept e = cc
no_replies_stand (suc count) zero kept e =
    subst (λ (replies : List Reply). KeepsLast replies []) (let same : [] ≡ kept = cc in same)
    (record { in_turn = record { first = 1; numbered = tt; few = omega arith }; last = refl; these = tt })
no_replies_stand (suc count) (suc place) kept e = no_replies_stand count place kept e

new_leaves-length : (count : ℕ) → length (new_leaves count) ≡ count
new_leaves-length zero = refl
new_leaves-length (suc count) = ap suc (new_leaves-length count)

new_leaves_stand : (count place : ℕ) (leaf : Leaf) → slice_get (new_leaves count) place ≡ Some leaf
    → BotStands (LeafStands []) leaf ((start count).leaves (suc place))
new_leaves_stand zero place leaf e = cc
new_leaves_stand (suc count) zero leaf e =
    subst (λ (x : Leaf). BotStands (LeafStands []) x ((start count).leaves 1)) (let same : new_leaf ≡ leaf = cc in same)
    (record { kept = record { version = refl; records = refl; last = refl; out = refl }; loose = refl; down = refl; doubt = refl })
new_leaves_stand (suc count) (suc place) leaf e = new_leaves_stand count place leaf e

pub start_stands : (count : ℕ) → Stands (new_net count) (start count)
start_stands count = record {
  count = refl;
  hub =
      record { kept = record { floor = refl; tail = refl; records = refl; replies = no_replies_stand count }; loose = refl; down = refl; doubt = refl };
  length = new_leaves-length count;
  leaves = new_leaves_stand count;
  packets = refl;
}

pub start_sound : (count : ℕ) → IsSound (start count)
start_sound count = record {
  hub = record {
    kept =
        record { taken = λ place e at. cc; whole = λ v h. no_records_sound v; owned = λ n e at. absurd (none n e at); floor = omega arith };
    loose = tt;
    doubt = λ entry e. cc;
  };
  leaves = λ i. record { kept = record { version = omega arith; asked = tt; answered = λ r within. inr within }; loose = λ set e. cc; doubt = λ entry e. cc };
  packets = tt;
}
  where
    none : (n : ℕ) (e : AcceptedChange) → (let xs : List AcceptedChange = [] in item_at xs n ≡ Some e) → ⊥
    none zero e h = cc
    none (suc n) e h = cc

-- ---- every run of a new net

pub new_net_runs : (count : ℕ) (made : List Made) → Ends (new_net count) (start count) made
new_net_runs count made = runs (new_net count) (start count) (start_stands count) (start_sound count) made

net_after-append : (w : Net) (first more : List Made) → net_after w (first ++ more) ≡ net_after (net_after w first) more
net_after-append w [] more = refl
net_after-append w (m ∷ first) more = net_after-append (stepped m.course w m.step).after first more

module _ (count : ℕ) (first more : List Made) where
  begun : Ends (new_net count) (start count) first
  begun = new_net_runs count first

  ended : Ends (net_after (new_net count) first) begun.after more
  ended = runs (net_after (new_net count) first) begun.after begun.stands begun.sound more

  later : net_after (new_net count) (first ++ more) ≡ net_after (net_after (new_net count) first) more
  later = net_after-append (new_net count) first more

  grown : Grows begun.after ended.after
  grown = leads_grows (net_after (new_net count) first) begun.after more ended.after ended.leads

  -- at any two moments of a run the same version means the same records
  pub run_same_records : (bot bot' v : ℕ) → shown_version (net_after (new_net count) first) bot ≡ Some v
      → shown_version (net_after (new_net count) (first ++ more)) bot' ≡ Some v
      → shown_records (net_after (new_net count) first) bot ≡ shown_records (net_after (new_net count) (first ++ more)) bot'
  run_same_records bot bot' v is is' =
      same_records (net_after (new_net count) first) begun.after (net_after (net_after (new_net count) first) more) ended.after
      (holds (net_after (new_net count) first) begun.after begun.stands begun.sound)
      (holds (net_after (net_after (new_net count) first) more) ended.after ended.stands ended.sound) grown bot bot' v is
      (ap (λ w. shown_version w bot') (sym later) ∙ is')
      ∙ ap (λ w. shown_records w bot') (sym later)

  -- and no version goes back
  pub run_never_back : (bot v v' : ℕ) → shown_version (net_after (new_net count) first) bot ≡ Some v
      → shown_version (net_after (new_net count) (first ++ more)) bot ≡ Some v' → v ≤ v'
  run_never_back bot v v' is is' =
      versions_grow (net_after (new_net count) first) begun.after begun.stands begun.sound
      (net_after (net_after (new_net count) first) more) ended.after ended.stands ended.sound grown bot v v' is
      (ap (λ w. shown_version w bot) (sym later) ∙ is')

-- no step of a run reports that a leaf diverged
pub run_fine : (count : ℕ) (made : List Made) (course : Course) (step : Step)
    → IsFineOutcome (stepped course (net_after (new_net count) made) step).outcome
run_fine count made course step =
    let ends = new_net_runs count made in
    (follows (net_after (new_net count) made) ends.after ends.stands ends.sound course step).fine
