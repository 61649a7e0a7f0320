-- Runs that go on, and what they leave.
use Rattle.std.proofs.Common.{◌≡◌, ◌≤◌, ℕ, zero, suc, List, [], ◌∷◌, ◌++◌, length, map, slice_get, Some, refl, ap, sym, subst, ◌∙◌, arith, append_assoc}
use Rattle.std.proofs.lemmas.List.{append-nil}
use Rattle.protocol.specs.History.{Extends, records_of}
use Rattle.protocol.specs.Rights.{KeepsRights}
use Rattle.protocol.proofs.Growing.{Grows-refl, Grows-trans}
use Rattle.protocol.proofs.Lists.{Extends-trans, Extends-length, records_of-more}
use Rattle.protocol.proofs.Rights.{rights}
use Rattle.procs.specs.Promises.{Promised}
use Rattle.botworld.specs.declared.step.Step.{Step}
use Rattle.botworld.specs.declared.outcome.Outcome.{Outcome}
use Rattle.botworld.specs.Net.{Net, NetStep, shown_version, shown_records}
use Rattle.botworld.specs.Network.{State, accepted_by, IsSound, NeverBack, Follows, KeepsPromises}
use Rattle.botworld.specs.Standing.{Moment, Run, steps_of, outcomes_of, Past, later, Stands, LeadsTo, SameRecords}
use Rattle.botworld.specs.Standing.{states_of, SameAlways, NeverBackAlways, AreAtVersion, AlwaysAtVersion}
use Rattle.botworld.proofs.Goes.{goes, Follows-refl}
use Rattle.botworld.proofs.Shown.{keeps_promises, shown_at, same_shown}
use Rattle.botworld.proofs.Start.{start_sound}

-- ---- what follows

NeverBack-trans : (a b c : Net) → NeverBack a b → NeverBack b c → NeverBack a c
NeverBack-trans a b c f g i u e =
    let h = f i u e in
    let k = g i h.0 h.1 in
    (k.0, k.1, omega (arith, h.2, k.2))

Follows-trans : (a b c : State) → Follows a b → Follows b c → Follows a c
Follows-trans a b c f g = record {
  links = Grows-trans a.links b.links c.links f.links g.links;
  packets = Extends-trans a.net.packets b.net.packets c.net.packets f.packets g.packets;
  versions = NeverBack-trans a.net b.net c.net f.versions g.versions;
  bots = g.bots ∙ f.bots;
  store = g.store ∙ f.store;
}

-- the end of a run that begins at a sound moment is sound
Run-sound : (promised : Promised) (first : State) (ms : List Moment) (last : State)
    → IsSound first → Run promised first ms last → IsSound last
Run-sound promised first [] last sound run = subst IsSound (sym run) sound
Run-sound promised first (m ∷ ms) last sound run = Run-sound promised m.after ms last run.1.sound run.2

pub now_sound : (promised : Promised) (w : Net) (past : Past) → Stands promised w past
    → IsSound past.now
now_sound promised w past stands = Run-sound promised past.first past.history past.now (start_sound past.first stands.begins) stands.run

-- a run is followed by its end
pub Run-follows : (promised : Promised) (first : State) (ms : List Moment) (last : State)
    → IsSound first → Run promised first ms last → Follows first last
Run-follows promised first [] last sound run = subst (Follows first) (sym run) (Follows-refl first sound)
Run-follows promised first (m ∷ ms) last sound run =
    Follows-trans first m.after last (subst (λ (s : State). Follows s m.after) run.0 run.1.follows)
    (Run-follows promised m.after ms last run.1.sound run.2)

-- ---- one step more

Run-last : (promised : Promised) (a b : State) (ms : List Moment) (m : Moment)
    → Run promised a ms b → Run promised b (m ∷ []) m.after → Run promised a (ms ++ m ∷ []) m.after
Run-last promised a b [] m run last = subst (λ (s : State). Run promised s (m ∷ []) m.after) run last
Run-last promised a b (x ∷ ms) m run last = (run.0, run.1, Run-last promised x.after b ms m run.2 last)

steps_of-last : (ms : List Moment) (m : Moment) → steps_of (ms ++ m ∷ []) ≡ steps_of ms ++ m.step ∷ []
steps_of-last [] m = refl
steps_of-last (x ∷ ms) m = ap (λ es. x.step ∷ es) (steps_of-last ms m)

outcomes_of-last : (ms : List Moment) (m : Moment) → outcomes_of (ms ++ m ∷ []) ≡ outcomes_of ms ++ m.outcome ∷ []
outcomes_of-last [] m = refl
outcomes_of-last (x ∷ ms) m = ap (λ os. x.outcome ∷ os) (outcomes_of-last ms m)

-- no step yet
pub leads_nowhere : (promised : Promised) (w : Net) (past : Past) → Stands promised w past
    → LeadsTo promised past [] [] w
leads_nowhere promised w past stands = record {
  moments = [];
  after = past.now;
  steps_are = refl;
  outcomes_are = refl;
  run = refl;
  follows = Follows-refl past.now (now_sound promised w past stands);
  stands = record {
    begins = stands.begins;
    run = subst (λ (ms : List Moment). Run promised past.first ms past.now) (sym (append-nil past.history)) stands.run;
    net = stands.net;
  };
}

-- one step more
pub leads_on : (promised : Promised) (past : Past) (steps : List Step) (outcomes : List Outcome)
    (step : Step) (o : Outcome) (mid new : Net) → LeadsTo promised past steps outcomes mid → NetStep promised mid step o new
    → LeadsTo promised past (steps ++ step ∷ []) (outcomes ++ o ∷ []) new
leads_on promised past steps outcomes step o mid new led made =
    let before = led.after in
    let sound = now_sound promised mid (later past led.moments before) led.stands in
    let next = goes promised before step o new sound (subst (λ (w : Net). NetStep promised w step o new) led.stands.net made) in
    let m : Moment = record { before = before; step = step; outcome = o; after = next.after } in
    let last : Run promised before (m ∷ []) next.after = (refl, next.lawful, refl) in
    record {
      moments = led.moments ++ m ∷ [];
      after = next.after;
      steps_are = steps_of-last led.moments m ∙ ap (λ (es : List Step). es ++ step ∷ []) led.steps_are;
      outcomes_are = outcomes_of-last led.moments m ∙ ap (λ (os : List Outcome). os ++ o ∷ []) led.outcomes_are;
      run = Run-last promised past.now before led.moments m led.run last;
      follows = Follows-trans past.now before next.after led.follows next.lawful.follows;
      stands = record {
        begins = led.stands.begins;
        run = subst (λ (ms : List Moment). Run promised past.first ms next.after) (append_assoc past.history led.moments (m ∷ []))
            (Run-last promised past.first before (past.history ++ led.moments) m led.stands.run last);
        net = next.net;
      };
    }

-- ---- what is shown, and sent

pub same_later : (promised : Promised) (past : Past) (steps : List Step) (outcomes : List Outcome)
    (old new : Net) → Stands promised old past → LeadsTo promised past steps outcomes new → SameRecords old new
same_later promised past steps outcomes old new stands led =
    rw (stands.net, led.stands.net) (same_shown past.now led.after (now_sound promised old past stands)
    (now_sound promised new (later past led.moments led.after) led.stands) led.follows.links)

pub same_at_once : (promised : Promised) (past : Past) (w : Net) → Stands promised w past
    → SameRecords w w
same_at_once promised past w stands =
    let sound = now_sound promised w past stands in
    rw stands.net (same_shown past.now past.now sound sound (Grows-refl past.now.links))

-- each state of a run is sound, and the end of the run follows it
record Reached (last s : State) : Type 0 where
  sound : IsSound s
  follows : Follows s last

abbrev states_from : State → List Moment → List State
states_from first ms = first ∷ map (λ (m : Moment). m.after) ms

reached : (promised : Promised) (first : State) (ms : List Moment) (last : State)
    → IsSound first → Run promised first ms last → (i : ℕ) (s : State) → slice_get (states_from first ms) i ≡ Some s → Reached last s
reached promised first ms last sound run zero s e =
    let same : first ≡ s = cc in
    subst (Reached last) same (record { sound = sound; follows = Run-follows promised first ms last sound run })
reached promised first [] last sound run (suc i) s e = cc
reached promised first (m ∷ ms) last sound run (suc i) s e = reached promised m.after ms last run.1.sound run.2 i s e

-- each state of a run follows the first
follows_first : (promised : Promised) (first : State) (ms : List Moment) (last : State)
    → IsSound first → Run promised first ms last → (i : ℕ) (s : State) → slice_get (states_from first ms) i ≡ Some s → Follows first s
follows_first promised first ms last sound run zero s e =
    let same : first ≡ s = cc in subst (Follows first) same (Follows-refl first sound)
follows_first promised first [] last sound run (suc i) s e = cc
follows_first promised first (m ∷ ms) last sound run (suc i) s e =
    Follows-trans first m.after s (subst (λ (s : State). Follows s m.after) run.0 run.1.follows)
    (follows_first promised m.after ms last run.1.sound run.2 i s e)

-- and each one before it
follows_earlier : (promised : Promised) (first : State) (ms : List Moment) (last : State)
    → IsSound first → Run promised first ms last → (i j : ℕ) (s t : State) → i ≤ j → slice_get (states_from first ms) i ≡ Some s
    → slice_get (states_from first ms) j ≡ Some t → Follows s t
follows_earlier promised first ms last sound run zero j s t le at_i at_j =
    let same : first ≡ s = cc in
    subst (λ (s : State). Follows s t) same (follows_first promised first ms last sound run j t at_j)
follows_earlier promised first ms last sound run (suc i) zero s t le at_i at_j = absurd (omega (arith, le))
follows_earlier promised first [] last sound run (suc i) (suc j) s t le at_i at_j = cc
follows_earlier promised first (m ∷ ms) last sound run (suc i) (suc j) s t le at_i at_j =
    follows_earlier promised m.after ms last run.1.sound run.2 i j s t (omega (arith, le)) at_i at_j

-- the records of a version at a state are those of the end of the run
shown_in_end : (last s : State) → Reached last s → (i v : ℕ) → shown_version s.net i ≡ Some v
    → (v ≤ length (accepted_by last)) × (shown_records s.net i ≡ Some (records_of (accepted_by last) v))
shown_in_end last s there i v e =
    let at = shown_at s there.sound i v e in
    let more : Extends (accepted_by s) (accepted_by last) = there.follows.links.hub.accepted in (
      omega (arith, at.0, Extends-length (accepted_by s) (accepted_by last) more),
      at.1 ∙ ap Some (sym (records_of-more (accepted_by s) (accepted_by last) v more at.0)),
    )

module _ (promised : Promised) (w : Net) (past : Past) (stands : Stands promised w past) where
  reached_in : (i : ℕ) (s : State) → slice_get (states_of past) i ≡ Some s → Reached past.now s
  reached_in = reached promised past.first past.history past.now (start_sound past.first stands.begins) stands.run

  pub always_at_version : AlwaysAtVersion past
  always_at_version i s at bot v shown = shown_in_end past.now s (reached_in i s at) bot v shown

  pub at_version : AreAtVersion past w
  at_version bot v shown =
      let sound = now_sound promised w past stands in
      rw stands.net (shown_at past.now sound bot v (sym (ap (λ (w : Net). shown_version w bot) stands.net) ∙ shown))

  pub same_always : SameAlways past
  same_always i j s t at_i at_j a b v one other =
      (shown_in_end past.now s (reached_in i s at_i) a v one).1 ∙ sym (shown_in_end past.now t (reached_in j t at_j) b v other).1

  pub never_back_always : NeverBackAlways past
  never_back_always i j s t le at_i at_j =
      (follows_earlier promised past.first past.history past.now (start_sound past.first stands.begins) stands.run i j s t le at_i at_j).versions

-- no version goes back
pub none_back : (promised : Promised) (past : Past) (steps : List Step) (outcomes : List Outcome)
    (old new : Net) → Stands promised old past → LeadsTo promised past steps outcomes new → NeverBack old new
none_back promised past steps outcomes old new stands led = rw (stands.net, led.stands.net) led.follows.versions

-- what the links promise holds
pub promises_kept : (promised : Promised) (w : Net) (past : Past) → Stands promised w past
    → KeepsPromises past.now
promises_kept promised w past stands = keeps_promises past.now (now_sound promised w past stands)

-- the rights of persons are kept
pub rights_kept : (promised : Promised) (w : Net) (past : Past) → Stands promised w past → KeepsRights (accepted_by past.now)
rights_kept promised w past stands = rights past.now.links (now_sound promised w past stands).links.sound
