-- The procs that the steps of a net call: those that bots at one version call, if they are alike.
use Rattle.std.proofs.Common.{◌≡◌, ◌≤◌, ℕ, zero, suc, List, [], ◌∷◌, length, map, take, slice_get, Some, refl, ap, sym, subst, ◌∙◌, arith}
use Rattle.userfile.specs.Records.{Records}
use Rattle.procs.specs.Promises.{Promised}
use Rattle.procs.specs.Dispatching.{told_of}
use Rattle.protocol.specs.Packets.{AcceptedChange}
use Rattle.protocol.specs.History.{History, start, records_of}
use Rattle.protocol.proofs.Lists.{Extends-length, records_of-more}
use Rattle.protocol.proofs.Moments.{shows}
use Rattle.sharelink.specs.BotLinks.{BotEnd}
use Rattle.botcore.specs.Links.{link_version, link_records}
use Rattle.botcore.specs.declared.report.End.{End}
use Rattle.botcore.specs.declared.report.End.TheVariants.{Done, Refused, NoMemory}
use Rattle.botcore.specs.Happenings.{happenings_of}
use Rattle.botworld.specs.Calling.{Calling, IsAlike, proc_call}
use Rattle.botworld.proofs.Alike.{proc_calls}
use Rattle.botworld.proofs.Calls.{IsCalled, IsCalled-extended, setting_by, step_calls, alike_calls}
use Rattle.processes.specs.Deeds.{Runs, Net, Step, Deed, Made, Makes, Happens, Run, IsFirst, after_deed}
use Rattle.processes.specs.Standing.{Stands}
use Rattle.processes.specs.Promises.{calling_of, calling_at}
use Rattle.heirs.specs.Descents.{net_at, Ancestor, Descends, AreAtLeast}
use Rattle.heirs.proofs.Stories.{Goes, Story, story, first_front}
use Rattle.heirs.proofs.Lines.{Line, line}

module _ (promised : Promised) where
  -- the calls of a step are those of its bot at its version
  step_called : (w : Net) (h : History) → Stands w h → (bot : ℕ) (step : Step) → Makes promised w bot step
      → (a : Calling) → calling_of step ≡ Some a → IsCalled promised step.names h.hub.kept.accepted a
  step_called w h st bot step m a is = by step.report.end refl is
    where
      by : (end : End) → step.report.end ≡ end → calling_at end step ≡ Some a
          → IsCalled promised step.names h.hub.kept.accepted a
      by (Refused why) e is = cc
      by NoMemory e is = cc
      by Done e is =
          let it : Calling = record {
            bot = step.was;
            happenings = happenings_of step.was step.event;
            calls = map proc_call step.report.calls;
          } in
          let same : it ≡ a = cc in
          let here = st.each bot (Runs step.was) m.running in
          let all = shows st.ends st.packets h st.moment in
          let at = here.at ∙ ap (λ (b : BotEnd). Some b.end) (sym here.has) in
          let records : link_records step.was.link ≡ records_of h.hub.kept.accepted (link_version step.was.link) =
          all.records bot step.was.link.end at in
          let made = step_calls promised step.names step.was step.event step.report step.after e m.takes in
          let calls = made.made
          ∙ ap (λ (r : Records). proc_calls (told_of (setting_by promised step.names step.was r) made.occasions)) records in
          subst (IsCalled promised step.names h.hub.kept.accepted) same
          (record { version = all.within bot step.was.link.end at; occasions = made.occasions; are = made.are; calls = calls })

  -- a deed happens after those before it
  happens_at : (w : Net) (deeds : List Deed) (i : ℕ) (deed : Deed) → Run promised w deeds → slice_get deeds i ≡ Some deed
      → Happens promised (net_at w deeds i) deed
  happens_at w [] i deed run at = cc
  happens_at w (first ∷ deeds) zero deed run at =
      let same : first ≡ deed = cc in subst (Happens promised w) same run.0
  happens_at w (first ∷ deeds) (suc i) deed run at = happens_at (after_deed w first) deeds i deed run.1 at

  -- the calls of a step of a net are those of its bot at its version
  called : (w : Net) (h : History) (deeds : List Deed) (s : Story w h deeds) → Run promised w deeds → (i bot : ℕ) (step : Step)
      (a : Calling) → slice_get deeds i ≡ Some (Made bot step) → calling_of step ≡ Some a
      → IsCalled promised step.names s.last.hub.kept.accepted a
  called w h deeds s run i bot step a at is =
      let b = s.each i in
      IsCalled-extended promised step.names b.past.hub.kept.accepted s.last.hub.kept.accepted a b.front
      (step_called (net_at w deeds i) b.past b.stands bot step (happens_at w deeds i (Made bot step) run at) a is)

  -- so are they in another history that means the same at that version
  IsCalled-moved : (names : List (List ℕ)) (all other : List AcceptedChange) (a : Calling)
      → records_of all (link_version a.bot.link) ≡ records_of other (link_version a.bot.link)
      → link_version a.bot.link ≤ length other → IsCalled promised names all a → IsCalled promised names other a
  IsCalled-moved names all other a records within c = record {
    version = within;
    occasions = c.occasions;
    are = c.are;
    calls = c.calls ∙ ap (λ (r : Records). proc_calls (told_of (setting_by promised names a.bot r) c.occasions)) records;
  }

module _ (promised : Promised) (goes : Goes promised) (first_stands : (count : ℕ) (w : Net) → IsFirst count w → Stands w (start count))
    (ancestors : List Ancestor) (w : Net) (deeds : List Deed) (d : Descends promised ancestors w) (run : Run promised w deeds) where
  abbrev from : Line promised ancestors w
  from = line promised goes first_stands ancestors w d

  abbrev it : Story w from.begin deeds
  it = story promised goes w from.begin deeds from.stands run

  abbrev all : List AcceptedChange
  all = it.last.hub.kept.accepted

  own_called : (names : List (List ℕ)) (i bot : ℕ) (step : Step) (a : Calling) → step.names ≡ names
      → slice_get deeds i ≡ Some (Made bot step) → calling_of step ≡ Some a → IsCalled promised names all a
  own_called names i bot step a same at is =
      subst (λ (n : List (List ℕ)). IsCalled promised n all a) same
      (called promised w from.begin deeds it run i bot step a at is)

  pub net_same_calls : (i j one other : ℕ) (s t : Step) (a b : Calling)
      → slice_get deeds i ≡ Some (Made one s) → slice_get deeds j ≡ Some (Made other t) → s.names ≡ t.names
      → calling_of s ≡ Some a → calling_of t ≡ Some b → IsAlike a b → a.calls ≡ b.calls
  net_same_calls i j one other s t a b at_s at_t names is_a is_b alike =
      alike_calls promised t.names all a b (own_called t.names i one s a names at_s is_a)
      (own_called t.names j other t b refl at_t is_b) alike

  -- the calls of an ancestor's step mean the same here
  old_called : (k : ℕ) (ancestor : Ancestor) → slice_get ancestors k ≡ Some ancestor → (names : List (List ℕ)) (i bot : ℕ)
      (step : Step) (a : Calling) → step.names ≡ names → slice_get ancestor.deeds i ≡ Some (Made bot step)
      → calling_of step ≡ Some a → AreAtLeast (link_version a.bot.link) (take (suc k) ancestors) → IsCalled promised names all a
  old_called k ancestor place names i bot step a same at is reach =
      let before = from.before k ancestor place in
      let old = before.story.last.hub.kept.accepted in
      let means = before.same (link_version a.bot.link) reach in
      let front = first_front w from.begin deeds it in
      let records : records_of old (link_version a.bot.link) ≡ records_of all (link_version a.bot.link) =
      means.0 ∙ sym (records_of-more from.begin.hub.kept.accepted all (link_version a.bot.link) front means.1) in
      subst (λ (n : List (List ℕ)). IsCalled promised n all a) same
      (IsCalled-moved promised step.names old all a records
      (omega (arith, means.1, Extends-length from.begin.hub.kept.accepted all front))
      (called promised ancestor.net before.history ancestor.deeds before.story before.run i bot step a at is))

  pub ancestors_same_calls : (k : ℕ) (ancestor : Ancestor) → slice_get ancestors k ≡ Some ancestor
      → (i j one other : ℕ) (s t : Step) (a b : Calling)
      → slice_get ancestor.deeds i ≡ Some (Made one s) → slice_get deeds j ≡ Some (Made other t) → s.names ≡ t.names
      → calling_of s ≡ Some a → calling_of t ≡ Some b → AreAtLeast (link_version a.bot.link) (take (suc k) ancestors)
      → IsAlike a b → a.calls ≡ b.calls
  ancestors_same_calls k ancestor place i j one other s t a b at_s at_t names is_a is_b reach alike =
      alike_calls promised t.names all a b (old_called k ancestor place t.names i one s a names at_s is_a reach)
      (own_called t.names j other t b refl at_t is_b) alike
