-- Alike bots call the same procs, at any two moments of a list of deeds; where the promised codes ignore the channels, bots that are
-- alike but for these do too.
use Rattle.std.proofs.Common.{◌≡◌, ℕ, zero, suc, List, [], ◌∷◌, map, slice_get, Some, refl, ap, sym, subst, ◌∙◌}
use Rattle.userfile.specs.Records.{Records}
use Rattle.procs.specs.Promises.{Promised}
use Rattle.protocol.specs.History.{History, start, records_of}
use Rattle.protocol.specs.Packets.{AcceptedChange}
use Rattle.protocol.proofs.Growing.{Grows-refl}
use Rattle.protocol.proofs.Moments.{shows}
use Rattle.sharelink.specs.BotLinks.{BotEnd}
use Rattle.procs.specs.Dispatching.{told_of}
use Rattle.botcore.specs.Links.{link_version, link_records}
use Rattle.botcore.specs.declared.report.End.{End}
use Rattle.botcore.specs.declared.report.End.TheVariants.{Done, Refused, NoMemory}
use Rattle.botcore.specs.Happenings.{happenings_of}
use Rattle.botworld.specs.Calling.{Calling, IsAlike, IsAlikeButChannels, IgnoresChannels, proc_call}
use Rattle.botworld.proofs.Alike.{proc_calls}
use Rattle.processes.specs.Deeds.{Runs, Net, Step, Deed, Made, after_deed, net_after, Makes, Happens, Run, IsFirst}
use Rattle.processes.specs.Standing.{Stands, GrowsBy, Reaches}
use Rattle.processes.specs.Promises.{calling_of, calling_at}
use Rattle.botworld.proofs.Calls.{IsCalled, IsCalled-extended, setting_by, step_calls, alike_calls, alike_calls_ignoring_channels}
use Rattle.processes.proofs.Standing.{grown, GrowsBy-trans}
use Rattle.processes.proofs.Deeds.{deed_goes}
use Rattle.processes.proofs.Running.{first_stands}

module _ (promised : Promised) where
  -- the calls of a step are those of its bot at its version
  step_called : (w : Net) (h : History) → Stands w h → (bot : ℕ) (step : Step) → Makes promised w bot step
      → (a : Calling) → calling_of step ≡ Some a
      → IsCalled promised step.names h.hub.kept.accepted a
  step_called w h st bot step m a is = by step.report.end refl is
    where
      by : (end : End) → step.report.end ≡ end → calling_at end step ≡ Some a
          → IsCalled promised step.names h.hub.kept.accepted a
      by (Refused why) e is = cc
      by NoMemory e is = cc
      by Done e is =
          let it : Calling = record {
            bot = step.was;
            happenings = happenings_of step.was step.event;
            calls = map
                proc_call step.report.calls;
          } in
          let same : it ≡ a = cc in
          let here = st.each bot (Runs step.was) m.running in
          let all = shows st.ends st.packets h st.moment in
          let at = here.at ∙ ap (λ (b : BotEnd). Some b.end) (sym here.has) in
          let records : link_records step.was.link ≡ records_of h.hub.kept.accepted (link_version step.was.link) =
          all.records bot step.was.link.end at in
          let made = step_calls promised step.names step.was step.event step.report step.after e m.takes in
          let calls = made.made
          ∙ ap (λ (r : Records). proc_calls (told_of (setting_by promised step.names step.was r) made.occasions)) records in
          subst (IsCalled promised step.names h.hub.kept.accepted) same
          (record {
            version = all.within bot step.was.link.end at;
            occasions = made.occasions;
            are = made.are;
            calls =
                calls;
          })

  -- where deeds lead, and that their calls are those of the bots at their versions
  record Goes (w : Net) (h : History) (deeds : List Deed) : Type 0 where
    reaches : Reaches deeds h (net_after w deeds)
    called : (i bot : ℕ) (step : Step) (a : Calling) → slice_get deeds i ≡ Some (Made bot step)
        → calling_of step ≡ Some a
        → IsCalled promised step.names reaches.after.hub.kept.accepted a

  goes : (w : Net) (h : History) (deeds : List Deed) → Stands w h → Run promised w deeds → Goes w h deeds
  goes w h [] st run = record {
    reaches = record { after = h; stands = st; grows = grown [] h h (Grows-refl h) };
    called = λ i bot step a at is. cc;
  }
  goes w h (deed ∷ deeds) st run =
      let one = (deed_goes w h st promised deed run.0).leads in
      let rest = goes (after_deed w deed) one.after deeds one.stands run.1 in
      let grows = GrowsBy-trans deed deeds h one.after rest.reaches.after one.grows rest.reaches.grows in
      record {
        reaches = record { after = rest.reaches.after; stands = rest.reaches.stands; grows = grows };
        called = λ i bot step a at is. by grows rest refl i bot step a at is;
      }
    where
      by : {next : History} → {last : History} → GrowsBy (deed ∷ deeds) h last
          → (rest : Goes (after_deed w deed) next deeds) → rest.reaches.after ≡ last
          → (i bot : ℕ) (step : Step) (a : Calling)
          → slice_get (deed ∷ deeds) i ≡ Some (Made bot step) → calling_of step ≡ Some a
          → IsCalled promised step.names last.hub.kept.accepted a
      by {next} {last} grows rest e zero bot step a at is =
          let same : deed ≡ Made bot step = cc in
          let m : Makes promised w bot step = subst (Happens promised w) same run.0 in
          IsCalled-extended promised step.names h.hub.kept.accepted last.hub.kept.accepted a grows.hub.accepted
          (step_called w h st bot step m a is)
      by {next} {last} grows rest e (suc i) bot step a at is =
          subst (λ (l : History). IsCalled promised step.names l.hub.kept.accepted a) e (rest.called i bot step a at is)

  -- the calls of both steps are those of their bots at the versions of one moment
  record AreCalled (names : List (List ℕ)) (a b : Calling) : Type 0 where
    all : List AcceptedChange
    one : IsCalled promised names all a
    other : IsCalled promised names all b

  module _ (count : ℕ) (w : Net) (deeds : List Deed) (is : IsFirst count w) (run : Run promised w deeds) where
    are_called : (i j one other : ℕ) (s t : Step) (a b : Calling)
        → slice_get deeds i ≡ Some (Made one s) → slice_get deeds j ≡ Some (Made other t) → s.names ≡ t.names
        → calling_of s ≡ Some a → calling_of t ≡ Some b → AreCalled t.names a b
    are_called i j one other s t a b at_s at_t names is_a is_b =
        let g = goes w (start count) deeds (first_stands count w is) run in
        let all = g.reaches.after.hub.kept.accepted in
        record {
          all = all;
          one = subst (λ (n : List (List ℕ)). IsCalled promised n all a) names (g.called i one s a at_s is_a);
          other = g.called j other t b at_t is_b;
        }

    pub run_same_calls : (i j one other : ℕ) (s t : Step) (a b : Calling)
        → slice_get deeds i ≡ Some (Made one s) → slice_get deeds j ≡ Some (Made other t) → s.names ≡ t.names
        → calling_of s ≡ Some a → calling_of t ≡ Some b → IsAlike a b → a.calls ≡ b.calls
    run_same_calls i j one other s t a b at_s at_t names is_a is_b alike =
        let called = are_called i j one other s t a b at_s at_t names is_a is_b in
        alike_calls promised t.names called.all a b called.one called.other alike

    pub run_same_calls_ignoring_channels : IgnoresChannels promised → (i j one other : ℕ) (s t : Step) (a b : Calling)
        → slice_get deeds i ≡ Some (Made one s) → slice_get deeds j ≡ Some (Made other t) → s.names ≡ t.names
        → calling_of s ≡ Some a → calling_of t ≡ Some b → IsAlikeButChannels a b → a.calls ≡ b.calls
    run_same_calls_ignoring_channels ignores i j one other s t a b at_s at_t names is_a is_b alike =
        let called = are_called i j one other s t a b at_s at_t names is_a is_b in
        alike_calls_ignoring_channels promised t.names called.all a b ignores called.one called.other alike
