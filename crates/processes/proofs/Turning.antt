-- The steps of a turn are deeds.
use Rattle.std.proofs.Common.{◌≡◌, ℕ, zero, suc, List, [], ◌∷◌, ◌++◌, slice_get, Some, refl, ap, sym, ◌∙◌}
use Rattle.procs.specs.Promises.{Promised}
use Rattle.botcore.specs.declared.event.BotEvent.{BotEvent}
use Rattle.botcore.specs.declared.event.BotEvent.TheVariants.{Connect, Line, Ask, Pump, Receive, Clock, Bind, Unbind}
use Rattle.botcore.specs.declared.event.BotEvent.TheVariants.{Compact, Restart}
use Rattle.botcore.specs.declared.report.Report.{Report}
use Rattle.botcore.specs.Bots.{Bot}
use Rattle.protocol.proofs.Lists.{item_at-more}
use Rattle.botworld.specs.declared.sent.Sent.{Sent}
use Rattle.botworld.specs.Net.{packet_at, posted}
use Rattle.botworld.proofs.Lists.{slice_get-set-same}
use Rattle.turns.specs.Turns.{Steps}
use Rattle.processes.specs.Deeds.{Runs, Net, Step, Made, WasTold, after_deed}
use Rattle.processes.specs.Turning.{AreTold, AreDeeds}

-- ---- a packet that was sent stays sent

packet_at-more : (packets more : List Sent) (number : ℕ) (sent : Sent) → packet_at packets number ≡ Some sent
    → packet_at (packets ++ more) number ≡ Some sent
packet_at-more packets more zero sent at = cc
packet_at-more packets more (suc place) sent at = item_at-more packets (packets ++ more) (suc place) sent (more, refl) at

pub WasTold-more : (packets more : List Sent) (bot : ℕ) (event : BotEvent) → WasTold packets bot event
    → WasTold (packets ++ more) bot event
WasTold-more packets more bot (Receive packet) was = (was.0, was.1, packet_at-more packets more was.0 _ was.2)
WasTold-more packets more bot Connect was = tt
WasTold-more packets more bot (Line line) was = tt
WasTold-more packets more bot (Ask change) was = tt
WasTold-more packets more bot Pump was = tt
WasTold-more packets more bot (Clock now) was = tt
WasTold-more packets more bot (Bind asked) was = tt
WasTold-more packets more bot (Unbind gone) was = tt
WasTold-more packets more bot Compact was = tt
WasTold-more packets more bot Restart was = tt

AreTold-more : (packets more : List Sent) (bot : ℕ) (events : List BotEvent) → AreTold packets bot events
    → AreTold (packets ++ more) bot events
AreTold-more packets more bot [] told = tt
AreTold-more packets more bot (event ∷ events) told =
    (WasTold-more packets more bot event told.0, AreTold-more packets more bot events told.1)

-- ---- steps as deeds

pub steps_are_deeds : (promised : Promised) (w : Net) (bot : ℕ) (names : List (List ℕ)) (old new : Bot) (events : List BotEvent)
    (reports : List Report) → slice_get w.processes bot ≡ Some (Runs old) → AreTold w.packets bot events
    → Steps promised names old events reports new → AreDeeds promised w bot names events reports new
unfolding Steps
steps_are_deeds promised w bot names old new [] [] at told steps = record {
  deeds = [];
  run = tt;
  steps = tt;
  runs = at ∙ ap (λ (b : Bot). Some (Runs b)) (sym steps);
}
steps_are_deeds promised w bot names old new [] (report ∷ reports) at told steps = absurd steps
steps_are_deeds promised w bot names old new (event ∷ events) [] at told steps = absurd steps
steps_are_deeds promised w bot names old new (event ∷ events) (report ∷ reports) at told (mid, makes, steps) =
    let step : Step = record { names = names; was = old; event = event; report = report; after = mid } in
    let rest = steps_are_deeds promised (after_deed w (Made bot step)) bot names mid new events reports
    (slice_get-set-same w.processes bot (Runs old) (Runs mid) at)
    (AreTold-more w.packets (posted bot report.packets) bot events told.1) steps in
    record {
      deeds = Made bot step ∷ rest.deeds;
      run = (record { running = at; told = told.0; takes = makes.takes }, rest.run);
      steps = ((refl, refl, refl, refl), rest.steps);
      runs = rest.runs;
    }
