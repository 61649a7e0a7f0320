use Rattle.std.proofs.Common.{map, sym, subst}
use Rattle.bottimers.specs.Held.{calls_at}
use Rattle.botcore.specs.Happenings.{second_of, minute_of}
use Rattle.botcore.specs.Happenings.Happening.{Due}
use Rattle.botcore.specs.Shown.{AreOccasions}
use Rattle.botcore.proofs.RunningLemmas.{AreOccasions-append, due_occasions}
use Rattle.botcore.proofs.running.run_second.Goals as goal

pub returns-clause-occasions : goal.returns-clause-occasions
returns-clause-occasions c =
    let zone = c.args.config.now.zone in
    let calls = calls_at c.args.second c.args.timers.now in
    let due = subst (AreOccasions (map (λ c. Due c.proc c.text) calls)) (sym c.in_ok-occasions.ensures.occasions) (due_occasions calls) in
    subst (AreOccasions (second_of zone c.args.second c.args.timers.now)) (sym c.in_ok-append.ensures.items)
    (AreOccasions-append (map (λ c. Due c.proc c.text) calls) (minute_of zone c.args.second) c.in_ok-occasions.occasions.items c.in_ok-more.more.items
    due c.in_ok-more.ensures)
