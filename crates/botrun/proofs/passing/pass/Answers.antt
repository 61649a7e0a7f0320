use Rattle.std.proofs.Common.{◌≡◌, ◌∙◌, ◌∷◌, List, rules, ap, subst, sym}
use Rattle.botcore.specs.declared.report.Report.{Report}
use Rattle.watching.specs.Acts.{Act}
use Rattle.watching.specs.Following.{LetsSend, after_sends}
use Rattle.watching.proofs.SendingLemmas.{after_append, lets_first, lets_second}
use Rattle.turns.specs.Queues.{packets_in}
use Rattle.botrun.proofs.passing.pass.Goals as goal

pub pass-requires-clause-lets : goal.pass-requires-clause-lets
pass-requires-clause-lets g c =
    let at = c.loop-report in
    let is : at.rest.now ≡ c.in-Some.report.now ∷ c.in-Some.behind.now = search rules in
    lets_first g.W.Watcher.may c.in-Some.report.now.packets (packets_in c.in-Some.behind.now) (g.W.Watcher.past at.watcher)
    (subst (λ (r : List Report). LetsSend g.W.Watcher.may (g.W.Watcher.past at.watcher) (packets_in r)) is at.invariant.lets)

pub loop-report-preserved : goal.loop-report-preserved
loop-report-preserved g c =
    let at = c.loop-report in
    let past = g.W.Watcher.past at.watcher in
    let report = c.in-Some.report.now in
    let behind = c.in-Some.behind.now in
    let is : at.rest.now ≡ report ∷ behind = search rules in
    record {
      good = search rules;
      lets = subst (λ (p : List Act). LetsSend g.W.Watcher.may p (packets_in behind)) (sym c.in_ok-pass.ensures.past)
          (lets_second g.W.Watcher.may report.packets (packets_in behind) past
          (subst (λ (r : List Report). LetsSend g.W.Watcher.may past (packets_in r)) is at.invariant.lets));
      past = ap (λ (p : List Act). after_sends (packets_in behind) p) c.in_ok-pass.ensures.past
          ∙ sym (after_append report.packets (packets_in behind) past)
          ∙ ap (λ (r : List Report). after_sends (packets_in r) past) (sym is) ∙ at.invariant.past;
      told = search rules;
      server = search rules;
      asker = search rules;
      asks = search rules;
    }
