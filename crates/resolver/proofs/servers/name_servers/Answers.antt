use Rattle.std.proofs.Common.{◌∙◌, ◌==◌, [], ap, subst, rules, tests}
use Rattle.std.proofs.lemmas.Iterator.Consumers.{YieldsList-end}
use Rattle.std.proofs.lemmas.Iterator.Splits.{YieldsList-from_slice_split}
use Rattle.resolver.specs.Files.{Collects, server_text}
use Rattle.resolver.proofs.FileLemmas.{collects-more}
use Rattle.resolver.proofs.servers.name_servers.Goals as goal

pub loop-line-preserved : goal.loop-line-preserved
loop-line-preserved c = (
  c.add.ensures.few c.loop-line.invariant.0,
  collects-more server_text 3 c.loop-line.yielded c.in-Some.line c.loop-line.servers c.add.new.self c.server_on.result
      c.loop-line.invariant.1 c.server_on.ensures c.add.ensures.value,
)

pub returns-clause-servers : goal.returns-clause-servers
returns-clause-servers c =
    let from = c.into_iter-line-iterator.ensures.into_iter_gives in
    let cut = YieldsList-end (YieldsList-from_slice_split _ (λ b. b == 10) c.args.text.now
    (ap (λ s. s.rest.now) from ∙ c.split-line-items.ensures.rest) (ap (λ s. s.done) from ∙ c.split-line-items.ensures.done) (ap (λ s. s.pred) from
    ∙ c.split-line-items.ensures.closure) (λ x r q k. search (rules, tests)))
    c.loop-line.yielded _ c.loop-line.yielded_by _ _ c.in-None.is c.next.ensures.steps in
    record {
      named = c.loop-line.servers;
      collected = subst (λ lines. Collects server_text 3 lines [] c.loop-line.servers) cut.0 c.loop-line.invariant.1;
      all = c.or_this_machine.ensures;
    }
