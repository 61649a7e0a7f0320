use Rattle.std.proofs.Common.{◌∙◌, ◌==◌, [], ap, subst, rules, tests}
use Rattle.std.proofs.lemmas.Iterator.Consumers.{YieldsList-end}
use Rattle.std.proofs.lemmas.Iterator.Splits.{YieldsList-from_slice_split}
use Rattle.resolver.specs.Names.{bare}
use Rattle.resolver.specs.Files.{Collects, Spells, host_text, or_else, by_itself}
use Rattle.resolver.proofs.FileLemmas.{collects-more}
use Rattle.resolver.proofs.hosts.known_addresses.Goals as goal

pub loop-line-preserved : goal.loop-line-preserved
loop-line-preserved c =
    collects-more (host_text (bare c.args.name.now)) 32 c.loop-line.yielded c.in-Some.line c.loop-line.found c.add.new.self c.address_on.result
    c.loop-line.invariant
    (subst (λ name. Spells (host_text name c.in-Some.line.now) c.address_on.result) c.bare-name.ensures c.address_on.ensures) c.add.ensures.value

pub returns : goal.returns
returns c =
    let from = c.into_iter-line-iterator.ensures.into_iter_gives in
    let cut = YieldsList-end (YieldsList-from_slice_split _ (λ b. b == 10) c.args.text.now
    (ap (λ s. s.rest.now) from ∙ c.split-line-items.ensures.rest) (ap (λ s. s.done) from ∙ c.split-line-items.ensures.done) (ap (λ s. s.pred) from
    ∙ c.split-line-items.ensures.closure) (λ x r q k. search (rules, tests)))
    c.loop-line.yielded _ c.loop-line.yielded_by _ _ c.in-None.is c.next.ensures.steps in
    record {
      known = record {
        listed = c.loop-line.found;
        collected = subst (λ lines. Collects (host_text (bare c.args.name.now)) 32 lines [] c.loop-line.found) cut.0 c.loop-line.invariant;
        all = c.or_by_itself.ensures ∙ ap (λ name. or_else c.loop-line.found (by_itself name)) c.bare-name.ensures;
      };
    }
