use Rattle.std.proofs.Common.{◌↔◌, ◌∷◌, ◌++◌, List, length, subst, sym, arith}
use Rattle.wildmask.specs.declared.items.Item.{Item}
use Rattle.wildmask.specs.declared.items.Item.TheVariants.{AnyText}
use Rattle.wildmask.specs.Codes.{items_in}
use Rattle.wildmask.specs.Matching.{Matches}
use Rattle.wildmask.specs.Walks.{AllLower}
use Rattle.wildmask.proofs.WalkLemmas.{both}
use Rattle.wildmask.proofs.RunLemmas.{AllLower-left, AllLower-right, passed_over, walked_all}
use Rattle.wildmask.proofs.runs.matches_stars.Goals as goal

pub after_run-requires-clause-one : goal.after_run-requires-clause-one
after_run-requires-clause-one c = c.in-Some.ensures.parts.3

pub after_run-requires-clause-lower : goal.after_run-requires-clause-lower
after_run-requires-clause-lower c = AllLower-left c.args.mapping (items_in c.in-Some.run'.now) (AnyText ∷ c.in-Some.ensures.parts.0)
    (subst (AllLower c.args.mapping) c.in-Some.ensures.parts.1 c.loop-run.invariant.lower).1

pub returns-in-None-clause-matches : goal.returns-in-None-clause-matches
returns-in-None-clause-matches c = (
  λ h. cc,
  λ m. absurd
      (c.in-None.ensures.first (AnyText ∷ c.in-Some.ensures.parts.0)
      (subst (λ (xs : List Item). Matches c.args.mapping xs c.loop-run.rest.now) c.in-Some.ensures.parts.1 (c.loop-run.invariant.same.0 m))),
)

pub returns-in-None-clause-counted : goal.returns-in-None-clause-counted
returns-in-None-clause-counted c = walked_all (length c.args.codes.now) (length c.in-Some.run'.now) (length c.args.text.now)
    (length c.loop-run.rest.now) c.args.count.now.steps c.loop-run.count.steps _
    (omega (arith, c.in-Some.ensures.shorter, c.loop-run.invariant.fewer)) c.loop-run.invariant.shorter c.loop-run.invariant.counted c.in-None.ensures.counted

pub loop-run-preserved : goal.loop-run-preserved
loop-run-preserved c =
    let here : Matches c.args.mapping (items_in c.args.codes.now) c.args.text.now
    ↔ Matches c.args.mapping (AnyText ∷ (items_in c.in-Some.run'.now ++ AnyText ∷ c.in-Some.ensures.parts.0)) c.loop-run.rest.now
    = subst (λ (xs : List Item). Matches c.args.mapping (items_in c.args.codes.now) c.args.text.now
    ↔ Matches c.args.mapping xs c.loop-run.rest.now) c.in-Some.ensures.parts.1 c.loop-run.invariant.same in
    let next : Matches c.args.mapping (AnyText ∷ (items_in c.in-Some.run'.now ++ AnyText ∷ c.in-Some.ensures.parts.0)) c.loop-run.rest.now
    ↔ Matches c.args.mapping (items_in c.in-Some.others.now) c.in-Some-after_run.after.now
    = subst (λ (xs : List Item). Matches c.args.mapping (AnyText ∷ (items_in c.in-Some.run'.now ++ AnyText ∷ c.in-Some.ensures.parts.0)) c.loop-run.rest.now
    ↔ Matches c.args.mapping xs c.in-Some-after_run.after.now) (sym c.in-Some.ensures.parts.2) (c.in-Some-after_run.ensures.first c.in-Some.ensures.parts.0) in
    record {
      fewer = omega (arith, c.in-Some.ensures.shorter, c.loop-run.invariant.fewer);
      shorter = omega (arith, c.in-Some-after_run.ensures.shorter, c.loop-run.invariant.shorter);
      lower = subst (AllLower c.args.mapping) (sym c.in-Some.ensures.parts.2)
          (AllLower-right c.args.mapping (items_in c.in-Some.run'.now) (AnyText ∷ c.in-Some.ensures.parts.0)
          (subst (AllLower c.args.mapping) c.in-Some.ensures.parts.1 c.loop-run.invariant.lower).1);
      counted = passed_over (length c.args.codes.now) (length c.in-Some.run'.now) (length c.args.text.now) (length c.loop-run.rest.now)
          (length c.in-Some-after_run.after.now) c.args.count.now.steps c.loop-run.count.steps _
          (omega (arith, c.in-Some.ensures.shorter, c.loop-run.invariant.fewer)) c.in-Some-after_run.ensures.shorter c.loop-run.invariant.shorter
          c.loop-run.invariant.counted c.in-Some-after_run.ensures.counted;
      same = both here next;
    }

pub returns-clause-matches : goal.returns-clause-matches
returns-clause-matches c = both c.walk.ensures.matches (λ m. c.loop-run.invariant.same.1 m, λ m. c.loop-run.invariant.same.0 m)

pub returns-clause-counted : goal.returns-clause-counted
returns-clause-counted c = walked_all (length c.args.codes.now) (length c.loop-run.left.now) (length c.args.text.now)
    (length c.loop-run.rest.now) c.args.count.now.steps c.loop-run.count.steps _ c.loop-run.invariant.fewer c.loop-run.invariant.shorter
    c.loop-run.invariant.counted c.walk.ensures.counted
