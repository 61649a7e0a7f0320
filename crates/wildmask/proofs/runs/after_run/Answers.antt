use Rattle.std.proofs.Common.{◌≡◌, ◌≤◌, ◌+◌, ◌-◌, ◌*◌, ◌↔◌, ℕ, List, ◌∷◌, ◌++◌, length, take, drop, subst, sym, arith, length-drop}
use Rattle.std.proofs.lemmas.Bool.{both_ways}
use Rattle.std.proofs.lemmas.List.{take_rest}
use Rattle.wildmask.specs.declared.items.Item.TheVariants.{AnyText}
use Rattle.wildmask.specs.Codes.{items_in}
use Rattle.wildmask.specs.Matching.{Matches}
use Rattle.wildmask.proofs.WalkLemmas.{both}
use Rattle.wildmask.proofs.RunLemmas.{code_run_hits, code_run_misses, code_run_misses_nil, code_run_too_long, next_start, hit_cost, no_more_than_all}
use Rattle.wildmask.proofs.runs.after_run.Goals as goal

pub returns-then-fits-clause-first : goal.returns-then-fits-clause-first
returns-then-fits-clause-first c =
    let within : length c.args.run.now ≤ length c.loop-rest.rest.now = c.loop-rest-test.true in
    λ items. both (c.loop-rest.invariant.same (AnyText ∷ items))
    (code_run_hits c.args.mapping c.args.run.now items c.loop-rest.rest.now _ _ c.requires.one within c.split_at.ensures.front c.split_at.ensures.back
    (c.fits.ensures.value.0 c.if-fits.true))

pub returns-then-fits-clause-counted : goal.returns-then-fits-clause-counted
returns-then-fits-clause-counted c =
    let within : length c.args.run.now ≤ length c.loop-rest.rest.now = c.loop-rest-test.true in
    let parts : length c.split_at.result.1.now + length c.args.run.now ≡ length c.loop-rest.rest.now = c.split_at.ensures.back_len in
    hit_cost (length c.args.run.now) (length c.args.text.now) (length c.loop-rest.rest.now)
    (length c.split_at.result.1.now) c.args.count.now.steps c.loop-rest.count.steps _ c.loop-rest.invariant.shorter parts
    c.loop-rest.invariant.counted c.fits.ensures.counted

pub returns-in-empty-clause-first : goal.returns-in-empty-clause-first
returns-in-empty-clause-first c = λ items m. code_run_misses_nil c.args.mapping c.args.run.now items c.loop-rest.rest.now _ c.requires.one
    (omega (arith, c.in-empty.len_below)) c.split_at.ensures.front (λ k. both_ways _ c.if-fits.false (c.fits.ensures.value.1 k))
    ((c.loop-rest.invariant.same items).0 m)

pub returns-in-empty-clause-counted : goal.returns-in-empty-clause-counted
returns-in-empty-clause-counted c =
    let within : length c.args.run.now ≤ length c.loop-rest.rest.now = c.loop-rest-test.true in
    let empty : length c.loop-rest.rest.now ≡ 0 = omega (arith, c.in-empty.len_below) in
    no_more_than_all (length c.args.run.now) (length c.args.text.now) (length c.loop-rest.rest.now) c.args.count.now.steps _
    (omega (arith, c.fits.ensures.counted, c.loop-rest.invariant.counted))

pub loop-rest-preserved : goal.loop-rest-preserved
loop-rest-preserved c =
    let next : take (length c.loop-rest.rest.now - 1) (drop 1 c.loop-rest.rest.now) ≡ drop 1 c.loop-rest.rest.now = take_rest c.loop-rest.rest.now 1 in
    let some : 1 ≤ length c.loop-rest.rest.now = c.in-len1-up.len_at_least in
    record {
      shorter = subst (λ (xs : List ℕ). length xs ≤ length c.args.text.now) (sym next)
          (omega (arith, length-drop 1 c.loop-rest.rest.now, c.loop-rest.invariant.shorter));
      counted = subst (λ (xs : List ℕ). c.fits.new.count.steps ≤ c.args.count.now.steps + length c.args.run.now *
          (length c.args.text.now - length xs)) (sym next)
          (next_start (length c.args.run.now) (length c.args.text.now) (length c.loop-rest.rest.now)
          (length (drop 1 c.loop-rest.rest.now)) c.args.count.now.steps c.loop-rest.count.steps _ c.loop-rest.invariant.shorter
          (omega (arith, length-drop 1 c.loop-rest.rest.now)) c.loop-rest.invariant.counted c.fits.ensures.counted);
      same = λ items. subst (λ (xs : List ℕ). Matches c.args.mapping (AnyText ∷ items_in c.args.run.now ++ items) c.args.text.now
          ↔ Matches c.args.mapping (AnyText ∷ items_in c.args.run.now ++ items) xs) (sym next)
          (both (c.loop-rest.invariant.same items)
          (code_run_misses c.args.mapping c.args.run.now items c.loop-rest.rest.now _ c.requires.one some c.split_at.ensures.front
          (λ k. both_ways _ c.if-fits.false (c.fits.ensures.value.1 k))));
    }

pub returns-clause-first : goal.returns-clause-first
returns-clause-first c = λ items m. code_run_too_long c.args.mapping c.args.run.now items c.loop-rest.rest.now c.requires.one (omega (arith, c.loop-rest-test.false))
    ((c.loop-rest.invariant.same items).0 m)

pub returns-clause-counted : goal.returns-clause-counted
returns-clause-counted c = no_more_than_all (length c.args.run.now) (length c.args.text.now)
    (length c.loop-rest.rest.now) c.args.count.now.steps _ c.loop-rest.invariant.counted
