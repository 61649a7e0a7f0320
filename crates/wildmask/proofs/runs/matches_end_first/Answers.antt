use Rattle.std.proofs.Common.{◌≤◌, ◌++◌, ◌↔◌, length, arith}
use Rattle.std.proofs.lemmas.Bool.{both_ways}
use Rattle.wildmask.specs.Codes.{items_in}
use Rattle.wildmask.specs.Matching.{Matches}
use Rattle.wildmask.proofs.RunLemmas.{code_run_last, code_run_last_too_long, end_then_rest, end_alone}
use Rattle.wildmask.proofs.runs.matches_end_first.Goals as goal

pub returns-then-text-end-clause-matches : goal.returns-then-text-end-clause-matches
returns-then-text-end-clause-matches c = (
  λ h. cc,
  λ m. absurd (code_run_last_too_long c.args.mapping c.args.front.now c.args.end.now c.args.text.now c.requires.one (omega arith) m),
)

pub returns-then-text-end-clause-counted : goal.returns-then-text-end-clause-counted
returns-then-text-end-clause-counted c = end_alone (length c.args.front.now) (length c.args.end.now) (length c.args.text.now) c.args.count.now.steps _
    (omega arith)

pub returns-then-fits-clause-matches : goal.returns-then-fits-clause-matches
returns-then-fits-clause-matches c =
    let within : length c.args.end.now ≤ length c.args.text.now = omega arith in
    let by : Matches c.args.mapping (items_in c.args.front.now ++ items_in c.args.end.now) c.args.text.now
    ↔ (Matches c.args.mapping (items_in c.args.end.now) c.split_at.result.1.now × Matches c.args.mapping (items_in c.args.front.now) c.split_at.result.0.now)
    = code_run_last c.args.mapping c.args.front.now c.args.end.now c.args.text.now _ _ c.requires.one within c.split_at.ensures.front c.split_at.ensures.back in
    (λ h. by.1 (c.fits.ensures.value.0 c.if-fits.true, c.matches_run_first.ensures.matches.0 h), λ m. c.matches_run_first.ensures.matches.1 (by.0 m).1)

pub returns-then-fits-clause-counted : goal.returns-then-fits-clause-counted
returns-then-fits-clause-counted c =
    end_then_rest (length c.args.front.now) (length c.args.end.now) (length c.args.text.now)
    (length c.split_at.result.0.now) c.args.count.now.steps c.fits.new.count.steps _
    (omega (arith, c.split_at.ensures.front_len)) c.fits.ensures.counted c.matches_run_first.ensures.counted

pub returns-else-fits-clause-matches : goal.returns-else-fits-clause-matches
returns-else-fits-clause-matches c =
    let within : length c.args.end.now ≤ length c.args.text.now = omega arith in
    let by : Matches c.args.mapping (items_in c.args.front.now ++ items_in c.args.end.now) c.args.text.now
    ↔ (Matches c.args.mapping (items_in c.args.end.now) c.split_at.result.1.now × Matches c.args.mapping (items_in c.args.front.now) c.split_at.result.0.now)
    = code_run_last c.args.mapping c.args.front.now c.args.end.now c.args.text.now _ _ c.requires.one within c.split_at.ensures.front c.split_at.ensures.back in
    (λ h. cc, λ m. absurd (both_ways _ c.if-fits.false (c.fits.ensures.value.1 (by.0 m).0)))

pub returns-else-fits-clause-counted : goal.returns-else-fits-clause-counted
returns-else-fits-clause-counted c = end_alone (length c.args.front.now) (length c.args.end.now)
    (length c.args.text.now) c.args.count.now.steps _ c.fits.ensures.counted
