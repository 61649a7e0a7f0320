use Rattle.std.proofs.Common.{◌≡◌, ◌<◌, ◌+◌, ◌-◌, ℕ, true, false, length, drop, get_or, subst, sym, ap, ◌∙◌, arith, refl, true≢false}
use Rattle.std.proofs.lemmas.List.{length-map}
use Rattle.rfccase.specs.Casemapping.{low_by}
use Rattle.wildmask.specs.declared.items.Item.TheVariants.{AnyByte}
use Rattle.wildmask.specs.Codes.{decoded, items_in}
use Rattle.wildmask.specs.Matching.{Matches}
use Rattle.wildmask.specs.Walks.{takes_byte}
use Rattle.wildmask.proofs.WalkLemmas.{item_at}
use Rattle.wildmask.proofs.RunLemmas.{run_ends, run_takes, run_grows}
use Rattle.wildmask.proofs.runs.fits.Goals as goal

pub loop-left-init : goal.loop-left-init
loop-left-init c = record { within = omega arith; counted = omega arith; matched = run_ends c.args.mapping c.args.codes.now c.args.text.now c.requires.len }

pub returns-then-not-takes-clause-value : goal.returns-then-not-takes-clause-value
returns-then-not-takes-clause-value c =
    let inside : c.loop-left.left - 1 < length c.args.codes.now = omega (arith, c.loop-left-test.true, c.loop-left.invariant.within) in
    let refused : takes_byte c.item_of.result c.fold_by.result ≡ false = sym c.takes.ensures.value ∙ c.if-not-takes.true in
    let at : takes_byte (get_or (items_in c.args.codes.now) (c.loop-left.left - 1) AnyByte) (low_by c.args.mapping (get_or c.args.text.now (c.loop-left.left - 1) 0))
    ≡ takes_byte c.item_of.result c.fold_by.result
    = ap (λ i. takes_byte i (low_by c.args.mapping (get_or c.args.text.now (c.loop-left.left - 1) 0))) (item_at c.args.codes.now (c.loop-left.left - 1) inside
    ∙ sym c.item_of.ensures) ∙ ap (λ b. takes_byte c.item_of.result b) (sym c.fold_by.ensures) in (
      λ h. cc,
      λ m. absurd (true≢false (sym (run_takes c.args.mapping (items_in c.args.codes.now) c.args.text.now
          (c.loop-left.left - 1) c.requires.one c.requires.lower m (omega (arith, inside, length-map c.args.codes.now decoded))) ∙ at ∙ refused)),
    )

pub loop-left-preserved : goal.loop-left-preserved
loop-left-preserved c =
    let inside : c.loop-left.left - 1 < length c.args.codes.now = omega (arith, c.loop-left-test.true, c.loop-left.invariant.within) in
    let long : length (items_in c.args.codes.now) ≡ length c.args.codes.now = length-map c.args.codes.now decoded in
    let taken : takes_byte c.item_of.result c.fold_by.result ≡ true = sym c.takes.ensures.value ∙ c.if-not-takes.false in
    let at : takes_byte (get_or (items_in c.args.codes.now) (c.loop-left.left - 1) AnyByte) (low_by c.args.mapping (get_or c.args.text.now (c.loop-left.left - 1) 0))
    ≡ takes_byte c.item_of.result c.fold_by.result
    = ap (λ i. takes_byte i (low_by c.args.mapping (get_or c.args.text.now (c.loop-left.left - 1) 0))) (item_at c.args.codes.now (c.loop-left.left - 1) inside
    ∙ sym c.item_of.ensures) ∙ ap (λ b. takes_byte c.item_of.result b) (sym c.fold_by.ensures) in
    let next : c.loop-left.left ≡ (c.loop-left.left - 1) + 1 = omega (arith, c.loop-left-test.true) in
    let later : Matches c.args.mapping (drop ((c.loop-left.left - 1) + 1) (items_in c.args.codes.now)) (drop ((c.loop-left.left - 1) + 1) c.args.text.now) =
    subst (λ (n : ℕ). Matches c.args.mapping (drop n (items_in c.args.codes.now)) (drop n c.args.text.now)) next c.loop-left.invariant.matched in
    record {
      within = omega (arith, c.loop-left.invariant.within);
      counted = omega (arith, c.takes.ensures.counted, c.loop-left.invariant.counted, c.loop-left-test.true);
      matched = run_grows c.args.mapping (items_in c.args.codes.now) c.args.text.now (c.loop-left.left - 1) c.requires.one c.requires.lower (long
          ∙ c.requires.len) (omega arith) (at ∙ taken) later;
    }

pub returns-clause-value : goal.returns-clause-value
returns-clause-value c =
    let none : c.loop-left.left ≡ 0 = omega (arith, c.loop-left-test.false) in
    (λ h. subst (λ (n : ℕ). Matches c.args.mapping (drop n (items_in c.args.codes.now)) (drop n c.args.text.now)) none c.loop-left.invariant.matched, λ m. refl)
