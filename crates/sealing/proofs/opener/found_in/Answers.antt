use Rattle.std.proofs.Common.{◌+◌, ◌++◌, sym, subst, List, ℕ, arith}
use Rattle.sealing.specs.declared.kind.Kind.TheVariants.{Frames}
use Rattle.sealing.specs.Records.{content}
use Rattle.sealing.specs.Steps.{AreTold}
use Rattle.sealing.proofs.ReadingLemmas.{one_more}
use Rattle.sealing.proofs.opener.found_in.Goals as goal

pub overflow_add-count : goal.overflow_add-count
overflow_add-count c = omega (arith, c.in-Whole.ensures.1.1)

pub loop-body-preserved : goal.loop-body-preserved
loop-body-preserved c =
    let body : List ℕ = c.in-Whole.body.now in
    let behind : List ℕ = c.in-Whole.behind.now in
    let frames : List ℕ = c.loop-body.frames.items ++ content Frames body in
    subst (λ (l : List ℕ). AreTold c.args.key.now c.args.first c.args.bytes.now l c.put_content-in-Whole.new.told.items behind (c.loop-body.count + 1))
    (sym c.in_ok-put_content-in-Whole.ensures)
    (subst (λ (l : List ℕ). AreTold c.args.key.now c.args.first c.args.bytes.now frames l behind (c.loop-body.count + 1))
    (sym c.in_ok-put_content-in-Whole-2.ensures)
    (one_more c.args.key.now c.args.first c.args.bytes.now c.loop-body.frames.items c.loop-body.beats.items c.loop-body.rest.now c.loop-body.count
    body behind c.loop-body.invariant c.in-Whole.ensures.0 c.in-Whole.ensures.1.0 c.in-Whole.ensures.1.1))
