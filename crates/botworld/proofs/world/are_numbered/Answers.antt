use Rattle.std.proofs.Common.{◌≡◌, length, slice_get, Some, true≢false, refl, sym, ◌∙◌, arith}
use Rattle.std.proofs.lemmas.Option.{slice_get_read}
use Rattle.botworld.proofs.Numbered.{numbered_more, numbered_all}
use Rattle.botworld.proofs.world.are_numbered.Goals as goal

pub returns-then-not-is_numbered_at : goal.returns-then-not-is_numbered_at
returns-then-not-is_numbered_at g c =
    let bots = c.args.bots.now in
    let b = c.index-bots-place.result in
    let here : slice_get bots c.loop-place.place ≡ Some b =
    slice_get_read bots (length bots) c.loop-place.place b refl (omega (arith, c.loop-place-test.true)) c.index-bots-place.is in (
      λ h. absurd (true≢false (sym h)),
      λ numbered. sym c.if-not-is_numbered_at.true ∙ c.is_numbered_at.ensures.1 (numbered.each c.loop-place.place b here),
    )

pub loop-place-preserved : goal.loop-place-preserved
loop-place-preserved g c =
    let bots = c.args.bots.now in
    let b = c.index-bots-place.result in
    let here : slice_get bots c.loop-place.place ≡ Some b =
    slice_get_read bots (length bots) c.loop-place.place b refl (omega (arith, c.loop-place-test.true)) c.index-bots-place.is in
    numbered_more bots c.loop-place.place b here (c.is_numbered_at.ensures.0 c.if-not-is_numbered_at.false) c.loop-place.invariant

pub returns : goal.returns
returns g c =
    numbered_all c.args.bots.now c.loop-place.place c.is_empty.result (omega (arith, c.loop-place-test.false)) c.loop-place.invariant c.is_empty.ensures
