use Rattle.std.proofs.Common.{rules, ◌≡◌, slice_get, length, Some, refl}
use Rattle.std.proofs.lemmas.Option.{slice_get_read}
use Rattle.promotion.proofs.Rankings.{begins, put_higher, put_no_higher}
use Rattle.promotion.proofs.ranking.highest.Goals as goal
use Rattle.promotion.proofs.ranking.highest.Goals.{then-standing-version, else-standing-version}

pub loop-place-init : goal.loop-place-init
loop-place-init c = begins c.args.standings.now c.in_ok-version.field-0.now (search rules)

pub loop-place-preserved : goal.loop-place-preserved
loop-place-preserved c =
    let all = c.args.standings.now in
    let place = c.loop-place.place in
    let next = c.index-standings-place.result in
    let at : slice_get all place ≡ Some next =
    slice_get_read all (length all) place next refl c.loop-place-test.true c.index-standings-place.is in
    elim c.if-standing-version.branch [
      | then-standing-version w ↦ put_higher all place c.loop-place.best c.loop-place.version next c.loop-place.invariant at _ _
          w.if-standing-version.true w.version-is w.best-is
      | else-standing-version w ↦ put_no_higher all place c.loop-place.best c.loop-place.version next c.loop-place.invariant at _ _
          w.if-standing-version.false w.version-is w.best-is
    ]
