use Rattle.std.proofs.Common.{ℕ, ◌+◌, ◌-◌, ◌++◌, List, length, length-drop, get_or, drop, take, refl, ap, sym, ◌∙◌, arith}
use Rattle.std.proofs.lemmas.List.{append-nil, append_assoc, take_rest}
use Rattle.floods.specs.Sifting.{Sieving, after_bytes, at_byte, begun, dropped, given, sifted}
use Rattle.floods.proofs.PieceLemmas.{ends, held_length, steps}
use Rattle.floods.proofs.sieve.Sieve.sift.Goals as goal

pub loop-place-preserved : goal.loop-place-preserved
loop-place-preserved g c =
    let trusted = g.T.Trusts.trusted c.args.trusts.now in
    let now = c.args.now in
    let rest = c.loop-place.rest.now in
    let place = c.in-Some.place in
    let held = c.hold.new.self in
    let end = get_or rest place 0 in
    let next = take (length rest - (place + 1)) (drop (place + 1) rest) in
    let so_far = c.loop-place.sifted.bytes.items in
    let s = steps trusted now c.loop-place.self held rest place end next c.in-Some.ensures refl (take_rest rest (place + 1)) c.hold.ensures in
    let long = held_length c.loop-place.self held rest place c.hold.ensures in
    let left = ap length (take_rest rest (place + 1)) ∙ length-drop (place + 1) rest in
    let within = c.in-Some.ensures.0.high in
    let before = c.loop-place.invariant in
    let taken = c.take_end.ensures in
    record {
      room = omega (arith, long, left, within, before.room, taken.line, taken.room, taken.capacity);
      few = omega (arith, left, within, before.few, taken.few);
      fewer = omega (arith, left, within, before.fewer, taken.fewer);
      bytes =
          ap (λ (passed : List ℕ). passed ++ sifted trusted now c.take_end.new.self next) taken.bytes
          ∙ ap (λ (z : Sieving). so_far ++ given trusted now held end ++ sifted trusted now z next) taken.after
          ∙ append_assoc so_far (given trusted now held end) (sifted trusted now (at_byte trusted now held end) next)
          ∙ ap (λ (more : List ℕ). so_far ++ more) s.bytes
          ∙ before.bytes;
      dropped = omega (arith, taken.dropped, ap (λ (z : Sieving). dropped trusted now z next) taken.after, s.dropped, before.dropped);
      begun = omega (arith, taken.begun, ap (λ (z : Sieving). begun trusted now z next) taken.after, s.begun, before.begun);
      after = ap (λ (z : Sieving). after_bytes trusted now z next) taken.after ∙ s.after ∙ before.after;
    }

pub returns-clause-bytes : goal.returns-clause-bytes
returns-clause-bytes g c =
    let e = ends (g.T.Trusts.trusted c.args.trusts.now) c.args.now c.loop-place.self c.loop-place.rest.now c.in_default.ensures in
    sym (append-nil c.loop-place.sifted.bytes.items) ∙ ap (λ (l : List ℕ). c.loop-place.sifted.bytes.items ++ l) (sym e.bytes) ∙ c.loop-place.invariant.bytes

pub returns-clause-dropped : goal.returns-clause-dropped
returns-clause-dropped g c =
    let e = ends (g.T.Trusts.trusted c.args.trusts.now) c.args.now c.loop-place.self c.loop-place.rest.now c.in_default.ensures in
    omega (arith, e.dropped, c.loop-place.invariant.dropped)

pub returns-clause-begun : goal.returns-clause-begun
returns-clause-begun g c =
    let e = ends (g.T.Trusts.trusted c.args.trusts.now) c.args.now c.loop-place.self c.loop-place.rest.now c.in_default.ensures in
    omega (arith, e.begun, c.loop-place.invariant.begun)

pub returns-clause-after : goal.returns-clause-after
returns-clause-after g c =
    let e = ends (g.T.Trusts.trusted c.args.trusts.now) c.args.now c.loop-place.self c.loop-place.rest.now c.in_default.ensures in
    c.hold-2.ensures ∙ sym e.after ∙ c.loop-place.invariant.after
