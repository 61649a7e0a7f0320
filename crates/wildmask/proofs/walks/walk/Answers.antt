use Rattle.std.proofs.Common.{◌≡◌, ◌<◌, ◌↔◌, ◌+◌, ℕ, List, [], ◌∷◌, length, drop, get_or, subst, arith}
use Rattle.std.specs.Int.{bit_at}
use Rattle.std.proofs.lemmas.List.{length-map, drop_more, drop_all}
use Rattle.wildmask.specs.Codes.{decoded, items_in}
use Rattle.wildmask.specs.Matching.{Matches}
use Rattle.wildmask.proofs.WalkLemmas.{both, some_at_end, one_byte_more, Some}
use Rattle.wildmask.proofs.IdleLemmas.{idle_after}
use Rattle.wildmask.proofs.walks.walk.Goals as goal

pub loop-byte-preserved : goal.loop-byte-preserved
loop-byte-preserved c =
    let inside : c.loop-byte.byte-index < length c.args.text.now = c.loop-byte-test.true in
    let here : Matches c.args.mapping (items_in c.args.codes.now) c.args.text.now
    ↔ Some c.args.mapping (items_in c.args.codes.now) c.loop-byte.places.bits
    (get_or c.args.text.now c.loop-byte.byte-index 0 ∷ drop (c.loop-byte.byte-index + 1) c.args.text.now)
    = subst (λ (xs : List ℕ). Matches c.args.mapping (items_in c.args.codes.now) c.args.text.now
    ↔ Some c.args.mapping (items_in c.args.codes.now) c.loop-byte.places.bits xs) (drop_more c.args.text.now c.loop-byte.byte-index 0 inside) c.loop-byte.invariant.same in
    record {
      counted = one_byte_more (length c.args.codes.now) c.loop-byte.byte-index c.loop-byte.count.steps _ c.args.count.now.steps
          c.loop-byte.invariant.counted c.step_unless_idle-after.ensures.counted;
      closed = c.step_unless_idle-after.ensures.closed;
      same = both here (c.step_unless_idle-after.ensures.moved (drop (c.loop-byte.byte-index + 1) c.args.text.now));
      idle = idle_after c.args.mapping (items_in c.args.codes.now) _ _ _ _ c.idle_byte-idle.ensures c.step_unless_idle-after.ensures.moved;
    }

pub returns-clause-matches : goal.returns-clause-matches
returns-clause-matches c =
    let end : drop c.loop-byte.byte-index c.args.text.now ≡ [] = drop_all c.loop-byte.byte-index c.args.text.now (omega arith) in
    let same : Matches c.args.mapping (items_in c.args.codes.now) c.args.text.now ↔ Some c.args.mapping (items_in c.args.codes.now) c.loop-byte.places.bits [] =
    subst (λ (xs : List ℕ). Matches c.args.mapping (items_in c.args.codes.now) c.args.text.now
    ↔ Some c.args.mapping (items_in c.args.codes.now) c.loop-byte.places.bits xs) end c.loop-byte.invariant.same in
    let last : (bit_at c.loop-byte.places.bits (length c.args.codes.now) ≡ 1) ↔ Some c.args.mapping (items_in c.args.codes.now) c.loop-byte.places.bits [] =
    subst (λ (n : ℕ). (bit_at c.loop-byte.places.bits n ≡ 1)
    ↔ Some c.args.mapping (items_in c.args.codes.now) c.loop-byte.places.bits []) (length-map c.args.codes.now decoded)
    (some_at_end c.args.mapping (items_in c.args.codes.now) c.loop-byte.places.bits c.loop-byte.invariant.closed) in
    (λ h. same.1 (last.0 (c.has.ensures.0 h)), λ m. c.has.ensures.1 (last.1 (same.0 m)))
