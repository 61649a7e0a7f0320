use Rattle.std.proofs.Common.{◌≡◌, ◌+◌, ◌++◌, [], ◌∷◌, cond, is_ok, refl, arith, ap, length, vec_len, List, ◌∙◌}
use Rattle.sharelink.specs.declared.answer.Outgoing.{Outgoing}
use Rattle.botworld.specs.Net.{posted}
use Rattle.botworld.proofs.Growing.{posted-next, posted-end}
use Rattle.botworld.proofs.world.send_all.Goals as goal

pub loop-one-init : goal.loop-one-init
loop-one-init c =
    let all = c.into_iter-one-iterator.ensures.into_iter_gives.0 in
    (ap (λ (os : List Outgoing). c.args.packets.now.items ++ posted c.args.bot os) all, omega (arith, ap length all, c.requires))

pub unwrap-requires : goal.unwrap-requires
unwrap-requires c =
    let next = ap length c.in-Some.ensures.steps.0 in
    c.push.ensures.succeeds (omega (arith, c.loop-one.invariant.1, next))

pub loop-one-preserved : goal.loop-one-preserved
loop-one-preserved c =
    let next = c.in-Some.ensures.steps.0 in
    let shorter = ap length next in
    let pushed : c.push.new.self.items ≡ c.loop-one.packets.items ++ c.sent_by.result ∷ [] = c.push.ensures.items
    ∙ ap (λ r. cond (is_ok r) (c.loop-one.packets.items ++ c.sent_by.result ∷ []) c.loop-one.packets.items) c.unwrap.ensures in
    let count : vec_len c.push.new.self ≡ vec_len c.loop-one.packets + 1 = c.push.ensures.len
    ∙ ap (λ r. cond (is_ok r) (vec_len c.loop-one.packets + 1) (vec_len c.loop-one.packets)) c.unwrap.ensures in
    let rest = posted-next c.loop-one.packets.items c.args.bot _ c.next.new.self.rest.items c.in-Some.one _ next c.loop-one.invariant.0 in
    (rw (pushed, c.sent_by.ensures) rest, omega (arith, count, shorter, c.loop-one.invariant.1, c.push.ensures.capacity))

nil_of_length : {X : Type 0} (xs : List X) → length xs ≡ 0 → xs ≡ []
nil_of_length [] e = refl
nil_of_length (x ∷ xs) e = absurd (omega (arith, e))

pub returns : goal.returns
returns c =
    let none : length c.loop-one.one-iterator.rest.items ≡ 0 = omega (arith, c.loop-one.one-iterator.rest.ok, c.in-None.ensures.steps.0) in
    posted-end c.loop-one.packets.items c.args.bot _ _ (nil_of_length _ none) c.loop-one.invariant.0
