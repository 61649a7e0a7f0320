use Rattle.std.proofs.Common.{ℕ, ◌≡◌, ◌-◌, ap, sym, subst, arith, ◌∙◌, take, drop, suc, List, Option}
use Rattle.usercodec.specs.declared.records.Record.{Record}
use Rattle.protocol.specs.Snapshots.{PartSet}
use Rattle.sharelink.specs.Parts.{AreGoodParts}
use Rattle.sharelink.proofs.PartLaws.{joined-whole, joined-lacks-front, joined-lacks-back, good-whole}
use Rattle.sharelink.proofs.parts.KeptParts.whole_with.Goals.{else-are_there-via-then-are_there+else-are_there-2, else-are_there-via-else-are_there}
use Rattle.sharelink.proofs.parts.KeptParts.whole_with.Goals as goal

-- what is in front of a place, and what is behind it
front-is : (parts slice all front : List (Option (List Record))) (n part : ℕ) → front ≡ take (n - 1) slice → n ≡ part → slice ≡ parts → parts ≡ all
    → front ≡ take (part - 1) all
front-is parts slice all front n part e f g h = e ∙ ap (λ m. take (m - 1) slice) f ∙ ap (take (part - 1)) (g ∙ h)

back-is : (parts slice all back : List (Option (List Record))) (n part : ℕ) → back ≡ drop n slice → n ≡ part → slice ≡ parts → parts ≡ all
    → back ≡ drop part all
back-is parts slice all back n part e f g h = e ∙ ap (λ m. drop m slice) f ∙ ap (drop part) (g ∙ h)

pub returns-then-are_there-2-clause-whole : goal.returns-then-are_there-2-clause-whole
returns-then-are_there-2-clause-whole c =
    let all = ap (λ (s : PartSet). s.parts) c.self.view_is in
    joined-whole c.args.self.now.parts c.split_at.result.0.now c.split_at-2.result.1.now (c.args.part - 1) c.args.part c.args.records.now
    c.requires.numbered.1
    (front-is _ _ _ _ _ _ c.split_at.ensures.front c.from.ensures c.deref.ensures.value all)
    (back-is _ _ _ _ _ _ c.split_at-2.ensures.back c.from-2.ensures c.deref-2.ensures.value all) (omega (arith, c.requires.numbered.0))
    (sym c.are_there.ensures ∙ c.if-are_there.true) (sym c.are_there-then-are_there.ensures ∙ c.if-are_there-2.true)

pub returns-then-are_there-2-clause-good : goal.returns-then-are_there-2-clause-good
returns-then-are_there-2-clause-good c =
    let all = ap (λ (s : PartSet). s.parts) c.self.view_is in
    good-whole c.args.self.now.parts c.split_at.result.0.now c.split_at-2.result.1.now (c.args.part - 1) c.args.part c.args.records.now
    (subst AreGoodParts all c.self.invariant) c.requires.good
    (front-is _ _ _ _ _ _ c.split_at.ensures.front c.from.ensures c.deref.ensures.value all)
    (back-is _ _ _ _ _ _ c.split_at-2.ensures.back c.from-2.ensures c.deref-2.ensures.value all)

pub returns-else-are_there-clause-whole : goal.returns-else-are_there-clause-whole
returns-else-are_there-clause-whole c =
    let all = ap (λ (s : PartSet). s.parts) c.self.view_is in
    let first = front-is _ _ _ _ _ _ c.split_at.ensures.front c.from.ensures c.deref.ensures.value all in
    let last = back-is _ _ _ _ _ _ c.split_at-2.ensures.back c.from-2.ensures c.deref-2.ensures.value all in
    let after : c.args.part ≡ suc (c.args.part - 1) = omega (arith, c.requires.numbered.0) in
    elim c.else-are_there.branch [
      | else-are_there-via-then-are_there+else-are_there-2 w ↦ joined-lacks-back c.args.self.now.parts c.split_at.result.0.now c.split_at-2.result.1.now
          (c.args.part - 1) c.args.part c.args.records.now c.requires.numbered.1 first last after (sym c.are_there.ensures ∙ w.if-are_there.true)
          (sym w.are_there-then-are_there.ensures ∙ w.if-are_there-2.false)
      | else-are_there-via-else-are_there w ↦ joined-lacks-front c.args.self.now.parts c.split_at.result.0.now c.split_at-2.result.1.now
          (c.args.part - 1) c.args.part c.args.records.now c.requires.numbered.1 first last after (sym c.are_there.ensures ∙ w.if-are_there.false)
    ]
