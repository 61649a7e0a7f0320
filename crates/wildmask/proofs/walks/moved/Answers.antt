use Rattle.std.proofs.Common.{◌≡◌, ◌+◌, true, drop, get_or, ap, subst, sym, ◌∙◌, ◌∷◌, inl, inr}
use Rattle.wildmask.specs.declared.items.Item.{Item}
use Rattle.wildmask.specs.declared.items.Item.TheVariants.{AnyText, NoSpace, Spaces}
use Rattle.wildmask.specs.Codes.{decoded, items_in}
use Rattle.wildmask.specs.Walks.{takes_byte, takes_one}
use Rattle.wildmask.proofs.WalkLemmas.{Moves, WithPlace, moves_on, star_moves, no_space_moves, spaces_moves, code_at_place}
use Rattle.wildmask.proofs.walks.moved.Goals as goal

pub returns-in-Literal-clause-moved : goal.returns-in-Literal-clause-moved
returns-in-Literal-clause-moved c =
    let taken : takes_byte (decoded (get_or c.args.codes.now c.args.at 0)) c.args.lower ≡ true =
    ap (λ i. takes_byte i c.args.lower) (sym c.item_of-item.ensures) ∙ sym c.takes.ensures.value ∙ c.if-takes.true in
    let one : takes_one c.item_of-item.result ≡ true = elim c.in-Literal.is [ inl l ↦ ap takes_one l.1 | inr e ↦ ap takes_one e ] in
    moves_on c.args.mapping (items_in c.args.codes.now) (decoded (get_or c.args.codes.now c.args.at 0)) c.args.at c.args.lower c.args.places.bits _
    (ap takes_one (sym c.item_of-item.ensures) ∙ one) taken (c.with_skipped.ensures.with c.args.mapping)

pub returns-in-AnyText-clause-moved : goal.returns-in-AnyText-clause-moved
returns-in-AnyText-clause-moved c =
    let is : decoded (get_or c.args.codes.now c.args.at 0) ≡ AnyText = sym c.item_of-item.ensures ∙ c.in-AnyText.is in
    let here : drop c.args.at (items_in c.args.codes.now) ≡ AnyText ∷ drop (c.args.at + 1) (items_in c.args.codes.now) =
    code_at_place c.args.codes.now c.args.at c.requires.at ∙ ap (λ i. i ∷ drop (c.args.at + 1) (items_in c.args.codes.now)) is in
    subst (λ (i : Item). Moves c.args.mapping (items_in c.args.codes.now) i c.args.lower
    (drop (c.args.at + 1) (items_in c.args.codes.now)) c.args.places.bits c.with_skipped-in-AnyText.result.bits) (sym is)
    (star_moves c.args.mapping (items_in c.args.codes.now) c.args.at c.args.lower c.args.places.bits _ here (c.requires.star is)
    (subst (λ n. WithPlace c.args.mapping (items_in c.args.codes.now) c.args.at n c.with_skipped-in-AnyText.result.bits) c.none.ensures
    (c.with_skipped-in-AnyText.ensures.with c.args.mapping)))

pub returns-in-NoSpace-clause-moved : goal.returns-in-NoSpace-clause-moved
returns-in-NoSpace-clause-moved c =
    let is : decoded (get_or c.args.codes.now c.args.at 0) ≡ NoSpace = sym c.item_of-item.ensures ∙ c.in-NoSpace.is in
    let here : drop c.args.at (items_in c.args.codes.now) ≡ NoSpace ∷ drop (c.args.at + 1) (items_in c.args.codes.now) =
    code_at_place c.args.codes.now c.args.at c.requires.at ∙ ap (λ i. i ∷ drop (c.args.at + 1) (items_in c.args.codes.now)) is in
    let taken : takes_byte NoSpace c.args.lower ≡ true = ap (λ i. takes_byte i c.args.lower) (sym c.in-NoSpace.is) ∙ sym c.takes.ensures.value
    ∙ c.if-takes.true in
    subst (λ (i : Item). Moves c.args.mapping (items_in c.args.codes.now) i c.args.lower
    (drop (c.args.at + 1) (items_in c.args.codes.now)) c.args.places.bits c.with_skipped-in-NoSpace.result.bits) (sym is)
    (no_space_moves c.args.mapping (items_in c.args.codes.now) c.args.at c.args.lower c.args.places.bits _ here taken (c.with_skipped-in-NoSpace.ensures.with c.args.mapping))

pub returns-in-Spaces-clause-moved : goal.returns-in-Spaces-clause-moved
returns-in-Spaces-clause-moved c =
    let is : decoded (get_or c.args.codes.now c.args.at 0) ≡ Spaces = sym c.item_of-item.ensures ∙ c.in-Spaces.is in
    let here : drop c.args.at (items_in c.args.codes.now) ≡ Spaces ∷ drop (c.args.at + 1) (items_in c.args.codes.now) =
    code_at_place c.args.codes.now c.args.at c.requires.at ∙ ap (λ i. i ∷ drop (c.args.at + 1) (items_in c.args.codes.now)) is in
    let taken : takes_byte Spaces c.args.lower ≡ true = ap (λ i. takes_byte i c.args.lower) (sym c.in-Spaces.is) ∙ sym c.takes.ensures.value
    ∙ c.if-takes.true in
    subst (λ (i : Item). Moves c.args.mapping (items_in c.args.codes.now) i c.args.lower
    (drop (c.args.at + 1) (items_in c.args.codes.now)) c.args.places.bits c.with_skipped-in-Spaces-2.result.bits) (sym is)
    (spaces_moves c.args.mapping (items_in c.args.codes.now) c.args.at c.args.lower c.args.places.bits c.with_skipped-in-Spaces.result.bits _ here taken
    (c.with_skipped-in-Spaces.ensures.with c.args.mapping) (c.with_skipped-in-Spaces-2.ensures.with c.args.mapping))
