use Rattle.std.proofs.Common.{ℕ, sym, ◌∙◌, subst, Option, Some, None}
use Rattle.bstr.specs.Find.{IsFirstByte}
use Rattle.ircline.proofs.PlaceLemmas.{parts_none, parts_some}
use Rattle.ircline.proofs.words.parted.Goals as goal

pub returns-in-Some : goal.returns-in-Some
returns-in-Some c = λ test first.
    let at_place : IsFirstByte test c.args.text.now (Some c.in-Some.place) = subst (λ (o : Option ℕ). IsFirstByte test c.args.text.now o) c.in-Some.is first in
    let parts = parts_some test c.args.text.now c.in-Some.place at_place in
    (c.split_at.ensures.front ∙ sym parts.0, c.split_at.ensures.back ∙ sym parts.1)

pub returns-in-None : goal.returns-in-None
returns-in-None c = λ test first.
    let nowhere : IsFirstByte test c.args.text.now None = subst (λ (o : Option ℕ). IsFirstByte test c.args.text.now o) c.in-None.is first in
    let parts = parts_none test c.args.text.now nowhere in
    (sym parts.0, sym parts.1)
