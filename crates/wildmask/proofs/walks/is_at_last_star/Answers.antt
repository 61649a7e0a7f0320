use Rattle.std.proofs.Common.{◌≡◌, ◌∙◌, ◌-◌, length, arith, get_or}
use Rattle.std.proofs.lemmas.List.{length-map}
use Rattle.wildmask.specs.Codes.{decoded, items_in}
use Rattle.wildmask.specs.declared.items.Item.TheVariants.{AnyText}
use Rattle.wildmask.proofs.WalkLemmas.{last_star, item_at}
use Rattle.wildmask.proofs.walks.is_at_last_star.Goals as goal

pub returns-then-is_star : goal.returns-then-is_star
returns-then-is_star c has mapping =
    let long : length (items_in c.args.codes.now) ≡ length c.args.codes.now = length-map c.args.codes.now decoded in
    let star : decoded (get_or c.args.codes.now (length c.args.codes.now - 1) 0) ≡ AnyText = c.is_star.ensures.0 c.if-is_star.true in
    last_star mapping (items_in c.args.codes.now) c.args.places.bits (length c.args.codes.now - 1) (omega arith)
    (item_at c.args.codes.now (length c.args.codes.now - 1) (omega arith) ∙ star) (c.has.ensures.0 has)
