use Rattle.std.proofs.Common.{List, ℕ, sym, ap, ◌∙◌}
use Rattle.wildmask.specs.Items.{items_of}
use Rattle.wildmask.specs.Masks.{GivenMask, mask_items}
use Rattle.wildmask.specs.Tails.{tail_of}
use Rattle.wildmask.proofs.PlainLemmas.{tail_plain}
use Rattle.wildmask.proofs.TailLemmas.{tail_of-lower}
use Rattle.wildmask.proofs.masks.Mask.last_literals.Goals as goal

pub returns-then-ends_plainly : goal.returns-then-ends_plainly
returns-then-ends_plainly c =
    c.of_end.ensures
    ∙ sym (tail_plain c.self.inside.kind c.as_bytes-text.result.now (sym c.ends_plainly.ensures ∙ c.if-ends_plainly.true))
    ∙ ap (λ (text : List ℕ). tail_of (items_of c.self.inside.kind text)) c.as_bytes-text.ensures
    ∙ ap (λ (m : GivenMask). tail_of (mask_items m)) c.self.view_is

pub returns-else-ends_plainly : goal.returns-else-ends_plainly
returns-else-ends_plainly c = c.tail.ensures ∙ ap tail_of c.pattern.ensures ∙ tail_of-lower (mask_items c.args.self.now)
