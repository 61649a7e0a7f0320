use Rattle.std.proofs.Common.{List, ℕ, drop, ap, ◌∙◌}
use Rattle.std.proofs.lemmas.List.{take_rest}
use Rattle.ircline.proofs.PlaceLemmas.{halves_none, halves_some}
use Rattle.ircline.proofs.words.halves.Goals as goal

pub returns-in-Some : goal.returns-in-Some
returns-in-Some c =
    let parts = halves_some c.args.byte c.args.text.now c.in-Some.place c.in-Some.ensures in
    (parts.0, c.split_at.ensures.front ∙ parts.1, take_rest c.split_at.result.1.now 1 ∙ ap (λ (r : List ℕ). drop 1 r) c.split_at.ensures.back ∙ parts.2)

pub returns-in-None : goal.returns-in-None
returns-in-None c = halves_none c.args.byte c.args.text.now c.in-None.ensures
