use Rattle.std.proofs.Common.{◌≡◌, ◌↔◌, ◌≤◌, ◌+◌, ◌*◌, ◌++◌, List, ℕ, IsTrue, length, take, subst, sym, ap, ◌∙◌, arith}
use Rattle.std.proofs.lemmas.List.{length-map}
use Rattle.wildmask.specs.declared.items.Item.{Item}
use Rattle.wildmask.specs.Codes.{items_in, decoded}
use Rattle.wildmask.specs.Walks.{AllLower}
use Rattle.wildmask.specs.Matching.{Matches}
use Rattle.wildmask.proofs.PatternLemmas.{parts_are, first_is_lower, end_is_lower, end_is_one}
use Rattle.wildmask.proofs.pattern.Pattern.matches.Goals as goal

pub matches_end_first-requires-clause-lower : goal.matches_end_first-requires-clause-lower
matches_end_first-requires-clause-lower c = first_is_lower c.args.mapping
    (take c.self.inside.len c.self.inside.codes) _ _ c.self.inside.front c.split_at.ensures.front c.split_at.ensures.back (subst (AllLower c.args.mapping) (sym c.self.view_is) c.requires.lower)

pub matches_end_first-requires-clause-lower_end : goal.matches_end_first-requires-clause-lower_end
matches_end_first-requires-clause-lower_end c = end_is_lower c.args.mapping
    (take c.self.inside.len c.self.inside.codes) _ _ c.self.inside.front c.split_at.ensures.front c.split_at.ensures.back (subst (AllLower c.args.mapping) (sym c.self.view_is) c.requires.lower)

pub matches_end_first-requires-clause-one : goal.matches_end_first-requires-clause-one
matches_end_first-requires-clause-one c = end_is_one
    (take c.self.inside.len c.self.inside.codes) _ c.self.inside.front c.self.invariant.1 c.split_at.ensures.back

pub returns-clause-matches : goal.returns-clause-matches
returns-clause-matches c =
    let parts : items_in c.split_at.result.0.now ++ items_in c.split_at.result.1.now ≡ c.args.self.now =
    sym (parts_are (take c.self.inside.len c.self.inside.codes) _ _ c.self.inside.front c.split_at.ensures.front c.split_at.ensures.back)
    ∙ c.self.view_is in
    subst (λ (xs : List Item). IsTrue c.matches_end_first.result ↔ Matches c.args.mapping xs c.args.text.now) parts c.matches_end_first.ensures.matches

pub returns-clause-counted : goal.returns-clause-counted
returns-clause-counted c =
    let long : length c.split_at.result.0.now + length c.split_at.result.1.now ≡ length c.args.self.now =
    omega (
      arith,
      ap length c.self.view_is,
      length-map
          (take c.self.inside.len c.self.inside.codes) decoded,
      c.split_at.ensures.front_len,
      c.split_at.ensures.back_len,
    ) in
    subst (λ (n : ℕ). c.matches_end_first.new.count.steps ≤ c.args.count.now.steps + (n + 1) * (length c.args.text.now + 1)) long
    c.matches_end_first.ensures.counted
