use Rattle.std.proofs.Common.{◌≡◌, ◌↔◌, ◌≤◌, ◌+◌, ◌*◌, List, ℕ, IsTrue, length, subst, sym, ap, ◌∙◌}
use Rattle.std.proofs.lemmas.List.{length-map}
use Rattle.std.proofs.lemmas.Bool.Decides.{same_from_decides}
use Rattle.wildmask.specs.declared.items.Item.{Item}
use Rattle.wildmask.specs.Codes.{lower}
use Rattle.wildmask.specs.Masks.{mask_items}
use Rattle.wildmask.specs.Walks.{AllLower}
use Rattle.wildmask.specs.Matching.{Matches}
use Rattle.wildmask.proofs.WalkLemmas.{both}
use Rattle.wildmask.proofs.MatchLemmas.{Matches-lower, AllLower-map}
use Rattle.wildmask.proofs.TestLemmas.{is_match_by-Decides}
use Rattle.wildmask.proofs.masks.Mask.matches_counted.Goals as goal

pub returns-clause-matches : goal.returns-clause-matches
returns-clause-matches c =
    both (subst (λ (xs : List Item). IsTrue c.matches.result ↔ Matches c.args.mapping xs c.args.text.now) c.pattern.ensures c.matches.ensures.matches)
    (Matches-lower c.args.mapping (mask_items c.args.self.now) c.args.text.now)

pub returns-clause-test : goal.returns-clause-test
returns-clause-test c = same_from_decides _ _ (returns-clause-matches c) (is_match_by-Decides c.args.mapping c.args.self.now c.args.text.now)

pub returns-clause-counted : goal.returns-clause-counted
returns-clause-counted c =
    let long : length c.pattern.result ≡ length (mask_items c.args.self.now) = ap length c.pattern.ensures
    ∙ length-map (mask_items c.args.self.now) (lower c.args.mapping) in
    subst (λ (n : ℕ). c.matches.new.count.steps ≤ c.args.count.now.steps + (n + 1) * (length c.args.text.now + 1)) long c.matches.ensures.counted

pub matches-requires : goal.matches-requires
matches-requires c = record { lower = subst (AllLower c.args.mapping) (sym c.pattern.ensures) (AllLower-map c.args.mapping (mask_items c.args.self.now)) }
