use Rattle.std.proofs.Common.{◌≡◌, ◌==◌, false, rules, suc, List, ℕ}
use Rattle.userfile.specs.declared.index.Listing.{Listing}
use Rattle.userfile.specs.Index.{listed, listings_without, moved_up}
use Rattle.userfile.proofs.GroupLemmas.{left_in, left_was, stays_in, moves_in, left_from}
use Rattle.userfile.proofs.index.remove_user.Goals as goal

pub returns-then-len-gt0 : goal.returns-then-len-gt0
returns-then-len-gt0 c = λ t.
    let p = c.args.place in
    let left = λ (k : List ℕ) (xs : List Listing). listings_without p xs in (
      λ n l s lt i. left_in _ left _ (λ k v b w g call. search rules) t (listed n l s) (listed n l s) (λ xs j. stays_in p n l s xs lt j) _ _
          c.retain.ensures.filtered i,
      λ n l s le i. left_in _ left _ (λ k v b w g call. search rules) t (listed (suc n) l s) (listed n l s) (λ xs j. moves_in p n l s xs le j) _ _
          c.retain.ensures.filtered i,
      λ x i. left_was _ left _ (λ k v b w g call. search rules) t (λ y z. ((y.place == p) ≡ false) × (moved_up p y ≡ z)) x
          (λ xs j. left_from p x xs j) _ _ c.len.ensures.unique c.retain.ensures.filtered i,
    )
