use Rattle.std.proofs.Common.{◌≡◌, true, filter, rules, refl, subst, List, ℕ}
use Rattle.userfile.specs.declared.index.Listing.{Listing}
use Rattle.userfile.specs.Index.{IsIn, listings_at, stays}
use Rattle.userfile.proofs.GroupLemmas.{left_in, left_was, IsIn-filter, filter-IsIn}
use Rattle.userfile.proofs.index.keep_masks.Goals as goal

pub returns-then-len-gt0 : goal.returns-then-len-gt0
returns-then-len-gt0 c = λ t x.
    let kept = λ (k : List ℕ) (xs : List Listing). filter (stays c.args.place c.args.masks.now k) xs in (
      λ i e. left_in _ kept _ (λ k v b w g call. search rules) t x x (λ xs j. IsIn-filter (stays c.args.place c.args.masks.now t) x xs j e) _ _
          c.retain.ensures.filtered i,
      λ i.
          let r = left_was _ kept _ (λ k v b w g call. search rules) t (λ m n. (m ≡ n) × (stays c.args.place c.args.masks.now t n ≡ true)) x
          (λ xs j. let f = filter-IsIn (stays c.args.place c.args.masks.now t) x xs j in (x, (f.0, (refl, f.1)))) _ _ c.len.ensures.unique
          c.retain.ensures.filtered i in
          (subst (λ m. IsIn m (listings_at t c.args.groups.now.entries)) r.1.1.0 r.1.0, r.1.1.1),
    )
