use Rattle.std.proofs.Common.{◌≡◌, true, drop, [], ◌∷◌, inl, inr, sym, subst, ap, ◌∙◌}
use Rattle.std.specs.List.{list_any}
use Rattle.std.proofs.lemmas.List.{take_rest}
use Rattle.userfile.specs.Index.{IsIn, same_listing}
use Rattle.userfile.proofs.GroupLemmas.{IsIn-left, IsIn-last, IsIn-split, IsIn-one, IsIn-found, IsIn-drop}
use Rattle.userfile.proofs.index.put_once.Goals as goal

pub returns-in_ok-push-clause-kept : goal.returns-in_ok-push-clause-kept
returns-in_ok-push-clause-kept c = λ x here. subst (IsIn x) (sym c.in_ok-push.ensures.items) (IsIn-left x c.args.group.now.items (c.args.listing.now ∷ []) here)

pub returns-in_ok-push-clause-only : goal.returns-in_ok-push-clause-only
returns-in_ok-push-clause-only c = λ x here. elim
    (IsIn-split x c.args.group.now.items (c.args.listing.now ∷ []) (subst (IsIn x) c.in_ok-push.ensures.items here)) [
      | inl before ↦ inl before
      | inr last ↦ inr (IsIn-one x c.args.listing.now last)
    ]

pub returns-in_ok-push-clause-ok : goal.returns-in_ok-push-clause-ok
returns-in_ok-push-clause-ok c = subst (IsIn c.args.listing.now) (sym c.in_ok-push.ensures.items) (IsIn-last c.args.listing.now c.args.group.now.items)

pub returns-else-not-has_listing-clause-ok : goal.returns-else-not-has_listing-clause-ok
returns-else-not-has_listing-clause-ok c =
    let first = c.saturating_sub-first.result in
    let whole = c.deref.result.now in
    let recent : list_any (same_listing c.args.listing.now) (drop first whole) ≡ true =
    ap (list_any (same_listing c.args.listing.now)) (sym (take_rest whole first)) ∙ sym c.has_listing.ensures ∙ c.if-not-has_listing.false in
    subst (IsIn c.args.listing.now) c.deref.ensures.value (IsIn-drop c.args.listing.now first whole (IsIn-found c.args.listing.now _ recent))
