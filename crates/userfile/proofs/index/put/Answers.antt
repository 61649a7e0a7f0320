use Rattle.std.proofs.Common.{◌≡◌, ◌++◌, [], ◌∷◌, inl, inr, sym, subst}
use Rattle.std.proofs.lemmas.Result.{on_ok_weaker, on_err_weaker}
use Rattle.userfile.specs.Index.{IsIn, listings_at}
use Rattle.userfile.proofs.GroupLemmas.{set_value-listings_at, insert-listings_at}
use Rattle.userfile.proofs.GroupLemmas.{IsIn-last, IsIn-one, listings_at-set_value, listings_at-written, listings_at-insert, listings_at-inserted}
use Rattle.userfile.proofs.index.put.Goals as goal

pub returns-in-Some-clause-kept : goal.returns-in-Some-clause-kept
returns-in-Some-clause-kept c = λ t n here.
    let written = (c.get_mut.follows.holds c.put_once.new.group).0 in
    subst (λ es. IsIn n (listings_at t es)) (sym written)
    (listings_at-set_value t c.args.tail c.args.groups.now.entries c.in-Some.group.now c.put_once.new.group
    (sym c.in-Some.ensures.value) c.put_once.ensures.kept n here)

pub returns-in-Some-clause-ok : goal.returns-in-Some-clause-ok
returns-in-Some-clause-ok c =
    let written = (c.get_mut.follows.holds c.put_once.new.group).0 in
    on_ok_weaker c.put_once.result
    (λ here. subst (λ es. IsIn c.args.listing.now (listings_at c.args.tail es)) (sym written)
    (subst (IsIn c.args.listing.now)
    (sym (listings_at-written c.args.tail c.args.groups.now.entries c.in-Some.group.now c.put_once.new.group (sym c.in-Some.ensures.value))) here))
    c.put_once.ensures.ok

pub returns-clause-kept : goal.returns-clause-kept
returns-clause-kept c = λ t n here.
    let entries = rw c.get_mut.follows.holds-at-none at c.in_ok-insert.ensures.entries in
    subst (λ es. IsIn n (listings_at t es)) (sym entries) (listings_at-insert t c.args.tail c.args.groups.now.entries _ (sym c.in_default.ensures.value) n here)

pub returns-clause-ok : goal.returns-clause-ok
returns-clause-ok c =
    let entries = rw c.get_mut.follows.holds-at-none at c.in_ok-insert.ensures.entries in
    subst (λ es. IsIn c.args.listing.now (listings_at c.args.tail es)) (sym entries)
    (subst (IsIn c.args.listing.now) (sym (listings_at-inserted c.args.tail c.args.groups.now.entries _ (sym c.in_default.ensures.value)))
    (subst (IsIn c.args.listing.now) (sym c.in_ok-push.ensures.items) (IsIn-last c.args.listing.now _)))

pub returns-in-Some-clause-only : goal.returns-in-Some-clause-only
returns-in-Some-clause-only c = λ t x here.
    let written = (c.get_mut.follows.holds c.put_once.new.group).0 in
    set_value-listings_at (λ y. y ≡ c.args.listing.now) t c.args.tail c.args.groups.now.entries c.in-Some.group.now c.put_once.new.group
    (sym c.in-Some.ensures.value) c.put_once.ensures.only x (subst (λ es. IsIn x (listings_at t es)) written here)

pub returns-in-Some-clause-err : goal.returns-in-Some-clause-err
returns-in-Some-clause-err c =
    let written = (c.get_mut.follows.holds c.put_once.new.group).0 in
    on_err_weaker c.put_once.result
    (λ same t x here. elim
    (set_value-listings_at (λ y. ⊥) t c.args.tail c.args.groups.now.entries c.in-Some.group.now c.put_once.new.group
    (sym c.in-Some.ensures.value) (λ y i. inl (same y i)) x (subst (λ es. IsIn x (listings_at t es)) written here)) [
      | inl before ↦ before
      | inr none ↦ absurd none.1
    ])
    c.put_once.ensures.err

pub returns-clause-only : goal.returns-clause-only
returns-clause-only c = λ t x here.
    let entries = rw c.get_mut.follows.holds-at-none at c.in_ok-insert.ensures.entries in
    elim
    (insert-listings_at t c.args.tail c.args.groups.now.entries _ (sym c.in_default.ensures.value) x (subst (λ es. IsIn x (listings_at t es)) entries here)) [
      | inl before ↦ inl before
      | inr new ↦ inr (
        new.0,
        IsIn-one x c.args.listing.now
            (subst (λ xs. IsIn x (xs ++ c.args.listing.now ∷ [])) c.new-group.ensures.items (subst (IsIn x) c.in_ok-push.ensures.items new.1)),
      )
    ]
