use Rattle.std.proofs.Common.{◌∙◌, ap, sym, subst}
use Rattle.std.specs.Map.{values_of, set_value}
use Rattle.indexmap.specs.IndexMap.{values}
use Rattle.userfile.specs.UserEdits.{edited}
use Rattle.userfile.specs.Index.{IsIndexOf}
use Rattle.userfile.specs.Keys.{IsKeyed}
use Rattle.userfile.proofs.EntryLemmas.{has_key, lookup-user_of, user_of-long, with_user-absent, IsKeyed-set_value, values_of-set_value}
use Rattle.userfile.proofs.UserEditLemmas.{handle-edited}
use Rattle.userfile.proofs.NameLemmas.{edited_same}
use Rattle.userfile.specs.declared.user.User.{User}
use Rattle.userfile.proofs.entries.edit_user.Goals as goal

pub returns-in-Some-get_mut-clause-keyed : goal.returns-in-Some-get_mut-clause-keyed
returns-in-Some-get_mut-clause-keyed c =
    let written = (c.get_mut.follows.holds c.make_edit.new.user).0 in
    let handle = ap (λ (u : User). u.handle) c.make_edit.ensures ∙ handle-edited c.args.edit c.in-Some-get_mut.user.now in
    subst IsKeyed (sym written)
    (IsKeyed-set_value c.as_bytes.result.now c.args.users.now.entries c.in-Some-get_mut.user.now c.make_edit.new.user c.requires.keyed
    (sym c.in-Some-get_mut.ensures.value) handle)

pub returns-in-Some-get_mut-clause-edited : goal.returns-in-Some-get_mut-clause-edited
returns-in-Some-get_mut-clause-edited c =
    let written = (c.get_mut.follows.holds c.make_edit.new.user).0 in
    let lower = c.as_bytes.ensures ∙ c.in-Some.ensures in
    let edited_there = values_of-set_value c.args.handle.now c.as_bytes.result.now c.args.users.now.entries c.in-Some-get_mut.user.now
    (edited c.args.edit) lower c.requires.keyed (sym c.in-Some-get_mut.ensures.value) in
    ap values_of written ∙ ap (λ u. values_of (set_value (has_key c.as_bytes.result.now) c.args.users.now.entries u)) c.make_edit.ensures ∙ edited_there

pub returns-in-Some-get_mut-clause-index : goal.returns-in-Some-get_mut-clause-index
returns-in-Some-get_mut-clause-index c = λ index no_mask is.
    subst (IsIndexOf index) (sym (returns-in-Some-get_mut-clause-edited c))
    (edited_same index c.args.handle.now c.args.edit no_mask (values c.args.users.now) is)

pub returns-in_default-get_mut-clause-edited : goal.returns-in_default-get_mut-clause-edited
returns-in_default-get_mut-clause-edited c =
    let lower = c.as_bytes.ensures ∙ c.in-Some.ensures in
    let nobody = sym (lookup-user_of c.args.handle.now c.as_bytes.result.now c.args.users.now.entries lower c.requires.keyed)
    ∙ sym c.in_default-get_mut.ensures.value in
    ap values c.get_mut.follows.holds-at-none ∙ sym (with_user-absent c.args.handle.now (edited c.args.edit) _ nobody)

pub returns-in_default-clause-edited : goal.returns-in_default-clause-edited
returns-in_default-clause-edited c =
    let nobody = user_of-long c.args.handle.now c.args.users.now.entries c.in_default.ensures c.requires.keyed in
    sym (with_user-absent c.args.handle.now (edited c.args.edit) _ nobody)
