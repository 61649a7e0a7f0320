use Rattle.std.proofs.Common.{◌∙◌, ap, sym, subst}
use Rattle.std.specs.Map.{values_of, set_value}
use Rattle.std.proofs.lemmas.Map.Steps.{set_value_same}
use Rattle.std.proofs.lemmas.Result.{on_ok_weaker, on_err_weaker}
use Rattle.indexmap.specs.IndexMap.{values}
use Rattle.userfile.specs.Apply.{with_mask}
use Rattle.userfile.specs.Keys.{IsKeyed}
use Rattle.userfile.proofs.EntryLemmas.{has_key, lookup-user_of, user_of-long, with_user-absent, IsKeyed-set_value, values_of-set_value}
use Rattle.userfile.proofs.UserEditLemmas.{handle-with_mask}
use Rattle.userfile.proofs.entries.push_mask.Goals as goal

pub returns-in-Some-get_mut-clause-keyed : goal.returns-in-Some-get_mut-clause-keyed
returns-in-Some-get_mut-clause-keyed c =
    let written = (c.get_mut.follows.holds c.give_mask.new.user).0 in
    let handle = handle-with_mask c.give_mask.result c.args.mask c.in-Some-get_mut.user.now c.give_mask.new.user
    c.give_mask.ensures.ok c.give_mask.ensures.err in
    subst IsKeyed (sym written)
    (IsKeyed-set_value c.as_bytes.result.now c.args.users.now.entries c.in-Some-get_mut.user.now c.give_mask.new.user c.requires.keyed
    (sym c.in-Some-get_mut.ensures.value) handle)

pub returns-in-Some-get_mut-clause-ok : goal.returns-in-Some-get_mut-clause-ok
returns-in-Some-get_mut-clause-ok c =
    let written = (c.get_mut.follows.holds c.give_mask.new.user).0 in
    let lower = c.as_bytes.ensures ∙ c.in-Some.ensures in
    let edited_there = values_of-set_value c.args.handle.now c.as_bytes.result.now c.args.users.now.entries c.in-Some-get_mut.user.now
    (with_mask c.args.mask) lower c.requires.keyed (sym c.in-Some-get_mut.ensures.value) in
    on_ok_weaker c.give_mask.result
    (λ new. ap values_of written ∙ ap (λ u. values_of (set_value (has_key c.as_bytes.result.now) c.args.users.now.entries u)) new ∙ edited_there)
    c.give_mask.ensures.ok

pub returns-in-Some-get_mut-clause-err : goal.returns-in-Some-get_mut-clause-err
returns-in-Some-get_mut-clause-err c =
    let written = (c.get_mut.follows.holds c.give_mask.new.user).0 in
    on_err_weaker c.give_mask.result
    (λ same. ap values_of (written ∙ ap (λ u. set_value (has_key c.as_bytes.result.now) c.args.users.now.entries u) same
    ∙ set_value_same (has_key c.as_bytes.result.now) c.args.users.now.entries _ (sym c.in-Some-get_mut.ensures.value)))
    c.give_mask.ensures.err

pub returns-in-None-clause-ok : goal.returns-in-None-clause-ok
returns-in-None-clause-ok c =
    let lower = c.as_bytes.ensures ∙ c.in-Some.ensures in
    let nobody = sym (lookup-user_of c.args.handle.now c.as_bytes.result.now c.args.users.now.entries lower c.requires.keyed)
    ∙ sym c.in-None.ensures.value in
    ap values c.get_mut.follows.holds-at-none ∙ sym (with_user-absent c.args.handle.now (with_mask c.args.mask) _ nobody)

pub returns-in_default-clause-ok : goal.returns-in_default-clause-ok
returns-in_default-clause-ok c =
    let nobody = user_of-long c.args.handle.now c.args.users.now.entries c.in_default.ensures c.requires.keyed in
    sym (with_user-absent c.args.handle.now (with_mask c.args.mask) _ nobody)
