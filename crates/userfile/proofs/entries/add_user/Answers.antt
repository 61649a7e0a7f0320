use Rattle.userfile.specs.declared.limits.TheConstants.{MAX_HANDLE}
use Rattle.std.proofs.Common.{◌≤◌, ◌++◌, [], ◌∷◌, ◌∙◌, ap, subst, sym, length, ℕ, List, refl}
use Rattle.std.specs.Map.{values_of}
use Rattle.rfccase.specs.Casemapping.{folded}
use Rattle.userfile.specs.Keys.{IsKeyed}
use Rattle.userfile.specs.Apply.{new_user}
use Rattle.userfile.specs.declared.user.User.{User}
use Rattle.userfile.proofs.EntryLemmas.{IsKeyed-append, values_of-append, inserted_last}
use Rattle.userfile.proofs.TextLemmas.{is_handle-length}
use Rattle.userfile.specs.Index.{IsIndexOf}
use Rattle.userfile.proofs.NameLemmas.{IsIndexOf-push}
use Rattle.userfile.proofs.entries.add_user.Goals as goal

pub returns-clause-keyed : goal.returns-clause-keyed
returns-clause-keyed c =
    let same = c.in_ok-key.ensures ∙ ap folded c.as_bytes.ensures in
    let last = c.in_ok-insert.ensures.entries
    ∙ inserted_last c.args.handle.now c.in_ok-key.key _ c.args.users.now.entries same c.requires.keyed c.requires.absent in
    let handle = ap (λ (u : User). u.handle) c.new-user.ensures ∙ c.in_ok-copy.ensures in
    subst IsKeyed (sym last)
    (IsKeyed-append _ _ _ c.requires.keyed (same ∙ ap folded (sym handle))
    (subst (λ (t : List ℕ). length t ≤ MAX_HANDLE) (sym handle) (is_handle-length _ c.requires.good)))

pub returns-clause-ok : goal.returns-clause-ok
returns-clause-ok c =
    let same = c.in_ok-key.ensures ∙ ap folded c.as_bytes.ensures in
    let last = c.in_ok-insert.ensures.entries
    ∙ inserted_last c.args.handle.now c.in_ok-key.key _ c.args.users.now.entries same c.requires.keyed c.requires.absent in
    ap values_of last ∙ values_of-append c.args.users.now.entries _ _
    ∙ ap (λ u. values_of c.args.users.now.entries ++ u ∷ []) (c.new-user.ensures ∙ ap new_user c.in_ok-copy.ensures)

pub returns-clause-index : goal.returns-clause-index
returns-clause-index c = λ index is. subst (IsIndexOf index) (sym (returns-clause-ok c))
    (IsIndexOf-push index (values_of c.args.users.now.entries) (new_user c.args.handle.now) refl is)
