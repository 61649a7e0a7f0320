use Rattle.std.proofs.Common.{◌∙◌, ap, subst, sym, not, rules}
use Rattle.indexmap.proofs.CallerLemmas.{filter-RetainsPairs}
use Rattle.std.specs.Map.{values_of}
use Rattle.userfile.specs.Keys.{IsKeyed}
use Rattle.rfccase.specs.Casemapping.{is_same}
use Rattle.userfile.proofs.EntryLemmas.{IsKeyed-filter, values_of-filter}
use Rattle.userfile.proofs.entries.keep_other_users.Goals as goal

pub returns-clause-kept : goal.returns-clause-kept
returns-clause-kept c =
    let kept = filter-RetainsPairs _ (λ x. not (is_same c.args.handle.now x.1.handle)) _ (λ k v b w g call. search rules) _ _ c.retain.ensures.filtered in
    ap values_of kept ∙ values_of-filter (λ u. not (is_same c.args.handle.now u.handle)) c.args.users.now.entries

pub returns-clause-keyed : goal.returns-clause-keyed
returns-clause-keyed c =
    let kept = filter-RetainsPairs _ (λ x. not (is_same c.args.handle.now x.1.handle)) _ (λ k v b w g call. search rules) _ _ c.retain.ensures.filtered in
    subst IsKeyed (sym kept) (IsKeyed-filter _ c.args.users.now.entries c.requires)
