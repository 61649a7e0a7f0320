use Rattle.std.proofs.Common.{◌≡◌, ◌∙◌, ap, arith, set}
use Rattle.userfile.proofs.ListLemmas.{with_entry-found, with_entry-absent, found_at, absent_from}
use Rattle.userfile.proofs.channel_flags.put.Goals as goal

pub index_mut-requires : goal.index_mut-requires
index_mut-requires c =
    let found = found_at c.args.entry _ _ c.args.entries.now.items _ c.as_slice.ensures.value c.as_bytes.ensures c.in-Some.ensures in
    let r = with_entry-found c.args.entry c.args.entries.now.items 0 c.in-Some.place found in
    omega (arith, r.1.0, r.1.1.0, c.args.entries.now.ok.0)

pub returns-in-Some-clause-ok : goal.returns-in-Some-clause-ok
returns-in-Some-clause-ok c =
    let found = found_at c.args.entry _ _ c.args.entries.now.items _ c.as_slice.ensures.value c.as_bytes.ensures c.in-Some.ensures in
    let r = with_entry-found c.args.entry c.args.entries.now.items 0 c.in-Some.place found in
    let at : c.in-Some.place ≡ r.0 = omega (arith, r.1.0) in
    ap (λ k. set c.args.entries.now.items k c.args.entry) at ∙ r.1.1.1

pub returns-in_ok-push-in-None-clause-ok : goal.returns-in_ok-push-in-None-clause-ok
returns-in_ok-push-in-None-clause-ok c =
    let absent = absent_from c.args.entry _ _ c.args.entries.now.items c.as_slice.ensures.value c.as_bytes.ensures c.in-None.ensures in
    c.in_ok-push-in-None.ensures.items ∙ with_entry-absent c.args.entry c.args.entries.now.items 0 absent
