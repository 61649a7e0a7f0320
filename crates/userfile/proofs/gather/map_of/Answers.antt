use Rattle.std.proofs.Common.{◌++◌, ◌∙◌, ap}
use Rattle.std.specs.Vec.Iter.{into_iter_items}
use Rattle.rfccase.specs.Casemapping.{folded}
use Rattle.userfile.proofs.GatherLemmas.{one_more}
use Rattle.userfile.proofs.gather.map_of.Goals as goal

pub loop-user-preserved : goal.loop-user-preserved
loop-user-preserved c =
    let at = c.loop-user in
    let parts = at.invariant.rest ∙ ap (λ us. at.yielded ++ us) c.in-Some.ensures.steps.0 in
    let key = c.in_ok-key.ensures ∙ ap folded c.as_bytes.ensures in
    let us = c.args.users.items in
    let later = into_iter_items c.next.new.self in
    let good = c.requires.good in
    let apart = c.requires.apart in
    let entries = c.in_ok-insert.ensures.entries in
    let more = one_more us at.yielded later c.in-Some.user at.map.entries _ c.in_ok-key.key good apart parts at.invariant.keyed at.invariant.made key entries in
    record { keyed = more.0; made = more.1; rest = more.2 }

pub loop-user-preserved-in_ok-insert : goal.loop-user-preserved-in_ok-insert
loop-user-preserved-in_ok-insert c =
    let at = c.loop-user in
    let parts = at.invariant.rest ∙ ap (λ us. at.yielded ++ us) c.in-Some.ensures.steps.0 in
    let key = c.in_ok-key.ensures ∙ ap folded c.as_bytes.ensures in
    let us = c.args.users.items in
    let later = into_iter_items c.next.new.self in
    let good = c.requires.good in
    let apart = c.requires.apart in
    let entries = c.in_ok-insert.ensures.entries in
    let more = one_more us at.yielded later c.in-Some.user at.map.entries _ c.in_ok-key.key good apart parts at.invariant.keyed at.invariant.made key entries in
    record { keyed = more.0; made = more.1; rest = more.2 }
