use Rattle.std.proofs.Common.{List, subst}
use Rattle.std.specs.List.{AllByRecursion}
use Rattle.usercodec.specs.declared.records.Record.{Record}
use Rattle.usercodec.specs.Records.{HasFields}
use Rattle.sharelink.proofs.Goodness.{good_items}
use Rattle.sharelink.proofs.records.items_of.Goals as goal

pub returns-clause-good : goal.returns-clause-good
returns-clause-good c =
    (good_items c.args.userfile.now c.in_ok-items.items.items c.are_sound.ensures c.in_ok-items.ensures.items
    (subst (λ (l : List Record). AllByRecursion HasFields l) c.as_slice.ensures.value c.know_records.ensures)).0

pub returns-clause-few : goal.returns-clause-few
returns-clause-few c =
    (good_items c.args.userfile.now c.in_ok-items.items.items c.are_sound.ensures c.in_ok-items.ensures.items
    (subst (λ (l : List Record). AllByRecursion HasFields l) c.as_slice.ensures.value c.know_records.ensures)).1
