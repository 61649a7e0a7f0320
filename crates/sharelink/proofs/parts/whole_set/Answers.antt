use Rattle.std.proofs.Common.{ap, sym, ◌∙◌, Option}
use Rattle.protocol.specs.Snapshots.{PartSet, set_for}
use Rattle.sharelink.proofs.PartLaws.{alone-in, other-set}
use Rattle.sharelink.proofs.parts.whole_set.Goals as goal

pub returns-else-are_of-clause-whole : goal.returns-else-are_of-clause-whole
returns-else-are_of-clause-whole c =
    let a = c.args in
    alone-in a.kept.now a.version a.count a.part a.records.now _ c.requires.numbered.0 c.requires.numbered.1
    (ap (λ (o : Option PartSet). (set_for o a.version a.count).parts) c.in-Some.is
    ∙ other-set c.in-Some.kept a.version a.count (sym c.are_of.ensures ∙ c.if-are_of.false)) c.whole_alone.ensures.whole

pub returns-in-None-clause-whole : goal.returns-in-None-clause-whole
returns-in-None-clause-whole c =
    let a = c.args in
    alone-in a.kept.now a.version a.count a.part a.records.now _ c.requires.numbered.0 c.requires.numbered.1
    (ap (λ (o : Option PartSet). (set_for o a.version a.count).parts) c.in-None.is) c.whole_alone-in-None.ensures.whole
