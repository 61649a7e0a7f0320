use Rattle.std.proofs.Common.{◌∙◌, sym, ap}
use Rattle.sharelink.specs.States.{sound_records}
use Rattle.sharelink.proofs.Folding.{leaf_on-is}
use Rattle.sharelink.proofs.leaf_state.LeafState.on_base.Goals as goal

pub returns-clause-reads : goal.returns-clause-reads
returns-clause-reads c =
    leaf_on-is c.args.number c.args.generation c.args.base c.in_ok-userfile.userfile c.into_vec-2.result.items c.if-base-number.false
    (ap sound_records (sym (c.into_vec.ensures ∙ c.replace-records.ensures.value)) ∙ c.in_ok-userfile.ensures.reads)
    (c.into_vec-2.ensures ∙ c.replace-out.ensures.value)
