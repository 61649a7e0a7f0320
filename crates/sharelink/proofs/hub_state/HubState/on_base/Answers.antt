use Rattle.std.proofs.Common.{◌≤◌, ◌∙◌, List, length, sym, ap, subst}
use Rattle.botjournal.specs.declared.reply.Reply.{Reply}
use Rattle.protocol.specs.Journals.{replies_of, replies_among}
use Rattle.sharelink.specs.States.{sound_records}
use Rattle.sharelink.proofs.Folding.{hub_on-is}
use Rattle.sharelink.proofs.KeptReplies.{among-kept}
use Rattle.sharelink.proofs.hub_state.HubState.on_base.Goals as goal

pub replies_of-requires : goal.replies_of-requires
replies_of-requires c = record {
  few = λ leaf.
      subst (λ (l : List Reply). length (replies_among leaf l) ≤ 8) (sym c.as_slice.ensures)
      (among-kept leaf c.args.base.replies c.requires.good.kept).1.few;
}

pub returns-clause-reads : goal.returns-clause-reads
returns-clause-reads c =
    hub_on-is c.args.leaves c.args.generation c.args.base c.new.result.items c.in_ok-userfile.userfile c.in_ok-replies.replies.items
    (sym c.is_hubs.ensures ∙ c.if-not-is_hubs.false) c.new.ensures.items
    (ap sound_records (sym (c.into_vec.ensures ∙ c.replace-records.ensures.value)) ∙ c.in_ok-userfile.ensures.reads)
    (c.in_ok-replies.ensures.placed ∙ ap (replies_of 1 c.args.leaves) c.as_slice.ensures)
