use Rattle.std.proofs.Common.{◌==◌, ◌∙◌, ap, rules, tests}
use Rattle.std.proofs.lemmas.Iterator.{YieldsList-from_slice}
use Rattle.std.proofs.lemmas.Iterator.Search.{find_from_yields_List}
use Rattle.botjournal.specs.declared.reply.Reply.{Reply}
use Rattle.protocol.specs.HubRules.{reply_to}
use Rattle.sharelink.proofs.Lists.{find-reply}
use Rattle.sharelink.proofs.leaf_replies.LeafReplies.reply_to.Goals as goal

pub returns : goal.returns
returns c =
    c.copied.ensures
    ∙ find_from_yields_List (λ (r : Reply). r.request == c.args.request) _ _ _ c.find.ensures.ran
    (YieldsList-from_slice c.as_slice.result.now cc) (λ x b q k. search (rules, tests))
    ∙ find-reply c.args.request c.as_slice.result.now ∙ ap (reply_to c.args.request) c.as_slice.ensures.kept
