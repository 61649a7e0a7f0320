use Rattle.std.proofs.Common.{◌≡◌, ◌<◌, ◌^◌, ◌∙◌, true, List, length, arith, sym, subst, ap}
use Rattle.botjournal.specs.declared.reply.Reply.{Reply}
use Rattle.botjournal.specs.Bases.{are_kept}
use Rattle.protocol.specs.Journals.{replies_in}
use Rattle.sharelink.proofs.KeptReplies.{replies_in-kept, replies_in-few}
use Rattle.sharelink.proofs.hub_state.HubState.base.Goals as goal

pub returns-clause-good : goal.returns-clause-good
returns-clause-good c placed few =
    let held : c.in_ok-replies.replies.items ≡ replies_in c.args.self.now.replies =
    c.in_ok-replies.ensures.replies ∙ ap replies_in (c.as_slice.ensures.value ∙ ap (λ h. h.replies) c.self.view_is) in
    c.base_of.ensures.good
    (subst (λ (l : List Reply). length l < 2 ^ 16) (sym held) (omega (arith, replies_in-few c.args.self.now.replies placed, few)))
    (subst (λ (l : List Reply). are_kept l ≡ true) (sym held) (replies_in-kept c.args.self.now.replies placed))
