use Rattle.std.proofs.Common.{◌+◌, ◌++◌, ◌∷◌, [], ◌∙◌, ap, sym, arith}
use Rattle.protocol.specs.Journals.{replies_of}
use Rattle.sharelink.proofs.Lists.{replies_of-last}
use Rattle.sharelink.proofs.replies.replies_of.Goals as goal

pub loop-place-preserved : goal.loop-place-preserved
loop-place-preserved c =
    c.in_ok-push.ensures.items ∙ ap (λ l. l ++ c.replies_among.result ∷ []) c.loop-place.invariant
    ∙ ap (λ one. replies_of 1 c.loop-place.place c.args.replies.now ++ one ∷ []) c.replies_among.ensures
    ∙ sym (replies_of-last 1 c.loop-place.place (c.loop-place.place + 1) c.args.replies.now (omega arith))
