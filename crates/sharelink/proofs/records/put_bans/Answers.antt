use Rattle.std.proofs.Common.{◌++◌, ◌∷◌, [], ◌∙◌, ap, sym}
use Rattle.usercodec.specs.declared.records.Record.TheVariants as records
use Rattle.sharelink.proofs.Lists.{ban-more}
use Rattle.sharelink.proofs.records.put_bans.Goals as goal

pub loop-place-preserved : goal.loop-place-preserved
loop-place-preserved c =
    ban-more c.loop-place.items.items _ _ c.args.userfile.now.bans c.loop-place.place c.in-Some.ban.now (sym c.in-Some.ensures)
    (c.in_ok-push.ensures.items ∙ ap (λ ban. c.loop-place.items.items ++ records.Ban ban ∷ []) c.in_ok-copy.ensures) c.loop-place.invariant
