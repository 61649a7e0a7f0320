use Rattle.std.proofs.Common.{arith, sym, subst, ◌≡◌, ◌<◌, ◌^◌, true, List, length}
use Rattle.std.specs.List.{AllByRecursion}
use Rattle.usercodec.specs.declared.records.Record.{Record}
use Rattle.usercodec.specs.Records.{IsGoodRecord}
use Rattle.botjournal.specs.declared.reply.Reply.{Reply}
use Rattle.botjournal.specs.Bases.{AreListed, IsGoodReply, are_kept}
use Rattle.sharelink.proofs.HubStates.{hub_base-good}
use Rattle.sharelink.proofs.hub_state.base_of.Goals as goal

pub returns-clause-good : goal.returns-clause-good
returns-clause-good c few kept =
    hub_base-good c.args.version c.new.result c.new-2.result c.empty.result (omega arith)
    (subst (λ (l : List Record). AreListed IsGoodRecord l) (sym c.new.ensures) c.requires.records)
    (subst (λ (l : List Reply). AllByRecursion IsGoodReply l) (sym c.new-2.ensures) c.requires.replies)
    (subst (λ (l : List Reply). length l < 2 ^ 16) (sym c.new-2.ensures) few)
    (subst (λ (l : List Reply). are_kept l ≡ true) (sym c.new-2.ensures) kept) c.empty.ensures
