use Rattle.std.proofs.Common.{◌∙◌, ◌+◌, Err, ap, subst}
use Rattle.userfile.specs.declared.change.Change.{Change}
use Rattle.botjournal.specs.Ledger.{Adding}
use Rattle.botjournal.specs.declared.entry.Entry.{Entry}
use Rattle.botjournal.specs.declared.entry.Entry.TheVariants.{ReqOut}
use Rattle.protocol.specs.LeafRules.{LeafState}
use Rattle.sharelink.specs.Kept.{WritesAny}
use Rattle.sharelink.proofs.WritingLaws.{appended_written}
use Rattle.sharelink.proofs.leaf_state.LeafState.put_out.Goals as goal

pub returns-in-Err-clause-row : goal.returns-in-Err-clause-row
returns-in-Err-clause-row g c =
    subst (λ (e : Entry). WritesAny c.args.ledger.now (Adding e) (Err c.in-Err.error) c.append.new.self)
    (ap (λ (one : Change). ReqOut (c.self.inside.last + 1) one) c.in_ok-copy.ensures
    ∙ ap (λ (l : LeafState). ReqOut (l.last + 1) c.args.change) c.self.view_is)
    (appended_written c.args.ledger.now c.append.new.self (ReqOut (c.self.inside.last + 1) c.in_ok-copy.field-0) (Err c.in-Err.error)
    c.in-Err.ensures.row)
