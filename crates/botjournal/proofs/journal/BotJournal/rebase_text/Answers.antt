use Rattle.std.proofs.Common.{sym, ap, ◌∙◌}
use Rattle.std.specs.Prelude.{option_map}
use Rattle.bytejournal.specs.declared.journal.Journal.{Journal}
use Rattle.bytejournal.specs.Meaning.{rebased as rebased_text}
use Rattle.bytejournal.specs.Journal.{contents_of as texts_of}
use Rattle.botjournal.specs.declared.TheConstants.{LAYOUT}
use Rattle.botjournal.proofs.JournalLaws.{texts_at_rest, rebase_sealed}
use Rattle.botjournal.proofs.journal.BotJournal.rebase_text.Goals as goal

pub invariant_of-self : goal.invariant_of-self
invariant_of-self g c =
    let state = g.D.Disk.state in
    let old = c.args.self.now in
    let text = c.args.text.now in
    let row = c.in-Ok.ensures.row in
    let rest = c.requires.sound (ap (λ (was : Journal g.row.D.Denot). was.spent) (sym c.self.view_is) ∙ row.0) in (
      c.self.invariant.0 ∙ row.0 ∙ sym row.1,
      rebase_sealed state old c.rebase.new.self c.args.seal text (texts_at_rest state old rest)
          (row.4 ∙ ap (λ (was : Journal g.row.D.Denot). option_map (rebased_text LAYOUT text) (texts_of state was)) c.self.view_is)
          c.requires.sealed,
    )
