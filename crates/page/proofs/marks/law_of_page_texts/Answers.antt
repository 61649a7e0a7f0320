use Rattle.page.proofs.MarkLemmas.{shown_inert}
use Rattle.page.proofs.marks.law_of_page_texts.Goals as goal

pub returns : goal.returns
returns c = record { inert = shown_inert }
