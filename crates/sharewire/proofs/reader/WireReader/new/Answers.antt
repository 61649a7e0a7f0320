use Rattle.std.proofs.Common.{ℕ, List, [], Ok, subst, sym}
use Rattle.sharewire.specs.Streams.{Tells}
use Rattle.sharewire.proofs.StreamLaws.{written}
use Rattle.sharewire.proofs.reader.WireReader.new.Goals as goal

pub returns-clause-told : goal.returns-clause-told
returns-clause-told c = subst (λ (held : List ℕ). Tells [] [] (Ok held)) (sym c.new.ensures.items) (written [] tt)
