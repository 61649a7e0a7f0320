use Rattle.std.proofs.Common.{◌++◌, List, ℕ, Some, ◌∙◌, ap}
use Rattle.std.proofs.lemmas.Slice.Eq.{strip_prefix_is}
use Rattle.std.proofs.lemmas.Bool.Decides.{Decides-eqb}
use Rattle.bytejournal.specs.Meaning.{letters}
use Rattle.bytejournal.proofs.reading.front_of.Goals as goal

pub returns : goal.returns
returns c = record {
  numbers = c.in_ok-layout.rest.now;
  sizes = c.in_ok-generation.rest.now;
  begins = strip_prefix_is Decides-eqb c.args.bytes.now letters (Some c.in_ok-rest.rest) c.in_ok-rest.ensures.cases
      ∙ ap (λ (l : List ℕ). letters ++ l) c.in_ok-layout.ensures.cases.0;
  number = c.in_ok-generation.ensures;
  text = c.in_ok-base.ensures;
}
