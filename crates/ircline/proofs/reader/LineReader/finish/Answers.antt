use Rattle.std.proofs.Common.{ap, ◌∙◌}
use Rattle.ircline.specs.Stream.{last_line}
use Rattle.ircline.proofs.StreamLemmas.{last_alike}
use Rattle.ircline.proofs.reader.LineReader.finish.Goals as goal

pub returns-clause-line : goal.returns-clause-line
returns-clause-line c = λ stream is.
    c.in_ok-line.ensures.line ∙ ap last_line (c.as_slice.ensures.value ∙ c.self.view_is) ∙ last_alike c.args.self.now stream is
