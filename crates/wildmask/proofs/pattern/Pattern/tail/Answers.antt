use Rattle.std.proofs.Common.{◌≤◌, take, length-take, ap, ◌∙◌, arith}
use Rattle.std.proofs.lemmas.List.{length-map}
use Rattle.wildmask.specs.Codes.{decoded}
use Rattle.wildmask.specs.Tails.{tail_of}
use Rattle.wildmask.proofs.PatternLemmas.{tail_is}
use Rattle.wildmask.proofs.pattern.Pattern.tail.Goals as goal

pub returns : goal.returns
returns c =
    let within : c.self.inside.front ≤ c.self.inside.len =
    omega (
      arith,
      c.self.invariant.0,
      c.self.invariant.1,
      c.self.told,
      length-map
          (take c.self.inside.len c.self.inside.codes) decoded,
      length-take c.self.inside.len c.self.inside.codes,
    ) in
    c.of_end.ensures ∙ tail_is c.self.inside.codes c.self.inside.len c.self.inside.front within c.self.invariant.1 ∙ ap tail_of c.self.view_is
