-- The codes that the procs of a case answer.
use Rattle.std.specs.Prelude.{ℕ, List, codes, if◌then◌else◌}
use Rattle.std.specs.Str.{bytes_eq}
use Rattle.procs.specs.declared.reply.Code.{Code}
use Rattle.procs.specs.declared.reply.Code.TheVariants.{Zero, One}

-- `stop` answers 1, any other proc 0
abbrev pub code_of : List ℕ → Code
code_of name = if bytes_eq name (codes "stop") then One else Zero
