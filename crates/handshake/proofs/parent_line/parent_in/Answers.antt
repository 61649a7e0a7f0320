use Rattle.std.proofs.Common.{◌≡◌, ◌∙◌, Option, Some, None, List, ℕ, IfSome, refl, sym, ap}
use Rattle.handshake.specs.Parents.{IsParentLine, parent_in}
use Rattle.handshake.proofs.ParentLemmas.{parent_in-some, parent_in-line}
use Rattle.handshake.proofs.parent_line.parent_in.Goals as goal

-- what a result that is read says of the line
said : (bytes : List ℕ) (result : Option (List ℕ)) → result ≡ parent_in bytes → IfSome result (λ net. IsParentLine net bytes)
said bytes None is = tt
said bytes (Some net) is = parent_in-some bytes net (sym is)

pub returns-clause-written : goal.returns-clause-written
returns-clause-written c = said c.args.bytes.now c.in_line.result c.in_line.ensures

pub returns-clause-read : goal.returns-clause-read
returns-clause-read c = λ net version has fits is. c.in_line.ensures ∙ ap parent_in is ∙ parent_in-line net version has fits
