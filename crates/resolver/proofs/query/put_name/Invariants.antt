use Rattle.std.proofs.Common.{◌≡◌, ◌+◌, ◌++◌, drop, ◌∷◌, []}
use Rattle.arrayvec.specs.ArrayVec.{array_vec_len}
use Rattle.resolver.specs.Names.{label_len, lengths_in}
use Rattle.resolver.proofs.query.put_name.Given as goal

abbrev pub invariant-loop-place : goal.invariant-loop-place
invariant-loop-place l = (array_vec_len l.bytes ≡ array_vec_len l.fn.bytes + l.place + 1)
    × (l.bytes.items ++ lengths_in (drop l.place l.name) ≡ (l.fn.bytes.items ++ label_len l.name ∷ []) ++ lengths_in l.name)
