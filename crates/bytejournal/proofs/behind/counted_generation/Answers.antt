use Rattle.std.proofs.Common.{◌≡◌, ◌∷◌, ℕ, List, subst, sym, rules}
use Rattle.bytejournal.specs.Ending.{CountsAt}
use Rattle.bytejournal.proofs.FewAfter.{open_counts}
use Rattle.bytejournal.proofs.behind.counted_generation.Goals as goal

pub returns : goal.returns
returns c =
    let rest = c.in_ok-gate.rest.now in
    let front = c.in_ok-front.front in
    let bytes : c.args.bytes.now ≡ 1 ∷ rest = search rules in
    subst (λ (l : List ℕ). CountsAt l front.generation) (sym bytes) (open_counts rest front c.in_ok-_gate._gate c.in_ok-front.ensures c.in_ok-_gate.ensures)
