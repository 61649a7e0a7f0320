use Rattle.std.proofs.Common.{List, ℕ, ◌+◌, ◌-◌, ap, ◌∙◌, rules, arith}
use Rattle.registration.specs.Pbkdf2.{sum_after, u_after}
use Rattle.registration.proofs.MacLemmas.{sum_after-more, u_after-more}
use Rattle.registration.proofs.pbkdf2.Pbkdf2.work.Goals as goal

pub invariant_of-self : goal.invariant_of-self
invariant_of-self c =
    let d = c.self.inside in
    let old = c.self.invariant in
    let more = c.min-rounds.result in
    let last = c.as_bytes.ensures ∙ old.4 in
    let sum = c.as_bytes-2.ensures ∙ old.5 in (
      omega (arith, old.0),
      omega (arith, c.min-rounds.ensures, old.1),
      search rules,
      search rules,
      c.stretch-last.ensures.last ∙ ap (λ (u : List ℕ). u_after d.key u more) last ∙ u_after-more d.key d.first (d.done - 1) more
          ∙ ap (u_after d.key d.first) {x = d.done - 1 + more} {y = d.done + more - 1} (omega (arith, old.0)),
      c.stretch-last.ensures.sum ∙ ap (λ (u : List ℕ). sum_after d.key c.as_bytes-2.result.now u more) last
          ∙ ap (λ (s : List ℕ). sum_after d.key s (u_after d.key d.first (d.done - 1)) more) sum
          ∙ sum_after-more d.key d.first d.first (d.done - 1) more
          ∙ ap (sum_after d.key d.first d.first) {x = d.done - 1 + more} {y = d.done + more - 1} (omega (arith, old.0)),
    )
