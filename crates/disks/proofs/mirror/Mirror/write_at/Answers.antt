use Rattle.std.proofs.Common.{◌≡◌, ◌≤◌, ℕ, List, length, refl, sym, ap, subst, arith}
use Rattle.disks.specs.Memory.{Memory}
use Rattle.disks.specs.Mirrors.{IsHeld}
use Rattle.disks.specs.Told.{with_text, after_writes}
use Rattle.disks.proofs.Told.{told_write, length-with_text}
use Rattle.disks.proofs.mirror.Mirror.write_at.Goals as goal

pub returns-clause-tears : goal.returns-clause-tears
returns-clause-tears c image left =
    told_write c.args.self.now c.self.inside.found.value.items c.note.new.self.events c.self.inside.told.events _ c.args.bytes.now c.args.at
    (ap (λ (m : Memory). m.events) (sym c.self.view_is)) (ap (λ (m : Memory). m.content) (sym c.self.view_is)) c.note.ensures refl refl refl
    c.requires.inside image left

pub invariant_of-self : goal.invariant_of-self
invariant_of-self c =
    let i = c.self.inside in
    let found = i.found.value.items in
    let content : List ℕ = after_writes found i.told.events in
    let inside : c.args.at ≤ length content =
    subst (λ (l : List ℕ). c.args.at ≤ length l) (ap (λ (m : Memory). m.content) (sym c.self.view_is)) c.requires.inside in
    let written : after_writes found c.note.new.self.events ≡ with_text c.args.at c.args.bytes.now content = ap (after_writes found) c.note.ensures in
    let long = ap length written in
    let sum = length-with_text c.args.at c.args.bytes.now content inside in
    record {
      len = omega (arith, c.max-self-inside.ensures, c.self.invariant.len, long, sum);
      held = subst (λ (l : List ℕ). IsHeld c.put_held.new.bytes l i.room) (sym written) (c.put_held.ensures content i.room c.self.invariant.held);
    }
