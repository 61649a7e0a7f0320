use Rattle.std.proofs.Common.{ℕ, sym, subst}
use Rattle.disks.specs.Mirrors.{IsHeld}
use Rattle.disks.specs.Told.{after_writes}
use Rattle.disks.proofs.mirror.Mirror.reserve.Goals as goal

pub invariant_of-self : goal.invariant_of-self
invariant_of-self c =
    let i = c.self.inside in
    let content = after_writes i.found.value.items i.told.events in
    record {
      len = c.self.invariant.len;
      held = subst (λ (n : ℕ). IsHeld c.make_held_room.new.bytes content n) (sym c.max-self-inside.ensures)
          (c.in-Ok.ensures.room content i.room c.self.invariant.held);
    }

pub invariant_of-self-in-Err : goal.invariant_of-self-in-Err
invariant_of-self-in-Err c =
    let i = c.self.inside in
    record {
      len = c.self.invariant.len;
      held = c.in-Err.ensures.same (after_writes i.found.value.items i.told.events) i.room c.self.invariant.held;
    }
