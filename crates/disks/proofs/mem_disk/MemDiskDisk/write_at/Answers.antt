use Rattle.std.proofs.Common.{◌≤◌, ◌+◌, ℕ, List, min, [], ◌∷◌, length, refl, sym, ap, subst, arith}
use Rattle.std.specs.Vec.{vec_capacity}
use Rattle.disks.specs.Events.{event_of}
use Rattle.disks.specs.Memory.{Memory}
use Rattle.disks.proofs.Noted.{before, torn_holds, torn_none, tears, kept}
use Rattle.disks.proofs.mem_disk.MemDiskDisk.write_at.Goals as goal

pub returns-then-is_over-clause-tears : goal.returns-then-is_over-clause-tears
returns-then-is_over-clause-tears c image left =
    let i = c.self.inside in
    let n = length c.args.bytes.now in
    before c.args.self.now i.history.events i.content.items image c.args.at n (ap (λ (m : Memory). m.events) c.self.view_is)
    (ap (λ (m : Memory). m.content) c.self.view_is)
    (tears c.note.new.self.events i.history.events
    (event_of (1 ∷ c.args.at ∷ n ∷ []) c.deref.result.now) i.content.items i.content.items c.args.at n c.note.ensures refl refl
    c.deref.ensures.value (torn_none c.args.at n i.content.items) image left)

pub returns-clause-tears : goal.returns-clause-tears
returns-clause-tears c image left =
    let i = c.self.inside in
    let n = length c.args.bytes.now in
    let inside : c.args.at ≤ length i.content.items =
    subst (λ (l : List ℕ). c.args.at ≤ length l) (ap (λ (m : Memory). m.content) (sym c.self.view_is)) c.requires.inside in
    before c.args.self.now i.history.events i.content.items image c.args.at n (ap (λ (m : Memory). m.events) c.self.view_is)
    (ap (λ (m : Memory). m.content) c.self.view_is)
    (tears c.note.new.self.events i.history.events
    (event_of (1 ∷ c.args.at ∷ n ∷ []) c.deref.result.now) i.content.items c.put.new.bytes.items c.args.at n c.note.ensures refl refl c.deref.ensures.value
    (torn_holds i.content.items c.args.bytes.now c.put.new.bytes.items c.args.at inside c.put.ensures.holds) image left)

pub invariant_of-self-2 : goal.invariant_of-self-2
invariant_of-self-2 c =
    let i = c.self.inside in
    let n = length c.args.bytes.now in
    let inside : c.args.at ≤ length i.content.items =
    subst (λ (l : List ℕ). c.args.at ≤ length l) (ap (λ (m : Memory). m.content) (sym c.self.view_is)) c.requires.inside in
    let fits : c.args.at + n ≤ min (vec_capacity i.content) (vec_capacity i.torn) =
    subst (λ (k : ℕ). c.args.at + n ≤ k) (ap (λ (m : Memory). m.room) (sym c.self.view_is)) c.requires.room in
    kept c.note.new.self.events i.history.events (event_of (1 ∷ c.args.at ∷ n ∷ []) c.deref.result.now) i.content.items i.torn.items
    c.put.new.bytes.items c.tear_range.new.image.items c.args.at n i.same c.min-self-inside.result
    (vec_capacity i.content) (vec_capacity i.torn) (vec_capacity c.put.new.bytes) (vec_capacity c.tear_range.new.image)
    c.note.ensures refl refl refl c.deref.ensures.value c.self.invariant c.tear_range.ensures.torn
    (torn_holds i.content.items c.args.bytes.now c.put.new.bytes.items c.args.at inside c.put.ensures.holds) c.min-self-inside.ensures
    (omega (arith, fits)) (omega (arith, fits)) c.put.ensures.capacity c.tear_range.ensures.capacity
