use Rattle.std.proofs.Common.{◌&&◌, not, Bool, List, [], ◌∷◌, ◌++◌, ℕ, length, inl, refl, sym, ◌∙◌, ap, subst}
use Rattle.std.specs.Prelude.{option_map}
use Rattle.disks.specs.State.{LeavesOnly}
use Rattle.bytejournal.specs.Gates.{with_gate, closed_first, IsHalfWritten, IsHalfClosed}
use Rattle.bytejournal.specs.Meaning.{added}
use Rattle.bytejournal.specs.Journal.{HoldsOne, contents_of}
use Rattle.bytejournal.proofs.Images.{entry_bytes}
use Rattle.bytejournal.proofs.Moments.{still_has, kept_has, same_then}
use Rattle.bytejournal.proofs.Pairs.{either_comm, pair}
use Rattle.bytejournal.proofs.Appending.{nothing_happens, append_moments, appended_counts, idle_shut, rests_after}
use Rattle.bytejournal.proofs.journal.Journal.append.Goals as goal

pub returns-in_err-text-clause-any_moment : goal.returns-in_err-text-clause-any_moment
returns-in_err-text-clause-any_moment g c going =
    let j = c.args.self.now in
    let state = g.D.Disk.state in
    let after = option_map (added c.args.entry.now) (contents_of state j) in
    pair state j.swapped _ _ _ _ _ (either_comm (HoldsOne state j) (contents_of state j) after)
    (nothing_happens state j (c.requires.sound going) after)

pub returns-in_default-clause-any_moment : goal.returns-in_default-clause-any_moment
returns-in_default-clause-any_moment g c going =
    let j = c.args.self.now in
    let state = g.D.Disk.state in
    let after = option_map (added c.args.entry.now) (contents_of state j) in
    pair state j.swapped _ _ _ _ _ (either_comm (HoldsOne state j) (contents_of state j) after)
    (nothing_happens state j (c.requires.sound going) after)

pub returns-in-Err-clause-any_moment : goal.returns-in-Err-clause-any_moment
returns-in-Err-clause-any_moment g c going =
    let j = c.args.self.now in
    let state = g.D.Disk.state in
    let after = option_map (added c.args.entry.now) (contents_of state j) in
    pair state j.swapped _ _ _ _ _ (either_comm (HoldsOne state j) (contents_of state j) after)
    (append_moments state j (c.requires.sound going) c.args.entry.now c.requires.small c.reserve.new.self j.idle (g.D.Disk.shuts j.idle)
    (kept_has (state j.active) (state c.reserve.new.self) _ (c.requires.sound going).active_settled c.reserve.ensures.same (inl refl))
    (still_has (state j.idle) _ (c.requires.sound going).idle_settled (inl refl)))

pub returns-in-Err-reserve-clause-any_moment : goal.returns-in-Err-reserve-clause-any_moment
returns-in-Err-reserve-clause-any_moment g c going =
    let j = c.args.self.now in
    let state = g.D.Disk.state in
    let after = option_map (added c.args.entry.now) (contents_of state j) in
    pair state j.swapped _ _ _ _ _ (either_comm (HoldsOne state j) (contents_of state j) after)
    (append_moments state j (c.requires.sound going) c.args.entry.now c.requires.small c.reserve.new.self c.reserve-2.new.self (g.D.Disk.shuts j.idle)
    (kept_has (state j.active) (state c.reserve.new.self) _ (c.requires.sound going).active_settled c.reserve.ensures.same (inl refl))
    (kept_has (state j.idle) (state c.reserve-2.new.self) _ (c.requires.sound going).idle_settled c.reserve-2.ensures.same (inl refl)))

pub returns-in-Ok-write_and_close-clause-any_moment : goal.returns-in-Ok-write_and_close-clause-any_moment
returns-in-Ok-write_and_close-clause-any_moment g c going =
    let j = c.args.self.now in
    let state = g.D.Disk.state in
    let after = option_map (added c.args.entry.now) (contents_of state j) in
    pair state j.swapped _ _ _ _ _ (either_comm (HoldsOne state j) (contents_of state j) after)
    (append_moments state j (c.requires.sound going) c.args.entry.now c.requires.small c.write_and_close.new.disk c.write_and_close.new.beside (g.D.Disk.shuts j.idle)
    (same_then (state j.active) (state c.reserve.new.self) (state c.write_and_close.new.disk) _ (c.requires.sound going).active_settled
    c.reserve.ensures.same (inl refl)
    (subst (λ (file : List ℕ). LeavesOnly (state c.reserve.new.self) (state c.write_and_close.new.disk)
    (IsHalfWritten file j.gate (entry_bytes c.args.entry.now ++ (0 ∷ [])))) c.reserve.ensures.same.seen
    (subst (λ (t : List ℕ). LeavesOnly (state c.reserve.new.self) (state c.write_and_close.new.disk)
    (IsHalfWritten (state c.reserve.new.self).seen j.gate t)) (c.deref-2.ensures.value ∙ c.in_ok-text.ensures) c.write_and_close.ensures.any_moment)))
    (same_then (state j.idle) (state c.reserve-2.new.self) (state c.write_and_close.new.beside) _ (c.requires.sound going).idle_settled
    c.reserve-2.ensures.same (inl refl)
    (subst (λ (file : List ℕ). LeavesOnly (state c.reserve-2.new.self) (state c.write_and_close.new.beside)
    (IsHalfClosed (j.idle_open && g.D.Disk.shuts j.idle) file)) c.reserve-2.ensures.same.seen
    (subst (λ (b : Bool). LeavesOnly (state c.reserve-2.new.self) (state c.write_and_close.new.beside) (IsHalfClosed b (state c.reserve-2.new.self).seen))
    c.shuts_idle-shuts.ensures c.write_and_close.ensures.beside_any_moment))))

pub returns-clause-any_moment : goal.returns-clause-any_moment
returns-clause-any_moment g c going =
    let j = c.args.self.now in
    let state = g.D.Disk.state in
    let after = option_map (added c.args.entry.now) (contents_of state j) in
    pair state j.swapped _ _ _ _ _ (either_comm (HoldsOne state j) (contents_of state j) after)
    (append_moments state j (c.requires.sound going) c.args.entry.now c.requires.small c.write_and_close.new.disk c.write_and_close.new.beside (g.D.Disk.shuts j.idle)
    (same_then (state j.active) (state c.reserve.new.self) (state c.write_and_close.new.disk) _ (c.requires.sound going).active_settled
    c.reserve.ensures.same (inl refl)
    (subst (λ (file : List ℕ). LeavesOnly (state c.reserve.new.self) (state c.write_and_close.new.disk)
    (IsHalfWritten file j.gate (entry_bytes c.args.entry.now ++ (0 ∷ [])))) c.reserve.ensures.same.seen
    (subst (λ (t : List ℕ). LeavesOnly (state c.reserve.new.self) (state c.write_and_close.new.disk)
    (IsHalfWritten (state c.reserve.new.self).seen j.gate t)) (c.deref-2.ensures.value ∙ c.in_ok-text.ensures) c.write_and_close.ensures.any_moment)))
    (same_then (state j.idle) (state c.reserve-2.new.self) (state c.write_and_close.new.beside) _ (c.requires.sound going).idle_settled
    c.reserve-2.ensures.same (inl refl)
    (subst (λ (file : List ℕ). LeavesOnly (state c.reserve-2.new.self) (state c.write_and_close.new.beside)
    (IsHalfClosed (j.idle_open && g.D.Disk.shuts j.idle) file)) c.reserve-2.ensures.same.seen
    (subst (λ (b : Bool). LeavesOnly (state c.reserve-2.new.self) (state c.write_and_close.new.beside) (IsHalfClosed b (state c.reserve-2.new.self).seen))
    c.shuts_idle-shuts.ensures c.write_and_close.ensures.beside_any_moment))))

pub returns-in-Ok-write_and_close-clause-row : goal.returns-in-Ok-write_and_close-clause-row
returns-in-Ok-write_and_close-clause-row g c =
    let j = c.args.self.now in
    let state = g.D.Disk.state in (
      c.if-self.false,
      c.if-self.false,
      appended_counts state j (c.requires.sound c.if-self.false) c.args.entry.now c.requires.small c.write_and_close.new.disk
          c.write_and_close.new.beside (g.D.Disk.shuts j.idle)
          (c.in-Ok-write_and_close.ensures.written
          ∙ ap (λ (file : List ℕ). with_gate file j.gate c.deref-2.result.now 1) c.reserve.ensures.same.seen
          ∙ ap (λ (t : List ℕ). with_gate (state j.active).seen j.gate t 1) (c.deref-2.ensures.value ∙ c.in_ok-text.ensures))
          (c.in-Ok-write_and_close.ensures.closed ∙ ap (λ (b : Bool). closed_first b (state c.reserve-2.new.self).seen) c.shuts_idle-shuts.ensures
          ∙ ap (closed_first (j.idle_open && g.D.Disk.shuts j.idle)) c.reserve-2.ensures.same.seen),
    )

pub returns-in-Ok-write_and_close-clause-sound : goal.returns-in-Ok-write_and_close-clause-sound
returns-in-Ok-write_and_close-clause-sound g c going =
    let j = c.args.self.now in
    let state = g.D.Disk.state in
    rests_after state j (c.requires.sound going) c.args.entry.now c.requires.small c.write_and_close.new.disk c.write_and_close.new.beside (g.D.Disk.shuts j.idle)
    (c.in-Ok-write_and_close.ensures.written
    ∙ ap (λ (file : List ℕ). with_gate file j.gate c.deref-2.result.now 1) c.reserve.ensures.same.seen
    ∙ ap (λ (t : List ℕ). with_gate (state j.active).seen j.gate t 1) (c.deref-2.ensures.value ∙ c.in_ok-text.ensures))
    (c.in-Ok-write_and_close.ensures.closed ∙ ap (λ (b : Bool). closed_first b (state c.reserve-2.new.self).seen) c.shuts_idle-shuts.ensures
    ∙ ap (closed_first (j.idle_open && g.D.Disk.shuts j.idle)) c.reserve-2.ensures.same.seen)
    c.len.result c.is_still_open-self.result j.spent
    (c.len.ensures ∙ sym c.deref-2.ensures.len ∙ ap length (c.deref-2.ensures.value ∙ c.in_ok-text.ensures))
    (c.is_still_open-self.ensures ∙ ap (λ (b : Bool). j.idle_open && not b) c.shuts_idle-shuts.ensures)
    c.in-Ok-write_and_close.ensures.settled c.in-Ok-write_and_close.ensures.beside_settled

pub returns-in-Ok-write_and_close-clause-shut : goal.returns-in-Ok-write_and_close-clause-shut
returns-in-Ok-write_and_close-clause-shut g c =
    let j = c.args.self.now in
    let state = g.D.Disk.state in
    idle_shut state j (c.requires.sound c.if-self.false) c.args.entry.now c.requires.small c.write_and_close.new.disk c.write_and_close.new.beside (g.D.Disk.shuts j.idle)
    (c.in-Ok-write_and_close.ensures.written
    ∙ ap (λ (file : List ℕ). with_gate file j.gate c.deref-2.result.now 1) c.reserve.ensures.same.seen
    ∙ ap (λ (t : List ℕ). with_gate (state j.active).seen j.gate t 1) (c.deref-2.ensures.value ∙ c.in_ok-text.ensures))
    (c.in-Ok-write_and_close.ensures.closed ∙ ap (λ (b : Bool). closed_first b (state c.reserve-2.new.self).seen) c.shuts_idle-shuts.ensures
    ∙ ap (closed_first (j.idle_open && g.D.Disk.shuts j.idle)) c.reserve-2.ensures.same.seen)
