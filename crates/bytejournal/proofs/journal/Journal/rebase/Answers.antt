use Rattle.std.proofs.Common.{◌<◌, ◌+◌, ◌^◌, true, not, refl, List, ℕ, length, sym, ◌∙◌, ap, subst, rules}
use Rattle.std.specs.Prelude.{option_map}
use Rattle.disks.specs.State.{LeavesOnly}
use Rattle.bytejournal.specs.Gates.{with_gate, closed_first, IsHalfReplaced}
use Rattle.bytejournal.specs.Meaning.{rebased, meaning}
use Rattle.bytejournal.specs.Journal.{IsEither, HoldsOne, EachMoment, contents_of, IsAtRest}
use Rattle.bytejournal.proofs.Pairs.{either_comm, pair, pair_swapped}
use Rattle.bytejournal.proofs.Appending.{nothing_happens}
use Rattle.bytejournal.proofs.Rebasing.{rebase_moments, rebased_counts, rests_rebased}
use Rattle.bytejournal.proofs.journal.Journal.rebase.Goals as goal

pub returns-then-generations_spent-clause-any_moment : goal.returns-then-generations_spent-clause-any_moment
returns-then-generations_spent-clause-any_moment g c going =
    let j = c.args.self.now in
    let after = option_map (rebased c.args.layout c.args.base.now) (contents_of g.D.Disk.state j) in
    pair g.D.Disk.state j.swapped _ _ _ _ _ (either_comm (HoldsOne g.D.Disk.state j) (contents_of g.D.Disk.state j) after)
    (nothing_happens g.D.Disk.state j (c.requires.sound going) after)

pub returns-in_err-text-clause-any_moment : goal.returns-in_err-text-clause-any_moment
returns-in_err-text-clause-any_moment g c going =
    let j = c.args.self.now in
    let after = option_map (rebased c.args.layout c.args.base.now) (contents_of g.D.Disk.state j) in
    pair g.D.Disk.state j.swapped _ _ _ _ _ (either_comm (HoldsOne g.D.Disk.state j) (contents_of g.D.Disk.state j) after)
    (nothing_happens g.D.Disk.state j (c.requires.sound going) after)

pub returns-in-Err-NoMemory-clause-any_moment : goal.returns-in-Err-NoMemory-clause-any_moment
returns-in-Err-NoMemory-clause-any_moment g c going =
    let j = c.args.self.now in
    let state = g.D.Disk.state in
    let left : j.generation + 1 < 2 ^ 32 = search rules in
    let after = option_map (rebased c.args.layout c.args.base.now) (contents_of state j) in
    pair g.D.Disk.state j.swapped _ _ _ _ _ (either_comm (HoldsOne g.D.Disk.state j) (contents_of g.D.Disk.state j) after)
    (rebase_moments g.D.Disk.state j (c.requires.sound going) c.args.layout c.args.base.now c.requires.small left c.replace.new.disk
    (subst (λ (t : List ℕ). LeavesOnly (g.D.Disk.state j.idle) (g.D.Disk.state c.replace.new.disk)
    (IsHalfReplaced j.idle_open (g.D.Disk.state j.idle).seen t)) (c.deref.ensures.value ∙ c.in_ok-text.ensures) c.replace.ensures.any_moment))

pub returns-clause-any_moment : goal.returns-clause-any_moment
returns-clause-any_moment g c going =
    let j = c.args.self.now in
    let state = g.D.Disk.state in
    let left : j.generation + 1 < 2 ^ 32 = search rules in
    let after = option_map (rebased c.args.layout c.args.base.now) (contents_of state j) in
    pair g.D.Disk.state j.swapped _ _ _ _ _ (either_comm (HoldsOne g.D.Disk.state j) (contents_of g.D.Disk.state j) after)
    (rebase_moments g.D.Disk.state j (c.requires.sound going) c.args.layout c.args.base.now c.requires.small left c.replace.new.disk
    (subst (λ (t : List ℕ). LeavesOnly (g.D.Disk.state j.idle) (g.D.Disk.state c.replace.new.disk)
    (IsHalfReplaced j.idle_open (g.D.Disk.state j.idle).seen t)) (c.deref.ensures.value ∙ c.in_ok-text.ensures) c.replace.ensures.any_moment))

pub returns-in-Ok-clause-any_moment : goal.returns-in-Ok-clause-any_moment
returns-in-Ok-clause-any_moment g c going =
    let j = c.args.self.now in
    let state = g.D.Disk.state in
    let left : j.generation + 1 < 2 ^ 32 = search rules in
    let after = option_map (rebased c.args.layout c.args.base.now) (contents_of g.D.Disk.state j) in
    let moments = rebase_moments g.D.Disk.state j (c.requires.sound going) c.args.layout c.args.base.now c.requires.small left c.replace.new.disk
    (subst (λ (t : List ℕ). LeavesOnly (g.D.Disk.state j.idle) (g.D.Disk.state c.replace.new.disk)
    (IsHalfReplaced j.idle_open (g.D.Disk.state j.idle).seen t)) (c.deref.ensures.value ∙ c.in_ok-text.ensures) c.replace.ensures.any_moment) in
    pair_swapped g.D.Disk.state j.swapped j.active j.idle c.swap.new.y c.swap.new.x (IsEither (HoldsOne g.D.Disk.state j) (contents_of g.D.Disk.state j) after)
    (either_comm (HoldsOne g.D.Disk.state j) (contents_of g.D.Disk.state j) after)
    (subst (λ y. EachMoment (g.D.Disk.state j.active) (g.D.Disk.state j.idle) (g.D.Disk.state y) (g.D.Disk.state c.swap.new.x) (IsEither (HoldsOne g.D.Disk.state j) (contents_of g.D.Disk.state j) after)) (sym c.swap.ensures.y_after)
    (subst (λ x. EachMoment (g.D.Disk.state j.active) (g.D.Disk.state j.idle) (g.D.Disk.state j.active) (g.D.Disk.state x) (IsEither (HoldsOne g.D.Disk.state j) (contents_of g.D.Disk.state j) after)) (sym c.swap.ensures.x_after) moments))

pub returns-in-Ok-clause-row : goal.returns-in-Ok-clause-row
returns-in-Ok-clause-row g c =
    let j = c.args.self.now in
    let state = g.D.Disk.state in
    let left : j.generation + 1 < 2 ^ 32 = search rules in
    let counts = rebased_counts g.D.Disk.state j (c.requires.sound c.if-self.false) c.args.layout c.args.base.now c.requires.small left c.replace.new.disk
    (c.in-Ok.ensures.puts.0 ∙ ap (λ (t : List ℕ). with_gate (closed_first j.idle_open (g.D.Disk.state j.idle).seen) 0 t 1)
    (c.deref.ensures.value ∙ c.in_ok-text.ensures)) in (
      c.if-self.false,
      c.if-self.false,
      refl,
      refl,
      ap (λ x. meaning (g.D.Disk.state x).seen (g.D.Disk.state c.swap.new.y).seen) c.swap.ensures.x_after
          ∙ ap (λ y. meaning (g.D.Disk.state c.replace.new.disk).seen (g.D.Disk.state y).seen) c.swap.ensures.y_after ∙ counts,
    )

pub returns-in-Ok-clause-sound : goal.returns-in-Ok-clause-sound
returns-in-Ok-clause-sound g c going =
    let j = c.args.self.now in
    let state = g.D.Disk.state in
    let left : j.generation + 1 < 2 ^ 32 = search rules in
    let rests = rests_rebased g.D.Disk.state j (c.requires.sound going) c.args.layout c.args.base.now c.requires.small left c.replace.new.disk
    (c.in-Ok.ensures.puts.0 ∙ ap (λ (t : List ℕ). with_gate (closed_first j.idle_open (g.D.Disk.state j.idle).seen) 0 t 1)
    (c.deref.ensures.value ∙ c.in_ok-text.ensures))
    c.len-self.result (not j.swapped) j.spent (c.len-self.ensures ∙ sym c.deref.ensures.len
    ∙ ap length (c.deref.ensures.value ∙ c.in_ok-text.ensures)) c.in-Ok.ensures.puts.1 in
    subst (λ x. IsAtRest g.D.Disk.state (record {
      active = x;
      idle = c.swap.new.y;
      swapped = not j.swapped;
      idle_open = true;
      layout = c.args.layout;
      generation = j.generation + 1;
      gate = c.len-self.result;
      spent = j.spent;
    })) (sym c.swap.ensures.x_after)
    (subst (λ y. IsAtRest g.D.Disk.state (record {
      active = c.replace.new.disk;
      idle = y;
      swapped = not j.swapped;
      idle_open = true;
      layout = c.args.layout;
      generation = j.generation + 1;
      gate = c.len-self.result;
      spent = j.spent;
    })) (sym c.swap.ensures.y_after) rests)
