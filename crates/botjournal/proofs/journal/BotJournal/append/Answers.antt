use Rattle.std.proofs.Common.{◌≡◌, ◌<◌, ◌^◌, List, ℕ, length, refl, sym, ◌∙◌, subst}
use Rattle.std.specs.Prelude.{false, option_map, Ok, Err}
use Rattle.bytetext.specs.declared.failure.Failure.TheVariants.{NoMemory}
use Rattle.bytejournal.specs.declared.journal.Journal.{Journal}
use Rattle.bytejournal.specs.Meaning.{added as added_text}
use Rattle.bytejournal.specs.Journal.{AnyMoment, Appends, HoldsOne, IsEither, contents_of as texts_of}
use Rattle.bytejournal.proofs.Pairs.{either_comm, pair}
use Rattle.bytejournal.proofs.Appending.{nothing_happens}
use Rattle.botjournal.specs.Entries.{entry_bytes}
use Rattle.botjournal.specs.Sums.{sealed}
use Rattle.botjournal.specs.Journal.{IsSealed}
use Rattle.botjournal.proofs.LengthLaws.{entry_is_short}
use Rattle.botjournal.proofs.JournalLaws.{texts_current, append_sealed, append_moments, append_row, append_sound}
use Rattle.botjournal.proofs.journal.BotJournal.append.Goals as goal

pub returns-in_err-made-clause-any_moment : goal.returns-in_err-made-clause-any_moment
returns-in_err-made-clause-any_moment g c going =
    let j = c.args.self.now in
    let state = g.D.Disk.state in
    let entry = c.args.entry.now in
    let seal = c.self.inside.seal in
    let text = sealed seal (entry_bytes entry) in
    let after = option_map (added_text text) (texts_of state j) in
    let rest = c.requires.sound going in
    let so_far : IsSealed state j c.self.inside.seal =
    subst (λ (was : Journal g.row.D.Denot). IsSealed state was c.self.inside.seal) c.self.view_is c.self.invariant.1 in
    append_moments state j seal entry text c.requires.good refl rest.some (texts_current state j rest c.requires.current) (so_far going) j
    (pair state j.swapped _ _ _ _ _ (either_comm (HoldsOne state j) (texts_of state j) after)
    (nothing_happens state j rest.texts after))

pub append-requires-clause-small : goal.append-requires-clause-small
append-requires-clause-small g c =
    subst (λ (t : List ℕ). length t < 2 ^ 32) (sym (c.deref.ensures.value ∙ c.in_ok-made.ensures.text))
    (entry_is_short c.args.entry.now c.requires.good c.self.inside.seal)

pub invariant_of-self : goal.invariant_of-self
invariant_of-self g c =
    let inside = c.self.inside in
    let row = c.in-Ok.ensures.row in (
      c.self.invariant.0 ∙ row.0 ∙ sym row.1,
      append_sealed g.D.Disk.state inside.texts c.append.new.self inside.seal c.in_ok-made.made.seal (entry_bytes c.args.entry.now) c.deref.result.now
          (c.deref.ensures.value ∙ c.in_ok-made.ensures.text) c.in_ok-made.ensures.seal row.0 row.2 c.self.invariant.1,
    )

pub returns-in-Ok-clause-sound : goal.returns-in-Ok-clause-sound
returns-in-Ok-clause-sound g c =
    let state = g.D.Disk.state in
    let old = c.args.self.now in
    let new = c.append.new.self in
    let text = c.deref.result.now in
    let so_far : IsSealed state old c.self.inside.seal =
    subst (λ (was : Journal g.row.D.Denot). IsSealed state was c.self.inside.seal) c.self.view_is c.self.invariant.1 in
    let moments : old.spent ≡ false → AnyMoment state old new (IsEither (HoldsOne state old) (texts_of state old)
    (option_map (added_text text) (texts_of state old))) =
    subst (λ (was : Journal g.row.D.Denot). was.spent ≡ false → AnyMoment state was new (IsEither (HoldsOne state was) (texts_of state was)
    (option_map (added_text text) (texts_of state was)))) c.self.view_is c.append.ensures.any_moment in
    let row : Appends state old text c.append.result new =
    subst (λ (was : Journal g.row.D.Denot). Appends state was text c.append.result new) c.self.view_is c.append.ensures.row in
    append_sound state old new c.self.inside.seal c.args.entry.now text c.requires.good (c.deref.ensures.value ∙ c.in_ok-made.ensures.text) c.requires.sound c.requires.current so_far moments
    c.append.ensures.sound c.append.result row

pub returns-in-Ok-clause-row : goal.returns-in-Ok-clause-row
returns-in-Ok-clause-row g c =
    let state = g.D.Disk.state in
    let old = c.args.self.now in
    let new = c.append.new.self in
    let text = c.deref.result.now in
    let so_far : IsSealed state old c.self.inside.seal =
    subst (λ (was : Journal g.row.D.Denot). IsSealed state was c.self.inside.seal) c.self.view_is c.self.invariant.1 in
    let moments : old.spent ≡ false → AnyMoment state old new (IsEither (HoldsOne state old) (texts_of state old)
    (option_map (added_text text) (texts_of state old))) =
    subst (λ (was : Journal g.row.D.Denot). was.spent ≡ false → AnyMoment state was new (IsEither (HoldsOne state was) (texts_of state was)
    (option_map (added_text text) (texts_of state was)))) c.self.view_is c.append.ensures.any_moment in
    let row : Appends state old text (Ok c.in-Ok.field-0) new =
    subst (λ (was : Journal g.row.D.Denot). Appends state was text (Ok c.in-Ok.field-0) new) c.self.view_is c.in-Ok.ensures.row in
    append_row state old new c.self.inside.seal c.args.entry.now text c.requires.good (c.deref.ensures.value ∙ c.in_ok-made.ensures.text) c.requires.sound c.requires.current so_far moments
    (Ok c.in-Ok.field-0) row

pub returns-in-Ok-clause-any_moment : goal.returns-in-Ok-clause-any_moment
returns-in-Ok-clause-any_moment g c going =
    let state = g.D.Disk.state in
    let old = c.args.self.now in
    let new = c.append.new.self in
    let text = c.deref.result.now in
    let so_far : IsSealed state old c.self.inside.seal =
    subst (λ (was : Journal g.row.D.Denot). IsSealed state was c.self.inside.seal) c.self.view_is c.self.invariant.1 in
    let moments : old.spent ≡ false → AnyMoment state old new (IsEither (HoldsOne state old) (texts_of state old)
    (option_map (added_text text) (texts_of state old))) =
    subst (λ (was : Journal g.row.D.Denot). was.spent ≡ false → AnyMoment state was new (IsEither (HoldsOne state was) (texts_of state was)
    (option_map (added_text text) (texts_of state was)))) c.self.view_is c.append.ensures.any_moment in
    append_moments state old c.self.inside.seal c.args.entry.now text c.requires.good (c.deref.ensures.value ∙ c.in_ok-made.ensures.text) (c.requires.sound going).some
    (texts_current state old (c.requires.sound going) c.requires.current) (so_far going) new (moments going)

pub returns-in-Err-NoMemory-clause-sound : goal.returns-in-Err-NoMemory-clause-sound
returns-in-Err-NoMemory-clause-sound g c =
    let state = g.D.Disk.state in
    let old = c.args.self.now in
    let new = c.append.new.self in
    let text = c.deref.result.now in
    let so_far : IsSealed state old c.self.inside.seal =
    subst (λ (was : Journal g.row.D.Denot). IsSealed state was c.self.inside.seal) c.self.view_is c.self.invariant.1 in
    let moments : old.spent ≡ false → AnyMoment state old new (IsEither (HoldsOne state old) (texts_of state old)
    (option_map (added_text text) (texts_of state old))) =
    subst (λ (was : Journal g.row.D.Denot). was.spent ≡ false → AnyMoment state was new (IsEither (HoldsOne state was) (texts_of state was)
    (option_map (added_text text) (texts_of state was)))) c.self.view_is c.append.ensures.any_moment in
    let row : Appends state old text c.append.result new =
    subst (λ (was : Journal g.row.D.Denot). Appends state was text c.append.result new) c.self.view_is c.append.ensures.row in
    append_sound state old new c.self.inside.seal c.args.entry.now text c.requires.good (c.deref.ensures.value ∙ c.in_ok-made.ensures.text) c.requires.sound c.requires.current so_far moments
    c.append.ensures.sound c.append.result row

pub returns-in-Err-NoMemory-clause-row : goal.returns-in-Err-NoMemory-clause-row
returns-in-Err-NoMemory-clause-row g c =
    let state = g.D.Disk.state in
    let old = c.args.self.now in
    let new = c.append.new.self in
    let text = c.deref.result.now in
    let so_far : IsSealed state old c.self.inside.seal =
    subst (λ (was : Journal g.row.D.Denot). IsSealed state was c.self.inside.seal) c.self.view_is c.self.invariant.1 in
    let moments : old.spent ≡ false → AnyMoment state old new (IsEither (HoldsOne state old) (texts_of state old)
    (option_map (added_text text) (texts_of state old))) =
    subst (λ (was : Journal g.row.D.Denot). was.spent ≡ false → AnyMoment state was new (IsEither (HoldsOne state was) (texts_of state was)
    (option_map (added_text text) (texts_of state was)))) c.self.view_is c.append.ensures.any_moment in
    let row : Appends state old text (Err NoMemory) new =
    subst (λ (was : Journal g.row.D.Denot). Appends state was text (Err NoMemory) new) c.self.view_is
    (subst (λ why. Appends state c.self.inside.texts text (Err why) new) c.in-Err-NoMemory.field-0-is c.in-Err-NoMemory.ensures.row) in
    append_row state old new c.self.inside.seal c.args.entry.now text c.requires.good (c.deref.ensures.value ∙ c.in_ok-made.ensures.text) c.requires.sound c.requires.current so_far moments
    (Err NoMemory) row

pub returns-in-Err-NoMemory-clause-any_moment : goal.returns-in-Err-NoMemory-clause-any_moment
returns-in-Err-NoMemory-clause-any_moment g c going =
    let state = g.D.Disk.state in
    let old = c.args.self.now in
    let new = c.append.new.self in
    let text = c.deref.result.now in
    let so_far : IsSealed state old c.self.inside.seal =
    subst (λ (was : Journal g.row.D.Denot). IsSealed state was c.self.inside.seal) c.self.view_is c.self.invariant.1 in
    let moments : old.spent ≡ false → AnyMoment state old new (IsEither (HoldsOne state old) (texts_of state old)
    (option_map (added_text text) (texts_of state old))) =
    subst (λ (was : Journal g.row.D.Denot). was.spent ≡ false → AnyMoment state was new (IsEither (HoldsOne state was) (texts_of state was)
    (option_map (added_text text) (texts_of state was)))) c.self.view_is c.append.ensures.any_moment in
    append_moments state old c.self.inside.seal c.args.entry.now text c.requires.good (c.deref.ensures.value ∙ c.in_ok-made.ensures.text) (c.requires.sound going).some
    (texts_current state old (c.requires.sound going) c.requires.current) (so_far going) new (moments going)

pub returns-clause-any_moment : goal.returns-clause-any_moment
returns-clause-any_moment g c going =
    let state = g.D.Disk.state in
    let old = c.args.self.now in
    let new = c.append.new.self in
    let text = c.deref.result.now in
    let so_far : IsSealed state old c.self.inside.seal =
    subst (λ (was : Journal g.row.D.Denot). IsSealed state was c.self.inside.seal) c.self.view_is c.self.invariant.1 in
    let moments : old.spent ≡ false → AnyMoment state old new (IsEither (HoldsOne state old) (texts_of state old)
    (option_map (added_text text) (texts_of state old))) =
    subst (λ (was : Journal g.row.D.Denot). was.spent ≡ false → AnyMoment state was new (IsEither (HoldsOne state was) (texts_of state was)
    (option_map (added_text text) (texts_of state was)))) c.self.view_is c.append.ensures.any_moment in
    append_moments state old c.self.inside.seal c.args.entry.now text c.requires.good (c.deref.ensures.value ∙ c.in_ok-made.ensures.text) (c.requires.sound going).some
    (texts_current state old (c.requires.sound going) c.requires.current) (so_far going) new (moments going)
