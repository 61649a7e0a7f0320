use Rattle.std.proofs.Common.{◌<◌, ◌^◌, ◌+◌, List, [], ◌∷◌, ℕ, length, Some, refl, sym, ap, ◌∙◌, subst}
use Rattle.std.specs.Prelude.{option_map}
use Rattle.bytejournal.specs.Meaning.{rebased as rebased_text}
use Rattle.bytejournal.specs.Journal.{HoldsOne, contents_of as texts_of}
use Rattle.bytejournal.proofs.Pairs.{either_comm, pair}
use Rattle.bytejournal.proofs.Appending.{nothing_happens}
use Rattle.botjournal.specs.declared.TheConstants.{LAYOUT}
use Rattle.botjournal.specs.Bases.{base_bytes}
use Rattle.botjournal.specs.Sums.{start, sealed, after, through}
use Rattle.botjournal.proofs.LengthLaws.{base_is_short, shapes_are}
use Rattle.botjournal.proofs.SumLaws.{step_sealed, through_one}
use Rattle.botjournal.proofs.JournalLaws.{texts_of_now, rebase_moments, rebase_row, rebase_sound}
use Rattle.botjournal.proofs.journal.BotJournal.rebase.Goals as goal

pub returns-then-generations_spent-clause-any_moment : goal.returns-then-generations_spent-clause-any_moment
returns-then-generations_spent-clause-any_moment g c going =
    let j = c.args.self.now in
    let state = g.D.Disk.state in
    let base = c.args.base.now in
    let text = sealed (start LAYOUT (j.generation + 1)) (base_bytes base) in
    let after = option_map (rebased_text LAYOUT text) (texts_of state j) in
    let rest = c.requires.sound going in
    rebase_moments state j base text c.requires.good refl rest.some (texts_of_now state j rest) j
    (pair state j.swapped _ _ _ _ _ (either_comm (HoldsOne state j) (texts_of state j) after)
    (nothing_happens state j rest.texts after))

pub sealed_base-requires : goal.sealed_base-requires
sealed_base-requires g c = shapes_are c.args.base.now c.requires.good

pub returns-in_err-made-clause-any_moment : goal.returns-in_err-made-clause-any_moment
returns-in_err-made-clause-any_moment g c going =
    let j = c.args.self.now in
    let state = g.D.Disk.state in
    let base = c.args.base.now in
    let text = sealed (start LAYOUT (j.generation + 1)) (base_bytes base) in
    let after = option_map (rebased_text LAYOUT text) (texts_of state j) in
    let rest = c.requires.sound going in
    rebase_moments state j base text c.requires.good refl rest.some (texts_of_now state j rest) j
    (pair state j.swapped _ _ _ _ _ (either_comm (HoldsOne state j) (texts_of state j) after)
    (nothing_happens state j rest.texts after))

pub rebase_text-requires-clause-small : goal.rebase_text-requires-clause-small
rebase_text-requires-clause-small g c =
    subst (λ (t : List ℕ). length t < 2 ^ 32) (sym (c.deref.ensures.value ∙ c.in_ok-made.ensures.text))
    (base_is_short c.args.base.now c.requires.good (start LAYOUT (c.generation.result + 1)))

pub rebase_text-requires-clause-sealed : goal.rebase_text-requires-clause-sealed
rebase_text-requires-clause-sealed g c =
    let base = c.args.base.now in
    let before = start LAYOUT (c.args.self.now.generation + 1) in
    let is = c.deref.ensures.value ∙ c.in_ok-made.ensures.text
    ∙ ap (λ n. sealed (start LAYOUT (n + 1)) (base_bytes c.args.base.now)) c.generation.ensures in
    let leads = c.in_ok-made.ensures.seal ∙ ap (λ n. after (start LAYOUT (n + 1)) (base_bytes base)) c.generation.ensures in
    ap (λ (t : List ℕ). through before (t ∷ [])) is
    ∙ through_one before (sealed before (base_bytes base)) (after before (base_bytes base)) (step_sealed before (base_bytes base))
    ∙ ap Some (sym leads)

pub returns-clause-sound : goal.returns-clause-sound
returns-clause-sound g c =
    let is = c.deref.ensures.value ∙ c.in_ok-made.ensures.text
    ∙ ap (λ n. sealed (start LAYOUT (n + 1)) (base_bytes c.args.base.now)) c.generation.ensures in
    rebase_sound g.D.Disk.state c.args.self.now c.rebase_text.new.self c.args.base.now c.deref.result.now
    c.requires.good is c.requires.sound c.rebase_text.ensures.any_moment c.rebase_text.ensures.sound
    c.rebase_text.result c.rebase_text.ensures.row

pub returns-clause-row : goal.returns-clause-row
returns-clause-row g c =
    let is = c.deref.ensures.value ∙ c.in_ok-made.ensures.text
    ∙ ap (λ n. sealed (start LAYOUT (n + 1)) (base_bytes c.args.base.now)) c.generation.ensures in
    rebase_row g.D.Disk.state c.args.self.now c.rebase_text.new.self c.args.base.now c.deref.result.now
    c.requires.good is c.requires.sound c.rebase_text.ensures.any_moment c.rebase_text.result
    c.rebase_text.ensures.row

pub returns-clause-any_moment : goal.returns-clause-any_moment
returns-clause-any_moment g c going =
    let is = c.deref.ensures.value ∙ c.in_ok-made.ensures.text
    ∙ ap (λ n. sealed (start LAYOUT (n + 1)) (base_bytes c.args.base.now)) c.generation.ensures in
    rebase_moments g.D.Disk.state c.args.self.now c.args.base.now c.deref.result.now c.requires.good
    is (c.requires.sound going).some (texts_of_now g.D.Disk.state c.args.self.now (c.requires.sound going)) c.rebase_text.new.self (c.rebase_text.ensures.any_moment going)
