use Rattle.std.proofs.Common.{rules, arith, ◌≡◌, ◌≢◌, ◌<◌, ◌-◌, ◌^◌, ◌∙◌, ℕ, nat_lt, true, List, Some, None, Ok, Err, sym, ap, subst}
use Rattle.std.proofs.lemmas.Bool.{lt-ltb}
use Rattle.userfile.specs.Records.{Records}
use Rattle.usercodec.specs.declared.records.Record.{Record}
use Rattle.sharelink.specs.Calls.{note_of}
use Rattle.sharelink.specs.declared.answer.Answer.{Answer}
use Rattle.protocol.specs.Numbers.{last_number}
use Rattle.protocol.specs.Snapshots.{records_from, joined, set_for, with_part}
use Rattle.protocol.specs.Journals.{leaf_meaning}
use Rattle.protocol.specs.LeafRules.{LeafState, LeafRecord, LeafLoose, Install, leaf_folded}
use Rattle.sharelink.specs.Kept.{Journals, LeavesOwn}
use Rattle.sharelink.specs.LeafLinks.{Calls}
use Rattle.sharelink.specs.Parts.{left}
use Rattle.sharelink.specs.LeafLinks.{LeafEnd, leaf_end, part_taken_at}
use Rattle.sharelink.proofs.InstallLaws.{installs, installs-none}
use Rattle.sharelink.proofs.leaf_link.LeafLink.take_part.Goals as goal

-- a generation that is not the last one has one after it
below-last : (kept seen : ℕ) → seen ≡ kept → seen < 2 ^ 32 → seen ≢ 2 ^ 32 - 1 → nat_lt kept last_number ≡ true
below-last kept seen same fits other = lt-ltb kept last_number (omega (arith, same, fits, other))

pub returns-in-Ok-clause-row : goal.returns-in-Ok-clause-row
returns-in-Ok-clause-row g c =
    let a = c.args in
    let inside = c.self.inside in
    let before : LeafLoose = record { waiting = inside.waiting.items; parts = inside.parts } in
    let all : List Record = left c.in-Some.whole in
    let fits : c.generation.result < 2 ^ 32 = search rules in
    let numbered : nat_lt inside.kept.state.generation last_number ≡ true =
    below-last inside.kept.state.generation c.generation.result (c.generation.ensures ∙ ap (λ (l : LeafState). l.generation) c.state.ensures) fits
    c.if-generation.false in
    let entry : c.install-records.result ≡ Install a.version (records_from all) =
    c.install-records.ensures ∙ ap (λ (r : Records). Install a.version r) c.in_ok-userfile.ensures in
    subst (λ (e : LeafEnd). Calls e (part_taken_at e a.version a.part a.count a.records.now) (Ok c.only-in-Ok.result)
    (leaf_end inside.leaves c.journal.new.self (record before { parts = None }))) c.self.view_is
    (installs inside.leaves inside.kept c.journal.new.self before a.version a.part a.count a.records.now all
    (subst (λ (l : List Record). joined (with_part (set_for inside.parts a.version a.count) a.part l).parts ≡ Some all) c.as_slice.ensures
    c.in-Some.ensures.whole)
    (sym c.stand_together.ensures ∙ c.if-not-stand_together.false) numbered c.only-in-Ok.result
    (subst (λ (r : LeafRecord). LeavesOwn (leaf_meaning inside.kept.who) leaf_folded inside.kept.state (Some r) inside.kept.device
    c.journal.new.self.device) entry c.journal.ensures.any_moment)
    (subst (λ (r : LeafRecord). Journals leaf_folded r inside.kept (Ok tt) c.journal.new.self) entry c.in-Ok.ensures.row)
    (ap (λ (answer : Answer). note_of answer.note) c.only-in-Ok.ensures) (ap (λ (answer : Answer). answer.packets) c.only-in-Ok.ensures))

pub returns-in-Err-clause-row : goal.returns-in-Err-clause-row
returns-in-Err-clause-row g c =
    let a = c.args in
    let inside = c.self.inside in
    let before : LeafLoose = record { waiting = inside.waiting.items; parts = inside.parts } in
    let all : List Record = left c.in-Some.whole in
    let fits : c.generation.result < 2 ^ 32 = search rules in
    let numbered : nat_lt inside.kept.state.generation last_number ≡ true =
    below-last inside.kept.state.generation c.generation.result (c.generation.ensures ∙ ap (λ (l : LeafState). l.generation) c.state.ensures) fits
    c.if-generation.false in
    let entry : c.install-records.result ≡ Install a.version (records_from all) =
    c.install-records.ensures ∙ ap (λ (r : Records). Install a.version r) c.in_ok-userfile.ensures in
    subst (λ (e : LeafEnd). Calls e (part_taken_at e a.version a.part a.count a.records.now) (Err c.in-Err.error)
    (leaf_end inside.leaves c.journal.new.self before)) c.self.view_is
    (installs-none inside.leaves inside.kept c.journal.new.self before a.version a.part a.count a.records.now all
    (subst (λ (l : List Record). joined (with_part (set_for inside.parts a.version a.count) a.part l).parts ≡ Some all) c.as_slice.ensures
    c.in-Some.ensures.whole)
    (sym c.stand_together.ensures ∙ c.if-not-stand_together.false) numbered c.in-Err.error
    (subst (λ (r : LeafRecord). LeavesOwn (leaf_meaning inside.kept.who) leaf_folded inside.kept.state (Some r) inside.kept.device
    c.journal.new.self.device) entry c.journal.ensures.any_moment)
    (subst (λ (r : LeafRecord). Journals leaf_folded r inside.kept (Err c.in-Err.error) c.journal.new.self) entry c.in-Err.ensures.row))
