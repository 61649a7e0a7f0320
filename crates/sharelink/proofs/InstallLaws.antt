-- How the part that was the last one missing stands to its row, where the records of all parts stand together.
use Rattle.std.proofs.Common.{◌≡◌, ℕ, true, nat_lt, List, [], if◌then◌else◌, Option, None, Some, is_none, Ok, Err, refl, ap, ◌∙◌}
use Rattle.bytetext.specs.declared.failure.Failure.{Failure}
use Rattle.userfile.specs.Together.{records_fault}
use Rattle.userfile.specs.declared.error.ChangeFault.{ChangeFault}
use Rattle.usercodec.specs.declared.records.Record.{Record}
use Rattle.protocol.specs.Numbers.{last_number}
use Rattle.protocol.specs.Notes.Note.{Installed}
use Rattle.protocol.specs.Notes.LinkFault.{NumbersSpent}
use Rattle.protocol.specs.Bots.{How, Row, refused, journals}
use Rattle.protocol.specs.Snapshots.{PartSet, records_from, joined, set_for, with_part}
use Rattle.protocol.specs.Journals.{stand_together, leaf_meaning}
use Rattle.protocol.specs.LeafRules.{Leaf, LeafLoose, Install, leaf_folded, installed, set_taken}
use Rattle.protocol.proofs.Snapshots.{set_for-version}
use Rattle.sharelink.specs.declared.answer.Answer.{Answer}
use Rattle.sharelink.specs.declared.error.LinkFault.{LinkFault}
use Rattle.sharelink.specs.Calls.{note_of, outgoings_of}
use Rattle.sharelink.specs.Kept.{Journals, LeavesOwn}
use Rattle.sharelink.specs.LeafLinks.{LeafEnd, KeptLeaf, Calls, leaf_end, part_taken_at}
use Rattle.sharelink.proofs.LeafLinkLaws.{meets-kept, meets-error}

together-none : (fault : Option ChangeFault) → is_none fault ≡ true → fault ≡ None
together-none None is = refl
together-none (Some fault) is = absurd (cc)

module _ (leaves : ℕ) (old new : KeptLeaf) (before : LeafLoose) (version part count : ℕ) (items all : List Record)
    (whole : joined (with_part (set_for before.parts version count) part items).parts ≡ Some all)
    (together : stand_together (records_from all) ≡ true) (numbered : nat_lt old.state.generation last_number ≡ true) where
  abbrev end : LeafEnd
  end = leaf_end leaves old before

  abbrev row : How → Row Leaf
  row = part_taken_at end version part count items

  abbrev set : PartSet
  set = with_part (set_for before.parts version count) part items

  row-is : (how : How)
      → row how ≡ journals leaf_folded how end.bot (Install version (records_from all)) (Installed version) [] (record before { parts = None })
  row-is how =
      ap (set_taken leaves old.who how end.bot part set) whole
      ∙ ap (λ v. installed leaves old.who how end.bot v (records_from all) (records_fault (records_from all).users (records_from all).bans))
      (set_for-version before.parts version count)
      ∙ ap (installed leaves old.who how end.bot version (records_from all))
      (together-none (records_fault (records_from all).users (records_from all).bans) together)
      ∙ ap (λ b. if b
      then journals leaf_folded how end.bot (Install version (records_from all)) (Installed version) [] (record before { parts = None })
      else refused NumbersSpent end.bot) numbered

  -- the records are kept
  pub installs : (answer : Answer) → LeavesOwn (leaf_meaning old.who) leaf_folded old.state (Some (Install version (records_from all))) old.device new.device
      → Journals leaf_folded (Install version (records_from all)) old (Ok tt) new → note_of answer.note ≡ Installed version
      → answer.packets ≡ [] → Calls end row (Ok answer) (leaf_end leaves new (record before { parts = None }))
  installs answer moments kept notes silent =
      meets-kept leaves old new before row (Install version (records_from all)) (Installed version) [] (record before { parts = None }) moments row-is answer
      kept notes (ap outgoings_of silent)

  -- a disk failed, or memory ran out
  pub installs-none : (error : Failure LinkFault) → LeavesOwn (leaf_meaning old.who) leaf_folded old.state (Some (Install version (records_from all))) old.device new.device
      → Journals leaf_folded (Install version (records_from all)) old (Err error) new
      → Calls end row (Err error) (leaf_end leaves new before)
  installs-none error moments fails =
      meets-error leaves old new before row (Install version (records_from all)) (Installed version) [] (record before { parts = None }) moments row-is error
      fails tt
