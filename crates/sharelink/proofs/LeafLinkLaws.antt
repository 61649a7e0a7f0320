-- How a call that journals a record stands to its row.
use Rattle.std.proofs.Common.{◌≡◌, inr, ℕ, List, Some, Result, Ok, Err, refl, sym, ap, subst, ◌∙◌}
use Rattle.bytetext.specs.declared.failure.Failure.{Failure}
use Rattle.bytetext.specs.declared.failure.Failure.TheVariants.{Refused, NoMemory}
use Rattle.protocol.specs.Notes.{Note, LinkFault as Fault}
use Rattle.protocol.specs.Packets.{Outgoing}
use Rattle.protocol.specs.Bots.{How, Works, Fails, Row, journals}
use Rattle.protocol.specs.LeafRules.{Leaf, LeafLoose, LeafRecord, leaf_folded}
use Rattle.sharelink.specs.declared.answer.Answer.{Answer}
use Rattle.sharelink.specs.declared.error.LinkFault.{LinkFault}
use Rattle.sharelink.specs.Calls.{note_of, outgoings_of}
use Rattle.sharelink.specs.Meets.{TakesMemory}
use Rattle.botjournal.specs.Ledger.{AtEachMoment}
use Rattle.sharelink.specs.StateEnds.{LeavesIfCalled}
use Rattle.protocol.specs.Journals.{leaf_meaning}
use Rattle.sharelink.specs.Kept.{Journals, LeavesOwn}
use Rattle.sharelink.specs.LeafLinks.{KeptLeaf, IsOwn, Calls, leaf_end}

module _ (leaves : ℕ) (old new : KeptLeaf) (before : LeafLoose) (row : How → Row Leaf) (entry : LeafRecord) (note : Note) (sends : List Outgoing)
    (loose : LeafLoose) (moments : LeavesOwn (leaf_meaning old.who) leaf_folded old.state (Some entry) old.device new.device) (is : (how : How) → row how ≡ journals leaf_folded how (leaf_end leaves old before).bot entry note sends loose) where
  at_each : LeavesIfCalled old.device new.device (IsOwn old.who (row Fails).after)
  at_each = inr (subst (λ (r : Row Leaf). AtEachMoment old.device new.device (IsOwn old.who r.after)) (sym (is Fails)) moments)

  -- the record is kept
  pub meets-kept : (answer : Answer) → Journals leaf_folded entry old (Ok tt) new → note_of answer.note ≡ note → outgoings_of answer.packets ≡ sends
      → Calls (leaf_end leaves old before) row (Ok answer) (leaf_end leaves new loose)
  meets-kept answer kept notes sent = record {
    row_of = record {
      told = ap (λ (r : Row Leaf). r.told) (is Works) ∙ ap (λ n. Ok n) (sym notes);
      sends = ap (λ (r : Row Leaf). r.sends) (is Works) ∙ sym sent;
      after = ap (λ (l : KeptLeaf). (leaf_end leaves l loose).bot) kept ∙ ap (λ (r : Row Leaf). r.after) (sym (is Works));
    };
    number = ap (λ (l : KeptLeaf). l.who) kept;
    leaves = refl;
    moments = at_each;
  }

  -- a disk failed, or memory ran out
  pub meets-error : (error : Failure LinkFault) → Journals leaf_folded entry old (Err error) new → TakesMemory row (Ok note)
      → Calls (leaf_end leaves old before) row (Err error) (leaf_end leaves new before)
  meets-error (Refused fault) fails takes = subst (λ (f : LinkFault). Calls (leaf_end leaves old before) row (Err (Refused f)) (leaf_end leaves new before))
      (sym fails.0) (record {
        row_of = (
          record {
            told = ap (λ (r : Row Leaf). r.told) (is Fails);
            sends = ap (λ (r : Row Leaf). r.sends) (is Fails);
            after = ap (λ (l : KeptLeaf). (leaf_end leaves l before).bot) fails.1 ∙ ap (λ (r : Row Leaf). r.after) (sym (is Fails));
          },
          fails.2,
        );
        number = ap (λ (l : KeptLeaf). l.who) fails.1;
        leaves = refl;
        moments = at_each;
      })
  meets-error NoMemory same takes = record {
    row_of = (
      subst (λ (r : Result Note Fault). TakesMemory row r) (ap (λ (r : Row Leaf). r.told) (sym (is Works))) takes,
      ap (λ (l : KeptLeaf). (leaf_end leaves l before).bot) same,
    );
    number = ap (λ (l : KeptLeaf). l.who) same;
    leaves = refl;
    moments = at_each;
  }
