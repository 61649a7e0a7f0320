-- An end of the link as contracts see it, and how its calls match the protocol's.
use Rattle.std.specs.Prelude.{◌≡◌, ◌⊎◌, ℕ, false, List, Option, None, Result}
use Rattle.bytetext.specs.declared.failure.Failure.{Failure}
use Rattle.disks.specs.State.{State}
use Rattle.bytejournal.specs.declared.opening.Returned.{Returned}
use Rattle.botjournal.specs.Contents.{Contents}
use Rattle.botjournal.specs.Ledger.{Device, Reopens, AtEachMoment}
use Rattle.protocol.specs.Bots.{How, Fails, Row, Bot}
use Rattle.sharelink.specs.declared.answer.Answer.{Answer}
use Rattle.sharelink.specs.declared.error.LinkFault.{LinkFault}
use Rattle.sharelink.specs.Meets.{Meets, Restarts}
use Rattle.sharelink.specs.Kept.{Kept}
use Rattle.sharelink.specs.StateOpening.{Makes, Finds, FindsAtEachMoment}

-- an end: its number, which is 0 at the hub, in a net of `leaves` leaves; the protocol's bot; and its two disks
pub record End (B : Type 0) : Type 0 where
  pub number : ℕ
  pub leaves : ℕ
  pub bot : B
  pub device : Device

-- what is kept, with what a restart loses
abbrev pub end_of : {S L R : Type 0} → ℕ → ℕ → Kept S R → L → End (Bot S L R)
end_of number leaves kept loose = record {
  number = number;
  leaves = leaves;
  bot = record { kept = kept.state; loose = loose; down = kept.down; doubt = kept.doubt };
  device = kept.device;
}

-- no disk was called; or a crash at any moment of the call leaves bytes that have `P`
abbrev pub LeavesIfCalled : Device → Device → (List ℕ → List ℕ → Type 0) → Type 0
LeavesIfCalled before now P = (now ≡ before) ⊎ AtEachMoment before now P

-- A call meets its row, and the end keeps its identity. If it calls a disk, a crash at any moment of the call leaves
-- what belongs to the bot that the row leaves when the device fails: `own` says which bytes of two disks belong to a
-- bot.
pub record Calls {B : Type 0} (own : B → List ℕ → List ℕ → Type 0) (old : End B) (row : How → Row B)
    (result : Result Answer (Failure LinkFault)) (new : End B) : Type 0 where
  pub row_of : Meets row old.bot old.device result new.bot new.device
  pub number : new.number ≡ old.number
  pub leaves : new.leaves ≡ old.leaves
  pub moments : LeavesIfCalled old.device new.device (own (row Fails).after)

-- the same for a restart, which reopens both disks, whatever its result
pub record CallsRestart {B : Type 0} (own : B → List ℕ → List ℕ → Type 0) (old : End B) (row : How → Row B)
    (result : Result Answer (Failure LinkFault)) (new : End B) : Type 0 where
  pub row_of : Restarts row old.device result new.bot new.device
  pub reopened : Reopens old.device new.device
  pub moments : AtEachMoment old.device new.device (own old.bot)
  pub number : new.number ≡ old.number
  pub leaves : new.leaves ≡ old.leaves

-- ---- creating and finding an end

-- an end that takes records, and has nothing in doubt
abbrev pub resting : {S L R : Type 0} → ℕ → ℕ → L → S → Device → End (Bot S L R)
resting number leaves loose kept device = record {
  number = number;
  leaves = leaves;
  bot = record { kept = kept; loose = loose; down = false; doubt = None };
  device = device;
}

module _ {D S L R : Type 0} (disk : D → State) (first second : D) (number leaves : ℕ) (loose : L) where
  -- Creating an end that keeps this state, and nothing that a restart loses.
  abbrev pub Creates : S → Result (End (Bot S L R)) (Returned D) → Type 0
  Creates start result = Makes disk first second (λ end. end.device) (resting number leaves loose) start result

  -- Finding an end: what its journal's contents mean, and how they are rewritten if they have an older layout.
  abbrev pub Opens : (Contents → Option S) → (S → S → Type 0) → Result (End (Bot S L R)) (Returned D) → Type 0
  Opens state_of Renews result =
      Finds disk first second (λ end. end.device) (resting number leaves loose) state_of Renews (λ end. end.bot.kept) result

-- At each moment of finding an end a crash leaves what the disks mean, or that rewritten.
abbrev pub OpensAtEachMoment : {D S L R : Type 0} → (D → State) → D → D → (Contents → Option S) → (S → S → Type 0)
    → Result (End (Bot S L R)) (Returned D) → Type 0
OpensAtEachMoment disk first second state_of Renews result =
    FindsAtEachMoment disk first second (λ end. end.device) state_of Renews result
