-- The net as plain history: all that was ever accepted, replied, asked and sent. No bot holds it.
use Rattle.std.specs.Prelude.{◌≡◌, ℕ, zero, suc, ◌+◌, ◌≤◌, false, List, [], ◌∷◌, ◌++◌, length, None}
use Rattle.userfile.specs.Records.{Records}
use Rattle.userfile.specs.Versions.{records_at}
use Rattle.userfile.specs.declared.change.Change.{Change as UserChange}
use Rattle.botjournal.specs.declared.request.Request.{Request as OutRequest}
use Rattle.botjournal.specs.declared.reply.Verdict.{Verdict}
use Rattle.botjournal.specs.declared.reply.Verdict.TheVariants.{Taken, Refused as refused_request}
use Rattle.protocol.specs.Numbers.{set_at}
use Rattle.protocol.specs.Packets.{Sent, AcceptedChange}
use Rattle.protocol.specs.Bots.{Bot}
use Rattle.protocol.specs.HubRules.{HubRecord, Accept, Settle, Rebase}
use Rattle.protocol.specs.LeafRules.{LeafRecord, Apply, Out, Done, Install, Compact, LeafLoose, no_loose, without, with_request}

-- all accepted changes; for each leaf all answers to its requests, of which the answer to request r is the r-th; and
-- the floor
pub record PastHub : Type 0 where
  pub accepted : List AcceptedChange
  pub answers : ℕ → List Verdict
  pub floor : ℕ

-- a leaf's version; all changes that it gave a request number, of which that of request r is the r-th; and its
-- outstanding requests
pub record PastLeaf : Type 0 where
  pub version : ℕ
  pub asked : List UserChange
  pub out : List OutRequest

abbrev pub HubPast : Type 0
HubPast = Bot PastHub (List UserChange) HubRecord

abbrev pub LeafPast : Type 0
LeafPast = Bot PastLeaf LeafLoose LeafRecord

-- a moment of history
pub record History : Type 0 where
  pub count : ℕ
  pub hub : HubPast
  pub leaves : ℕ → LeafPast
  pub packets : List Sent

-- before the first step
abbrev pub start : ℕ → History
start count = record {
  count = count;
  hub = record { kept = record { accepted = []; answers = λ leaf. []; floor = 0 }; loose = []; down = false; doubt = None };
  leaves = λ leaf. record { kept = record { version = 0; asked = []; out = [] }; loose = no_loose; down = false; doubt = None };
  packets = [];
}

-- what each leaf asked for
abbrev pub asked_of : (ℕ → LeafPast) → ℕ → List UserChange
asked_of leaves leaf = (leaves leaf).kept.asked

abbrev pub changes_of : List AcceptedChange → List UserChange
changes_of [] = []
changes_of (entry ∷ entries) = entry.change ∷ changes_of entries

-- the records at a version: the result of that many accepted changes, from the first on
abbrev pub records_of : List AcceptedChange → ℕ → Records
records_of accepted version = records_at (changes_of accepted) version

-- ---- a record that is kept

-- one more answer to a leaf; the hub's own changes have none
abbrev pub with_answer : (ℕ → List Verdict) → ℕ → Verdict → ℕ → List Verdict
with_answer answers zero answer = answers
with_answer answers (suc place) answer = set_at answers (suc place) (answers (suc place) ++ answer ∷ [])

abbrev pub hub_grown : PastHub → HubRecord → PastHub
hub_grown hub (Accept entry) = record hub {
  accepted = hub.accepted ++ entry ∷ [];
  answers = with_answer hub.answers entry.origin (Taken (length hub.accepted + 1));
}
hub_grown hub (Settle leaf fault) = record hub { answers = with_answer hub.answers leaf (refused_request fault) }
hub_grown hub Rebase = record hub { floor = length hub.accepted }

abbrev pub leaf_grown : PastLeaf → LeafRecord → PastLeaf
leaf_grown leaf (Apply change) = record leaf { version = leaf.version + 1 }
leaf_grown leaf (Out change) =
    record leaf { asked = leaf.asked ++ change ∷ []; out = with_request (length leaf.asked + 1) change leaf.out }
leaf_grown leaf (Done request) = record leaf { out = without request leaf.out }
leaf_grown leaf (Install version records) = record leaf { version = version }
leaf_grown leaf Compact = leaf

-- ---- growth: no step takes anything back

-- a list that has this one as its front
abbrev pub Extends : {X : Type 0} → List X → List X → Type 0
Extends {X} old new = (more : List X) × (new ≡ old ++ more)

abbrev pub AllExtend : {X : Type 0} → (ℕ → List X) → (ℕ → List X) → Type 0
AllExtend old new = (leaf : ℕ) → Extends (old leaf) (new leaf)

pub record HubGrows (old new : PastHub) : Type 0 where
  pub accepted : Extends old.accepted new.accepted
  pub answers : AllExtend old.answers new.answers
  pub floor : old.floor ≤ new.floor

pub record LeafGrows (old new : PastLeaf) : Type 0 where
  pub version : old.version ≤ new.version
  pub asked : Extends old.asked new.asked

pub record Grows (old new : History) : Type 0 where
  pub hub : HubGrows old.hub.kept new.hub.kept
  pub leaves : (leaf : ℕ) → LeafGrows (old.leaves leaf).kept (new.leaves leaf).kept
  pub packets : Extends old.packets new.packets
