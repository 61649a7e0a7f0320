-- An end that is opened shows what its journal means, also where that is put anew.
use Rattle.std.proofs.Common.{◌≡◌, ◌∙◌, inl, inr, ℕ, ◌+◌, Bool, true, false, nat_lt, List, [], refl, ap, arith, Some, if◌then◌else◌}
use Rattle.botjournal.specs.Contents.{meaning}
use Rattle.protocol.specs.Bots.{Works, journals, refused}
use Rattle.protocol.specs.Notes.Note.{Compacted}
use Rattle.protocol.specs.Notes.LinkFault.{Down, NumbersSpent}
use Rattle.protocol.specs.HubRules.{Hub, Rebase, version_of, hub_folded}
use Rattle.protocol.specs.LeafRules.{Leaf, Compact, leaf_folded}
use Rattle.protocol.specs.Numbers.{last_number}
use Rattle.sharelink.specs.declared.TheConstants.{MAX_LEAVES}
use Rattle.protocol.specs.Ends.{End, AtHub, AtLeaf, end_version, end_records}
use Rattle.sharelink.specs.StateOpening.{AreKept, Keeps}
use Rattle.sharelink.specs.BotLinks.{end_meaning, compacted, RenewsEnd}
use Rattle.recordtext.specs.Text.{shown_text}
use Rattle.control.specs.Showing.{IsShown}

-- the text of an end's version and records
abbrev pub text_of : ℕ → End → List ℕ
text_of number end = shown_text number (Some (end_version end)) (Some (end_records end))

-- a hub after a compaction, whether it is down, and whether there is a next generation
hub-text : (number : ℕ) (w : Hub) (down room : Bool)
    → text_of number (AtHub (if down then refused Down w
    else (if room then journals hub_folded Works w Rebase Compacted [] w.loose else refused NumbersSpent w)).after) ≡ text_of number (AtHub w)
hub-text number w true room = refl
hub-text number w false true =
    let same : version_of w.kept + 0 ≡ version_of w.kept = omega arith in
    ap (λ (version : ℕ). shown_text number (Some version) (Some w.kept.records)) same
hub-text number w false false = refl

leaf-text : (number : ℕ) (w : Leaf) (down room : Bool)
    → text_of number (AtLeaf (if down then refused Down w
    else (if room then journals leaf_folded Works w Compact Compacted [] w.loose else refused NumbersSpent w)).after) ≡ text_of number (AtLeaf w)
leaf-text number w true room = refl
leaf-text number w false true = refl
leaf-text number w false false = refl

-- an end shows the same after a compaction
compacted-text : (number leaves : ℕ) (end : End) → text_of number (compacted number leaves end) ≡ text_of number end
compacted-text number leaves (AtHub w) = hub-text number w w.down (nat_lt w.kept.generation last_number)
compacted-text number leaves (AtLeaf w) = leaf-text number w w.down (nat_lt w.kept.generation last_number)

pub is_shown : (number : ℕ) (first second text : List ℕ) (end : End)
    → AreKept (end_meaning number MAX_LEAVES) (RenewsEnd number MAX_LEAVES) (meaning first second) end
    → text ≡ text_of number end → IsShown first second text
is_shown number first second text end kept told = by kept.keeps
  where
    by : Keeps (end_meaning number MAX_LEAVES) (RenewsEnd number MAX_LEAVES) kept.contents kept.before end → IsShown first second text
    by (inl same) = record {
      number = number;
      contents = kept.contents;
      bot = kept.before;
      found = kept.found;
      means = kept.means;
      shown = told ∙ ap (text_of number) same.1;
    }
    by (inr anew) = record {
      number = number;
      contents = kept.contents;
      bot = kept.before;
      found = kept.found;
      means = kept.means;
      shown = told ∙ ap (text_of number) anew.1 ∙ compacted-text number MAX_LEAVES kept.before;
    }
