use Rattle.std.proofs.Common.{◌≡◌, ◌≤◌, ◌+◌, length}
use Rattle.wildmask.specs.Items.{items_of, literals_of}
use Rattle.wildmask.specs.Signatures.{either, every, items_signature}
use Rattle.wildmask.proofs.PatternLemmas.{counted_from}
use Rattle.wildmask.proofs.SignatureLemmas.{pairs_after}
use Rattle.wildmask.proofs.needs.needs_of.Given as goal

-- what was told so far and what is left are all
abbrev pub invariant-loop-item : goal.invariant-loop-item
invariant-loop-item l =
    record {
      room : l.literals + length l.rest ≤ 120;
      literals : counted_from l.literals (items_of l.kind l.rest) ≡ literals_of l.kind l.text;
      pairs : either l.pairs (pairs_after every l.before (items_of l.kind l.rest)) ≡ items_signature (items_of l.kind l.text);
    }

abbrev pub decreases-loop-item : goal.decreases-loop-item
decreases-loop-item l = length l.rest
