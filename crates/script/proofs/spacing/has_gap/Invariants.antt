use Rattle.std.proofs.Common.{◌≡◌, map, drop}
use Rattle.std.specs.List.{list_any}
use Rattle.recordtext.specs.Words.{is_empty}
use Rattle.script.proofs.spacing.has_gap.Given as goal

-- none of the words so far is empty
abbrev pub invariant-loop-word : goal.invariant-loop-word
invariant-loop-word l =
    list_any is_empty (map (λ word. word.now) (drop l.word-index l.words)) ≡ list_any is_empty (map (λ word. word.now) l.words)
