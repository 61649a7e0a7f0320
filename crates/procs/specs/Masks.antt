-- What is kept beside a bind: its parsed mask, and what can be said of it without looking at it.
use Rattle.std.specs.Prelude.{◌≡◌, ℕ, true, false, if◌then◌else◌, List}
use Rattle.rfccase.specs.Casemapping.{folded}
use Rattle.wildmask.specs.Masks.{bind_mask, mask_items}
use Rattle.wildmask.specs.WideSignatures.{WidePairs, no_wide_pairs, wide_items_signature}
use Rattle.bottimers.specs.declared.calendar.CivilMinute.{CivilMinute}
use Rattle.bottimers.specs.CronSets.{sets_match}
use Rattle.bottimers.specs.CronMask.{mask_matches}
use Rattle.procs.specs.declared.bind_kind.BindKind.{BindKind}
use Rattle.procs.specs.declared.bind.Bind.{Bind}
use Rattle.procs.specs.declared.index.IndexEntry.{IndexEntry}
use Rattle.procs.specs.declared.matcher.Matcher.{Matcher}
use Rattle.procs.specs.declared.matcher.Matcher.TheVariants.{Keyword, Minutes, Wildcards}
use Rattle.procs.specs.Kinds.{is_single, is_cron}

-- a parsed mask says what the mask does
abbrev pub Says : BindKind → List ℕ → Matcher → Type 0
Says kind text Keyword = is_single kind ≡ true
Says kind text (Minutes sets) =
    (is_single kind ≡ false) × (is_cron kind ≡ true) × ((at : CivilMinute) → sets_match sets at ≡ mask_matches text at)
Says kind text (Wildcards mask) = (is_single kind ≡ false) × (is_cron kind ≡ false) × (mask ≡ bind_mask text)

-- the pairs of bytes that a subject needs to match; keywords are looked up, and cron fields need none
abbrev pub needs_of : Bind → WidePairs
needs_of b =
    if is_single b.kind then no_wide_pairs else (if is_cron b.kind then no_wide_pairs else wide_items_signature (mask_items (bind_mask b.mask)))

abbrev pub entry_of : Bind → IndexEntry
entry_of b = record { number = b.number; needs = needs_of b }

-- the key under which a keyword is found
abbrev pub key_of : Bind → List ℕ
key_of b = folded b.mask
