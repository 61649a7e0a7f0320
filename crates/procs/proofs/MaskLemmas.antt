-- What is known of a bind without looking at it rules out no bind that is called.
use Rattle.std.proofs.Common.{◌≡◌, Bool, true, false, if◌then◌else◌, sym, ap, ◌∙◌}
use Rattle.rfccase.specs.Casemapping.{is_same}
use Rattle.wildmask.specs.Masks.{GivenMask, bind_mask, mask_items, is_match}
use Rattle.wildmask.specs.WideSignatures.{WidePairs, no_wide_pairs, wide_items_signature, wide_text_signature, is_wide_within}
use Rattle.wildmask.proofs.SignatureLemmas.{none_wide_within, wide_within}
use Rattle.wildmask.proofs.TestLemmas.{is_match-Decides}
use Rattle.procs.specs.declared.bind.Bind.{Bind}
use Rattle.procs.specs.declared.matcher.Matcher.TheVariants.{Wildcards}
use Rattle.procs.specs.Kinds.{is_single, is_cron}
use Rattle.procs.specs.Calls.{Occurrence, takes_event, takes_minute}
use Rattle.procs.specs.Masks.{Says, needs_of}

-- ---- what was read of a mask

-- what a mask needs is what its bind needs
pub needs-wildcards : (b : Bind) (mask : GivenMask) → Says b.kind b.mask (Wildcards mask) → wide_items_signature (mask_items mask) ≡ needs_of b
needs-wildcards b mask says =
    ap (λ (m : GivenMask). wide_items_signature (mask_items m)) says.2
    ∙ sym (ap (λ s. if s then no_wide_pairs else (if is_cron b.kind then no_wide_pairs else needs)) says.0 ∙ ap (λ c. if c then no_wide_pairs else needs) says.1)
  where
    needs : WidePairs
    needs = wide_items_signature (mask_items (bind_mask b.mask))

-- ---- what it matches

pub takes-keyword : (b : Bind) (event : Occurrence) → is_single b.kind ≡ true → is_same b.mask event.subject ≡ takes_event b event
takes-keyword b event single =
    sym (ap (λ s. if s then is_same b.mask event.subject
    else (if is_cron b.kind then takes_minute b.mask event.minute else is_match (bind_mask b.mask) event.subject)) single)

-- ---- what it needs

-- an event that a bind's mask takes has a subject with what the bind needs
pub takes_event-needs : (b : Bind) (event : Occurrence) → takes_event b event ≡ true → is_wide_within (needs_of b) (wide_text_signature event.subject) ≡ true
takes_event-needs b event = by (is_single b.kind) (is_cron b.kind)
  where
    nothing : is_wide_within no_wide_pairs (wide_text_signature event.subject) ≡ true
    nothing = none_wide_within (wide_text_signature event.subject)

    by : (single cron : Bool) → (if single then is_same b.mask event.subject
        else (if cron then takes_minute b.mask event.minute else is_match (bind_mask b.mask) event.subject)) ≡ true
        → is_wide_within (if single then no_wide_pairs else (if cron then no_wide_pairs else wide_items_signature (mask_items (bind_mask b.mask))))
        (wide_text_signature event.subject) ≡ true
    by true cron e = nothing
    by false true e = nothing
    by false false e =
        wide_within _ event.subject ((is_match-Decides (bind_mask b.mask) event.subject).0 e)
