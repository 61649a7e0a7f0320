use Rattle.std.proofs.Common.{◌≡◌, ◌≤◌, ◌⊎◌, ◌∙◌, ap, sym, filter, length, List, inl, inr}
use Rattle.bottimers.specs.declared.limits.TheConstants.{MAX_TIMERS, MAX_ID}
use Rattle.bottimers.specs.declared.entry.Entry.{Entry}
use Rattle.bottimers.specs.Occurrences.{is_kept}
use Rattle.bottimers.proofs.Adding.{add_full, add_free}
use Rattle.bottimers.proofs.timers.Timers.refusal_of.Goals.{then-kept-ge-MAX_TIMERS-via-then-kept-ge-MAX_TIMERS}
use Rattle.bottimers.proofs.timers.Timers.refusal_of.Goals.{then-kept-ge-MAX_TIMERS-via-else-kept-ge-MAX_TIMERS+then-self}
use Rattle.bottimers.proofs.timers.Timers.refusal_of.Goals as goal

pub returns-then-kept-ge-MAX_TIMERS-clause-refusal : goal.returns-then-kept-ge-MAX_TIMERS-clause-refusal
returns-then-kept-ge-MAX_TIMERS-clause-refusal c =
    let now = c.args.now in
    let count =
    c.count_kept-kept.ensures ∙ ap (λ (xs : List Entry). length (filter (λ e. is_kept now e.timer) xs)) c.as_slice.ensures.value in
    let full : (MAX_TIMERS ≤ c.count_kept-kept.result) ⊎ (c.self.inside.spent ≡ MAX_ID) =
    elim c.then-kept-ge-MAX_TIMERS.branch [
      | then-kept-ge-MAX_TIMERS-via-then-kept-ge-MAX_TIMERS w ↦ inl w.if-kept-ge-MAX_TIMERS.true
      | then-kept-ge-MAX_TIMERS-via-else-kept-ge-MAX_TIMERS+then-self w ↦ inr w.if-self.true
    ] in
    sym (add_full c.self.inside c.args.self.now c.self.view_is c.args.interval now _ count
    c.if-interval-eq0.false c.if-interval-gt-MAX_INTERVAL.false full)

pub returns-clause-refusal : goal.returns-clause-refusal
returns-clause-refusal c =
    let now = c.args.now in
    let count =
    c.count_kept-kept.ensures ∙ ap (λ (xs : List Entry). length (filter (λ e. is_kept now e.timer) xs)) c.as_slice.ensures.value in
    sym (add_free c.self.inside c.args.self.now c.self.view_is c.args.interval now _ count
    c.if-interval-eq0.false c.if-interval-gt-MAX_INTERVAL.false c.if-kept-ge-MAX_TIMERS.false c.if-self.false)
