use Rattle.std.proofs.Common.{◌≡◌, ◌∙◌, ◌++◌, ap, sym, subst, List, ℕ, is_ok}
use Rattle.std.proofs.lemmas.Bool.{false≢true}
use Rattle.bottimers.specs.declared.timer.TimerKind.TheVariants.{Minutes, Seconds}
use Rattle.bottimers.specs.declared.entry.Entry.{Entry}
use Rattle.bottimers.specs.declared.timers.Timers.TheInside.{Inside}
use Rattle.bottimers.specs.Held.{Held, IsAbove, calls_at}
use Rattle.bottimers.specs.Countdown.{due_calls, held}
use Rattle.bottimers.proofs.Laws.{is_due-law}
use Rattle.bottimers.proofs.EntryLists.{running_above, due_calls-is, nothing_in_both}
use Rattle.bottimers.proofs.timers.Timers.due.Goals as goal

-- the calls of both kinds, seen from outside
both_calls : (inside : Inside) (h : Held) (t : ℕ) → held inside ≡ h
    → due_calls Seconds t inside.entries.items ++ due_calls Minutes t inside.entries.items ≡ calls_at t h
both_calls inside h t view =
    subst (λ g. due_calls Seconds t inside.entries.items ++ due_calls Minutes t inside.entries.items ≡ calls_at t g) view
    (let seconds = due_calls-is Seconds t inside.entries.items in
    let minutes = due_calls-is Minutes t inside.entries.items in
    cc)

pub due_of-requires : goal.due_of-requires
due_of-requires c =
    let above = subst (λ h. IsAbove h.last c.args.second) (sym c.self.view_is) c.requires in
    rw (c.as_slice.ensures.value, c.unwrap_or-since.ensures)
    (running_above c.self.inside.last c.args.second c.self.inside.entries.items above c.self.invariant.running)

pub returns-in_err-calls-clause-occurrences : goal.returns-in_err-calls-clause-occurrences
returns-in_err-calls-clause-occurrences c = is_due-law c.args.second

pub returns-in_err-calls-clause-needs_none : goal.returns-in_err-calls-clause-needs_none
returns-in_err-calls-clause-needs_none c = λ none.
    let second = c.args.second in
    let entries = c.self.inside.entries.items in
    let nothing = both_calls c.self.inside c.args.self.now second c.self.view_is ∙ none in
    let both = nothing_in_both (due_calls Seconds second entries) (due_calls Minutes second entries) nothing in
    let seconds = ap (due_calls Seconds second) c.as_slice.ensures.value ∙ both.0 in
    let minutes = ap (due_calls Minutes second) c.as_slice.ensures.value ∙ both.1 in
    absurd (false≢true (ap is_ok (sym c.in_err-calls.was) ∙ c.due_of.ensures.needs_none seconds minutes))

pub returns-clause-calls : goal.returns-clause-calls
returns-clause-calls c =
    let second = c.args.second in
    c.in_ok-calls.ensures.calls
    ∙ ap (λ (xs : List Entry). due_calls Seconds second xs ++ due_calls Minutes second xs) c.as_slice.ensures.value
    ∙ both_calls c.self.inside c.args.self.now second c.self.view_is

pub returns-clause-occurrences : goal.returns-clause-occurrences
returns-clause-occurrences c = is_due-law c.args.second
