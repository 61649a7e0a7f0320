use Rattle.std.proofs.Common.{◌∙◌, ap, sym, subst, List}
use Rattle.std.specs.List.{list_any}
use Rattle.bottimers.specs.declared.entry.Entry.{Entry}
use Rattle.bottimers.specs.Occurrences.{is_due}
use Rattle.bottimers.specs.Held.{Held, IsAbove}
use Rattle.bottimers.proofs.EntryLists.{running_above, list_any-map}
use Rattle.bottimers.proofs.timers.Timers.is_due.Goals as goal

pub is_any_due-requires : goal.is_any_due-requires
is_any_due-requires c =
    let above = subst (λ h. IsAbove h.last c.args.second) (sym c.self.view_is) c.requires in
    rw (c.as_slice.ensures.value, c.unwrap_or.ensures)
    (running_above c.self.inside.last c.args.second c.self.inside.entries.items above c.self.invariant.running)

pub returns : goal.returns
returns c =
    let second = c.args.second in
    let inside = c.self.inside in
    c.is_any_due.ensures
    ∙ ap (λ (es : List Entry). list_any (λ e. is_due second e.timer) es) c.as_slice.ensures.value
    ∙ sym (list_any-map (is_due second) (λ (e : Entry). e.timer) inside.entries.items)
    ∙ ap (λ (h : Held). list_any (is_due second) h.timers) c.self.view_is
