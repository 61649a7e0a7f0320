use Rattle.std.proofs.Common.{◌≡◌, ◌∙◌, ap, sym, subst, map, List, None, position, refl, ℕ}
use Rattle.std.specs.List.{list_any}
use Rattle.std.proofs.lemmas.Bool.{false≢true}
use Rattle.bytetext.proofs.Lists.{list_any-no_position}
use Rattle.bottimers.specs.declared.timer.Timer.{Timer}
use Rattle.bottimers.specs.declared.entry.Entry.{Entry}
use Rattle.bottimers.specs.declared.timers.Timers.TheInside.{Inside}
use Rattle.bottimers.specs.Held.{Held, is_named, holds_named, without_named}
use Rattle.bottimers.specs.Countdown.{held, held_of}
use Rattle.bottimers.proofs.EntryLists.{list_any-map}
use Rattle.bottimers.proofs.Places.{list_any-Some, remove-position, remove_key-map}
use Rattle.bottimers.proofs.timers.Timers.kill_named.Goals as goal

holds_named_is : (inside : Inside) (h : Held) (proc text : List ℕ) → held inside ≡ h
    → holds_named h proc text ≡ list_any (λ e. is_named proc text e.timer) inside.entries.items
holds_named_is inside h proc text view =
    subst (λ g. holds_named g proc text ≡ list_any (λ e. is_named proc text e.timer) inside.entries.items) view
    (list_any-map (is_named proc text) (λ (e : Entry). e.timer) inside.entries.items)

pub returns-in_default-clause-held : goal.returns-in_default-clause-held
returns-in_default-clause-held c =
    let named = λ (e : Entry). is_named c.args.proc.now c.args.text.now e.timer in
    let entries = c.self.inside.entries.items in
    let nowhere : position named entries ≡ None =
    ap (position named) (sym c.as_slice.ensures.value) ∙ sym c.place_named.ensures ∙ c.in_default.is in
    let is = holds_named_is c.self.inside c.args.self.now c.args.proc.now c.args.text.now c.self.view_is in
    let none = is ∙ list_any-no_position named entries nowhere in
    (λ e. absurd (false≢true e), λ h. sym none ∙ h)

pub returns-clause-held : goal.returns-clause-held
returns-clause-held c =
    let named = λ (e : Entry). is_named c.args.proc.now c.args.text.now e.timer in
    let entries = c.self.inside.entries.items in
    let at = ap (position named) (sym c.as_slice.ensures.value) ∙ sym c.in-Some.ensures in
    let is = holds_named_is c.self.inside c.args.self.now c.args.proc.now c.args.text.now c.self.view_is in
    (λ _. is ∙ list_any-Some named entries c.in-Some.place c.remove-gone.result at, λ _. refl)

pub returns-clause-killed : goal.returns-clause-killed
returns-clause-killed c =
    let proc = c.args.proc.now in
    let text = c.args.text.now in
    let named = λ (e : Entry). is_named proc text e.timer in
    let inside = c.self.inside in
    let at = ap (position named) (sym c.as_slice.ensures.value) ∙ sym c.in-Some.ensures in
    let left = c.remove-gone.ensures.items ∙ remove-position named inside.entries.items c.in-Some.place c.remove-gone.result at in
    let timers = map (λ (e : Entry). e.timer) c.remove-gone.new.self.items in
    subst (λ h. held_of timers inside.last inside.spent inside.room ≡ without_named h proc text) c.self.view_is
    (ap (λ (ts : List Timer). held_of ts inside.last inside.spent inside.room)
    (ap (map (λ (e : Entry). e.timer)) left ∙ sym (remove_key-map (is_named proc text) (λ (e : Entry). e.timer) inside.entries.items)))
