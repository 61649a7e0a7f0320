use Rattle.std.proofs.Common.{◌≡◌, Bool, true, not, ◌||◌, ◌==◌, is_some, Option, false, ◌∷◌, [], ◌++◌, length, sym, subst, ap}
use Rattle.script.specs.declared.reading.Script.{Script}
use Rattle.script.specs.declared.saying.Saying.TheVariants.{Zone}
use Rattle.script.specs.Outcomes.{so_far}
use Rattle.script.specs.Reading.{begins_script}
use Rattle.script.proofs.Sayings.{begun-late, zone_after-so_far}
use Rattle.script.proofs.reading.set_zone.Goals.{then-is_some-via-then-is_some, then-is_some-via-else-is_some+then-not-is_empty}
use Rattle.script.proofs.reading.set_zone.Goals as goal

pub returns-then-is_some : goal.returns-then-is_some
returns-then-is_some c =
    let begun = c.in-Some.begun in
    let late : (is_some begun.zone || not (length begun.commands == 0)) ≡ true =
    elim c.then-is_some.branch [
      | then-is_some-via-then-is_some w ↦ ap (λ (b : Bool). b || not (length begun.commands == 0)) (sym w.if-is_some.ensures)
      | then-is_some-via-else-is_some+then-not-is_empty w ↦ begun-late begun.zone begun.commands w.if-not-is_empty.ensures.1
    ] in
    subst (λ (s : Option Script). begins_script (so_far s ++ Zone c.args.zone ∷ []) ≡ false) (sym c.in-Some.is)
    (zone_after-so_far begun c.args.zone late)
