use Rattle.std.proofs.Common.{◌≡◌, false, rules, Option, None, Some, is_some, true, ◌++◌, ◌∷◌, [], ℕ}
use Rattle.script.specs.declared.saying.Saying.TheVariants.{Leaves}
use Rattle.script.specs.declared.reading.Script.{Script}
use Rattle.script.specs.Reading.{begins_script}
use Rattle.script.specs.Outcomes.{so_far}
use Rattle.script.proofs.Sayings.{leaves_after-so_far}
use Rattle.script.proofs.reading.set_leaves.Goals as goal

-- where a script is begun, a second number of leaves breaks a rule
second : (script : Option Script) (n : ℕ) → is_some script ≡ true → begins_script (so_far script ++ Leaves n ∷ []) ≡ false
second None n h = cc
second (Some script) n h = leaves_after-so_far script n

pub returns-then-is_some : goal.returns-then-is_some
returns-then-is_some c = second c.args.script.now c.args.leaves (search rules)
