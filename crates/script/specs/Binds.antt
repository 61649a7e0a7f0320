-- The binds that a script makes and removes.
use Rattle.std.specs.Prelude.{ℕ, ◌||◌, List, [], ◌∷◌, Option, None, Some, if◌then◌else◌}
use Rattle.procs.specs.declared.bind_kind.BindKind.{BindKind}
use Rattle.botcore.specs.declared.event.NewBind.{NewBind}
use Rattle.botcore.specs.declared.event.OldBind.{OldBind}
use Rattle.recordtext.specs.Words.{is_empty, rest_of}

-- a bind, given its parts; none if a part is missing
abbrev pub new_bind_by : Option BindKind → List ℕ → List ℕ → Option (List ℕ) → Option NewBind
new_bind_by (Some kind) flags proc (Some mask) =
    if is_empty flags || is_empty proc then None else Some (record { kind = kind; flags = flags; mask = mask; proc = proc })
new_bind_by (Some kind) flags proc None = None
new_bind_by None flags proc mask = None

-- FLAGS PROC MASK..: the mask takes the rest of the line
abbrev pub new_bind_of : Option BindKind → List (List ℕ) → Option NewBind
new_bind_of kind (flags ∷ proc ∷ mask ∷ words) = new_bind_by kind flags proc (rest_of (mask ∷ words))
new_bind_of kind (flags ∷ proc ∷ []) = None
new_bind_of kind (flags ∷ []) = None
new_bind_of kind [] = None

-- a bind to remove, which is found by its kind, mask and proc; none if a part is missing
abbrev pub old_bind_by : Option BindKind → List ℕ → Option (List ℕ) → Option OldBind
old_bind_by (Some kind) proc (Some mask) = if is_empty proc then None else Some (record { kind = kind; mask = mask; proc = proc })
old_bind_by (Some kind) proc None = None
old_bind_by None proc mask = None

-- PROC MASK..: the mask takes the rest of the line
abbrev pub old_bind_of : Option BindKind → List (List ℕ) → Option OldBind
old_bind_of kind (proc ∷ mask ∷ words) = old_bind_by kind proc (rest_of (mask ∷ words))
old_bind_of kind (proc ∷ []) = None
old_bind_of kind [] = None
