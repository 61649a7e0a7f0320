-- What holds of every table.
use Rattle.std.specs.Prelude.{◌≡◌, ℕ, ◌<◌, ◌≤◌, Bool, false, true, not, ◌&&◌, ◌||◌, List, [], ◌∷◌, length, is_none}
use Rattle.std.specs.List.{list_any, list_all}
use Rattle.std.specs.Str.{bytes_eq}
use Rattle.rfccase.specs.Casemapping.{is_same}
use Rattle.flagexpr.specs.Faults.{expression_fault}
use Rattle.procs.specs.declared.bind.Bind.{Bind}
use Rattle.procs.specs.declared.limits.TheConstants.{MAX_BINDS}
use Rattle.procs.specs.Kinds.{is_kind, is_single}
use Rattle.procs.specs.Tables.{Table, is_bad_mask, is_bad_cron}

-- each number is above those before it, and none is above the last
abbrev pub AreRising : ℕ → List Bind → ℕ → Type 0
AreRising above [] last = above ≤ last
AreRising above (b ∷ binds) last = (above < b.number) × AreRising b.number binds last

-- whether a table can't hold both binds: they have one kind and mask, and one proc too unless the kind is single
abbrev pub is_rival : Bind → Bind → Bool
is_rival a b = is_kind a.kind b.kind && (is_same a.mask b.mask && (is_single a.kind || bytes_eq a.proc b.proc))

abbrev pub AreApart : List Bind → Type 0
AreApart [] = Unit {0}
AreApart (b ∷ binds) = (list_any (is_rival b) binds ≡ false) × AreApart binds

-- whether `bind` could make a bind
abbrev pub is_good : Bind → Bool
is_good b = is_none (expression_fault b.flags) && not (is_bad_mask b.kind b.mask || is_bad_cron b.kind b.mask)

-- what holds of every table
pub record IsSound (table : Table) : Type 0 where
  pub rising : AreRising 0 table.binds table.last
  pub apart : AreApart table.binds
  pub good : list_all is_good table.binds ≡ true
  pub few : length table.binds ≤ MAX_BINDS
