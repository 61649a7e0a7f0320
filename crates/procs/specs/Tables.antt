-- The binds of a table, and what `bind` and `unbind` do to them.
use Rattle.std.specs.Prelude.{◌≡◌, ℕ, ◌+◌, ◌==◌, nat_lt, nat_le, Bool, not, ◌&&◌, ◌||◌, if◌then◌else◌}
use Rattle.std.specs.Prelude.{List, [], ◌∷◌, ◌++◌, length, map, filter, find, count_by, Option, Some, None, is_some, Result, Ok, Err, codes}
use Rattle.std.specs.List.{list_any}
use Rattle.std.specs.Option.{option_map}
use Rattle.std.specs.Str.{bytes_eq}
use Rattle.bytetext.specs.declared.failure.Failure.{Failure}
use Rattle.bytetext.specs.declared.failure.Failure.TheVariants.{Refused, NoMemory}
use Rattle.rfccase.specs.Casemapping.{is_same}
use Rattle.flagexpr.specs.Faults.{expression_fault}
use Rattle.bottimers.specs.CronMask.{is_mask}
use Rattle.procs.specs.declared.bind_kind.BindKind.{BindKind}
use Rattle.procs.specs.declared.bind.Bind.{Bind}
use Rattle.procs.specs.declared.bind_fault.BindFault.{BindFault}
use Rattle.procs.specs.declared.bind_fault.BindFault.TheVariants.{BadFlags, BadMask, BadCron, Full, NoSuchBind}
use Rattle.procs.specs.declared.limits.TheConstants.{MAX_BINDS, MAX_MASK, MAX_NUMBER}
use Rattle.procs.specs.Kinds.{is_kind, is_single, is_cron}

-- the binds, oldest first, and the last number given
pub record Table : Type 0 where
  pub binds : List Bind
  pub last : ℕ

abbrev pub no_binds : Table
no_binds = record { binds = []; last = 0 }

-- the arguments of `bind`
pub record Asked : Type 0 where
  pub kind : BindKind
  pub flags : List ℕ
  pub mask : List ℕ
  pub proc : List ℕ

-- ---- which binds a call means

-- the bind of this kind, of this mask by casemapping, and of this proc byte for byte
abbrev pub is_such : BindKind → List ℕ → List ℕ → Bind → Bool
is_such kind mask proc b = is_kind kind b.kind && (is_same mask b.mask && bytes_eq b.proc proc)

-- the bind that a bind of a single kind replaces: the bind of its kind with an equal keyword
abbrev pub is_replaced : BindKind → List ℕ → Bind → Bool
is_replaced kind mask b = is_single kind && (is_kind kind b.kind && is_same mask b.mask)

-- the binds before a new one, without the one that it replaces
abbrev pub without_replaced : BindKind → List ℕ → List Bind → List Bind
without_replaced kind mask binds = filter (λ b. not (is_replaced kind mask b)) binds

abbrev pub without_such : BindKind → List ℕ → List ℕ → List Bind → List Bind
without_such kind mask proc binds = filter (λ b. not (is_such kind mask proc b)) binds

-- ---- why `bind` refuses

-- a mask has 1 to 120 bytes, and that of a single kind is one word
abbrev pub is_bad_mask : BindKind → List ℕ → Bool
is_bad_mask kind mask = length mask == 0 || nat_lt MAX_MASK (length mask) || (is_single kind && list_any (λ byte. byte == 32) mask)

-- whether the kind takes cron fields and the mask is not cron fields
abbrev pub is_bad_cron : BindKind → List ℕ → Bool
is_bad_cron kind mask = is_cron kind && not (is_mask mask)

-- how many binds remain beside a new one of this kind and mask
abbrev pub count_left : BindKind → List ℕ → List Bind → ℕ
count_left kind mask binds = count_by (λ b. not (is_replaced kind mask b)) binds

-- whether no number or no room is left for one more
abbrev pub is_full : Table → BindKind → List ℕ → Bool
is_full table kind mask = nat_le MAX_NUMBER table.last || nat_le MAX_BINDS (count_left kind mask table.binds)

-- why a bind whose flags parse is refused: a bad mask, bad cron fields, or no room for a new bind
unfoldable pub later_refusal : Table → BindKind → List ℕ → List ℕ → Option BindFault
later_refusal table kind mask proc =
    if is_bad_mask kind mask then Some BadMask else
    (if is_bad_cron kind mask then Some BadCron else
    (if list_any (is_such kind mask proc) table.binds then None else
    (if is_full table kind mask then Some Full else None)))

-- the first reason to refuse a bind
unfoldable pub refusal : Table → Asked → Option BindFault
refusal table asked = if is_some (expression_fault asked.flags) then Some BadFlags else later_refusal table asked.kind asked.mask asked.proc

-- ---- what `bind` leaves

-- the requested bind, under a number
abbrev pub with_number : Asked → ℕ → Bind
with_number asked number =
    record { number = number; kind = asked.kind; flags = asked.flags; mask = asked.mask; proc = asked.proc }

-- the same kind, mask and proc again: the flags are the new ones; the number, the place and the mask's spelling stay
abbrev pub with_flags : Asked → Bind → Bind
with_flags asked b = if is_such asked.kind asked.mask asked.proc b then record b { flags = asked.flags } else b

-- any other bind is appended, under the next number, and the bind that it replaces is removed
abbrev pub with_new : Table → Asked → Table
with_new table asked =
    record {
      binds = without_replaced asked.kind asked.mask table.binds ++ with_number asked (table.last + 1) ∷ [];
      last = table.last + 1;
    }

abbrev pub bound : Table → Asked → Table
bound table asked =
    if list_any (is_such asked.kind asked.mask asked.proc) table.binds
    then record table { binds = map (with_flags asked) table.binds }
    else with_new table asked

-- the number of a bind if there is one, or else this number
abbrev pub number_or : ℕ → Option Bind → ℕ
number_or number (Some b) = b.number
number_or number None = number

-- the number that the bind then has
abbrev pub number_of : Table → Asked → ℕ
number_of table asked = number_or (table.last + 1) (find (is_such asked.kind asked.mask asked.proc) table.binds)

-- ---- what the calls return, and the table that they leave

abbrev pub Binds : Table → Asked → Result ℕ (Failure BindFault) → Table → Type 0
Binds old asked (Ok number) new = (refusal old asked ≡ None) × (number ≡ number_of old asked) × (new ≡ bound old asked)
Binds old asked (Err (Refused fault)) new = (refusal old asked ≡ Some fault) × (new ≡ old)
Binds old asked (Err NoMemory) new = (refusal old asked ≡ None) × (new ≡ old)

abbrev pub Unbinds : Table → BindKind → List ℕ → List ℕ → Result ℕ BindFault → Table → Type 0
Unbinds old kind mask proc (Ok number) new =
    (Some number ≡ option_map (λ b. b.number) (find (is_such kind mask proc) old.binds))
    × (new ≡ record old { binds = without_such kind mask proc old.binds })
Unbinds old kind mask proc (Err fault) new =
    (None ≡ find (is_such kind mask proc) old.binds) × (fault ≡ NoSuchBind) × (new ≡ old)

-- the letters that transcripts print
abbrev pub code_of : BindFault → List ℕ
code_of BadFlags = codes "B1"
code_of BadMask = codes "B2"
code_of BadCron = codes "B3"
code_of Full = codes "B4"
code_of NoSuchBind = codes "B5"
