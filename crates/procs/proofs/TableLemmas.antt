-- What the calls of a table answer, from what their parts do.
use Rattle.std.proofs.Common.{◌≡◌, ℕ, ◌+◌, ◌<◌, ◌==◌, Bool, true, false, not, cond, if◌then◌else◌, ◌&&◌, ◌||◌, List, [], ◌∷◌, ◌++◌, length}
use Rattle.std.proofs.lemmas.Bool.{or_parts}
use Rattle.std.proofs.Common.{map, find, get_or, Option, Some, None, is_some, is_none, Result, Ok, Err, OnOk, OnErr, refl, sym, ap, subst}
use Rattle.std.proofs.Common.{◌∙◌, arith}
use Rattle.std.proofs.Common.{nat_le, nat_lt}
use Rattle.std.proofs.Math.ListN.{set}
use Rattle.std.specs.List.{list_any}
use Rattle.std.specs.Option.{option_map, ok_or}
use Rattle.std.proofs.lemmas.Bool.Decides.{nat_tests}
use Rattle.bytetext.specs.declared.failure.Failure.TheVariants.{Refused, NoMemory}
use Rattle.bytetext.specs.declared.memory.NoMemory as memory
use Rattle.wildmask.specs.Masks.{bind_fault}
use Rattle.wildmask.specs.declared.faults.MaskFault.TheVariants.{MaskEmpty, MaskTooLong}
use Rattle.flagexpr.specs.declared.fault.FlagFault.{FlagFault}
use Rattle.flagexpr.specs.Faults.{expression_fault}
use Rattle.procs.specs.declared.bind_kind.BindKind.{BindKind}
use Rattle.procs.specs.declared.bind.Bind.{Bind}
use Rattle.procs.specs.declared.bind_fault.BindFault.{BindFault}
use Rattle.procs.specs.declared.bind_fault.BindFault.TheVariants.{BadFlags, BadMask, BadCron, Full, NoSuchBind}
use Rattle.procs.specs.declared.limits.TheConstants.{MAX_BINDS, MAX_MASK, MAX_NUMBER}
use Rattle.procs.specs.Kinds.{is_single}
use Rattle.procs.specs.declared.index.KindIndex.{KindIndex}
use Rattle.procs.specs.Index.{AreIndexed}
use Rattle.procs.specs.Sound.{IsSound, AreApart}
use Rattle.procs.specs.Tables.{Table, Asked, Binds, Unbinds, is_such, without_such, without_replaced, with_flags, with_number, with_new}
use Rattle.procs.specs.Tables.{count_left, is_bad_cron, is_bad_mask, is_full, later_refusal, refusal, bound, number_of, number_or}
use Rattle.procs.specs.Wishes.{IsAt}
use Rattle.procs.proofs.OnceLemmas.{filter-none, set-once, find-once, list_any-at}
use Rattle.procs.proofs.ApartLemmas.{any_bind, once-such}
use Rattle.procs.proofs.SoundLemmas.{sound-new, sound-flags, indexed-flags}

-- ---- unbind

none-found_is : (t : Bind → Bool) (binds : List Bind) → find t binds ≡ None → list_any t binds ≡ false
none-found_is t [] none = refl
none-found_is t (b ∷ binds) none = by (t b) none (none-found_is t binds)
  where
    by : (c : Bool) → cond c (Some b) (find t binds) ≡ None → (find t binds ≡ None → list_any t binds ≡ false) → (c || list_any t binds) ≡ false
    by true e rest = absurd cc
    by false e rest = rest e

pub unbinds-from : (old new : Table) (kind : BindKind) (mask proc : List ℕ) (o : Option ℕ) (r : Result ℕ BindFault) → r ≡ ok_or o NoSuchBind
    → o ≡ option_map (λ b. b.number) (find (is_such kind mask proc) old.binds)
    → new ≡ record old { binds = without_such kind mask proc old.binds } → Unbinds old kind mask proc r new
unbinds-from old new kind mask proc o r is_r is_o is_new =
    subst (λ (x : Result ℕ BindFault). Unbinds old kind mask proc x new) (sym (is_r ∙ ap (λ (x : Option ℕ). ok_or x NoSuchBind) is_o))
    (by (find (is_such kind mask proc) old.binds) refl)
  where
    by : (f : Option Bind) → find (is_such kind mask proc) old.binds ≡ f → Unbinds old kind mask proc (ok_or (option_map (λ (b : Bind).
        b.number) f) NoSuchBind) new
    by (Some b) found = (sym (ap (option_map (λ (x : Bind). x.number)) found), is_new)
    by None found =
        let stays = filter-none (is_such kind mask proc) old.binds (none-found_is (is_such kind mask proc) old.binds found) in
        (sym found, refl, is_new ∙ ap (λ (bs : List Bind). let t : Table = record old { binds = bs } in t) stays)

-- ---- bind: what its tests tell

pub good_mask : (kind : BindKind) (mask : List ℕ) → is_bad_mask kind mask ≡ false → bind_fault mask ≡ None
good_mask kind mask good =
    let first = or_parts (length mask == 0 || nat_lt MAX_MASK (length mask)) (is_single kind && list_any (λ byte. byte == 32) mask) good in
    let parts = or_parts (length mask == 0) (nat_lt MAX_MASK (length mask)) first.0 in
    by (length mask == 0) (nat_lt 120 (length mask)) parts.0 parts.1
  where
    by : (a b : Bool) → a ≡ false → b ≡ false → (if a then Some MaskEmpty else (if b then Some MaskTooLong else None)) ≡ None
    by true b p q = absurd cc
    by false true p q = absurd cc
    by false false p q = refl

-- what a bind that isn't refused has: a good mask, and where it is new a number and room
pub record Allowed (table : Table) (kind : BindKind) (text proc : List ℕ) : Type 0 where
  pub mask : is_bad_mask kind text ≡ false
  pub cron : is_bad_cron kind text ≡ false
  pub room : list_any (is_such kind text proc) table.binds ≡ false → is_full table kind text ≡ false

pub allowed : (table : Table) (kind : BindKind) (mask proc : List ℕ) → later_refusal table kind mask proc ≡ None → Allowed table kind mask proc
unfolding later_refusal
allowed table kind mask proc stands =
    let parts = by (is_bad_mask kind mask) (is_bad_cron kind mask) (list_any (is_such kind mask proc) table.binds) (is_full table kind mask) stands in
    record { mask = parts.0; cron = parts.1; room = parts.2 }
  where
    by : (bad cron such full : Bool) → (if bad then Some BadMask
        else (if cron then Some BadCron else (if such then None else (if full then Some Full else None)))) ≡ None
        → (bad ≡ false) × (cron ≡ false) × (such ≡ false → full ≡ false)
    by true cron such full e = absurd cc
    by false true such full e = absurd cc
    by false false true full e = (refl, refl, λ no. absurd cc)
    by false false false true e = absurd cc
    by false false false false e = (refl, refl, λ no. refl)

-- a bind that is allowed leaves a number
pub number_left : (table : Table) (kind : BindKind) (mask : List ℕ) → is_full table kind mask ≡ false → table.last < MAX_NUMBER
number_left table kind mask room =
    let parts = or_parts (nat_le MAX_NUMBER table.last) (nat_le MAX_BINDS (count_left kind mask table.binds)) room in
    let none : nat_le MAX_NUMBER table.last ≡ false = parts.0 in
    grind (arith, nat_tests)

-- and room
pub room_left : (table : Table) (kind : BindKind) (mask : List ℕ) → is_full table kind mask ≡ false → count_left kind mask table.binds < MAX_BINDS
room_left table kind mask room =
    let parts = or_parts (nat_le MAX_NUMBER table.last) (nat_le MAX_BINDS (count_left kind mask table.binds)) room in
    let none : nat_le MAX_BINDS (count_left kind mask table.binds) ≡ false = parts.1 in
    grind (arith, nat_tests)

-- ---- bind: what it answers

refusal-parsed : (old : Table) (asked : Asked) → expression_fault asked.flags ≡ None → refusal old asked ≡ later_refusal old asked.kind asked.mask asked.proc
unfolding refusal
refusal-parsed old asked parses =
    ap (λ (o : Option FlagFault). if is_some o then Some BadFlags else later_refusal old asked.kind asked.mask asked.proc) parses

pub binds-bad_flags : (old : Table) (asked : Asked) (fault : FlagFault) → expression_fault asked.flags ≡ Some fault
    → Binds old asked (Err (Refused BadFlags)) old
unfolding refusal
binds-bad_flags old asked fault e =
    (ap (λ (o : Option FlagFault). if is_some o then Some BadFlags else later_refusal old asked.kind asked.mask asked.proc) e, refl)

pub binds-refused : (old : Table) (asked : Asked) (fault : BindFault) → expression_fault asked.flags ≡ None
    → later_refusal old asked.kind asked.mask asked.proc ≡ Some fault → Binds old asked (Err (Refused fault)) old
binds-refused old asked fault parses e = (refusal-parsed old asked parses ∙ e, refl)

pub binds-no_memory : (old new : Table) (asked : Asked) → expression_fault asked.flags ≡ None → later_refusal old asked.kind asked.mask asked.proc ≡ None
    → new ≡ old → Binds old asked (Err NoMemory) new
binds-no_memory old new asked parses e same = (refusal-parsed old asked parses ∙ e, same)

pub binds-made : (old new : Table) (asked : Asked) (number : ℕ) → expression_fault asked.flags ≡ None
    → later_refusal old asked.kind asked.mask asked.proc ≡ None
    → number ≡ number_of old asked → new ≡ bound old asked → Binds old asked (Ok number) new
binds-made old new asked number parses e is_number is_new = (refusal-parsed old asked parses ∙ e, is_number, is_new)

-- one that is there gets other flags, and keeps its number
pub number_found : (binds : List Bind) (asked : Asked) (at last : ℕ) (d : Bind) → AreApart binds → IsAt (is_such asked.kind asked.mask asked.proc) binds at
    → number_of (record { binds = binds; last = last }) asked ≡ (get_or binds at d).number
number_found binds asked at last d apart here =
    ap (number_or (last + 1)) (find-once (is_such asked.kind asked.mask asked.proc) binds at d (once-such asked.kind asked.mask asked.proc binds
    apart) here.within (here.passes d))

pub flags_set : (asked : Asked) (binds : List Bind) (at : ℕ) (d : Bind) → AreApart binds → IsAt (is_such asked.kind asked.mask asked.proc) binds at
    → set binds at (record (get_or binds at d) { flags = asked.flags }) ≡ map (with_flags asked) binds
flags_set asked binds at d apart here =
    set-once (is_such asked.kind asked.mask asked.proc) (λ b. record b { flags = asked.flags }) binds at d
    (once-such asked.kind asked.mask asked.proc binds apart) here.within (here.passes d)

module _ (binds new : List Bind) (last : ℕ) (asked : Asked) where
  pub bound-renewed : (r : Result ℕ memory.NoMemory) (at : ℕ) → IsAt (is_such asked.kind asked.mask asked.proc) binds at → OnOk r (new
      ≡ map (with_flags asked) binds)
      → let old : Table = record { binds = binds; last = last } in let t : Table = record { binds = new; last = last } in OnOk r (t ≡ bound old asked)
  bound-renewed (Err e) at here ok = tt
  bound-renewed (Ok n) at here ok =
      let some : list_any (is_such asked.kind asked.mask asked.proc) binds ≡ true = list_any-at (is_such asked.kind asked.mask asked.proc) binds
      at (any_bind asked.kind) here.within (here.passes (any_bind asked.kind)) in
      let old : Table = record { binds = binds; last = last } in
      ap (λ (bs : List Bind). let t : Table = record { binds = bs; last = last } in t) ok
      ∙ sym (ap (λ c. let t : Table = if c then record old { binds = map (with_flags asked) old.binds } else with_new old asked in t) some)

  pub bound-added : list_any (is_such asked.kind asked.mask asked.proc) binds ≡ false
      → new ≡ without_replaced asked.kind asked.mask binds ++ with_number asked (last + 1) ∷ []
      → let old : Table = record { binds = binds; last = last } in let t : Table = record { binds = new; last = last + 1 } in t ≡ bound old asked
  bound-added none is_new =
      let old : Table = record { binds = binds; last = last } in
      ap (λ (bs : List Bind). let t : Table = record { binds = bs; last = last + 1 } in t) is_new
      ∙ sym (ap (λ c. let t : Table = if c then record old { binds = map (with_flags asked) old.binds } else with_new old asked in t) none)

  pub sound-renewed : (r : Result ℕ memory.NoMemory) (indexes : List KindIndex) → expression_fault asked.flags ≡ None
      → IsSound (record { binds = binds; last = last })
      → AreIndexed binds indexes → OnOk r (new ≡ map (with_flags asked) binds) → OnErr r (new ≡ binds)
      → IsSound (record { binds = new; last = last }) × AreIndexed new indexes
  sound-renewed (Ok n) indexes parses sound indexed ok err = (
    sound-flags asked binds new last (ap is_none parses) sound ok,
    indexed-flags asked binds new indexes indexed ok,
  )
  sound-renewed (Err e) indexes parses sound indexed ok err = (
    subst (λ bs. IsSound (record { binds = bs; last = last })) (sym err) sound,
    subst (λ bs. AreIndexed bs indexes) (sym err) indexed,
  )

  pub sound-added : expression_fault asked.flags ≡ None → IsSound (record { binds = binds; last = last })
      → later_refusal (record { binds = binds; last = last }) asked.kind asked.mask asked.proc ≡ None
      → list_any (is_such asked.kind asked.mask asked.proc) binds ≡ false
      → new ≡ without_replaced asked.kind asked.mask binds ++ with_number asked (last + 1) ∷ []
      → IsSound (record { binds = new; last = last + 1 })
  sound-added parses sound none_stands free is_new =
      let may = allowed (record { binds = binds; last = last }) asked.kind asked.mask asked.proc none_stands in
      sound-new binds new last (last + 1) (with_number asked (last + 1)) sound is_new refl refl
      (λ i. is_none (parses i) && not (may.mask i || may.cron i)) free
      (room_left (record { binds = binds; last = last }) asked.kind asked.mask (may.room free))

  pub last_fits : later_refusal (record { binds = binds; last = last }) asked.kind asked.mask asked.proc ≡ None
      → list_any (is_such asked.kind asked.mask asked.proc) binds ≡ false → last < MAX_NUMBER
  last_fits none_stands free =
      let may = allowed (record { binds = binds; last = last }) asked.kind asked.mask asked.proc none_stands in
      number_left (record { binds = binds; last = last }) asked.kind asked.mask (may.room free)
