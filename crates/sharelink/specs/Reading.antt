-- What the entries of a journal leave as it was, whichever end folds them in.
use Rattle.std.proofs.Common.{◌≡◌, Bool, true, false, if◌then◌else◌, List, [], ◌∷◌, Option, None, Some, refl, subst}
use Rattle.std.specs.List.{AllByRecursion}
use Rattle.std.specs.Option.{option_map}
use Rattle.botjournal.specs.declared.entry.Entry.{Entry}
use Rattle.protocol.specs.Journals.{read_next, reads, record_if}

-- a record that was found
pub if-some : {R : Type 0} (b : Bool) (given found : R) → record_if b given ≡ Some found → (b ≡ true) × (given ≡ found)
if-some true given found is = (refl, cc)
if-some false given found is = absurd (cc)

-- entries have to meet no condition
pub all-any : (entries : List Entry) → AllByRecursion (λ (entry : Entry). Unit {0}) entries
all-any [] = tt
all-any (entry ∷ entries) = (tt, all-any entries)

-- what holds at the start, and still holds after each record of a good entry
module _ {Kept Record : Type 0} (record_of : Kept → Entry → Option Record) (folded : Kept → Record → Kept)
    (Good : Entry → Type 0) (Is : Kept → Type 0)
    (stays : (kept : Kept) (entry : Entry) (found : Record) → Good entry → record_of kept entry ≡ Some found → Is kept → Is (folded kept found)) where
  abbrev StartsWell : Option Kept → Type 0
  StartsWell start = (kept : Kept) → start ≡ Some kept → Is kept

  next-well : (start : Option Kept) (entry : Entry) → Good entry → StartsWell start → StartsWell (read_next record_of folded start entry)
  next-well None entry good well kept is = absurd (cc)
  next-well (Some old) entry good well kept is = by (record_of old entry) refl is
    where
      by : (o : Option Record) → record_of old entry ≡ o → option_map (folded old) o ≡ Some kept → Is kept
      by None e is = absurd (cc)
      by (Some found) e is =
          let same : folded old found ≡ kept = cc in subst (λ (k : Kept). Is k) same (stays old entry found good e (well old refl))

  reads-well : (entries : List Entry) (start : Option Kept) → AllByRecursion Good entries → StartsWell start
      → StartsWell (reads record_of folded start entries)
  reads-well [] start good well = well
  reads-well (entry ∷ entries) start good well =
      reads-well entries (read_next record_of folded start entry) good.1 (next-well start entry good.0 well)

  -- holds of the result of all of them
  pub read-well : (may : Bool) (start kept : Kept) (entries : List Entry) → AllByRecursion Good entries → (may ≡ true → Is start)
      → (if may then reads record_of folded (Some start) entries else None) ≡ Some kept → Is kept
  read-well true start kept entries good well is =
      reads-well entries (Some start) good (λ held e. let same : start ≡ held = cc in subst (λ (k : Kept). Is k) same (well refl)) kept is
  read-well false start kept entries good well is = absurd (cc)
