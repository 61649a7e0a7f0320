-- What the bytes of two disks mean as a bot's journal.
use Rattle.std.specs.Prelude.{ℕ, ◌+◌, Option, Some, None, List, [], ◌∷◌, ◌++◌, option_map}
use Rattle.bytejournal.specs.Meaning.{Contents as Texts, Held, held, chosen}
use Rattle.bytejournal.specs.Meaning.Held.{Shut, Broken, Open}
use Rattle.botjournal.specs.declared.base.Base.{Base}
use Rattle.botjournal.specs.declared.entry.Entry.{Entry}
use Rattle.botjournal.specs.declared.layouts.Layout.{Layout}
use Rattle.botjournal.specs.declared.layouts.Layout.TheVariants.{First, Second, Third, Fourth}
use Rattle.botjournal.specs.declared.sums.Seal.{Seal}
use Rattle.botjournal.specs.declared.TheConstants.{LAYOUT}
use Rattle.botjournal.specs.Layouts.{layout_of}
use Rattle.botjournal.specs.Sums.{start, body_of, through}
use Rattle.botjournal.specs.Entries.{entry_in}
use Rattle.botjournal.specs.Bases.{base_in}

-- what a journal holds, spelled by a layout: a base, and the entries appended since
pub record Contents : Type 0 where
  pub layout : ℕ
  pub generation : ℕ
  pub base : Base
  pub entries : List Entry

-- the contents with one more entry
abbrev pub added : Entry → Contents → Contents
added entry contents =
    record { layout = contents.layout; generation = contents.generation; base = contents.base; entries = contents.entries ++ (entry ∷ []) }

-- another base alone, in the layout that is written and the next generation
abbrev pub rebased : Base → Contents → Contents
rebased base contents = record { layout = LAYOUT; generation = contents.generation + 1; base = base; entries = [] }

-- a new journal's contents
abbrev pub new_contents : Base → Contents
new_contents base = record { layout = LAYOUT; generation = 1; base = base; entries = [] }

-- what a text spells: all of it in the older layouts, and what stands before its sum in the one that is written
abbrev pub body_in : Layout → List ℕ → List ℕ
body_in First text = text
body_in Second text = text
body_in Third text = text
body_in Fourth text = body_of text

-- the seal after a base and entries, if each of them ends with its sum: the texts of older layouts have none
abbrev pub seal_from : Layout → Seal → List ℕ → List (List ℕ) → Option Seal
seal_from First before base entries = Some before
seal_from Second before base entries = Some before
seal_from Third before base entries = Some before
seal_from Fourth before base entries = through before (base ∷ entries)

abbrev pub seal_by : Layout → Texts → Option Seal
seal_by layout texts = seal_from layout (start texts.layout texts.generation) texts.base texts.entries

-- these contents, if the sums are right
abbrev pub if_sealed : Option Seal → Option Contents → Option Contents
if_sealed None contents = None
if_sealed (Some seal) contents = contents

-- an entry before others
abbrev pub before_others : Option Entry → Option (List Entry) → Option (List Entry)
before_others None others = None
before_others (Some entry) others = option_map (λ more. entry ∷ more) others

-- the entries whose spellings these texts are
abbrev pub entries_in : Layout → List (List ℕ) → Option (List Entry)
entries_in layout [] = Some []
entries_in layout (text ∷ texts) = before_others (entry_in layout (body_in layout text)) (entries_in layout texts)

abbrev pub with_entries : ℕ → ℕ → Base → Option (List Entry) → Option Contents
with_entries number generation base None = None
with_entries number generation base (Some entries) = Some (record { layout = number; generation = generation; base = base; entries = entries })

abbrev pub with_base : ℕ → ℕ → Option Base → Option (List Entry) → Option Contents
with_base number generation None entries = None
with_base number generation (Some base) entries = with_entries number generation base entries

-- the base and entries that these texts spell in a layout: none if a sum is missing
abbrev pub spelled_by : Option Layout → Texts → Option Contents
spelled_by None texts = None
spelled_by (Some layout) texts =
    if_sealed (seal_by layout texts)
    (with_base texts.layout texts.generation (base_in layout (body_in layout texts.base)) (entries_in layout texts.entries))

-- the base and entries that these texts spell: none if their layout isn't read, or if one of them spells nothing or
-- doesn't end with its sum
abbrev pub spelled : Texts → Option Contents
spelled texts = spelled_by (layout_of texts.layout) texts

abbrev pub where_spelled : Texts → Option Contents → Held
where_spelled texts None = Broken
where_spelled texts (Some contents) = Open texts

-- What a disk holds as a bot's journal. If one of its texts spells nothing or doesn't end with its sum, the disk doesn't
-- hold a journal, just as if the texts themselves couldn't be read.
abbrev pub checked : Held → Held
checked Shut = Shut
checked Broken = Broken
checked (Open texts) = where_spelled texts (spelled texts)

-- the contents that count, read
abbrev pub typed : Option Texts → Option Contents
typed None = None
typed (Some texts) = spelled texts

-- What two disks mean. Each has to be a journal's as far as its gate is open, though only one disk's contents count.
abbrev pub meaning : List ℕ → List ℕ → Option Contents
meaning first second = typed (chosen (checked (held first)) (checked (held second)))
