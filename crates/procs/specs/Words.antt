-- The keywords of an index, and the entries that a subject can call.
use Rattle.std.specs.Prelude.{◌≡◌, ℕ, ◌≤◌, Bool, true, false, List, [], ◌∷◌, map, length, take, drop, position, Option, Some, None}
use Rattle.std.specs.List.{list_any}
use Rattle.std.specs.Str.{bytes_eq}
use Rattle.rfccase.specs.Casemapping.{folded}
use Rattle.procs.specs.declared.bind_kind.BindKind.{BindKind}
use Rattle.procs.specs.declared.index.IndexEntry.{IndexEntry}
use Rattle.procs.specs.declared.index.KindIndex.{KindIndex}
use Rattle.procs.specs.declared.limits.TheConstants.{MAX_MASK}
use Rattle.procs.specs.Kinds.{is_single}

-- the keywords of an index
abbrev pub words_of : KindIndex → List (List ℕ)
words_of index = map (λ key. key.items) index.words.keys

-- a word is none of these keywords
abbrev pub HasNoWord : List ℕ → List (List ℕ) → Type 0
HasNoWord word words = list_any (bytes_eq word) words ≡ false

-- no word is longer than a mask
abbrev pub AreShort : List (List ℕ) → Type 0
AreShort [] = Unit {0}
AreShort (word ∷ words) = (length word ≤ MAX_MASK) × AreShort words

-- each entry has its word
pub record AreWords (index : KindIndex) : Type 0 where
  pub each : length index.words.keys ≡ length index.entries.items
  pub short : AreShort (words_of index)

-- the place of a keyword
abbrev pub place_of_word : List ℕ → KindIndex → Option ℕ
place_of_word word index = position (λ key. bytes_eq (folded word) key.items) index.words.keys

-- the entry at a place, if there is one
abbrev pub IsEntryAt : Option ℕ → List IndexEntry → List IndexEntry → Type 0
IsEntryAt (Some at) entries some = some ≡ take 1 (drop at entries)
IsEntryAt None entries some = some ≡ []

-- the entries of the binds that an event may call: all binds of a kind with masks, or the one bind of a keyword
abbrev pub AreOf : Bool → List ℕ → KindIndex → List IndexEntry → Type 0
AreOf true subject index some = IsEntryAt (place_of_word subject index) index.entries.items some
AreOf false subject index some = some ≡ index.entries.items

abbrev pub AreCandidates : BindKind → List ℕ → KindIndex → List IndexEntry → Type 0
AreCandidates kind subject index some = AreOf (is_single kind) subject index some
