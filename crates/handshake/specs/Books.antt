-- The book of a hub: which folder is which leaf.
use Rattle.std.specs.Prelude.{◌≡◌, ◌+◌, ◌<◌, ◌==◌, ℕ, Bool, true, false, List, [], ◌∷◌, ◌++◌, length, fold, set, take, drop, codes, decimal}
use Rattle.std.specs.Prelude.{Option, Some, None, slice_get, if◌then◌else◌}
use Rattle.std.specs.List.{flat_map, list_any, AllByRecursion}
use Rattle.std.specs.Str.{bytes_eq}
use Rattle.bytetext.specs.declared.failure.Failure.{Failure}
use Rattle.bytetext.specs.declared.failure.Failure.TheVariants.{Refused, NoMemory}
use Rattle.handshake.specs.declared.book.BookFault.{BookFault}
use Rattle.handshake.specs.declared.book.Place.{Place}
use Rattle.handshake.specs.declared.book.Place.TheVariants.{Free, Same, Taken, Barred}
use Rattle.handshake.specs.declared.book_line.BookLine.{BookLine}
use Rattle.handshake.specs.declared.book_line.FirstLine.{FirstLine}
use Rattle.handshake.specs.declared.book_line.BookLine.TheVariants.{Enters, Frees, Bars}
use Rattle.handshake.specs.Digits.{are_digits, digits_in}
use Rattle.handshake.specs.Lines.{line_feed}
use Rattle.handshake.specs.Numbers.{leaf_in}
use Rattle.handshake.specs.Reading.{word_of, rest_of}

-- ---- a line

-- leaf N MADE: the folder with the number MADE is leaf N
abbrev pub entry_line : ℕ → List ℕ → List ℕ
entry_line leaf made = codes "leaf " ++ decimal leaf ++ codes " " ++ made ++ line_feed

-- free N: no folder is leaf N
abbrev pub free_line : ℕ → List ℕ
free_line leaf = codes "free " ++ decimal leaf ++ line_feed

-- bar MADE: the folder with the number MADE never joins again
abbrev pub bar_line : List ℕ → List ℕ
bar_line made = codes "bar " ++ made ++ line_feed

abbrev pub text_of : BookLine → List ℕ
text_of (Enters leaf made) = entry_line leaf made
text_of (Frees leaf) = free_line leaf
text_of (Bars made) = bar_line made

-- a leaf's number is from 1 to 65,535, and a folder's has 16 digits
abbrev pub IsLine : BookLine → Type 0
IsLine (Enters leaf made) = (0 < leaf) × (leaf < 65536) × (are_digits 16 made ≡ true)
IsLine (Frees leaf) = (0 < leaf) × (leaf < 65536)
IsLine (Bars made) = are_digits 16 made ≡ true

-- ---- the bytes of a book are its lines, one after another

abbrev pub AreLines : List BookLine → List ℕ → Type 0
AreLines lines bytes = AllByRecursion IsLine lines × (bytes ≡ flat_map text_of lines)

-- after lines that a hub writes, the bytes go on with none
pub record IsFaulty (bytes : List ℕ) (fault : BookFault) : Type 0 where
  pub lines : List BookLine
  pub rest : List ℕ
  pub parts : bytes ≡ flat_map text_of lines ++ rest
  pub good : AllByRecursion IsLine lines
  pub number : fault.line ≡ length lines + 1
  pub more : 0 < length rest
  pub none : (line : BookLine) (after : List ℕ) → IsLine line → rest ≡ text_of line ++ after → ⊥

abbrev pub IsRefused : List ℕ → Failure BookFault → Type 0
IsRefused bytes (Refused fault) = IsFaulty bytes fault
IsRefused bytes NoMemory = Unit {0}

-- ---- what lines say

-- of the lines about a leaf the last one counts: the folder that is the leaf after one more line
abbrev pub folder_after : ℕ → Option (List ℕ) → BookLine → Option (List ℕ)
folder_after leaf before (Enters other made) = if other == leaf then Some made else before
folder_after leaf before (Frees other) = if other == leaf then None else before
folder_after leaf before (Bars made) = before

abbrev pub folder_in : ℕ → List BookLine → Option (List ℕ)
folder_in leaf lines = fold (folder_after leaf) None lines

-- whether a line is about a leaf
abbrev pub names : ℕ → BookLine → Bool
names leaf (Enters other made) = other == leaf
names leaf (Frees other) = other == leaf
names leaf (Bars made) = false

-- a folder that one line bars is barred for ever
abbrev pub bars : List ℕ → BookLine → Bool
bars made (Enters leaf other) = false
bars made (Frees leaf) = false
bars made (Bars other) = bytes_eq other made

abbrev pub is_barred_in : List ℕ → List BookLine → Bool
is_barred_in made lines = list_any (bars made) lines

-- the place of a folder that is not barred, beside the folder that is the leaf
abbrev pub place_beside : Option (List ℕ) → List ℕ → Place
place_beside None made = Free
place_beside (Some kept) made = if bytes_eq kept made then Same else Taken

-- what lines say of a leaf that shows this folder
abbrev pub place_in : List BookLine → ℕ → List ℕ → Place
place_in lines leaf made = if is_barred_in made lines then Barred else place_beside (folder_in leaf lines) made

-- ---- what the value holds

-- the folder that is each leaf, by its number, and the barred folders
pub record Leaves : Type 0 where
  pub folders : List (Option (List ℕ))
  pub barred : List (List ℕ)

abbrev pub flattened : Option (Option (List ℕ)) → Option (List ℕ)
flattened None = None
flattened (Some folder) = folder

abbrev pub folder_of : Leaves → ℕ → Option (List ℕ)
folder_of book leaf = flattened (slice_get book.folders leaf)

abbrev pub is_barred : Leaves → List ℕ → Bool
is_barred book made = list_any (λ other. bytes_eq other made) book.barred

abbrev pub place_of : Leaves → ℕ → List ℕ → Place
place_of book leaf made = if is_barred book made then Barred else place_beside (folder_of book leaf) made

abbrev pub with_line : BookLine → Leaves → Leaves
with_line (Enters leaf made) book = record book { folders = set book.folders leaf (Some made) }
with_line (Frees leaf) book = record book { folders = set book.folders leaf None }
with_line (Bars made) book = record book { barred = book.barred ++ made ∷ [] }

-- it says what these lines say, of each leaf that it has room for
pub record Says (book : Leaves) (lines : List BookLine) : Type 0 where
  pub folders : (leaf : ℕ) → leaf < length book.folders → folder_of book leaf ≡ folder_in leaf lines
  pub barred : (made : List ℕ) → is_barred book made ≡ is_barred_in made lines

-- what was read is what the lines say
pub record IsRead (bytes : List ℕ) (leaves : ℕ) (book : Leaves) : Type 0 where
  pub lines : List BookLine
  pub are : AreLines lines bytes
  pub says : Says book lines
  pub room : length book.folders ≡ leaves + 1

-- ---- how a line is read

abbrev pub entered : Option ℕ → Option (List ℕ) → Option BookLine
entered (Some leaf) (Some made) = Some (Enters leaf made)
entered (Some leaf) None = None
entered None made = None

abbrev pub entry_after : List ℕ → Option BookLine
entry_after words = entered (leaf_in (word_of words)) (digits_in 16 (rest_of words))

abbrev pub freed : Option ℕ → Option BookLine
freed None = None
freed (Some leaf) = Some (Frees leaf)

abbrev pub barring : Option (List ℕ) → Option BookLine
barring None = None
barring (Some made) = Some (Bars made)

abbrev pub other_in : List ℕ → Option BookLine
other_in line =
    if bytes_eq (take 5 line) (codes "free ") then freed (leaf_in (drop 5 line))
    else if bytes_eq (take 4 line) (codes "bar ") then barring (digits_in 16 (drop 4 line))
    else None

-- a line without its line feed
abbrev pub line_in : List ℕ → Option BookLine
line_in line = if bytes_eq (take 5 line) (codes "leaf ") then entry_after (drop 5 line) else other_in line

-- the bytes begin with this line, or with none
abbrev pub IsFirst : List ℕ → Option FirstLine → Type 0
IsFirst bytes (Some first) = IsLine first.line × (bytes ≡ text_of first.line ++ first.rest.now)
IsFirst bytes None = (line : BookLine) (after : List ℕ) → IsLine line → bytes ≡ text_of line ++ after → ⊥
