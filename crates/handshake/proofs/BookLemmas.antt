-- The lines of a book are read as they were written, and the value says what they say.
use Rattle.std.proofs.Common.{◌≡◌, ◌==◌, ℕ, zero, suc, ◌+◌, ◌<◌, ◌≤◌, Bool, true, false, ◌&&◌, ◌||◌, if◌then◌else◌}
use Rattle.std.proofs.Common.{List, [], ◌∷◌, ◌++◌, length, map, take, drop, set, position, codes, decimal, Option, Some, None, refl, sym, ap, subst, ◌∙◌, arith}
use Rattle.std.proofs.Common.{add-one, append_assoc, append-nil, drop-drop, get_or, length-append, length-set, replicate, ◌≢◌, true≢false}
use Rattle.std.specs.Prelude.{fold, slice_get}
use Rattle.std.specs.List.{flat_map, list_all, list_any, AllByRecursion}
use Rattle.std.specs.Str.{bytes_eq}
use Rattle.std.proofs.Math.Seq.{take-append_seam}
use Rattle.std.proofs.lemmas.Bool.{and_parts}
use Rattle.std.proofs.lemmas.Bool.Decides.{Decides-eqb, not_from_Decides}
use Rattle.std.proofs.lemmas.Grind.{flat_map-append}
use Rattle.std.proofs.lemmas.List.{get_or-set_other, get_or-set_same, length-replicate}
use Rattle.std.proofs.lemmas.Option.{slice_get-get_or}
use Rattle.std.proofs.lemmas.List.Folds.{list_all-append, list_any-append}
use Rattle.std.proofs.lemmas.List.Sums.{fold-append, fold_push}
use Rattle.handshake.specs.declared.book_line.BookLine.{BookLine}
use Rattle.handshake.specs.declared.book_line.BookLine.TheVariants.{Enters, Frees, Bars}
use Rattle.handshake.specs.Digits.{is_digit, are_digits, digits_in}
use Rattle.handshake.specs.Lines.{line_feed}
use Rattle.handshake.specs.Numbers.{leaf_in}
use Rattle.handshake.specs.Reading.{word_of, rest_of}
use Rattle.handshake.specs.Books.{text_of, IsLine, folder_after, folder_in, bars, Leaves, flattened, folder_of, is_barred, with_line, Says}
use Rattle.handshake.specs.declared.book.Place.TheVariants.{Barred}
use Rattle.handshake.specs.Books.{IsFaulty, IsRead, is_barred_in, names, place_beside, place_in}
use Rattle.handshake.specs.Books.{entered, entry_after, freed, barring, other_in, line_in}
use Rattle.handshake.proofs.WordLemmas.{is_inside, begins, decimal-digits, digits_in-digits, digits_in-some, digits-inside, digits-letters, are_digits-all}
use Rattle.handshake.proofs.WordLemmas.{leaf_in-decimal, leaf_in-some, line_end, lines_split, rest_of-word, word_of-word, words_split}

-- ---- one line

-- a line without its line feed
abbrev pub front_of : BookLine → List ℕ
front_of (Enters leaf made) = codes "leaf " ++ decimal leaf ++ codes " " ++ made
front_of (Frees leaf) = codes "free " ++ decimal leaf
front_of (Bars made) = codes "bar " ++ made

pub text_is : (line : BookLine) → text_of line ≡ front_of line ++ line_feed
text_is (Enters leaf made) = refl
text_is (Frees leaf) = refl
text_is (Bars made) = refl

-- the words after the first
words_of : (leaf : ℕ) (made : List ℕ) → decimal leaf ++ codes " " ++ made ≡ decimal leaf ++ 32 ∷ made
words_of leaf made = append_assoc (decimal leaf) (codes " ") made

made_inside : (made : List ℕ) → are_digits 16 made ≡ true → list_all is_inside made ≡ true
made_inside made are = digits-inside made (are_digits-all 16 made are)

number_inside : (leaf : ℕ) → leaf < 65536 → list_all is_inside (decimal leaf) ≡ true
number_inside leaf small = digits-inside (decimal leaf) (decimal-digits leaf (omega arith))

inside : (line : BookLine) → IsLine line → list_all is_inside (front_of line) ≡ true
inside (Enters leaf made) good =
    ap (list_all is_inside) (words_of leaf made) ∙ list_all-append is_inside (decimal leaf) (codes " " ++ made)
    ∙ ap (λ b. b && list_all is_inside made) (number_inside leaf good.1) ∙ made_inside made good.2
inside (Frees leaf) good = number_inside leaf good.1
inside (Bars made) good = made_inside made good

-- what is written is read
pub line_in-front : (line : BookLine) → IsLine line → line_in (front_of line) ≡ Some line
line_in-front (Enters leaf made) good =
    let letters = digits-letters (decimal leaf) (decimal-digits leaf (omega (arith, good.1))) in
    ap entry_after (words_of leaf made) ∙ ap (λ w. entered (leaf_in w) (digits_in 16 (rest_of (decimal leaf ++ 32 ∷ made)))) (word_of-word (decimal leaf) made letters)
    ∙ ap (λ r. entered (leaf_in (decimal leaf)) (digits_in 16 r)) (rest_of-word (decimal leaf) made letters)
    ∙ ap (λ n. entered n (digits_in 16 made)) (leaf_in-decimal leaf good.0 good.1)
    ∙ ap (λ d. entered (Some leaf) d) (digits_in-digits 16 made good.2)
line_in-front (Frees leaf) good = ap freed (leaf_in-decimal leaf good.0 good.1)
line_in-front (Bars made) good = ap barring (digits_in-digits 16 made good)

-- what is read was written
entry_read : (words : List ℕ) (line : BookLine) (leaf : Option ℕ) (made : Option (List ℕ)) → leaf_in (word_of words) ≡ leaf
    → digits_in 16 (rest_of words) ≡ made → entered leaf made ≡ Some line → IsLine line × (text_of line ≡ codes "leaf " ++ words ++ line_feed)
entry_read words line None made is has said = cc
entry_read words line (Some leaf) None is has said = cc
entry_read words line (Some leaf) (Some made) is has said =
    let number = leaf_in-some (word_of words) leaf is in
    let digits = digits_in-some 16 (rest_of words) made has in
    let e : Enters leaf made ≡ line = cc in
    let long : length made ≡ 16 = (Decides-eqb (length made) 16).0 (and_parts (length made == 16) (list_all is_digit made) digits.1).0 in
    let split = words_split words (omega (arith, long, ap length digits.0)) in
    let whole : text_of (Enters leaf made) ≡ codes "leaf " ++ words ++ line_feed =
    ap (λ xs. codes "leaf " ++ xs ++ line_feed)
    (words_of leaf made ∙ ap (λ w. w ++ 32 ∷ made) number.0 ∙ ap (λ m. word_of words ++ 32 ∷ m) (sym digits.0) ∙ sym split) in
    subst (λ l. IsLine l × (text_of l ≡ codes "leaf " ++ words ++ line_feed)) e ((number.1, number.2, digits.1), whole)

free_read : (word : List ℕ) (line : BookLine) (leaf : Option ℕ) → leaf_in word ≡ leaf → freed leaf ≡ Some line
    → IsLine line × (text_of line ≡ codes "free " ++ word ++ line_feed)
free_read word line None is said = cc
free_read word line (Some leaf) is said =
    let number = leaf_in-some word leaf is in
    let e : Frees leaf ≡ line = cc in
    subst (λ l. IsLine l × (text_of l ≡ codes "free " ++ word ++ line_feed)) e
    ((number.1, number.2), ap (λ w. codes "free " ++ w ++ line_feed) number.0)

bar_read : (word : List ℕ) (line : BookLine) (made : Option (List ℕ)) → digits_in 16 word ≡ made → barring made ≡ Some line
    → IsLine line × (text_of line ≡ codes "bar " ++ word ++ line_feed)
bar_read word line None has said = cc
bar_read word line (Some made) has said =
    let digits = digits_in-some 16 word made has in
    let e : Bars made ≡ line = cc in
    subst (λ l. IsLine l × (text_of l ≡ codes "bar " ++ word ++ line_feed)) e
    (digits.1, ap (λ w. codes "bar " ++ w ++ line_feed) (sym digits.0))

pub line_in-some : (text : List ℕ) (line : BookLine) → line_in text ≡ Some line → IsLine line × (text_of line ≡ text ++ line_feed)
line_in-some text line is = first (bytes_eq (take 5 text) (codes "leaf ")) refl is
  where
    Read : Type 0
    Read = IsLine line × (text_of line ≡ text ++ line_feed)

    third : (b : Bool) → bytes_eq (take 4 text) (codes "bar ") ≡ b → (if b then barring (digits_in 16 (drop 4 text)) else None) ≡ Some line → Read
    third true begun said =
        let read = bar_read (drop 4 text) line (digits_in 16 (drop 4 text)) refl said in
        (read.0, read.1 ∙ ap (λ t. t ++ line_feed) (sym (begins text (codes "bar ") 4 begun)))
    third false begun said = cc

    second : (b : Bool) → bytes_eq (take 5 text) (codes "free ") ≡ b
        → (if b then freed (leaf_in (drop 5 text)) else if bytes_eq (take 4 text) (codes "bar ") then barring (digits_in 16 (drop 4 text)) else None) ≡ Some line
        → Read
    second true begun said =
        let read = free_read (drop 5 text) line (leaf_in (drop 5 text)) refl said in
        (read.0, read.1 ∙ ap (λ t. t ++ line_feed) (sym (begins text (codes "free ") 5 begun)))
    second false begun said = third (bytes_eq (take 4 text) (codes "bar ")) refl said

    first : (b : Bool) → bytes_eq (take 5 text) (codes "leaf ") ≡ b → (if b then entry_after (drop 5 text) else other_in text) ≡ Some line → Read
    first true begun said =
        let read = entry_read (drop 5 text) line _ _ refl refl said in
        (read.0, read.1 ∙ ap (λ t. t ++ line_feed) (sym (begins text (codes "leaf ") 5 begun)))
    first false begun said = second (bytes_eq (take 5 text) (codes "free ")) refl said

-- ---- the first line of some bytes

module _ (bytes front back : List ℕ) (end : ℕ) (at : position (λ b. b == 10) bytes ≡ Some end) (first : front ≡ take end bytes) where
  pub first_read : (rest : List ℕ) (line : BookLine) → back ≡ drop end bytes → rest ≡ drop 1 back → line_in front ≡ Some line
      → IsLine line × (bytes ≡ text_of line ++ rest)
  first_read rest line last after is =
      let read = line_in-some front line is in
      let left : drop (suc end) bytes ≡ rest =
      ap (λ n. drop n bytes) (sym (add-one end)) ∙ sym (drop-drop 1 end bytes) ∙ ap (drop 1) (sym last) ∙ sym after in (
        read.0,
        lines_split bytes end at ∙ ap (λ r. take end bytes ++ 10 ∷ r) left ∙ ap (λ f. f ++ 10 ∷ rest) (sym first)
            ∙ sym (append_assoc front line_feed rest) ∙ ap (λ t. t ++ rest) (sym read.1),
      )

-- bytes that begin with a line end it where its line feed is
begun_at : (bytes after : List ℕ) (line : BookLine) → IsLine line → bytes ≡ text_of line ++ after
    → (position (λ b. b == 10) bytes ≡ Some (length (front_of line))) × (take (length (front_of line)) bytes ≡ front_of line)
begun_at bytes after line good parts =
    let whole : bytes ≡ front_of line ++ 10 ∷ after =
    parts ∙ ap (λ t. t ++ after) (text_is line) ∙ append_assoc (front_of line) line_feed after in (
      ap (position (λ b. b == 10)) whole ∙ line_end (front_of line) after (inside line good),
      ap (take (length (front_of line))) whole ∙ take-append_seam (front_of line) (10 ∷ after),
    )

pub no_end : (bytes : List ℕ) → position (λ b. b == 10) bytes ≡ None
    → (line : BookLine) (after : List ℕ) → IsLine line → bytes ≡ text_of line ++ after → ⊥
no_end bytes none line after good parts = let begun = begun_at bytes after line good parts in cc

pub no_line : (bytes front : List ℕ) (end : ℕ) → position (λ b. b == 10) bytes ≡ Some end → front ≡ take end bytes → line_in front ≡ None
    → (line : BookLine) (after : List ℕ) → IsLine line → bytes ≡ text_of line ++ after → ⊥
no_line bytes front end at first none line after good parts =
    let begun = begun_at bytes after line good parts in
    let same : end ≡ length (front_of line) = cc in
    let read : line_in front ≡ Some line =
    ap line_in first ∙ ap (λ n. line_in (take n bytes)) same ∙ ap line_in begun.1 ∙ line_in-front line good in
    cc

-- ---- one line more

pub all-more : (lines : List BookLine) (line : BookLine) → AllByRecursion IsLine lines → IsLine line → AllByRecursion IsLine (lines ++ line ∷ [])
all-more [] line all good = (good, tt)
all-more (one ∷ lines) line all good = (all.0, all-more lines line all.1 good)

pub text-more : (bytes : List ℕ) (lines : List BookLine) (line : BookLine) (rest after : List ℕ) → bytes ≡ flat_map text_of lines ++ rest
    → rest ≡ text_of line ++ after → bytes ≡ flat_map text_of (lines ++ line ∷ []) ++ after
text-more bytes lines line rest after parts begins =
    parts ∙ ap (λ r. flat_map text_of lines ++ r) begins ∙ sym (append_assoc (flat_map text_of lines) (text_of line) after)
    ∙ ap (λ t. t ++ after) (ap (λ t. flat_map text_of lines ++ t) (sym (flat_map-one line)) ∙ sym (flat_map-append text_of lines (line ∷ [])))
  where
    flat_map-one : (line : BookLine) → flat_map text_of (line ∷ []) ≡ text_of line
    flat_map-one line = append-nil (text_of line)

-- ---- what the value says

slice_get-set : {X : Type 0} (xs : List X) (i j : ℕ) (x : X) → i < length xs → slice_get (set xs j x) i ≡ (if j == i then Some x else slice_get xs i)
slice_get-set xs i j x within =
    slice_get-get_or (set xs j x) i x (omega (arith, within, length-set xs j x)) ∙ by (j == i) refl
  where
    by : (b : Bool) → (j == i) ≡ b → Some (get_or (set xs j x) i x) ≡ (if b then Some x else slice_get xs i)
    by true same =
        let e : j ≡ i = (Decides-eqb j i).0 same in
        ap Some (subst (λ k. get_or (set xs k x) i x ≡ x) (sym e) (get_or-set_same xs i x x within))
    by false same =
        let other : i ≢ j = λ e. not_from_Decides (j == i) (Decides-eqb j i) same (sym e) in
        ap Some (get_or-set_other xs j i x x other) ∙ sym (slice_get-get_or xs i x within)

flattened-if : (b : Bool) (folder : Option (List ℕ)) (other : Option (Option (List ℕ)))
    → flattened (if b then Some folder else other) ≡ (if b then folder else flattened other)
flattened-if true folder other = refl
flattened-if false folder other = refl

folder-set : (book : Leaves) (lines : List BookLine) (leaf other : ℕ) (folder : Option (List ℕ)) → leaf < length book.folders
    → folder_of book leaf ≡ folder_in leaf lines
    → flattened (slice_get (set book.folders other folder) leaf) ≡ (if other == leaf then folder else folder_in leaf lines)
folder-set book lines leaf other folder within says =
    ap flattened (slice_get-set book.folders leaf other folder within)
    ∙ flattened-if (other == leaf) folder (slice_get book.folders leaf)
    ∙ ap (λ f. if other == leaf then folder else f) says

or_false : (b : Bool) → b ≡ (b || (false || false))
or_false true = refl
or_false false = refl

says-more : (book : Leaves) (lines : List BookLine) (line : BookLine) → Says book lines
    → ((leaf : ℕ) → leaf < length book.folders → folder_of (with_line line book) leaf ≡ folder_after leaf (folder_in leaf lines) line)
    → length (with_line line book).folders ≡ length book.folders
    → ((made : List ℕ) → is_barred (with_line line book) made ≡ (is_barred book made || (bars made line || false)))
    → Says (with_line line book) (lines ++ line ∷ [])
says-more book lines line says folders room barred = record {
  folders = λ leaf within.
      folders leaf (subst (λ n. leaf < n) room within) ∙ sym (fold_push (folder_after leaf) None lines line);
  barred = λ made.
      barred made ∙ ap (λ b. b || (bars made line || false)) (says.barred made) ∙ sym (list_any-append (bars made) lines (line ∷ []));
}

pub says_entry : (book : Leaves) (leaf : ℕ) (made : List ℕ) (lines : List BookLine) → Says book lines
    → Says (with_line (Enters leaf made) book) (lines ++ Enters leaf made ∷ [])
says_entry book leaf made lines says =
    says-more book lines (Enters leaf made) says
    (λ other within. folder-set book lines other leaf (Some made) within (says.folders other within))
    (length-set book.folders leaf (Some made))
    (λ other. or_false (is_barred book other))

pub says_free : (book : Leaves) (leaf : ℕ) (lines : List BookLine) → Says book lines
    → Says (with_line (Frees leaf) book) (lines ++ Frees leaf ∷ [])
says_free book leaf lines says =
    says-more book lines (Frees leaf) says
    (λ other within. folder-set book lines other leaf None within (says.folders other within))
    (length-set book.folders leaf None)
    (λ other. or_false (is_barred book other))

pub says_bar : (book : Leaves) (made : List ℕ) (lines : List BookLine) → Says book lines
    → Says (with_line (Bars made) book) (lines ++ Bars made ∷ [])
says_bar book made lines says =
    says-more book lines (Bars made) says says.folders refl
    (λ other. list_any-append (λ kept. bytes_eq kept other) book.barred (made ∷ []))

-- bars of several folders, one after another
pub says_bars : (book : Leaves) (made : List (List ℕ)) (lines : List BookLine) → Says book lines
    → Says (record book { barred = book.barred ++ made }) (lines ++ map Bars made)
says_bars book [] lines says =
    subst (λ (ls : List BookLine). Says (record book { barred = book.barred ++ [] }) ls) (sym (append-nil lines))
    (subst (λ folders. Says (record book { barred = folders }) lines) (sym (append-nil book.barred)) says)
says_bars book (one ∷ made) lines says =
    let rest = says_bars (with_line (Bars one) book) made (lines ++ Bars one ∷ []) (says_bar book one lines says) in
    subst (λ (ls : List BookLine). Says (record book { barred = book.barred ++ one ∷ made }) ls) (append_assoc lines (Bars one ∷ []) (map Bars made))
    (subst (λ folders. Says (record book { barred = folders }) ((lines ++ Bars one ∷ []) ++ map Bars made)) (append_assoc book.barred (one ∷ []) made) rest)

pub says_nothing : (count : ℕ) → Says (record { folders = replicate count None; barred = [] }) []
says_nothing count = record {
  folders = λ leaf within. none count leaf;
  barred = λ made. refl;
}
  where
    none : (count leaf : ℕ) → flattened (slice_get (replicate count None) leaf) ≡ None
    none zero leaf = refl
    none (suc count) zero = refl
    none (suc count) (suc leaf) = none count leaf

-- ---- a whole book

-- so much is read of the bytes: lines, and what they say
pub record ReadSoFar (bytes : List ℕ) (leaves line : ℕ) (book : Leaves) (rest : List ℕ) : Type 0 where
  pub lines : List BookLine
  pub good : AllByRecursion IsLine lines
  pub parts : bytes ≡ flat_map text_of lines ++ rest
  pub says : Says book lines
  pub room : length book.folders ≡ leaves + 1
  pub number : line ≡ length lines
  pub within : line + length rest ≤ length bytes

pub none-read : (bytes : List ℕ) (leaves : ℕ) (book : Leaves) → book ≡ record { folders = replicate (leaves + 1) None; barred = [] } → Says book []
    → ReadSoFar bytes leaves 0 book bytes
none-read bytes leaves book is says = record {
  lines = [];
  good = tt;
  parts = refl;
  says = says;
  room = ap (λ (b : Leaves). length b.folders) is ∙ length-replicate (leaves + 1) None;
  number = refl;
  within = omega arith;
}

pub one-read : (bytes : List ℕ) (leaves line : ℕ) (book new : Leaves) (rest after : List ℕ) (said : BookLine) → ReadSoFar bytes leaves line book rest
    → IsLine said → rest ≡ text_of said ++ after → new ≡ with_line said book
    → ((lines : List BookLine) → Says book lines → Says new (lines ++ said ∷ []))
    → ReadSoFar bytes leaves (line + 1) new after
one-read bytes leaves line book new rest after said so_far good begins is says = record {
  lines = so_far.lines ++ said ∷ [];
  good = all-more so_far.lines said so_far.good good;
  parts = text-more bytes so_far.lines said rest after so_far.parts begins;
  says = says so_far.lines so_far.says;
  room = ap (λ (b : Leaves). length b.folders) is ∙ room-same said book ∙ so_far.room;
  number = ap (λ n. n + 1) so_far.number ∙ sym (length-append so_far.lines (said ∷ []));
  within = omega (arith, so_far.within, ap length begins, length-append (text_of said) after, text-some said);
}
  where
    room-same : (line : BookLine) (book : Leaves) → length (with_line line book).folders ≡ length book.folders
    room-same (Enters leaf made) book = length-set book.folders leaf (Some made)
    room-same (Frees leaf) book = length-set book.folders leaf None
    room-same (Bars made) book = refl

    text-some : (line : BookLine) → 0 < length (text_of line)
    text-some (Enters leaf made) = omega arith
    text-some (Frees leaf) = omega arith
    text-some (Bars made) = omega arith

pub all-read : (bytes : List ℕ) (leaves line : ℕ) (book : Leaves) (rest : List ℕ) → ReadSoFar bytes leaves line book rest → rest ≡ []
    → IsRead bytes leaves book
all-read bytes leaves line book rest so_far none = record {
  lines = so_far.lines;
  are = (so_far.good, so_far.parts ∙ ap (λ r. flat_map text_of so_far.lines ++ r) none ∙ append-nil (flat_map text_of so_far.lines));
  says = so_far.says;
  room = so_far.room;
}

pub faulty-read : (bytes : List ℕ) (leaves line : ℕ) (book : Leaves) (rest : List ℕ) → ReadSoFar bytes leaves line book rest → 0 < length rest
    → ((said : BookLine) (after : List ℕ) → IsLine said → rest ≡ text_of said ++ after → ⊥) → IsFaulty bytes (record { line = line + 1 })
faulty-read bytes leaves line book rest so_far more none = record {
  lines = so_far.lines;
  rest = rest;
  parts = so_far.parts;
  good = so_far.good;
  number = ap (λ n. n + 1) so_far.number;
  more = more;
  none = none;
}

-- ---- what the definitions mean

-- lines about others change nothing
unnamed : (leaf : ℕ) (kept : Option (List ℕ)) (lines : List BookLine) → list_any (names leaf) lines ≡ false → fold (folder_after leaf) kept lines ≡ kept
unnamed leaf kept [] none = refl
unnamed leaf kept (line ∷ lines) none =
    let apart = or-neither (names leaf line) (list_any (names leaf) lines) none in
    ap (λ k. fold (folder_after leaf) k lines) (other line apart.0) ∙ unnamed leaf kept lines apart.1
  where
    or-neither : (a b : Bool) → (a || b) ≡ false → (a ≡ false) × (b ≡ false)
    or-neither true b none = absurd (true≢false none)
    or-neither false b none = (refl, none)

    other : (line : BookLine) → names leaf line ≡ false → folder_after leaf kept line ≡ kept
    other (Enters n made) is = ap (λ (b : Bool). if b then Some made else kept) is
    other (Frees n) is = ap (λ (b : Bool). if b then None else kept) is
    other (Bars made) is = refl

-- the last line about a leaf says which folder it is
pub last_counts : (leaf : ℕ) (before after : List BookLine) (line : BookLine) → names leaf line ≡ true → list_any (names leaf) after ≡ false
    → folder_in leaf (before ++ line ∷ after) ≡ folder_in leaf (line ∷ [])
last_counts leaf before after line is none =
    fold-append (folder_after leaf) None before (line ∷ after)
    ∙ unnamed leaf (folder_after leaf (folder_in leaf before) line) after none ∙ own line is
  where
    own : (line : BookLine) → names leaf line ≡ true → folder_after leaf (folder_in leaf before) line ≡ folder_after leaf None line
    own (Enters n made) named =
        ap (λ (b : Bool). if b then Some made else folder_in leaf before) named ∙ sym (ap (λ (b : Bool). if b then Some made else None) named)
    own (Frees n) named =
        ap (λ (b : Bool). if b then None else folder_in leaf before) named ∙ sym (ap (λ (b : Bool). if b then None else None) named)
    own (Bars made) named = absurd (true≢false (sym named))

-- a barred folder stays barred
pub barred_stays : (lines more : List BookLine) (leaf : ℕ) (made : List ℕ) → is_barred_in made lines ≡ true → place_in (lines ++ more) leaf made ≡ Barred
barred_stays lines more leaf made is =
    ap (λ (b : Bool). if b then Barred else place_beside (folder_in leaf (lines ++ more)) made)
    (list_any-append (bars made) lines more ∙ ap (λ b. b || list_any (bars made) more) is)
