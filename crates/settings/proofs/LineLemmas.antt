-- Lines read one after another.
use Rattle.std.proofs.Common.{◌≡◌, ◌∙◌, ℕ, suc, ◌+◌, ◌<◌, ◌≤◌, Bool, if◌then◌else◌, List, [], ◌∷◌, length, map, drop, get_or, ap, sym, refl, None, Some, Result, Ok, Err, add-one}
use Rattle.std.specs.Borrow.{Bor}
use Rattle.std.proofs.lemmas.Bool.{le-ltb}
use Rattle.std.proofs.lemmas.List.{drop_more, drop_all, length-map, get_or-map}
use Rattle.bytetext.specs.declared.failure.Failure.{Failure}
use Rattle.bytetext.specs.declared.failure.Failure.TheVariants.{Refused, NoMemory}
use Rattle.settings.specs.declared.TheConstants.{MAX_FILE}
use Rattle.settings.specs.declared.settings.Settings.{Settings}
use Rattle.settings.specs.declared.advice.SettingAdvice.{SettingAdvice}
use Rattle.settings.specs.declared.fault.SettingsFault.{SettingsFault}
use Rattle.settings.specs.declared.fault.SettingsFault.TheVariants.{TooLong, Line}
use Rattle.settings.specs.declared.draft.Draft.{Draft}
use Rattle.settings.specs.declared.saying.SettingSaying.{SettingSaying}
use Rattle.settings.specs.Grammar.{saying_of}
use Rattle.settings.specs.Drafts.{refusal_of, added}
use Rattle.settings.specs.Reading.{read_from, unless, lines_of, lines_read, said_by, said_together, settings_in, Answers, ReadsAs}

-- the lines of a slice of lines
abbrev pub now_of : List (Bor (List ℕ)) → List (List ℕ)
now_of lines = map (λ line. line.now) lines

-- the next line
next_of : (lines : List (Bor (List ℕ))) (i : ℕ) (d : Bor (List ℕ)) → i < length lines
    → drop i (now_of lines) ≡ (get_or lines i d).now ∷ drop (i + 1) (now_of lines)
next_of lines i d within =
    let inside : i < length (now_of lines) = rw length-map within in
    drop_more (now_of lines) i [] inside
    ∙ ap (λ line. line ∷ drop (i + 1) (now_of lines)) (get_or-map (λ l. l.now) lines i d [] within)

read_from-cons : (draft : Draft) (n : ℕ) (bytes : List ℕ) (lines : List (List ℕ))
    → read_from draft n (bytes ∷ lines) ≡ unless (refusal_of draft (saying_of bytes)) n (read_from (added n draft (saying_of bytes)) (suc n) lines)
unfolding read_from
read_from-cons draft n bytes lines = refl

read_from-none : (draft : Draft) (n : ℕ) → read_from draft n [] ≡ Ok draft
unfolding read_from
read_from-none draft n = refl

-- what a line of this saying does to the reading
steps : (draft : Draft) (n : ℕ) (lines : List (Bor (List ℕ))) (i : ℕ) (d : Bor (List ℕ)) (saying : SettingSaying) → i < length lines
    → saying ≡ saying_of (get_or lines i d).now
    → read_from draft n (drop i (now_of lines)) ≡ unless (refusal_of draft saying) n (read_from (added n draft saying) (suc n) (drop (i + 1) (now_of lines)))
steps draft n lines i d saying within is =
    ap (read_from draft n) (next_of lines i d within)
    ∙ read_from-cons draft n (get_or lines i d).now (drop (i + 1) (now_of lines))
    ∙ ap (λ said. unless (refusal_of draft said) n (read_from (added n draft said) (suc n) (drop (i + 1) (now_of lines)))) (sym is)

-- it goes on
pub read_from-more : (old new : Draft) (lines : List (Bor (List ℕ))) (i : ℕ) (d : Bor (List ℕ)) (saying : SettingSaying) (said : Result Draft SettingsFault)
    → i < length lines → read_from old (i + 1) (drop i (now_of lines)) ≡ said → saying ≡ saying_of (get_or lines i d).now
    → refusal_of old saying ≡ None → new ≡ added (i + 1) old saying
    → read_from new (i + 1 + 1) (drop (i + 1) (now_of lines)) ≡ said
read_from-more old new lines i d saying said within so_far is goes new_is =
    ap (λ draft. read_from draft (i + 1 + 1) (drop (i + 1) (now_of lines))) new_is
    ∙ ap (λ n. read_from (added (i + 1) old saying) n (drop (i + 1) (now_of lines))) (add-one (i + 1))
    ∙ sym (ap (λ o. unless o (i + 1) (read_from (added (i + 1) old saying) (suc (i + 1)) (drop (i + 1) (now_of lines)))) goes)
    ∙ sym (steps old (i + 1) lines i d saying within is) ∙ so_far

-- or ends
pub read_from-ends : (old : Draft) (lines : List (Bor (List ℕ))) (i : ℕ) (d : Bor (List ℕ)) (saying : SettingSaying) (advice : SettingAdvice)
    (said : Result Draft SettingsFault)
    → i < length lines → read_from old (i + 1) (drop i (now_of lines)) ≡ said → saying ≡ saying_of (get_or lines i d).now
    → refusal_of old saying ≡ Some advice → said ≡ Err (Line (i + 1) advice)
read_from-ends old lines i d saying advice said within so_far is ends =
    sym so_far ∙ steps old (i + 1) lines i d saying within is
    ∙ ap (λ o. unless o (i + 1) (read_from (added (i + 1) old saying) (suc (i + 1)) (drop (i + 1) (now_of lines)))) ends

-- after all lines
pub read_from-all : (draft : Draft) (lines : List (Bor (List ℕ))) (i : ℕ) (said : Result Draft SettingsFault)
    → length lines ≤ i → read_from draft (i + 1) (drop i (now_of lines)) ≡ said → said ≡ Ok draft
read_from-all draft lines i said over so_far =
    let none : length (now_of lines) ≤ i = rw length-map over in
    sym so_far ∙ ap (read_from draft (i + 1)) (drop_all i (now_of lines) none) ∙ read_from-none draft (i + 1)

-- ---- a whole file

settings_in-said : (bytes : List ℕ) (lines : List (Bor (List ℕ))) (draft : Draft)
    → length bytes ≤ MAX_FILE → now_of lines ≡ lines_of bytes → lines_read (now_of lines) ≡ Ok draft → settings_in bytes ≡ said_by draft
settings_in-said bytes lines draft short same read =
    ap (λ (b : Bool). if b then Err TooLong else said_together (lines_read (lines_of bytes))) (le-ltb MAX_FILE (length bytes) short)
    ∙ ap said_together (ap lines_read (sym same) ∙ read)

pub reads-as : (bytes : List ℕ) (lines : List (Bor (List ℕ))) (draft : Draft) (result : Result Settings (Failure SettingsFault))
    → length bytes ≤ MAX_FILE → now_of lines ≡ lines_of bytes → lines_read (now_of lines) ≡ Ok draft
    → Answers (said_by draft) result → ReadsAs bytes result
reads-as bytes lines draft (Ok settings) short same read said = settings_in-said bytes lines draft short same read ∙ said
reads-as bytes lines draft (Err (Refused fault)) short same read said = settings_in-said bytes lines draft short same read ∙ said
reads-as bytes lines draft (Err NoMemory) short same read said = short
