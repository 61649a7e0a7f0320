-- What lines say one after another.
use Rattle.std.proofs.Common.{◌≡◌, ℕ, suc, ◌+◌, ◌<◌, ◌≤◌, Bool, true, false, not, ◌||◌, ◌==◌, is_some, List, [], ◌∷◌, ◌++◌, length, take, drop, get_or, map, refl, sym, ap, ◌∙◌, subst, IsTrue}
use Rattle.std.proofs.Common.{Option, None, Some, arith, add-one}
use Rattle.std.proofs.Math.Dec.{eqb-suc-zero}
use Rattle.std.proofs.lemmas.List.{take_more, take_all}
use Rattle.std.specs.Borrow.{Bor}
use Rattle.std.proofs.lemmas.List.{length-map, get_or-map}
use Rattle.script.specs.declared.command.Command.{Command}
use Rattle.script.specs.declared.saying.Saying.{Saying}
use Rattle.script.specs.declared.saying.Saying.TheVariants.{Nothing, Leaves, Zone, Told, Wrong}
use Rattle.script.specs.declared.reading.Script.{Script}
use Rattle.script.specs.Grammar.{saying_of, saying_by_words, more_words}
use Rattle.bottimers.specs.Zones.{TzText}
use Rattle.script.specs.Vocabulary.{verb_named}
use Rattle.script.specs.Reading.{said, onto_said, are_told, are_told_in_zone, begins_script, zone_said, BreaksAt}
use Rattle.script.specs.Outcomes.{so_far, GoesOn, HasLineFault}

-- a line's saying, and then the rest
pub onto_said-append : (s : Saying) (xs ys : List Saying) → onto_said s (xs ++ ys) ≡ onto_said s xs ++ ys
onto_said-append Nothing xs ys = refl
onto_said-append (Leaves n) xs ys = refl
onto_said-append (Zone rule) xs ys = refl
onto_said-append (Told command) xs ys = refl
onto_said-append Wrong xs ys = refl

pub said-append : (xs ys : List (List ℕ)) → said (xs ++ ys) ≡ said xs ++ said ys
said-append [] ys = refl
said-append (x ∷ xs) ys = ap (onto_said (saying_of x)) (said-append xs ys) ∙ onto_said-append (saying_of x) (said xs) (said ys)

-- one more line is read
pub said-take_more : (lines : List (List ℕ)) (i : ℕ) → i < length lines
    → said (take (i + 1) lines) ≡ said (take i lines) ++ onto_said (saying_of (get_or lines i [])) []
said-take_more lines i within = ap said (take_more lines i [] within) ∙ said-append (take i lines) (get_or lines i [] ∷ [])

pub are_told-map : (commands : List Command) → are_told (map Told commands) ≡ true
are_told-map [] = refl
are_told-map (c ∷ cs) = are_told-map cs

pub are_told-append : (commands : List Command) (says : List Saying) → are_told (map Told commands ++ says) ≡ are_told says
are_told-append [] says = refl
are_told-append (c ∷ cs) says = are_told-append cs says

-- commands in a zone or in none
pub in_zone-map : (zone : Option TzText) (commands : List Command) → are_told_in_zone (zone_said zone ++ map Told commands) ≡ true
in_zone-map None [] = refl
in_zone-map None (c ∷ cs) = are_told-map cs
in_zone-map (Some rule) commands = are_told-map commands

-- and something that is no command after them; a zone is only where there is none and no command
in_zone-wrong : (zone : Option TzText) (commands : List Command) → are_told_in_zone ((zone_said zone ++ map Told commands) ++ Wrong ∷ []) ≡ false
in_zone-wrong None [] = refl
in_zone-wrong None (c ∷ cs) = are_told-append cs (Wrong ∷ [])
in_zone-wrong (Some rule) commands = are_told-append commands (Wrong ∷ [])

in_zone-leaves : (zone : Option TzText) (commands : List Command) (n : ℕ) → are_told_in_zone ((zone_said zone ++ map Told commands) ++ Leaves n ∷ []) ≡ false
in_zone-leaves None [] n = refl
in_zone-leaves None (c ∷ cs) n = are_told-append cs (Leaves n ∷ [])
in_zone-leaves (Some rule) commands n = are_told-append commands (Leaves n ∷ [])

-- a zone that is said, or commands, are no beginning
pub begun-late : (zone : Option TzText) (commands : List Command) → (commands ≡ [] → IsTrue false) → (is_some zone || not (length commands == 0)) ≡ true
begun-late (Some rule) commands some = refl
begun-late None [] some = cc (some refl)
begun-late None (c ∷ cs) some = cc (eqb-suc-zero (length cs))

in_zone-zone : (zone : Option TzText) (commands : List Command) (rule : TzText) → (is_some zone || not (length commands == 0)) ≡ true
    → are_told_in_zone ((zone_said zone ++ map Told commands) ++ Zone rule ∷ []) ≡ false
in_zone-zone None [] rule h = cc
in_zone-zone None (c ∷ cs) rule h = are_told-append cs (Zone rule ∷ [])
in_zone-zone (Some old) commands rule h = are_told-append commands (Zone rule ∷ [])

in_zone-added : (zone : Option TzText) (commands : List Command) (rule : TzText) → (is_some zone || not (length commands == 0)) ≡ false
    → Zone rule ∷ map Told commands ≡ (zone_said zone ++ map Told commands) ++ Zone rule ∷ []
in_zone-added None [] rule h = refl
in_zone-added None (c ∷ cs) rule h = cc (eqb-suc-zero (length cs))
in_zone-added (Some old) commands rule h = cc

-- what was read so far can go on
pub begins-so_far : (script : Option Script) → begins_script (so_far script) ≡ true
begins-so_far None = refl
begins-so_far (Some script) = in_zone-map script.zone script.commands

-- but not with a line that is wrong, nor with a second number of leaves, nor with a second or a late zone
pub wrong_after-so_far : (script : Option Script) → begins_script (so_far script ++ Wrong ∷ []) ≡ false
wrong_after-so_far None = refl
wrong_after-so_far (Some script) = in_zone-wrong script.zone script.commands

pub leaves_after-so_far : (script : Script) (n : ℕ) → begins_script (so_far (Some script) ++ Leaves n ∷ []) ≡ false
leaves_after-so_far script n = in_zone-leaves script.zone script.commands n

pub zone_after-so_far : (script : Script) (rule : TzText) → (is_some script.zone || not (length script.commands == 0)) ≡ true
    → begins_script (so_far (Some script) ++ Zone rule ∷ []) ≡ false
zone_after-so_far script rule late = in_zone-zone script.zone script.commands rule late

-- and a first and early one is added
pub so_far-zone : (script : Script) (rule : TzText) → (is_some script.zone || not (length script.commands == 0)) ≡ false
    → so_far (Some (record script { zone = Some rule })) ≡ so_far (Some script) ++ Zone rule ∷ []
so_far-zone script rule early = ap (λ (says : List Saying). Leaves script.leaves ∷ says) (in_zone-added script.zone script.commands rule early)

-- the front of what can go on can go on
pub are_told-front : (xs ys : List Saying) → are_told (xs ++ ys) ≡ true → are_told xs ≡ true
are_told-front [] ys h = refl
are_told-front (Told command ∷ xs) ys h = are_told-front xs ys h
are_told-front (Nothing ∷ xs) ys h = h
are_told-front (Leaves n ∷ xs) ys h = h
are_told-front (Zone rule ∷ xs) ys h = h
are_told-front (Wrong ∷ xs) ys h = h

in_zone-front : (xs ys : List Saying) → are_told_in_zone (xs ++ ys) ≡ true → are_told_in_zone xs ≡ true
in_zone-front [] ys h = refl
in_zone-front (Zone rule ∷ xs) ys h = are_told-front xs ys h
in_zone-front (Told command ∷ xs) ys h = are_told-front xs ys h
in_zone-front (Nothing ∷ xs) ys h = h
in_zone-front (Leaves n ∷ xs) ys h = h
in_zone-front (Wrong ∷ xs) ys h = h

pub begins-front : (xs ys : List Saying) → begins_script (xs ++ ys) ≡ true → begins_script xs ≡ true
begins-front [] ys h = refl
begins-front (Leaves n ∷ xs) ys h = in_zone-front xs ys h
begins-front (Zone rule ∷ xs) ys h = h
begins-front (Told command ∷ xs) ys h = h
begins-front (Nothing ∷ xs) ys h = h
begins-front (Wrong ∷ xs) ys h = h

-- the lines of a slice of lines
abbrev pub now_of : List (Bor (List ℕ)) → List (List ℕ)
now_of lines = map (λ line. line.now) lines

-- one more of them is read
pub said-more : (lines : List (Bor (List ℕ))) (i : ℕ) (d : Bor (List ℕ)) → i < length lines
    → said (take (i + 1) (now_of lines)) ≡ said (take i (now_of lines)) ++ onto_said (saying_of (get_or lines i d).now) []
said-more lines i d within =
    let inside : i < length (now_of lines) = rw length-map within in
    said-take_more (now_of lines) i inside
    ∙ ap (λ bytes. said (take i (now_of lines)) ++ onto_said (saying_of bytes) []) (get_or-map (λ l. l.now) lines i d [] within)

-- a line that goes on with the script is added to it
pub so_far-more : (lines : List (Bor (List ℕ))) (i : ℕ) (d : Bor (List ℕ)) (old new : Option Script) (saying : Saying) (good : Bool) → i < length lines
    → so_far old ≡ said (take i (now_of lines)) → saying ≡ saying_of (get_or lines i d).now → good ≡ true → GoesOn old saying good new
    → so_far new ≡ said (take (i + 1) (now_of lines))
so_far-more lines i d old new saying false within before e g on = cc
so_far-more lines i d old new saying true within before e g on =
    on ∙ ap (λ s. so_far old ++ onto_said s []) e ∙ ap (λ says. says ++ onto_said (saying_of (get_or lines i d).now) []) before
    ∙ sym (said-more lines i d within)

-- and one that doesn't is the first that breaks a rule
pub breaks-more : (lines : List (Bor (List ℕ))) (i : ℕ) (d : Bor (List ℕ)) (old new : Option Script) (saying : Saying) (good : Bool) → i < length lines
    → so_far old ≡ said (take i (now_of lines)) → saying ≡ saying_of (get_or lines i d).now → good ≡ false → GoesOn old saying good new
    → HasLineFault (now_of lines) (i + 1)
breaks-more lines i d old new saying true within before e g on = cc
breaks-more lines i d old new saying false within before e g on =
    let here : begins_script (said (take (i + 1) (now_of lines))) ≡ false =
    ap begins_script (said-more lines i d within ∙ ap (λ says. says ++ onto_said (saying_of (get_or lines i d).now) []) (sym before)
    ∙ ap (λ s. so_far old ++ onto_said s []) (sym e)) ∙ on in
    let next : begins_script (said (take (suc i) (now_of lines))) ≡ false = subst (λ n. begins_script (said (take n (now_of lines))) ≡ false) (add-one i) here
    in
    let broken : BreaksAt (now_of lines) i = record {
      within = rw length-map within;
      before = ap begins_script (sym before) ∙ begins-so_far old;
      here = next;
    } in
    subst (HasLineFault (now_of lines)) (sym (add-one i)) broken

-- an ask, word by word
pub more_words-at : (words : List (Bor (List ℕ))) (d : Bor (List ℕ)) (n : ℕ) → 3 ≤ length words → length words ≤ n + 3
    → more_words (verb_named (get_or words 0 d).now) (get_or words 1 d).now (get_or words 2 d).now (now_of (take n (drop 3 words))) ≡ saying_by_words
    (now_of words)
more_words-at [] d n most all = absurd (omega arith)
more_words-at (x ∷ []) d n most all = absurd (omega arith)
more_words-at (x ∷ y ∷ []) d n most all = absurd (omega arith)
more_words-at (x ∷ y ∷ z ∷ rest) d n most all = ap (λ ws. more_words (verb_named x.now) y.now z.now (now_of ws)) (take_all n rest (omega arith))
