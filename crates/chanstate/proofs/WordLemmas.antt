-- Those whom a list of names names, one word after the other.
use Rattle.std.proofs.Common.{◌≡◌, ℕ, ◌<◌, Bool, true, false, ◌||◌, List, [], ◌∷◌, ◌++◌}
use Rattle.std.proofs.Common.{Option, None, Some, length, get_or, map, refl, sym, ap, ◌∙◌, zero, suc, arith}
use Rattle.std.specs.List.{filter_map, cons_option, list_any}
use Rattle.std.specs.Option.{option_to_list}
use Rattle.std.proofs.lemmas.List.{map-append}
use Rattle.std.proofs.lemmas.List.Elements.{filter_map-append}
use Rattle.chanstate.specs.declared.member.Member.{Member}
use Rattle.chanstate.specs.Firsts.{first_changed}
use Rattle.chanstate.specs.declared.support.Support.{Support}
use Rattle.chanstate.specs.Items.{named}
use Rattle.chanstate.specs.Members.{shown_each, is_called, with_marks_of}
use denote.Ref.{Bor}
use Rattle.rfccase.specs.declared.casemappings.Casemapping.{Casemapping}

one_word : {X Y : Type 0} (h : X → Option Y) (x : X) → filter_map h (x ∷ []) ≡ option_to_list (h x)
one_word {Y = Y} h x = by (h x)
  where
    by : (o : Option Y) → cons_option o [] ≡ option_to_list o
    by None = refl
    by (Some y) = refl

-- one more word
pub named_more : (sup : Support) (words : List (Bor (List ℕ))) (word : Bor (List ℕ))
    → filter_map (named sup) (map (λ x. x.now) (words ++ word ∷ []))
    ≡ filter_map (named sup) (map (λ x. x.now) words) ++ option_to_list (named sup word.now)
named_more sup words word =
    ap (filter_map (named sup)) (map-append (λ x. x.now) words (word ∷ []))
    ∙ filter_map-append (named sup) (map (λ x. x.now) words) (word.now ∷ [])
    ∙ ap (λ ms. filter_map (named sup) (map (λ x. x.now) words) ++ ms) (one_word (named sup) word.now)

pub shown_each-append : (mapping : Casemapping) (xs ys ms : List Member) → shown_each mapping (xs ++ ys) ms ≡ shown_each mapping ys (shown_each mapping xs ms)
shown_each-append mapping [] ys ms = refl
shown_each-append mapping (x ∷ xs) ys ms = shown_each-append mapping xs ys (first_changed (is_called mapping x.nick) (with_marks_of x) ms)

-- one word among those of a list
front : {Y : Type 0} (p : Y → Bool) (o : Option Y) (ys : List Y) → list_any p (option_to_list o) ≡ true → list_any p (cons_option o ys) ≡ true
front p None ys is = cc
front p (Some y) ys is = by (p y) is
  where
    by : (b : Bool) → (b || false) ≡ true → (b || list_any p ys) ≡ true
    by true e = refl
    by false e = cc

back : {Y : Type 0} (p : Y → Bool) (o : Option Y) (ys : List Y) → list_any p ys ≡ true → list_any p (cons_option o ys) ≡ true
back p None ys is = is
back p (Some y) ys is = by (p y)
  where
    by : (b : Bool) → (b || list_any p ys) ≡ true
    by true = refl
    by false = is

pub named_among : {Y : Type 0} (h : List ℕ → Option Y) (p : Y → Bool) (words : List (List ℕ)) (i : ℕ) (word : List ℕ) → i < length words
    → word ≡ get_or words i word → list_any p (option_to_list (h word)) ≡ true → list_any p (filter_map h words) ≡ true
named_among h p [] i word less at is = absurd (let less : i < 0 = less in omega arith)
named_among h p (w ∷ ws) zero word less at is = front p (h w) (filter_map h ws) (ap (λ v. list_any p (option_to_list (h v))) (sym at) ∙ is)
named_among h p (w ∷ ws) (suc i) word less at is =
    let less : suc i < suc (length ws) = less in
    back p (h w) (filter_map h ws) (named_among h p ws i word (omega arith) at is)
