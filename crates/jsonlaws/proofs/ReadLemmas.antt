-- A text is read as the value that it spells, whatever follows it.
use Rattle.std.proofs.Common.{◌≡◌, ℕ, Bool, true, false, cond, List, [], ◌∷◌, ◌++◌, refl, sym, ap, ap₂, ◌∙◌, append_assoc, true≢false, codes}
use Rattle.std.specs.List.{flat_map, list_all}
use Rattle.std.proofs.lemmas.Bool.{and_parts}
use Rattle.std.proofs.Math.Utf8.{encodes}
use Rattle.json.specs.Token.{Token}
use Rattle.json.specs.Word.{ends_word, word}
use Rattle.json.specs.Lex.{Lexeme, token, comma, colon, string_token, lex, between, Place, fresh, after_value, after_comma, after_key, begins_colon, may_begin, punctuate}
use Rattle.json.specs.Json.{Json, null, boolean, number, string, array, object, Members, no_members, member}
use Rattle.json.specs.Print.{IsNumber}
use Rattle.json.specs.Tree.{json_tokens, items_tokens, members_tokens}
use Rattle.json.proofs.Printed.Numbers.{lex-number, in_word-ended}
use Rattle.recordjson.specs.Words.{first, listed, next, quoted}
use Rattle.jsonlaws.specs.Strings.{is_byte}
use Rattle.jsonlaws.specs.Values.{items_of}
use Rattle.jsonlaws.proofs.StringLemmas.{content-spelled, lex-quoted}

-- where a value may begin, this text gives the value's tokens
pub record ReadsValue (text : List ℕ) (j : Json) : Type 0 where
  pub reads : (p : Place) (r : List ℕ) → may_begin p ≡ true → ends_word r ≡ true → begins_colon (lex between r) ≡ false
      → punctuate p (lex between (text ++ r)) ≡ json_tokens j ++ punctuate after_value (lex between r)

-- after a value of an object, this text gives the other members, and the object's end
pub record ReadsRest (text : List ℕ) (ms : Members) : Type 0 where
  pub ends : (r : List ℕ) → ends_word (text ++ r) ≡ true
  pub no_colon : (r : List ℕ) → begins_colon (lex between (text ++ r)) ≡ false
  pub reads : (r : List ℕ) → punctuate after_value (lex between (text ++ r)) ≡ members_tokens ms ++ punctuate after_value (lex between r)

-- ---- one token

module _ (ls : List Lexeme) where
  punctuate-string : (p : Place) (s : List ℕ) → may_begin p ≡ true → begins_colon ls ≡ false
      → punctuate p (token (Token.string s) ∷ ls) ≡ Token.string s ∷ punctuate after_value ls
  unfolding punctuate
  punctuate-string fresh s m n = rw n refl
  punctuate-string after_value s m n = absurd (true≢false (sym m))
  punctuate-string after_comma s m n = rw n refl
  punctuate-string after_key s m n = absurd (true≢false (sym m))

  punctuate-number : (p : Place) (s : List ℕ) → may_begin p ≡ true → punctuate p (token (Token.number s) ∷ ls) ≡ Token.number s ∷ punctuate after_value ls
  unfolding punctuate
  punctuate-number fresh s m = refl
  punctuate-number after_value s m = absurd (true≢false (sym m))
  punctuate-number after_comma s m = refl
  punctuate-number after_key s m = absurd (true≢false (sym m))

  punctuate-boolean : (p : Place) (b : Bool) → may_begin p ≡ true → punctuate p (token (Token.boolean b) ∷ ls) ≡ Token.boolean b ∷ punctuate after_value ls
  unfolding punctuate
  punctuate-boolean fresh b m = refl
  punctuate-boolean after_value b m = absurd (true≢false (sym m))
  punctuate-boolean after_comma b m = refl
  punctuate-boolean after_key b m = absurd (true≢false (sym m))

  punctuate-null : (p : Place) → may_begin p ≡ true → punctuate p (token Token.null ∷ ls) ≡ Token.null ∷ punctuate after_value ls
  unfolding punctuate
  punctuate-null fresh m = refl
  punctuate-null after_value m = absurd (true≢false (sym m))
  punctuate-null after_comma m = refl
  punctuate-null after_key m = absurd (true≢false (sym m))

  punctuate-object : (p : Place) → may_begin p ≡ true → punctuate p (token Token.begin_object ∷ ls) ≡ Token.begin_object ∷ punctuate fresh ls
  unfolding punctuate
  punctuate-object fresh m = refl
  punctuate-object after_value m = absurd (true≢false (sym m))
  punctuate-object after_comma m = refl
  punctuate-object after_key m = absurd (true≢false (sym m))

  punctuate-array : (p : Place) → may_begin p ≡ true → punctuate p (token Token.begin_array ∷ ls) ≡ Token.begin_array ∷ punctuate fresh ls
  unfolding punctuate
  punctuate-array fresh m = refl
  punctuate-array after_value m = absurd (true≢false (sym m))
  punctuate-array after_comma m = refl
  punctuate-array after_key m = absurd (true≢false (sym m))

-- ---- values of one token

pub string_reads : (text : List ℕ) → list_all is_byte text ≡ true → ReadsValue (quoted text) (string (encodes text))
string_reads text h =
    record {
      reads = λ p r m e n.
          ap (punctuate p) (lex-quoted text r h ∙ ap (λ o. token (string_token o) ∷ lex between r) (content-spelled text r h))
          ∙ punctuate-string (lex between r) p (encodes text) m n;
    }

pub number_reads : (s : List ℕ) → IsNumber s → ReadsValue s (number s)
number_reads s h = record { reads = λ p r m e n. ap (punctuate p) (lex-number s r h e) ∙ punctuate-number (lex between r) p s m }

lex-null : (r : List ℕ) → ends_word r ≡ true → lex between (codes "null" ++ r) ≡ token Token.null ∷ lex between r
unfolding lex word
lex-null r e = ap₂ (λ b l. token (cond b Token.null Token.bad) ∷ l) e (in_word-ended r e)

pub null_reads : ReadsValue (codes "null") null
null_reads = record { reads = λ p r m e n. ap (punctuate p) (lex-null r e) ∙ punctuate-null (lex between r) p m }

lex-true : (r : List ℕ) → ends_word r ≡ true → lex between (codes "true" ++ r) ≡ token (Token.boolean true) ∷ lex between r
unfolding lex word
lex-true r e = ap₂ (λ b l. token (cond b (Token.boolean true) Token.bad) ∷ l) e (in_word-ended r e)

lex-false : (r : List ℕ) → ends_word r ≡ true → lex between (codes "false" ++ r) ≡ token (Token.boolean false) ∷ lex between r
unfolding lex word
lex-false r e = ap₂ (λ b l. token (cond b (Token.boolean false) Token.bad) ∷ l) e (in_word-ended r e)

pub true_reads : ReadsValue (codes "true") (boolean true)
true_reads = record { reads = λ p r m e n. ap (punctuate p) (lex-true r e) ∙ punctuate-boolean (lex between r) p true m }

pub false_reads : ReadsValue (codes "false") (boolean false)
false_reads = record { reads = λ p r m e n. ap (punctuate p) (lex-false r e) ∙ punctuate-boolean (lex between r) p false m }

-- ---- objects

-- a name between quotes, and its colon
abbrev pub Names : List ℕ → Type 0
Names name = (r : List ℕ) → lex between (34 ∷ (name ++ 34 ∷ 58 ∷ r)) ≡ token (Token.string name) ∷ colon ∷ lex between r

regroup : (a b c d r : List ℕ) → ((a ++ b) ++ (c ++ d)) ++ r ≡ a ++ (b ++ (c ++ (d ++ r)))
regroup a b c d r = append_assoc (a ++ b) (c ++ d) r ∙ append_assoc a b ((c ++ d) ++ r) ∙ ap (λ l. a ++ (b ++ l)) (append_assoc c d r)

module _ {name text rest : List ℕ} {j : Json} {ms : Members} (is_name : Names name) (value : ReadsValue text j) (others : ReadsRest rest ms) where
  after_name : (r : List ℕ) → punctuate fresh (lex between (text ++ (rest ++ r))) ≡ (json_tokens j ++ members_tokens ms) ++ punctuate after_value (lex between r)
  after_name r =
      value.reads fresh (rest ++ r) refl (others.ends r) (others.no_colon r) ∙ ap (λ l. json_tokens j ++ l) (others.reads r)
      ∙ sym (append_assoc (json_tokens j) (members_tokens ms) _)

  first_lexemes : (r : List ℕ) → lex between ((first name ++ (text ++ rest)) ++ r) ≡ token Token.begin_object ∷ token (Token.string name) ∷ colon ∷ lex between (text ++ (rest ++ r))
  unfolding first lex
  first_lexemes r =
      ap (λ l. lex between (123 ∷ 34 ∷ l)) (regroup name (34 ∷ 58 ∷ []) text rest r)
      ∙ ap (λ l. token Token.begin_object ∷ l) (is_name (text ++ (rest ++ r)))

  named : (r : List ℕ) (ls : List Lexeme) → punctuate fresh (token (Token.string name) ∷ colon ∷ ls) ≡ Token.key name ∷ punctuate fresh ls
  unfolding punctuate
  named r ls = refl

  pub object_reads : ReadsValue (first name ++ (text ++ rest)) (object (member name j ms))
  object_reads =
      record {
        reads = λ p r m e n.
            ap (punctuate p) (first_lexemes r) ∙ punctuate-object _ p m ∙ ap (λ l. Token.begin_object ∷ l) (named r _)
            ∙ ap (λ l. Token.begin_object ∷ Token.key name ∷ l) (after_name r);
      }

  next_lexemes : (r : List ℕ) → lex between ((next name ++ (text ++ rest)) ++ r) ≡ comma ∷ token (Token.string name) ∷ colon ∷ lex between (text ++ (rest ++ r))
  unfolding next lex
  next_lexemes r =
      ap (λ l. lex between (44 ∷ 34 ∷ l)) (regroup name (34 ∷ 58 ∷ []) text rest r) ∙ ap (λ l. comma ∷ l) (is_name (text ++ (rest ++ r)))

  next_named : (ls : List Lexeme) → punctuate after_value (comma ∷ token (Token.string name) ∷ colon ∷ ls) ≡ Token.key name ∷ punctuate fresh ls
  unfolding punctuate
  next_named ls = refl

  next_ends : (r : List ℕ) → ends_word ((next name ++ (text ++ rest)) ++ r) ≡ true
  unfolding next
  next_ends r = refl

  pub member_reads : ReadsRest (next name ++ (text ++ rest)) (member name j ms)
  member_reads =
      record {
        ends = next_ends;
        no_colon = λ r. ap begins_colon (next_lexemes r);
        reads = λ r. ap (punctuate after_value) (next_lexemes r) ∙ next_named _ ∙ ap (λ l. Token.key name ∷ l) (after_name r);
      }

pub end_reads : ReadsRest (codes "}") no_members
unfolding lex punctuate
end_reads = record { ends = λ r. refl; no_colon = λ r. refl; reads = λ r. refl }

-- ---- lists

abbrev pub AllRead : {A : Type 0} → (A → List ℕ) → (A → Json) → List A → Type 0
AllRead f g [] = Unit {0}
AllRead f g (x ∷ xs) = ReadsValue (f x) (g x) × AllRead f g xs

pub all_read : {A : Type 0} (f : A → List ℕ) (g : A → Json) (fits : A → Bool) → ((x : A) → fits x ≡ true → ReadsValue (f x) (g x)) → (xs : List A)
    → list_all fits xs ≡ true → AllRead f g xs
all_read f g fits each [] h = tt
all_read f g fits each (x ∷ xs) h = let parts = and_parts _ _ h in (each x parts.0, all_read f g fits each xs parts.1)

module _ {A : Type 0} (f : A → List ℕ) (g : A → Json) where
  -- the members after the first, and the bracket
  abbrev tail : List A → List ℕ → List ℕ
  tail xs r = flat_map (λ y. 44 ∷ f y) xs ++ 93 ∷ r

  tail_ends : (xs : List A) (r : List ℕ) → ends_word (tail xs r) ≡ true
  tail_ends [] r = refl
  tail_ends (x ∷ xs) r = refl

  tail_no_colon : (xs : List A) (r : List ℕ) → begins_colon (lex between (tail xs r)) ≡ false
  unfolding lex
  tail_no_colon [] r = refl
  tail_no_colon (x ∷ xs) r = refl

  next_item : (x : A) (xs : List A) (r : List ℕ) → punctuate after_value (lex between (tail (x ∷ xs) r)) ≡ punctuate after_comma (lex between (f x ++ tail xs r))
  unfolding lex punctuate
  next_item x xs r = ap (λ l. punctuate after_comma (lex between l)) (append_assoc (f x) (flat_map (λ y. 44 ∷ f y) xs) (93 ∷ r))

  last_item : (r : List ℕ) → punctuate after_value (lex between (93 ∷ r)) ≡ Token.end_array ∷ punctuate after_value (lex between r)
  unfolding lex punctuate
  last_item r = refl

  tail_reads : (xs : List A) (r : List ℕ) → AllRead f g xs
      → punctuate after_value (lex between (tail xs r)) ≡ items_tokens (items_of g xs) ++ punctuate after_value (lex between r)
  tail_reads [] r h = last_item r
  tail_reads (x ∷ xs) r h =
      next_item x xs r ∙ h.0.reads after_comma (tail xs r) refl (tail_ends xs r) (tail_no_colon xs r)
      ∙ ap (λ l. json_tokens (g x) ++ l) (tail_reads xs r h.1) ∙ sym (append_assoc (json_tokens (g x)) (items_tokens (items_of g xs)) _)

  empty_list : (r : List ℕ) → punctuate fresh (lex between (93 ∷ r)) ≡ Token.end_array ∷ punctuate after_value (lex between r)
  unfolding lex punctuate
  empty_list r = refl

  inside : (xs : List A) (r : List ℕ) → AllRead f g xs
      → punctuate fresh (lex between (listed f xs ++ 93 ∷ r)) ≡ items_tokens (items_of g xs) ++ punctuate after_value (lex between r)
  inside [] r h = empty_list r
  inside (x ∷ xs) r h =
      ap (λ l. punctuate fresh (lex between l)) (append_assoc (f x) (flat_map (λ y. 44 ∷ f y) xs) (93 ∷ r))
      ∙ h.0.reads fresh (tail xs r) refl (tail_ends xs r) (tail_no_colon xs r)
      ∙ ap (λ l. json_tokens (g x) ++ l) (tail_reads xs r h.1) ∙ sym (append_assoc (json_tokens (g x)) (items_tokens (items_of g xs)) _)

  opened : (xs : List A) (r : List ℕ) → lex between ((91 ∷ (listed f xs ++ 93 ∷ [])) ++ r) ≡ token Token.begin_array ∷ lex between (listed f xs ++ 93 ∷ r)
  unfolding lex
  opened xs r = ap (λ l. token Token.begin_array ∷ lex between l) (append_assoc (listed f xs) (93 ∷ []) r)

  pub array_reads : (xs : List A) → AllRead f g xs → ReadsValue (91 ∷ (listed f xs ++ 93 ∷ [])) (array (items_of g xs))
  array_reads xs h =
      record {
        reads = λ p r m e n. ap (punctuate p) (opened xs r) ∙ punctuate-array _ p m ∙ ap (λ l. Token.begin_array ∷ l) (inside xs r h);
      }
