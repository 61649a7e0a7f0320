-- Items one after the other, and their count before them.
use Rattle.std.proofs.Common.{◌≡◌, ℕ, zero, suc, ◌+◌, ◌<◌, ◌^◌, List, [], ◌∷◌, ◌++◌, length, Result, Ok, Err, IfOk, IfErr, sym, ap, subst, ◌∙◌, append_assoc, arith}
use Rattle.std.proofs.lemmas.List.{length-append}
use Rattle.std.specs.Int.{w16}
use Rattle.std.specs.List.{flat_map}
use Rattle.usercodec.specs.Fields.{number, Reading, ◌>>=◌, number_at}
use Rattle.usercodec.specs.Records.{items_at}
use Rattle.usercodec.proofs.Steps.{IsBytes, bind_ok, Takes, Takes-then}
use Rattle.bytetext.specs.declared.failure.Failure.{Failure}
use Rattle.bytetext.specs.declared.failure.Failure.TheVariants.{Refused, NoMemory}
use Rattle.usercodec.specs.Answers.{Fails, Finds}
use Rattle.usercodec.specs.declared.fault.CodecFault.{CodecFault}
use Rattle.botjournal.specs.Bases.{listed, listed_at, AreListed}
use Rattle.botjournal.specs.Empty.{FailsSome, FindsSome}
use Rattle.usercodec.proofs.PartLaws.{IsPart}
use Rattle.usercodec.proofs.ReaderLaws.{u16_part}
use Rattle.usercodec.proofs.ItemSteps.{alone}
use Rattle.usercodec.proofs.ItemLaws.{items_take, items_again, all_good, good_all}

pub listed_part : {A : Type 0} {item_at : List ℕ → Reading A} {spelling : A → List ℕ} {IsGood : A → Type 0} → IsPart item_at spelling IsGood
    → IsPart (listed_at item_at) (listed spelling) (AreListed IsGood)
listed_part {A = A} {item_at = item_at} {spelling = spelling} {IsGood = IsGood} part = record { takes = takes; again = again }
  where
    takes : (bytes : List ℕ) (x : List A) (rest : List ℕ) → IsBytes bytes → listed_at item_at bytes ≡ Ok (x, rest)
        → Takes bytes (listed spelling x) rest × AreListed IsGood x
    takes bytes x rest fits e =
        let a = bind_ok (number_at w16 bytes) (λ count. items_at (alone item_at) count.0 [] count.1) (x, rest) e in
        let t = u16_part.takes bytes a.0.0 a.0.1 fits a.1 in
        let u = items_take (alone item_at) spelling (λ before. IsGood) (λ before. part) a.0.0 [] a.0.1 x rest t.0.rest_fits a.2 in
        let whole : Takes bytes (listed spelling u.later) rest =
        subst (λ (n : ℕ). Takes bytes (number w16 n ++ flat_map spelling u.later) rest) (sym u.so_many)
        (Takes-then bytes (number w16 a.0.0) a.0.1 (flat_map spelling u.later) rest t.0 u.front) in
        let few : length u.later < 2 ^ 16 = omega (arith, u.so_many, t.1) in
        subst (λ (y : List A). Takes bytes (listed spelling y) rest × AreListed IsGood y) (sym u.all_are) (whole, (few, all_good IsGood [] u.later u.good))

    again : (x : List A) (rest : List ℕ) → AreListed IsGood x → listed_at item_at (listed spelling x ++ rest) ≡ Ok (x, rest)
    again x rest good =
        let grouped : listed spelling x ++ rest ≡ number w16 (length x) ++ (flat_map spelling x ++ rest) =
        append_assoc (number w16 (length x)) (flat_map spelling x) rest in
        ap (listed_at item_at) grouped
        ∙ ap (λ r. r >>= λ count. items_at (alone item_at) count.0 [] count.1) (u16_part.again (length x) (flat_map spelling x ++ rest) good.0)
        ∙ items_again (alone item_at) spelling (λ before. IsGood) (λ before. part) [] x rest (good_all IsGood [] x good.1)

-- ---- how many

-- so many items are read after those that are held
as_many : {A : Type 0} (item_at : List A → List ℕ → Reading A) (count : ℕ) (held : List A) (bytes : List ℕ)
    → IfOk (items_at item_at count held bytes) (λ x. length x.0 ≡ length held + count)
unfolding items_at
as_many item_at zero held bytes = omega arith
as_many {A = A} item_at (suc more) held bytes =
    by (item_at held bytes) (λ item. as_many item_at more (held ++ item.0 ∷ []) item.1)
  where
    counted : (item : A) (read : Reading (List A)) → IfOk read (λ x. length x.0 ≡ length (held ++ item ∷ []) + more)
        → IfOk read (λ x. length x.0 ≡ length held + suc more)
    counted item (Ok x) many = let longer = length-append held (item ∷ []) in omega (arith, many, longer)
    counted item (Err fault) many = tt

    by : (read : Reading A)
        → ((item : A × List ℕ)
        → IfOk (items_at item_at more (held ++ item.0 ∷ []) item.1) (λ x. length x.0 ≡ length (held ++ item.0 ∷ []) + more))
        → IfOk (read >>= λ item. items_at item_at more (held ++ item.0 ∷ []) item.1) (λ x. length x.0 ≡ length held + suc more)
    by (Ok item) many = counted item.0 (items_at item_at more (held ++ item.0 ∷ []) item.1) (many item)
    by (Err fault) many = tt

-- so of a count above 0 some are read
pub some_items : {A : Type 0} (item_at : List A → List ℕ → Reading A) (count : ℕ) (bytes : List ℕ) → 0 < count
    → IfOk (items_at item_at count [] bytes) (λ x. 0 < length x.0)
some_items {A = A} item_at count bytes above = by (items_at item_at count [] bytes) (as_many item_at count [] bytes)
  where
    by : (read : Reading (List A)) → IfOk read (λ x. length x.0 ≡ 0 + count) → IfOk read (λ x. 0 < length x.0)
    by (Ok x) many = omega (arith, many, above)
    by (Err fault) many = tt

-- so what fails in such a list may have run out of memory
pub some_fail : {A : Type 0} (item_at : List A → List ℕ → Reading A) (count : ℕ) (bytes : List ℕ) (error : Failure CodecFault) → 0 < count
    → Fails error (items_at item_at count [] bytes) → FailsSome (λ x. 0 < length x.0) error (items_at item_at count [] bytes)
some_fail item_at count bytes (Refused fault) above fails = fails
some_fail item_at count bytes NoMemory above fails = some_items item_at count bytes above

pub some_found : {A B : Type 0} (view : A → List B × List ℕ) (item_at : List B → List ℕ → Reading B) (count : ℕ) (bytes : List ℕ)
    (result : Result A (Failure CodecFault)) → Finds view result (items_at item_at count [] bytes) → IfErr result (λ _. 0 < count)
    → FindsSome view (λ x. 0 < length x.0) result (items_at item_at count [] bytes)
some_found view item_at count bytes (Ok x) found some = found
some_found view item_at count bytes (Err error) found some = some_fail item_at count bytes error some found
