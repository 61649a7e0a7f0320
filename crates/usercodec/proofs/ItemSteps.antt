-- Reading items one after the other, as a loop does.
use Rattle.std.proofs.Common.{◌≡◌, ℕ, suc, ◌-◌, ◌+◌, ◌≤◌, ◌<◌, List, [], ◌∷◌, ◌++◌, Ok, Err, refl, sym, ap, ◌∙◌, arith}
use Rattle.bytetext.specs.declared.failure.Failure.{Failure}
use Rattle.bytetext.specs.declared.failure.Failure.TheVariants.{Refused, NoMemory}
use Rattle.usercodec.specs.declared.fault.CodecFault.{CodecFault}
use Rattle.usercodec.specs.Answers.{Tells, MayTell, Fails}
use Rattle.usercodec.specs.Fields.{Reading}
use Rattle.usercodec.specs.Records.{items_at}

pub goes_on : {A : Type 0} (item_at : List A → List ℕ → Reading A) (count i : ℕ) (held : List A) (bytes : List ℕ) (item : A) (after : List ℕ)
    (total : Reading (List A)) (seen : List A)
    → i < count → seen ≡ held → item_at seen bytes ≡ Ok (item, after) → items_at item_at (count - i) held bytes ≡ total
    → items_at item_at (count - (i + 1)) (held ++ item ∷ []) after ≡ total
unfolding items_at
goes_on item_at count i held bytes item after total seen lt same at_seen so_far =
    let found : item_at held bytes ≡ Ok (item, after) = ap (λ h. item_at h bytes) (sym same) ∙ at_seen in
    let k : count - i ≡ suc (count - (i + 1)) = omega arith in
    let one : items_at item_at (count - i) held bytes ≡ items_at item_at (count - (i + 1)) (held ++ item ∷ []) after = rw (k, found) refl in
    sym one ∙ so_far

pub ends : {A : Type 0} (item_at : List A → List ℕ → Reading A) (error : Failure CodecFault) (count i : ℕ) (held : List A) (bytes : List ℕ)
    (total : Reading (List A)) (seen : List A)
    → i < count → seen ≡ held → Tells error (item_at seen bytes) → items_at item_at (count - i) held bytes ≡ total → Tells error total
unfolding items_at
ends item_at NoMemory count i held bytes total seen lt same told so_far = told
ends item_at (Refused fault) count i held bytes total seen lt same at_seen so_far =
    let told : item_at held bytes ≡ Err fault = ap (λ h. item_at h bytes) (sym same) ∙ at_seen in
    let k : count - i ≡ suc (count - (i + 1)) = omega arith in
    let one : items_at item_at (count - i) held bytes ≡ Err fault = rw (k, told) refl in
    sym so_far ∙ one

pub is_done : {A : Type 0} (item_at : List A → List ℕ → Reading A) (count i : ℕ) (held : List A) (bytes : List ℕ) (total : Reading (List A))
    → count ≤ i → items_at item_at (count - i) held bytes ≡ total → total ≡ Ok (held, bytes)
unfolding items_at
is_done item_at count i held bytes total le so_far =
    let k : count - i ≡ 0 = omega arith in
    let one : items_at item_at (count - i) held bytes ≡ Ok (held, bytes) = rw k refl in
    sym so_far ∙ one

-- ---- items that are copied

-- each item read by itself
abbrev pub alone : {A : Type 0} → (List ℕ → Reading A) → List A → List ℕ → Reading A
alone item_at held bytes = item_at bytes

pub fails_told : {A : Type 0} (error : Failure CodecFault) (reading : Reading A) → Tells error reading → Fails error reading
fails_told (Refused fault) reading told = told
fails_told NoMemory reading told = tt

pub fails_may : {A : Type 0} (error : Failure CodecFault) (reading : Reading A) → MayTell error reading → Fails error reading
fails_may (Refused fault) reading told = told
fails_may NoMemory reading told = tt

pub fails : {A : Type 0} (item_at : List A → List ℕ → Reading A) (error : Failure CodecFault) (count i : ℕ) (held : List A) (bytes : List ℕ)
    (total : Reading (List A)) → i < count → Fails error (item_at held bytes) → items_at item_at (count - i) held bytes ≡ total → Fails error total
unfolding items_at
fails item_at NoMemory count i held bytes total lt told so_far = tt
fails item_at (Refused fault) count i held bytes total lt told so_far =
    let k : count - i ≡ suc (count - (i + 1)) = omega arith in
    let one : items_at item_at (count - i) held bytes ≡ Err fault = rw (k, told) refl in
    sym so_far ∙ one
