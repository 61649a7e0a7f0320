-- A map's look-ups and additions, in terms of the names that it holds.
use Rattle.std.proofs.Common.{◌≡◌, ℕ, Bool, true, false, cond, ◌||◌, ◌&&◌, ◌==◌, List, [], ◌∷◌, ◌++◌, None, Some, is_some}
use Rattle.std.proofs.Common.{refl, sym, ap, subst, ◌∙◌, eqb-true, leb-false, ◌+◌, ◌<◌, ◌≤◌, length, nat_le, arith, length-append}
use Rattle.std.proofs.lemmas.List.{length-map, map-append}
use Rattle.std.specs.Prelude.{Result, Ok, Err}
use Rattle.std.specs.Map.{lookup}
use Rattle.std.specs.Str.{bytes_eq}
use Rattle.std.specs.declared.vec.Vec.{Vec}
use Rattle.std.specs.declared.alloc.Global.{Global}
use Rattle.indexmap.specs.IndexMap.{insert_entry}
use Rattle.bytetext.specs.declared.memory.NoMemory.{NoMemory}
use Rattle.procs.specs.declared.call.Call.{Call}
use Rattle.procs.specs.declared.reply.ProcReply.{ProcReply}
use Rattle.procs.specs.Named.{Named, names_of, AreKeyed}
use Rattle.procs.specs.Promises.{Promised, IsAllowed}
use Rattle.procs.specs.Seen.{Seen}
use Rattle.procs.specs.Calling.{holds, refusal, IsCalled, as_called}
use Rattle.procs.specs.declared.proc_fault.AddFault.TheVariants.{NameTaken, Full}
use Rattle.procs.specs.declared.limits.TheConstants.{MAX_PROCS}

-- ---- texts

-- texts with the same bytes are equal
pub bytes_eq-equal : (a b : List ℕ) → bytes_eq a b ≡ true → a ≡ b
bytes_eq-equal [] [] same = refl
bytes_eq-equal [] (y ∷ ys) same = cc
bytes_eq-equal (x ∷ xs) [] same = cc
bytes_eq-equal (x ∷ xs) (y ∷ ys) same = by (x == y) refl same (bytes_eq-equal xs ys)
  where
    by : (b : Bool) → (x == y) ≡ b → (b && bytes_eq xs ys) ≡ true → (bytes_eq xs ys ≡ true → xs ≡ ys) → x ∷ xs ≡ y ∷ ys
    by true heads tails rest = ap (λ n. n ∷ xs) (eqb-true x y heads) ∙ ap (λ l. y ∷ l) (rest tails)
    by false heads tails rest = cc

-- ---- entries

-- an entry of the map
abbrev pub Entry : Type 0 → Type 0
Entry B = Vec ℕ Global × Named B

-- the test by which a look-up goes
abbrev pub has_name : List ℕ → Vec ℕ Global → Bool
has_name name key = bytes_eq name key.items

-- a name is held exactly where a look-up by it finds a proc
pub holds-lookup : {B : Type 0} (name : List ℕ) (es : List (Entry B)) → holds (names_of es) name ≡ is_some (lookup (has_name name) es)
holds-lookup name [] = refl
holds-lookup name (x ∷ xs) = by (has_name name x.0) (holds-lookup name xs)
  where
    by : (b : Bool) → holds (names_of xs) name ≡ is_some (lookup (has_name name) xs)
        → (b || holds (names_of xs) name) ≡ is_some (cond b (Some x.1) (lookup (has_name name) xs))
    by true rest = refl
    by false rest = rest

-- what a look-up by a name finds has that name
pub lookup-named : {B : Type 0} (name : List ℕ) (es : List (Entry B)) (p : Named B) → AreKeyed es → lookup (has_name name) es ≡ Some p → p.name ≡ name
lookup-named name [] p keyed found = cc
lookup-named {B} name (x ∷ xs) p keyed found = by (has_name name x.0) refl found (lookup-named name xs p keyed.1)
  where
    by : (b : Bool) → has_name name x.0 ≡ b → cond b (Some x.1) (lookup (has_name name) xs) ≡ Some p
        → (lookup (has_name name) xs ≡ Some p → p.name ≡ name) → p.name ≡ name
    by true same here rest =
        let it : x.1 ≡ p = cc in
        ap (λ (q : Named B). q.name) (sym it) ∙ sym keyed.0 ∙ sym (bytes_eq-equal name x.0.items same)
    by false other later rest = rest later

pub AreKeyed-append : {B : Type 0} (es : List (Entry B)) (key : Vec ℕ Global) (p : Named B) → AreKeyed es → key.items ≡ p.name → AreKeyed (es ++ (key, p) ∷ [])
AreKeyed-append [] key p keyed own = (own, tt)
AreKeyed-append (x ∷ xs) key p keyed own = (keyed.0, AreKeyed-append xs key p keyed.1 own)

-- a proc whose name isn't held goes last
pub insert_entry-last : {B : Type 0} (es : List (Entry B)) (key : Vec ℕ Global) (p : Named B) → holds (names_of es) key.items ≡ false
    → insert_entry (λ a b. bytes_eq a.items b.items) es key p ≡ es ++ (key, p) ∷ []
insert_entry-last [] key p absent = refl
insert_entry-last (x ∷ xs) key p absent = by (bytes_eq key.items x.0.items) absent (insert_entry-last xs key p)
  where
    by : (b : Bool) → (b || holds (names_of xs) key.items) ≡ false
        → (holds (names_of xs) key.items ≡ false → insert_entry (λ a b. bytes_eq a.items b.items) xs key p ≡ xs ++ (key, p) ∷ [])
        → cond b ((x.0, p) ∷ xs) (x ∷ insert_entry (λ a b. bytes_eq a.items b.items) xs key p) ≡ x ∷ (xs ++ (key, p) ∷ [])
    by true absent rest = cc
    by false absent rest = ap (λ es. x ∷ es) (rest absent)

-- what no refusal means
refusal-none : (names : List (List ℕ)) (name : List ℕ) → refusal names name ≡ None → (holds names name ≡ false) × (length names < MAX_PROCS)
refusal-none names name none = by (holds names name) (nat_le MAX_PROCS (length names)) refl refl none
  where
    by : (h f : Bool) → holds names name ≡ h → nat_le MAX_PROCS (length names) ≡ f
        → cond h (Some NameTaken) (cond f (Some Full) None) ≡ None → (holds names name ≡ false) × (length names < MAX_PROCS)
    by true f held full none = cc
    by false true held full none = cc
    by false false held full none = (held, omega (arith, leb-false MAX_PROCS (length names) full))

-- the entries after a proc was added
pub added-last : {B : Type 0} (es new : List (Entry B)) (key : Vec ℕ Global) (p : Named B) → key.items ≡ p.name → refusal (names_of es) p.name ≡ None
    → new ≡ insert_entry (λ a b. bytes_eq a.items b.items) es key p → new ≡ es ++ (key, p) ∷ []
added-last es new key p own none put =
    put ∙ insert_entry-last es key p (ap (holds (names_of es)) own ∙ (refusal-none (names_of es) p.name none).0)

-- each still stands under its own name, and they are no more than a store holds
pub added-whole : {B : Type 0} (es new : List (Entry B)) (key : Vec ℕ Global) (p : Named B) → AreKeyed es → key.items ≡ p.name
    → refusal (names_of es) p.name ≡ None → new ≡ es ++ (key, p) ∷ [] → AreKeyed new × (length (names_of new) ≤ MAX_PROCS)
added-whole {B} es new key p keyed own none last = (
  subst AreKeyed (sym last) (AreKeyed-append es key p keyed own),
  (let room : length (names_of es) < MAX_PROCS = (refusal-none (names_of es) p.name none).1 in
      let old : length (names_of es) ≡ length es = length-map es (λ e. e.0.items) in
      let all : length (names_of new) ≡ length new = length-map new (λ e. e.0.items) in
      let grown : length new ≡ length es + 1 = ap length last ∙ length-append es ((key, p) ∷ []) in
      omega arith),
)

-- the names then
pub added-names : {B : Type 0} (es new : List (Entry B)) (key : Vec ℕ Global) (p : Named B) → key.items ≡ p.name → new ≡ es ++ (key, p) ∷ []
    → names_of new ≡ names_of es ++ p.name ∷ []
added-names es new key p own last =
    ap names_of last ∙ map-append (λ e. e.0.items) es ((key, p) ∷ []) ∙ ap (λ n. names_of es ++ n ∷ []) own

-- ---- calls

-- the proc that has the name answers as a call by name does
pub IsCalled-found : (promised : Promised) (names : List (List ℕ)) (own name : List ℕ) (call : Call) (seen : Seen) (answer : Result ProcReply NoMemory)
    → holds names name ≡ true → own ≡ name → IsAllowed promised own call seen answer → IsCalled promised names name call seen (as_called answer)
IsCalled-found promised names own name call seen answer held same allowed =
    by answer (subst (λ (n : List ℕ). IsAllowed promised n call seen answer) same allowed)
  where
    by : (answer : Result ProcReply NoMemory) → IsAllowed promised name call seen answer → IsCalled promised names name call seen (as_called answer)
    by (Ok reply) kept = (held, kept)
    by (Err lack) may = (held, may)
