-- Writing whole.
use Rattle.std.proofs.Common.{◌≡◌, ◌⊎◌, ◌∙◌, ◌++◌, ◌∷◌, ℕ, ◌+◌, ◌<◌, List, [], length, take, drop, take-append-drop, get_or, Option, Result, Ok, Err, OnOk, OnErr, Some, None, sym, ap, subst, append_assoc, append-nil, arith, inl, inr, refl}
use Rattle.std.proofs.Math.Seq.{take_all}
use Rattle.std.proofs.lemmas.List.{take_more}
use Rattle.std.proofs.lemmas.Grind.{flat_map-append}
use Rattle.std.specs.List.{flat_map}
use Rattle.std.proofs.KnownBytes.{Appends-nil, Appends-trans, Appends-kept}
use Rattle.std.specs.Io.KnownBytes.{Appends, Keeps}
use Rattle.streams.specs.declared.stream.Taken.{Taken}
use Rattle.streams.specs.declared.stream.Taken.TheVariants.{Bytes, Nothing, Fault}
use Rattle.streams.specs.State.{Taking, Sink}
use Rattle.streams.specs.Calls.{Takes, Flushes, after_take}
use Rattle.streams.specs.Transfers.{Refuses, Writes, WritesFront, WritesOut}

-- known bytes that stay grow by none
pub Appends-none : (old new : Option (List ℕ)) → Keeps old new → Appends old new []
Appends-none None new kept = tt
Appends-none (Some xs) None kept = absurd kept
Appends-none (Some xs) (Some ys) kept = kept ∙ sym (append-nil xs)

-- bytes that stay, and then grow
pub Appends-after : (old mid new : Option (List ℕ)) (bytes : List ℕ) → Keeps old mid → Appends mid new bytes → Appends old new bytes
Appends-after old mid new bytes kept more = Appends-trans old mid new [] bytes (Appends-none old mid kept) more

abbrev with_more : Taking → List ℕ → Taking
with_more past bytes = record past { taken = past.taken ++ bytes }

with_more-then : (past : Taking) (first second : List ℕ) → with_more (with_more past first) second ≡ with_more past (first ++ second)
with_more-then past first second = ap (λ taken. record past { taken = taken }) (append_assoc past.taken first second)

-- ---- whole

pub Writes-none : (old : Sink) → Writes old [] old
Writes-none old = record {
  holds = Appends-nil old.holds;
  past = ap (λ taken. record old.past { taken = taken }) (sym (append-nil old.past.taken));
}

pub Writes-then : (old mid new : Sink) (first second : List ℕ) → Writes old first mid → Writes mid second new → Writes old (first ++ second) new
Writes-then old mid new first second p q = record {
  holds = Appends-trans old.holds mid.holds new.holds first second p.holds q.holds;
  past = q.past ∙ ap (λ (past : Taking). with_more past second) p.past ∙ with_more-then old.past first second;
}

-- what was taken at once
pub Writes-once : (n : ℕ) (old new : Sink) (bytes : List ℕ) → Takes old (Bytes n) bytes new → Writes old (take n bytes) new
Writes-once n old new bytes p = record { holds = p.holds; past = p.past }

-- ---- a front

-- a front of some bytes is one of these and others
pub WritesFront-more : (old new : Sink) (bytes more : List ℕ) → WritesFront old bytes new → WritesFront old (bytes ++ more) new
WritesFront-more old new bytes more p = record {
  front = p.front;
  rest = p.rest ++ more;
  all = sym (append_assoc p.front p.rest more) ∙ ap (λ all. all ++ more) p.all;
  holds = p.holds;
  refuses = p.refuses;
}

-- bytes, and then a front of others
pub WritesFront-then : (old mid new : Sink) (bytes more : List ℕ) → Writes old bytes mid → WritesFront mid more new
    → WritesFront old (bytes ++ more) new
WritesFront-then old mid new bytes more p q = record {
  front = bytes ++ q.front;
  rest = q.rest;
  all = append_assoc bytes q.front q.rest ∙ ap (λ rest. bytes ++ rest) q.all;
  holds = Appends-trans old.holds mid.holds new.holds bytes q.front p.holds q.holds;
  refuses = subst (λ past. Refuses past new.past)
      (ap (λ (past : Taking). with_more past q.front) p.past ∙ with_more-then old.past bytes q.front) q.refuses;
}

-- none of these bytes
pub WritesFront-refused : (old new : Sink) (bytes : List ℕ) → Appends old.holds new.holds [] → Refuses old.past new.past → WritesFront old bytes new
WritesFront-refused old new bytes kept refuses = record {
  front = [];
  rest = bytes;
  all = refl;
  holds = kept;
  refuses = subst (λ taken. Refuses (record old.past { taken = taken }) new.past) (sym (append-nil old.past.taken)) refuses;
}

pub WritesFront-nothing : (old new : Sink) (bytes : List ℕ) → Takes old Nothing bytes new → WritesFront old bytes new
WritesFront-nothing old new bytes p = WritesFront-refused old new bytes p.holds (inl p.past)

pub WritesFront-fault : (old new : Sink) (bytes : List ℕ) → Takes old Fault bytes new → WritesFront old bytes new
WritesFront-fault old new bytes p = WritesFront-refused old new bytes p.holds (inr p.past)

-- all of them, but they are not flushed
pub WritesFront-unflushed : {E : Type 0} (old mid new : Sink) (bytes : List ℕ) (e : E) → Writes old bytes mid → Flushes mid (Err e) new → WritesFront old bytes new
WritesFront-unflushed old mid new bytes e p q =
    subst (λ all. WritesFront old all new) (append-nil bytes)
    (WritesFront-then old mid new bytes [] p
    (WritesFront-refused mid new [] (Appends-none mid.holds new.holds q.holds) (inr q.past)))

-- ---- the rest of some bytes

-- all of these bytes but the rest are written
abbrev pub IsWritten : Sink → List ℕ → List ℕ → Sink → Type 0
IsWritten old bytes rest new = (front : List ℕ) × (front ++ rest ≡ bytes) × Writes old front new

pub IsWritten-none : (old : Sink) (bytes : List ℕ) → IsWritten old bytes bytes old
IsWritten-none old bytes = ([], refl, Writes-none old)

pub IsWritten-more : (n : ℕ) (old mid new : Sink) (bytes rest : List ℕ) → IsWritten old bytes rest mid → Takes mid (Bytes n) rest new
    → IsWritten old bytes (drop n rest) new
IsWritten-more n old mid new bytes rest (front, all, p) q = (
  front ++ take n rest,
  append_assoc front (take n rest) (drop n rest) ∙ ap (λ x. front ++ x) (take-append-drop n rest) ∙ all,
  Writes-then old mid new front (take n rest) p (Writes-once n mid new rest q),
)

pub IsWritten-all : (old new : Sink) (bytes rest : List ℕ) → rest ≡ [] → IsWritten old bytes rest new → Writes old bytes new
IsWritten-all old new bytes rest none (front, all, p) =
    subst (λ xs. Writes old xs new) (sym (append-nil front) ∙ ap (λ end. front ++ end) (sym none) ∙ all) p

pub IsWritten-front : (old mid new : Sink) (bytes rest : List ℕ) → IsWritten old bytes rest mid → WritesFront mid rest new → WritesFront old bytes new
IsWritten-front old mid new bytes rest (front, all, p) q =
    subst (λ xs. WritesFront old xs new) all (WritesFront-then old mid new front rest p q)

-- ---- items one after another

-- the text of one item more
text-next : {A : Type 0} (f : A → List ℕ) (xs : List A) (i : ℕ) (d x : A) → i < length xs → x ≡ get_or xs i d
    → flat_map f (take i xs) ++ f x ≡ flat_map f (take (i + 1) xs)
text-next f xs i d x within is =
    ap (λ end. flat_map f (take i xs) ++ end) (sym (append-nil (f x)))
    ∙ sym (flat_map-append f (take i xs) (x ∷ []))
    ∙ ap (flat_map f) (ap (λ y. take i xs ++ y ∷ []) is ∙ sym (take_more xs i d within))

pub Writes-next : {A : Type 0} (f : A → List ℕ) (xs : List A) (i : ℕ) (d x : A) (old mid new : Sink)
    → i < length xs → x ≡ get_or xs i d → Writes old (flat_map f (take i xs)) mid → Writes mid (f x) new
    → Writes old (flat_map f (take (i + 1) xs)) new
Writes-next f xs i d x old mid new within is p q =
    subst (λ text. Writes old text new) (text-next f xs i d x within is) (Writes-then old mid new (flat_map f (take i xs)) (f x) p q)

pub WritesFront-next : {A : Type 0} (f : A → List ℕ) (xs : List A) (i : ℕ) (d x : A) (old mid new : Sink)
    → i < length xs → x ≡ get_or xs i d → Writes old (flat_map f (take i xs)) mid → WritesFront mid (f x) new
    → WritesFront old (flat_map f xs) new
WritesFront-next f xs i d x old mid new within is p q =
    subst (λ text. WritesFront old text new)
    (ap (λ text. text ++ flat_map f (drop (i + 1) xs)) (text-next f xs i d x within is)
    ∙ sym (flat_map-append f (take (i + 1) xs) (drop (i + 1) xs)) ∙ ap (flat_map f) (take-append-drop (i + 1) xs))
    (WritesFront-more old new (flat_map f (take i xs) ++ f x) (flat_map f (drop (i + 1) xs))
    (WritesFront-then old mid new (flat_map f (take i xs)) (f x) p q))

-- ---- and flushed

-- whole, where the flush went well
pub WritesOut-if : {E : Type 0} (answer : Result Unit E) (old mid new : Sink) (bytes : List ℕ) → Writes old bytes mid → Flushes mid answer new
    → OnOk answer (WritesOut old bytes new)
WritesOut-if (Ok u) old mid new bytes p q = record {
  holds = Appends-kept old.holds mid.holds new.holds bytes p.holds q.holds;
  past = q.past ∙ ap (λ (past : Taking). record past { flushed = past.taken }) p.past;
}
WritesOut-if (Err e) old mid new bytes p q = tt

-- and where it failed
pub WritesFront-if : {E : Type 0} (answer : Result Unit E) (old mid new : Sink) (bytes : List ℕ) → Writes old bytes mid → Flushes mid answer new
    → OnErr answer (WritesFront old bytes new)
WritesFront-if (Ok u) old mid new bytes p q = tt
WritesFront-if (Err e) old mid new bytes p q = WritesFront-unflushed old mid new bytes e p q

-- where the rest is written, or a front of it
pub Writes-if : {E : Type 0} (answer : Result Unit E) (old mid new : Sink) (bytes more : List ℕ) → Writes old bytes mid
    → OnOk answer (Writes mid more new) → OnOk answer (Writes old (bytes ++ more) new)
Writes-if (Ok u) old mid new bytes more p q = Writes-then old mid new bytes more p q
Writes-if (Err e) old mid new bytes more p q = tt

pub WritesFront-after : {E : Type 0} (answer : Result Unit E) (old mid new : Sink) (bytes more : List ℕ) → Writes old bytes mid
    → OnErr answer (WritesFront mid more new) → OnErr answer (WritesFront old (bytes ++ more) new)
WritesFront-after (Ok u) old mid new bytes more p q = tt
WritesFront-after (Err e) old mid new bytes more p q = WritesFront-then old mid new bytes more p q
