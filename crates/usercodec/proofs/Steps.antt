-- Readings one after the other: what a value tells of the bytes, and what stays as more bytes come.
use Rattle.std.proofs.Common.{◌≡◌, ℕ, ◌+◌, ◌<◌, Bool, true, false, cond, List, ◌∷◌, ◌++◌, get_or, take, drop, Result, Ok, Err, refl, sym, ap, subst, ◌∙◌}
use Rattle.std.proofs.Common.{append_assoc, arith, inl, inr, ◌⊎◌}
use Rattle.std.proofs.lemmas.Bool.{cases_lt}
use Rattle.std.proofs.lemmas.List.{length-take, get_or-drop, get_or-take, get_or_past}
use Rattle.usercodec.specs.declared.fault.CodecFault.{CodecFault}
use Rattle.usercodec.specs.declared.fault.CodecFault.TheVariants.{Short, BadTag, NotCanonical}
use Rattle.usercodec.specs.Fields.{Reading, ◌>>=◌, checked}
use Rattle.usercodec.specs.Laws.{Stays}

-- ---- bytes

abbrev pub IsBytes : List ℕ → Type 0
IsBytes bytes = (i : ℕ) → get_or bytes i 0 < 256

pub IsBytes-drop : (n : ℕ) (bytes : List ℕ) → IsBytes bytes → IsBytes (drop n bytes)
IsBytes-drop n bytes h i = rw get_or-drop (h (n + i))

pub IsBytes-take : (n : ℕ) (bytes : List ℕ) → IsBytes bytes → IsBytes (take n bytes)
IsBytes-take n bytes h i =
    elim (cases_lt i n) [
      | inl lt ↦ rw (get_or-take n bytes i 0 lt) (h i)
      | inr le ↦ rw (get_or_past (take n bytes) i 0 (omega (arith, length-take n bytes))) (omega arith)
    ]

-- lists that are equal have the same first element
pub head_is : (a : ℕ) (xs : List ℕ) (b : ℕ) (ys : List ℕ) → a ∷ xs ≡ b ∷ ys → a ≡ b
head_is a xs b ys e = cc

-- ---- values

-- the value of a step that did not fail
pub bind_ok : {A B : Type 0} (r : Result A CodecFault) (f : A → Result B CodecFault) (y : B) → (r >>= f) ≡ Ok y → (x : A) × (r ≡ Ok x) × (f x ≡ Ok y)
bind_ok (Ok x) f y e = (x, refl, e)
bind_ok (Err fault) f y e = absurd cc

-- a test that did not fail
pub guard_ok : {A : Type 0} (test : Bool) (fault : CodecFault) (x y : A) → cond test (Ok x) (Err fault) ≡ Ok y → (test ≡ true) × (x ≡ y)
guard_ok true fault x y e = (refl, cc)
guard_ok false fault x y e = absurd cc

-- a test that did not find a fault
pub kept_ok : {A : Type 0} (test : Bool) (fault : CodecFault) (x y : A) → cond test (Err fault) (Ok x) ≡ Ok y → (test ≡ false) × (x ≡ y)
kept_ok true fault x y e = absurd cc
kept_ok false fault x y e = (refl, cc)

-- which way a test went
pub chosen : {A : Type 0} (test : Bool) (x y z : A) → cond test x y ≡ z → ((test ≡ true) × (x ≡ z)) ⊎ ((test ≡ false) × (y ≡ z))
chosen true x y z e = inl (refl, e)
chosen false x y z e = inr (refl, e)

abbrev pub done : {A : Type 0} → A → Result A CodecFault
done x = Ok x

pub ok_is : {A : Type 0} (x y : A) → done x ≡ done y → x ≡ y
ok_is x y e = cc

-- ---- what a reading took from the front

pub record Takes (bytes text rest : List ℕ) : Type 0 where
  pub parts : bytes ≡ text ++ rest
  pub rest_fits : IsBytes rest

pub Takes-then : (a x b y c : List ℕ) → Takes a x b → Takes b y c → Takes a (x ++ y) c
Takes-then a x b y c p q =
    record { parts = p.parts ∙ ap (λ (t : List ℕ). x ++ t) q.parts ∙ sym (append_assoc x y c); rest_fits = q.rest_fits }

-- ---- what stays

pub stays_bind : {A B : Type 0} (r later : Reading A) (f : A × List ℕ → Reading B) (more : List ℕ) → Stays r later more
    → ((x : A × List ℕ) → Stays (f x) (f (x.0, x.1 ++ more)) more) → Stays (r >>= f) (later >>= f) more
stays_bind {A = A} (Ok x) later f more stays next = subst (λ (l : Reading A). Stays (f x) (l >>= f) more) (sym stays) (next x)
stays_bind (Err Short) later f more stays next = tt
stays_bind {A = A} (Err BadTag) later f more stays next = ap (λ (l : Reading A). l >>= f) stays
stays_bind {A = A} (Err NotCanonical) later f more stays next = ap (λ (l : Reading A). l >>= f) stays

pub stays_if : {A : Type 0} (test : Bool) (x y later_x later_y : Reading A) (more : List ℕ) → Stays x later_x more → Stays y later_y more
    → Stays (cond test x y) (cond test later_x later_y) more
stays_if true x y later_x later_y more p q = p
stays_if false x y later_x later_y more p q = q

pub stays_checked : {A : Type 0} (test : A → Bool) (r later : Reading A) (more : List ℕ) → Stays r later more
    → Stays (checked test r) (checked test later) more
stays_checked test r later more stays = stays_bind r later _ more stays (λ x. stays_if (test x.0) (Ok x) (Err NotCanonical) _ _ more refl refl)

-- ---- fields know of no tags

abbrev pub NoTag : {A : Type 0} → Reading A → Type 0
NoTag (Ok x) = Unit {0}
NoTag (Err Short) = Unit {0}
NoTag (Err BadTag) = ⊥
NoTag (Err NotCanonical) = Unit {0}

pub no_tag_bind : {A B : Type 0} (r : Reading A) (f : A × List ℕ → Reading B) → NoTag r → ((x : A × List ℕ) → NoTag (f x)) → NoTag (r >>= f)
no_tag_bind (Ok x) f none next = next x
no_tag_bind (Err Short) f none next = tt
no_tag_bind (Err BadTag) f none next = none
no_tag_bind (Err NotCanonical) f none next = tt

pub no_tag_if : {A : Type 0} (test : Bool) (x y : Reading A) → NoTag x → NoTag y → NoTag (cond test x y)
no_tag_if true x y p q = p
no_tag_if false x y p q = q

pub no_tag_where : {A : Type 0} (test : Bool) (x y : Reading A) → (test ≡ true → NoTag x) → (test ≡ false → NoTag y) → NoTag (cond test x y)
no_tag_where true x y p q = p refl
no_tag_where false x y p q = q refl
