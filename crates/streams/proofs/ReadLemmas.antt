-- Reading in pieces.
use Rattle.std.proofs.Common.{◌≡◌, ◌⊎◌, ◌∙◌, ◌++◌, ℕ, ◌+◌, ◌<◌, ◌≤◌, List, [], length, length-append, take, Option, Some, None, IfSome, sym, ap, ap₂, subst, append_assoc, append-nil, add_assoc, add-zero, arith, inl, inr, refl, length-take-le}
use Rattle.std.proofs.KnownBytes.{Consumes-nil, Consumes-trans}
use Rattle.std.proofs.Math.Seq.{take_all, take-append_seam}
use Rattle.std.specs.Io.KnownBytes.{Consumes, IsAtEnd, Keeps}
use Rattle.streams.specs.declared.stream.Given.{Given}
use Rattle.streams.specs.declared.stream.Given.TheVariants.{Bytes, End, Stall, Fault}
use Rattle.streams.specs.State.{Giving, Source}
use Rattle.streams.specs.Calls.{Gives, after_give, bytes_given}
use Rattle.streams.specs.Transfers.{Reads, ReadsUntil, ReadsPiece, ReadsOnce, ReadsUpTo, ReadsNot, FailsToGive, GivesSome, after_pieces}

-- known bytes that stay lose none
pub Consumes-none : (old new : Option (List ℕ)) → Keeps old new → Consumes old new []
Consumes-none None new kept = tt
Consumes-none (Some xs) None kept = absurd kept
Consumes-none (Some xs) (Some ys) kept = sym kept

-- bytes that stay, and then lose some
pub Consumes-after : (old mid new : Option (List ℕ)) (bytes : List ℕ) → Keeps old mid → Consumes mid new bytes → Consumes old new bytes
Consumes-after old mid new bytes kept gone = Consumes-trans old mid new [] bytes (Consumes-none old mid kept) gone

-- ---- pieces

pub Reads-none : (old : Source) → Reads 0 old [] old
Reads-none old = record {
  left = Consumes-nil old.left;
  each = omega arith;
  past = ap₂ (λ given asked. record old.past { given = given; asked = asked }) (sym (append-nil old.past.given)) (sym (add-zero old.past.asked));
}

-- one piece more
pub Reads-more : (count n : ℕ) (old mid new : Source) (bytes buffer : List ℕ) → Reads count old bytes mid
    → Gives mid (Bytes n) buffer new → Reads (count + 1) old (bytes ++ take n buffer) new
Reads-more count n old mid new bytes buffer p q = record {
  left = Consumes-trans old.left mid.left new.left bytes (take n buffer) p.left q.left;
  each = omega (arith, length-append bytes (take n buffer), length-take-le n buffer q.fits.1, p.each, q.fits.0, q.fits.1);
  past = q.past ∙ ap (λ (past : Giving). after_give past (Bytes n) buffer) p.past
      ∙ ap₂ (λ given asked. record old.past { given = given; asked = asked }) (append_assoc old.past.given bytes (take n buffer))
      (add_assoc old.past.asked count 1);
}

-- then an answer without a byte
pub ReadsUntil-at : (answer : Given) (count most : ℕ) (old mid new : Source) (bytes buffer : List ℕ) → count < most
    → bytes_given answer buffer ≡ [] → ((past : Giving) → after_give past answer buffer ≡ after_give past answer [])
    → Reads count old bytes mid → Gives mid answer buffer new → ReadsUntil answer most old bytes new
ReadsUntil-at answer count most old mid new bytes buffer few none same p q = record {
  count = count;
  few = few;
  left = subst (Consumes old.left new.left) (ap (λ end. bytes ++ end) none ∙ append-nil bytes)
      (Consumes-trans old.left mid.left new.left bytes (bytes_given answer buffer) p.left q.left);
  end = q.end;
  past = q.past ∙ ap (λ (past : Giving). after_give past answer buffer) p.past ∙ same (after_pieces old.past bytes count);
}

pub ReadsUntil-end : (count most : ℕ) (old mid new : Source) (bytes buffer : List ℕ) → count < most → Reads count old bytes mid
    → Gives mid End buffer new → ReadsUntil End most old bytes new
ReadsUntil-end count most old mid new bytes buffer few = ReadsUntil-at End count most old mid new bytes buffer few refl (λ past. refl)

pub ReadsUntil-stall : (count most : ℕ) (old mid new : Source) (bytes buffer : List ℕ) → count < most → Reads count old bytes mid
    → Gives mid Stall buffer new → ReadsUntil Stall most old bytes new
ReadsUntil-stall count most old mid new bytes buffer few = ReadsUntil-at Stall count most old mid new bytes buffer few refl (λ past. refl)

pub ReadsUntil-fault : (count most : ℕ) (old mid new : Source) (bytes buffer : List ℕ) → count < most → Reads count old bytes mid
    → Gives mid Fault buffer new → ReadsUntil Fault most old bytes new
ReadsUntil-fault count most old mid new bytes buffer few = ReadsUntil-at Fault count most old mid new bytes buffer few refl (λ past. refl)

-- ---- up to a bound

-- some bytes are read
abbrev pub AreRead : Source → List ℕ → Source → Type 0
AreRead old bytes new = (count : ℕ) × Reads count old bytes new

-- one piece more
pub AreRead-more : (most n : ℕ) (answer : Given) (old mid new : Source) (bytes after : List ℕ) → answer ≡ Bytes n → AreRead old bytes mid
    → ReadsPiece most mid bytes answer new after → (length after ≤ most) × AreRead old after new
AreRead-more most n End old mid new bytes after is p q = cc
AreRead-more most n Stall old mid new bytes after is p q = cc
AreRead-more most n Fault old mid new bytes after is p q = cc
AreRead-more most n (Bytes k) old mid new bytes after is p q =
    let fits = length-take-le k q.buffer q.gives.fits.1 in
    let all : length (bytes ++ take k q.buffer) ≤ most =
    omega (arith, length-append bytes (take k q.buffer), fits, q.room, q.gives.fits.1) in (
      subst (λ xs. length xs ≤ most) (sym q.added) all,
      (p.0 + 1, subst (λ xs. Reads (p.0 + 1) old xs new) (sym q.added) (Reads-more p.0 k old mid new bytes q.buffer p.1 q.gives)),
    )

-- memory ran out
pub GivesSome-once : (old mid new : Source) (bytes : List ℕ) → AreRead old bytes mid → ReadsOnce mid new → GivesSome old new
GivesSome-once old mid new bytes p (inl same) = (bytes, p.0, subst (Reads p.0 old bytes) (sym same) p.1)
GivesSome-once old mid new bytes p (inr (n, buffer, gives)) =
    (bytes ++ take n buffer, p.0 + 1, Reads-more p.0 n old mid new bytes buffer p.1 gives)

-- it would have to wait, or failed
pub FailsToGive-at : (most : ℕ) (answer : Given) (old mid new : Source) (bytes after : List ℕ) → (answer ≡ Stall) ⊎ (answer ≡ Fault)
    → length bytes < most → AreRead old bytes mid → ReadsPiece most mid bytes answer new after → FailsToGive most old new
FailsToGive-at most answer old mid new bytes after (inl is) few p q =
    let gives = subst (λ (a : Given). Gives mid a q.buffer new) is q.gives in
    (bytes, inl (ReadsUntil-stall p.0 most old mid new bytes q.buffer (omega (arith, p.1.each, few)) p.1 gives))
FailsToGive-at most answer old mid new bytes after (inr is) few p q =
    let gives = subst (λ (a : Given). Gives mid a q.buffer new) is q.gives in
    (bytes, inr (ReadsUntil-fault p.0 most old mid new bytes q.buffer (omega (arith, p.1.each, few)) p.1 gives))

-- of known bytes these were the first
end-known : (old new : Option (List ℕ)) (most : ℕ) (bytes : List ℕ) → length bytes ≤ most → Consumes old new bytes → IsAtEnd new
    → IfSome old (λ input. bytes ≡ take most input)
end-known None new most bytes few gone none = tt
end-known (Some input) None most bytes few gone none = absurd gone
end-known (Some input) (Some rest) most bytes few gone none =
    let all : input ≡ bytes = gone ∙ ap (λ xs. bytes ++ xs) none ∙ append-nil bytes in
    sym (take_all most bytes few) ∙ ap (take most) (sym all)

front-known : (old new : Option (List ℕ)) (most : ℕ) (bytes : List ℕ) → length bytes ≡ most → Consumes old new bytes
    → IfSome old (λ input. bytes ≡ take most input)
front-known None new most bytes all gone = tt
front-known (Some input) None most bytes all gone = absurd gone
front-known (Some input) (Some rest) most bytes all gone =
    sym (take-append_seam bytes rest) ∙ ap (λ n. take n (bytes ++ rest)) all ∙ ap (take most) (sym gone)

pub ReadsUpTo-known : (most : ℕ) (old new : Source) (bytes : List ℕ) → ReadsUpTo most old bytes new
    → IfSome old.left (λ input. bytes ≡ take most input)
ReadsUpTo-known most old new bytes (few, inl read) = end-known old.left new.left most bytes few read.left read.end
ReadsUpTo-known most old new bytes (few, inr (all, (count, read))) = front-known old.left new.left most bytes all read.left
