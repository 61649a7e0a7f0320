-- Reads of a connection, one after another.
use Rattle.std.proofs.Common.{◌≡◌, ◌<◌, ◌≤◌, ◌+◌, ◌∷◌, ◌++◌, ◌||◌, ◌&&◌, not, nat_lt, ℕ, Bool, true, false, List, [], length, refl, sym, ap, append_assoc, subst, ◌∙◌, arith}
use Rattle.std.specs.List.{list_any}
use Rattle.std.proofs.lemmas.Bool.{lt-ltb}
use Rattle.std.proofs.lemmas.List.{length-append}
use Rattle.std.proofs.lemmas.List.Folds.{list_any-append}
use Rattle.streams.specs.declared.stream.Given.{Given}
use Rattle.streams.specs.State.{Source}
use Rattle.streams.specs.Calls.{bytes_given}
use Rattle.streams.specs.Transfers.{ReadsPiece}
use Rattle.net.specs.Connections.{Talk, Hears, HearsAll, Reads, ReadsFewer, asks, brings, ends_hearing, stalls, Grows}

-- ---- the answers so far

-- the reads so far: how many they are, and whether one brought bytes
pub record HeardSo (most count : ℕ) (old : Talk) (came : Bool) (new : Talk) : Type 0 where
  pub answers : List Given
  pub heard : HearsAll most answers old new
  pub counted : length answers ≡ count
  pub brought : came ≡ list_any brings answers

or_false : (b : Bool) → b || false ≡ b
or_false true = refl
or_false false = refl

any_more : (answers : List Given) (answer : Given) → list_any brings (answers ++ answer ∷ []) ≡ list_any brings answers || brings answer
any_more answers answer = list_any-append brings answers (answer ∷ []) ∙ ap (λ (b : Bool). list_any brings answers || b) (or_false (brings answer))

one_more : (answers : List Given) (answer : Given) → length (answers ++ answer ∷ []) ≡ length answers + 1
one_more answers answer = length-append answers (answer ∷ [])

hears_more : (most : ℕ) (answers : List Given) (old mid new : Talk) (answer : Given) → HearsAll most answers old mid
    → asks most mid ≡ true → Hears most mid answer new → HearsAll most (answers ++ answer ∷ []) old new
hears_more most [] old mid new answer same is hears =
    subst (λ (t : Talk). HearsAll most (answer ∷ []) t new) same (is, (new, (hears, refl)))
hears_more most (first ∷ answers) old mid new answer all is hears =
    (all.0, (all.1.0, (all.1.1.0, hears_more most answers all.1.0 mid new answer all.1.1.1 is hears)))

-- ---- one read, and one more

pub none_yet : (most : ℕ) (old : Talk) → HeardSo most 0 old false old
none_yet most old = record { answers = []; heard = refl; counted = refl; brought = refl }

pub one_read_more : (most count : ℕ) (old mid new : Talk) (came more : Bool) (answer : Given) → HeardSo most count old came mid
    → asks most mid ≡ true → Hears most mid answer new → more ≡ came || brings answer → HeardSo most (count + 1) old more new
one_read_more most count old mid new came more answer so is hears or = record {
  answers = so.answers ++ answer ∷ [];
  heard = hears_more most so.answers old mid new answer so.heard is hears;
  counted = one_more so.answers answer ∙ ap (λ (n : ℕ). n + 1) so.counted;
  brought = or ∙ ap (λ (b : Bool). b || brings answer) so.brought ∙ sym (any_more so.answers answer);
}

-- ---- the end of the reads

-- if none was made, the stream was not asked, or none was wanted
pub reads_end : (pieces most count : ℕ) (old new : Talk) (came : Bool) → HeardSo most count old came new
    → count ≤ pieces → (count ≡ 0 → asks most new ≡ true → 0 < pieces → 0 < count) → Reads pieces most old came new
reads_end pieces most count old new came so few none = record {
  answers = so.answers;
  heard = so.heard;
  few = subst (λ (n : ℕ). n ≤ pieces) (sym so.counted) few;
  some = some so.answers so.heard so.counted;
  brought = so.brought;
}
  where
    some : (answers : List Given) → HearsAll most answers old new → length answers ≡ count → asks most old ≡ true → 0 < pieces
        → 0 < length answers
    some [] same counted is wanted =
        subst (λ (n : ℕ). 0 < n) (sym counted) (none (sym counted) (subst (λ (t : Talk). asks most t ≡ true) (sym same) is) wanted)
    some (first ∷ answers) heard counted is wanted = omega arith

-- memory ran out in the next
pub reads_fewer : (pieces most count : ℕ) (old mid new : Talk) (came : Bool) → HeardSo most count old came mid → count < pieces
    → asks most mid ≡ true → new ≡ mid → ReadsFewer pieces most old new
reads_fewer pieces most count old mid new came so few is same = record {
  answers = so.answers;
  heard = subst (λ (t : Talk). HearsAll most so.answers old t) (sym same) so.heard;
  few = subst (λ (n : ℕ). n < pieces) (sym so.counted) few;
  asks = first so.answers so.heard;
}
  where
    first : (answers : List Given) → HearsAll most answers old mid → asks most old ≡ true
    first [] now = subst (λ (t : Talk). asks most t ≡ true) now is
    first (one ∷ answers) heard = heard.0

-- ---- what one call that asks says

pub asks_at : (most bound : ℕ) (talk : Talk) → bound ≡ most → talk.gives ≡ true → talk.over ≡ false → length talk.heard < bound
    → asks most talk ≡ true
asks_at most bound talk same gives goes_on room =
    ap (λ (b : Bool). b && (not talk.over && nat_lt (length talk.heard) most)) gives
    ∙ ap (λ (b : Bool). not b && nat_lt (length talk.heard) most) goes_on
    ∙ lt-ltb (length talk.heard) most (subst (λ (n : ℕ). length talk.heard < n) same room)

pub hears_at : (most bound : ℕ) (old : Talk) (answer : Given) (new : Talk) → bound ≡ most
    → ReadsPiece bound old.source old.heard answer new.source new.heard → old.gives ≡ true → old.over ≡ false
    → new.over ≡ (old.over || ends_hearing answer) → new.gives ≡ (old.gives && not (stalls answer))
    → new.sink ≡ old.sink → new.unsent ≡ old.unsent → Hears most old answer new
hears_at most bound old answer new same heard gives goes_on over ready sink unsent = record {
  heard = subst (λ (n : ℕ). ReadsPiece n old.source old.heard answer new.source new.heard) same heard;
  over = over ∙ ap (λ (b : Bool). b || ends_hearing answer) goes_on;
  gives = ready ∙ ap (λ (b : Bool). b && not (stalls answer)) gives;
  sink = sink;
  unsent = unsent;
}

pub grows_more : (most : ℕ) (old new : Source) (first before after : List ℕ) (answer : Given) → Grows first before
    → ReadsPiece most old before answer new after → Grows first after
grows_more most old new first before after answer grows piece = (
  grows.0 ++ bytes_given answer piece.buffer,
  piece.added ∙ ap (λ (bytes : List ℕ). bytes ++ bytes_given answer piece.buffer) grows.1
      ∙ append_assoc first grows.0 (bytes_given answer piece.buffer),
)
