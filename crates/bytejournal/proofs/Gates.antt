-- What torn writes at a gate and after it may leave.
use Rattle.std.proofs.Common.{Bool, true, false, refl, subst, ◌≡◌, ◌<◌, ◌≤◌, ◌+◌, inl, inr, ℕ, List, ◌∷◌, ◌++◌, length, take, drop, get_or, sym, ◌∙◌, ap, arith, length-append, take-append-drop}
use Rattle.std.proofs.lemmas.List.{take_at, drop_at, drop_more, length-take, take-take}
use Rattle.disks.specs.Events.{Torn}
use Rattle.disks.specs.Calls.{Holds}
use Rattle.disks.specs.State.{State, IsSettled, LeavesOnly}
use Rattle.disks.specs.Calls.{SameBytes}
use Rattle.bytejournal.specs.Gates.{with_first, closed_first, IsHalfWritten, IsHalfReplaced}
use Rattle.bytejournal.proofs.Moments.{joined, kept}

module _ (file text mid : List ℕ) (at : ℕ) (inside : at < length file) (written : Holds file (at + 1) text mid) where
  size : length (take (at + 1) file) ≡ at + 1
  size = omega (arith, length-take (at + 1) file)

  end : List ℕ
  end = drop (at + 1 + length text) file

  front : take at mid ≡ take at file
  front = sym (take-take at (at + 1) mid (omega arith))
      ∙ ap (λ (l : List ℕ). take at l) (ap (λ (l : List ℕ). take (at + 1) l) written
      ∙ take_at (take (at + 1) file) (text ++ drop (at + 1 + length text) file) (at + 1) size) ∙ take-take at (at + 1) file (omega arith)

  back : drop (at + 1) mid ≡ text ++ drop (at + 1 + length text) file
  back = ap (λ (l : List ℕ). drop (at + 1) l) written ∙ drop_at (take (at + 1) file) (text ++ drop (at + 1 + length text) file) (at + 1) size

  long : at + 1 ≤ length mid
  long = omega (arith, ap length written, length-append (take (at + 1) file) (text ++ drop (at + 1 + length text) file), size)

  -- a torn gate stands before the whole text
  pub torn_gate : (image : List ℕ) → Torn at 1 mid image → IsHalfWritten file at text image
  torn_gate image torn =
      let rest : drop at image ≡ get_or image at 0 ∷ (text ++ drop (at + 1 + length text) file) =
      drop_more image at 0 (omega (arith, long, torn.no_shorter)) ∙ ap (λ (l : List ℕ). get_or image at 0 ∷ l) (torn.after ∙ back) in
      inr (
        get_or image at 0,
        sym (take-append-drop at image) ∙ ap (λ (l : List ℕ). l ++ drop at image) (torn.before ∙ front)
            ∙ ap (λ (l : List ℕ). take at file ++ l) rest,
      )

-- before anything is written
pub not_replaced : (is_open : Bool) (file text : List ℕ) → 0 < length file → IsHalfReplaced is_open file text file
not_replaced true file text inside = inl (get_or file 0 0, refl, drop_more file 0 0 inside)
not_replaced false file text inside = inr (inl refl)

-- room is made, the first gate is closed, and a text is written after it
pub replaced : (before ready closed after : State) (text : List ℕ) (is_open : Bool) → is_open ≡ true → 0 < length before.seen → IsSettled before
    → SameBytes before ready
    → LeavesOnly ready closed (λ image. (gate : ℕ) × (image ≡ with_first ready.seen gate)) → closed.seen ≡ with_first ready.seen 0
    → LeavesOnly closed after (IsHalfWritten closed.seen 0 text) → LeavesOnly before after (IsHalfReplaced is_open before.seen text)
replaced before ready closed after text is_open opens inside settled same closing closed_is writing =
    let first : before.seen ≡ with_first before.seen (get_or before.seen 0 0) = drop_more before.seen 0 0 inside in
    joined before closed after (λ image. (gate : ℕ)
    × (image ≡ with_first before.seen gate)) (IsHalfWritten closed.seen 0 text) (IsHalfReplaced is_open before.seen text)
    (joined before ready closed (λ image. image ≡ before.seen) (λ image. (gate : ℕ) × (image ≡ with_first ready.seen gate))
    (λ image. (gate : ℕ) × (image ≡ with_first before.seen gate))
    (kept before ready settled same) closing
    (λ image is. (get_or before.seen 0 0, is ∙ first))
    (λ image is. (is.0, is.1 ∙ ap (λ (l : List ℕ). with_first l is.0) same.seen)))
    writing
    (λ image is. inl (is.0, opens, is.1))
    (λ image is. inr (subst (λ (l : List ℕ). IsHalfWritten l 0 text image)
    (closed_is ∙ ap (λ (l : List ℕ). with_first l 0) same.seen ∙ ap (λ (b : Bool). closed_first b before.seen) (sym opens)) is))
