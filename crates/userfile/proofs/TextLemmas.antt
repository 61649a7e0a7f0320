-- Texts compared by casemapping, and hostmasks by their texts.
use Rattle.std.proofs.Common.{◌≡◌, ℕ, ◌<◌, ◌≤◌, Bool, true, false, List, length, refl, sym, ap, ◌∙◌, arith, Some, true≢false}
use Rattle.std.specs.Option.{is_none}
use Rattle.std.proofs.lemmas.Bool.Decides.{nat_tests}
use Rattle.rfccase.specs.Casemapping.{is_same}
use Rattle.rfccase.proofs.SameLemmas.{length-folded, is_same-Decides}
use Rattle.wildmask.specs.Masks.{host_fault}
use Rattle.wildmask.specs.declared.faults.MaskFault.{MaskFault}
use Rattle.userfile.specs.declared.limits.TheConstants.{MAX_HANDLE}
use Rattle.userfile.specs.Shapes.{is_hostmask, is_handle, is_person}
use Rattle.userfile.proofs.RepeatLemmas.{and_true}

-- texts of different lengths are not the same
pub is_same-length : (a b : List ℕ) → length b < length a → is_same a b ≡ false
is_same-length a b longer = by (is_same a b) refl
  where
    by : (t : Bool) → is_same a b ≡ t → t ≡ false
    by false e = refl
    by true e =
        let lengths : length a ≡ length b = sym (length-folded a) ∙ ap length ((is_same-Decides a b).0 e) ∙ length-folded b in
        absurd (omega arith)

-- a hostmask has no fault
pub no_fault : (text : List ℕ) (fault : MaskFault) → is_hostmask text ≡ true → host_fault text ≡ Some fault → ⊥
unfolding is_hostmask
no_fault text fault good bad = true≢false (sym good ∙ ap is_none bad)

-- a person is written as a hostmask
pub is_person-hostmask : (text : List ℕ) → is_person text ≡ true → is_hostmask text ≡ true
unfolding is_person
is_person-hostmask text good = (and_true good).0

-- a handle has at most 32 bytes
pub is_handle-length : (text : List ℕ) → is_handle text ≡ true → length text ≤ MAX_HANDLE
unfolding is_handle
is_handle-length text good = grind (arith, nat_tests)
