-- Hostmasks by their texts.
use Rattle.std.specs.Prelude.{◌≡◌, ℕ, Bool, List, Some, None, Result, Ok, Err}
use Rattle.bytetext.specs.declared.failure.Failure.{Failure}
use Rattle.bytetext.specs.declared.failure.Failure.TheVariants.{Refused, NoMemory}
use Rattle.wildmask.specs.declared.items.MaskKind.TheVariants.{Host}
use Rattle.wildmask.specs.declared.faults.MaskFault.{MaskFault}
use Rattle.wildmask.specs.Items.{items_of, literals_of}
use Rattle.wildmask.specs.Masks.{host_fault, host_mask, is_match_by as is_mask_match}
use Rattle.rfccase.specs.declared.casemappings.Casemapping.{Casemapping}
use Rattle.wildmask.specs.Signatures.{Pairs, items_signature}
use Rattle.wildmask.specs.Tails.{tail_of}

-- what making a hostmask returns: the mask or NoMemory if its text has no fault, else the first fault
abbrev pub MakesHostmask : List ℕ → Result (List ℕ) (Failure MaskFault) → Type 0
MakesHostmask text (Ok mask) = (host_fault text ≡ None) × (mask ≡ text)
MakesHostmask text (Err (Refused fault)) = host_fault text ≡ Some fault
MakesHostmask text (Err NoMemory) = host_fault text ≡ None

-- the number of literal items of a hostmask
unfoldable pub literals : List ℕ → ℕ
literals mask = literals_of Host mask

-- whether a hostmask matches a person by a server's casemapping, as a test that computes
unfoldable pub is_match : Casemapping → List ℕ → List ℕ → Bool
is_match mapping mask who = is_mask_match mapping (host_mask mask) who

-- the tail of a hostmask: the text of each person that the mask matches ends with it
unfoldable pub mask_tail : List ℕ → List ℕ
mask_tail mask = tail_of (items_of Host mask)

-- the pairs of adjacent bytes that a hostmask needs
unfoldable pub mask_pairs : List ℕ → Pairs
mask_pairs mask = items_signature (items_of Host mask)
