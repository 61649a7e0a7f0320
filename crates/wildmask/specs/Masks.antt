-- A mask as it was given, why a text is not a mask, and what making one returns.
use Rattle.std.specs.Prelude.{◌≡◌, ℕ, Bool, ◌==◌, ◌&&◌, ◌||◌, nat_lt, not, if◌then◌else◌, List, length, drop, Option, Some, None, Result, Ok, Err, codes}
use Rattle.std.specs.List.{list_all, list_any, after_first, starts_with}
use Rattle.wildmask.specs.declared.items.MaskKind.{MaskKind}
use Rattle.wildmask.specs.declared.items.MaskKind.TheVariants.{Bind, Host}
use Rattle.wildmask.specs.declared.faults.MaskFault.{MaskFault}
use Rattle.wildmask.specs.declared.faults.MaskFault.TheVariants.{MaskEmpty, MaskTooLong, NotAHostmask}
use Rattle.bytetext.specs.declared.failure.Failure.{Failure}
use Rattle.bytetext.specs.declared.failure.Failure.TheVariants.{Refused, NoMemory}
use Rattle.wildmask.specs.declared.items.Item.{Item}
use Rattle.wildmask.specs.Items.{items_of, is_bind}
use Rattle.rfccase.specs.declared.casemappings.Casemapping.{Casemapping}
use Rattle.rfccase.specs.declared.casemappings.Casemapping.TheVariants.{Rfc1459}
use Rattle.wildmask.specs.Matching.{Matches}
use Rattle.wildmask.specs.Tests.{items_match}

-- a mask: the text as it was given, and whether it is a bind's or a hostmask
pub record GivenMask : Type 0 where
  pub kind : MaskKind
  pub text : List ℕ

abbrev pub bind_mask : List ℕ → GivenMask
bind_mask text = record { kind = Bind; text = text }

abbrev pub host_mask : List ℕ → GivenMask
host_mask text = record { kind = Host; text = text }

-- the items of a mask
abbrev pub mask_items : GivenMask → List Item
mask_items mask = items_of mask.kind mask.text

-- whether a mask matches a text by a server's casemapping
abbrev pub IsMatchBy : Casemapping → GivenMask → List ℕ → Type 0
IsMatchBy mapping mask text = Matches mapping (items_of mask.kind mask.text) text

-- IsMatchBy as a test that computes
unfoldable pub is_match_by : Casemapping → GivenMask → List ℕ → Bool
is_match_by mapping mask text = items_match mapping (items_of mask.kind mask.text) text

-- whether a mask matches a text by the casemapping of RFC 2812
abbrev pub IsMatch : GivenMask → List ℕ → Type 0
IsMatch mask text = IsMatchBy Rfc1459 mask text

-- IsMatch as a test that computes
abbrev pub is_match : GivenMask → List ℕ → Bool
is_match mask text = is_match_by Rfc1459 mask text

-- ---- why a text is not a mask

-- nick!user@host: each byte is above 32, and an @ follows the first !
abbrev pub is_person_mask : List ℕ → Bool
is_person_mask text = list_all (λ b. nat_lt 32 b) text && list_any (λ b. b == 64) (after_first (λ b. b == 33) text)

-- a byte of an account's name in a mask: above 32, and none of ! @ * ?
abbrev pub is_account_byte : ℕ → Bool
is_account_byte b = nat_lt 32 b && not (b == 33 || b == 64 || b == 42 || b == 63)

-- $a:NAME, the account NAME of the IRC network, as some servers write it; no nick!user@host is one
abbrev pub is_account_mask : List ℕ → Bool
is_account_mask text =
    starts_with (λ a b. a == b) text (codes "$a:") && nat_lt 3 (length text) && list_all is_account_byte (drop 3 text)

abbrev pub is_hostmask : List ℕ → Bool
is_hostmask text = is_person_mask text || is_account_mask text

-- the first fault of a mask's text: it is empty, it has more than 120 bytes, or it should be a hostmask and is not one
-- (our own choice; Eggdrop cuts a long mask)
abbrev pub fault_of : MaskKind → List ℕ → Option MaskFault
fault_of mask_kind text =
    if length text == 0 then Some MaskEmpty else
    (if nat_lt 120 (length text) then Some MaskTooLong else
    (if is_bind mask_kind || is_hostmask text then None else Some NotAHostmask))

abbrev pub bind_fault : List ℕ → Option MaskFault
bind_fault text = fault_of Bind text

abbrev pub host_fault : List ℕ → Option MaskFault
host_fault text = fault_of Host text

-- the short code of a fault
abbrev pub fault_code : MaskFault → List ℕ
fault_code MaskEmpty = codes "M2"
fault_code MaskTooLong = codes "M1"
fault_code NotAHostmask = codes "M3"

-- ---- what making a mask returns: for a text without a fault the mask, or NoMemory; for any other text its first
-- fault, however much memory there is

abbrev pub Makes : MaskKind → List ℕ → Result GivenMask (Failure MaskFault) → Type 0
Makes mask_kind text (Ok mask) = (fault_of mask_kind text ≡ None) × (mask ≡ record { kind = mask_kind; text = text })
Makes mask_kind text (Err (Refused fault)) = fault_of mask_kind text ≡ Some fault
Makes mask_kind text (Err NoMemory) = fault_of mask_kind text ≡ None
