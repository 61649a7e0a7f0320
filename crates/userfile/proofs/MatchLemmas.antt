-- The test of a hostmask is the relation of `wildmask`, and what a mask that matches says of the text.
use Rattle.std.proofs.Common.{◌≡◌, ◌<◌, ℕ, true, List, length, ap, ◌∙◌, arith}
use Rattle.std.specs.Bool.{Decides}
use Rattle.wildmask.specs.declared.items.MaskKind.{MaskKind}
use Rattle.wildmask.specs.declared.items.MaskKind.TheVariants.{Host}
use Rattle.wildmask.specs.Items.{items_of}
use Rattle.wildmask.specs.Masks.{GivenMask, host_mask, IsMatchBy}
use Rattle.wildmask.specs.Signatures.{is_within, text_signature}
use Rattle.wildmask.specs.Tails.{end_key}
use Rattle.wildmask.proofs.SignatureLemmas.{is_within-from, signature_within}
use Rattle.rfccase.specs.declared.casemappings.Casemapping.{Casemapping}
use Rattle.rfccase.specs.declared.casemappings.Casemapping.TheVariants.{Rfc1459}
use Rattle.wildmask.proofs.MatchLemmas.{Matches-wider}
use Rattle.wildmask.proofs.TailLemmas.{tail_ends, length-tail_of}
use Rattle.wildmask.proofs.TestLemmas.{is_match_by-Decides as mask-Decides}
use Rattle.userfile.specs.Hostmasks.{is_match, mask_tail, mask_pairs}

pub is_match-Decides : (mapping : Casemapping) (mask who : List ℕ) → Decides (is_match mapping mask who) (IsMatchBy mapping (host_mask mask) who)
unfolding is_match
is_match-Decides mapping mask who = mask-Decides mapping (host_mask mask) who

-- a hostmask's mask is the one of its text
pub host_mask-same : (mask : GivenMask) (text : List ℕ) → mask.kind ≡ Host → mask.text ≡ text → mask ≡ host_mask text
host_mask-same mask text kind given =
    ap (λ (k : MaskKind). let m : GivenMask = record { kind = k; text = mask.text } in m) kind
    ∙ ap (λ (t : List ℕ). let m : GivenMask = record { kind = Host; text = t } in m) given

-- whoever a mask matches ends with its tail
pub match_ends : (mapping : Casemapping) (mask who : List ℕ) → is_match mapping mask who ≡ true → mask_tail mask ≡ end_key (length (mask_tail mask)) who
unfolding mask_tail
match_ends mapping mask who hit = (tail_ends (items_of Host mask) who (Matches-wider mapping (items_of Host mask) who ((is_match-Decides mapping mask who).0 hit))).0

-- a tail is short enough to be asked for
pub tail_short : (mask : List ℕ) → length (mask_tail mask) < 17
unfolding mask_tail
tail_short mask = omega (arith, length-tail_of (items_of Host mask))

-- and has the pairs that it needs
pub match_pairs : (mapping : Casemapping) (mask who : List ℕ) → is_match mapping mask who ≡ true → is_within (mask_pairs mask) (text_signature who) ≡ true
unfolding mask_pairs
match_pairs mapping mask who hit = is_within-from _ _ (signature_within (items_of Host mask) who (Matches-wider mapping (items_of Host mask) who ((is_match-Decides mapping mask who).0 hit)))

-- whoever a mask matches by a server's casemapping it matches by RFC 2812
pub match_wider : (mapping : Casemapping) (mask who : List ℕ) → is_match mapping mask who ≡ true → is_match Rfc1459 mask who ≡ true
match_wider mapping mask who hit =
    (is_match-Decides Rfc1459 mask who).1 (Matches-wider mapping (items_of Host mask) who ((is_match-Decides mapping mask who).0 hit))
