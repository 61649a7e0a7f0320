-- The records of a reply, one after another.
use Rattle.std.proofs.Common.{◌≡◌, ◌∙◌, ℕ, suc, ◌+◌, ◌-◌, ◌<◌, List, length, drop, Option, None, Some, ap, sym, refl}
use Rattle.std.specs.Prelude.{option_and_then}
use Rattle.std.proofs.lemmas.List.{drop_more}
use Rattle.std.proofs.lemmas.Bool.{lt-ltb, cond-true}
use Rattle.std.specs.declared.net.ip_addr.IpAddr.{IpAddr}
use Rattle.resolver.specs.declared.family.Family.{Family}
use Rattle.resolver.specs.Replies.{Held, after_name, record_at, noted, found_at}

-- inside a label one byte is stepped over
pub after_name-inside : (left i : ℕ) (bytes : List ℕ) (whole : Option (List ℕ)) → i < length bytes → 0 < left
    → after_name left (drop i bytes) ≡ whole → after_name (left - 1) (drop (i + 1) bytes) ≡ whole
after_name-inside left i bytes whole within some so_far =
    let next = ap (after_name left) (drop_more bytes i 0 within) in
    sym (next ∙ cond-true _ _ _ (lt-ltb 0 left some)) ∙ so_far

pub found_at-suc : (family : Family) (n : ℕ) (found : List IpAddr) (bytes : List ℕ)
    → found_at family (suc n) found bytes ≡ option_and_then
    (λ held. option_and_then (λ longer. found_at family n longer held.rest) (noted family found held.kind held.contents)) (record_at bytes)
unfolding found_at
found_at-suc family n found bytes = refl

-- what the first of some records does
stepped : (family : Family) (n m : ℕ) (found : List IpAddr) (bytes : List ℕ) (held : Option Held) → n ≡ suc m → held ≡ record_at bytes
    → found_at family n found bytes ≡ option_and_then
    (λ held. option_and_then (λ longer. found_at family m longer held.rest) (noted family found held.kind held.contents)) held
stepped family n m found bytes held is at =
    ap (λ k. found_at family k found bytes) is ∙ found_at-suc family m found bytes
    ∙ ap (option_and_then (λ held. option_and_then (λ longer. found_at family m longer held.rest) (noted family found held.kind held.contents)))
    (sym at)

pub found_at-more : (family : Family) (n m : ℕ) (found longer : List IpAddr) (bytes : List ℕ) (held : Held) (whole : Option (List IpAddr))
    → n ≡ suc m → Some held ≡ record_at bytes → Some longer ≡ noted family found held.kind held.contents
    → found_at family n found bytes ≡ whole → found_at family m longer held.rest ≡ whole
found_at-more family n m found longer bytes held whole is at adds so_far =
    ap (option_and_then (λ longer. found_at family m longer held.rest)) adds
    ∙ sym (stepped family n m found bytes (Some held) is at) ∙ so_far

pub found_at-cut : (family : Family) (n m : ℕ) (found : List IpAddr) (bytes : List ℕ) (whole : Option (List IpAddr))
    → n ≡ suc m → None ≡ record_at bytes → found_at family n found bytes ≡ whole → None ≡ whole
found_at-cut family n m found bytes whole is at so_far = sym (stepped family n m found bytes None is at) ∙ so_far

pub found_at-bad : (family : Family) (n m : ℕ) (found : List IpAddr) (bytes : List ℕ) (held : Held) (whole : Option (List IpAddr))
    → n ≡ suc m → Some held ≡ record_at bytes → None ≡ noted family found held.kind held.contents
    → found_at family n found bytes ≡ whole → None ≡ whole
found_at-bad family n m found bytes held whole is at bad so_far =
    ap (option_and_then (λ longer. found_at family m longer held.rest)) bad
    ∙ sym (stepped family n m found bytes (Some held) is at) ∙ so_far

pub found_at-zero : (family : Family) (found : List IpAddr) (bytes : List ℕ) → found_at family 0 found bytes ≡ Some found
unfolding found_at
found_at-zero family found bytes = refl

pub found_at-end : (family : Family) (n : ℕ) (found : List IpAddr) (bytes : List ℕ) (whole : Option (List IpAddr))
    → n ≡ 0 → found_at family n found bytes ≡ whole → Some found ≡ whole
found_at-end family n found bytes whole is so_far =
    sym (ap (λ k. found_at family k found bytes) is ∙ found_at-zero family found bytes) ∙ so_far
