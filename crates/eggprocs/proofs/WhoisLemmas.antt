-- By what `whois` knows a member: the account that decides, or the hostmask.
use Rattle.std.proofs.Common.{◌≡◌, ◌↔◌, ◌∙◌, ℕ, nat_lt, Bool, true, false, not, ◌&&◌, ◌||◌, ◌==◌, if◌then◌else◌, List, [], ◌∷◌, ◌++◌, refl, sym, ap, subst, true≢false, codes}
use Rattle.std.specs.Prelude.{IsTrue}
use Rattle.std.specs.List.{list_all}
use Rattle.std.proofs.lemmas.Bool.{and_parts, false_from_ne_true, or_right}
use Rattle.rfccase.specs.declared.casemappings.Casemapping.{Casemapping}
use Rattle.wildmask.specs.Masks.{is_account_byte}
use Rattle.userfile.specs.declared.user.User.{User}
use Rattle.chanstate.specs.declared.member.Member.{Member}
use Rattle.procs.specs.Identity.{account_claim, is_account, is_known_account, claim_by, has_bang}
use Rattle.eggprocs.specs.Everyone.{address_of}

-- ---- the ! tells addresses from claims of accounts

bang-within : (nick user host : List ℕ) → has_bang (nick ++ codes "!" ++ user ++ codes "@" ++ host) ≡ true
bang-within [] user host = refl
bang-within (b ∷ nick) user host = or_right (b == 33) (has_bang (nick ++ codes "!" ++ user ++ codes "@" ++ host)) (bang-within nick user host)

address-bang : (member : Member) → has_bang (address_of member) ≡ true
address-bang member = bang-within member.nick member.user member.host

no-bang-byte : (b : ℕ) → is_account_byte b ≡ true → (b == 33) ≡ false
no-bang-byte b = by (nat_lt 32 b) (b == 33) (b == 64) (b == 42) (b == 63)
  where
    by : (high bang at star question : Bool) → (high && not (bang || at || star || question)) ≡ true → bang ≡ false
    by high false at star question h = refl
    by true true at star question h = cc
    by false true at star question h = cc

no-bang : (name : List ℕ) → list_all is_account_byte name ≡ true → has_bang name ≡ false
no-bang [] h = refl
no-bang (b ∷ name) h =
    let parts = and_parts (is_account_byte b) (list_all is_account_byte name) h in
    ap (λ (t : Bool). t || has_bang name) (no-bang-byte b parts.0) ∙ no-bang name parts.1

known-account : (mapping : Casemapping) (users : List User) (account : List ℕ) → is_known_account mapping users account ≡ true
    → has_bang (account_claim account) ≡ false
unfolding is_known_account is_account
known-account mapping users account known =
    no-bang account (and_parts _ _ (and_parts _ _ known).0).1

claim-known : (mapping : Casemapping) (users : List User) (account who : List ℕ) (known same : Bool) → is_known_account mapping users account ≡ known
    → has_bang who ≡ true → (IsTrue same ↔ ((if known then account_claim account else who) ≡ who)) → not same ≡ known
claim-known mapping users account who false same is bang test = ap not (test.1 refl)
claim-known mapping users account who true same is bang test =
    ap not (false_from_ne_true same (λ equal.
    true≢false (sym bang ∙ ap has_bang (sym (test.0 equal)) ∙ known-account mapping users account is)))

-- a member's claim is not the address exactly if a user has a hostmask of the account
pub by-account : (mapping : Casemapping) (users : List User) (account who claim : List ℕ) (member : Member) (same : Bool)
    → who ≡ address_of member → claim ≡ claim_by mapping users account who → (IsTrue same ↔ (claim ≡ who))
    → not same ≡ is_known_account mapping users account
unfolding claim_by
by-account mapping users account who claim member same whose is test =
    claim-known mapping users account who (is_known_account mapping users account) same refl (ap has_bang whose ∙ address-bang member)
    (subst (λ (text : List ℕ). IsTrue same ↔ (text ≡ who)) is test)
