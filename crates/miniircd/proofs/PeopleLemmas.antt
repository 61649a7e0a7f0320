-- The texts that the server keeps of a client, and the source that they make.
use Rattle.std.proofs.Common.{◌≡◌, ℕ, ◌+◌, ◌≤◌, true, false, not, ◌&&◌, ◌||◌, ◌==◌, List, [], ◌∷◌, ◌++◌, length, nat_le, codes, refl, ◌∙◌, ap, inl, inr, arith, append_assoc}
use Rattle.std.specs.List.{list_all, list_any}
use Rattle.std.proofs.lemmas.Bool.{and_from, and_parts, cond-true, not-true, not_from_false, or_right, or_cases, lt-ltb, ltb-false, leb-true}
use Rattle.std.proofs.lemmas.List.{length-append}
use Rattle.std.proofs.lemmas.List.Folds.{list_all-append, list_any-append}
use Rattle.ircline.specs.Classes.{filled, octet, nospcrlf, names}
use Rattle.ircline.specs.Sources.{nick_of}
use Rattle.ircline.specs.Words.{holds, before}
use Rattle.ircline.proofs.GrammarLemmas.{nospcrlf_octets}
use Rattle.ircline.proofs.TextLemmas.{all-weaker, apart, joined_at}
use Rattle.miniircd.specs.declared.client_identity.ClientIdentity.{ClientIdentity}
use Rattle.miniircd.specs.Lines.{source_of}
use Rattle.miniircd.specs.Commands.{is_nick_byte, is_nick}
use Rattle.miniircd.specs.Whole.{is_sound_person}

unfilled : (text : List ℕ) → filled text ≡ false → text ≡ []
unfilled [] is = refl
unfilled (b ∷ bs) is = absurd (omega (arith, ltb-false 0 (length (b ∷ bs)) is))

nick_byte-word : (b : ℕ) → is_nick_byte b ≡ true → nospcrlf b ≡ true
nick_byte-word b is =
    let nul = apart is_nick_byte 0 b is refl in
    let cr = apart is_nick_byte 13 b is refl in
    let lf = apart is_nick_byte 10 b is refl in
    let space = apart is_nick_byte 32 b is refl in
    rw (nul, cr, lf, space) refl

-- what the texts of a client are
pub record Texts (p : ClientIdentity) : Type 0 where
  pub nick : list_all nospcrlf p.nick ≡ true
  pub nick_short : length p.nick ≤ 30
  pub nick_plain : list_all (λ b. not (b == 33)) p.nick ≡ true
  pub user : list_all nospcrlf p.user ≡ true
  pub user_short : length p.user ≤ 30

nick_texts : (nick : List ℕ) → (not (filled nick) || is_nick nick) ≡ true
    → (list_all nospcrlf nick ≡ true) × (length nick ≤ 30) × (list_all (λ b. not (b == 33)) nick ≡ true)
nick_texts nick is =
    elim (or_cases (not (filled nick)) (is_nick nick) is) [
      | inl none ↦
          let empty = unfilled nick (not-true (filled nick) none) in
          (ap (list_all nospcrlf) empty, omega (arith, ap length empty), ap (list_all (λ b. not (b == 33))) empty)
      | inr named ↦
          let more = and_parts (nat_le (length nick) 30) (list_all is_nick_byte nick)
          (and_parts (filled nick) (nat_le (length nick) 30 && list_all is_nick_byte nick) named).1 in (
            all-weaker is_nick_byte nospcrlf nick_byte-word nick more.1,
            leb-true (length nick) 30 more.0,
            all-weaker is_nick_byte (λ b. not (b == 33)) (λ b there. not_from_false (b == 33) (apart is_nick_byte 33 b there refl)) nick more.1,
          )
    ]

pub texts : (p : ClientIdentity) → is_sound_person p ≡ true → Texts p
texts p is =
    let parts = and_parts (not (filled p.nick) || is_nick p.nick) (nat_le (length p.user) 30 && list_all nospcrlf p.user) is in
    let user = and_parts (nat_le (length p.user) 30) (list_all nospcrlf p.user) parts.1 in
    let nick = nick_texts p.nick parts.0 in
    record { nick = nick.0; nick_short = nick.1; nick_plain = nick.2; user = user.1; user_short = leb-true (length p.user) 30 user.0 }

pub source_octets : (p : ClientIdentity) → Texts p → list_all octet (source_of p) ≡ true
source_octets p t =
    let n = nospcrlf_octets p.nick t.nick in
    let u = nospcrlf_octets p.user t.user in
    simp (list_all-append, n, u)

length-source : (p : ClientIdentity) → length (source_of p) ≡ length p.nick + (length p.user + 7)
length-source p = simp length-append (omega arith)

pub source_short : (p : ClientIdentity) → Texts p → length (source_of p) ≤ 67
source_short p t =
    let whole = length-source p in
    let nick = t.nick_short in
    let user = t.user_short in
    omega arith

-- the source of one who has given a nick names it
pub source_names : (p : ClientIdentity) → Texts p → filled p.nick ≡ true → names (source_of p) ≡ true
source_names p t there =
    let n = t.nick in
    let u = t.user in
    let words : list_all nospcrlf (source_of p) ≡ true = simp (list_all-append, n, u) in
    let back = 33 ∷ (p.user ++ codes "@local") in
    let split : source_of p ≡ p.nick ++ back = simp append_assoc in
    let held : holds 33 (p.nick ++ back) ≡ true =
    list_any-append (λ b. b == 33) p.nick back ∙ or_right (list_any (λ b. b == 33) p.nick) true refl in
    let nick : nick_of (p.nick ++ back) ≡ p.nick =
    cond-true (holds 33 (p.nick ++ back)) (before 33 (p.nick ++ back)) (before 64 (p.nick ++ back)) held
    ∙ (joined_at (λ b. b == 33) p.nick back t.nick_plain refl).0 in
    and_from _ _ words (ap filled (ap nick_of split ∙ nick) ∙ there)

pub source_filled : (p : ClientIdentity) → filled (source_of p) ≡ true
source_filled p = lt-ltb 0 (length (source_of p)) (omega (arith, length-source p))
