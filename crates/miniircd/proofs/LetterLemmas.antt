-- Letters that go out as they are: each goes to a client that is held, and is a line that reads as a message.
use Rattle.std.proofs.Common.{◌≡◌, ℕ, ◌≤◌, Bool, true, ◌&&◌, List, [], ◌∷◌, ◌++◌, Option, None, filter, map, take, length, nat_le, refl, sym, ◌∙◌, ap, arith}
use Rattle.std.specs.List.{list_all, flat_map}
use Rattle.std.proofs.lemmas.Bool.{and_from, and_parts, cond_both, cond-true, leb-true, false≢true}
use Rattle.std.proofs.lemmas.List.{length-take, take_all}
use Rattle.std.proofs.lemmas.List.Folds.{list_all-append}
use Rattle.ircline.specs.Classes.{filled, octet, trailing}
use Rattle.ircline.specs.Reading.{flush, line_at}
use Rattle.ircline.proofs.GrammarLemmas.{nospcrlf_octets}
use Rattle.miniircd.specs.declared.client_identity.ClientIdentity.{ClientIdentity}
use Rattle.miniircd.specs.declared.member.ServerMember.{ServerMember}
use Rattle.miniircd.specs.declared.client.SentLine.{SentLine}
use Rattle.miniircd.specs.Mail.{Letter, sealed, serves, delivery, deliveries, is_message, is_readable, is_line, sent}
use Rattle.miniircd.specs.Lines.{Relays, relay, repeated, numbered, letter, told, spread}
use Rattle.miniircd.specs.Whole.{is_held, are_clients}
use Rattle.miniircd.proofs.PeopleLemmas.{Texts}
use Rattle.miniircd.proofs.PrintedLemmas.{numbered_line, numbered_reads, relayed_line, relay_reads}
use Rattle.miniircd.proofs.ListLemmas.{list_all-taken}

-- ---- letters that go out as they are

abbrev pub arrives : List (Option ClientIdentity) → Letter → Bool
arrives clients letter = is_held clients letter.to && (is_line letter.text && is_readable letter.text)

filter_all : (p : ℕ → Bool) (xs : List ℕ) → list_all p xs ≡ true → filter p xs ≡ xs
filter_all p [] all = refl
filter_all p (x ∷ xs) all =
    let parts = and_parts (p x) (list_all p xs) all in
    cond_both (p x) (x ∷ filter p xs) (filter p xs) (λ l. l ≡ x ∷ xs) (λ is. ap (λ more. x ∷ more) (filter_all p xs parts.1))
    (λ isnt. absurd (false≢true (sym isnt ∙ parts.0)))

sealed_line : (text : List ℕ) → is_line text ≡ true → sealed text ≡ text
sealed_line text is =
    let parts = and_parts (filled text) (nat_le (length text) 510 && list_all octet text) is in
    let more = and_parts (nat_le (length text) 510) (list_all octet text) parts.1 in
    ap (take 510) (filter_all octet text more.1) ∙ take_all 510 text (leb-true (length text) 510 more.0)

delivered_one : (clients : List (Option ClientIdentity)) (one : Letter) → arrives clients one ≡ true → delivery clients None one ≡ sent one ∷ []
delivered_one clients one is =
    let parts = and_parts (is_held clients one.to) (is_line one.text && is_readable one.text) is in
    let line = (and_parts (is_line one.text) (is_readable one.text) parts.1).0 in
    let seal = sealed_line one.text line in
    let there = (and_parts (filled one.text) (nat_le (length one.text) 510 && list_all octet one.text) line).0 in
    let goes = and_from (filled (sealed one.text)) (serves clients None one.to) (ap filled seal ∙ there)
    (and_from (is_held clients one.to) true parts.0 refl) in
    let out : List ℕ → List SentLine = λ line. record { to = record { 0 = one.to }; line = line } ∷ [] in
    cond-true (filled (sealed one.text) && serves clients None one.to) (out (sealed one.text)) [] goes ∙ ap out seal

pub delivered : (clients : List (Option ClientIdentity)) (letters : List Letter) → list_all (arrives clients) letters ≡ true
    → deliveries clients None letters ≡ map sent letters
delivered clients [] all = refl
delivered clients (one ∷ letters) all =
    let parts = and_parts (arrives clients one) (list_all (arrives clients) letters) all in
    ap (λ l. l ++ deliveries clients None letters) (delivered_one clients one parts.0)
    ∙ ap (λ l. sent one ∷ l) (delivered clients letters parts.1)

-- ---- replies

-- a client that is held and has given a nick
pub record Speaks (clients : List (Option ClientIdentity)) (client : ℕ) (p : ClientIdentity) : Type 0 where
  pub held : is_held clients client ≡ true
  pub named : filled p.nick ≡ true
  pub texts : Texts p

abbrev pub all_arrive : List (Option ClientIdentity) → List Letter → Type 0
all_arrive clients letters = list_all (arrives clients) letters ≡ true

pub told_arrives : (clients : List (Option ClientIdentity)) (client : ℕ) (p : ClientIdentity) (code words last : List ℕ) → Speaks clients client p
    → list_all octet code ≡ true → length code ≤ 3 → list_all octet words ≡ true → length words ≤ 400 → trailing last ≡ true
    → is_message (line_at (flush (numbered p.nick code words last))) ≡ true
    → arrives clients (told client p code words last) ≡ true
told_arrives clients client p code words last by k short w few l reads =
    let line = numbered_line p.nick code words last (nospcrlf_octets p.nick by.texts.nick) by.texts.nick_short k short w few l in
    and_from _ _ by.held (numbered_reads p.nick code words last line reads)

pub repeated_octets : (word : List ℕ) → trailing word ≡ true → list_all octet (repeated word) ≡ true
repeated_octets word is = list_all-taken octet 100 word is

pub repeated_short : (word : List ℕ) → length (repeated word) ≤ 101
repeated_short word = omega (arith, length-take 100 word)

pub reply_arrives : (clients : List (Option ClientIdentity)) (client : ℕ) (p : ClientIdentity) (code word last : List ℕ) → Speaks clients client p
    → list_all octet code ≡ true → length code ≤ 3 → trailing word ≡ true → trailing last ≡ true
    → is_message (line_at (flush (numbered p.nick code (repeated word) last))) ≡ true
    → arrives clients (told client p code (repeated word) last) ≡ true
reply_arrives clients client p code word last by k short w l reads =
    told_arrives clients client p code (repeated word) last by k short (repeated_octets word w) (omega (arith, repeated_short word)) l reads

pub alone : (clients : List (Option ClientIdentity)) (one : Letter) → arrives clients one ≡ true → all_arrive clients (one ∷ [])
alone clients one is = and_from (arrives clients one) true is refl

pub together : (clients : List (Option ClientIdentity)) (a b : List Letter) → all_arrive clients a → all_arrive clients b
    → all_arrive clients (a ++ b)
together clients a b x y = list_all-append (arrives clients) a b ∙ and_from _ _ x y

pub spread_arrives : (clients : List (Option ClientIdentity)) (text : List ℕ) (members : List ServerMember) → (is_line text && is_readable text) ≡ true
    → are_clients (is_held clients) members ≡ true → all_arrive clients (spread text members)
spread_arrives clients text [] is all = refl
spread_arrives clients text (m ∷ members) is all =
    let parts = and_parts (is_held clients m.client) (are_clients (is_held clients) members) all in
    and_from (arrives clients (letter m.client text)) _ (and_from _ _ parts.0 is) (spread_arrives clients text members is parts.1)

-- a line that is passed on is a line, and reads as a message
pub relay_goes : (source command last : List ℕ) (middles : List (List ℕ)) → Relays source command last middles
    → list_all octet source ≡ true → list_all octet command ≡ true → list_all octet (flat_map (λ word. 32 ∷ word) middles) ≡ true
    → (is_line (relay source command last middles) && is_readable (relay source command last middles)) ≡ true
relay_goes source command last middles r s c w =
    and_from _ _ (relayed_line source command (flat_map (λ word. 32 ∷ word) middles) last r.short s c w r.text)
    (ap is_message (relay_reads source command last middles r).2)
