-- What goes out is sound, and letters are posted one after another.
use Rattle.std.proofs.Common.{◌≡◌, ℕ, Bool, true, false, ◌&&◌, cond, List, [], ◌∷◌, ◌++◌, Option, length, filter, nat_le, refl, sym, ◌∙◌, ap, append_assoc, arith}
use Rattle.std.specs.List.{list_all}
use Rattle.std.proofs.lemmas.Bool.{and_from, and_parts, le-leb}
use Rattle.std.proofs.lemmas.List.{length-take, append-nil}
use Rattle.std.proofs.lemmas.List.Folds.{list_all-append}
use Rattle.ircline.specs.Classes.{filled, octet}
use Rattle.miniircd.specs.declared.client_identity.ClientIdentity.{ClientIdentity}
use Rattle.miniircd.specs.declared.client.SentLine.{SentLine}
use Rattle.miniircd.specs.Mail.{Mail, Letter, sealed, serves, delivery, deliveries, posted, is_sound, are_sound}
use Rattle.miniircd.proofs.ListLemmas.{list_all-taken}

-- ---- lists whose items all pass

list_all-kept : (p : ℕ → Bool) (x : ℕ) (xs : List ℕ) (b : Bool) → p x ≡ b → list_all p xs ≡ true → list_all p (cond b (x ∷ xs) xs) ≡ true
list_all-kept p x xs true e h = and_from (p x) (list_all p xs) e h
list_all-kept p x xs false e h = h

list_all-filter : (p : ℕ → Bool) (xs : List ℕ) → list_all p (filter p xs) ≡ true
list_all-filter p [] = refl
list_all-filter p (x ∷ xs) = list_all-kept p x (filter p xs) (p x) refl (list_all-filter p xs)

-- ---- lines

sealed-short : (text : List ℕ) → nat_le (length (sealed text)) 510 ≡ true
sealed-short text = le-leb _ _ (omega (arith, length-take 510 (filter octet text)))

sealed-octets : (text : List ℕ) → list_all octet (sealed text) ≡ true
sealed-octets text = list_all-taken octet 510 (filter octet text) (list_all-filter octet text)

pub are_sound-more : (clients : List (Option ClientIdentity)) (leaver : Option ℕ) (lines : List SentLine) (to : ℕ) (text line : List ℕ)
    → are_sound clients leaver lines ≡ true → line ≡ sealed text → (filled line && serves clients leaver to) ≡ true
    → are_sound clients leaver (lines ++ record { to = record { 0 = to }; line = line } ∷ []) ≡ true
are_sound-more clients leaver lines to text line sound is goes =
    let one : SentLine = record { to = record { 0 = to }; line = line } in
    let short = ap (λ (l : List ℕ). nat_le (length l) 510) is ∙ sealed-short text in
    let octets = ap (list_all octet) is ∙ sealed-octets text in
    let parts = and_parts (filled line) (serves clients leaver to) goes in
    list_all-append (is_sound clients leaver) lines (one ∷ [])
    ∙ and_from _ _ sound (and_from _ true (and_from _ _ parts.1 (and_from _ _ parts.0 (and_from _ _ short octets))) refl)

-- ---- letters, one after another

deliveries-append : (clients : List (Option ClientIdentity)) (leaver : Option ℕ) (a b : List Letter)
    → deliveries clients leaver (a ++ b) ≡ deliveries clients leaver a ++ deliveries clients leaver b
deliveries-append clients leaver [] b = refl
deliveries-append clients leaver (letter ∷ a) b =
    ap (λ ls. delivery clients leaver letter ++ ls) (deliveries-append clients leaver a b)
    ∙ sym (append_assoc (delivery clients leaver letter) (deliveries clients leaver a) (deliveries clients leaver b))

pub posted_append : (a b : List Letter) (mail : Mail) → posted (a ++ b) mail ≡ posted b (posted a mail)
posted_append a b mail =
    ap (λ ls. record mail { lines = ls })
    (ap (λ ls. mail.lines ++ ls) (deliveries-append mail.clients mail.leaver a b)
    ∙ sym (append_assoc mail.lines (deliveries mail.clients mail.leaver a) (deliveries mail.clients mail.leaver b)))

pub posted_none : (mail : Mail) → posted [] mail ≡ mail
posted_none mail = ap (λ ls. record mail { lines = ls }) (append-nil mail.lines)

-- letters that go out after others
pub posted_step : (a one all : List Letter) (at next mail : Mail)
    → all ≡ a ++ one → at ≡ posted a mail → next ≡ posted one at → next ≡ posted all mail
posted_step a one all at next mail split before now =
    now ∙ ap (posted one) before ∙ sym (posted_append a one mail) ∙ ap (λ letters. posted letters mail) (sym split)

pub posted_three : (a b c : List Letter) (first next last mail : Mail)
    → first ≡ posted a mail → next ≡ posted b first → last ≡ posted c next → last ≡ posted (a ++ b ++ c) mail
posted_three a b c first next last mail h k l =
    posted_step (a ++ b) c (a ++ b ++ c) next last mail refl (posted_step a b (a ++ b) first next mail refl h k) l
