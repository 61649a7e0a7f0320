-- How packets are put on the network one by one.
use Rattle.std.proofs.Common.{◌≡◌, ℕ, List, [], ◌∷◌, ◌++◌, refl, ap, sym, ◌∙◌, append_assoc}
use Rattle.std.proofs.lemmas.List.{append-nil}
use Rattle.sharelink.specs.declared.answer.Outgoing.{Outgoing}
use Rattle.botworld.specs.declared.sent.Sent.{Sent}
use Rattle.botworld.specs.Net.{posted}

-- one more packet is put on the network
pub posted-next : (put : List Sent) (from : ℕ) (rest rest' : List Outgoing) (x : Outgoing) (all : List Sent)
    → rest ≡ x ∷ rest' → put ++ posted from rest ≡ all → (put ++ record { from = from; to = x.to; packet = x.packet } ∷ []) ++ posted from rest' ≡ all
posted-next put from rest rest' x all is e = append_assoc put _ _ ∙ ap (λ os. put ++ posted from os) (sym is) ∙ e

-- packets after packets
pub posted-append : (from : ℕ) (xs ys : List Outgoing) → posted from (xs ++ ys) ≡ posted from xs ++ posted from ys
posted-append from [] ys = refl
posted-append from (x ∷ xs) ys = ap (λ (ps : List Sent). record { from = from; to = x.to; packet = x.packet } ∷ ps) (posted-append from xs ys)

-- all are put
pub posted-end : (put : List Sent) (from : ℕ) (rest : List Outgoing) (all : List Sent) → rest ≡ [] → put ++ posted from rest ≡ all → put ≡ all
posted-end put from rest all is e = sym (append-nil put) ∙ ap (λ os. put ++ posted from os) (sym is) ∙ e
