-- Letters of lists, one element after another.
use Rattle.std.proofs.Common.{◌≡◌, ℕ, ◌+◌, ◌<◌, ◌≤◌, List, [], ◌∷◌, ◌++◌, Option, length, take, drop, get_or, refl, sym, ap, add-one, arith}
use Rattle.std.proofs.lemmas.List.{map_more}
use Rattle.miniircd.specs.declared.client_identity.ClientIdentity.{ClientIdentity}
use Rattle.miniircd.specs.declared.member.ServerMember.{ServerMember}
use Rattle.miniircd.specs.declared.member.ServerChannel.{ServerChannel}
use Rattle.miniircd.specs.Rooms.{joined}
use Rattle.miniircd.specs.Mail.{Mail, posted}
use Rattle.miniircd.specs.Lines.{letter, spread, listed, listed_before, source_of, join_letters, join_letters_each}
use Rattle.miniircd.proofs.MailLemmas.{posted_step}

-- ---- members

pub spread_step : (text : List ℕ) (members : List ServerMember) (i : ℕ) (d : ServerMember) (at next mail : Mail) → i < length members
    → at ≡ posted (spread text (take i members)) mail → next ≡ posted (letter (get_or members i d).client text ∷ []) at
    → next ≡ posted (spread text (take (i + 1) members)) mail
spread_step text members i d at next mail less before now =
    posted_step (spread text (take i members)) (letter (get_or members i d).client text ∷ []) (spread text (take (i + 1) members)) at next mail
    (map_more (λ (m : ServerMember). letter m.client text) members i d less) before now

-- ---- names

pub listed_more : (to : ℕ) (p : ClientIdentity) (name : List ℕ) (names : List (List ℕ)) (i : ℕ)
    → listed_before to p name names (i + 1) ≡ listed_before to p name names i ++ listed to p name names i ∷ []
unfolding listed_before
listed_more to p name names i = rw add-one refl

pub listed_none : (to : ℕ) (p : ClientIdentity) (name : List ℕ) (names : List (List ℕ)) → listed_before to p name names 0 ≡ []
unfolding listed_before
listed_none to p name names = refl

-- ---- joins

pub join_letters_first : (client : ℕ) (p : ClientIdentity) (clients : List (Option ClientIdentity)) (names : List (List ℕ)) (name d : List ℕ) (channels : List ServerChannel)
    → 1 ≤ length names → name ≡ get_or names 0 d
    → join_letters_each client p clients names channels
    ≡ join_letters client p clients name channels ++ join_letters_each client p clients (drop 1 names) (joined client (source_of p) name channels)
join_letters_first client p clients [] name d channels some is = absurd (omega arith)
join_letters_first client p clients (first ∷ names) name d channels some is =
    ap (λ n. join_letters client p clients n channels ++ join_letters_each client p clients names (joined client (source_of p) n channels)) (sym is)
