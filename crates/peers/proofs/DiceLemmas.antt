-- Nonces among others.
use Rattle.std.proofs.Common.{◌≡◌, ◌∙◌, ◌++◌, ℕ, zero, suc, refl, List, [], ◌∷◌, take, drop, set, get_or, sym, ap, subst, append_assoc, length, arith}
use Rattle.std.proofs.lemmas.List.{append-nil, length-map, take-append-le, take_all}
use Rattle.std.specs.List.{remove}
use Rattle.std.proofs.Math.Seq.{map-set_same}
use Rattle.handshake.specs.declared.hub_side.HubSide.{HubSide}
use Rattle.peers.specs.declared.guest.Guest.{Guest}
use Rattle.peers.specs.Drawn.{AreAmong, Draws, nonce_of, nonces_of}
use Rattle.peers.specs.Drawn.AreAmong.{no_more, this, other}

-- ---- nonces that stand among others

pub among_self : (nonces : List (List ℕ)) → AreAmong nonces nonces
among_self [] = no_more
among_self (nonce ∷ nonces) = this (among_self nonces)

pub among_same : {some other all : List (List ℕ)} → some ≡ other → AreAmong other all → AreAmong some all
among_same {all = all} is among = subst (λ (some : List (List ℕ)). AreAmong some all) (sym is) among

pub among_trans : {some more all : List (List ℕ)} → AreAmong some more → AreAmong more all → AreAmong some all
among_trans a no_more = a
among_trans (this a) (this b) = this (among_trans a b)
among_trans (other a) (this b) = other (among_trans a b)
among_trans a (other b) = other (among_trans a b)

-- the same are appended to both
pub among_append : {some all : List (List ℕ)} (rest : List (List ℕ)) → AreAmong some all → AreAmong (some ++ rest) (all ++ rest)
among_append rest no_more = among_self rest
among_append rest (this a) = this (among_append rest a)
among_append rest (other a) = other (among_append rest a)

pub among_more : (nonces rest : List (List ℕ)) → AreAmong nonces (nonces ++ rest)
among_more [] [] = no_more
among_more [] (nonce ∷ rest) = other (among_more [] rest)
among_more (nonce ∷ nonces) rest = this (among_more nonces rest)

-- the last of them alone
pub among_last : (before : List (List ℕ)) {said nonce : List ℕ} → said ≡ nonce → AreAmong (said ∷ []) (before ++ nonce ∷ [])
among_last [] {nonce = nonce} same = among_same (ap (λ said. said ∷ []) same) (among_self (nonce ∷ []))
among_last (first ∷ before) same = other (among_last before same)

-- those of the guests that are left
pub among_remove : (guests : List Guest) (place : ℕ) → AreAmong (nonces_of (remove guests place)) (nonces_of guests)
among_remove [] zero = no_more
among_remove [] (suc place) = no_more
among_remove (guest ∷ guests) zero = other (among_self (nonces_of guests))
among_remove (guest ∷ guests) (suc place) = this (among_remove guests place)

-- a guest is replaced by one that says the same nonce
pub nonces_set : (guests : List Guest) (place : ℕ) (guest d : Guest) → guest.side ≡ (get_or guests place d).side
    → nonces_of (set guests place guest) ≡ nonces_of guests
nonces_set guests place guest d same = map-set_same nonce_of guests place guest d (ap (λ (side : HubSide). side.nonce) same)

-- ---- what a call draws

-- it draws nothing
pub draws_none : {before after rolled new : List (List ℕ)} → new ≡ rolled → AreAmong after before → Draws before after rolled new
draws_none {before = before} {rolled = rolled} same among = record {
  rolls = [];
  rolled = same ∙ sym (append-nil rolled);
  own = among_trans among (among_more before []);
}

-- and nothing begins
pub draws_same : (nonces rolled : List (List ℕ)) → Draws nonces nonces rolled rolled
draws_same nonces rolled = draws_none refl (among_self nonces)

-- one nonce that is said from now on, or by nobody
pub draws_one : {before after rolled new : List (List ℕ)} (nonce : List ℕ) → new ≡ rolled ++ nonce ∷ []
    → AreAmong after (before ++ nonce ∷ []) → Draws before after rolled new
draws_one nonce is among = record { rolls = nonce ∷ []; rolled = is; own = among }

-- two calls after one another
pub draws_then : {before mid after first second third : List (List ℕ)} → Draws before mid first second → Draws mid after second third
    → Draws before after first third
draws_then {before = before} {after = after} {first = first} one two = record {
  rolls = one.rolls ++ two.rolls;
  rolled = two.rolled ∙ ap (λ r. r ++ two.rolls) one.rolled ∙ append_assoc first one.rolls two.rolls;
  own = subst (λ (all : List (List ℕ)). AreAmong after all) (append_assoc before one.rolls two.rolls) (among_trans two.own (among_append two.rolls one.own));
}

-- ---- a slice of a whole `Vec`, written back

pub take_written : (n : ℕ) (before after : List Guest) → n ≡ length before → nonces_of after ≡ nonces_of before
    → nonces_of (take n (after ++ drop (length after) before)) ≡ nonces_of before
take_written n before after whole same =
    let long : length after ≡ length before = sym (length-map after nonce_of) ∙ ap length same ∙ length-map before nonce_of in
    ap nonces_of (take-append-le n after (drop (length after) before) (omega (arith, whole, long)) ∙ take_all n after (omega (arith, whole, long)))
    ∙ same
