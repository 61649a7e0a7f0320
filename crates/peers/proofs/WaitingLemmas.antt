-- Streams that are asked one after another.
use Rattle.std.proofs.Common.{◌≡◌, ◌∙◌, ◌++◌, ◌+◌, ◌-◌, ◌<◌, ◌≤◌, ℕ, zero, suc, refl, min, List, [], ◌∷◌, length, get_or, set, take, drop, sym, ap, drop-drop, add-zero, get_or-drop, drop-set-lt, arith}
use Rattle.std.proofs.lemmas.List.{take_more_set}
use Rattle.std.proofs.lemmas.List.Sums.{fold_more}
use Rattle.sharewire.specs.declared.packet.Packet.{Packet}
use Rattle.peers.specs.declared.queue.TheConstants.{MAX_PACKETS}
use Rattle.peers.specs.Waiting.{Waiting, asked, queue_of, round_of, share, with_queue}

-- lists that are the same from a place on have the same there
item-same : {X : Type 0} (xs ys : List X) (i : ℕ) (d : X) → drop i xs ≡ drop i ys → get_or xs i d ≡ get_or ys i d
item-same {X = X} xs ys i d same = sym (at xs) ∙ ap (λ zs. get_or zs 0 d) same ∙ at ys
  where
    at : (zs : List X) → get_or (drop i zs) 0 d ≡ get_or zs i d
    at zs = get_or-drop i zs 0 d ∙ ap (λ n. get_or zs n d) (add-zero i)

-- what comes after a place is as it was when that place alone is written
pub rest-same : {X : Type 0} (xs ys : List X) (i : ℕ) (x : X) → drop i xs ≡ drop i ys → drop (i + 1) (set xs i x) ≡ drop (i + 1) ys
rest-same xs ys i x same =
    drop-set-lt (i + 1) xs i x (omega arith) ∙ sym (drop-drop 1 i xs) ∙ ap (λ zs. drop 1 zs) same ∙ drop-drop 1 i ys

-- one stream more is asked, and its place holds what stays with it
pub asks-one : (queues now : List (List Packet)) (i : ℕ) (given more : List Packet) (served one : ℕ) (queue left d : List Packet)
    → i < length queues → i < length now → queue ≡ get_or now i d → drop i now ≡ drop i queues
    → round_of (take i queues) ≡ record { given = given; left = take i now; served = served }
    → more ≡ given ++ take (share given queue) queue → left ≡ drop (share given queue) queue
    → one ≡ min 1 (MAX_PACKETS - length given)
    → round_of (take (i + 1) queues) ≡ record { given = more; left = take (i + 1) (set now i left); served = served + one }
asks-one queues now i given more served one queue left d within room is same round m l o =
    fold_more asked (record { given = []; left = []; served = 0 }) queues i d within
    ∙ ap (λ r. asked r (get_or queues i d)) round
    ∙ ap (λ q. asked (record { given = given; left = take i now; served = served }) q) (sym (item-same now queues i d same) ∙ sym is)
    ∙ ap (λ g. record { given = g; left = take i now ++ drop (share given queue) queue ∷ []; served = served + min 1 (MAX_PACKETS - length given) }) (sym m)
    ∙ ap (λ q. record { given = more; left = take i now ++ q ∷ []; served = served + min 1 (MAX_PACKETS - length given) }) (sym l)
    ∙ ap (λ r. record { given = more; left = r; served = served + min 1 (MAX_PACKETS - length given) }) (sym (take_more_set now i left room))
    ∙ ap (λ n. record { given = more; left = take (i + 1) (set now i left); served = served + n }) (sym o)

-- at most one stream more is served
pub serves-one : (served one asked room : ℕ) → one ≡ min 1 room → served ≤ asked → served + one ≤ asked + 1
serves-one served one asked room is few = omega arith

-- ---- a queue that is emptied

-- no place of the set list has anything else than the default where the default is set
set-default : {X : Type 0} (xs : List X) (i : ℕ) (d : X) → get_or (set xs i d) i d ≡ d
set-default [] i d = refl
set-default (x ∷ xs) zero d = refl
set-default (x ∷ xs) (suc i) d = set-default xs i d

pub emptied : (waiting : Waiting) (stream : ℕ) → queue_of (with_queue stream [] waiting) stream ≡ []
emptied waiting stream = set-default waiting.queues stream []
