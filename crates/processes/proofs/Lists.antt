-- Lists of processes and of packets.
use Rattle.std.proofs.Common.{◌≡◌, ◌<◌, ℕ, zero, suc, Bool, true, false, if◌then◌else◌, List, [], ◌∷◌, ◌++◌, length, slice_get, Some, refl, ap, sym, subst, arith}
use Rattle.protocol.specs.Packets.{Sent as LinkSent, from_wire}
use Rattle.protocol.specs.Numbers.{item_at}
use Rattle.protocol.proofs.Lists.{item_at-more}
use Rattle.botworld.specs.declared.sent.Sent.{Sent}
use Rattle.botworld.specs.Net.{packet_at}
use Rattle.botworld.specs.Network.{sent_as, all_sent}
use Rattle.processes.specs.Deeds.{is_unanswered, answered}
use Rattle.processes.specs.Standing.{IsAmong, AreAmong}
use Rattle.processes.proofs.Replacing.{link_answered}

-- ---- packets among packets

pub IsAmong-more : (sent : LinkSent) (packets more : List LinkSent) → IsAmong sent packets
    → IsAmong sent (packets ++ more)
IsAmong-more sent packets more among = (
  among.0,
  item_at-more packets (packets ++ more) among.0 sent (more, refl)
      among.1,
)

pub AreAmong-more : (told : List Sent) (packets more : List LinkSent) → AreAmong told packets
    → AreAmong told (packets ++ more)
AreAmong-more [] packets more among = tt
AreAmong-more (sent ∷ told) packets more among = (
  IsAmong-more (sent_as sent) packets more among.0,
  AreAmong-more told
      packets more among.1,
)

pub AreAmong-append : (told more : List Sent) (packets : List LinkSent) → AreAmong told packets → AreAmong more packets
    → AreAmong (told ++ more) packets
AreAmong-append [] more packets among others = others
AreAmong-append (sent ∷ told) more packets among others = (among.0, AreAmong-append told more packets among.1 others)

-- where there is one more in front, each number is one more
IsAmong-behind : (sent first : LinkSent) (packets : List LinkSent) → IsAmong sent packets
    → IsAmong sent (first ∷ packets)
IsAmong-behind sent first packets (zero, at) = cc
IsAmong-behind sent first packets (suc place, at) = (suc (suc place), at)

IsAmong-after : (sent : LinkSent) (front packets : List LinkSent) → IsAmong sent packets
    → IsAmong sent (front ++ packets)
IsAmong-after sent [] packets among = among
IsAmong-after sent (first ∷ front) packets among = IsAmong-behind sent first (front ++ packets)
    (IsAmong-after sent front packets among)

AreAmong-behind : (told : List Sent) (first : LinkSent) (packets : List LinkSent) → AreAmong told packets
    → AreAmong told (first ∷ packets)
AreAmong-behind [] first packets among = tt
AreAmong-behind (sent ∷ told) first packets among =
    (IsAmong-behind (sent_as sent) first packets among.0, AreAmong-behind told first packets among.1)

AreAmong-after : (told : List Sent) (front packets : List LinkSent) → AreAmong told packets
    → AreAmong told (front ++ packets)
AreAmong-after told [] packets among = among
AreAmong-after told (first ∷ front) packets among = AreAmong-behind told first (front ++ packets)
    (AreAmong-after told front packets among)

AreAmong-self : (told : List Sent) → AreAmong told (all_sent told)
AreAmong-self [] = tt
AreAmong-self (sent ∷ told) = ((1, refl), AreAmong-behind told (sent_as sent) (all_sent told) (AreAmong-self told))

-- these and those that go out
pub AreAmong-out : (told more : List Sent) (packets : List LinkSent) → AreAmong told packets
    → AreAmong (told ++ more) (packets ++ all_sent more)
AreAmong-out told more packets among =
    AreAmong-append told more (packets ++ all_sent more) (AreAmong-more told packets (all_sent more) among)
    (AreAmong-after more packets (all_sent more) (AreAmong-self more))

pub AreAmong-at : (told : List Sent) (packets : List LinkSent) (number : ℕ) (sent : Sent) → AreAmong told packets
    → packet_at told number ≡ Some sent → IsAmong (sent_as sent) packets
AreAmong-at told packets zero sent among at = cc
AreAmong-at [] packets (suc place) sent among at = cc
AreAmong-at (first ∷ told) packets (suc zero) sent among at = let same : first ≡ sent = cc in subst
    (λ (s : Sent). IsAmong (sent_as s) packets) same among.0
AreAmong-at (first ∷ told) packets (suc (suc place)) sent among at = AreAmong-at told packets (suc place) sent among.1
    at

-- ---- packets that stay when a leaf is replaced

among_answered : (leaf last : ℕ) (sent : LinkSent) → is_unanswered leaf last sent.packet ≡ false → (packets : List LinkSent) (number : ℕ)
    → item_at packets number ≡ Some sent → IsAmong sent (link_answered leaf last packets)
among_answered leaf last sent stays packets zero at = cc
among_answered leaf last sent stays [] (suc place) at = cc
among_answered leaf last sent stays (one ∷ packets) (suc zero) at =
    let same : one ≡ sent = cc in
    let goes : is_unanswered leaf last one.packet ≡ false = subst (λ (s : LinkSent). is_unanswered leaf last s.packet ≡ false) (sym same) stays in
    subst (λ (b : Bool). IsAmong sent (if b then link_answered leaf last packets else one ∷ link_answered leaf last packets)) (sym goes)
    (1, ap (λ (s : LinkSent). Some s) same)
among_answered leaf last sent stays (one ∷ packets) (suc (suc place)) at =
    by (is_unanswered leaf last one.packet) (among_answered leaf last sent stays packets (suc place) at)
  where
    by : (b : Bool) → IsAmong sent (link_answered leaf last packets)
        → IsAmong sent (if b then link_answered leaf last packets else one ∷ link_answered leaf last packets)
    by true rest = rest
    by false rest = IsAmong-behind sent one (link_answered leaf last packets) rest

pub AreAmong-answered : (leaf last : ℕ) (told : List Sent) (packets : List LinkSent) → AreAmong told packets
    → AreAmong (answered leaf last told) (link_answered leaf last packets)
AreAmong-answered leaf last [] packets among = tt
AreAmong-answered leaf last (sent ∷ told) packets among =
    by (is_unanswered leaf last (from_wire sent.packet)) refl (AreAmong-answered leaf last told packets among.1)
  where
    by : (b : Bool) → is_unanswered leaf last (from_wire sent.packet) ≡ b
        → AreAmong (answered leaf last told) (link_answered leaf last packets)
        → AreAmong (if b then answered leaf last told else sent ∷ answered leaf last told) (link_answered leaf last packets)
    by true e rest = rest
    by false e rest = (among_answered leaf last (sent_as sent) e packets among.0.0 among.0.1, rest)

-- ---- an item within a list

pub get_within : {X : Type 0} (xs : List X) (place : ℕ) → place < length xs → (x : X) × (slice_get xs place ≡ Some x)
get_within [] place within = absurd (omega (arith, within))
get_within (x ∷ xs) zero within = (x, refl)
get_within (x ∷ xs) (suc place) within = get_within xs place (omega (arith, within))
