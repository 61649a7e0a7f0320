-- What is true of history stays true as it grows.
use Rattle.std.proofs.Common.{◌≡◌, ℕ, zero, suc, ◌+◌, List, [], ◌∷◌, ◌++◌, Some, refl, ap, sym, subst, ◌∙◌, arith}
use Rattle.userfile.specs.Records.{Records}
use Rattle.userfile.specs.declared.change.Change.{Change as UserChange}
use Rattle.usercodec.specs.declared.records.Record.{Record}
use Rattle.botjournal.specs.declared.reply.Verdict.TheVariants.{Taken, Refused as refused_request}
use Rattle.protocol.specs.Numbers.{item_at}
use Rattle.protocol.specs.Packets.{Packet, Outgoing, Sent, AcceptedChange, to_each, numbered_from}
use Rattle.protocol.specs.Packets.Packet.{Hello, Change, Request, Accepted, Refused, BotText, Part}
use Rattle.protocol.specs.Snapshots.{PartSet, part_count, part_of}
use Rattle.protocol.specs.LeafRules.{LeafLoose}
use Rattle.protocol.specs.History.{PastHub, PastLeaf, records_of, Extends, AllExtend, HubGrows}
use Rattle.protocol.specs.Truth.{IsPart, IsTrue, HubSays, LeafSays, IsKeptAnswer, AllSent, AllOutgoing}
use Rattle.protocol.specs.Soundness.{IsTrueSet, KeepsTrueParts}
use Rattle.protocol.specs.Network.{posted}
use Rattle.protocol.proofs.Lists.{item_at-more, Extends-length, records_of-more}

-- ---- lists of packets

module _ (P : Packet → Type 0) where
  pub AllSent-posted : (ps : List Sent) (from : ℕ) (os : List Outgoing) → AllSent P ps → AllOutgoing P os
      → AllSent P (ps ++ posted from os)
  AllSent-posted [] from [] t g = tt
  AllSent-posted [] from (o ∷ os) t g = (g.0, AllSent-posted [] from os tt g.1)
  AllSent-posted (p ∷ ps) from os t g = (t.0, AllSent-posted ps from os t.1 g)

  pub AllSent-at : (ps : List Sent) (n : ℕ) (sent : Sent) → AllSent P ps → item_at ps n ≡ Some sent → P sent.packet
  AllSent-at ps zero sent t e = cc
  AllSent-at [] (suc i) sent t e = cc
  AllSent-at (p ∷ ps) (suc zero) sent t e = let same : p ≡ sent = cc in subst (λ (s : Sent). P s.packet) same t.0
  AllSent-at (p ∷ ps) (suc (suc i)) sent t e = AllSent-at ps (suc i) sent t.1 e

  pub AllSent-map : (Q : Packet → Type 0) → ((p : Packet) → P p → Q p) → (ps : List Sent) → AllSent P ps → AllSent Q ps
  AllSent-map Q f [] t = tt
  AllSent-map Q f (p ∷ ps) t = (f p.packet t.0, AllSent-map Q f ps t.1)

  pub AllOutgoing-map : (Q : Packet → Type 0) → ((p : Packet) → P p → Q p) → (ps : List Outgoing) → AllOutgoing P ps
      → AllOutgoing Q ps
  AllOutgoing-map Q f [] t = tt
  AllOutgoing-map Q f (p ∷ ps) t = (f p.packet t.0, AllOutgoing-map Q f ps t.1)

  pub AllOutgoing-append : (os qs : List Outgoing) → AllOutgoing P os → AllOutgoing P qs → AllOutgoing P (os ++ qs)
  AllOutgoing-append [] qs t g = g
  AllOutgoing-append (o ∷ os) qs t g = (t.0, AllOutgoing-append os qs t.1 g)

  pub AllOutgoing-to_each : (first count : ℕ) (p : Packet) → P p → AllOutgoing P (to_each first count p)
  AllOutgoing-to_each first zero p t = tt
  AllOutgoing-to_each first (suc count) p t = (t, AllOutgoing-to_each (first + 1) count p t)

-- ---- truth under growth

IsPart-more : (xs ys : List AcceptedChange) (version part count : ℕ) (items : List Record) → Extends xs ys
    → IsPart xs version part count items → IsPart ys version part count items
IsPart-more xs ys version part count items more t =
    let same : records_of ys version ≡ records_of xs version = records_of-more xs ys version more t.reached in
    record {
      reached = omega (arith, t.reached, Extends-length xs ys more);
      many = t.many ∙ ap part_count (sym same);
      these = t.these ∙ ap (λ (r : Records). part_of r part) (sym same);
    }

pub IsTrueSet-more : (xs ys : List AcceptedChange) (set : PartSet) → Extends xs ys → IsTrueSet xs set → IsTrueSet ys set
IsTrueSet-more xs ys set more t =
    let same : records_of ys set.version ≡ records_of xs set.version = records_of-more xs ys set.version more t.reached in
    record {
      reached = omega (arith, t.reached, Extends-length xs ys more);
      many = t.many ∙ ap part_count (sym same);
      these = λ number items e. t.these number items e ∙ ap (λ (r : Records). part_of r number) (sym same);
    }

pub KeepsTrueParts-more : (h h' : PastHub) (loose : LeafLoose) → HubGrows h h' → KeepsTrueParts h loose → KeepsTrueParts h' loose
KeepsTrueParts-more h h' loose grows t set e = IsTrueSet-more h.accepted h'.accepted set grows.accepted (t set e)

pub IsTrue-more : (h h' : PastHub) (asked asked' : ℕ → List UserChange) → HubGrows h h' → AllExtend asked asked' → (p : Packet)
    → IsTrue h asked p → IsTrue h' asked' p
IsTrue-more h h' asked asked' grows more (Hello layout leaf version) t = t
IsTrue-more h h' asked asked' grows more (Change n o r c) t = item_at-more _ _ n _ grows.accepted t
IsTrue-more h h' asked asked' grows more (Request i r c) t = item_at-more _ _ r c (more i) t
IsTrue-more h h' asked asked' grows more (Accepted i r n) t = item_at-more _ _ r (Taken n) (grows.answers i) t
IsTrue-more h h' asked asked' grows more (Refused i r fault) t = item_at-more _ _ r (refused_request fault) (grows.answers i) t
IsTrue-more h h' asked asked' grows more (BotText from to text) t = tt
IsTrue-more h h' asked asked' grows more (Part v i k items) t = IsPart-more h.accepted h'.accepted v i k items grows.accepted t

-- ---- what a bot says

-- what the hub says is true
pub HubSays-true : (h : PastHub) (asked : ℕ → List UserChange) (p : Packet) → HubSays h p → IsTrue h asked p
HubSays-true h asked (Hello layout leaf version) t = absurd t
HubSays-true h asked (Change n o r c) t = t
HubSays-true h asked (Request i r c) t = absurd t
HubSays-true h asked (Accepted i r n) t = t.1
HubSays-true h asked (Refused i r fault) t = t.1
HubSays-true h asked (BotText from to text) t = tt
HubSays-true h asked (Part v i k items) t = t

-- what a leaf says is true
pub LeafSays-true : (h : PastHub) (asked : ℕ → List UserChange) (number : ℕ) (l : PastLeaf) → asked number ≡ l.asked
    → (p : Packet) → LeafSays number l p → IsTrue h asked p
LeafSays-true h asked number l is (Hello layout leaf version) t = t.0
LeafSays-true h asked number l is (Change n o r c) t = absurd t
LeafSays-true h asked number l is (Request i r c) t = rw (t.0, is) t.1
LeafSays-true h asked number l is (Accepted i r n) t = absurd t
LeafSays-true h asked number l is (Refused i r fault) t = absurd t
LeafSays-true h asked number l is (BotText from to text) t = tt
LeafSays-true h asked number l is (Part v i k items) t = absurd t

-- an answer of the hub is its kept one
pub HubSays-kept : (h : PastHub) (p : Packet) → HubSays h p → IsKeptAnswer h p
HubSays-kept h (Hello layout leaf version) t = tt
HubSays-kept h (Change n o r c) t = tt
HubSays-kept h (Request i r c) t = tt
HubSays-kept h (Accepted i r n) t = t
HubSays-kept h (Refused i r fault) t = t
HubSays-kept h (BotText from to text) t = tt
HubSays-kept h (Part v i k items) t = tt

-- and a leaf gives none
pub LeafSays-kept : (h : PastHub) (number : ℕ) (l : PastLeaf) (p : Packet) → LeafSays number l p → IsKeptAnswer h p
LeafSays-kept h number l (Hello layout leaf version) t = tt
LeafSays-kept h number l (Change n o r c) t = tt
LeafSays-kept h number l (Request i r c) t = tt
LeafSays-kept h number l (Accepted i r n) t = absurd t
LeafSays-kept h number l (Refused i r fault) t = absurd t
LeafSays-kept h number l (BotText from to text) t = tt
LeafSays-kept h number l (Part v i k items) t = tt

-- ---- changes that are read off the accepted ones

pub AllOutgoing-numbered : (h : PastHub) (leaf version : ℕ) (entries : List AcceptedChange)
    → ((i : ℕ) (e : AcceptedChange) → item_at entries i ≡ Some e → item_at h.accepted (version + i) ≡ Some e)
    → AllOutgoing (HubSays h) (numbered_from leaf version entries)
AllOutgoing-numbered h leaf version [] t = tt
AllOutgoing-numbered h leaf version (e ∷ entries) t = (t 1 e refl, AllOutgoing-numbered h leaf (version + 1) entries next)
  where
    next : (i : ℕ) (e' : AcceptedChange) → item_at entries i ≡ Some e' → item_at h.accepted (version + 1 + i) ≡ Some e'
    next zero e' at = cc
    next (suc i) e' at = let same : version + 1 + suc i ≡ version + suc (suc i) = omega arith in rw same (t (suc (suc i)) e' at)
