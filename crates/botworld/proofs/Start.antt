-- A new world's first moment is sound.
use Rattle.std.proofs.Common.{◌≡◌, ℕ, zero, suc, ◌+◌, ◌<◌, List, [], ◌∷◌, length, slice_get, Some, refl, ap, sym, subst, ◌∙◌, arith}
use Rattle.protocol.specs.History.{History, start as start_of_links}
use Rattle.protocol.specs.Ends.{End as LinkEnd, new_end}
use Rattle.protocol.specs.Nets.{IsMoment}
use Rattle.protocol.proofs.Moments.{begins}
use Rattle.botcore.specs.Bots.{Bot}
use Rattle.botworld.specs.declared.sent.Sent.{Sent}
use Rattle.botworld.specs.Network.{State, ends_of, all_sent, leaf_count, IsStart, IsSound}

ends_of-length : (bots : List Bot) → length (ends_of bots) ≡ length bots
ends_of-length [] = refl
ends_of-length (b ∷ bots) = ap suc (ends_of-length bots)

-- the end at a place is that of the bot there
ends_of-at : (bots : List Bot) (place : ℕ) (e : LinkEnd) → slice_get (ends_of bots) place ≡ Some e
    → (b : Bot) × (slice_get bots place ≡ Some b) × (b.link.end ≡ e)
ends_of-at [] place e at = cc
ends_of-at (b ∷ bots) zero e at = (b, refl, cc)
ends_of-at (b ∷ bots) (suc place) e at = ends_of-at bots place e at

leaf_count_is : (bots : List Bot) → 0 < length bots → length bots ≡ leaf_count bots + 1
leaf_count_is [] some = absurd (omega (arith, some))
leaf_count_is (hub ∷ bots) some = omega arith

-- a new bot's end is a new end of its place
record IsNewAt (count place : ℕ) (b : Bot) : Type 0 where
  number : b.link.number ≡ place
  leaves : b.link.leaves ≡ count
  end : b.link.end ≡ new_end place count

pub start_sound : (s : State) → IsStart s → IsSound s
start_sound s start =
    let count = leaf_count s.net.bots in
    let many = leaf_count_is s.net.bots start.numbered.hub in
    let is_new : (place : ℕ) (b : Bot) → slice_get s.net.bots place ≡ Some b → IsNewAt count place b = λ place b at.
    let numbered = start.numbered.each place b at in
    let made = start.all_new place b at in
    let leaves : b.config.leaves ≡ count = omega (arith, numbered.leaves, many) in
    record {
      number = ap (λ (b : Bot). b.link.number) made ∙ numbered.number;
      leaves = ap (λ (b : Bot). b.link.leaves) made ∙ leaves;
      end = ap (λ (b : Bot). b.link.end) made ∙ ap (λ n. new_end n b.config.leaves) numbered.number ∙ ap (new_end place) leaves;
    } in
    let links : IsMoment (ends_of s.net.bots) [] (start_of_links count) =
    begins count (ends_of s.net.bots) (ends_of-length s.net.bots ∙ many) (λ place e at.
    let found = ends_of-at s.net.bots place e at in
    sym found.2 ∙ (is_new place found.0 found.1).end) in
    record {
      links = subst (λ (h : History). IsMoment (ends_of s.net.bots) (all_sent s.net.packets) h) (sym start.links)
          (subst (λ (ps : List Sent). IsMoment (ends_of s.net.bots) (all_sent ps) (start_of_links count)) (sym start.packets) links);
      placed = λ place b at.
          let new = is_new place b at in
          record { number = new.number; leaves = new.leaves ∙ ap (λ (h : History). h.count) (sym start.links) };
    }
