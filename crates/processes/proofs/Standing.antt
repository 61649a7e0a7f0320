-- Where one process is another than before, and history grew, the processes stand for it.
use Rattle.std.proofs.Common.{◌≡◌, inl, inr, ℕ, ◌+◌, ◌==◌, Bool, true, false, List, [], ◌∷◌, ◌++◌, slice_get, slice_set, Some, refl, ap, sym, subst, arith, eqb-true}
use Rattle.std.proofs.Common.{◌∙◌}
use Rattle.std.proofs.lemmas.Bool.{eqb-false}
use Rattle.std.proofs.lemmas.List.{length-set, append-nil}
use Rattle.protocol.specs.Packets.{Sent as LinkSent}
use Rattle.protocol.specs.History.{PastHub, PastLeaf, History, HubGrows, LeafGrows, Grows}
use Rattle.protocol.proofs.Growing.{Grows-refl, Grows-trans}
use Rattle.protocol.specs.Ends.{End as LinkEnd}
use Rattle.protocol.specs.Nets.{IsMoment}
use Rattle.sharelink.specs.BotLinks.{BotEnd}
use Rattle.botworld.specs.declared.sent.Sent.{Sent}
use Rattle.botworld.proofs.Lists.{slice_get-set, slice_get-set-same}
use Rattle.botworld.proofs.BotEnds.{set-same}
use Rattle.processes.specs.Deeds.{Process, Net, Deed, after_deed, AcceptsIn, StaysIn}
use Rattle.processes.specs.Standing.{HoldsAbove, HasEnd, IsAt, AreAmong, Stands, GrowsBy, Leads}
use Rattle.protocol.proofs.Lists.{Extends-trans, slice_set-other}
use Rattle.processes.proofs.Keeping.{EndKeeps, same_keeps}

-- ---- growth by deeds

pub grown : (deeds : List Deed) (old new : History) → Grows old new → GrowsBy deeds old new
grown deeds old new grows = record { hub = grows.hub; leaves = λ leaf stays. grows.leaves leaf; whole = λ none. grows }

HubGrows-trans : (a b c : PastHub) → HubGrows a b → HubGrows b c → HubGrows a c
HubGrows-trans a b c x y = record {
  accepted = Extends-trans _ _ _ x.accepted y.accepted;
  answers = λ leaf. Extends-trans _ _ _ (x.answers leaf) (y.answers leaf);
  floor = omega (arith, x.floor, y.floor);
}

LeafGrows-trans : (a b c : PastLeaf) → LeafGrows a b → LeafGrows b c → LeafGrows a c
LeafGrows-trans a b c x y =
    record { version = omega (arith, x.version, y.version); asked = Extends-trans _ _ _ x.asked y.asked }

-- growth by one deed, and by others
pub GrowsBy-trans : (deed : Deed) (deeds : List Deed) (a b c : History) → GrowsBy (deed ∷ []) a b → GrowsBy deeds b c
    → GrowsBy (deed ∷ deeds) a c
GrowsBy-trans deed deeds a b c x y = record {
  hub = HubGrows-trans a.hub.kept b.hub.kept c.hub.kept x.hub y.hub;
  leaves = λ leaf stays. LeafGrows-trans (a.leaves leaf).kept (b.leaves leaf).kept (c.leaves leaf).kept
      (x.leaves leaf (stays.0, tt)) (y.leaves leaf stays.1);
  whole = λ none. Grows-trans a b c (x.whole (λ leaf. ((none leaf).0, tt))) (y.whole (λ leaf. (none leaf).1));
}

-- growth, and then growth by deeds
pub grown_before : (deeds : List Deed) (a b c : History) → Grows a b → GrowsBy deeds b c → GrowsBy deeds a c
grown_before deeds a b c x y = record {
  hub = HubGrows-trans a.hub.kept b.hub.kept c.hub.kept x.hub y.hub;
  leaves = λ leaf stays. LeafGrows-trans (a.leaves leaf).kept (b.leaves leaf).kept (c.leaves leaf).kept (x.leaves leaf)
      (y.leaves leaf stays);
  whole = λ none. Grows-trans a b c x (y.whole none);
}

-- ---- what ends hold

-- an end at a place holds so
pub record IsAbove (ends : List LinkEnd) (place floor count : ℕ) : Type 0 where
  pub end : LinkEnd
  pub at : slice_get ends place ≡ Some end
  pub holds : HoldsAbove floor count end

-- whatever the end at a place holds so, that at the same place of the other list does
abbrev pub PlaceKeeps : List LinkEnd → List LinkEnd → ℕ → Type 0
PlaceKeeps old new place = (floor count : ℕ) → IsAbove old place floor count → IsAbove new place floor count

-- another end at one place
pub set_keeps : (ends : List LinkEnd) (at : ℕ) (old new : LinkEnd) → slice_get ends at ≡ Some old → EndKeeps old new
    → (place : ℕ) → PlaceKeeps ends (slice_set ends at new) place
set_keeps ends at old new was keeps place floor count a = by (place == at) refl
  where
    by : (b : Bool) → (place == at) ≡ b → IsAbove (slice_set ends at new) place floor count
    by true e =
        let same : place ≡ at = eqb-true place at e in
        let both : Some old ≡ Some a.end = sym was ∙ ap (slice_get ends) (sym same) ∙ a.at in
        let is : old ≡ a.end = cc in
        record {
          end = new;
          at = ap (slice_get (slice_set ends at new)) same ∙ slice_get-set-same ends at old new was;
          holds = keeps floor count (subst (HoldsAbove floor count) (sym is) a.holds);
        }
    by false e = record {
      end = a.end;
      at = slice_set-other ends at place new (λ same. eqb-false place at e same) ∙ a.at;
      holds = a.holds;
    }

-- ---- one deed

-- the net stands for this moment, into which this history has grown, and ends hold what they held
pub record ReachesAt (w : Net) (h : History) (st : Stands w h) (after : History) (new : Net) : Type 0 where
  pub stands : Stands new after
  pub grows : Grows h after
  pub keeps : (place : ℕ) → PlaceKeeps st.ends stands.ends place

-- where a deed leads, and that the ends of bots that it does not replace hold what they held
pub record Follows (w : Net) (h : History) (st : Stands w h) (deed : Deed) : Type 0 where
  pub leads : Leads h w deed
  pub keeps : (place : ℕ) → StaysIn place deed → PlaceKeeps st.ends leads.stands.ends place

pub follows : (w : Net) (h : History) (st : Stands w h) (deed : Deed) (after : History)
    → ReachesAt w h st after (after_deed w deed) → AcceptsIn deed h.hub.kept.accepted after.hub.kept.accepted
    → Follows w h st deed
follows w h st deed after r accepts = record {
  leads = record { after = after; stands = r.stands; grows = grown (deed ∷ []) h after r.grows; accepts = accepts };
  keeps = λ place stays. r.keeps place;
}

module _ (w : Net) (h : History) (st : Stands w h) (place : ℕ) (old : BotEnd)
    (at : slice_get st.ends place ≡ Some old.end) where
  -- the other processes have their ends, the one that moved has this one
  abbrev pub stands_moved : (process : Process) (told : List Sent) (packets : List LinkSent) (new : BotEnd) (after : History)
      → IsMoment (slice_set st.ends place new.end) packets after → after.count ≡ h.count
      → new.number ≡ place → new.leaves ≡ h.count → HasEnd new process → HoldsAbove 0 h.count new.end → AreAmong told packets
      → Stands (record { processes = slice_set w.processes place process; packets = told }) after
  stands_moved process told packets new after moment count number leaves has holds among = record {
    ends = slice_set st.ends place new.end;
    packets = packets;
    moment = moment;
    many = length-set w.processes place process ∙ st.many ∙ ap (λ n. n + 1) (sym count);
    told = among;
    each = λ i p e. elim (slice_get-set w.processes place i process p e) [
      | inl here ↦ subst (λ (q : Process). IsAt after (slice_set st.ends place new.end) i q) here.1 (record {
        link = new;
        at = ap (slice_get (slice_set st.ends place new.end)) here.0 ∙ slice_get-set-same st.ends place old.end new.end at;
        number = number ∙ sym here.0;
        leaves = leaves ∙ sym count;
        holds = subst (λ n. HoldsAbove 0 n new.end) (sym count) holds;
        has = has;
      })
      | inr other ↦ let was = st.each i p other.1 in record {
        link = was.link;
        at = slice_set-other st.ends place i new.end other.0 ∙ was.at;
        number = was.number;
        leaves = was.leaves ∙ sym count;
        holds = subst (λ n. HoldsAbove 0 n was.link.end) (sym count) was.holds;
        has = was.has;
      }
    ];
  }

  pub moves : (process : Process) (told : List Sent) (packets : List LinkSent) (new : BotEnd) (after : History)
      → IsMoment (slice_set st.ends place new.end) packets after → Grows h after → after.count ≡ h.count
      → new.number ≡ place → new.leaves ≡ h.count → HasEnd new process → HoldsAbove 0 h.count old.end → EndKeeps old.end new.end
      → AreAmong told packets
      → ReachesAt w h st after (record { processes = slice_set w.processes place process; packets = told })
  moves process told packets new after moment grows count number leaves has held keeps among = record {
    grows = grows;
    stands = stands_moved process told packets new after moment count number leaves has (keeps 0 h.count held) among;
    keeps = set_keeps st.ends place old.end new.end at keeps;
  }

  -- a process whose end of the link stays
  pub keeps_end : (process : Process) (new : BotEnd) → new.end ≡ old.end → new.number ≡ place → new.leaves ≡ h.count
      → HasEnd new process → HoldsAbove 0 h.count old.end
      → ReachesAt w h st h (record { processes = slice_set w.processes place process; packets = w.packets ++ [] })
  keeps_end process new same number leaves has held =
      moves process (w.packets ++ []) st.packets new h
      (subst (λ (es : List LinkEnd). IsMoment es st.packets h)
      (sym (ap (slice_set st.ends place) same ∙ set-same st.ends place old.end at)) st.moment)
      (Grows-refl h) refl number leaves has held (same_keeps old.end new.end same)
      (subst (λ (ps : List Sent). AreAmong ps st.packets) (sym (append-nil w.packets)) st.told)
