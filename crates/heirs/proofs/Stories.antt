-- All moments of a net that stands for a history, and what its bots show there.
use Rattle.std.proofs.Common.{◌≡◌, ◌≤◌, ℕ, zero, suc, List, [], ◌∷◌, length, slice_get, Option, None, Some, refl, ap, sym, ◌∙◌, arith}
use Rattle.userfile.specs.Records.{Records}
use Rattle.procs.specs.Promises.{Promised}
use Rattle.protocol.specs.Packets.{AcceptedChange}
use Rattle.protocol.specs.History.{History, records_of, Extends}
use Rattle.protocol.specs.Ends.{End, AtHub, end_version, end_records}
use Rattle.protocol.specs.Nets.{ends_of}
use Rattle.protocol.proofs.Lists.{Extends-refl, Extends-trans, Extends-length, records_of-more}
use Rattle.protocol.proofs.Moments.{shows}
use Rattle.protocol.proofs.NetGoes.{counts}
use Rattle.protocol.proofs.NetLists.{leaf_at}
use Rattle.sharelink.specs.BotLinks.{BotEnd}
use Rattle.botcore.specs.Links.{link_version}
use Rattle.processes.specs.Deeds.{Process, Runs, Ended, Net, Deed, Run, after_deed, net_after}
use Rattle.processes.specs.Deeds.{version_in, records_in, shown_version, shown_records}
use Rattle.processes.specs.Standing.{Stands, Reaches}
use Rattle.heirs.specs.Descents.{net_at}

-- ---- what is shown

record Shown (w : Net) (h : History) (bot version : ℕ) (st : Stands w h) : Type 0 where
  end : End
  at : slice_get st.ends bot ≡ Some end
  version_is : end_version end ≡ version
  records_are : shown_records w bot ≡ Some (end_records end)

shown : (w : Net) (h : History) (st : Stands w h) (bot version : ℕ) → shown_version w bot ≡ Some version
    → Shown w h bot version st
shown w h st bot version shows = by (slice_get w.processes bot) refl shows
  where
    by : (o : Option Process) → slice_get w.processes bot ≡ o → version_in o ≡ Some version → Shown w h bot version st
    by None at is = cc
    by (Some (Ended first second)) at is = cc
    by (Some (Runs b)) at is =
        let here = st.each bot (Runs b) at in
        record {
          end = b.link.end;
          at = here.at ∙ ap (λ (l : BotEnd). Some l.end) (sym here.has);
          version_is = let v : link_version b.link ≡ version = cc in v;
          records_are = ap records_in at;
        }

-- the version that history gives a bot
abbrev pub past_version : History → ℕ → ℕ
past_version h zero = length h.hub.kept.accepted
past_version h (suc place) = (h.leaves (suc place)).kept.version

module _ (w : Net) (h : History) (st : Stands w h) (bot version : ℕ) (is : shown_version w bot ≡ Some version) where
  abbrev it : Shown w h bot version st
  it = shown w h st bot version is

  pub shown_within : version ≤ length h.hub.kept.accepted
  shown_within = omega (arith, it.version_is, (shows st.ends st.packets h st.moment).within bot it.end it.at)

  pub shown_are : shown_records w bot ≡ Some (records_of h.hub.kept.accepted version)
  shown_are =
      it.records_are
      ∙ ap (λ (r : Records). Some r) ((shows st.ends st.packets h st.moment).records bot it.end it.at
      ∙ ap (records_of h.hub.kept.accepted) it.version_is)

  pub shown_past : version ≡ past_version h bot
  shown_past = by bot it.end (ap (λ (es : List End). slice_get es bot) (sym st.moment.ends_are) ∙ it.at) it.version_is
    where
      by : (bot : ℕ) (e : End) → slice_get (ends_of st.moment.net) bot ≡ Some e → end_version e ≡ version
          → version ≡ past_version h bot
      by zero e at v =
          let same : AtHub st.moment.net.hub ≡ e = cc in
          sym v ∙ ap end_version (sym same) ∙ counts st.moment.net h st.moment.stands st.moment.sound
      by (suc place) e at v =
          let found = leaf_at st.moment.net.leaves place e at in
          sym v ∙ ap end_version found.is ∙ (st.moment.stands.leaves place found.leaf found.at).kept.version

-- ---- all moments

-- what the laws of processes say of the deeds of a net that stands
abbrev pub Goes : Promised → Type 0
Goes promised = (w : Net) (h : History) (deeds : List Deed) → Stands w h → Run promised w deeds → Reaches deeds h (net_after w deeds)

-- a moment, at which history is not before `old`, and `all` not before it
pub record Between (old all : List AcceptedChange) (w : Net) : Type 0 where
  pub past : History
  pub stands : Stands w past
  pub since : Extends old past.hub.kept.accepted
  pub front : Extends past.hub.kept.accepted all

-- where deeds lead, and all moments on the way
pub record Story (w : Net) (h : History) (deeds : List Deed) : Type 0 where
  pub last : History
  pub stands : Stands (net_after w deeds) last
  pub each : (i : ℕ) → Between h.hub.kept.accepted last.hub.kept.accepted (net_at w deeds i)
  pub grows : (i j : ℕ) → i ≤ j → Extends (each i).past.hub.kept.accepted (each j).past.hub.kept.accepted

-- no deed
module _ (w : Net) (h : History) (st : Stands w h) where
  here : Between h.hub.kept.accepted h.hub.kept.accepted w
  here = record { past = h; stands = st; since = Extends-refl _; front = Extends-refl _ }

  abbrev each_here : (i : ℕ) → Between h.hub.kept.accepted h.hub.kept.accepted (net_at w [] i)
  each_here zero = here
  each_here (suc i) = here

  none_grows : (i j : ℕ) → i ≤ j → Extends (each_here i).past.hub.kept.accepted (each_here j).past.hub.kept.accepted
  none_grows zero zero le = Extends-refl _
  none_grows zero (suc j) le = Extends-refl _
  none_grows (suc i) zero le = Extends-refl _
  none_grows (suc i) (suc j) le = Extends-refl _

  no_story : Story w h []
  no_story = record { last = h; stands = st; each = each_here; grows = none_grows }

-- one deed, and others
module _ (w : Net) (h : History) (deed : Deed) (deeds : List Deed) (st : Stands w h) (one : Reaches (deed ∷ []) h (after_deed w deed))
    (rest : Story (after_deed w deed) one.after deeds) where
  abbrev each_next : (i : ℕ) → Between h.hub.kept.accepted rest.last.hub.kept.accepted (net_at w (deed ∷ deeds) i)
  each_next zero =
      let next = rest.each 0 in
      record {
        past = h;
        stands = st;
        since = Extends-refl _;
        front = Extends-trans _ _ _ one.grows.hub.accepted (Extends-trans _ _ _ next.since next.front);
      }
  each_next (suc i) =
      let b = rest.each i in
      record {
        past = b.past;
        stands = b.stands;
        since = Extends-trans _ _ _ one.grows.hub.accepted b.since;
        front = b.front;
      }

  next_grows : (i j : ℕ) → i ≤ j → Extends (each_next i).past.hub.kept.accepted (each_next j).past.hub.kept.accepted
  next_grows zero j le = (each_next j).since
  next_grows (suc i) zero le = absurd (omega (arith, le))
  next_grows (suc i) (suc j) le = rest.grows i j (omega (arith, le))

  next_story : Story w h (deed ∷ deeds)
  next_story = record { last = rest.last; stands = rest.stands; each = each_next; grows = next_grows }

pub story : (promised : Promised) → Goes promised → (w : Net) (h : History) (deeds : List Deed) → Stands w h → Run promised w deeds
    → Story w h deeds
story promised goes w h [] st run = no_story w h st
story promised goes w h (deed ∷ deeds) st run =
    let one = goes w h (deed ∷ []) st (run.0, tt) in
    next_story w h deed deeds st one (story promised goes (after_deed w deed) one.after deeds one.stands run.1)

-- ---- what is shown at some moment of a story

module _ (w : Net) (h : History) (deeds : List Deed) (s : Story w h deeds) where
  pub shown_of_last : (i bot version : ℕ) → shown_version (net_at w deeds i) bot ≡ Some version
      → shown_records (net_at w deeds i) bot ≡ Some (records_of s.last.hub.kept.accepted version)
  shown_of_last i bot version is =
      let b = s.each i in
      let within = shown_within (net_at w deeds i) b.past b.stands bot version is in
      shown_are (net_at w deeds i) b.past b.stands bot version is
      ∙ ap (λ (r : Records). Some r) (sym (records_of-more b.past.hub.kept.accepted s.last.hub.kept.accepted version b.front within))

  pub first_front : Extends h.hub.kept.accepted s.last.hub.kept.accepted
  first_front = let b = s.each 0 in Extends-trans _ _ _ b.since b.front

  -- whoever shows a version shows none above what the hub shows then or later
  pub under_hub : (i j one version last : ℕ) → i ≤ j → shown_version (net_at w deeds j) 0 ≡ Some last
      → shown_version (net_at w deeds i) one ≡ Some version → version ≤ last
  under_hub i j one version last le hub shown =
      let b = s.each i in
      let c = s.each j in
      omega (
        arith,
        shown_within (net_at w deeds i) b.past b.stands one version shown,
        Extends-length _ _ (s.grows i j le),
        shown_past (net_at w deeds j) c.past c.stands 0 last hub,
      )
