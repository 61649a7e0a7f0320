-- Where the replacement of a leaf leads: the net stands for a moment at which that leaf is new.
use Rattle.std.proofs.Common.{◌≡◌, inl, inr, ◌<◌, ◌+◌, ℕ, zero, suc, true, false, List, [], ◌∷◌, ◌++◌, length, slice_get, slice_set, Option, None, Some, option_map, refl, ap, sym, subst, ◌∙◌, arith}
use Rattle.botjournal.specs.declared.reply.Reply.{Reply}
use Rattle.botjournal.specs.Contents.{Contents}
use Rattle.protocol.specs.Bots.{How, Works, Fails, Counts}
use Rattle.protocol.specs.HubRules.{HubState, HubRecord, Hub, last_request, kept_in}
use Rattle.protocol.specs.Journals.{hub_meaning}
use Rattle.protocol.specs.Network.{posted as link_posted}
use Rattle.protocol.specs.Network.Event.{Restart as restarts}
use Rattle.protocol.specs.History.{History, Grows}
use Rattle.protocol.specs.Ends.{End as LinkEnd, AtHub, AtLeaf, end_is_down}
use Rattle.protocol.specs.Nets.{IsMoment}
use Rattle.protocol.proofs.Growing.{HubGrows-refl}
use Rattle.protocol.proofs.Lists.{slice_set-other}
use Rattle.sharelink.specs.BotLinks.{BotEnd, did, end_meaning, hub_at_rest, leaf_after, end_after}
use Rattle.sharelink.specs.Telling.{end_last_request, end_last_reply}
use Rattle.botcore.specs.declared.config.Config.{Config}
use Rattle.botcore.specs.Bots.{Bot, bot_after}
use Rattle.botcore.specs.Configs.{IsGood}
use Rattle.botworld.proofs.Lists.{slice_get-set-same}
use Rattle.botworld.proofs.BotEnds.{set-same}
use Rattle.processes.specs.Deeds.{Process, Runs, Ended, Net, Replaced, answered, after_deed, MeanHub, IsHubEnd, IsReplaced, StaysIn}
use Rattle.processes.specs.Deeds.{AtMostOneMore}
use Rattle.processes.specs.Standing.{HoldsAbove, IsAt, AreAmong, Stands, GrowsBy}
use Rattle.processes.proofs.Lists.{AreAmong-more, AreAmong-answered, get_within}
use Rattle.processes.proofs.Replacing.{link_answered, replaced, replaced_moment, others_grow}
use Rattle.processes.proofs.Resting.{rests}
use Rattle.processes.proofs.Standing.{Follows, IsAbove, PlaceKeeps, set_keeps, stands_moved, grown_before}
use Rattle.processes.proofs.Going.{few, restarted_goes, reopened, reopened_keeps, meant}

-- where the replacement leads: the new leaf has no request, and the hub has replied to all up to its number
pub record Replaces (w : Net) (h : History) (st : Stands w h) (leaf : ℕ) (after : Bot) : Type 0 where
  pub follows : Follows w h st (Replaced leaf after)
  pub last : end_last_request after.link.end ≡ length (follows.leads.after.hub.kept.answers leaf)
  pub new : IsAbove follows.leads.stands.ends leaf (end_last_request after.link.end) h.count

-- the same, where the hub accepts nothing
record ReplacesOnly (w : Net) (h : History) (st : Stands w h) (leaf : ℕ) (after : Bot) : Type 0 where
  replaces : Replaces w h st leaf after
  accepts_none : replaces.follows.leads.after.hub.kept.accepted ≡ h.hub.kept.accepted

-- ---- a hub that has nothing in doubt

module _ (w : Net) (h : History) (st : Stands w h) where
  -- a record is in doubt only while the hub is down
  no_doubt : h.hub.down ≡ false → h.hub.doubt ≡ None
  no_doubt up = by h.hub.doubt refl
    where
      by : (o : Option HubRecord) → h.hub.doubt ≡ o → o ≡ None
      by None e = refl
      by (Some entry) e =
          let down : h.hub.down ≡ true = (st.moment.sound.hub.doubt entry e).0 in
          let bad : true ≡ false = sym down ∙ up in cc

  -- the hub's end
  hub_at : slice_get st.ends 0 ≡ Some (AtHub st.moment.net.hub)
  hub_at = ap (λ (es : List LinkEnd). slice_get es 0) st.moment.ends_are

  module _ (up : st.moment.net.hub.down ≡ false) (placed : length st.moment.net.hub.kept.replies ≡ h.count)
      (place : ℕ) (within : suc place < length w.processes) (after : Bot) (number : after.config.number ≡ suc place)
      (many : after.config.leaves + 1 ≡ length w.processes)
      (made : after ≡ bot_after after.config (end_last_reply (AtHub st.moment.net.hub) (suc place)) after.link.device) where
    abbrev hub : Hub
    hub = st.moment.net.hub

    abbrev last : ℕ
    last = end_last_reply (AtHub hub) (suc place)

    -- the hub has answered as many requests of the leaf
    last_is : last ≡ length (h.hub.kept.answers (suc place))
    last_is =
        let found = get_within hub.kept.replies place (omega (arith, within, st.many, placed)) in
        ap (λ (o : Option (List Reply)). last_request (kept_in o)) found.1
        ∙ (st.moment.stands.hub.kept.replies place found.0 found.1).last

    end_is : after.link.end ≡ AtLeaf (leaf_after last)
    end_is = ap (λ (b : Bot). b.link.end) made ∙ ap (λ n. end_after n after.config.leaves last) number

    request_is : end_last_request after.link.end ≡ last
    request_is = ap end_last_request end_is

    abbrev now : History
    now = replaced h st.moment.sound place last last_is

    moment : IsMoment (slice_set st.ends (suc place) after.link.end) (link_answered (suc place) last st.packets) now
    moment =
        subst (λ (e : LinkEnd). IsMoment (slice_set st.ends (suc place) e) (link_answered (suc place) last st.packets) now)
        (sym end_is)
        (replaced_moment h st.moment.sound place last last_is st.ends st.packets st.moment
        (no_doubt (sym st.moment.stands.hub.down ∙ up)))

    old_at : (old : BotEnd) × (slice_get st.ends (suc place) ≡ Some old.end)
    old_at =
        let found = get_within w.processes (suc place) within in
        let is = st.each (suc place) found.0 found.1 in (is.link, is.at)

    told : AreAmong (answered (suc place) (end_last_request after.link.end) w.packets) (link_answered (suc place) last st.packets)
    told = subst (λ n. AreAmong (answered (suc place) n w.packets) (link_answered (suc place) last st.packets)) (sym request_is)
        (AreAmong-answered (suc place) last w.packets st.packets st.told)

    abbrev stands : Stands (after_deed w (Replaced (suc place) after)) now
    stands =
        stands_moved w h st (suc place) old_at.0 old_at.1 (Runs after)
        (answered (suc place) (end_last_request after.link.end) w.packets) (link_answered (suc place) last st.packets) after.link now
        moment refl (ap (λ (b : Bot). b.link.number) made ∙ number)
        (ap (λ (b : Bot). b.link.leaves) made ∙ (omega (arith, many, st.many)))
        refl (subst (HoldsAbove 0 h.count) (sym end_is) (record { last = omega arith; out = tt })) told

    grows : GrowsBy (Replaced (suc place) after ∷ []) h now
    grows = record {
      hub = HubGrows-refl h.hub.kept;
      leaves = λ leaf stays. others_grow h st.moment.sound place last last_is leaf stays.0;
      whole = λ none. absurd ((none (suc place)).0 refl);
    }

    keeps : (other : ℕ) → StaysIn other (Replaced (suc place) after) → PlaceKeeps st.ends stands.ends other
    keeps other stays floor count a = record {
      end = a.end;
      at = slice_set-other st.ends (suc place) other after.link.end (λ same. stays (sym same)) ∙ a.at;
      holds = a.holds;
    }

    replaces_settled : ReplacesOnly w h st (suc place) after
    replaces_settled = record {
      replaces = record {
        follows = record {
          leads = record { after = now; stands = stands; grows = grows; accepts = inl refl };
          keeps = keeps;
        };
        last = request_is ∙ last_is;
        new = record {
          end = after.link.end;
          at = slice_get-set-same st.ends (suc place) old_at.0.end after.link.end old_at.1;
          holds = subst (λ n. HoldsAbove n h.count after.link.end) (sym request_is)
              (subst (HoldsAbove last h.count) (sym end_is) (record { last = omega arith; out = tt }));
        };
      };
      accepts_none = refl;
    }

-- ---- a hub that ended

-- a restart that finds an end means its kept state, and leaves nothing in doubt
record IsAtRest (end : LinkEnd) : Type 0 where
  hub : Hub
  is : end ≡ AtHub hub
  up : hub.down ≡ false

found_rests : (leaves : ℕ) (contents : Contents) (end : LinkEnd) → end_meaning 0 leaves contents ≡ Some end → IsAtRest end
found_rests leaves contents end means = by (hub_meaning leaves contents) means
  where
    by : (o : Option HubState) → option_map hub_at_rest o ≡ Some end → IsAtRest end
    by None e = cc
    by (Some kept) e = let same : hub_at_rest kept ≡ end = cc in record { hub = _; is = sym same; up = refl }

module _ (w : Net) (h : History) (st : Stands w h) where
  -- the hub's end in history, where the net has this one
  is_hub : (end : LinkEnd) → slice_get st.ends 0 ≡ Some end → AtHub st.moment.net.hub ≡ end
  is_hub end at =
      let both : Some (AtHub st.moment.net.hub) ≡ Some end = sym (hub_at w h st) ∙ at in cc

  module _ (place : ℕ) (after : Bot) (r : IsReplaced w (suc place) after) where
    -- the hub has this end in history, and has nothing in doubt
    replaces_at : slice_get st.ends 0 ≡ Some r.end → HoldsAbove 0 h.count r.end → end_is_down r.end ≡ false
        → ReplacesOnly w h st (suc place) after
    replaces_at at holds up =
        let is = is_hub r.end at in
        let up_here : st.moment.net.hub.down ≡ false = ap end_is_down is ∙ up in
        let placed : length st.moment.net.hub.kept.replies ≡ h.count = subst (HoldsAbove 0 h.count) (sym is) holds in
        let made : after ≡ bot_after after.config (end_last_reply (AtHub st.moment.net.hub) (suc place)) after.link.device =
        subst (λ (e : LinkEnd). after ≡ bot_after after.config (end_last_reply e (suc place)) after.link.device) (sym is) r.made in
        replaces_settled w h st up_here placed place r.within after r.number r.leaves made

    -- a hub that runs
    replaces_running : (hub : Bot) → slice_get w.processes 0 ≡ Some (Runs hub) → IsHubEnd (length w.processes) (Runs hub) r.end
        → Replaces w h st (suc place) after
    replaces_running hub at has =
        let is = st.each 0 (Runs hub) at in
        let same : is.link.end ≡ r.end = ap (λ (b : BotEnd). b.end) (sym is.has) ∙ has.0 in
        (replaces_at (is.at ∙ ap (λ (e : LinkEnd). Some e) same) (subst (HoldsAbove 0 h.count) same is.holds) has.1).replaces

-- Replaced in history that had grown: replaced in history before.
replaces_before : (w : Net) (h : History) (st : Stands w h) (next : History) (st' : Stands w next) → Grows h next
    → AtMostOneMore h.hub.kept.accepted next.hub.kept.accepted → ((place : ℕ) → PlaceKeeps st.ends st'.ends place) → next.count ≡ h.count
    → (leaf : ℕ) (after : Bot)
    → (replaces : Replaces w next st' leaf after) → replaces.follows.leads.after.hub.kept.accepted ≡ next.hub.kept.accepted
    → Replaces w h st leaf after
replaces_before w h st next st' grows accepts keeps count leaf after replaces same = record {
  follows = record {
    leads = record {
      after = replaces.follows.leads.after;
      stands = replaces.follows.leads.stands;
      grows = grown_before (Replaced leaf after ∷ []) h next replaces.follows.leads.after grows replaces.follows.leads.grows;
      accepts = subst (AtMostOneMore h.hub.kept.accepted) (sym same) accepts;
    };
    keeps = λ place stays floor many a. replaces.follows.keeps place stays floor many (keeps place floor many a);
  };
  last = replaces.last;
  new = subst (IsAbove replaces.follows.leads.stands.ends leaf (end_last_request after.link.end)) count replaces.new;
}

module _ (w : Net) (h : History) (st : Stands w h) (place : ℕ) (after : Bot) (r : IsReplaced w (suc place) after)
    (x y : List ℕ) (at : slice_get w.processes 0 ≡ Some (Ended x y)) (f : MeanHub (length w.processes) x y r.end) where
  abbrev is : IsAt h st.ends 0 (Ended x y)
  is = st.each 0 (Ended x y) at

  module _ (how : How) (works : how ≡ Fails → ⊥)
      (means : end_meaning is.link.number is.link.leaves is.has.contents ≡ Some (did is.link restarts how).after) where
    -- the restart that finds what the hub's disks mean
    abbrev end_found : BotEnd
    end_found = reopened w h st 0 x y is how means

    abbrev next : History
    next = (restarted_goes w h st 0 x y is how means).after

    count : next.count ≡ h.count
    count = (restarted_goes w h st 0 x y is how means).count

    -- the processes are the same
    abbrev stands_found : Stands (record { processes = slice_set w.processes 0 (Ended x y); packets = w.packets }) next
    stands_found =
        stands_moved w h st 0 is.link is.at (Ended x y) w.packets (st.packets ++ link_posted 0 (did is.link restarts how).sends) end_found next
        (restarted_goes w h st 0 x y is how means).moment count is.number is.leaves
        (record {
          contents = is.has.contents;
          found = is.has.found;
          means = inl (means ∙ ap (λ (e : LinkEnd). Some e) (sym (rests is.link.leaves is.link.number how is.link.end works)));
        })
        (reopened_keeps w h st 0 x y is how means 0 h.count is.holds)
        (AreAmong-more w.packets st.packets (link_posted 0 (did is.link restarts how).sends) st.told)

    abbrev stands_next : Stands w next
    stands_next = record {
      ends = stands_found.ends;
      packets = stands_found.packets;
      moment = stands_found.moment;
      many = sym (ap (λ (ps : List Process). length ps) (set-same w.processes 0 (Ended x y) at)) ∙ stands_found.many;
      told = stands_found.told;
      each = λ i p e. stands_found.each i p
          (ap (λ (ps : List Process). slice_get ps i) (set-same w.processes 0 (Ended x y) at) ∙ e);
    }

    replaces_found : Replaces w h st (suc place) after
    replaces_found =
        let same : end_found.end ≡ r.end = meant w h st 0 x y is how means 0 f.leaves refl f.many f.contents r.end f.found f.means in
        let rest = found_rests f.leaves f.contents r.end f.means in
        let there : slice_get stands_next.ends 0 ≡ Some r.end =
        slice_get-set-same st.ends 0 is.link.end end_found.end is.at ∙ ap (λ (e : LinkEnd). Some e) same in
        let holds : HoldsAbove 0 next.count r.end =
        subst (λ n. HoldsAbove 0 n r.end) (sym count)
        (subst (HoldsAbove 0 h.count) same (reopened_keeps w h st 0 x y is how means 0 h.count is.holds)) in
        let done = replaces_at w next stands_next place after r there holds (ap end_is_down rest.is ∙ rest.up) in
        replaces_before w h st next stands_next (restarted_goes w h st 0 x y is how means).grows
        (few (restarted_goes w h st 0 x y is how means).moves)
        (set_keeps st.ends 0 is.link.end end_found.end is.at (reopened_keeps w h st 0 x y is how means)) count (suc place) after
        done.replaces done.accepts_none

  replaces_ended : Replaces w h st (suc place) after
  replaces_ended = elim is.has.means [
    | inl works ↦ replaces_found Works (λ no. cc) works
    | inr counts ↦ replaces_found Counts (λ no. cc) counts
  ]

-- ---- any hub

pub replaced_goes : (w : Net) (h : History) (st : Stands w h) (leaf : ℕ) (after : Bot) → IsReplaced w leaf after
    → Replaces w h st leaf after
replaced_goes w h st zero after r = absurd (omega (arith, r.above))
replaced_goes w h st (suc place) after r = by r.hub r.at r.has
  where
    by : (hub : Process) → slice_get w.processes 0 ≡ Some hub → IsHubEnd (length w.processes) hub r.end
        → Replaces w h st (suc place) after
    by (Runs hub) at has = replaces_running w h st place after r hub at has
    by (Ended x y) at has = replaces_ended w h st place after r x y at has

-- ---- a bot that was made for it

pub made_replaces : (w : Net) (hub : Process) (end : LinkEnd) (config : Config) (bot : Bot) → slice_get w.processes 0 ≡ Some hub
    → IsHubEnd (length w.processes) hub end → 0 < config.number → config.leaves + 1 ≡ length w.processes → IsGood config
    → bot ≡ bot_after config (end_last_reply end config.number) bot.link.device → IsReplaced w config.number bot
made_replaces w hub end config bot at has above many good made =
    let same : bot.config ≡ config = ap (λ (b : Bot). b.config) made in
    record {
      hub = hub;
      end = end;
      at = at;
      has = has;
      above = above;
      within = omega (arith, many, good.numbered);
      number = ap (λ (c : Config). c.number) same;
      leaves = ap (λ (c : Config). c.leaves + 1) same ∙ many;
      made = made ∙ ap (λ (c : Config). bot_after c (end_last_reply end config.number) bot.link.device) (sym same);
    }
