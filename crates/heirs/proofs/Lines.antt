-- A net and its ancestors: the history that each begins with, and the records that they have in common.
use Rattle.std.proofs.Common.{◌≡◌, ◌≤◌, ℕ, zero, suc, List, [], ◌∷◌, ◌++◌, length, take, drop, slice_get, Some, refl, ap, sym, subst, ◌∙◌, arith}
use Rattle.std.proofs.lemmas.List.{take-append-drop, length-take-le, take_all}
use Rattle.userfile.specs.Records.{Records}
use Rattle.procs.specs.Promises.{Promised}
use Rattle.protocol.specs.Packets.{AcceptedChange}
use Rattle.protocol.specs.History.{History, start, changes_of, records_of, Extends}
use Rattle.protocol.proofs.Lists.{Extends-length, records_of-more}
use Rattle.processes.specs.Deeds.{Net, Deed, Run, IsFirst, Stays, after_deed, net_after, shown_version, shown_records}
use Rattle.processes.specs.Standing.{Stands, Reaches}
use Rattle.heirs.specs.Beginnings.{heir_start}
use Rattle.heirs.specs.Heirs.{IsHeirOf}
use Rattle.heirs.specs.Descents.{net_at, Ancestor, Descends, AreAtLeast}
use Rattle.heirs.proofs.Histories.{changes_of-inherited, length-inherited, records_of-inherited, heir_sound}
use Rattle.heirs.proofs.Beginning.{heir_begins}
use Rattle.heirs.proofs.Stories.{Goes, Between, Story, story, shown_within, shown_are, shown_past, past_version, shown_of_last, first_front, under_hub}

-- ---- one heir

module _ (old : Net) (h : History) (st : Stands old h) (bot version count : ℕ) (w : Net) (is : IsHeirOf old bot version count w) where
  abbrev all : List AcceptedChange
  all = h.hub.kept.accepted

  abbrev front : List AcceptedChange
  front = take version all

  within : version ≤ length all
  within = shown_within old h st bot version is.shows_version

  many : length front ≡ version
  many = length-take-le version all within

  is_front : Extends front all
  is_front = (drop version all, sym (take-append-drop version all))

  are : is.records ≡ records_of front version
  are =
      let both : Some is.records ≡ Some (records_of all version) =
      sym is.shows_records ∙ shown_are old h st bot version is.shows_version in
      let same : is.records ≡ records_of all version = cc in
      same ∙ records_of-more front all version is_front (omega (arith, many))

  pub begins : Stands w (heir_start count front)
  begins = heir_begins count version is.records w is.heir front many are (heir_sound h st.moment.sound front is_front count)

  pub begins-length : length (heir_start count front).hub.kept.accepted ≡ version
  begins-length = length-inherited front ∙ many

  pub begins-records : (v : ℕ) → v ≤ version → records_of (heir_start count front).hub.kept.accepted v ≡ records_of all v
  begins-records v le = records_of-inherited front v ∙ sym (records_of-more front all v is_front (omega (arith, le, many)))

pub lost_nothing : (old : Net) (h : History) → Stands old h → (version count : ℕ) → shown_version old 0 ≡ Some version
    → changes_of (heir_start count (take version h.hub.kept.accepted)).hub.kept.accepted ≡ changes_of h.hub.kept.accepted
lost_nothing old h st version count is =
    changes_of-inherited (take version h.hub.kept.accepted)
    ∙ ap changes_of (take_all version h.hub.kept.accepted (omega (arith, shown_past old h st 0 version is)))

-- an heir of a bot at the hub's version goes on from the hub's records
pub stands_whole : (old : Net) (h : History) → Stands old h → (bot version count : ℕ) (w : Net) → shown_version old 0 ≡ Some version
    → IsHeirOf old bot version count w → (heir : ℕ) → shown_version w 0 ≡ Some heir
    → (heir ≡ version) × (shown_records w 0 ≡ shown_records old 0)
stands_whole old h st bot version count w hub is heir shows =
    let start = heir_start count (take version h.hub.kept.accepted) in
    let stands = begins old h st bot version count w is in
    let same : heir ≡ version = shown_past w start stands 0 heir shows ∙ begins-length old h st bot version count w is in (
      same,
      shown_are w start stands 0 heir shows
          ∙ ap (λ (v : ℕ). Some (records_of start.hub.kept.accepted v)) same
          ∙ ap (λ (r : Records). Some r) (begins-records old h st bot version count w is version (omega arith))
          ∙ sym (shown_are old h st 0 version hub),
    )

-- ---- a net and its ancestors

-- An ancestor's history, and that it means the same as this one, at each version that these promoted bots had reached.
pub record Before (promised : Promised) (promoted : List Ancestor) (a : Ancestor) (accepted : List AcceptedChange) : Type 0 where
  pub history : History
  pub run : Run promised a.net a.deeds
  pub story : Story a.net history a.deeds
  pub same : (version : ℕ) → AreAtLeast version promoted
      → (records_of story.last.hub.kept.accepted version ≡ records_of accepted version) × (version ≤ length accepted)

-- the history that a net begins with, and what comes before
pub record Line (promised : Promised) (ancestors : List Ancestor) (w : Net) : Type 0 where
  pub begin : History
  pub stands : Stands w begin
  pub before : (k : ℕ) (a : Ancestor) → slice_get ancestors k ≡ Some a
      → Before promised (take (suc k) ancestors) a begin.hub.kept.accepted

module _ (promised : Promised) (goes : Goes promised) (first_stands : (count : ℕ) (w : Net) → IsFirst count w → Stands w (start count)) where
  -- the heir of a net with this line
  module _ (a : Ancestor) (others : List Ancestor) (w : Net) (count : ℕ) (parent : Line promised others a.net)
      (is : IsHeirOf (net_at a.net a.deeds a.moment) a.bot a.version count w) (run : Run promised a.net a.deeds) where
    abbrev s : Story a.net parent.begin a.deeds
    s = story promised goes a.net parent.begin a.deeds parent.stands run

    abbrev then : Between parent.begin.hub.kept.accepted s.last.hub.kept.accepted (net_at a.net a.deeds a.moment)
    then = s.each a.moment

    abbrev begin : History
    begin = heir_start count (take a.version then.past.hub.kept.accepted)

    begin_within : a.version ≤ length then.past.hub.kept.accepted
    begin_within = shown_within (net_at a.net a.deeds a.moment) then.past then.stands a.bot a.version is.shows_version

    -- up to the promoted version the heir's records are those of the whole old net
    of_last : (version : ℕ) → version ≤ a.version
        → records_of s.last.hub.kept.accepted version ≡ records_of begin.hub.kept.accepted version
    of_last version le =
        records_of-more then.past.hub.kept.accepted s.last.hub.kept.accepted version then.front (omega (arith, le, begin_within))
        ∙ sym (begins-records (net_at a.net a.deeds a.moment) then.past then.stands a.bot a.version count w is version le)

    long : length begin.hub.kept.accepted ≡ a.version
    long = begins-length (net_at a.net a.deeds a.moment) then.past then.stands a.bot a.version count w is

    -- what comes before the old net comes before the heir, up to the promoted version
    before_heir : (promoted : List Ancestor) (b : Ancestor) → Before promised promoted b parent.begin.hub.kept.accepted
        → Before promised (a ∷ promoted) b begin.hub.kept.accepted
    before_heir promoted b older = record {
      history = older.history;
      run = older.run;
      story = older.story;
      same = λ version reach.
          let was = older.same version reach.1 in (
            was.0
                ∙ sym (records_of-more parent.begin.hub.kept.accepted s.last.hub.kept.accepted version
                (first_front a.net parent.begin a.deeds s) was.1)
                ∙ of_last version reach.0,
            omega (arith, reach.0, long),
          );
    }

    before : (k : ℕ) (b : Ancestor) → slice_get (a ∷ others) k ≡ Some b
        → Before promised (take (suc k) (a ∷ others)) b begin.hub.kept.accepted
    before zero b at =
        let same : a ≡ b = cc in
        subst (λ (c : Ancestor). Before promised (a ∷ []) c begin.hub.kept.accepted) same
        (record {
          history = parent.begin;
          run = run;
          story = s;
          same = λ version reach. (of_last version reach.0, omega (arith, reach.0, long));
        })
    before (suc k) b at = before_heir (take (suc k) others) b (parent.before k b at)

    begin_stands : Stands w begin
    begin_stands = begins (net_at a.net a.deeds a.moment) then.past then.stands a.bot a.version count w is

    -- what the heir's hub shows is never below
    begins_below : (deeds : List Deed) → Run promised w deeds → (i version : ℕ)
        → shown_version (net_at w deeds i) 0 ≡ Some version → a.version ≤ version
    begins_below deeds own i version shows =
        let b = (story promised goes w begin deeds begin_stands own).each i in
        omega (
          arith,
          long,
          Extends-length begin.hub.kept.accepted b.past.hub.kept.accepted b.since,
          shown_past (net_at w deeds i) b.past b.stands 0 version shows,
        )

    heir_line : Line promised (a ∷ others) w
    heir_line = record { begin = begin; stands = begin_stands; before = before }

  pub line : (ancestors : List Ancestor) (w : Net) → Descends promised ancestors w → Line promised ancestors w
  line [] w d = record { begin = start d.0; stands = first_stands d.0 w d.1; before = λ k a at. cc }
  line (a ∷ others) w d = heir_line a others w d.0 (line others a.net d.3) d.1 d.2

  pub descends_stands : (ancestors : List Ancestor) (w : Net) → Descends promised ancestors w → (h : History) × Stands w h
  descends_stands ancestors w d = let l = line ancestors w d in (l.begin, l.stands)

  module _ (ancestors : List Ancestor) (w : Net) (deeds : List Deed) (d : Descends promised ancestors w) (run : Run promised w deeds) where
    abbrev own_line : Line promised ancestors w
    own_line = line ancestors w d

    abbrev own : Story w own_line.begin deeds
    own = story promised goes w own_line.begin deeds own_line.stands run

    pub net_same_records : (i j one other version : ℕ) → shown_version (net_at w deeds i) one ≡ Some version
        → shown_version (net_at w deeds j) other ≡ Some version
        → shown_records (net_at w deeds i) one ≡ shown_records (net_at w deeds j) other
    net_same_records i j one other version is now =
        shown_of_last w own_line.begin deeds own i one version is
        ∙ sym (shown_of_last w own_line.begin deeds own j other version now)

    -- what the promoted bots had reached means the same as long as the heir's net goes on
    same_last : (version : ℕ) (old : List AcceptedChange)
        → (records_of old version ≡ records_of own_line.begin.hub.kept.accepted version)
        × (version ≤ length own_line.begin.hub.kept.accepted)
        → records_of old version ≡ records_of own.last.hub.kept.accepted version
    same_last version old same =
        same.0
        ∙ sym (records_of-more own_line.begin.hub.kept.accepted own.last.hub.kept.accepted version
        (first_front w own_line.begin deeds own) same.1)

    pub ancestors_agree : (k : ℕ) (a : Ancestor) → slice_get ancestors k ≡ Some a → (i j one other version : ℕ)
        → AreAtLeast version (take (suc k) ancestors) → shown_version (net_at a.net a.deeds i) one ≡ Some version
        → shown_version (net_at w deeds j) other ≡ Some version
        → shown_records (net_at a.net a.deeds i) one ≡ shown_records (net_at w deeds j) other
    ancestors_agree k a at i j one other version reach was now =
        let before = own_line.before k a at in
        shown_of_last a.net before.history a.deeds before.story i one version was
        ∙ ap (λ (r : Records). Some r) (same_last version before.story.last.hub.kept.accepted (before.same version reach))
        ∙ sym (shown_of_last w own_line.begin deeds own j other version now)

  -- ---- an heir and its parent

  module _ (a : Ancestor) (others : List Ancestor) (w : Net) (d : Descends promised (a ∷ others) w) where
    pub hub_not_below : (deeds : List Deed) → Run promised w deeds → (i version : ℕ)
        → shown_version (net_at w deeds i) 0 ≡ Some version → a.version ≤ version
    hub_not_below deeds run i version is =
        begins_below a others w d.0 (line others a.net d.3) d.1 d.2 deeds run i version is

    pub hands_over : (i j one last version : ℕ) → i ≤ j → shown_version (net_at a.net a.deeds j) 0 ≡ Some last
        → last ≤ a.version → shown_version (net_at a.net a.deeds i) one ≡ Some version → version ≤ a.version
    hands_over i j one last version le hub above is =
        let l = line others a.net d.3 in
        let s = story promised goes a.net l.begin a.deeds l.stands d.2 in
        omega (arith, above, under_hub a.net l.begin a.deeds s i j one version last le hub is)

  -- ---- no version goes back

  record Parts (w : Net) (first more : List Deed) : Type 0 where
    front : Run promised w first
    back : Run promised (net_after w first) more
    leads : net_after w (first ++ more) ≡ net_after (net_after w first) more

  parts : (w : Net) (first more : List Deed) → Run promised w (first ++ more) → Parts w first more
  parts w [] more run = record { front = tt; back = run; leads = refl }
  parts w (deed ∷ first) more run =
      let rest = parts (after_deed w deed) first more run.1 in
      record { front = (run.0, rest.front); back = rest.back; leads = rest.leads }

  module _ (ancestors : List Ancestor) (w : Net) (first more : List Deed) (d : Descends promised ancestors w)
      (run : Run promised w (first ++ more)) where
    abbrev apart : Parts w first more
    apart = parts w first more run

    abbrev from : Line promised ancestors w
    from = line ancestors w d

    abbrev one : Reaches first from.begin (net_after w first)
    one = goes w from.begin first from.stands apart.front

    abbrev two : Reaches more one.after (net_after (net_after w first) more)
    two = goes (net_after w first) one.after more one.stands apart.back

    past_grows : (i : ℕ) → Stays i more → past_version one.after i ≤ past_version two.after i
    past_grows zero stays = Extends-length one.after.hub.kept.accepted two.after.hub.kept.accepted two.grows.hub.accepted
    past_grows (suc place) stays = (two.grows.leaves (suc place) stays).version

    pub net_never_back : (bot before after : ℕ) → Stays bot more → shown_version (net_after w first) bot ≡ Some before
        → shown_version (net_after w (first ++ more)) bot ≡ Some after → before ≤ after
    net_never_back bot before after stays was now = omega (
      arith,
      shown_past (net_after w first) one.after one.stands bot before was,
      shown_past (net_after (net_after w first) more) two.after two.stands bot after
          (ap (λ (n : Net). shown_version n bot) (sym apart.leads) ∙ now),
      past_grows bot stays,
    )
