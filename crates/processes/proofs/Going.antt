-- Where the deeds of one process lead, but for its replacement: to processes that stand for what history grew into.
use Rattle.std.proofs.Common.{◌≡◌, inl, inr, ℕ, ◌+◌, Bool, true, false, if◌then◌else◌, nat_lt, List, [], ◌++◌, length, slice_get, slice_set, Some, Result, refl, ap, sym}
use Rattle.std.proofs.Common.{subst, ◌∙◌, arith}
use Rattle.std.proofs.lemmas.List.{append-nil}
use Rattle.procs.specs.Promises.{Promised}
use Rattle.botjournal.specs.Contents.{Contents, meaning}
use Rattle.protocol.specs.Packets.{AcceptedChange, Sent as LinkSent, from_wire}
use Rattle.protocol.specs.Bots.{How, Works, Fails, Counts, Row, refused, journals}
use Rattle.protocol.specs.Notes.{Note, LinkFault}
use Rattle.protocol.specs.Notes.Note.{Compacted}
use Rattle.protocol.specs.Notes.LinkFault.{Down, NumbersSpent}
use Rattle.protocol.specs.Numbers.{last_number}
use Rattle.protocol.specs.HubRules.{Rebase, Hub, hub_folded, hub_compacted}
use Rattle.protocol.specs.LeafRules.{Leaf, Compact as compact_record, leaf_folded, leaf_compacted}
use Rattle.protocol.specs.Network.{posted as link_posted}
use Rattle.protocol.specs.Network.Event.{Pump as pumps, Compact as compacts, Restart as restarts}
use Rattle.protocol.specs.History.{History}
use Rattle.protocol.proofs.Growing.{Grows-trans}
use Rattle.sharelink.specs.Calls.{outgoings_of}
use Rattle.protocol.specs.Ends.{End as LinkEnd, AtHub, AtLeaf, end_did, end_received}
use Rattle.protocol.specs.Nets.{IsMoment, TellsReached, MovesAsTold, RowFollows}
use Rattle.protocol.proofs.NetGoes.{received_goes}
use Rattle.sharelink.specs.StateOpening.{ArePutAnew}
use Rattle.sharelink.specs.BotLinks.{BotEnd, MeanEnd, did, took, end_meaning, compacted, RenewsEnd}
use Rattle.botcore.specs.declared.event.BotEvent.{BotEvent}
use Rattle.botcore.specs.declared.event.BotEvent.TheVariants.{Connect, Line, Ask, Pump, Receive, Clock, Bind, Unbind}
use Rattle.botcore.specs.declared.event.BotEvent.TheVariants.{Compact, Restart}
use Rattle.botcore.specs.Bots.{Bot}
use Rattle.botworld.specs.declared.sent.Sent.{Sent}
use Rattle.botworld.specs.Net.{posted}
use Rattle.botworld.proofs.Lists.{slice_get-set-same}
use Rattle.botworld.proofs.Shown.{all_sent-posted}
use Rattle.botworld.proofs.BotEnds.{IsAmong as IsBotAmong, did_row, set-set}
use Rattle.botworld.proofs.BotSteps.{WasSentTo, bot_goes}
use Rattle.watching.specs.Openings.{IsOpened, IsUnopened}
use Rattle.processes.specs.Deeds.{Process, Runs, Ended, Net, Step, Doing, Nothing, Telling, Made, Died, Opened}
use Rattle.processes.specs.Deeds.{Unopened, with_process, WasTold, WasDoing, with_end, LeavesIn}
use Rattle.processes.specs.Deeds.{Makes, AtMostOneMore}
use Rattle.processes.specs.Standing.{HoldsAbove, HasEnd, IsAt, AreAmong, Stands}
use Rattle.processes.proofs.Lists.{AreAmong-out, AreAmong-more, AreAmong-at}
use Rattle.processes.proofs.Resting.{rests_anew}
use Rattle.processes.proofs.Keeping.{EndKeeps, EndKeeps-trans, did_keeps, received_keeps}
use Rattle.processes.proofs.Stepping.{step_keeps}
use Rattle.processes.proofs.Standing.{ReachesAt, Follows, follows, moves, keeps_end}

-- ---- a packet that was told was sent

was_sent : (told : List Sent) (packets : List LinkSent) → AreAmong told packets → (bot : ℕ) (event : BotEvent)
    → WasTold told bot event
    → WasSentTo packets bot event
was_sent told packets among bot (Receive packet) was =
    let found = AreAmong-at told packets was.0 _ among was.2 in (found.0, was.1, found.1)
was_sent told packets among bot Connect was = tt
was_sent told packets among bot (Line line) was = tt
was_sent told packets among bot (Ask change) was = tt
was_sent told packets among bot Pump was = tt
was_sent told packets among bot (Clock now) was = tt
was_sent told packets among bot (Bind asked) was = tt
was_sent told packets among bot (Unbind gone) was = tt
was_sent told packets among bot Compact was = tt
was_sent told packets among bot Restart was = tt

-- ---- which changes a row accepts

pub few : {old new : List AcceptedChange} {bot : ℕ} {told : Result Note LinkFault} → MovesAsTold old new bot told
    → AtMostOneMore old new
few moves = elim moves.stay_or_grow [ inl same ↦ inl same | inr one ↦ inr (one.0, one.1) ]

-- a compaction does not report that a version was reached
hub_compacts_quietly : (leaves : ℕ) (hub : Hub) (version bot : ℕ)
    → TellsReached version bot (hub_compacted leaves Works hub).told → ⊥
hub_compacts_quietly leaves hub version bot = by hub.down (nat_lt hub.kept.generation last_number)
  where
    by : (down room : Bool) → TellsReached version bot (
        if down then refused Down hub
        else (if room then journals hub_folded Works hub Rebase Compacted [] hub.loose else refused NumbersSpent hub)).told → ⊥
    by true room (zero_bot, inl reached) = cc
    by true room (zero_bot, inr reached) = cc
    by false true (zero_bot, inl reached) = cc
    by false true (zero_bot, inr reached) = cc
    by false false (zero_bot, inl reached) = cc
    by false false (zero_bot, inr reached) = cc

leaf_compacts_quietly : (leaves number : ℕ) (leaf : Leaf) (version bot : ℕ)
    → TellsReached version bot (leaf_compacted leaves number Works leaf).told → ⊥
leaf_compacts_quietly leaves number leaf version bot = by leaf.down (nat_lt leaf.kept.generation last_number)
  where
    by : (down room : Bool) → TellsReached version bot (
        if down then refused Down leaf
        else (if room then journals leaf_folded Works leaf compact_record Compacted [] leaf.loose else refused NumbersSpent leaf)).told → ⊥
    by true room (zero_bot, inl reached) = cc
    by true room (zero_bot, inr reached) = cc
    by false true (zero_bot, inl reached) = cc
    by false true (zero_bot, inr reached) = cc
    by false false (zero_bot, inl reached) = cc
    by false false (zero_bot, inr reached) = cc

compacts_quietly : (leaves number : ℕ) (end : LinkEnd) (version bot : ℕ)
    → TellsReached version bot (end_did leaves number Works end compacts).told → ⊥
compacts_quietly leaves number (AtHub hub) version bot = hub_compacts_quietly leaves hub version bot
compacts_quietly leaves number (AtLeaf leaf) version bot = leaf_compacts_quietly leaves number leaf version bot

none_compacted : (link : BotEnd) (old new : List AcceptedChange) (bot : ℕ)
    → MovesAsTold old new bot (did link compacts Works).told → new ≡ old
none_compacted link old new bot moves = elim moves.stay_or_grow [
  | inl same ↦ same
  | inr one ↦ absurd (compacts_quietly link.leaves link.number link.end (length old + 1) bot one.2)
]

module _ (w : Net) (h : History) (st : Stands w h) where
  -- the end of a bot that runs
  pub record IsRunning (place : ℕ) (bot : Bot) : Type 0 where
    pub among : IsBotAmong h st.ends st.packets place bot.link
    pub holds : HoldsAbove 0 h.count bot.link.end

  pub running : (place : ℕ) (bot : Bot) → slice_get w.processes place ≡ Some (Runs bot) → IsRunning place bot
  running place bot at =
      let is = st.each place (Runs bot) at in
      record {
        among = record {
          sound = st.moment;
          at = is.at ∙ ap (λ (b : BotEnd). Some b.end) (sym is.has);
          number = ap (λ (b : BotEnd). b.number) is.has ∙ is.number;
          leaves = ap (λ (b : BotEnd). b.leaves) is.has ∙ is.leaves;
        };
        holds = subst (λ (b : BotEnd). HoldsAbove 0 h.count b.end) (sym is.has) is.holds;
      }

  -- ---- a step

  pub made_goes : (promised : Promised) (bot : ℕ) (step : Step) → Makes promised w bot step → Follows w h st (Made bot step)
  made_goes promised bot step m =
      let runs = running bot step.was m.running in
      let among = runs.among in
      let g = bot_goes promised step.names h st.ends st.packets bot step.was among step.event step.report step.after
      (was_sent w.packets st.packets st.told bot step.event m.told) m.takes in
      let r = moves w h st bot step.was.link among.at (Runs step.after) (w.packets ++ posted bot step.report.packets)
      (st.packets ++ link_posted bot (outgoings_of step.report.packets)) step.after.link g.after g.sound g.grows g.count
      (g.number ∙ among.number) (g.leaves ∙ among.leaves) refl runs.holds
      (step_keeps promised step.names step.event step.was step.report step.after m.takes)
      (subst (λ (ps : List LinkSent). AreAmong (w.packets ++ posted bot step.report.packets) (st.packets ++ ps))
      (all_sent-posted bot step.report.packets)
      (AreAmong-out w.packets (posted bot step.report.packets) st.packets st.told)) in
      follows w h st (Made bot step) g.after r g.accepted

  -- ---- a death

  -- a row was made, of which nobody was told
  pub row_goes : (place : ℕ) (old : BotEnd) → slice_get st.ends place ≡ Some old.end → (row : Row LinkEnd)
      → (goes : RowFollows h st.ends st.packets place row)
      → (process : Process) (new : BotEnd) → row.after ≡ new.end → new.number ≡ place → new.leaves ≡ h.count
      → HasEnd new process → HoldsAbove 0 h.count old.end → EndKeeps old.end row.after
      → ReachesAt w h st goes.after (with_process w place process [])
  row_goes place old at row goes process new same number leaves has held keeps =
      moves w h st place old at process (w.packets ++ []) (st.packets ++ link_posted place row.sends) new goes.after
      (subst (λ (e : LinkEnd).
      IsMoment (slice_set st.ends place e) (st.packets ++ link_posted place row.sends) goes.after) same goes.moment)
      goes.grows goes.count number leaves has held (subst (EndKeeps old.end) same keeps)
      (subst (λ (ps : List Sent). AreAmong ps (st.packets ++ link_posted place row.sends)) (sym (append-nil w.packets))
      (AreAmong-more w.packets st.packets (link_posted place row.sends) st.told))

  -- two rows were made, one after the other
  rows_go : (place : ℕ) (old : BotEnd) → slice_get st.ends place ≡ Some old.end → (one two : Row LinkEnd)
      → (goes : RowFollows h st.ends st.packets place one)
      → (more : RowFollows goes.after (slice_set st.ends place one.after) (st.packets ++ link_posted place one.sends) place two)
      → (process : Process) (new : BotEnd) → two.after ≡ new.end → new.number ≡ place → new.leaves ≡ h.count
      → HasEnd new process → HoldsAbove 0 h.count old.end → EndKeeps old.end two.after
      → ReachesAt w h st more.after (with_process w place process [])
  rows_go place old at one two goes more process new same number leaves has held keeps =
      let sent = st.packets ++ link_posted place one.sends in
      let packets = sent ++ link_posted place two.sends in
      moves w h st place old at process (w.packets ++ []) packets new more.after
      (subst (λ (es : List LinkEnd). IsMoment es packets more.after)
      (set-set st.ends place one.after two.after ∙ ap (slice_set st.ends place) same) more.moment)
      (Grows-trans h goes.after more.after goes.grows more.grows) (more.count ∙ goes.count) number leaves has held
      (subst (EndKeeps old.end) same keeps)
      (subst (λ (ps : List Sent). AreAmong ps packets) (sym (append-nil w.packets))
      (AreAmong-more w.packets sent (link_posted place two.sends)
      (AreAmong-more w.packets st.packets (link_posted place one.sends) st.told)))

  module _ (place : ℕ) (was : Bot) (runs : IsRunning place was) (first second : List ℕ) where
    abbrev among : IsBotAmong h st.ends st.packets place was.link
    among = runs.among

    -- the call was to journal nothing
    quiet_goes : LeavesIn Nothing was.link first second → ReachesAt w h st h (with_process w place (Ended first second) [])
    quiet_goes leaves =
        keeps_end w h st place was.link among.at (Ended first second) was.link refl among.number among.leaves leaves runs.holds

    quiet_leads : (doing : Doing) → LeavesIn Nothing was.link first second → Follows w h st (Died place was doing first second)
    quiet_leads doing leaves = follows w h st (Died place was doing first second) h (quiet_goes leaves) (inl refl)

    -- the call was to journal a record, by this row
    failed_leads : (doing : Doing) (row : Row LinkEnd) → RowFollows h st.ends st.packets place row
        → EndKeeps was.link.end row.after
        → MeanEnd (with_end was.link row.after) first second → Follows w h st (Died place was doing first second)
    failed_leads doing row goes keeps leaves =
        let r = row_goes place was.link among.at row goes (Ended first second) (with_end was.link row.after)
        refl among.number among.leaves leaves runs.holds keeps in
        follows w h st (Died place was doing first second) goes.after r (few goes.moves)

    pub died_goes : (doing : Doing) → WasDoing w.packets place doing → LeavesIn doing was.link first second
        → Follows w h st (Died place was doing first second)
    died_goes Nothing told leaves = quiet_leads Nothing leaves
    died_goes (Telling Connect) told leaves = quiet_leads (Telling Connect) leaves
    died_goes (Telling (Line line)) told leaves = quiet_leads (Telling (Line line)) leaves
    died_goes (Telling (Ask change)) told leaves = quiet_leads (Telling (Ask change)) leaves
    died_goes (Telling (Clock now)) told leaves = quiet_leads (Telling (Clock now)) leaves
    died_goes (Telling (Bind asked)) told leaves = quiet_leads (Telling (Bind asked)) leaves
    died_goes (Telling (Unbind gone)) told leaves = quiet_leads (Telling (Unbind gone)) leaves
    died_goes (Telling Restart) told leaves = quiet_leads (Telling Restart) leaves
    died_goes (Telling Pump) told leaves =
        failed_leads (Telling Pump) (did was.link pumps Fails)
        (did_row h st.ends st.packets place was.link among pumps Fails)
        (did_keeps was.link.leaves was.link.number Fails was.link.end pumps) leaves
    died_goes (Telling Compact) told leaves =
        failed_leads (Telling Compact) (did was.link compacts Fails)
        (did_row h st.ends st.packets place was.link among compacts Fails)
        (did_keeps was.link.leaves was.link.number Fails was.link.end compacts) leaves
    died_goes (Telling (Receive packet)) told leaves =
        let sent = was_sent w.packets st.packets st.told place (Receive packet) told in
        let goes : RowFollows h st.ends st.packets place (took was.link packet Fails) =
        subst (λ n.
        RowFollows h st.ends st.packets place (end_received was.link.leaves n Fails was.link.end (from_wire packet)))
        (sym among.number)
        (received_goes st.ends st.packets h st.moment was.link.leaves sent.0
        (record { from = sent.1; to = place; packet = from_wire packet })
        was.link.end Fails among.leaves sent.2 among.at) in
        failed_leads (Telling (Receive packet)) (took was.link packet Fails) goes
        (received_keeps was.link.leaves was.link.number Fails was.link.end (from_wire packet)) leaves

  -- ---- an opening

  module _ (place : ℕ) (first second : List ℕ) (is : IsAt h st.ends place (Ended first second)) (how : How)
      (means : end_meaning is.link.number is.link.leaves is.has.contents ≡ Some (did is.link restarts how).after) where
    -- the bytes are found as a restart finds them
    pub restarted_goes : RowFollows h st.ends st.packets place (did is.link restarts how)
    restarted_goes =
        did_row h st.ends st.packets place is.link
        (record { sound = st.moment; at = is.at; number = is.number; leaves = is.leaves }) restarts how

    abbrev pub reopened : BotEnd
    reopened = with_end is.link (did is.link restarts how).after

    -- and then put anew as a compaction does it
    abbrev anew : LinkEnd
    anew = (did reopened compacts Works).after

    compacted_goes : RowFollows restarted_goes.after (slice_set st.ends place reopened.end)
        (st.packets ++ link_posted place (did is.link restarts how).sends) place (did reopened compacts Works)
    compacted_goes =
        did_row restarted_goes.after (slice_set st.ends place reopened.end)
        (st.packets ++ link_posted place (did is.link restarts how).sends) place reopened
        (record {
          sound = restarted_goes.moment;
          at = slice_get-set-same st.ends place is.link.end reopened.end is.at;
          number = is.number;
          leaves = is.leaves ∙ sym restarted_goes.count;
        }) compacts Works

    pub reopened_keeps : EndKeeps is.link.end reopened.end
    reopened_keeps = did_keeps is.link.leaves is.link.number how is.link.end restarts

    anew_keeps : EndKeeps is.link.end anew
    anew_keeps =
        EndKeeps-trans is.link.end reopened.end anew reopened_keeps
        (did_keeps is.link.leaves is.link.number Works reopened.end compacts)

    -- the restart accepts at most the change in doubt, and the compaction none
    few_anew : AtMostOneMore h.hub.kept.accepted compacted_goes.after.hub.kept.accepted
    few_anew = subst (AtMostOneMore h.hub.kept.accepted) (sym (none_compacted reopened _ _ place compacted_goes.moves))
        (few restarted_goes.moves)

    -- what the bytes mean to a bot of this number
    module _ (number leaves : ℕ) (same_number : number ≡ place) (many : leaves + 1 ≡ length w.processes) where
      same_leaves : leaves ≡ h.count
      same_leaves = omega (arith, many, st.many)

      pub meant : (contents : Contents) (before : LinkEnd) → meaning first second ≡ Some contents
          → end_meaning number leaves contents ≡ Some before → reopened.end ≡ before
      meant contents before found end =
          let both : Some is.has.contents ≡ Some contents = sym is.has.found ∙ found in
          let same : is.has.contents ≡ contents = cc in
          let ends : Some reopened.end ≡ Some before =
          sym means
          ∙ ap (end_meaning is.link.number is.link.leaves) same
          ∙ ap (λ n. end_meaning n is.link.leaves contents) (is.number ∙ sym same_number)
          ∙ ap (λ n. end_meaning number n contents) (is.leaves ∙ sym same_leaves)
          ∙ end in
          cc

      renewed : (before kept : LinkEnd) → reopened.end ≡ before → kept ≡ compacted number leaves before → anew ≡ kept
      renewed before kept same renews =
          ap (λ n. compacted n is.link.leaves reopened.end) (is.number ∙ sym same_number)
          ∙ ap (λ n. compacted number n reopened.end) (is.leaves ∙ sym same_leaves)
          ∙ ap (compacted number leaves) same ∙ sym renews

    -- the bot that was opened has the end that its disks mean, or that put anew
    opens_end : (after : Bot) → IsOpened place (length w.processes) first second after
        → Follows w h st (Opened place after)
    opens_end after o =
        let found = meant after.config.number after.config.leaves o.number o.leaves o.kept.contents o.kept.before o.kept.found
        o.kept.means in
        let number = ap (λ (l : BotEnd). l.number) o.link ∙ o.number in
        let leaves = ap (λ (l : BotEnd). l.leaves) o.link
        ∙ same_leaves after.config.number after.config.leaves o.number o.leaves in
        elim o.kept.keeps [
          | inl same ↦ let r = row_goes place is.link is.at (did is.link restarts how) restarted_goes (Runs after) after.link
              (found ∙ sym same.1) number leaves refl is.holds reopened_keeps in
              follows w h st (Opened place after) restarted_goes.after r (few restarted_goes.moves)
          | inr older ↦ let r = rows_go place is.link is.at (did is.link restarts how) (did reopened compacts Works) restarted_goes
              compacted_goes (Runs after) after.link
              (renewed after.config.number after.config.leaves o.number o.leaves o.kept.before after.link.end found older.1)
              number leaves refl is.holds anew_keeps in
              follows w h st (Opened place after) compacted_goes.after r few_anew
        ]

    -- bytes that were put anew mean what a restart of that end finds
    unopens_end : (x y : List ℕ) (leaves : ℕ) → leaves + 1 ≡ length w.processes → (how ≡ Fails → ⊥)
        → (put : ArePutAnew (end_meaning place leaves) (RenewsEnd place leaves) (meaning first second) (meaning x y))
        → Follows w h st (Unopened place x y)
    unopens_end x y leaves many works put =
        let found = meant place leaves refl many put.contents put.before put.was put.means in
        let same = renewed place leaves refl many put.before put.kept found put.renews in
        let r = rows_go place is.link is.at (did is.link restarts how) (did reopened compacts Works) restarted_goes compacted_goes
        (Ended x y) (with_end is.link anew) refl is.number is.leaves
        (record {
          contents = put.anew;
          found = put.found;
          means = inl (
              ap (λ n. end_meaning n is.link.leaves put.anew) is.number
              ∙ ap (λ n. end_meaning place n put.anew) (is.leaves ∙ sym (same_leaves place leaves refl many))
              ∙ put.means_anew ∙ ap (λ (e : LinkEnd). Some e) (sym same)
              ∙ ap (λ (e : LinkEnd). Some e) (sym (rests_anew is.link.leaves is.link.number how is.link.end works)));
        }) is.holds anew_keeps in
        follows w h st (Unopened place x y) compacted_goes.after r few_anew

  pub opened_goes : (place : ℕ) (first second : List ℕ) → slice_get w.processes place ≡ Some (Ended first second)
      → (after : Bot)
      → IsOpened place (length w.processes) first second after → Follows w h st (Opened place after)
  opened_goes place first second at after o =
      let is = st.each place (Ended first second) at in
      elim is.has.means [
        | inl works ↦ opens_end place first second is Works works after o
        | inr counts ↦ opens_end place first second is Counts counts after o
      ]

  pub unopened_goes : (place : ℕ) (x y first second : List ℕ) → slice_get w.processes place ≡ Some (Ended x y)
      → IsUnopened place (length w.processes) x y first second
      → Follows w h st (Unopened place first second)
  unopened_goes place x y first second at u =
      let is = st.each place (Ended x y) at in
      elim u.left [
        | inl same ↦ let r = keeps_end w h st place is.link is.at (Ended first second) is.link refl is.number is.leaves
            (record { contents = is.has.contents; found = same ∙ is.has.found; means = is.has.means }) is.holds in
            follows w h st (Unopened place first second) h r (inl refl)
        | inr put ↦ elim is.has.means [
          | inl works ↦ unopens_end place x y is Works works first second u.leaves u.many (λ no. cc) put
          | inr counts ↦ unopens_end place x y is Counts counts first second u.leaves u.many (λ no. cc) put
        ]
      ]
