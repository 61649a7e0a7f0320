-- What actions leave of a bot's end of the link: each ask and each text is one call of it, which accepts nothing.
use Rattle.std.proofs.Common.{◌≡◌, ℕ, nat_lt, Bool, true, false, if◌then◌else◌, List, [], ◌∷◌, ◌++◌, length, map, slice_set}
use Rattle.std.proofs.Common.{Option, None, Some, Result, Ok, Err, refl, ap, sym, subst, ◌∙◌, append_assoc}
use Rattle.std.proofs.lemmas.List.{append-nil}
use Rattle.bottimers.specs.declared.fault.ClockFault.{ClockFault}
use Rattle.bottimers.specs.declared.timer.Timer.{Timer}
use Rattle.bottimers.specs.declared.timer.TimerKind.TheVariants.{Minutes, Seconds}
use Rattle.bottimers.specs.Held.{add_fault, holds_named}
use Rattle.procs.specs.declared.action.Action.{Action}
use Rattle.procs.specs.declared.action.Action.TheVariants.{Ask as ask_wished, Timer as timer_wished, Utimer, KillTimer, SendBot, Put}
use Rattle.procs.specs.declared.action.PutWish.{PutWish}
use Rattle.procs.specs.declared.action.TimerName.{TimerName}
use Rattle.outqueue.specs.declared.fault.QueueFault.{QueueFault}
use Rattle.userfile.specs.Apply.{bad_shape}
use Rattle.userfile.specs.declared.change.Change.{Change as UserChange}
use Rattle.userfile.specs.declared.error.ChangeFault.{ChangeFault}
use Rattle.protocol.specs.Packets.{Packet, Outgoing as LinkOutgoing, Sent, from_wire}
use Rattle.protocol.specs.Packets.Packet.{Hello, Change, Request, Accepted, Refused, BotText, Part}
use Rattle.protocol.specs.Notes.{Note as Meaning, LinkFault as Meant}
use Rattle.protocol.specs.Notes.Note.{Queued, Relayed}
use Rattle.protocol.specs.Notes.LinkFault.{BadChange, AsksFull, Down, BadBotText}
use Rattle.protocol.specs.Bots.{Works, Row, noted, refused, unless_down}
use Rattle.protocol.specs.HubRules.{Hub, ask_taken, is_bad_text, text_told}
use Rattle.protocol.specs.LeafRules.{Leaf}
use Rattle.protocol.specs.History.{History, PastHub, Grows}
use Rattle.protocol.specs.Truth.{IsKeptAnswer, AllOutgoing}
use Rattle.protocol.specs.Network.{Ask, Tell, posted}
use Rattle.protocol.proofs.Growing.{Grows-refl, Grows-trans}
use Rattle.protocol.proofs.Truth.{AllOutgoing-append}
use Rattle.sharelink.specs.declared.answer.Outgoing.{Outgoing}
use Rattle.sharelink.specs.declared.error.LinkFault.{LinkFault}
use Rattle.sharelink.specs.declared.error.LinkFault.TheVariants.{TextsFull}
use Rattle.sharelink.specs.declared.TheConstants.{MAX_TEXTS}
use Rattle.sharelink.specs.Calls.{outgoings_of}
use Rattle.protocol.specs.Ends.{End as LinkEnd, AtHub, AtLeaf, of_hub, of_leaf, end_did}
use Rattle.protocol.specs.Nets.{IsMoment, RowFollows}
use Rattle.sharelink.specs.BotLinks.{BotEnd, asked, told}
use Rattle.botcore.specs.Acting.{Acting, acted, acted_all, asked_if, timer_of, made_unless, killed_if, sent_if, put_fault, put_unless}
use Rattle.botcore.specs.Links.{packet_told, outgoing_told, text_sent}
use Rattle.botworld.proofs.BotEnds.{IsQuiet, refused_is_quiet, queued_is_quiet, relayed_is_quiet, IsAmong, did_row, set-same, set-set, posted-append}
use Rattle.botworld.proofs.Lists.{slice_get-set-same}
use Rattle.sharelink.proofs.OutgoingLemmas.{outgoings-append}

-- ---- rows that accept nothing

-- an ask sends nothing
record IsAskRow {S : Type 0} (row : Row S) : Type 0 where
  quiet : IsQuiet row.told
  sends : row.sends ≡ []

ask_row_taken : {S : Type 0} (old with_it : S) (waiting : ℕ) (shape : Option ChangeFault) → IsAskRow (ask_taken old with_it waiting shape)
ask_row_taken old with_it waiting (Some fault) = record { quiet = refused_is_quiet (BadChange fault); sends = refl }
ask_row_taken {S} old with_it waiting None = by (nat_lt waiting 64)
  where
    by : (b : Bool) → IsAskRow (let row : Row S = if b then noted Queued with_it else refused AsksFull old in row)
    by true = record { quiet = queued_is_quiet; sends = refl }
    by false = record { quiet = refused_is_quiet AsksFull; sends = refl }

hub_ask_row : (hub : Hub) (row : Row Hub) → IsAskRow row → IsAskRow (of_hub (unless_down hub row))
hub_ask_row hub row is = by hub.down
  where
    by : (down : Bool) → IsAskRow (of_hub (if down then refused Down hub else row))
    by true = record { quiet = refused_is_quiet Down; sends = refl }
    by false = record { quiet = is.quiet; sends = is.sends }

leaf_ask_row : (leaf : Leaf) (row : Row Leaf) → IsAskRow row → IsAskRow (of_leaf (unless_down leaf row))
leaf_ask_row leaf row is = by leaf.down
  where
    by : (down : Bool) → IsAskRow (of_leaf (if down then refused Down leaf else row))
    by true = record { quiet = refused_is_quiet Down; sends = refl }
    by false = record { quiet = is.quiet; sends = is.sends }

ask_row : (leaves number : ℕ) (e : LinkEnd) (change : UserChange) → IsAskRow (end_did leaves number Works e (Ask change))
ask_row leaves number (AtHub hub) change = hub_ask_row hub _ (ask_row_taken hub _ (length hub.loose) (bad_shape change))
ask_row leaves number (AtLeaf leaf) change = leaf_ask_row leaf _ (ask_row_taken leaf _ (length leaf.loose.waiting) (bad_shape change))

-- a text sends nothing but texts, and leaves the end as it was
record IsTextRow {S : Type 0} (old : S) (row : Row S) : Type 0 where
  quiet : IsQuiet row.told
  sends : (hub : PastHub) → AllOutgoing (IsKeptAnswer hub) row.sends
  after : row.after ≡ old

text_row_told : {S : Type 0} (old : S) (leaves number next to : ℕ) (text : List ℕ) → IsTextRow old (text_told old leaves number next to text)
text_row_told {S} old leaves number next to text = by (is_bad_text leaves number to text)
  where
    by : (b : Bool) → IsTextRow old (let row : Row S =
        if b then refused BadBotText old
        else record { told = Ok Relayed; sends = record { to = next; packet = BotText number to text } ∷ []; after = old } in row)
    by true = record { quiet = refused_is_quiet BadBotText; sends = λ hub. tt; after = refl }
    by false = record { quiet = relayed_is_quiet; sends = λ hub. (tt, tt); after = refl }

hub_text_row : (hub : Hub) (row : Row Hub) → IsTextRow hub row → IsTextRow (AtHub hub) (of_hub (unless_down hub row))
hub_text_row hub row is = by hub.down
  where
    by : (down : Bool) → IsTextRow (AtHub hub) (of_hub (if down then refused Down hub else row))
    by true = record { quiet = refused_is_quiet Down; sends = λ hub. tt; after = refl }
    by false = record { quiet = is.quiet; sends = is.sends; after = ap (λ (h : Hub). AtHub h) is.after }

leaf_text_row : (leaf : Leaf) (row : Row Leaf) → IsTextRow leaf row → IsTextRow (AtLeaf leaf) (of_leaf (unless_down leaf row))
leaf_text_row leaf row is = by leaf.down
  where
    by : (down : Bool) → IsTextRow (AtLeaf leaf) (of_leaf (if down then refused Down leaf else row))
    by true = record { quiet = refused_is_quiet Down; sends = λ hub. tt; after = refl }
    by false = record { quiet = is.quiet; sends = is.sends; after = ap (λ (l : Leaf). AtLeaf l) is.after }

text_row : (leaves number : ℕ) (e : LinkEnd) (to : ℕ) (text : List ℕ) → IsTextRow e (end_did leaves number Works e (Tell to text))
text_row leaves number (AtHub hub) to text = hub_text_row hub _ (text_row_told hub leaves 0 to to text)
text_row leaves number (AtLeaf leaf) to text = leaf_text_row leaf _ (text_row_told leaf leaves number 0 to text)

-- what a text is told as is what its rule sends
packet_is : (p : Packet) → from_wire (packet_told p) ≡ p
packet_is (Hello layout leaf version) = refl
packet_is (Change number origin request change) = refl
packet_is (Request leaf request change) = refl
packet_is (Accepted leaf request number) = refl
packet_is (Refused leaf request fault) = refl
packet_is (BotText from to text) = refl
packet_is (Part version part count records) = refl

outgoings_are : (os : List LinkOutgoing) → outgoings_of (map outgoing_told os) ≡ os
outgoings_are [] = refl
outgoings_are (o ∷ os) =
    ap (λ (p : Packet). record { to = o.to; packet = p } ∷ outgoings_of (map outgoing_told os)) (packet_is o.packet)
    ∙ ap (λ (ps : List LinkOutgoing). o ∷ ps) (outgoings_are os)

-- ---- actions one after another

-- what actions leave of the end of a bot at its place: all ends are sound then with the texts that were sent, and nothing was
-- accepted
pub record ActsGo (h : History) (all : List LinkEnd) (sent : List Sent) (place : ℕ) (old : BotEnd) (acting : Acting) : Type 0 where
  pub after : History
  pub sound : IsMoment (slice_set all place acting.link.end) (sent ++ posted place (outgoings_of acting.sent)) after
  pub grows : Grows h after
  pub count : after.count ≡ h.count
  pub answers : (hub : PastHub) → AllOutgoing (IsKeptAnswer hub) (outgoings_of acting.sent)
  pub accepted : after.hub.kept.accepted ≡ h.hub.kept.accepted
  pub number : acting.link.number ≡ old.number
  pub leaves : acting.link.leaves ≡ old.leaves

module _ (h : History) (all : List LinkEnd) (sent : List Sent) (place : ℕ) (old : BotEnd) (among : IsAmong h all sent place old) where
  -- no action yet
  pub none_go : (acting : Acting) → acting.link.end ≡ old.end → acting.link.number ≡ old.number → acting.link.leaves ≡ old.leaves
      → acting.sent ≡ [] → ActsGo h all sent place old acting
  none_go acting same number leaves none =
      let ends : slice_set all place acting.link.end ≡ all = ap (slice_set all place) same ∙ set-same all place old.end among.at in
      let packets : sent ++ posted place (outgoings_of acting.sent) ≡ sent =
      ap (λ (os : List Outgoing). sent ++ posted place (outgoings_of os)) none ∙ append-nil sent in
      record {
        after = h;
        sound = subst (λ (es : List LinkEnd). IsMoment es (sent ++ posted place (outgoings_of acting.sent)) h) (sym ends)
            (subst (λ (ps : List Sent). IsMoment all ps h) (sym packets) among.sound);
        grows = Grows-refl h;
        count = refl;
        answers = λ hub. subst (λ (os : List Outgoing). AllOutgoing (IsKeptAnswer hub) (outgoings_of os)) (sym none) tt;
        accepted = refl;
        number = number;
        leaves = leaves;
      }

  -- the bot in the midst of its actions
  amid : (acting : Acting) → (goes : ActsGo h all sent place old acting)
      → IsAmong goes.after (slice_set all place acting.link.end) (sent ++ posted place (outgoings_of acting.sent)) place acting.link
  amid acting goes = record {
    sound = goes.sound;
    at = slice_get-set-same all place old.end acting.link.end among.at;
    number = goes.number ∙ among.number;
    leaves = goes.leaves ∙ among.leaves ∙ sym goes.count;
  }

  -- nothing of the link or of what is sent is another
  same_go : (acting new : Acting) → new.link ≡ acting.link → new.sent ≡ acting.sent → ActsGo h all sent place old acting
      → ActsGo h all sent place old new
  same_go acting new link packets goes = record {
    after = goes.after;
    sound = subst (λ (os : List Outgoing). IsMoment (slice_set all place new.link.end) (sent ++ posted place (outgoings_of os)) goes.after) (sym packets)
        (subst (λ (b : BotEnd). IsMoment (slice_set all place b.end) (sent ++ posted place (outgoings_of acting.sent)) goes.after) (sym link) goes.sound);
    grows = goes.grows;
    count = goes.count;
    answers = λ hub. subst (λ (os : List Outgoing). AllOutgoing (IsKeptAnswer hub) (outgoings_of os)) (sym packets) (goes.answers hub);
    accepted = goes.accepted;
    number = ap (λ (b : BotEnd). b.number) link ∙ goes.number;
    leaves = ap (λ (b : BotEnd). b.leaves) link ∙ goes.leaves;
  }

  -- one more call of the end that accepts nothing, and these packets more
  one_goes : (acting new : Acting) → (goes : ActsGo h all sent place old acting) → (row : Row LinkEnd) (packets : List Outgoing)
      → RowFollows goes.after (slice_set all place acting.link.end) (sent ++ posted place (outgoings_of acting.sent)) place row
      → IsQuiet row.told → ((hub : PastHub) → AllOutgoing (IsKeptAnswer hub) row.sends) → outgoings_of packets ≡ row.sends
      → new.link ≡ record acting.link { end = row.after } → new.sent ≡ acting.sent ++ packets
      → ActsGo h all sent place old new
  one_goes acting new goes row packets next quiet answers these link sends =
      let out : outgoings_of new.sent ≡ outgoings_of acting.sent ++ row.sends =
      ap outgoings_of sends ∙ outgoings-append acting.sent packets ∙ ap (λ (os : List LinkOutgoing). outgoings_of acting.sent ++ os) these in
      let all_out : (sent ++ posted place (outgoings_of acting.sent)) ++ posted place row.sends ≡ sent ++ posted place (outgoings_of new.sent) =
      append_assoc sent (posted place (outgoings_of acting.sent)) (posted place row.sends)
      ∙ ap (λ (ps : List Sent). sent ++ ps) (sym (posted-append place (outgoings_of acting.sent) row.sends))
      ∙ ap (λ (os : List LinkOutgoing). sent ++ posted place os) (sym out) in
      let ends : slice_set (slice_set all place acting.link.end) place row.after ≡ slice_set all place new.link.end =
      set-set all place acting.link.end row.after ∙ ap (λ (b : BotEnd). slice_set all place b.end) (sym link) in
      record {
        after = next.after;
        sound = subst (λ (ps : List Sent). IsMoment (slice_set all place new.link.end) ps next.after) all_out
            (subst (λ (es : List LinkEnd). IsMoment es ((sent ++ posted place (outgoings_of acting.sent)) ++ posted place row.sends) next.after) ends
            next.moment);
        grows = Grows-trans h goes.after next.after goes.grows next.grows;
        count = next.count ∙ goes.count;
        answers = λ hub. subst (AllOutgoing (IsKeptAnswer hub)) (sym out)
            (AllOutgoing-append (IsKeptAnswer hub) (outgoings_of acting.sent) row.sends (goes.answers hub) (answers hub));
        accepted = quiet place goes.after.hub.kept.accepted next.after.hub.kept.accepted next.moves ∙ goes.accepted;
        number = ap (λ (b : BotEnd). b.number) link ∙ goes.number;
        leaves = ap (λ (b : BotEnd). b.leaves) link ∙ goes.leaves;
      }

  -- a change is asked for
  ask_goes : (acting : Acting) (change : UserChange) (said : Result Meaning Meant) → (asked acting.link change).told ≡ said
      → ActsGo h all sent place old acting → ActsGo h all sent place old (asked_if said acting (asked acting.link change).after).after
  ask_goes acting change (Err why) e goes = goes
  ask_goes acting change (Ok note) e goes =
      let row = asked acting.link change in
      let is = ask_row acting.link.leaves acting.link.number acting.link.end change in
      one_goes acting (record acting { link = record acting.link { end = row.after } }) goes row []
      (did_row goes.after _ _ place acting.link (amid acting goes) (Ask change) Works) is.quiet
      (λ hub. subst (AllOutgoing (IsKeptAnswer hub)) (sym is.sends) tt) (sym is.sends) refl (sym (append-nil acting.sent))

  -- a text is sent
  send_goes : (acting : Acting) (to : ℕ) (text : List ℕ) (said : Result Meaning Meant) → (told acting.link to text).told ≡ said
      → ActsGo h all sent place old acting
      → ActsGo h all sent place old (sent_if (text_sent said (told acting.link to text).sends (length acting.sent)) acting).after
  send_goes acting to text (Err why) e goes = goes
  send_goes acting to text (Ok note) e goes = by (nat_lt (length acting.sent) MAX_TEXTS)
    where
      row : Row LinkEnd
      row = told acting.link to text

      is : IsTextRow acting.link.end row
      is = text_row acting.link.leaves acting.link.number acting.link.end to text

      by : (b : Bool) → ActsGo h all sent place old
          (sent_if (let r : Result (List Outgoing) LinkFault = if b then Ok (map outgoing_told row.sends) else Err TextsFull in r) acting).after
      by false = goes
      by true = one_goes acting (record acting { sent = acting.sent ++ map outgoing_told row.sends }) goes row (map outgoing_told row.sends)
          (did_row goes.after _ _ place acting.link (amid acting goes) (Tell to text) Works) is.quiet
          is.sends (outgoings_are row.sends)
          (ap (λ (e : LinkEnd). record acting.link { end = e }) (sym is.after)) refl

  timer_goes : (acting : Acting) (timer : Timer) (fault : Option ClockFault) → ActsGo h all sent place old acting
      → ActsGo h all sent place old (made_unless fault acting timer).after
  timer_goes acting timer None goes = same_go acting (made_unless None acting timer).after refl refl goes
  timer_goes acting timer (Some fault) goes = goes

  kill_goes : (acting : Acting) (name : TimerName) (held : Bool) → ActsGo h all sent place old acting
      → ActsGo h all sent place old (killed_if held acting name).after
  kill_goes acting name true goes = same_go acting (killed_if true acting name).after refl refl goes
  kill_goes acting name false goes = goes

  put_goes : (acting : Acting) (wish : PutWish) (fault : Option QueueFault) → ActsGo h all sent place old acting
      → ActsGo h all sent place old (put_unless fault acting wish).after
  put_goes acting wish None goes = same_go acting (put_unless None acting wish).after refl refl goes
  put_goes acting wish (Some fault) goes = goes

  act_goes : (acting : Acting) (action : Action) → ActsGo h all sent place old acting → ActsGo h all sent place old (acted acting action).after
  act_goes acting (ask_wished change) goes = ask_goes acting change (asked acting.link change).told refl goes
  act_goes acting (timer_wished wish) goes =
      timer_goes acting (timer_of acting Minutes wish) (add_fault acting.timers wish.interval acting.last) goes
  act_goes acting (Utimer wish) goes = timer_goes acting (timer_of acting Seconds wish) (add_fault acting.timers wish.interval acting.last) goes
  act_goes acting (KillTimer name) goes = kill_goes acting name (holds_named acting.timers name.proc name.text) goes
  act_goes acting (SendBot wish) goes = send_goes acting wish.to wish.text (told acting.link wish.to wish.text).told refl goes
  act_goes acting (Put wish) goes = put_goes acting wish (put_fault acting wish) goes

  pub acts_go : (acting : Acting) (actions : List Action) → ActsGo h all sent place old acting
      → ActsGo h all sent place old (acted_all acting actions)
  acts_go acting [] goes = goes
  acts_go acting (a ∷ actions) goes = acts_go (acted acting a).after actions (act_goes acting a goes)
