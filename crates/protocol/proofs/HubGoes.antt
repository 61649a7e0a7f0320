-- Each row of the hub keeps what holds.
use Rattle.std.proofs.Common.{◌≡◌, inl, inr, ℕ, zero, suc, ◌+◌, ◌-◌, ◌<◌, ◌≤◌, ◌==◌, nat_lt, Bool, true, false, ◌||◌, if◌then◌else◌, List, [], ◌∷◌, ◌++◌, length, take, drop, slice_get, Option, None, Some, Result, Ok, Err, refl, ap, sym, subst, ◌∙◌, arith, length-drop, ltb-false, eq-eqb, drop-drop}
use Rattle.std.proofs.lemmas.List.{drop-append-le, drop_all}
use Rattle.userfile.specs.Records.{Records}
use Rattle.userfile.specs.Apply.{bad_shape, refusal, changed}
use Rattle.userfile.specs.declared.change.Change.{Change as UserChange}
use Rattle.userfile.specs.declared.error.ChangeFault.{ChangeFault}
use Rattle.botjournal.specs.declared.TheConstants.{LAYOUT}
use Rattle.botjournal.specs.declared.reply.Reply.{Reply}
use Rattle.botjournal.specs.declared.reply.Verdict.{Verdict}
use Rattle.botjournal.specs.declared.reply.Verdict.TheVariants.{Taken, Refused as refused_request}
use Rattle.protocol.specs.Numbers.{last_number, item_at, Place, Below, Same, Next, Above, place_of}
use Rattle.protocol.specs.Packets.{Packet, Outgoing, AcceptedChange, own, change_packet, answer_packet, to_each}
use Rattle.protocol.specs.Packets.Packet.{Hello, Change, Request, Accepted as accepted_packet, Refused as refused_packet, BotText, Part}
use Rattle.protocol.specs.Notes.{Note, LinkFault}
use Rattle.protocol.specs.Notes.Note.{Queued, Idle, Accepted, Refused, Old, Repeat, Gap, Compacted, Relayed, Text, Stray}
use Rattle.protocol.specs.Notes.LinkFault.{BadChange, AsksFull, NumbersSpent, BadBotText, OtherLayout}
use Rattle.protocol.specs.Bots.{How, Row, noted, refused, unless_down, journals}
use Rattle.protocol.specs.Snapshots.{part_count, part_of}
use Rattle.protocol.specs.HubRules.{HubState, HubRecord, Accept, Settle, Rebase, Hub, version_of, last_request, kept_in, with_next, with_reply, reply_to, hub_folded, changes_from, parts_from, is_no_leaf, ask_taken, hub_asked, is_bad_text, text_told, accepts, ask_served, hub_pumped_up, hub_pumped, next_request, repeats, request_placed, request_of, hello_served, hello_met, text_passed, hub_received_up, hub_received, hub_compacted, hub_restarted}
use Rattle.protocol.specs.History.{PastHub, HubPast, records_of, with_answer, hub_grown, HubGrows}
use Rattle.protocol.specs.Truth.{IsTrue, IsRecentAnswer, HubSays, AllOutgoing}
use Rattle.protocol.specs.Soundness.{HubHolds, HubFits, HubSound}
use Rattle.protocol.specs.Standing.{HubStands, BotStands, KeepsLast}
use Rattle.protocol.specs.Claims.{IsFine}
use Rattle.protocol.proofs.Lists.{item_at-end, item_at-take, item_at-drop, Extends-one, length-one, set-elim, set_at-same, records_of-one, place_tells}
use Rattle.protocol.proofs.Truth.{AllOutgoing-append, AllOutgoing-to_each, AllOutgoing-numbered}
use Rattle.protocol.proofs.Counted.{hub_grows, hub_holds_grown}
use Rattle.protocol.proofs.Growing.{HubGrows-refl}
use Rattle.protocol.proofs.Replies.{keeps_next, kept_is_answer}
use Rattle.protocol.proofs.Goes.{Goes, Laws, stays, loosens, written, restarts, ups}

-- ---- standing under a record counted

pub version_stands : (asked : ℕ → List UserChange) (w : HubState) (h : PastHub) → HubStands w h → HubHolds asked h
    → version_of w ≡ length h.accepted
version_stands asked w h st holds = omega (arith, st.floor, ap length st.tail, length-drop h.floor h.accepted, holds.floor)

-- one more reply is the last one
replies_stand : (replies : List (List Reply)) (answers : ℕ → List Verdict) (origin : ℕ) (x y : Verdict) → x ≡ y
    → ((place : ℕ) (kept : List Reply) → slice_get replies place ≡ Some kept → KeepsLast kept (answers (suc place)))
    → (place : ℕ) (kept : List Reply) → slice_get (with_reply replies origin x) place ≡ Some kept
    → KeepsLast kept (with_answer answers origin y (suc place))
replies_stand replies answers zero x y is st = st
replies_stand replies answers (suc k) x y is st =
    set-elim (λ j (kept : List Reply) (ys : List Verdict). KeepsLast kept ys) replies answers k _ _
    (λ kept e.
    subst (λ (o : Option (List Reply)). KeepsLast (with_next (suc k) x (kept_in o)) (answers (suc k) ++ y ∷ [])) (sym e)
    (keeps_next (suc k) kept (answers (suc k)) x y is (st k kept e))) st

hub_stands_folded : (asked : ℕ → List UserChange) (w : HubState) (h : PastHub) (rec : HubRecord) → HubStands w h
    → HubHolds asked h → HubStands (hub_folded w rec) (hub_grown h rec)
hub_stands_folded asked w h (Accept e) st holds =
    let more = Extends-one h.accepted e in
    record {
      floor = st.floor;
      tail = ap (λ l. l ++ e ∷ []) st.tail ∙ sym (drop-append-le h.floor h.accepted (e ∷ []) holds.floor);
      records = ap (λ r. changed r e.change) st.records ∙ sym (records_of-one h.accepted e);
      replies = replies_stand w.replies h.answers e.origin _ _ (ap (λ n. Taken (n + 1)) (version_stands asked w h st holds)) st.replies;
    }
hub_stands_folded asked w h (Settle i fault) st holds = record {
  floor = st.floor;
  tail = st.tail;
  records = st.records;
  replies = replies_stand w.replies h.answers i _ _ refl st.replies;
}
hub_stands_folded asked w h Rebase st holds = record {
  floor = version_stands asked w h st holds;
  tail = sym (drop_all (length h.accepted) h.accepted (omega arith));
  records = st.records;
  replies = st.replies;
}

hub_laws : (asked : ℕ → List UserChange) → Laws hub_folded hub_grown HubStands (HubHolds asked) (HubFits asked) HubGrows
hub_laws asked = record {
  same = HubGrows-refl;
  stands = λ w h rec st holds fits. hub_stands_folded asked w h rec st holds;
  holds = λ h rec holds fits. hub_holds_grown h asked rec holds fits;
  grows = λ h rec holds fits. hub_grows h asked rec holds;
}

-- ---- rows

abbrev pub HubGoes : (ℕ → List UserChange) → HubPast → Row Hub → Type 0
HubGoes asked h row = Goes HubStands (HubSound asked) HubGrows HubSays h row

-- the answer that a record adds is the last one
answer_said : (answers : ℕ → List Verdict) (k r : ℕ) (x : Verdict) → r ≡ length (answers (suc k)) + 1
    → (length (with_answer answers (suc k) x (suc k)) < r + 8) × (item_at (with_answer answers (suc k) x (suc k)) r ≡ Some x)
answer_said answers k r x is =
    let there = set_at-same answers (suc k) (answers (suc k) ++ x ∷ []) in
    let last = item_at-end (answers (suc k)) x in
    (omega (arith, is, length-one (answers (suc k)) x, ap length there), rw (there, is) last)

-- the packet of an answer says so
packet_said : (h : PastHub) (leaf r : ℕ) (x : Verdict) → IsRecentAnswer h leaf r x → HubSays h (answer_packet leaf r x)
packet_said h leaf r (Taken n) t = t
packet_said h leaf r (refused_request fault) t = t

module _ (asked : ℕ → List UserChange) (w : Hub) (h : HubPast) (st : BotStands HubStands w h) (sound : HubSound asked h) (leaves : ℕ)
    (how : How) where
  hub_stays : (told : Result Note LinkFault) (sends : List Outgoing) → IsFine told → AllOutgoing (HubSays h.kept) sends
      → HubGoes asked h (record { told = told; sends = sends; after = w })
  hub_stays = stays hub_folded hub_grown HubStands (HubHolds asked) _ (HubFits asked) HubGrows HubSays (hub_laws asked) w h st sound

  hub_loosens : (told : Result Note LinkFault) (waiting : List UserChange) → IsFine told
      → HubGoes asked h (record { told = told; sends = []; after = record w { loose = waiting } })
  hub_loosens told waiting fine =
      loosens hub_folded hub_grown HubStands (HubHolds asked) _ (HubFits asked) HubGrows HubSays (hub_laws asked) w h st sound told waiting
      fine tt

  hub_writes : (entry : HubRecord) (note : Note) (sends : List Outgoing) (waiting : List UserChange) → h.down ≡ false
      → HubFits asked h.kept entry → AllOutgoing (HubSays (hub_grown h.kept entry)) sends
      → HubGoes asked h (journals hub_folded how w entry note sends waiting)
  hub_writes entry note sends waiting up fits said =
      written hub_folded hub_grown HubStands (HubHolds asked) _ (HubFits asked) HubGrows HubSays (hub_laws asked) w h st sound how entry
      note sends waiting up fits tt said

  hub_ups : (row : Row Hub) → (h.down ≡ false → HubGoes asked h row) → HubGoes asked h (unless_down w row)
  hub_ups = ups hub_folded hub_grown HubStands (HubHolds asked) _ (HubFits asked) HubGrows HubSays (hub_laws asked) w h st sound

  version : version_of w.kept ≡ length h.kept.accepted
  version = version_stands asked w.kept h.kept st.kept sound.kept

  hub_accepts : (e : AcceptedChange) (first : List Outgoing) (waiting : List UserChange) → h.down ≡ false
      → HubFits asked h.kept (Accept e)
      → AllOutgoing (HubSays (hub_grown h.kept (Accept e))) first → HubGoes asked h (accepts leaves how w e first waiting)
  hub_accepts e first waiting up fits said = by (nat_lt (version_of w.kept) last_number)
    where
      says : Packet → Type 0
      says = HubSays (hub_grown h.kept (Accept e))

      by : (b : Bool) → HubGoes asked h (
          if b then journals hub_folded how w (Accept e) (Accepted (version_of w.kept + 1))
          (first ++ to_each 1 leaves (change_packet (version_of w.kept + 1) e)) waiting
          else refused NumbersSpent w)
      by true = hub_writes (Accept e) _ _ waiting up fits
          (AllOutgoing-append says first _ said (AllOutgoing-to_each says 1 leaves _ (rw version (item_at-end h.kept.accepted e))))
      by false = hub_stays (Err NumbersSpent) [] tt tt

  -- ---- ask, tell, pump, compact and restart

  pub hub_asks : (c : UserChange) → HubGoes asked h (hub_asked w c)
  hub_asks c = hub_ups _ (λ up. by (bad_shape c))
    where
      room : (b : Bool)
          → HubGoes asked h (if b then noted Queued (record w { loose = w.loose ++ c ∷ [] }) else refused AsksFull w)
      room true = hub_loosens (Ok Queued) (w.loose ++ c ∷ []) tt
      room false = hub_stays (Err AsksFull) [] tt tt

      by : (f : Option ChangeFault) → HubGoes asked h (ask_taken w (record w { loose = w.loose ++ c ∷ [] }) (length w.loose) f)
      by (Some fault) = hub_stays (Err (BadChange fault)) [] tt tt
      by None = room (nat_lt (length w.loose) 64)

  pub hub_tells : (to : ℕ) (text : List ℕ) → HubGoes asked h (unless_down w (text_told w leaves 0 to to text))
  hub_tells to text = hub_ups _ (λ up. by (is_bad_text leaves 0 to text))
    where
      by : (b : Bool) → HubGoes asked h (
          if b then refused BadBotText w
          else record { told = Ok Relayed; sends = record { to = to; packet = BotText 0 to text } ∷ []; after = w })
      by true = hub_stays (Err BadBotText) [] tt tt
      by false = hub_stays (Ok Relayed) _ tt (tt, tt)

  takes : (c : UserChange) → refusal w.kept.records c ≡ None
      → refusal (records_of h.kept.accepted (length h.kept.accepted)) c ≡ None
  takes c e = ap (λ (r : Records). refusal r c) (sym st.kept.records) ∙ e

  pub hub_pumps : HubGoes asked h (hub_pumped leaves how w)
  hub_pumps = hub_ups _ (λ up. at up w.loose)
    where
      serve : h.down ≡ false → (c : UserChange) (rest : List UserChange) (f : Option ChangeFault) → refusal w.kept.records c ≡ f
          → HubGoes asked h (ask_served leaves how w c rest f)
      serve up c rest (Some fault) e = hub_loosens (Ok (Refused fault)) rest tt
      serve up c rest None e = hub_accepts (own c) [] rest up (takes c e, inl refl) tt

      at : h.down ≡ false → (waiting : List UserChange) → HubGoes asked h (hub_pumped_up leaves how w waiting)
      at up [] = hub_stays (Ok Idle) [] tt tt
      at up (c ∷ rest) = serve up c rest (refusal w.kept.records c) refl

  pub hub_compacts : HubGoes asked h (hub_compacted leaves how w)
  hub_compacts = hub_ups _ (λ up. by up (nat_lt w.kept.generation last_number))
    where
      by : h.down ≡ false → (b : Bool)
          → HubGoes asked h (if b then journals hub_folded how w Rebase Compacted [] w.loose else refused NumbersSpent w)
      by up true = hub_writes Rebase _ [] w.loose up tt tt
      by up false = hub_stays (Err NumbersSpent) [] tt tt

  pub hub_restarts : HubGoes asked h (hub_restarted leaves how w)
  hub_restarts =
      restarts hub_folded hub_grown HubStands (HubHolds asked) _ (HubFits asked) HubGrows HubSays (hub_laws asked) w h st sound version_of
      [] tt how

  -- ---- what is received

  parts_said : (i first n : ℕ) → AllOutgoing (HubSays h.kept) (parts_from w.kept i first n)
  parts_said i first zero = tt
  parts_said i first (suc n) =
      let same : w.kept.records ≡ records_of h.kept.accepted (version_of w.kept) =
      st.kept.records ∙ ap (records_of h.kept.accepted) (sym version) in
      (record { reached = omega (arith, version); many = ap part_count same; these = ap (λ (r : Records). part_of r first) same }, parts_said i (first + 1) n)

  changes_said : (i v : ℕ) → w.kept.floor ≤ v → AllOutgoing (HubSays h.kept) (changes_from w.kept i v)
  changes_said i v above = AllOutgoing-numbered h.kept i v _ there
    where
      there : (n : ℕ) (e : AcceptedChange) → item_at (take 16 (drop (v - w.kept.floor) w.kept.tail)) n ≡ Some e
          → item_at h.kept.accepted (v + n) ≡ Some e
      there n e at =
          let count : h.kept.floor + (v - w.kept.floor) ≡ v = omega (arith, above, st.kept.floor) in
          let whole : drop (v - w.kept.floor) w.kept.tail ≡ drop v h.kept.accepted =
          ap (drop (v - w.kept.floor)) st.kept.tail ∙ drop-drop (v - w.kept.floor) h.kept.floor h.kept.accepted
          ∙ ap (λ m. drop m h.kept.accepted) count in
          item_at-drop h.kept.accepted v n e (rw whole at (item_at-take _ 16 n e at))

  hellos : (i v : ℕ) (b : Bool) → nat_lt v w.kept.floor ≡ b → HubGoes asked h (hello_served leaves how w i v b)
  hellos i v true e = hub_stays _ _ tt (parts_said i 1 (part_count w.kept.records))
  hellos i v false e = hub_stays _ _ tt (changes_said i v (ltb-false v w.kept.floor e))

  -- a reply that is kept is one of the last eight answers
  repeated : (k r : ℕ) (kept : List Reply) → KeepsLast kept (h.kept.answers (suc k)) → (o : Option Reply) → reply_to r kept ≡ o
      → HubGoes asked h (repeats leaves how w (suc k) r o)
  repeated k r kept keeps None e = hub_stays (Ok Old) [] tt tt
  repeated k r kept keeps (Some reply) e =
      hub_stays (Ok Repeat) _ tt
      (packet_said h.kept (suc k) r reply.answer (kept_is_answer kept (h.kept.answers (suc k)) r reply keeps e), tt)

  requests : h.down ≡ false → (k r : ℕ) (c : UserChange) → item_at (asked (suc k)) r ≡ Some c → (kept : List Reply)
      → KeepsLast kept (h.kept.answers (suc k)) → (p : Place) → place_of r (last_request kept) ≡ p
      → HubGoes asked h (request_placed leaves how w (suc k) r c kept p)
  requests up k r c asks kept keeps Below e = repeated k r kept keeps (reply_to r kept) refl
  requests up k r c asks kept keeps Same e = repeated k r kept keeps (reply_to r kept) refl
  requests up k r c asks kept keeps Next e = by (refusal w.kept.records c) refl
    where
      number : r ≡ length (h.kept.answers (suc k)) + 1
      number = place_tells r _ Next e ∙ ap (λ n. n + 1) keeps.last

      by : (f : Option ChangeFault) → refusal w.kept.records c ≡ f → HubGoes asked h (next_request leaves how w (suc k) r c f)
      by (Some fault) is = hub_writes (Settle (suc k) fault) _ _ w.loose up tt (answer_said h.kept.answers k r _ number, tt)
      by None is =
          let said = answer_said h.kept.answers k r (Taken (length h.kept.accepted + 1)) number in
          hub_accepts (record { origin = suc k; request = r; change = c })
          (record { to = suc k; packet = accepted_packet (suc k) r (version_of w.kept + 1) } ∷ []) w.loose up
          (takes c is, inr (number, asks)) (rw version (said, tt))
  requests up k r c asks kept keeps Above e = hub_stays (Ok Gap) [] tt tt

  pub hub_receives : (p : Packet) → IsTrue h.kept asked p → HubGoes asked h (hub_received leaves how w p)
  hub_receives p t = hub_ups _ (λ up. at up p t)
    where
      hello : (i v : ℕ) (b : Bool)
          → HubGoes asked h (if b then noted Stray w else hello_served leaves how w i v (nat_lt v w.kept.floor))
      hello i v true = hub_stays (Ok Stray) [] tt tt
      hello i v false = hellos i v (nat_lt v w.kept.floor) refl

      -- a true hello has the layout of the hub
      met : (layout i v : ℕ) → layout ≡ LAYOUT
          → HubGoes asked h (if layout == LAYOUT then hello_met leaves how w i v else refused OtherLayout w)
      met layout i v same =
          subst (λ (b : Bool). HubGoes asked h (if b then hello_met leaves how w i v else refused OtherLayout w)) (sym (eq-eqb layout LAYOUT same))
          (hello i v (is_no_leaf leaves i || nat_lt (version_of w.kept) v))

      request_to : h.down ≡ false → (k r : ℕ) (c : UserChange) → item_at (asked (suc k)) r ≡ Some c → (o : Option (List Reply))
          → slice_get w.kept.replies k ≡ o
          → HubGoes asked h (request_of leaves how w (suc k) r c o)
      request_to up k r c asks None e = hub_stays (Ok Stray) [] tt tt
      request_to up k r c asks (Some kept) e = requests up k r c asks kept (st.kept.replies k kept e) _ refl

      request : h.down ≡ false → (i r : ℕ) (c : UserChange) → item_at (asked i) r ≡ Some c → (b : Bool)
          → HubGoes asked h (if b then noted Stray w else request_of leaves how w i r c (item_at w.kept.replies i))
      request up i r c asks true = hub_stays (Ok Stray) [] tt tt
      request up zero r c asks false = hub_stays (Ok Stray) [] tt tt
      request up (suc k) r c asks false = request_to up k r c asks _ refl

      passes : (from to : ℕ) (text : List ℕ) → HubGoes asked h (text_passed leaves how w from to text)
      passes from zero text = hub_stays (Ok (Text from text)) [] tt tt
      passes from (suc to) text = hub_stays (Ok Relayed) _ tt (tt, tt)

      texts : (from to : ℕ) (text : List ℕ) (b : Bool)
          → HubGoes asked h (if b then noted Stray w else text_passed leaves how w from to text)
      texts from to text true = hub_stays (Ok Stray) [] tt tt
      texts from to text false = passes from to text

      at : h.down ≡ false → (p : Packet) → IsTrue h.kept asked p → HubGoes asked h (hub_received_up leaves how w p)
      at up (Hello layout i v) t = met layout i v t
      at up (Request i r c) t = request up i r c t (r == 0)
      at up (BotText from to text) t = texts from to text (nat_lt leaves from || nat_lt leaves to)
      at up (Change n o r c) t = hub_stays (Ok Stray) [] tt tt
      at up (accepted_packet i r n) t = hub_stays (Ok Stray) [] tt tt
      at up (refused_packet i r fault) t = hub_stays (Ok Stray) [] tt tt
      at up (Part v i k items) t = hub_stays (Ok Stray) [] tt tt
