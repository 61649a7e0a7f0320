-- Each row of a leaf keeps what holds.
use Rattle.std.proofs.Common.{◌≡◌, ℕ, suc, ◌+◌, ◌<◌, ◌≤◌, ◌==◌, nat_lt, nat_le, Bool, true, false, not, ◌||◌, if◌then◌else◌, List, [], ◌∷◌, ◌++◌, length, Option, None, Some, Result, Ok, Err, refl, ap, sym, subst, ◌∙◌, arith}
use Rattle.std.proofs.lemmas.Bool.{eqb-true, leb-false}
use Rattle.userfile.specs.Records.{Records}
use Rattle.userfile.specs.Apply.{bad_shape, refusal, changed}
use Rattle.userfile.specs.Together.{AreSound, records_fault}
use Rattle.userfile.specs.declared.change.Change.{Change as UserChange}
use Rattle.userfile.specs.declared.error.ChangeFault.{ChangeFault}
use Rattle.usercodec.specs.declared.records.Record.{Record}
use Rattle.botjournal.specs.declared.request.Request.{Request as OutRequest}
use Rattle.botjournal.specs.declared.reply.Verdict.{Verdict}
use Rattle.botjournal.specs.declared.reply.Verdict.TheVariants.{Taken, Refused as refused_request}
use Rattle.protocol.specs.Numbers.{last_number, item_at, Place, Below, Same, Next, Above, place_of}
use Rattle.protocol.specs.Packets.{Packet, Outgoing, AcceptedChange}
use Rattle.protocol.specs.Packets.Packet.{Hello, Change, Request, Accepted as accepted_packet, Refused as refused_packet, BotText, Part}
use Rattle.protocol.specs.Notes.{Note, LinkFault}
use Rattle.protocol.specs.Notes.Note.{Queued, Sent, Old, Early, Kept, Installed, Compacted, Relayed, Text, Stray}
use Rattle.protocol.specs.Notes.LinkFault.{BadChange, AsksFull, NumbersSpent, BadBotText}
use Rattle.protocol.specs.Bots.{How, Row, noted, refused, unless_down, journals}
use Rattle.protocol.specs.Snapshots.{PartSet, records_from, joined, set_for, with_part, is_behind}
use Rattle.protocol.specs.HubRules.{ask_taken, is_bad_text, text_told}
use Rattle.protocol.specs.LeafRules.{LeafState, LeafRecord, Apply, Out, Done, Install, Compact, LeafLoose, no_loose, Leaf, is_out, without, may_go_out, with_request, leaf_folded, leaf_asked, hello, asking, sent_again, held_back, leaf_pumped_up, leaf_pumped, next_applied, change_placed, reply_taken, reply_received, installed, set_taken, part_taken, leaf_received_up, leaf_received, leaf_compacted, leaf_restarted}
use Rattle.protocol.specs.History.{PastHub, PastLeaf, LeafPast, records_of, leaf_grown, LeafGrows}
use Rattle.protocol.specs.Truth.{IsPart, IsTrue, LeafSays, AllOutgoing}
use Rattle.protocol.specs.Soundness.{HubHolds, AreAsked, LeafHolds, LeafFits, IsTrueSet, KeepsTrueParts, LeafSound}
use Rattle.protocol.specs.Standing.{LeafStands, BotStands}
use Rattle.protocol.specs.Claims.{IsFine}
use Rattle.protocol.proofs.Lists.{item_at-within, length-one, records_of-next, place_tells, or_left}
use Rattle.protocol.proofs.Snapshots.{whole_is, with_part_true, set_for-version}
use Rattle.protocol.proofs.Counted.{leaf_grows, leaf_holds_grown}
use Rattle.protocol.proofs.Growing.{LeafGrows-refl}
use Rattle.protocol.proofs.Goes.{Goes, Laws, stays, loosens, written, restarts, ups}

-- ---- standing under a record that is kept

leaf_stands_folded : (g : PastHub) (i : ℕ) (w : LeafState) (l : PastLeaf) (rec : LeafRecord) → LeafStands g.accepted w l
    → LeafFits g i l rec → LeafStands g.accepted (leaf_folded w rec) (leaf_grown l rec)
leaf_stands_folded g i w l (Apply c) st fits = record {
  version = ap (λ v. v + 1) st.version;
  records =
      ap (λ (r : Records). changed r c) st.records ∙ ap (changed (records_of g.accepted l.version)) (sym fits.2)
      ∙ sym (records_of-next g.accepted l.version fits.0 fits.1);
  last = st.last;
  out = st.out;
}
leaf_stands_folded g i w l (Out c) st fits =
    record { version = st.version; records = st.records; last = ap (λ n. n + 1) st.last ∙ sym (length-one l.asked c); out = rw (st.out, st.last) refl }
leaf_stands_folded g i w l (Done r) st fits = record { version = st.version; records = st.records; last = st.last; out = ap (without r) st.out }
leaf_stands_folded g i w l (Install s records) st fits = record { version = refl; records = fits.2; last = st.last; out = st.out }
leaf_stands_folded g i w l Compact st fits = record { version = st.version; records = st.records; last = st.last; out = st.out }

leaf_laws : (g : PastHub) (i : ℕ) → Laws leaf_folded leaf_grown (LeafStands g.accepted) (LeafHolds g i) (LeafFits g i) LeafGrows
leaf_laws g i = record {
  same = LeafGrows-refl;
  stands = λ w l rec st holds fits. leaf_stands_folded g i w l rec st fits;
  holds = λ l rec holds fits. leaf_holds_grown g i l rec holds fits;
  grows = λ l rec holds fits. leaf_grows g i l rec fits;
}

-- ---- rows

abbrev pub LeafGoes : PastHub → ℕ → LeafPast → Row Leaf → Type 0
LeafGoes g i l row = Goes (LeafStands g.accepted) (LeafSound g i) LeafGrows (LeafSays i) l row

module _ (g : PastHub) (asked : ℕ → List UserChange) (hub : HubHolds asked g) (leaves i : ℕ) (w : Leaf) (l : LeafPast)
    (st : BotStands (LeafStands g.accepted) w l) (sound : LeafSound g i l) (how : How) where
  leaf_stays : (told : Result Note LinkFault) (sends : List Outgoing) → IsFine told → AllOutgoing (LeafSays i l.kept) sends
      → LeafGoes g i l (record { told = told; sends = sends; after = w })
  leaf_stays =
      stays leaf_folded leaf_grown (LeafStands g.accepted) (LeafHolds g i) (KeepsTrueParts g) (LeafFits g i) LeafGrows (LeafSays i)
      (leaf_laws g i) w l st sound

  leaf_loosens : (told : Result Note LinkFault) (loose : LeafLoose) → IsFine told → KeepsTrueParts g loose
      → LeafGoes g i l (record { told = told; sends = []; after = record w { loose = loose } })
  leaf_loosens =
      loosens leaf_folded leaf_grown (LeafStands g.accepted) (LeafHolds g i) (KeepsTrueParts g) (LeafFits g i) LeafGrows (LeafSays i)
      (leaf_laws g i) w l st sound

  leaf_writes : (rec : LeafRecord) (note : Note) (sends : List Outgoing) (loose : LeafLoose) → l.down ≡ false
      → LeafFits g i l.kept rec → KeepsTrueParts g loose → AllOutgoing (LeafSays i (leaf_grown l.kept rec)) sends
      → LeafGoes g i l (journals leaf_folded how w rec note sends loose)
  leaf_writes =
      written leaf_folded leaf_grown (LeafStands g.accepted) (LeafHolds g i) (KeepsTrueParts g) (LeafFits g i) LeafGrows (LeafSays i)
      (leaf_laws g i) w l st sound how

  leaf_ups : (row : Row Leaf) → (l.down ≡ false → LeafGoes g i l row) → LeafGoes g i l (unless_down w row)
  leaf_ups =
      ups leaf_folded leaf_grown (LeafStands g.accepted) (LeafHolds g i) (KeepsTrueParts g) (LeafFits g i) LeafGrows (LeafSays i)
      (leaf_laws g i) w l st sound

  -- the kept parts, as the link has them
  true_parts : KeepsTrueParts g w.loose
  true_parts = subst (KeepsTrueParts g) (sym st.loose) sound.loose

  -- ---- ask, tell, pump, compact and restart

  pub leaf_asks : (c : UserChange) → LeafGoes g i l (leaf_asked w c)
  leaf_asks c = leaf_ups _ (λ up. by (bad_shape c))
    where
      with_it : Leaf
      with_it = record w { loose = record w.loose { waiting = w.loose.waiting ++ c ∷ [] } }

      room : (b : Bool) → LeafGoes g i l (if b then noted Queued with_it else refused AsksFull w)
      room true = leaf_loosens (Ok Queued) (record w.loose { waiting = w.loose.waiting ++ c ∷ [] }) tt true_parts
      room false = leaf_stays (Err AsksFull) [] tt tt

      by : (f : Option ChangeFault) → LeafGoes g i l (ask_taken w with_it (length w.loose.waiting) f)
      by (Some fault) = leaf_stays (Err (BadChange fault)) [] tt tt
      by None = room (nat_lt (length w.loose.waiting) 64)

  pub leaf_tells : (to : ℕ) (text : List ℕ) → LeafGoes g i l (unless_down w (text_told w leaves i 0 to text))
  leaf_tells to text = leaf_ups _ (λ up. by (is_bad_text leaves i to text))
    where
      by : (b : Bool) → LeafGoes g i l (
          if b then refused BadBotText w
          else record { told = Ok Relayed; sends = record { to = 0; packet = BotText i to text } ∷ []; after = w })
      by true = leaf_stays (Err BadBotText) [] tt tt
      by false = leaf_stays (Ok Relayed) _ tt (tt, tt)

  -- each request is said to ask what it does
  asking_said : (k : PastLeaf) (out : List OutRequest) → AreAsked k.asked out → AllOutgoing (LeafSays i k) (asking leaves i how w out)
  asking_said k [] t = tt
  asking_said k (one ∷ out) t = ((refl, t.0), asking_said k out t.1)

  again : (out : List OutRequest) → AreAsked l.kept.asked out → LeafGoes g i l (sent_again leaves i how w out)
  again [] t = leaf_stays _ _ tt ((refl, (refl, st.kept.version)), tt)
  again (one ∷ out) t = leaf_stays _ _ tt ((refl, (refl, st.kept.version)), asking_said l.kept (one ∷ out) t)

  held : (out : List OutRequest) → AreAsked l.kept.asked out → LeafGoes g i l (held_back leaves i how w out)
  held [] t = leaf_stays (Err NumbersSpent) [] tt tt
  held (one ∷ out) t = again (one ∷ out) t

  -- the next request is out in history too
  next_asked : (c : UserChange) (out : List OutRequest) → out ≡ l.kept.out
      → AreAsked (l.kept.asked ++ c ∷ []) (with_request (w.kept.last + 1) c out)
  next_asked c out is =
      let same : with_request (w.kept.last + 1) c out ≡ (leaf_grown l.kept (Out c)).out = rw (is, st.kept.last) refl in
      subst (AreAsked (l.kept.asked ++ c ∷ [])) (sym same) (leaf_holds_grown g i l.kept (Out c) sound.kept tt).asked

  pub leaf_pumps : LeafGoes g i l (leaf_pumped leaves i how w)
  leaf_pumps =
      leaf_ups _ (λ up. at up w.kept.out st.kept.out (subst (AreAsked l.kept.asked) (sym st.kept.out) sound.kept.asked) w.loose.waiting)
    where
      at : l.down ≡ false → (out : List OutRequest) → out ≡ l.kept.out → AreAsked l.kept.asked out → (waiting : List UserChange)
          → LeafGoes g i l (leaf_pumped_up leaves i how w out waiting)
      at up out e t [] = again out t
      at up out e t (c ∷ rest) = by (may_go_out w.kept.last out)
        where
          by : (b : Bool) → LeafGoes g i l (
              if b then journals leaf_folded how w (Out c) (Sent (w.kept.last + 1))
              (hello leaves i how w ∷ asking leaves i how w (with_request (w.kept.last + 1) c out)) (record w.loose { waiting = rest })
              else held_back leaves i how w out)
          by true =
              leaf_writes (Out c) _ _ _ up tt true_parts
              ((refl, (refl, st.kept.version)), asking_said (leaf_grown l.kept (Out c)) (with_request (w.kept.last + 1) c out) (next_asked c out e))
          by false = held out t

  pub leaf_compacts : LeafGoes g i l (leaf_compacted leaves i how w)
  leaf_compacts = leaf_ups _ (λ up. by up (nat_lt w.kept.generation last_number))
    where
      by : l.down ≡ false → (b : Bool)
          → LeafGoes g i l (if b then journals leaf_folded how w Compact Compacted [] w.loose else refused NumbersSpent w)
      by up true = leaf_writes Compact _ [] w.loose up tt true_parts tt
      by up false = leaf_stays (Err NumbersSpent) [] tt tt

  pub leaf_restarts : LeafGoes g i l (leaf_restarted leaves i how w)
  leaf_restarts =
      restarts leaf_folded leaf_grown (LeafStands g.accepted) (LeafHolds g i) (KeepsTrueParts g) (LeafFits g i) LeafGrows (LeafSays i)
      (leaf_laws g i) w l st sound
      (λ (x : LeafState). x.version) no_loose (λ set e. cc) how

  -- ---- what is received

  changes : l.down ≡ false → (n : ℕ) (e : AcceptedChange) → item_at g.accepted n ≡ Some e → (p : Place)
      → place_of n w.kept.version ≡ p
      → LeafGoes g i l (change_placed leaves i how w e.change p)
  changes up n e at Below is = leaf_stays (Ok Old) [] tt tt
  changes up n e at Same is = leaf_stays (Ok Old) [] tt tt
  changes up n e at Above is = leaf_stays (Ok Early) [] tt tt
  changes up n e at Next is = by (refusal w.kept.records e.change) refl
    where
      number : n ≡ suc l.kept.version
      number = omega (arith, place_tells n _ Next is, st.kept.version)

      there : item_at g.accepted (suc l.kept.version) ≡ Some e
      there = subst (λ m. item_at g.accepted m ≡ Some e) number at

      by : (f : Option ChangeFault) → refusal w.kept.records e.change ≡ f
          → LeafGoes g i l (next_applied leaves i how w e.change f)
      by (Some fault) r =
          let none = sym (hub.taken l.kept.version e there) ∙ ap (λ (x : Records). refusal x e.change) (sym st.kept.records) ∙ r in cc
      by None r = leaf_writes (Apply e.change) _ [] w.loose up (e, there, refl) true_parts tt

  answered : l.down ≡ false → (r : ℕ) (answer : Verdict) → item_at (g.answers i) r ≡ Some answer → (b : Bool)
      → LeafGoes g i l (reply_taken leaves i how w r answer b)
  answered up r answer at false = leaf_stays (Ok Old) [] tt tt
  answered up r answer at true = leaf_writes (Done r) _ [] w.loose up (item_at-within (g.answers i) r answer at) true_parts tt

  -- an answer to this leaf, or to another
  replied : l.down ≡ false → (leaf r : ℕ) (answer : Verdict) → item_at (g.answers leaf) r ≡ Some answer
      → LeafGoes g i l (reply_received leaves i how w leaf r answer)
  replied up leaf r answer at = by (leaf == i) refl (r == 0)
    where
      by : (mine : Bool) → (leaf == i) ≡ mine → (none : Bool) → LeafGoes g i l (
          if not mine || none then noted Stray w else reply_taken leaves i how w r answer (is_out r w.kept.out))
      by false e none = leaf_stays (Ok Stray) [] tt tt
      by true e true = leaf_stays (Ok Stray) [] tt tt
      by true e false = answered up r answer (subst (λ k. item_at (g.answers k) r ≡ Some answer) (eqb-true leaf i e) at) _

  parts : l.down ≡ false → (j : ℕ) (set : PartSet) → IsTrueSet g.accepted set → l.kept.version ≤ set.version
      → LeafGoes g i l (part_taken leaves i how w j set)
  parts up j set t above = by (joined set.parts) refl
    where
      by : (o : Option (List Record)) → joined set.parts ≡ o → LeafGoes g i l (set_taken leaves i how w j set o)
      by None e =
          leaf_loosens (Ok (Kept j)) (record w.loose { parts = Some set }) tt
          (λ set' f. subst (IsTrueSet g.accepted) (let same : set ≡ set' = cc in same) t)
      by (Some items) e = install (records_fault (records_from items).users (records_from items).bans) refl
        where
          whole : records_from items ≡ records_of g.accepted set.version
          whole = whole_is g.accepted set items t e

          room : (b : Bool) → LeafGoes g i l (
              if b then journals leaf_folded how w (Install set.version (records_from items)) (Installed set.version) []
              (record w.loose { parts = None })
              else refused NumbersSpent w)
          room true = leaf_writes (Install set.version (records_from items)) _ [] _ up (above, t.reached, whole) (λ set' f. cc) tt
          room false = leaf_stays (Err NumbersSpent) [] tt tt

          install : (f : Option ChangeFault) → records_fault (records_from items).users (records_from items).bans ≡ f
              → LeafGoes g i l (installed leaves i how w set.version (records_from items) f)
          install (Some fault) r =
              let none : AreSound (records_from items) = subst AreSound (sym whole) (hub.whole set.version t.reached) in
              let bad = sym none.together ∙ r in cc
          install None r = room (nat_lt w.kept.generation last_number)

  pub leaf_receives : (p : Packet) → IsTrue g asked p → LeafGoes g i l (leaf_received leaves i how w p)
  leaf_receives p t = leaf_ups _ (λ up. at up p t)
    where
      fresh : l.down ≡ false → (s j k : ℕ) (items : List Record) → IsPart g.accepted s j k items → (b : Bool)
          → (nat_le s w.kept.version || is_behind s w.loose.parts) ≡ b
          → LeafGoes g i l (if b then noted Old w else part_taken leaves i how w j (with_part (set_for w.loose.parts s k) j items))
      fresh up s j k items t true e = leaf_stays (Ok Old) [] tt tt
      fresh up s j k items t false e =
          let above : w.kept.version < s = leb-false s w.kept.version (or_left _ _ e) in
          let is : (set_for w.loose.parts s k).version ≡ s = set_for-version w.loose.parts s k in
          parts up j _ (with_part_true g.accepted w.loose.parts s j k items true_parts t) (omega (arith, above, is, st.kept.version))

      part : l.down ≡ false → (s j k : ℕ) (items : List Record) → IsPart g.accepted s j k items → (b : Bool)
          → LeafGoes g i l (
          if b then noted Stray w
          else if nat_le s w.kept.version || is_behind s w.loose.parts then noted Old w
          else part_taken leaves i how w j (with_part (set_for w.loose.parts s k) j items))
      part up s j k items t true = leaf_stays (Ok Stray) [] tt tt
      part up s j k items t false = fresh up s j k items t _ refl

      texts : (from : ℕ) (text : List ℕ) (b : Bool) → LeafGoes g i l (if b then noted Stray w else noted (Text from text) w)
      texts from text true = leaf_stays (Ok Stray) [] tt tt
      texts from text false = leaf_stays (Ok (Text from text)) [] tt tt

      at : l.down ≡ false → (p : Packet) → IsTrue g asked p → LeafGoes g i l (leaf_received_up leaves i how w p)
      at up (Hello layout leaf v) t = leaf_stays (Ok Stray) [] tt tt
      at up (Request leaf r c) t = leaf_stays (Ok Stray) [] tt tt
      at up (Change n o r c) t = changes up n _ t _ refl
      at up (accepted_packet leaf r n) t = replied up leaf r (Taken n) t
      at up (refused_packet leaf r fault) t = replied up leaf r (refused_request fault) t
      at up (BotText from to text) t = texts from text (nat_lt leaves from || not (to == i))
      at up (Part s j k items) t = part up s j k items t ((j == 0) || nat_lt k j)
