-- How a pump stands to its row: what is out goes again, and then the oldest ask.
use Rattle.std.proofs.Common.{◌≡◌, ◌<◌, ◌≤◌, ◌+◌, ℕ, suc, Bool, true, false, List, [], ◌∷◌, ◌++◌, length, drop, slice_index_or, if◌then◌else◌, Some, Result, Ok, inl, refl, sym, ap, subst, ◌∙◌, arith}
use Rattle.bytetext.specs.declared.failure.Failure.{Failure}
use Rattle.userfile.specs.declared.change.Change.{Change}
use Rattle.botjournal.specs.declared.request.Request.{Request}
use Rattle.protocol.specs.Notes.Note.{Sent}
use Rattle.protocol.specs.Packets.{Outgoing as Going}
use Rattle.protocol.specs.Packets.Packet.{Request as request_to}
use Rattle.protocol.specs.Notes.LinkFault.{Down}
use Rattle.protocol.specs.Bots.{How, Works, Row, refused, journals}
use Rattle.protocol.specs.LeafRules.{Leaf, LeafLoose, Out, may_go_out, with_request, leaf_folded, hello, asking, sent_again, held_back, leaf_pumped_up}
use Rattle.protocol.specs.Journals.{leaf_meaning}
use Rattle.sharelink.specs.declared.answer.Answer.{Answer}
use Rattle.sharelink.specs.declared.answer.Outgoing.{Outgoing}
use Rattle.sharelink.specs.declared.error.LinkFault.{LinkFault}
use Rattle.sharelink.specs.Calls.{note_of, outgoings_of}
use Rattle.sharelink.specs.Shapes.{AreGood}
use Rattle.sharelink.specs.Kept.{Journals, LeavesOwn}
use Rattle.sharelink.specs.LeafLinks.{LeafEnd, KeptLeaf, Calls, leaf_end, pumped, pumped_up, sent_again_at, hello_packet, request_packet, request_packets, again_note}
use Rattle.sharelink.proofs.LeafLinkLaws.{meets-kept}

-- ---- requests as packets

requests-length : (leaf : ℕ) (out : List Request) → length (request_packets leaf out) ≡ length out
requests-length leaf [] = refl
requests-length leaf (request ∷ out) = ap suc (requests-length leaf out)

requests-good : (leaf : ℕ) (out : List Request) → AreGood (request_packets leaf out)
requests-good leaf [] = tt
requests-good leaf (request ∷ out) = (tt, requests-good leaf out)

-- one more
requests-last : (leaf number : ℕ) (change : Change) (out : List Request)
    → request_packets leaf (with_request number change out) ≡ request_packets leaf out ++ request_packet leaf number change ∷ []
requests-last leaf number change [] = refl
requests-last leaf number change (request ∷ out) =
    ap (λ l. request_packet leaf request.number request.change ∷ l) (requests-last leaf number change out)

-- the same hello and requests
pub packets-same : {leaf leaf' version version' : ℕ} {out out' : List Request} → leaf ≡ leaf' → version ≡ version' → out ≡ out'
    → hello_packet leaf version ∷ request_packets leaf out ≡ hello_packet leaf' version' ∷ request_packets leaf' out'
packets-same same at are = λ i. hello_packet (same i) (at i) ∷ request_packets (same i) (are i)

-- a hello, and at most eight requests
pub requests-few : (leaf version : ℕ) (out : List Request) (packets : List Outgoing) → length out ≤ 8
    → packets ≡ hello_packet leaf version ∷ request_packets leaf out → (length packets ≤ 9) × AreGood packets
requests-few leaf version out packets few is =
    subst (λ (l : List Outgoing). (length l ≤ 9) × AreGood l) (sym is)
    (omega (arith, requests-length leaf out, few), (tt, requests-good leaf out))

module _ (leaves number : ℕ) (how : How) (old : Leaf) where
  asking-is : (out : List Request) → asking leaves number how old out ≡ outgoings_of (request_packets number out)
  asking-is [] = refl
  asking-is (request ∷ out) =
      ap (λ (l : List Going). (let one : Going = record { to = 0; packet = request_to number request.number request.change } in one ∷ l))
      (asking-is out)

-- ---- what is out goes again

module _ (end : LeafEnd) where
  row-again : (out : List Request)
      → sent_again end.leaves end.number Works end.bot out
      ≡ record { told = Ok (again_note out); sends = hello end.leaves end.number Works end.bot ∷ asking end.leaves end.number Works end.bot out; after = end.bot }
  row-again [] = refl
  row-again (request ∷ out) = refl

  pub again-sent : (answer : Answer) → note_of answer.note ≡ again_note end.bot.kept.out
      → answer.packets ≡ hello_packet end.number end.bot.kept.version ∷ request_packets end.number end.bot.kept.out
      → Calls end (sent_again_at end) (Ok answer) end
  again-sent answer notes sent = record {
    row_of = record {
      told = ap (λ (r : Row Leaf). r.told) (row-again end.bot.kept.out) ∙ ap (λ n. Ok n) (sym notes);
      sends =
          ap (λ (r : Row Leaf). r.sends) (row-again end.bot.kept.out)
          ∙ ap (λ (l : List Going). hello end.leaves end.number Works end.bot ∷ l) (asking-is end.leaves end.number Works end.bot end.bot.kept.out)
          ∙ ap outgoings_of (sym sent);
      after = ap (λ (r : Row Leaf). r.after) (sym (row-again end.bot.kept.out));
    };
    number = refl;
    leaves = refl;
    moments = inl refl;
  }

-- ---- the oldest ask

-- it stands before the others
pub oldest-first : (waiting rest : List Change) (change : Change) → 0 < length waiting → change ≡ slice_index_or waiting 0 change
    → rest ≡ drop 1 waiting → waiting ≡ change ∷ rest
oldest-first [] rest change some first others = absurd (omega arith)
oldest-first (one ∷ more) rest change some first others = λ i. sym first i ∷ sym others i

module _ (leaves : ℕ) (old new : KeptLeaf) (before : LeafLoose) (change : Change)
    (may : may_go_out old.state.last old.state.out ≡ true) (rest : List Change) (oldest : before.waiting ≡ change ∷ rest) where
  abbrev end : LeafEnd
  end = leaf_end leaves old before

  abbrev next : List Request
  next = with_request (old.state.last + 1) change old.state.out

  abbrev sends : List Going
  sends = hello leaves old.who Works end.bot ∷ asking leaves old.who Works end.bot next

  abbrev left : LeafLoose
  left = record before { waiting = rest }

  row-is : (how : How)
      → pumped_up end how ≡ journals leaf_folded how end.bot (Out change) (Sent (old.state.last + 1)) sends left
  row-is how =
      ap (λ w. leaf_pumped_up leaves old.who how end.bot old.state.out w) oldest
      ∙ ap (λ b. if b then journals leaf_folded how end.bot (Out change) (Sent (old.state.last + 1)) sends left
      else held_back leaves old.who how end.bot old.state.out) may

  -- it goes after what is out
  pub ask-sent : (answer : Answer) → LeavesOwn (leaf_meaning old.who) leaf_folded old.state (Some (Out change)) old.device new.device
      → Journals leaf_folded (Out change) old (Ok tt) new → note_of answer.note ≡ Sent (old.state.last + 1)
      → answer.packets ≡ hello_packet old.who old.state.version ∷ request_packets old.who next
      → Calls end (pumped_up end) (Ok answer) (leaf_end leaves new left)
  ask-sent answer moments kept notes sent =
      meets-kept leaves old new before (pumped_up end) (Out change) (Sent (old.state.last + 1)) sends left moments row-is answer kept notes
      (ap outgoings_of sent
      ∙ ap (λ (l : List Going). hello leaves old.who Works end.bot ∷ l) (sym (asking-is leaves old.who Works end.bot next)))

-- the row of a leaf that is up
pub pumped-if-up : (end new : LeafEnd) (result : Result Answer (Failure LinkFault)) → end.bot.down ≡ false → Calls end (pumped_up end) result new
    → Calls end (pumped end) result new
pumped-if-up end new result up meets =
    subst (λ (down : Bool). Calls end (λ how. if down then refused Down end.bot
    else leaf_pumped_up end.leaves end.number how end.bot end.bot.kept.out end.bot.loose.waiting) result new) (sym up) meets

-- the packets of what is out, and of the oldest ask
packets-next : (leaf version number : ℕ) (change : Change) (out : List Request) (front packets : List Outgoing) (last : Outgoing)
    → front ≡ hello_packet leaf version ∷ request_packets leaf out → last ≡ request_packet leaf number change
    → packets ≡ front ++ last ∷ [] → packets ≡ hello_packet leaf version ∷ request_packets leaf (with_request number change out)
packets-next leaf version number change out front packets last is one all =
    all ∙ ap (λ l. l ++ last ∷ []) is ∙ ap (λ o. hello_packet leaf version ∷ (request_packets leaf out ++ o ∷ [])) one
    ∙ ap (λ l. hello_packet leaf version ∷ l) (sym (requests-last leaf number change out))

-- so of the leaf whose numbers these are
pub ask-packets : {leaf leaf' version version' last last' : ℕ} {out out' : List Request} {front packets : List Outgoing} {one : Outgoing}
    (change : Change) → leaf ≡ leaf' → version ≡ version' → last ≡ last' → out ≡ out'
    → front ≡ hello_packet leaf version ∷ request_packets leaf out → one ≡ request_packet leaf (last + 1) change
    → packets ≡ front ++ one ∷ []
    → packets ≡ hello_packet leaf' version' ∷ request_packets leaf' (with_request (last' + 1) change out')
ask-packets {leaf} {version = version} {last = last} {out = out} {front = front} {packets = packets} {one = one} change same at lasts are is asks all =
    packets-next leaf version (last + 1) change out front packets one is asks all
    ∙ packets-same same at (λ i. with_request (lasts i + 1) change (are i))
