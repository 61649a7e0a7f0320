-- How what is made of a packet stands to its row.
use Rattle.std.proofs.Common.{◌≡◌, inl, ◌+◌, ◌<◌, ◌≤◌, ◌==◌, ◌||◌, ℕ, zero, suc, Bool, true, false, nat_lt, if◌then◌else◌, List, [], ◌∷◌, length, drop, get_or, Option, None, Some, Result, Ok, Err, refl, sym, ap, subst, ⊎_elim, ◌∙◌, arith, eq-eqb}
use Rattle.bytetext.specs.declared.failure.Failure.{Failure}
use Rattle.userfile.specs.Apply.{refusal}
use Rattle.userfile.specs.declared.change.Change.{Change}
use Rattle.userfile.specs.declared.error.ChangeFault.{ChangeFault}
use Rattle.botjournal.specs.declared.reply.Reply.{Reply}
use Rattle.botjournal.specs.declared.reply.Verdict.TheVariants.{Taken}
use Rattle.protocol.specs.Notes.Note.{Served, Gap, Stray}
use Rattle.protocol.specs.Packets.{Outgoing as Sent, AcceptedChange, own, answer_packet}
use Rattle.protocol.specs.Packets.Packet.{Request}
use Rattle.protocol.specs.Numbers.{Place, Below, Same, Next, Above, item_at, place_of}
use Rattle.protocol.specs.Bots.{How, Works, Row, noted}
use Rattle.protocol.specs.HubRules.{Hub, version_of, last_request, reply_to, is_no_leaf, hello_served, hello_met, repeats, request_placed, request_of, next_request, accepts, ask_served, hub_pumped_up, hub_received_up}
use Rattle.protocol.specs.Journals.{is_next_of}
use Rattle.protocol.specs.LeafRules.{next_applied, change_placed}
use Rattle.sharelink.specs.declared.answer.Answer.{Answer}
use Rattle.sharelink.specs.declared.error.LinkFault.{LinkFault}
use Rattle.sharelink.specs.Calls.{note_of, outgoings_of}
use Rattle.sharelink.specs.HubLinks.{HubEnd, KeptHub, Calls, hub_end, Accepts, left_by, told_before, hello_sends}
use Rattle.sharelink.specs.LeafLinks.{LeafEnd, Calls as LeafCalls, change_placed_at}
use Rattle.sharelink.proofs.Sending.{outgoings-length}
use Rattle.sharelink.proofs.HubLinkLaws.{meets-answer, place-old, place-next, place-above}

-- ---- hellos

module _ (old : HubEnd) (leaf version : ℕ) where
  abbrev hello_row : How → Row Hub
  hello_row how = hello_met old.leaves how old.bot leaf version

  abbrev sends : List Sent
  sends = hello_sends old.bot.kept leaf version (nat_lt version old.bot.kept.floor)

  abbrev is_stray : Bool
  is_stray = is_no_leaf old.leaves leaf || nat_lt (version_of old.bot.kept) version

  served-is : (b : Bool) → hello_served old.leaves Works old.bot leaf version b
      ≡ record { told = Ok (Served (length (hello_sends old.bot.kept leaf version b))); sends = hello_sends old.bot.kept leaf version b; after = old.bot }
  served-is true = refl
  served-is false = refl

  row-served : is_stray ≡ false → hello_row Works ≡ record { told = Ok (Served (length sends)); sends = sends; after = old.bot }
  row-served found = rw found (served-is (nat_lt version old.bot.kept.floor))

  pub hello-served : (answer : Answer) → is_stray ≡ false → note_of answer.note ≡ Served (length answer.packets) → outgoings_of answer.packets ≡ sends
      → Calls old hello_row (Ok answer) old
  hello-served answer found notes sent =
      meets-answer old old hello_row (Served (length sends)) sends answer (row-served found)
      (notes ∙ ap (λ n. Served n) (sym (outgoings-length answer.packets) ∙ ap (λ (l : List Sent). length l) sent)) sent refl refl (inl refl)

-- ---- requests

-- a request of a leaf that has a place
module _ (old : HubEnd) (leaf request : ℕ) (change : Change) (kept : List Reply) (one : (request == 0) ≡ false)
    (found : item_at old.bot.kept.replies leaf ≡ Some kept) where
  abbrev request_row : How → Row Hub
  request_row how = hub_received_up old.leaves how old.bot (Request leaf request change)

  placed-at : (place : Place) (result : Result Answer (Failure LinkFault)) (new : HubEnd) → place_of request (last_request kept) ≡ place
      → Calls old (λ how. request_placed old.leaves how old.bot leaf request change kept place) result new → Calls old request_row result new
  placed-at place result new at meets =
      subst (λ (b : Bool). Calls old (λ how. if b then noted Stray old.bot
      else request_of old.leaves how old.bot leaf request change (item_at old.bot.kept.replies leaf)) result new) (sym one)
      (subst (λ (o : Option (List Reply)). Calls old (λ how. request_of old.leaves how old.bot leaf request change o) result new) (sym found)
      (subst (λ (p : Place). Calls old (λ how. request_placed old.leaves how old.bot leaf request change kept p) result new) (sym at) meets))

  -- one that was replied to
  pub placed-again : (reply : Option Reply) (result : Result Answer (Failure LinkFault)) → request ≤ last_request kept
      → reply ≡ reply_to request kept → Calls old (λ how. repeats old.leaves how old.bot leaf request reply) result old
      → Calls old request_row result old
  placed-again reply result le is meets =
      ⊎_elim (λ below. placed-at Below result old below again) (λ same. placed-at Same result old same again)
      (place-old request (last_request kept) le)
    where
      again : Calls old (λ how. repeats old.leaves how old.bot leaf request (reply_to request kept)) result old
      again = subst (λ (o : Option Reply). Calls old (λ how. repeats old.leaves how old.bot leaf request o) result old) is meets

  -- one before which another is missing
  pub placed-gap : (answer : Answer) → last_request kept + 1 < request → note_of answer.note ≡ Gap → answer.packets ≡ []
      → Calls old request_row (Ok answer) old
  placed-gap answer far notes none =
      placed-at Above (Ok answer) old (place-above request (last_request kept) far)
      (meets-answer old old (λ how. noted Gap old.bot) Gap [] answer refl notes (ap outgoings_of none) refl refl (inl refl))

  -- the next one
  pub placed-next : (result : Result Answer (Failure LinkFault)) (new : HubEnd) → request ≡ last_request kept + 1
      → Calls old (λ how. next_request old.leaves how old.bot leaf request change (refusal old.bot.kept.records change)) result new
      → Calls old request_row result new
  placed-next result new next meets = placed-at Next result new (place-next request (last_request kept) next) meets

-- the next request, which the records refuse
pub next-refused : (old new : HubEnd) (leaf request : ℕ) (change : Change) (fault : ChangeFault) (result : Result Answer (Failure LinkFault))
    → refusal old.bot.kept.records change ≡ Some fault
    → Calls old (λ how. next_request old.leaves how old.bot leaf request change (Some fault)) result new
    → Calls old (λ how. next_request old.leaves how old.bot leaf request change (refusal old.bot.kept.records change)) result new
next-refused old new leaf request change fault result found meets =
    subst (λ (o : Option ChangeFault). Calls old (λ how. next_request old.leaves how old.bot leaf request change o) result new) (sym found) meets

-- the next request of a leaf that has a place
pub next-is : (place : Option (List Reply)) (kept : List Reply) (request : ℕ) → place ≡ Some kept → request ≡ last_request kept + 1
    → is_next_of place request ≡ true
next-is place kept request found next = rw found (eq-eqb request (last_request kept + 1) next)

-- ---- changes

-- the change that is numbered one above a leaf's version, and that its records take
pub placed-change : (old new : LeafEnd) (number : ℕ) (change : Change) (result : Result Answer (Failure LinkFault))
    → number ≡ old.bot.kept.version + 1 → refusal old.bot.kept.records change ≡ None
    → LeafCalls old (λ how. next_applied old.leaves old.number how old.bot change None) result new
    → LeafCalls old (change_placed_at old number change) result new
placed-change old new number change result next taken meets =
    subst (λ (p : Place). LeafCalls old (λ how. change_placed old.leaves old.number how old.bot change p) result new)
    (sym (place-next number old.bot.kept.version next))
    (subst (λ (o : Option ChangeFault). LeafCalls old (λ how. next_applied old.leaves old.number how old.bot change o) result new)
    (sym taken) meets)

-- ---- accepting

left-same : (result : Result Answer (Failure LinkFault)) (asks : List Change) → left_by result asks asks ≡ asks
left-same (Ok answer) asks = refl
left-same (Err error) asks = refl

-- the hub replies to a leaf's request
told-replied : (leaf request number : ℕ) (replies : List (List Reply)) → is_next_of (item_at replies leaf) request ≡ true
    → told_before leaf request number ≡ record { to = leaf; packet = answer_packet leaf request (Taken number) } ∷ []
told-replied zero request number replies next = absurd (cc)
told-replied (suc place) request number replies next = refl

pub next-accepts : (old new : KeptHub) (asks : List Change) (leaf request : ℕ) (change : Change) (result : Result Answer (Failure LinkFault))
    → is_next_of (item_at old.state.replies leaf) request ≡ true → refusal old.state.records change ≡ None
    → Accepts old (record { origin = leaf; request = request; change = change }) result new
    → Calls (hub_end old asks) (λ how. next_request old.who how (hub_end old asks).bot leaf request change (refusal old.state.records change))
    result (hub_end new asks)
next-accepts old new asks leaf request change result next taken accepted =
    subst (λ (o : Option ChangeFault). Calls (hub_end old asks) (λ how. next_request old.who how (hub_end old asks).bot leaf request change o)
    result (hub_end new asks)) (sym taken)
    (subst (λ (l : List Sent). Calls (hub_end old asks) (λ how. accepts old.who how (hub_end old asks).bot entry l asks) result (hub_end new asks))
    (told-replied leaf request (version_of old.state + 1) old.state.replies next)
    (subst (λ (l : List Change). Calls (hub_end old asks) (λ how. accepts old.who how (hub_end old asks).bot entry
    (told_before leaf request (version_of old.state + 1)) asks) result (hub_end new l)) (left-same result asks) (accepted asks asks)))
  where
    entry : AcceptedChange
    entry = record { origin = leaf; request = request; change = change }

-- ---- the oldest ask

pub first-of : {X : Type 0} (xs : List X) (x : X) → 0 < length xs → x ≡ get_or xs 0 x → xs ≡ x ∷ drop 1 xs
first-of [] x some is = absurd (omega (arith, some))
first-of (y ∷ ys) x some is = ap (λ z. z ∷ ys) (sym is)

module _ (old new : KeptHub) (asks : List Change) (change : Change) (oldest : asks ≡ change ∷ drop 1 asks)
    (taken : refusal old.state.records change ≡ None) where
  abbrev pumped_row : How → Row Hub
  pumped_row how = hub_pumped_up old.who how (hub_end old asks).bot asks

  pumped-as : (result : Result Answer (Failure LinkFault)) (left : List Change)
      → Calls (hub_end old asks) (λ how. accepts old.who how (hub_end old asks).bot (own change) [] (drop 1 asks)) result (hub_end new left)
      → Calls (hub_end old asks) pumped_row result (hub_end new left)
  pumped-as result left meets =
      subst (λ (l : List Change). Calls (hub_end old asks) (λ how. hub_pumped_up old.who how (hub_end old asks).bot l) result (hub_end new left)) (sym oldest)
      (subst (λ (o : Option ChangeFault). Calls (hub_end old asks) (λ how. ask_served old.who how (hub_end old asks).bot change (drop 1 asks) o)
      result (hub_end new left)) (sym taken) meets)

  pub pumped-kept : (answer : Answer) → Accepts old (record { origin = 0; request = 0; change = change }) (Ok answer) new
      → Calls (hub_end old asks) pumped_row (Ok answer) (hub_end new (drop 1 asks))
  pumped-kept answer accepted = pumped-as (Ok answer) (drop 1 asks) (accepted asks (drop 1 asks))

  pub pumped-unkept : (error : Failure LinkFault) → Accepts old (record { origin = 0; request = 0; change = change }) (Err error) new
      → Calls (hub_end old asks) pumped_row (Err error) (hub_end new asks)
  pumped-unkept error accepted = pumped-as (Err error) asks (accepted asks (drop 1 asks))
