-- What a bot's step leaves of its end of the link: what one call leaves, or asks and texts one after another.
use Rattle.std.proofs.Common.{◌≡◌, ◌≢◌, inl, inr, ℕ, zero, suc, List, [], ◌∷◌, ◌++◌, slice_get, slice_set}
use Rattle.std.proofs.Common.{Option, None, Some, Result, Ok, Err, refl, ap, sym, subst, ◌∙◌}
use Rattle.std.proofs.lemmas.List.{append-nil}
use Rattle.bytetext.specs.declared.failure.Failure.{Failure}
use Rattle.bytetext.specs.declared.failure.Failure.TheVariants.{Refused as refused_by, NoMemory as no_memory}
use Rattle.userfile.specs.declared.change.Change.{Change as UserChange}
use Rattle.protocol.specs.Packets.{Outgoing as LinkOutgoing, Sent, AcceptedChange}
use Rattle.protocol.specs.Notes.{Note as Meaning, LinkFault as Meant}
use Rattle.protocol.specs.Notes.Note.{Queued, Relayed, Accepted as AcceptedAs, Restarted as RestartedAt}
use Rattle.protocol.specs.Notes.LinkFault.{OtherLayout as Another, Diverged as Apart}
use Rattle.protocol.specs.Bots.{How, Works, Fails, Counts, Row}
use Rattle.protocol.specs.History.{History, Grows}
use Rattle.protocol.specs.Truth.{IsKeptAnswer, AllOutgoing}
use Rattle.protocol.specs.Network.{Event, Restart, posted}
use Rattle.protocol.specs.Claims.{IsFine as IsFineTold}
use Rattle.protocol.proofs.Growing.{Grows-refl}
use Rattle.sharelink.specs.declared.answer.Answer.{Answer}
use Rattle.sharelink.specs.declared.answer.Outgoing.{Outgoing}
use Rattle.sharelink.specs.declared.error.LinkFault.{LinkFault}
use Rattle.sharelink.specs.declared.error.LinkFault.TheVariants.{Down, BadChange, AsksFull, OtherLayout, Diverged, NumbersSpent, JournalFault, BadBotText, TextsFull, DiskFault}
use Rattle.sharelink.specs.Calls.{outgoings_of, IsFault}
use Rattle.sharelink.specs.Meets.{how_of, Answers, Refuses}
use Rattle.protocol.specs.Ends.{End as LinkEnd, AtHub, AtLeaf, end_did}
use Rattle.protocol.specs.Nets.{IsMoment, MovesAsTold, RowFollows}
use Rattle.protocol.proofs.NetGoes.{did_goes}
use Rattle.sharelink.specs.BotLinks.{BotEnd, did, asked, told, Calls, CallsRestart, Asks}
use Rattle.botcore.specs.declared.fault.Refusal.TheVariants.{Link as link_refusal}
use Rattle.botcore.specs.declared.report.End.{End}
use Rattle.botcore.specs.declared.report.End.TheVariants.{Done, Refused as refused_end, NoMemory}
use Rattle.botcore.specs.declared.report.Note.{Note}
use Rattle.botcore.specs.declared.report.Note.TheVariants.{Link as link_note}
use Rattle.botcore.specs.declared.report.Report.{Report}
use Rattle.botcore.specs.Reports.{answer_report}
use Rattle.botworld.specs.Network.{IsFineEnd, GrowsByNote}

-- ---- lists

pub set-same : {X : Type 0} (xs : List X) (i : ℕ) (x : X) → slice_get xs i ≡ Some x → slice_set xs i x ≡ xs
set-same [] i x e = cc
set-same (z ∷ xs) zero x e = let same : z ≡ x = cc in ap (λ y. y ∷ xs) (sym same)
set-same (z ∷ xs) (suc i) x e = ap (λ ys. z ∷ ys) (set-same xs i x e)

pub set-set : {X : Type 0} (xs : List X) (i : ℕ) (x y : X) → slice_set (slice_set xs i x) i y ≡ slice_set xs i y
set-set [] i x y = refl
set-set (z ∷ xs) zero x y = refl
set-set (z ∷ xs) (suc i) x y = ap (λ ys. z ∷ ys) (set-set xs i x y)

pub posted-append : (from : ℕ) (xs ys : List LinkOutgoing) → posted from (xs ++ ys) ≡ posted from xs ++ posted from ys
posted-append from [] ys = refl
posted-append from (x ∷ xs) ys =
    ap (λ (ps : List Sent). record { from = from; to = x.to; packet = x.packet } ∷ ps) (posted-append from xs ys)

-- ---- what is told where nothing is accepted

-- what is told so accepts no change
abbrev pub IsQuiet : Result Meaning Meant → Type 0
IsQuiet told = (place : ℕ) (old new : List AcceptedChange) → MovesAsTold old new place told → new ≡ old

-- what is told tells of no version that was reached
is_quiet : (told : Result Meaning Meant) → ((version : ℕ) → told ≡ Ok (AcceptedAs version) → ⊥)
    → ((version : ℕ) → told ≡ Ok (RestartedAt version) → ⊥) → IsQuiet told
is_quiet told none no_restart place old new moves = elim moves.stay_or_grow [
  | inl same ↦ same
  | inr more ↦ elim more.2.1 [ inl e ↦ absurd (none _ e) | inr e ↦ absurd (no_restart _ e) ]
]

pub refused_is_quiet : (fault : Meant) → IsQuiet (Err fault)
refused_is_quiet fault = is_quiet (Err fault) (λ v e. cc) (λ v e. cc)

pub queued_is_quiet : IsQuiet (Ok Queued)
queued_is_quiet = is_quiet (Ok Queued) (λ v e. cc) (λ v e. cc)

pub relayed_is_quiet : IsQuiet (Ok Relayed)
relayed_is_quiet = is_quiet (Ok Relayed) (λ v e. cc) (λ v e. cc)

-- ---- a bot among the others

-- a bot's end at its place among all ends, which are sound
pub record IsAmong (h : History) (all : List LinkEnd) (sent : List Sent) (place : ℕ) (b : BotEnd) : Type 0 where
  pub sound : IsMoment all sent h
  pub at : slice_get all place ≡ Some b.end
  pub number : b.number ≡ place
  pub leaves : b.leaves ≡ h.count

-- what a step that ends so, with this note and these packets, leaves of a bot's end: all ends are sound then, and what happened
-- grew as the note tells
pub record LinkGoes (h : History) (all : List LinkEnd) (sent : List Sent) (place : ℕ) (old : BotEnd) (end : End) (note : Option Note)
    (packets : List Outgoing) (new : BotEnd) : Type 0 where
  pub after : History
  pub sound : IsMoment (slice_set all place new.end) (sent ++ posted place (outgoings_of packets)) after
  pub grows : Grows h after
  pub count : after.count ≡ h.count
  pub answers : AllOutgoing (IsKeptAnswer after.hub.kept) (outgoings_of packets)
  pub fine : IsFineEnd end
  pub accepted : GrowsByNote place note h.hub.kept.accepted after.hub.kept.accepted
  pub number : new.number ≡ old.number
  pub leaves : new.leaves ≡ old.leaves

module _ (h : History) (all : List LinkEnd) (sent : List Sent) (place : ℕ) (old : BotEnd) (among : IsAmong h all sent place old) where
  -- nothing is sent, and the end stays
  pub stays : (end : End) (note : Option Note) (new : BotEnd) → IsFineEnd end
      → GrowsByNote place note h.hub.kept.accepted h.hub.kept.accepted → new.end ≡ old.end → new.number ≡ old.number → new.leaves ≡ old.leaves
      → LinkGoes h all sent place old end note [] new
  stays end came new fine grows same number leaves =
      let ends : slice_set all place new.end ≡ all = ap (slice_set all place) same ∙ set-same all place old.end among.at in
      record {
        after = h;
        sound = subst (λ (es : List LinkEnd). IsMoment es (sent ++ []) h) (sym ends)
            (subst (λ (ps : List Sent). IsMoment all ps h) (sym (append-nil sent)) among.sound);
        grows = Grows-refl h;
        count = refl;
        answers = tt;
        fine = fine;
        accepted = grows;
        number = number;
        leaves = leaves;
      }

  -- ---- a call of the link

  fine_done : IsFineEnd Done
  fine_done = record { same_layout = λ e. cc; undiverged = λ e. cc }

  -- a fault is told as it is meant
  record IsMeant (fault : LinkFault) (said : Result Meaning Meant) : Type 0 where
    meant : Meant
    is : said ≡ Err meant
    same_layout : IsFineTold said → fault ≢ OtherLayout
    undiverged : IsFineTold said → fault ≢ Diverged

  meant : (fault : LinkFault) (said : Result Meaning Meant) → IsFault fault said → IsMeant fault said
  meant Down said e = record { meant = _; is = e; same_layout = λ fine f. cc; undiverged = λ fine f. cc }
  meant (BadChange of_change) said e = record { meant = _; is = e; same_layout = λ fine f. cc; undiverged = λ fine f. cc }
  meant AsksFull said e = record { meant = _; is = e; same_layout = λ fine f. cc; undiverged = λ fine f. cc }
  meant OtherLayout said e = record { meant = Another; is = e; same_layout = λ fine f. subst IsFineTold e fine; undiverged = λ fine f. cc }
  meant Diverged said e = record { meant = Apart; is = e; same_layout = λ fine f. cc; undiverged = λ fine f. subst IsFineTold e fine }
  meant NumbersSpent said e = record { meant = _; is = e; same_layout = λ fine f. cc; undiverged = λ fine f. cc }
  meant JournalFault said e = record { meant = _; is = e; same_layout = λ fine f. cc; undiverged = λ fine f. cc }
  meant BadBotText said e = record { meant = _; is = e; same_layout = λ fine f. cc; undiverged = λ fine f. cc }
  meant TextsFull said e = absurd e
  meant DiskFault said e = record { meant = _; is = e; same_layout = λ fine f. cc; undiverged = λ fine f. cc }

  fine_fault : (fault : LinkFault) → fault ≢ OtherLayout → fault ≢ Diverged → IsFineEnd (refused_end (link_refusal fault))
  fine_fault fault layout other = record {
    same_layout = λ e. layout (let same : fault ≡ OtherLayout = cc in same);
    undiverged = λ e. other (let same : fault ≡ Diverged = cc in same);
  }

  -- what is answered
  answered : (row : Row LinkEnd) (answer : Answer) (new : BotEnd) → RowFollows h all sent place row → Answers row answer new.end
      → new.number ≡ old.number → new.leaves ≡ old.leaves
      → LinkGoes h all sent place old Done (Some (link_note answer.note)) answer.packets new
  answered row answer new goes a number leaves = record {
    after = goes.after;
    sound = subst (λ (os : List LinkOutgoing). IsMoment (slice_set all place new.end) (sent ++ posted place os) goes.after) a.sends
        (subst (λ (e : LinkEnd). IsMoment (slice_set all place e) (sent ++ posted place row.sends) goes.after) (sym a.after) goes.moment);
    grows = goes.grows;
    count = goes.count;
    answers = subst (AllOutgoing (IsKeptAnswer goes.after.hub.kept)) a.sends goes.answers;
    fine = fine_done;
    accepted = subst (λ (t : Result Meaning Meant). MovesAsTold h.hub.kept.accepted goes.after.hub.kept.accepted place t) a.told goes.moves;
    number = number;
    leaves = leaves;
  }

  -- what is refused
  refuses : (row : Row LinkEnd) (fault : LinkFault) (new : BotEnd) → RowFollows h all sent place row → Refuses row fault new.end
      → new.number ≡ old.number → new.leaves ≡ old.leaves
      → LinkGoes h all sent place old (refused_end (link_refusal fault)) None [] new
  refuses row fault new goes r number leaves =
      let m = meant fault row.told r.told in
      record {
        after = goes.after;
        sound = subst (λ (os : List LinkOutgoing). IsMoment (slice_set all place new.end) (sent ++ posted place os) goes.after) r.sends
            (subst (λ (e : LinkEnd). IsMoment (slice_set all place e) (sent ++ posted place row.sends) goes.after) (sym r.after) goes.moment);
        grows = goes.grows;
        count = goes.count;
        answers = tt;
        fine = fine_fault fault (m.same_layout goes.fine) (m.undiverged goes.fine);
        accepted = refused_is_quiet m.meant place h.hub.kept.accepted goes.after.hub.kept.accepted
            (subst (λ (t : Result Meaning Meant). MovesAsTold h.hub.kept.accepted goes.after.hub.kept.accepted place t) m.is goes.moves);
        number = number;
        leaves = leaves;
      }

  abbrev pub Goes : Report → BotEnd → Type 0
  Goes report new = LinkGoes h all sent place old report.end report.note report.packets new

  no_memory_goes : (new : BotEnd) → new.end ≡ old.end → new.number ≡ old.number → new.leaves ≡ old.leaves
      → LinkGoes h all sent place old NoMemory None [] new
  no_memory_goes new same number leaves =
      stays NoMemory None new (record { same_layout = λ e. cc; undiverged = λ e. cc }) refl same number leaves

  -- a call, whose rows go on whatever the device does
  pub calls_go : (row : How → Row LinkEnd) (result : Result Answer (Failure LinkFault)) (new : BotEnd)
      → ((how : How) → RowFollows h all sent place (row how)) → Calls old row result new → Goes (answer_report result) new
  calls_go row (Ok answer) new goes c = answered (row Works) answer new (goes Works) c.row c.number c.leaves
  calls_go row (Err (refused_by fault)) new goes c = refuses (row (how_of fault)) fault new (goes (how_of fault)) c.row.0 c.number c.leaves
  calls_go row (Err no_memory) new goes c = no_memory_goes new c.row.1 c.number c.leaves

  -- an ask
  pub ask_goes : (change : UserChange) (result : Result Answer (Failure LinkFault)) (new : BotEnd)
      → RowFollows h all sent place (asked old change) → Asks old change result new → Goes (answer_report result) new
  ask_goes change (Ok answer) new goes a =
      answered (asked old change) answer new goes a.0 (ap (λ (b : BotEnd). b.number) a.1) (ap (λ (b : BotEnd). b.leaves) a.1)
  ask_goes change (Err (refused_by fault)) new goes a =
      let m = meant fault (asked old change).told a.0 in
      stays (refused_end (link_refusal fault)) None new (fine_fault fault (m.same_layout goes.fine) (m.undiverged goes.fine)) refl (ap (λ (b : BotEnd). b.end) a.1)
      (ap (λ (b : BotEnd). b.number) a.1) (ap (λ (b : BotEnd). b.leaves) a.1)
  ask_goes change (Err no_memory) new goes a =
      no_memory_goes new (ap (λ (b : BotEnd). b.end) a.1) (ap (λ (b : BotEnd). b.number) a.1) (ap (λ (b : BotEnd). b.leaves) a.1)

  -- what a restart that fails sends: nothing
  unsent : (leaves number : ℕ) (e : LinkEnd) → (end_did leaves number Fails e Restart).sends ≡ []
  unsent leaves number (AtHub hub) = refl
  unsent leaves number (AtLeaf leaf) = refl

  untold : (leaves number : ℕ) (e : LinkEnd) → (meant : Meant) × ((end_did leaves number Fails e Restart).told ≡ Err meant)
  untold leaves number (AtHub hub) = (_, refl)
  untold leaves number (AtLeaf leaf) = (_, refl)

  pub restart_goes : (result : Result Answer (Failure LinkFault)) (new : BotEnd) → ((how : How) → RowFollows h all sent place (did old Restart how))
      → CallsRestart old result new → Goes (answer_report result) new
  restart_goes (Ok answer) new goes c = elim c.row [
    | inl a ↦ answered (did old Restart Works) answer new (goes Works) a c.number c.leaves
    | inr a ↦ answered (did old Restart Counts) answer new (goes Counts) a c.number c.leaves
  ]
  restart_goes (Err (refused_by fault)) new goes c = refuses (did old Restart Fails) fault new (goes Fails) c.row.0 c.number c.leaves
  restart_goes (Err no_memory) new goes c =
      let failed = goes Fails in
      let none = unsent old.leaves old.number old.end in
      let why = untold old.leaves old.number old.end in
      record {
        after = failed.after;
        sound = subst (λ (os : List LinkOutgoing). IsMoment (slice_set all place new.end) (sent ++ posted place os) failed.after) none
            (subst (λ (e : LinkEnd). IsMoment (slice_set all place e) (sent ++ posted place (did old Restart Fails).sends) failed.after)
            (sym c.row) failed.moment);
        grows = failed.grows;
        count = failed.count;
        answers = tt;
        fine = record { same_layout = λ e. cc; undiverged = λ e. cc };
        accepted = refused_is_quiet why.0 place h.hub.kept.accepted failed.after.hub.kept.accepted
            (subst (λ (t : Result Meaning Meant). MovesAsTold h.hub.kept.accepted failed.after.hub.kept.accepted place t) why.1 failed.moves);
        number = c.number;
        leaves = c.leaves;
      }

  -- ---- the rows of this end

  pub did_row : (event : Event) (how : How) → RowFollows h all sent place (did old event how)
  did_row event how =
      subst (λ n. RowFollows h all sent place (end_did old.leaves n how old.end event)) (sym among.number)
      (did_goes all sent h among.sound old.leaves place old.end how event among.leaves among.at)
