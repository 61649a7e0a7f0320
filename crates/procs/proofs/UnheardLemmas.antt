-- The events of a message come to nothing where they call no bind, as where no bind waits for messages.
use Rattle.std.proofs.Common.{◌≡◌, ℕ, ◌∙◌, ◌<◌, ◌||◌, ◌&&◌, Bool, true, false, if◌then◌else◌, List, [], ◌∷◌, ◌++◌, map, refl, ap, sym, subst, arith, ne_eqb, lit<}
use Rattle.chanstate.specs.declared.event.IrcEvent.{IrcEvent}
use Rattle.chanstate.specs.declared.event.EventKind.{EventKind}
use Rattle.chanstate.specs.declared.event.EventKind.TheVariants.{Raw as raw_event, Msg as msg_event, Msgm as msgm_event, Notc as notc_event}
use Rattle.chanstate.specs.declared.event.EventKind.TheVariants.{Pub as pub_event, Pubm as pubm_event, Join as join_event, Part as part_event}
use Rattle.chanstate.specs.declared.event.EventKind.TheVariants.{Sign as sign_event, Kick as kick_event, Nick as nick_event}
use Rattle.chanstate.specs.declared.event.EventKind.TheVariants.{Mode as mode_event, Topc as topc_event, Account as account_event}
use Rattle.chanstate.specs.EventShape.{with_account}
use Rattle.procs.specs.Promises.{Promised}
use Rattle.procs.specs.Seen.{Seen}
use Rattle.procs.specs.declared.bind.Bind.{Bind}
use Rattle.procs.specs.declared.bind_kind.BindKind.{BindKind}
use Rattle.procs.specs.declared.bind_kind.BindKind.TheVariants.{Raw, Msg, Msgm, Notc, Pub, Pubm, Join, Part, Sign, Kick, Nick, Mode, Topc, Account}
use Rattle.procs.specs.declared.bind_kind.BindKind.TheVariants.{Bot, Time, Cron}
use Rattle.procs.specs.Calls.{Occurrence, takes_event, takes_person, is_called, called}
use Rattle.procs.specs.Hearing.{is_of_messages, hear_messages}
use Rattle.procs.specs.Kinds.{place_of, is_kind}
use Rattle.procs.specs.declared.next.Next.{Next}
use Rattle.procs.specs.declared.next.Next.TheVariants.{Stop, Go}
use Rattle.procs.specs.declared.trigger.Trigger.TheVariants.{Heard}
use Rattle.procs.specs.Tellings.{Telling, told_all}
use Rattle.procs.specs.Dispatching.{Setting, occurrence_of, told_heard, is_word, told, next_after, told_from, told_of}
use Rattle.procs.specs.Heard.{kind_of, person_of, call_by}
use Rattle.procs.specs.Made.{Made, IsMade}
use Rattle.procs.specs.Occasions.{kind_for}
use Rattle.procs.specs.Unheard.{CallNone, CallsNone}

-- the kinds of events of messages come before the others
message_place : (event : EventKind) → place_of (kind_of event) < 14
message_place raw_event = lit< tt
message_place msg_event = lit< tt
message_place msgm_event = lit< tt
message_place notc_event = lit< tt
message_place pub_event = lit< tt
message_place pubm_event = lit< tt
message_place join_event = lit< tt
message_place part_event = lit< tt
message_place sign_event = lit< tt
message_place kick_event = lit< tt
message_place nick_event = lit< tt
message_place mode_event = lit< tt
message_place topc_event = lit< tt
message_place account_event = lit< tt

-- one of them isn't any of the others
apart : (event : EventKind) (kind : BindKind) → is_of_messages kind ≡ false → is_kind (kind_of event) kind ≡ false
apart event Bot none = ne_eqb (place_of (kind_of event)) 14 (λ e. omega (arith, message_place event, e))
apart event Time none = ne_eqb (place_of (kind_of event)) 15 (λ e. omega (arith, message_place event, e))
apart event Cron none = ne_eqb (place_of (kind_of event)) 16 (λ e. omega (arith, message_place event, e))
apart event Raw none = absurd cc
apart event Msg none = absurd cc
apart event Msgm none = absurd cc
apart event Notc none = absurd cc
apart event Pub none = absurd cc
apart event Pubm none = absurd cc
apart event Join none = absurd cc
apart event Part none = absurd cc
apart event Sign none = absurd cc
apart event Kick none = absurd cc
apart event Nick none = absurd cc
apart event Mode none = absurd cc
apart event Topc none = absurd cc
apart event Account none = absurd cc

neither_left : (a b : Bool) → (a || b) ≡ false → a ≡ false
neither_left true b e = cc
neither_left false b e = refl

neither_right : (a b : Bool) → (a || b) ≡ false → b ≡ false
neither_right true b e = cc
neither_right false b e = e

called-silent : (event : Occurrence) (kind : EventKind) → event.kind ≡ kind_of kind → (binds : List Bind) → hear_messages binds ≡ false
    → called event binds ≡ []
called-silent event kind is [] none = refl
called-silent event kind is (b ∷ binds) none =
    let other : is_kind event.kind b.kind ≡ false =
    ap (λ (k : BindKind). is_kind k b.kind) is ∙ apart kind b.kind (neither_left (is_of_messages b.kind) (hear_messages binds) none) in
    let uncalled : is_called event b ≡ false = ap (λ t. t && (takes_event b event && takes_person b event)) other in
    ap (λ t. if t then b ∷ called event binds else called event binds) uncalled
    ∙ called-silent event kind is binds (neither_right (is_of_messages b.kind) (hear_messages binds) none)

-- so no event of a message calls one of them
silent-none : (binds : List Bind) → hear_messages binds ≡ false → (events : List IrcEvent) → CallNone binds events
silent-none binds none [] = tt
silent-none binds none (e ∷ es) = (λ person. called-silent (occurrence_of e person) e.kind refl binds none, silent-none binds none es)

-- the account of the person behind events doesn't matter
pub none-account : (binds : List Bind) (account : List ℕ) (events : List IrcEvent) → CallNone binds events
    → CallNone binds (map (with_account account) events)
none-account binds account [] none = tt
none-account binds account (e ∷ es) none = (none.0, none-account binds account es none.1)

module _ (setting : Setting) where
  heard-none : (event : IrcEvent) → CallsNone setting.binds event → told_heard setting event ≡ []
  heard-none event none =
      let person = person_of setting.mapping setting.users event in
      ap (λ (bs : List Bind). told_all setting.code_of setting.names (call_by person.handle event) bs) (none person)

  told-none : (taken : Bool) (event : IrcEvent) → CallsNone setting.binds event → told setting taken (Heard event) ≡ []
  told-none taken event none = by (setting.exclusive && (taken && is_word (kind_for (Heard event))))
    where
      by : (t : Bool) → (if t then [] else told_heard setting event) ≡ []
      by true = refl
      by false = heard-none event none

  from-none : (next : Next) (events : List IrcEvent) → CallNone setting.binds events → told_from setting next (map (λ e. Heard e) events) ≡ []
  from-none next [] none = refl
  from-none Stop (e ∷ es) none = refl
  from-none (Go taken) (e ∷ es) none =
      let after = next_after (kind_for (Heard e)) (told setting taken (Heard e)) in
      ap (λ (ts : List Telling). ts ++ told_from setting after (map (λ e. Heard e) es)) (told-none taken e none.0) ∙ from-none after es none.1

  -- so nothing is all that they come to
  pub made-none : (promised : Promised) (seen : Seen) (events : List IrcEvent) (made : Made) → CallNone setting.binds events
      → made ≡ record { calls = []; unbound = [] } → IsMade promised seen made (told_of setting (map (λ e. Heard e) events))
  made-none promised seen events made none is =
      let nothing : Made = record { calls = []; unbound = [] } in
      subst (λ (m : Made). IsMade promised seen m (told_of setting (map (λ e. Heard e) events))) (sym is)
      (subst (IsMade promised seen nothing) (sym (from-none (Go false) events none)) (record { calls = refl; unbound = refl; kept = tt }))

  -- the same where no bind waits for messages
  pub made-silent : hear_messages setting.binds ≡ false → (promised : Promised) (seen : Seen) (events : List IrcEvent) (made : Made)
      → made ≡ record { calls = []; unbound = [] } → IsMade promised seen made (told_of setting (map (λ e. Heard e) events))
  made-silent none promised seen events made is = made-none promised seen events made (silent-none setting.binds none events) is
