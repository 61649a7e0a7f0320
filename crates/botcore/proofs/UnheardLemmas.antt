-- Messages that a quick look shows to call no bind.
use Rattle.std.proofs.Common.{◌≡◌, ◌∙◌, ℕ, ◌==◌, Bool, true, false, if◌then◌else◌, List, [], ◌∷◌, ◌++◌, length, get_or, drop, Option, Some, None, is_some, refl, ap, sym, subst, arith}
use Rattle.std.specs.Prelude.{codes}
use Rattle.std.specs.Option.{option_map}
use Rattle.bytetext.specs.Words.{first_word, after_word}
use Rattle.rfccase.specs.Casemapping.{is_same_by}
use Rattle.ircline.specs.declared.message.Message.{Message}
use Rattle.ircline.specs.Sources.{Source, Nobody, Server, Person, source_of}
use Rattle.chanstate.specs.declared.channel.Channel.{Channel}
use Rattle.chanstate.specs.declared.channel_command.ChannelCommand.{ChannelCommand}
use Rattle.chanstate.specs.declared.channel_command.ChannelCommand.TheVariants.{Privmsg}
use Rattle.chanstate.specs.declared.event.IrcEvent.{IrcEvent}
use Rattle.chanstate.specs.declared.event.EventKind.TheVariants.{Pub as pub_event, Pubm as pubm_event}
use Rattle.chanstate.specs.declared.state.ChanState.{ChanState}
use Rattle.chanstate.specs.Announced.{has_status}
use Rattle.chanstate.specs.Events.{account_behind, events_of, raw, typed, typed_by}
use Rattle.chanstate.specs.EventShape.{event_with}
use Rattle.chanstate.specs.Given.{address_of, by_person}
use Rattle.chanstate.specs.Items.{verb_of}
use Rattle.chanstate.specs.Speech.{channel_sent, is_hidden, said, said_on, says, to_bot, to_channel}
use Rattle.chanstate.specs.Views.{channel_in, mapping_of}
use Rattle.procs.specs.declared.bind.Bind.{Bind}
use Rattle.procs.specs.declared.bind_kind.BindKind.{BindKind}
use Rattle.procs.specs.declared.bind_kind.BindKind.TheVariants.{Raw, Pub, Pubm}
use Rattle.procs.specs.Calls.{Occurrence, called}
use Rattle.procs.specs.Dispatching.{occurrence_of}
use Rattle.procs.specs.Unheard.{CallNone}
use Rattle.procs.proofs.UnheardLemmas.{none-account}

-- no bind of a kind takes this subject, whoever it comes from
abbrev pub TakesNone : List Bind → BindKind → List ℕ → Type 0
TakesNone binds kind subject = (event : Occurrence) → event.kind ≡ kind → event.subject ≡ subject → called event binds ≡ []

-- a message with two parameters
pub both-of : (ps : List (List ℕ)) (a b : List ℕ) → length ps ≡ 2 → a ≡ get_or ps 0 a → b ≡ get_or ps 1 b → ps ≡ a ∷ b ∷ []
both-of [] a b two first second = absurd (omega arith)
both-of (x ∷ []) a b two first second = absurd (omega arith)
both-of (x ∷ y ∷ []) a b two first second = ap (λ (z : List ℕ). z ∷ y ∷ []) (sym first) ∙ ap (λ (z : List ℕ). a ∷ z ∷ []) (sym second)
both-of (x ∷ y ∷ z ∷ ps) a b two first second = absurd (omega arith)

module _ (binds : List Bind) where
  -- ---- what a person says on a channel

  pub said-on : (nick address channel text : List ℕ) → TakesNone binds Pub (first_word text) → TakesNone binds Pubm (channel ++ 32 ∷ text)
      → CallNone binds (to_channel nick address channel text)
  said-on nick address channel text word whole = by (length (first_word text) == 0)
    where
      all_of_it : IrcEvent
      all_of_it = event_with pubm_event (channel ++ 32 ∷ text) (Some channel) (nick ∷ address ∷ channel ∷ text ∷ [])

      its_word : IrcEvent
      its_word = event_with pub_event (first_word text) (Some channel) (nick ∷ address ∷ channel ∷ after_word text ∷ [])

      by : (c : Bool) → CallNone binds (if c then all_of_it ∷ [] else all_of_it ∷ its_word ∷ [])
      by true = (λ person. whole (occurrence_of all_of_it person) refl refl, tt)
      by false = (λ person. whole (occurrence_of all_of_it person) refl refl, (λ person. word (occurrence_of its_word person) refl refl, tt))

  -- ---- what a person says

  pub said-hidden : (nick address target text : List ℕ) (s : ChanState) → is_hidden text ≡ true → CallNone binds (said nick address target text s)
  said-hidden nick address target text s hidden =
      let loud = if is_same_by (mapping_of s) target s.nick then to_bot nick address text else said_on nick address text (channel_sent target s) in
      subst (λ (c : Bool). CallNone binds (if c then [] else loud)) (sym hidden) tt

  pub said-held : (nick address target text name : List ℕ) (s : ChanState) → is_hidden text ≡ false → is_same_by (mapping_of s) target s.nick ≡ false
      → Some name ≡ option_map (λ c. c.name) (channel_in target s) → CallNone binds (to_channel nick address name text)
      → CallNone binds (said nick address target text s)
  said-held nick address target text name s shown other held none =
      let loud = if is_same_by (mapping_of s) target s.nick then to_bot nick address text else said_on nick address text (channel_sent target s) in
      subst (λ (c : Bool). CallNone binds (if c then [] else loud)) (sym shown)
      (subst (λ (c : Bool). CallNone binds (if c then to_bot nick address text else said_on nick address text (channel_sent target s))) (sym other)
      (by (channel_in target s) held))
    where
      by : (o : Option Channel) → Some name ≡ option_map (λ (c : Channel). c.name) o
          → CallNone binds (said_on nick address text (if is_some o then o else (if has_status s.support target then channel_in (drop 1 target) s else None)))
      by None e = absurd cc
      by (Some channel) e = let same : name ≡ channel.name = cc in subst (λ (n : List ℕ). CallNone binds (to_channel nick address n text)) same none

  -- ---- a message

  pub message-none : (m : Message) (s : ChanState) (target text : List ℕ) → m.command ≡ codes "PRIVMSG" → m.params ≡ target ∷ text ∷ []
      → TakesNone binds Raw m.command → ((nick address : List ℕ) → CallNone binds (said nick address target text s)) → CallNone binds (events_of m s)
  message-none m s target text is params takes none =
      none-account binds (account_behind m s) (raw m ∷ typed m s) (λ person. takes (occurrence_of (raw m) person) refl refl, typed_none)
    where
      by : (who : Source) → CallNone binds (by_person who (λ nick address. says nick address (target ∷ text ∷ []) s))
      by Nobody = tt
      by (Server name) = tt
      by (Person nick user host) = none nick (address_of user host)

      verb : verb_of m.command ≡ Privmsg
      verb = ap verb_of is

      typed_none : CallNone binds (typed m s)
      typed_none =
          subst (λ (v : ChannelCommand). CallNone binds (typed_by v (source_of m.prefix) m.params s)) (sym verb)
          (subst (λ (ps : List (List ℕ)). CallNone binds (typed_by Privmsg (source_of m.prefix) ps s)) (sym params) (by (source_of m.prefix)))
