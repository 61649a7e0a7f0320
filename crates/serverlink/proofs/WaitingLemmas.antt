-- What a line of the server, and lines that are sent, leave of what a connection keeps.
use Rattle.std.proofs.Common.{◌≡◌, ◌+◌, ◌∷◌, ◌++◌, ℕ, Bool, true, false, List, [], Option, None, Some, if◌then◌else◌, option_map, is_some, take, drop, length, refl, sym, ap, subst, ◌∙◌, arith, append-nil, take-add, codes, Result, Ok, Err, OnOk}
use Rattle.std.proofs.lemmas.List.{drop-drop, drop_all}
use Rattle.rfccase.specs.declared.casemappings.Casemapping.{Casemapping}
use Rattle.ircline.specs.declared.line.Line.{Line}
use Rattle.ircline.specs.declared.message.Message.{Message}
use Rattle.registration.specs.declared.registration.Registration.{Registration}
use Rattle.registration.specs.declared.registration_fault.RegistrationFault.{RegistrationFault}
use Rattle.registration.specs.Registrations.{fault_of}
use Rattle.registration.specs.Talks.{Hear, Turn, turned}
use Rattle.net.specs.Connections.{Talk}
use Rattle.serverlink.specs.declared.cue.Cue.{Cue}
use Rattle.serverlink.specs.Asking.{question_told, told_of}
use Rattle.serverlink.specs.Casings.{mapping_in}
use Rattle.serverlink.specs.Cues.{cue_of, nick_by}
use Rattle.serverlink.specs.Logins.{line_for, line_heard, with_turn}
use Rattle.serverlink.specs.Questions.{due, who_line}
use Rattle.serverlink.specs.Regains.{asked, heard, is_due, named}
use Rattle.serverlink.specs.Talks.{TellsMore, ping_of, pings, talk_in, told, told_all}
use Rattle.serverlink.specs.Vigils.{care_of}
use Rattle.serverlink.specs.Waiting.{AreLast, HasHeardMessage, TellsWaiting, Wants, casing_heard, wants_in, wants_of}
use Rattle.serverlink.specs.Wanting.{is_nick_due, nick_asked, nick_heard, nick_noted, questions, with_nick_of}
use Rattle.serverlink.specs.declared.vigil.Care.{Care}
use Rattle.serverlink.specs.declared.session.Session.{Session}

-- ---- a line of the server

-- what it says of the nick depends on nothing of a connection but what it knows of the nick
module _ (mapping : Casemapping) (cue : Cue) (message : Message) (wanted : List ℕ) (now : ℕ) where
  abbrev with_name : Option (List ℕ) → Wants → Wants
  with_name None wants = wants
  with_name (Some nick) wants = record wants { regain = named wants.regain nick now }

  abbrev noted_of : Option (List ℕ) → Option Wants → Option Wants
  noted_of nick None = None
  noted_of nick (Some wants) = Some (with_name nick (record wants { regain = heard mapping wants.regain message wanted now }))

  noted_are : (nick : Option (List ℕ)) (session : Option Session)
      → wants_in (with_nick_of nick now (nick_heard mapping message wanted now session)) ≡ noted_of nick (wants_in session)
  noted_are None None = refl
  noted_are None (Some session) = refl
  noted_are (Some nick) None = refl
  noted_are (Some nick) (Some session) = refl

  pub same_noted : (old new : Option Session) → wants_in new ≡ wants_in old
      → wants_in (nick_noted mapping cue message wanted now new) ≡ wants_in (nick_noted mapping cue message wanted now old)
  same_noted old new same =
      noted_are (nick_by cue message) new ∙ ap (noted_of (nick_by cue message)) same ∙ sym (noted_are (nick_by cue message) old)

  none_noted : (new : Session) → Some (wants_of new) ≡ wants_in (nick_noted mapping cue message wanted now None) → ⊥
  none_noted new noted =
      let none : Some (wants_of new) ≡ None = noted ∙ noted_are (nick_by cue message) None in
      absurd cc

-- what a login makes of a line changes nothing of it
after_turn_kept : (message : Message) (why : Option RegistrationFault) (turn : Turn) (login : Registration) (session new : Session)
    → with_turn why turn login session ≡ Some new
    → wants_in (casing_heard message (Some new)) ≡ wants_in (casing_heard message (Some session))
after_turn_kept message None turn login session new is = ap (λ (one : Option Session). wants_in (casing_heard message one)) (sym is)
after_turn_kept message (Some why) turn login session new is = absurd cc

login_kept : (message : Message) (login : Option Registration) (line : Line) (session new : Session) → line_for login line session ≡ Some new
    → wants_in (casing_heard message (Some new)) ≡ wants_in (casing_heard message (Some session))
login_kept message None line session new is = ap (λ (one : Option Session). wants_in (casing_heard message one)) (sym is)
login_kept message (Some login) line session new is =
    after_turn_kept message (fault_of (turned login (Hear line)).negotiation.stage) (Hear line) login session new is

casing_kept : (message : Message) (line : Line) (old : Option Session) (new : Session) → line_heard line old ≡ Some new
    → wants_in (casing_heard message (Some new)) ≡ wants_in (casing_heard message old)
casing_kept message line None new is = absurd cc
casing_kept message line (Some session) new is = login_kept message session.login line session new is

-- a login hears the line first, and the message of it is noted then
pub has_heard : (line : Line) (message : Message) (own wanted : List ℕ) (now : ℕ) (old after new : Option Session)
    → line_heard line old ≡ after
    → wants_in new ≡ wants_in (nick_noted (mapping_in old) (cue_of (mapping_in old) message own) message wanted now (casing_heard message after))
    → HasHeardMessage message own wanted now old new
has_heard line message own wanted now old after None login noted = tt
has_heard line message own wanted now old None (Some new) login noted =
    absurd (none_noted (mapping_in old) (cue_of (mapping_in old) message own) message wanted now new noted)
has_heard line message own wanted now old (Some after) (Some new) login noted =
    noted ∙ same_noted (mapping_in old) (cue_of (mapping_in old) message own) message wanted now (casing_heard message old)
    (casing_heard message (Some after)) (casing_kept message line old after login)

-- ---- the lines that wait

-- the oldest of them is sent
pub one_less : (lines rest new : List (List ℕ)) → AreLast lines rest → new ≡ drop 1 rest → AreLast lines new
one_less lines rest new last is = (last.0 + 1, is ∙ ap (drop 1) last.1 ∙ drop-drop 1 last.0 lines)

-- none waits
pub none_left : (lines rest : List (List ℕ)) → rest ≡ [] → AreLast lines rest
none_left lines rest none = (length lines, none ∙ sym (drop_all (length lines) lines (omega arith)))

-- ---- the lines that are queued for the server

append_told : (lines more : List (List ℕ)) (talk : Talk) → told_all (lines ++ more) talk ≡ told_all more (told_all lines talk)
append_told [] more talk = refl
append_told (line ∷ lines) more talk = append_told lines more (told line talk)

told_ending : (lines : List (List ℕ)) (talk : Talk) → told_all (lines ++ []) talk ≡ told_all lines talk
told_ending lines talk = ap (λ (lines : List (List ℕ)). told_all lines talk) (append-nil lines)

-- one
pub one_more : (line : List ℕ) (old new : Option Talk) → new ≡ option_map (told line) old → TellsMore old new
one_more line old new is = (line ∷ [], is)

-- a question about a channel, if there is one
asked_if : (question : Option (List ℕ)) (old : Talk) → TellsMore (Some old) (Some (told_of question old))
asked_if None old = ([], refl)
asked_if (Some channel) old = (who_line channel ∷ [], refl)

pub asked_more : (session : Option Session) (new : Option Talk) → new ≡ option_map question_told session → TellsMore (talk_in session) new
asked_more None new is = ([], is)
asked_more (Some session) new is =
    let asks : TellsMore (Some session.wire) (Some (question_told session)) = asked_if (due session.questions) session.wire in
    (asks.0, is ∙ asks.1)

-- some, and then some
pub still_more : (start old new : Option Talk) → TellsMore start old → TellsMore old new → TellsMore start new
still_more None old new first more = ([], more.1 ∙ ap (λ (talk : Option Talk). option_map (told_all more.0) talk) first.1)
still_more (Some start) old new first more = (
  first.0 ++ more.0,
  more.1 ∙ ap (λ (talk : Option Talk). option_map (told_all more.0) talk) first.1
      ∙ ap (λ (talk : Talk). Some talk) (sym (append_told first.0 more.0 start)),
)

-- and then none
pub no_more : (start old new : Option Talk) → TellsMore start old → new ≡ old → TellsMore start new
no_more start old new first same = (first.0, same ∙ first.1)

-- ---- the lines that wait, and are queued for the server

-- as yet none
pub none_first : (lines : List (List ℕ)) (talk : Option Talk) → TellsWaiting [] lines [] lines talk talk
none_first lines None = refl
none_first lines (Some talk) = record { sent = 0; waits = refl; told = refl }

-- and the next one
pub next_first : (lines rest new_rest : List (List ℕ)) (start old new : Option Session)
    → TellsWaiting [] lines [] rest (talk_in start) (talk_in old) → is_some old ≡ is_some start → is_some old ≡ true
    → new_rest ≡ drop 1 rest → talk_in new ≡ option_map (told_all (take 1 rest)) (talk_in old)
    → TellsWaiting [] lines [] new_rest (talk_in start) (talk_in new)
next_first lines rest new_rest None old new first same some less told = absurd cc
next_first lines rest new_rest (Some start) None new first same some less told = absurd cc
next_first lines rest new_rest (Some start) (Some old) None first same some less told = absurd cc
next_first lines rest new_rest (Some start) (Some old) (Some new) first same some less told =
    let is : new.wire ≡ told_all (take 1 rest) old.wire = cc in
    let before : old.wire ≡ told_all (take first.sent lines) start.wire = first.told ∙ told_ending (take first.sent lines) start.wire in
    let more : take (first.sent + 1) lines ≡ take first.sent lines ++ take 1 rest =
    take-add first.sent 1 lines ∙ ap (λ (rest : List (List ℕ)). take first.sent lines ++ take 1 rest) (sym first.waits) in
    record {
      sent = first.sent + 1;
      waits = less ∙ ap (drop 1) first.waits ∙ drop-drop 1 first.sent lines;
      told = is ∙ ap (told_all (take 1 rest)) before ∙ sym (append_told (take first.sent lines) (take 1 rest) start.wire)
          ∙ ap (λ (lines : List (List ℕ)). told_all lines start.wire) (sym more) ∙ sym (told_ending (take (first.sent + 1) lines) start.wire);
    }

-- others after them
others_follow : (lines rest : List (List ℕ)) (start old new : Option Talk) → TellsWaiting [] lines [] rest start old → TellsMore old new
    → (after : List (List ℕ)) × TellsWaiting [] lines after rest start new
others_follow lines rest None old new first more = ([], first)
others_follow lines rest (Some start) None None first more = ([], first)
others_follow lines rest (Some start) None (Some new) first more = let none : Some new ≡ None = more.1 in absurd cc
others_follow lines rest (Some start) (Some old) None first more = let none : None ≡ Some (told_all more.0 old) = more.1 in absurd cc
others_follow lines rest (Some start) (Some old) (Some new) first more =
    let told : Some new ≡ Some (told_all more.0 old) = more.1 in
    let is : new ≡ told_all more.0 old = cc in
    let before : old ≡ told_all (take first.sent lines) start = first.told ∙ told_ending (take first.sent lines) start in (
      more.0,
      record {
        sent = first.sent;
        waits = first.waits;
        told = is ∙ ap (told_all more.0) before ∙ sym (append_told (take first.sent lines) more.0 start);
      },
    )

-- after the question about the nick, which only waits as yet, and before the JOINs and the questions about channels
pub all_told : (lines asked rest last : List (List ℕ)) (start nicked own joined new : Option Talk)
    → asked ≡ lines → nicked ≡ start → TellsWaiting [] asked [] rest nicked own → TellsMore own joined → last ≡ rest → TellsMore joined new
    → (after : List (List ℕ)) × TellsWaiting [] lines after last start new
all_told lines asked rest last start nicked own joined new is same first more left others =
    let of_lines : TellsWaiting [] lines [] rest nicked own =
    subst (λ (lines : List (List ℕ)). TellsWaiting [] lines [] rest nicked own) is first in
    let of_start : TellsWaiting [] lines [] rest start own =
    subst (λ (start : Option Talk). TellsWaiting [] lines [] rest start own) same of_lines in
    let of_last : TellsWaiting [] lines [] last start own =
    subst (λ (last : List (List ℕ)). TellsWaiting [] lines [] last start own) (sym left) of_start in
    others_follow lines last start own new of_last (still_more own joined new more others)

-- a ping before them
ping_before : (before lines after rest : List (List ℕ)) (start old new : Option Talk) → old ≡ option_map (told_all before) start
    → TellsWaiting [] lines after rest old new → TellsWaiting before lines after rest start new
ping_before before lines after rest None None new pinged first = first
ping_before before lines after rest None (Some old) new pinged first = absurd cc
ping_before before lines after rest (Some start) None new pinged first = absurd cc
ping_before before lines after rest (Some start) (Some old) None pinged first = first
ping_before before lines after rest (Some start) (Some old) (Some new) pinged first =
    let is : old ≡ told_all before start = cc in
    record {
      sent = first.sent;
      waits = first.waits;
      told = first.told ∙ ap (told_all (take first.sent lines ++ after)) is ∙ sym (append_told before (take first.sent lines ++ after) start);
    }

-- the question about the nick only waits as yet
asked_talk : (is_due : Bool) (now : ℕ) (session : Session)
    → (if is_due then record session { regain = asked session.regain now } else session).wire ≡ session.wire
asked_talk true now session = refl
asked_talk false now session = refl

pub nick_talk : (wanted : List ℕ) (now : ℕ) (session : Option Session) → talk_in (nick_asked wanted now session) ≡ talk_in session
nick_talk wanted now None = refl
nick_talk wanted now (Some session) = ap (λ (talk : Talk). Some talk) (asked_talk (is_nick_due session wanted now) now session)

-- ---- a connection that is kept

module _ (wanted : List ℕ) (now : ℕ) where
  abbrev questions_of : Option Wants → List (List ℕ)
  questions_of None = []
  questions_of (Some wants) =
      if is_due wants.mapping wants.regain wanted now
      then if wants.regain.monitors then (codes "MONITOR + " ++ wanted) ∷ (codes "ISON " ++ wanted) ∷ [] else (codes "ISON " ++ wanted) ∷ []
      else []

  questions_are : (session : Option Session) → questions session wanted now ≡ questions_of (wants_in session)
  questions_are None = refl
  questions_are (Some session) = refl

  -- whether it is asked for the nick depends on nothing else
  same_questions : (old new : Option Session) → wants_in new ≡ wants_in old → questions new wanted now ≡ questions old wanted now
  same_questions old new same = questions_are new ∙ ap (λ (wants : Option Wants). questions_of wants) same ∙ sym (questions_are old)

-- what it does about the silence is to ping at most
pinged : (steady : ℕ) (care : Care) (old : Option Session) (session after : Session) (new : Option Talk) → old ≡ Some session
    → care ≡ care_of session.vigil steady session.is_welcomed → after.wire ≡ session.wire
    → new ≡ option_map (told_all (ping_of care)) (Some after.wire) → new ≡ option_map (told_all (pings steady old)) (talk_in old)
pinged steady care old session after new is cares same told =
    subst (λ (old : Option Session). new ≡ option_map (told_all (pings steady old)) (talk_in old)) (sym is)
    (told ∙ ap (λ (talk : Talk). Some (told_all (ping_of care) talk)) same
    ∙ ap (λ (care : Care). Some (told_all (ping_of care) session.wire)) cares)

after_ping : (before lines other rest : List (List ℕ)) (start old new : Option Talk) → other ≡ lines → old ≡ option_map (told_all before) start
    → (after : List (List ℕ)) × TellsWaiting [] other after rest old new → (after : List (List ℕ)) × TellsWaiting before lines after rest start new
after_ping before lines other rest start old new is pinged first = (
  first.0,
  ping_before before lines first.0 rest start old new pinged
      (subst (λ (lines : List (List ℕ)). TellsWaiting [] lines first.0 rest old new) is first.1),
)

-- so the lines that it queues are, after a ping that is due, the first of those that waited before
pub kept_told : (steady : ℕ) (wanted : List ℕ) (now : ℕ) (care : Care) (own mid_own rest : List (List ℕ))
    (old : Option Session) (session after : Session) (mid : Option Session) (new : Option Talk) → old ≡ Some session
    → care ≡ care_of session.vigil steady session.is_welcomed → after.wire ≡ session.wire → wants_of after ≡ wants_of session
    → mid_own ≡ own → wants_in mid ≡ wants_in (Some after) → talk_in mid ≡ option_map (told_all (ping_of care)) (Some after.wire)
    → (others : List (List ℕ)) × TellsWaiting [] (mid_own ++ questions mid wanted now) others rest (talk_in mid) new
    → (others : List (List ℕ)) × TellsWaiting (pings steady old) (own ++ questions old wanted now) others rest (talk_in old) new
kept_told steady wanted now care own mid_own rest old session after mid new is cares same wants owns mid_wants told first =
    let all_wants : wants_in mid ≡ wants_in old =
    mid_wants ∙ ap (λ (wants : Wants). Some wants) wants ∙ ap (λ (session : Option Session). wants_in session) (sym is) in
    let lines : mid_own ++ questions mid wanted now ≡ own ++ questions old wanted now =
    ap (λ (own : List (List ℕ)). own ++ questions mid wanted now) owns
    ∙ ap (λ (asked : List (List ℕ)). own ++ asked) (same_questions wanted now old mid all_wants) in
    after_ping (pings steady old) (own ++ questions old wanted now) (mid_own ++ questions mid wanted now) rest (talk_in old) (talk_in mid) new
    lines (pinged steady care old session after (talk_in mid) is cares same told) first

-- ---- a call that succeeds

pub on_ok : {X E A B : Type 0} (result : Result X E) → OnOk result A → (A → B) → OnOk result B
on_ok (Ok x) one more = more one
on_ok (Err e) one more = tt
