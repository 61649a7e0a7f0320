-- What somebody says means nothing to a connection.
use Rattle.std.proofs.Common.{◌≡◌, ℕ, Bool, true, false, ◌&&◌, ◌||◌, nat_le, List, Option, None, Some, codes, refl, sym, ap, ◌∙◌}
use Rattle.std.proofs.lemmas.Bool.{and_right, or_from}
use Rattle.std.proofs.lemmas.Slice.Eq.{bytes_eq-Decides}
use Rattle.rfccase.specs.declared.casemappings.Casemapping.{Casemapping}
use Rattle.ircline.specs.declared.message.Message.{Message}
use Rattle.serverlink.specs.declared.cue.Cue.TheVariants.{Nothing}
use Rattle.serverlink.specs.declared.session.Session.{Session}
use Rattle.ircline.specs.Said.{is_said}
use Rattle.serverlink.specs.Cues.{cue_of, is_by}
use Rattle.serverlink.specs.Regains.{Regaining, heard, is_free, is_left, lacks, regains, told}
use Rattle.serverlink.specs.Waiting.{HasHeardMessage, message_noted, wants_in}

-- the message with another command
abbrev with_command : Message → List ℕ → Message
with_command message command = record message { command = command }

command_is : (message : Message) → is_said message ≡ true → message.command ≡ codes "PRIVMSG"
command_is message is = (bytes_eq-Decides message.command (codes "PRIVMSG")).0 is

pub no_cue : (mapping : Casemapping) (message : Message) (own : List ℕ) → is_said message ≡ true → cue_of mapping message own ≡ Nothing
no_cue mapping message own is = ap (λ (command : List ℕ). cue_of mapping (with_command message command) own) (command_is message is)

or_false : (x : Bool) → x || false ≡ x
or_false true = refl
or_false false = refl

-- ---- the nick that the bot wants

module _ (mapping : Casemapping) (message : Message) (wanted : List ℕ) (now : ℕ) where
  abbrev said : Message
  said = with_command message (codes "PRIVMSG")

  not_left : is_left mapping said wanted ≡ false
  not_left = and_right (is_by mapping said wanted) false refl

  not_free : (regaining : Regaining) → is_free mapping regaining said wanted ≡ false
  not_free regaining =
      or_from (is_left mapping said wanted || false) (regaining.asked && false) (or_from (is_left mapping said wanted) false not_left refl)
      (and_right regaining.asked false refl)

  not_regained : (regaining : Regaining) → regains mapping regaining said wanted now ≡ false
  not_regained regaining =
      and_right (lacks mapping regaining.nick wanted && nat_le regaining.tells now) (is_free mapping regaining said wanted) (not_free regaining)

  nothing_heard : (regaining : Regaining) → heard mapping regaining said wanted now ≡ regaining
  nothing_heard regaining =
      ap (λ (again : Bool). told again now (record regaining { monitors = regaining.monitors || false })) (not_regained regaining)
      ∙ ap (λ (monitors : Bool). record regaining { monitors = monitors }) (or_false regaining.monitors)

pub nothing_noted : (message : Message) (own wanted : List ℕ) (now : ℕ) (session : Option Session) → is_said message ≡ true
    → HasHeardMessage message own wanted now session session
nothing_noted message own wanted now None is = tt
nothing_noted message own wanted now (Some session) is =
    let mapping = session.casing.mapping in
    ap (λ (regain : Regaining). Some (record { mapping = mapping; regain = regain })) (sym (nothing_heard mapping message wanted now session.regain))
    ∙ sym (ap (λ (command : List ℕ). wants_in (message_noted (with_command message command) own wanted now (Some session))) (command_is message is))
