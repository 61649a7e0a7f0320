-- What lines mean for a registration.
use Rattle.std.proofs.Common.{Bool, true, false, cond, ◌≡◌, refl, ap, ◌∙◌, Option, List, ℕ}
use Rattle.ircline.specs.declared.line.Line.{Line}
use Rattle.ircline.specs.declared.line.Line.TheVariants.{Message as a_message, Bad as a_bad_line}
use Rattle.registration.specs.declared.registration_event.RegistrationEvent.TheVariants.{Nothing}
use Rattle.registration.specs.declared.hearing.Hearing.{Hearing}
use Rattle.registration.specs.declared.hearing.Work.{Work}
use Rattle.registration.specs.declared.hearing.Work.TheVariants as work
use Rattle.registration.specs.declared.registration.Registration.{Registration}
use Rattle.registration.specs.Hearings.{IsQuiet, changes_nothing, finished, hearing_of, is_derived, is_salted, on_message}

pub quiet_changes_nothing : (r : Registration) (line : Line) → IsQuiet line → hearing_of r line ≡ changes_nothing Nothing
quiet_changes_nothing r (a_message message) quiet =
    ap (λ (piece : Option (List ℕ)). on_message piece r message) quiet.0 ∙ ap changes_nothing quiet.1
quiet_changes_nothing r (a_bad_line why) quiet = refl

unfinished : (over : Bool) (hearing : Hearing) → over ≡ false → cond over hearing (changes_nothing Nothing) ≡ changes_nothing Nothing
unfinished true hearing not_over = cc
unfinished false hearing not_over = refl

pub nothing_finished : (kept : Work) → is_derived kept ≡ false → finished kept ≡ changes_nothing Nothing
nothing_finished work.Nothing not_derived = refl
nothing_finished (work.Salting salting) not_derived = unfinished (is_salted salting) _ not_derived
nothing_finished (work.Final own) not_derived = refl
