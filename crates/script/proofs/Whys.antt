-- Why a line is the first that breaks a rule.
use Rattle.std.proofs.Common.{◌≡◌, ◌∙◌, ℕ, ◌+◌, ◌<◌, Bool, false, nat_lt, Option, List, [], length, take, get_or, sym, ap, subst, add-one}
use Rattle.std.proofs.Common.{Result, Ok, Err, if◌then◌else◌}
use Rattle.std.specs.Prelude.{unwrap_or}
use Rattle.std.specs.Borrow.{Bor}
use Rattle.std.proofs.lemmas.List.{get_or-map}
use Rattle.bytetext.specs.declared.failure.Failure.{Failure}
use Rattle.bytetext.specs.declared.failure.Failure.TheVariants.{Refused, NoMemory}
use Rattle.script.specs.declared.reason.Reason.{Reason}
use Rattle.script.specs.declared.reason.Reason.TheVariants.{TooLong}
use Rattle.script.specs.LineReasons.{line_reason}
use Rattle.script.specs.declared.TheConstants.{MAX_SCRIPT}
use Rattle.script.specs.declared.error.ScriptFault.{ScriptFault}
use Rattle.script.specs.declared.saying.Saying.{Saying}
use Rattle.script.specs.declared.reading.Script.{Script}
use Rattle.script.specs.Grammar.{saying_of}
use Rattle.script.specs.Reading.{said, lines_of}
use Rattle.script.specs.Outcomes.{so_far, HasLineFault, LinesReadAs}
use Rattle.script.specs.Reasons.{order_reason, reason_after, lines_why, TellsReason, LinesTellWhy, TellsWhy}
use Rattle.script.proofs.Sayings.{now_of}

-- a fault is of the line that it tells
pub fault-reads : (lines : List (List ℕ)) (line : ℕ) (reason : Reason) (e : Failure ScriptFault) → TellsReason line reason e
    → HasLineFault lines line → LinesReadAs lines (Err e)
fault-reads lines line reason (Refused fault) is broken = subst (HasLineFault lines) (sym (ap (λ f. f.line) is)) broken
fault-reads lines line reason NoMemory is broken = tt

-- and has the reason of that line
pub fault-tells : (lines : List (List ℕ)) (line : ℕ) (reason : Reason) (e : Failure ScriptFault) → TellsReason line reason e
    → reason ≡ lines_why lines line → LinesTellWhy {T = Script} lines (Err e)
fault-tells lines line reason (Refused fault) is why =
    ap (λ f. f.reason) is ∙ why ∙ ap (lines_why lines) (sym (ap (λ f. f.line) is))
fault-tells lines line reason NoMemory is why = tt

-- the reason of the next line
pub why-at : (lines : List (Bor (List ℕ))) (i : ℕ) (d : Bor (List ℕ)) (script : Option Script) (saying : Saying) (order : Reason)
    → i < length lines → so_far script ≡ said (take i (now_of lines)) → saying ≡ saying_of (get_or lines i d).now
    → order ≡ order_reason (so_far script) saying
    → unwrap_or (line_reason (get_or lines i d).now) order ≡ lines_why (now_of lines) (i + 1)
why-at lines i d script saying order within before is orders =
    ap (unwrap_or (line_reason (get_or lines i d).now))
    (orders ∙ ap (λ says. order_reason says saying) before ∙ ap (order_reason (said (take i (now_of lines)))) is)
    ∙ ap (reason_after (said (take i (now_of lines)))) (sym (get_or-map (λ l. l.now) lines i d [] within))
    ∙ sym (ap (lines_why (now_of lines)) (add-one i))

-- the reason of a line is that of the bytes where they aren't too many
pub TellsWhy-lines : (bytes : List ℕ) (result : Result Script (Failure ScriptFault)) → nat_lt MAX_SCRIPT (length bytes) ≡ false
    → LinesTellWhy (lines_of bytes) result → TellsWhy bytes result
TellsWhy-lines bytes (Ok script) short tells = tt
TellsWhy-lines bytes (Err (Refused fault)) short tells =
    tells ∙ sym (ap (λ (long : Bool). if long then TooLong else lines_why (lines_of bytes) fault.line) short)
TellsWhy-lines bytes (Err NoMemory) short tells = tt
