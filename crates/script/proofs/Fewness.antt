-- A script has no more leaves than a hub may have.
use Rattle.std.proofs.Common.{◌≡◌, ℕ, ◌≤◌, nat_le, Bool, true, false, if◌then◌else◌, List, [], ◌∷◌, Option, None, Some, arith, subst, refl, ◌==◌}
use Rattle.std.specs.Option.{option_and_then}
use Rattle.std.proofs.lemmas.Bool.Decides.{nat_tests}
use Rattle.sharelink.specs.declared.TheConstants.{MAX_LEAVES}
use Rattle.script.specs.declared.command.Command.{Command}
use Rattle.script.specs.declared.saying.Saying.{Saying}
use Rattle.script.specs.declared.saying.Saying.TheVariants.{Nothing, Leaves, Zone, Told, Wrong}
use Rattle.script.specs.declared.verb.Verb.{Verb}
use Rattle.script.specs.declared.verb.Verb.TheVariants.{Leaves as leaves_verb, Ask as ask_verb, Pump as pump_verb, Connect as connect_verb}
use Rattle.script.specs.declared.verb.Verb.TheVariants.{Compact as compact_verb, Restart as restart_verb}
use Rattle.script.specs.declared.verb.Verb.TheVariants.{Line as line_verb, Clock as clock_verb, Bind as bind_verb, Unbind as unbind_verb}
use Rattle.script.specs.declared.verb.Verb.TheVariants.{Deliver as deliver_verb, Show as show_verb, Zone as zone_verb}
use Rattle.script.specs.Grammar.{few_leaves, counted, zoned, told, two_words, more_words, saying_by_words, saying_of, bot_of}
use Rattle.bottimers.specs.Zones.{TzText}
use Rattle.script.specs.Vocabulary.{verb_named}
use Rattle.recordtext.specs.Words.{words_of}
use Rattle.script.specs.Reading.{said, onto_said}
use Rattle.script.specs.Outcomes.{LinesReadAs}
use Rattle.script.specs.declared.reading.Script.{Script}
use Rattle.script.specs.declared.error.ScriptFault.{ScriptFault}
use Rattle.bytetext.specs.declared.failure.Failure.{Failure}
use Rattle.std.specs.Prelude.{Result, Ok, Err, IfOk}

-- the number of leaves that a line says
abbrev pub IsFew : Saying → Type 0
IsFew Nothing = Unit {0}
IsFew (Leaves n) = n ≤ MAX_LEAVES
IsFew (Zone rule) = Unit {0}
IsFew (Told command) = Unit {0}
IsFew Wrong = Unit {0}

abbrev pub AreFew : List Saying → Type 0
AreFew [] = Unit {0}
AreFew (s ∷ says) = IsFew s × AreFew says

counted-few : (number : Option ℕ) → IsFew (counted (option_and_then few_leaves number))
counted-few None = tt
counted-few (Some n) = by (nat_le n MAX_LEAVES) refl
  where
    by : (b : Bool) → nat_le n MAX_LEAVES ≡ b → IsFew (counted (if b then Some n else None))
    by true e = grind (arith, nat_tests)
    by false e = tt

zoned-few : (rule : Option TzText) → IsFew (zoned rule)
zoned-few None = tt
zoned-few (Some rule) = tt

told-few : (command : Option Command) → IsFew (told command)
told-few None = tt
told-few (Some command) = tt

two_words-few : (verb : Option Verb) (a : List ℕ) → IsFew (two_words verb a)
two_words-few None a = tt
two_words-few (Some leaves_verb) a = counted-few (bot_of a)
two_words-few (Some ask_verb) a = tt
two_words-few (Some pump_verb) a = told-few _
two_words-few (Some compact_verb) a = told-few _
two_words-few (Some restart_verb) a = told-few _
two_words-few (Some connect_verb) a = told-few _
two_words-few (Some line_verb) a = tt
two_words-few (Some clock_verb) a = tt
two_words-few (Some bind_verb) a = tt
two_words-few (Some unbind_verb) a = tt
two_words-few (Some deliver_verb) a = told-few _
two_words-few (Some show_verb) a = told-few _
two_words-few (Some zone_verb) a = zoned-few _

more_words-few : (verb : Option Verb) (a first : List ℕ) (words : List (List ℕ)) → IsFew (more_words verb a first words)
more_words-few None a first words = tt
more_words-few (Some leaves_verb) a first words = tt
more_words-few (Some ask_verb) a first words = told-few _
more_words-few (Some pump_verb) a first words = tt
more_words-few (Some compact_verb) a first words = tt
more_words-few (Some restart_verb) a first words = tt
more_words-few (Some connect_verb) a first words = tt
more_words-few (Some line_verb) a first words = told-few _
more_words-few (Some clock_verb) a first words = told-few _
more_words-few (Some bind_verb) a first words = told-few _
more_words-few (Some unbind_verb) a first words = told-few _
more_words-few (Some deliver_verb) a first words = tt
more_words-few (Some show_verb) a first words = tt
more_words-few (Some zone_verb) a first words = tt

saying_by_words-few : (words : List (List ℕ)) → IsFew (saying_by_words words)
saying_by_words-few [] = tt
saying_by_words-few (verb ∷ []) = tt
saying_by_words-few (verb ∷ a ∷ []) = two_words-few (verb_named verb) a
saying_by_words-few (verb ∷ a ∷ first ∷ words) = more_words-few (verb_named verb) a first words

saying_of-few : (line : List ℕ) → IsFew (saying_of line)
saying_of-few [] = tt
saying_of-few (b ∷ bs) = by (b == 35)
  where
    by : (t : Bool) → IsFew (if t then Nothing else saying_by_words (words_of (b ∷ bs)))
    by true = tt
    by false = saying_by_words-few (words_of (b ∷ bs))

onto_said-few : (s : Saying) (says : List Saying) → IsFew s → AreFew says → AreFew (onto_said s says)
onto_said-few Nothing says few all = all
onto_said-few (Leaves n) says few all = (few, all)
onto_said-few (Zone rule) says few all = (few, all)
onto_said-few (Told command) says few all = (few, all)
onto_said-few Wrong says few all = (few, all)

said-few : (lines : List (List ℕ)) → AreFew (said lines)
said-few [] = tt
said-few (line ∷ lines) = onto_said-few (saying_of line) (said lines) (saying_of-few line) (said-few lines)

pub LinesReadAs-few : (lines : List (List ℕ)) (result : Result Script (Failure ScriptFault)) → LinesReadAs lines result
    → IfOk result (λ script. script.leaves ≤ MAX_LEAVES)
LinesReadAs-few lines (Ok script) reads = (subst AreFew reads (said-few lines)).0
LinesReadAs-few lines (Err error) reads = tt
