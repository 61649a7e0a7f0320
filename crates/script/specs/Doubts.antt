-- What is wrong with the words of a line.
use Rattle.std.specs.Prelude.{ℕ, ◌==◌, nat_le, List, [], ◌∷◌, length, Option, None, Some, if◌then◌else◌}
use Rattle.bottimers.specs.Zones.{rule_in}
use Rattle.procs.specs.Kinds.{kind_of}
use Rattle.sharelink.specs.declared.TheConstants.{MAX_LEAVES}
use Rattle.recordtext.specs.Words.{number_below}
use Rattle.script.specs.declared.reason.Reason.{Reason}
use Rattle.script.specs.declared.reason.Reason.TheVariants.{SpaceBefore, SpaceAfter, TwoSpaces, Unknown, Form, Seconds, Kind}
use Rattle.script.specs.declared.reason.Reason.TheVariants.{Leaves as leaves_reason, Zone as zone_reason, Bot as bot_reason, Packet as packet_reason}
use Rattle.script.specs.declared.verb.Verb.{Verb}
use Rattle.script.specs.declared.verb.Verb.TheVariants.{Leaves, Ask, Pump, Compact, Restart, Connect, Line, Clock, Bind, Unbind, Deliver, Show, Zone}
use Rattle.script.specs.Vocabulary.{verb_named}
use Rattle.script.specs.Spacing.{misread, gap_before}
use Rattle.script.specs.ChangeDoubts.{first_of, unless_found, gap_doubt, text_doubt, ask_doubt}

-- ---- single words

-- the number of a bot
abbrev pub bot_doubt : Reason → List ℕ → Option Reason
bot_doubt gap a = unless_found (number_below 65536 a) (misread gap bot_reason a)

-- a number of leaves, at most as many as a hub may have
abbrev pub count_doubt : Option ℕ → List ℕ → Option Reason
count_doubt (Some leaves) a = if nat_le leaves MAX_LEAVES then None else Some leaves_reason
count_doubt None a = Some (misread SpaceAfter leaves_reason a)

abbrev pub leaves_doubt : List ℕ → Option Reason
leaves_doubt a = count_doubt (number_below 65536 a) a

abbrev pub zone_doubt : List ℕ → Option Reason
zone_doubt rule = unless_found (rule_in rule) (misread SpaceAfter zone_reason rule)

abbrev pub packet_doubt : List ℕ → Option Reason
packet_doubt a = unless_found (number_below 18446744073709551616 a) (misread SpaceAfter packet_reason a)

abbrev pub seconds_doubt : List ℕ → Option Reason
seconds_doubt word = unless_found (number_below 18446744073709551616 word) (misread SpaceAfter Seconds word)

-- ---- what follows the number of a bot

-- N
abbrev pub clock_doubt : List ℕ → List (List ℕ) → Option Reason
clock_doubt word words = if length words == 0 then seconds_doubt word else Some (Form Clock)

-- the word of a kind of binds, which these words follow
abbrev pub kind_doubt : List ℕ → List (List ℕ) → Option Reason
kind_doubt kind words = unless_found (kind_of kind) (misread (gap_before words) Kind kind)

-- PROC MASK..
abbrev pub proc_doubt : Verb → List (List ℕ) → Option Reason
proc_doubt verb (proc ∷ mask ∷ rest) = first_of (gap_doubt TwoSpaces proc) (text_doubt (Form verb) mask rest)
proc_doubt verb (proc ∷ []) = Some (Form verb)
proc_doubt verb [] = Some (Form verb)

-- FLAGS PROC MASK..
abbrev pub flags_and_proc_doubt : List (List ℕ) → Option Reason
flags_and_proc_doubt (flags ∷ words) = first_of (gap_doubt (gap_before words) flags) (proc_doubt Bind words)
flags_and_proc_doubt [] = Some (Form Bind)

-- TYPE FLAGS PROC MASK..
abbrev pub bind_doubt : List ℕ → List (List ℕ) → Option Reason
bind_doubt kind words = first_of (kind_doubt kind words) (flags_and_proc_doubt words)

-- TYPE PROC MASK..
abbrev pub unbind_doubt : List ℕ → List (List ℕ) → Option Reason
unbind_doubt kind words = first_of (kind_doubt kind words) (proc_doubt Unbind words)

-- ---- lines

-- VERB A
abbrev pub word_doubt : Verb → List ℕ → Option Reason
word_doubt Leaves a = leaves_doubt a
word_doubt Zone a = zone_doubt a
word_doubt Deliver a = packet_doubt a
word_doubt Pump a = bot_doubt SpaceAfter a
word_doubt Compact a = bot_doubt SpaceAfter a
word_doubt Restart a = bot_doubt SpaceAfter a
word_doubt Connect a = bot_doubt SpaceAfter a
word_doubt Show a = bot_doubt SpaceAfter a
word_doubt Ask a = Some (Form Ask)
word_doubt Line a = Some (Form Line)
word_doubt Clock a = Some (Form Clock)
word_doubt Bind a = Some (Form Bind)
word_doubt Unbind a = Some (Form Unbind)

-- VERB A, and the words after it
abbrev pub words_doubt : Verb → List ℕ → List ℕ → List (List ℕ) → Option Reason
words_doubt Ask a first words = first_of (bot_doubt TwoSpaces a) (ask_doubt first words)
words_doubt Line a first words = first_of (bot_doubt TwoSpaces a) (text_doubt (Form Line) first words)
words_doubt Clock a first words = first_of (bot_doubt TwoSpaces a) (clock_doubt first words)
words_doubt Bind a first words = first_of (bot_doubt TwoSpaces a) (bind_doubt first words)
words_doubt Unbind a first words = first_of (bot_doubt TwoSpaces a) (unbind_doubt first words)
words_doubt Leaves a first words = Some (Form Leaves)
words_doubt Pump a first words = Some (Form Pump)
words_doubt Compact a first words = Some (Form Compact)
words_doubt Restart a first words = Some (Form Restart)
words_doubt Connect a first words = Some (Form Connect)
words_doubt Deliver a first words = Some (Form Deliver)
words_doubt Show a first words = Some (Form Show)
words_doubt Zone a first words = Some (Form Zone)

-- each verb has its number of words
abbrev pub verb_doubt : Verb → List (List ℕ) → Option Reason
verb_doubt verb [] = Some (Form verb)
verb_doubt verb (a ∷ []) = word_doubt verb a
verb_doubt verb (a ∷ first ∷ words) = words_doubt verb a first words

abbrev pub verb_found : Option Verb → List ℕ → List (List ℕ) → Option Reason
verb_found (Some verb) spelling words = verb_doubt verb words
verb_found None spelling words = Some (misread SpaceBefore Unknown spelling)

abbrev pub doubt_of : List (List ℕ) → Option Reason
doubt_of (spelling ∷ words) = verb_found (verb_named spelling) spelling words
doubt_of [] = Some Unknown
