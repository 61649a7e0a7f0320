-- What the bytes of a line without its end read as: a message, or the first fault.
use Rattle.std.specs.Prelude.{ℕ, zero, suc, Bool, true, false, List, [], ◌∷◌, ◌&&◌, ◌==◌, nat_lt, not, length, map, if◌then◌else◌}
use Rattle.ircline.specs.declared.message.Message.{Message}
use Rattle.ircline.specs.declared.line.Line.{Line}
use Rattle.ircline.specs.declared.line.Line.TheVariants as line
use Rattle.ircline.specs.declared.fault.LineFault.TheVariants as fault
use Rattle.ircline.specs.Words.{from_first, holds, before}
use Rattle.ircline.specs.Sources.{nick_of}
use Rattle.ircline.specs.Classes.{filled, command, upper}

-- the text without the spaces at its front
abbrev pub flush : List ℕ → List ℕ
flush text = from_first (λ b. not (b == 32)) text

-- what follows the first word
abbrev pub tail_of : List ℕ → List ℕ
tail_of text = from_first (λ b. b == 32) text

-- the prefix, and what follows it; the text is flush
abbrev pub prefix_at : List ℕ → List ℕ
prefix_at [] = []
prefix_at (b ∷ bs) = if b == 58 then before 32 bs else []

abbrev pub after_prefix : List ℕ → List ℕ
after_prefix [] = []
after_prefix (b ∷ bs) = if b == 58 then flush (tail_of bs) else b ∷ bs

-- whether a text begins with a colon and its prefix has no nick
abbrev pub is_nameless : List ℕ → Bool
is_nameless [] = false
is_nameless (b ∷ bs) = (b == 58) && not (filled (nick_of (before 32 bs)))

-- the last parameter, of a text that is flush
abbrev pub last_param : List ℕ → List (List ℕ)
last_param [] = []
last_param (b ∷ bs) = (if b == 58 then bs else b ∷ bs) ∷ []

-- whether the rest of the text is the last parameter, or empty
abbrev pub is_last : List ℕ → Bool
is_last [] = true
is_last (b ∷ bs) = b == 58

-- the parameters of a text that is flush, of which at most `n` end at a space
unfoldable pub params_at : ℕ → List ℕ → List (List ℕ)
params_at zero text = last_param text
params_at (suc n) text =
    if is_last text then last_param text else before 32 text ∷ params_at n (flush (tail_of text))

-- the parameters after a command: after fourteen that end at a space, the rest is the fifteenth
abbrev pub params_of : List ℕ → List (List ℕ)
params_of tail = params_at 14 (flush tail)

abbrev pub message_of : List ℕ → List ℕ → List ℕ → Message
message_of prefix word tail =
    record { prefix = prefix; command = map upper word; params = params_of tail; rest = flush tail }

-- what a text that is flush reads as
abbrev pub line_at : List ℕ → Line
line_at text =
    if is_nameless text then line.Bad fault.BadPrefix
    else (if command (before 32 (after_prefix text))
    then line.Message (message_of (prefix_at text) (before 32 (after_prefix text)) (tail_of (after_prefix text)))
    else line.Bad fault.BadCommand)

-- what any bytes read as
abbrev pub line_of : List ℕ → Line
line_of bytes =
    if nat_lt 510 (length bytes) then line.Bad fault.TooLong
    else (if holds 0 bytes then line.Bad fault.NulByte else line_at (flush bytes))

-- reading this line allocates: it is a message
abbrev pub TakesMemory : Line → Type 0
TakesMemory (line.Message message) = Unit {0}
TakesMemory (line.Bad fault) = ⊥
