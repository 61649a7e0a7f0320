-- The line that a message is printed as, and what it means that a line reads back.
use Rattle.std.specs.Prelude.{◌≡◌, ℕ, Bool, true, List, [], ◌∷◌, ◌++◌, ◌||◌, ◌==◌, if◌then◌else◌}
use Rattle.ircline.specs.declared.message.Message.{Message}
use Rattle.ircline.specs.declared.line.Line.TheVariants as line
use Rattle.ircline.specs.Words.{holds}
use Rattle.ircline.specs.Reading.{line_of}
use Rattle.ircline.specs.Stream.{IsRun}

-- a last parameter that needs a colon: it is empty, begins with a colon or holds a space
abbrev pub wants_colon : List ℕ → Bool
wants_colon [] = true
wants_colon (b ∷ bs) = (b == 58) || holds 32 (b ∷ bs)

abbrev pub last_text : List ℕ → List ℕ
last_text param = 32 ∷ (if wants_colon param then 58 ∷ param else param)

abbrev pub params_text : List (List ℕ) → List ℕ
params_text [] = []
params_text (param ∷ []) = last_text param
params_text (param ∷ next ∷ params) = 32 ∷ (param ++ params_text (next ∷ params))

abbrev pub prefix_text : List ℕ → List ℕ
prefix_text [] = []
prefix_text (b ∷ bs) = 58 ∷ ((b ∷ bs) ++ 32 ∷ [])

-- the canonical line of a message, without its end: one space between words, and a colon only where one is needed
abbrev pub canonical : Message → List ℕ
canonical message = prefix_text message.prefix ++ (message.command ++ params_text message.params)

-- the same prefix, command and parameters; the rest may be spelled otherwise
abbrev pub IsSame : Message → Message → Type 0
IsSame a b = (a.prefix ≡ b.prefix) × (a.command ≡ b.command) × (a.params ≡ b.params)

-- the bytes hold no CR or LF, and are a line that reads back as this message
abbrev pub ReadsBack : List ℕ → Message → Type 0
ReadsBack bytes message = IsRun bytes × (read : Message) × (line_of bytes ≡ line.Message read) × IsSame read message
