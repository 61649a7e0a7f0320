-- The grammar of a line (RFC 2812 section 2.3.1), as a relation between the bytes of a line without its end and the
-- message that they spell:
--
--     message = [ ":" prefix SPACE ] command [ params ] crlf
--     params  = *14( SPACE middle ) [ SPACE ":" trailing ]
--            =/ 14( SPACE middle ) [ SPACE [ ":" ] trailing ]
--
-- Two things are wider than in the RFC: SPACE is one or more spaces, and spaces before the first word and after the
-- last one are allowed and ignored. A command is kept in upper case.
use Rattle.std.specs.Prelude.{◌≡◌, ℕ, zero, suc, List, [], ◌∷◌, ◌++◌, ◌⊎◌, ◌==◌, true, false, map, IsTrue}
use Rattle.std.specs.List.{list_all}
use Rattle.ircline.specs.declared.message.Message.{Message}
use Rattle.ircline.specs.Words.{holds}
use Rattle.ircline.specs.Sources.{nick_of}
use Rattle.ircline.specs.Classes.{middle, trailing, command, names, upper}

-- only spaces, or nothing
abbrev pub IsSpaces : List ℕ → Type 0
IsSpaces text = list_all (λ b. b == 32) text ≡ true

-- nothing, or a text that does not begin with a space
abbrev pub IsFlush : List ℕ → Type 0
IsFlush [] = Unit {0}
IsFlush (b ∷ bs) = (b == 32) ≡ false

-- a trailing parameter that needs no colon: it isn't empty, and begins with neither a space nor a colon
abbrev pub IsBare : List ℕ → Type 0
IsBare [] = ⊥
IsBare (b ∷ bs) = ((b == 32) ≡ false) × ((b == 58) ≡ false)

-- [ ":" prefix SPACE ]
abbrev pub IsPrefixPart : List ℕ → List ℕ → Type 0
IsPrefixPart [] prefix = prefix ≡ []
IsPrefixPart (b ∷ bs) prefix =
    (more : List ℕ) × (b ≡ 58) × (bs ≡ prefix ++ 32 ∷ more) × IsSpaces more × IsTrue (names prefix)

-- SPACE ":" trailing
abbrev pub IsTrailing : List ℕ → List ℕ → Type 0
IsTrailing text param =
    (more : List ℕ) × (text ≡ 32 ∷ (more ++ 58 ∷ param)) × IsSpaces more × IsTrue (trailing param)

-- SPACE trailing, after fourteen middle parameters
abbrev pub IsFifteenth : List ℕ → List ℕ → Type 0
IsFifteenth text param =
    (more : List ℕ) × (text ≡ 32 ∷ (more ++ param)) × IsSpaces more × IsBare param × IsTrue (trailing param)

-- SPACE middle, and what follows it
abbrev pub IsMiddle : List ℕ → List ℕ → List ℕ → Type 0
IsMiddle text param tail =
    (more : List ℕ) × (text ≡ 32 ∷ (more ++ (param ++ tail))) × IsSpaces more × IsTrue (middle param)

-- params, of which at most `n` more are middle ones
unfoldable pub IsParams : ℕ → List ℕ → List (List ℕ) → Type 0
IsParams n text [] = IsSpaces text
IsParams zero text (param ∷ params) = (params ≡ []) × (IsTrailing text param ⊎ IsFifteenth text param)
IsParams (suc n) text (param ∷ params) =
    ((params ≡ []) × IsTrailing text param) ⊎ ((tail : List ℕ) × IsMiddle text param tail × IsParams n tail params)

-- a line that begins with a colon, with no nick and no server's name after it
pub record IsNameless (line : List ℕ) : Type 0 where
  pub lead : List ℕ
  pub prefix : List ℕ
  pub tail : List ℕ
  pub whole : line ≡ lead ++ 58 ∷ (prefix ++ tail)
  pub lead_is : IsSpaces lead
  pub prefix_is : holds 32 prefix ≡ false
  pub tail_is : (tail ≡ []) ⊎ ((more : List ℕ) × (tail ≡ 32 ∷ more))
  pub nameless : nick_of prefix ≡ []

-- the bytes of a line spell this message
pub record IsMessage (line : List ℕ) (message : Message) : Type 0 where
  -- the parts of the line, in order
  pub lead : List ℕ
  pub prefix_part : List ℕ
  pub word : List ℕ
  pub tail : List ℕ
  pub whole : line ≡ lead ++ (prefix_part ++ (word ++ tail))
  -- what they are
  pub lead_is : IsSpaces lead
  pub prefix_is : IsPrefixPart prefix_part message.prefix
  pub word_is : IsTrue (command word)
  pub command_is : message.command ≡ map upper word
  pub params_are : IsParams 14 tail message.params
  -- the rest is the tail without the spaces at its front
  pub gap : List ℕ
  pub tail_is : tail ≡ gap ++ message.rest
  pub gap_is : IsSpaces gap
  pub rest_is : IsFlush message.rest
