-- What a flag expression says, and when it is met. The form is that of Eggdrop's flag masks (its Tcl commands document,
-- "Flag Masks"): parts for global, channel and bot flags, with signs, joined by `|` or `&`. Our own choice: each of the
-- letters a to z and A to Z may stand in each part, and a part may be empty.
use Rattle.std.specs.Prelude.{ℕ, ◌==◌, Bool, true, false, ◌&&◌, ◌||◌, List, [], ◌∷◌, if◌then◌else◌}
use Rattle.std.specs.List.{before_first, after_first, list_any}
use Rattle.flagexpr.specs.Letters.{set_of, shares, is_within}
use Rattle.flagexpr.specs.Faults.{is_sign, is_join}

-- the letters of a part, as sets: those that are wanted, and those that are forbidden
pub record Part : Type 0 where
  pub wanted : ℕ
  pub forbidden : ℕ

-- the parts that are compared with the global, the channel and the bot flags, and whether `&` joins them
pub record Expression : Type 0 where
  pub every : Bool
  pub global : Part
  pub chan : Part
  pub bot : Part

-- the bytes of a part for which a sign holds, the last one before each; `current` is the sign before the text
abbrev pub bytes_under : ℕ → ℕ → List ℕ → List ℕ
bytes_under sign current [] = []
bytes_under sign current (byte ∷ bytes) =
    if is_sign byte then bytes_under sign byte bytes
    else (if current == sign then byte ∷ bytes_under sign current bytes else bytes_under sign current bytes)

-- a letter after `+`, or with no sign before it, is wanted; a letter after `-` is forbidden
unfoldable pub part_of : List ℕ → Part
part_of bytes = record { wanted = set_of (bytes_under 43 43 bytes); forbidden = set_of (bytes_under 45 43 bytes) }

-- the parts of a text, in order; a missing part has no letters, and neither has `*`
unfoldable pub expression_of : List ℕ → Expression
expression_of text =
    record {
      every = list_any (λ byte. byte == 38) text;
      global = part_of (before_first is_join text);
      chan = part_of (before_first is_join (after_first is_join text));
      bot = part_of (after_first is_join (after_first is_join text));
    }

-- whether any forbidden letter is in the set that its part is compared with (our own choice: under `|` too, one such
-- letter is enough to fail the expression)
abbrev pub is_forbidden : Expression → ℕ → ℕ → ℕ → Bool
is_forbidden e global chan bot = shares e.global.forbidden global || shares e.chan.forbidden chan || shares e.bot.forbidden bot

-- whether no part wants a letter
abbrev pub wants_nothing : Expression → Bool
wants_nothing e = e.global.wanted == 0 && e.chan.wanted == 0 && e.bot.wanted == 0

-- whether each wanted letter is in its part's set
abbrev pub has_each : Expression → ℕ → ℕ → ℕ → Bool
has_each e global chan bot = is_within e.global.wanted global && is_within e.chan.wanted chan && is_within e.bot.wanted bot

-- whether at least one wanted letter is in its part's set
abbrev pub has_some : Expression → ℕ → ℕ → ℕ → Bool
has_some e global chan bot = shares e.global.wanted global || shares e.chan.wanted chan || shares e.bot.wanted bot

-- When an expression is met. One without letters always is: it forbids nothing and wants nothing.
unfoldable pub meets : Expression → ℕ → ℕ → ℕ → Bool
meets e global chan bot =
    if is_forbidden e global chan bot then false
    else (if wants_nothing e then true
    else (if e.every then has_each e global chan bot else has_some e global chan bot))
