-- The tags that stand before a line (IRCv3 message tags): ['@' <tags> <SPACE>] [':' <source> <SPACE>] <command> ..
-- The bytes: 32 is a space, 64 '@'.
use Rattle.std.specs.Prelude.{ℕ, ◌==◌, ◌||◌, not, Bool, true, false, List, [], ◌∷◌, if◌then◌else◌}
use Rattle.ircline.specs.Classes.{is_end}
use Rattle.ircline.specs.Reading.{flush, tail_of}
use Rattle.serverlink.specs.declared.tags.TagStage.{TagStage}
use Rattle.serverlink.specs.declared.tags.TagStage.TheVariants.{Front, Tags, Gap, Rest}

-- a line without its tags: what follows the spaces after its first word, if that begins with '@'; nothing if no space
-- follows that word
abbrev pub without_tags : List ℕ → List ℕ
without_tags [] = []
without_tags (b ∷ bs) = if b == 64 then flush (tail_of bs) else b ∷ bs

-- ---- the same for a stream, byte by byte

-- where a byte that ends no line stands
abbrev pub within : TagStage → ℕ → TagStage
within Front b = if b == 64 then Tags else Rest
within Tags b = if b == 32 then Gap else Tags
within Gap b = if b == 32 then Gap else Rest
within Rest b = Rest

abbrev pub is_rest : TagStage → Bool
is_rest Front = false
is_rest Tags = false
is_rest Gap = false
is_rest Rest = true

-- whether the bytes that come next, up to the end of their line, are no tags'
abbrev pub is_plain : TagStage → List ℕ → Bool
is_plain Front [] = true
is_plain Front (b ∷ bs) = not (b == 64)
is_plain Tags bytes = false
is_plain Gap bytes = false
is_plain Rest bytes = true

-- after a byte that ends a line, the next line begins
abbrev pub next : TagStage → ℕ → TagStage
next stage b = if is_end b then Front else within stage b

-- whether a byte is no part of the tags: it ends a line, or it stands after the tags
abbrev pub passes : TagStage → ℕ → Bool
passes stage b = is_end b || is_rest (within stage b)

abbrev pub with_byte : Bool → ℕ → List ℕ → List ℕ
with_byte true b bytes = b ∷ bytes
with_byte false b bytes = bytes

-- the bytes without the tags, where the bytes before them ended at this stage
abbrev pub untagged : TagStage → List ℕ → List ℕ
untagged stage [] = []
untagged stage (b ∷ bs) = with_byte (passes stage b) b (untagged (next stage b) bs)

-- where the bytes end
abbrev pub stage_after : TagStage → List ℕ → TagStage
stage_after stage [] = stage
stage_after stage (b ∷ bs) = stage_after (next stage b) bs
