-- Which texts one bot may send to another.
use Rattle.std.specs.Prelude.{ℕ, List, Bool, not, ◌&&◌, nat_le, ◌==◌, length}
use Rattle.std.specs.List.{list_all}
use Rattle.userfile.specs.Shapes.{is_line_byte}
use Rattle.sharewire.specs.declared.texts.TheConstants.{MAX_BOT_TEXT}

-- 1 to 400 bytes, none of them NUL, CR or LF
unfoldable pub is_bot_text : List ℕ → Bool
is_bot_text text = not (length text == 0) && nat_le (length text) MAX_BOT_TEXT && list_all is_line_byte text
