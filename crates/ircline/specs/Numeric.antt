-- The numerics that answer a registration (RFC 2812 sections 5.1 and 5.2).
use Rattle.std.specs.Prelude.{ℕ, Bool, List, codes, if◌then◌else◌}
use Rattle.std.specs.Str.{bytes_eq}
use Rattle.ircline.specs.declared.numeric.Numeric.{Numeric}
use Rattle.ircline.specs.declared.numeric.Numeric.TheVariants.{Welcome, ErroneousNickname, NicknameInUse, NickCollision, UnavailableResource, Other}

-- whether a command is this word
abbrev pub is_command : List ℕ → List ℕ → Bool
is_command word command = bytes_eq command word

abbrev pub numeric_of : List ℕ → Numeric
numeric_of command =
    if is_command (codes "001") command then Welcome
    else if is_command (codes "432") command then ErroneousNickname
    else if is_command (codes "433") command then NicknameInUse
    else if is_command (codes "436") command then NickCollision
    else if is_command (codes "437") command then UnavailableResource
    else Other
