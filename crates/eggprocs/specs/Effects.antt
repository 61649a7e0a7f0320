-- What a line to the server does to a member of a channel, and whether it is done.
use Rattle.std.specs.Prelude.{ℕ, not, List, Bool, true, false, if◌then◌else◌, codes}
use Rattle.std.specs.Str.{bytes_eq}
use Rattle.bytetext.specs.Words.{first_word, after_word}
use Rattle.chanstate.specs.declared.member.Member.{Member}
use Rattle.eggprocs.specs.declared.effects.LineEffect.{LineEffect}
use Rattle.eggprocs.specs.declared.effects.LineEffect.TheVariants.{GiveOp, TakeOp, GiveVoice, TakeVoice, Ban, Kick, Other}

-- ---- the effect of a line: MODE CHANNEL CHANGE NICK, or KICK CHANNEL NICK :REASON

-- what follows the command and the channel
abbrev pub after_channel : List ℕ → List ℕ
after_channel line = after_word (after_word line)

abbrev pub channel_in : List ℕ → List ℕ
channel_in line = first_word (after_word line)

abbrev pub is_kick : List ℕ → Bool
is_kick line = bytes_eq (first_word line) (codes "KICK")

-- the nick that the line is about
abbrev pub target_in : List ℕ → List ℕ
target_in line = if is_kick line then first_word (after_channel line) else first_word (after_word (after_channel line))

abbrev pub effect_of : List ℕ → LineEffect
effect_of change =
    if bytes_eq change (codes "+o") then GiveOp
    else if bytes_eq change (codes "-o") then TakeOp
    else if bytes_eq change (codes "+v") then GiveVoice
    else if bytes_eq change (codes "-v") then TakeVoice
    else if bytes_eq change (codes "+b") then Ban
    else Other

abbrev pub effect_in : List ℕ → LineEffect
effect_in line =
    if is_kick line then Kick
    else if bytes_eq (first_word line) (codes "MODE") then effect_of (first_word (after_channel line))
    else Other

-- whether a line sets a ban; what it names then is a mask, and no nick
abbrev pub is_ban : LineEffect → Bool
is_ban Ban = true
is_ban GiveOp = false
is_ban TakeOp = false
is_ban GiveVoice = false
is_ban TakeVoice = false
is_ban Kick = false
is_ban Other = false

-- ---- whether it is done

-- Whether a member shows that an effect is there already. No member shows a ban. Any other effect counts as there, so that
-- nothing is done.
abbrev pub is_done : LineEffect → Member → Bool
is_done GiveOp member = member.op
is_done TakeOp member = not member.op
is_done GiveVoice member = member.voice
is_done TakeVoice member = not member.voice
is_done Ban member = false
is_done Kick member = false
is_done Other member = true
