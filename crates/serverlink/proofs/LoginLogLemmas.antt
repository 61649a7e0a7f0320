-- What a login notes in parts, it notes in all.
use Rattle.std.proofs.Common.{ℕ, Some}
use Rattle.net.specs.Logs.{Logged, Notes}
use Rattle.serverlink.specs.LoginLogs.{HasNoted, so_far, more, text_of}
use Rattle.serverlink.specs.declared.login_entry.LoginEntry.{LoginEntry}

pub noted_on : (now : ℕ) (start before after : Logged) → HasNoted now start before → HasNoted now before after → HasNoted now start after
noted_on now start before _ first so_far = first
noted_on now start before after first (more entry rest notes) = more entry (noted_on now start before _ first rest) notes

pub noted_one : (now : ℕ) (start after : Logged) (entry : LoginEntry) → Notes now (Some (text_of entry)) start after → HasNoted now start after
noted_one now start after entry notes = more entry so_far notes
