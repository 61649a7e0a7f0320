use Rattle.std.proofs.Common.{◌≡◌, drop}
use Rattle.serverlink.specs.LoginLogs.{HasNoted}
use Rattle.serverlink.specs.Logins.{all_told}
use Rattle.serverlink.proofs.login.tell_all.Given as goal

-- the lines that are left, after those so far, are all of them; the log has noted nothing else
abbrev pub invariant-loop-line : goal.invariant-loop-line
invariant-loop-line l = record {
  told : all_told (drop l.line-index l.lines) l.wire ≡ all_told l.lines l.fn.wire;
  logged : HasNoted l.fn.shows.now l.fn.log l.log;
}
