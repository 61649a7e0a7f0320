use Rattle.std.proofs.Common.{◌≡◌, ◌++◌, drop}
use Rattle.std.specs.List.{flat_map}
use Rattle.live.specs.Heard.{heard_line}
use Rattle.live.proofs.running.heard_text.Given as goal

abbrev pub invariant-loop-line : goal.invariant-loop-line
invariant-loop-line l = l.text.items ++ flat_map (heard_line l.nick) (drop l.line-index l.lines) ≡ flat_map (heard_line l.nick) l.lines
