use Rattle.std.proofs.Common.{◌<◌, ◌+◌, ◌∙◌, List, ℕ, drop, length, refl, sym, ap, arith}
use Rattle.std.proofs.lemmas.List.{at_drop_more}
use Rattle.serverlink.specs.LoginLogs.{so_far}
use Rattle.serverlink.specs.Logins.{all_told}
use Rattle.serverlink.specs.Talks.{told}
use Rattle.serverlink.proofs.LoginLogLemmas.{noted_on}
use Rattle.serverlink.proofs.login.tell_all.Goals as goal

pub loop-line-init : goal.loop-line-init
loop-line-init c = record { told = refl; logged = so_far }

pub loop-line-preserved : goal.loop-line-preserved
loop-line-preserved c =
    let at = c.loop-line in
    let lines = c.args.lines.now in
    let line : List ℕ = c.line-item.result in
    let less : at.line-index < length lines = omega arith in
    record {
      told =
          ap (all_told (drop (at.line-index + 1) lines)) (c.in_ok-tell.ensures.told ∙ ap (λ t. told t at.wire) (c.as_bytes.ensures ∙ c.line-item.is))
          ∙ sym (at_drop_more (λ ls. all_told ls at.wire) lines at.line-index line less)
          ∙ at.invariant.told;
      logged = noted_on c.args.shows.now c.args.log.now at.log c.note_line.new.log at.invariant.logged c.note_line.ensures;
    }
