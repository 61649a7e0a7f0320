use Rattle.std.proofs.Common.{◌≡◌, ◌≤◌, ◌-◌, ℕ, List, ◌++◌, [], length, drop, take, ap, ◌∙◌, sym, arith, length-drop, subst}
use Rattle.std.proofs.lemmas.List.{take_rest, nil_from_length, append-nil}
use Rattle.bytetext.proofs.Errors.{at_err}
use Rattle.ircline.specs.declared.line.Line.{Line}
use Rattle.ircline.specs.Words.{from_first}
use Rattle.ircline.specs.Classes.{is_end}
use Rattle.ircline.proofs.PlaceLemmas.{length-from_first}
use Rattle.ircline.proofs.StreamLemmas.{no_more, step_lines, step_rest}
use Rattle.ircline.proofs.EndsLemmas.{some_front, some_left}
use Rattle.ircline.proofs.reader.push_lines.Goals as goal

pub returns-in_err-push_line-clause-memory : goal.returns-in_err-push_line-clause-memory
returns-in_err-push_line-clause-memory c =
    let parts = c.parted.ensures is_end c.first_end.ensures in
    at_err c.from_residual.result
    (c.loop-rest.invariant.ends (some_front c.loop-rest.text.now c.parted.result.0.now parts.0 c.in_err-push_line.ensures.memory))

pub returns-in_default-clause-lines : goal.returns-in_default-clause-lines
returns-in_default-clause-lines c =
    let parts = c.parted.ensures is_end c.first_end.ensures in
    let none : from_first is_end c.loop-rest.text.now ≡ [] = sym parts.1 ∙ nil_from_length c.parted.result.1.now (omega arith) in
    let over = no_more c.loop-rest.text.now none in
    sym (append-nil c.loop-rest.lines.items) ∙ ap (λ (l : List Line). c.loop-rest.lines.items ++ l) (sym over.0) ∙ c.loop-rest.invariant.lines

pub returns-in_default-clause-rest : goal.returns-in_default-clause-rest
returns-in_default-clause-rest c =
    let parts = c.parted.ensures is_end c.first_end.ensures in
    let none : from_first is_end c.loop-rest.text.now ≡ [] = sym parts.1 ∙ nil_from_length c.parted.result.1.now (omega arith) in
    parts.0 ∙ sym (no_more c.loop-rest.text.now none).1 ∙ c.loop-rest.invariant.rest

pub loop-rest-smaller : goal.loop-rest-smaller
loop-rest-smaller c =
    let parts = c.parted.ensures is_end c.first_end.ensures in
    let rest = c.parted.result.1.now in
    let short : length rest ≤ length c.loop-rest.text.now = subst (λ (r : List ℕ). length r ≤ length c.loop-rest.text.now) (sym parts.1)
    (length-from_first is_end c.loop-rest.text.now) in
    let next : length (take (length rest - 1) (drop 1 rest)) ≡ length rest - 1 = ap length (take_rest rest 1) ∙ length-drop 1 rest in
    omega (arith, next, short, c.in-len1-up.len_at_least)

pub loop-rest-preserved : goal.loop-rest-preserved
loop-rest-preserved c =
    let parts = c.parted.ensures is_end c.first_end.ensures in
    let rest = c.parted.result.1.now in
    record {
      lines =
          step_lines c.loop-rest.lines.items _ c.loop-rest.text.now c.parted.result.0.now rest _ _ parts.0 parts.1 c.in-len1-up.len_at_least
          (take_rest rest 1) c.in_ok-push_line.ensures.lines c.loop-rest.invariant.lines;
      rest = step_rest c.loop-rest.text.now rest _ _ parts.1 c.in-len1-up.len_at_least (take_rest rest 1) c.loop-rest.invariant.rest;
      ends = λ some. c.loop-rest.invariant.ends (some_left c.loop-rest.text.now rest _ parts.1 (take_rest rest 1) some);
    }
