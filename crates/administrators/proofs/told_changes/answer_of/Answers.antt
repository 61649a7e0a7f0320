use Rattle.administrators.proofs.told_changes.answer_of.Goals as goal

pub returns : goal.returns
returns c = record {
  lines = c.in_ok-lines.lines.items;
  each = c.in_ok-lines.ensures;
  is = rw (c.as_slice.ensures.value, c.as_slice-2.ensures.value, c.as_slice-3.ensures.value, c.in_ok-lost.ensures, c.in_ok-next.ensures)
      at c.in_ok-text.ensures;
}
