use Rattle.std.proofs.Common.{◌≡◌, Some, drop, ◌+◌, ◌∷◌, [], ◌++◌, sym, ◌∙◌, ap}
use Rattle.bytejournal.specs.Meaning.{sized}
use Rattle.bytejournal.proofs.Passing.{after_gate, entry_inside, entries_go_on, entries_cut}
use Rattle.bytejournal.proofs.reading.end_of_entries.Goals as goal

pub loop-gate-preserved : goal.loop-gate-preserved
loop-gate-preserved c =
    let bytes = c.args.bytes.now in
    let gate = c.loop-gate.gate in
    let texts = c.loop-gate.invariant.entries.0 in
    let entry = c.in-Some.entry.now in
    let rest = c.in-Some.field-0-1.now in
    let read : sized (drop (gate + 1) bytes) ≡ Some (entry, rest) = ap sized (sym (after_gate bytes gate)) ∙ c.in-Some.ensures in
    record {
      inside = entry_inside bytes gate texts c.loop-gate-test.true c.if-bytes-gate-eq1.true c.loop-gate.invariant.entries.1 entry rest read;
      entries = (
        texts ++ entry ∷ [],
        entries_go_on bytes gate texts c.loop-gate-test.true c.if-bytes-gate-eq1.true c.loop-gate.invariant.entries.1 entry rest read,
      );
    }

pub returns-in-None : goal.returns-in-None
returns-in-None c =
    entries_cut c.args.bytes.now c.loop-gate.gate c.loop-gate.invariant.entries.0 c.loop-gate-test.true c.if-bytes-gate-eq1.true
    c.loop-gate.invariant.entries.1 (ap sized (sym (after_gate c.args.bytes.now c.loop-gate.gate)) ∙ c.in-None.ensures)
