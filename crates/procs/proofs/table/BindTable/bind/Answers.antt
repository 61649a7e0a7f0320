use Rattle.std.proofs.Common.{sym, ap, ◌∙◌}
use Rattle.std.specs.Result.{result_err}
use Rattle.procs.specs.Tables.{Asked}
use Rattle.procs.proofs.TableLemmas.{binds-bad_flags, binds-refused, binds-made, binds-no_memory, allowed, good_mask}
use Rattle.procs.proofs.table.BindTable.bind.Goals as goal

pub returns-in-Err : goal.returns-in-Err
returns-in-Err c =
    let asked : Asked = record { kind = c.args.kind; flags = c.args.flags.now; mask = c.args.mask.now; proc = c.args.proc.now } in
    record { binds = binds-bad_flags c.args.self.now asked c.in-Err.field-0 (sym c.parse.ensures.fault ∙ ap result_err c.in-Err.is) }

pub returns-in-Some : goal.returns-in-Some
returns-in-Some c =
    let asked : Asked = record { kind = c.args.kind; flags = c.args.flags.now; mask = c.args.mask.now; proc = c.args.proc.now } in
    record {
      binds = binds-refused c.args.self.now asked c.in-Some.fault (sym c.parse.ensures.fault
          ∙ ap result_err c.in-Ok.is) (sym c.later_refusal.ensures ∙ c.in-Some.is);
    }

pub make-requires-clause-wish : goal.make-requires-clause-wish
make-requires-clause-wish c =
    let may = allowed c.args.self.now c.args.kind c.args.mask.now c.args.proc.now (sym c.later_refusal.ensures ∙ c.in_default.is) in
    record {
      parses = sym c.parse.ensures.fault ∙ ap result_err c.in-Ok.is;
      expression = c.in-Ok.ensures.value;
      mask = good_mask c.args.kind c.args.mask.now may.mask;
      cron = may.cron;
    }

pub returns-in-Ok-make : goal.returns-in-Ok-make
returns-in-Ok-make c =
    let asked : Asked = record { kind = c.args.kind; flags = c.args.flags.now; mask = c.args.mask.now; proc = c.args.proc.now } in
    record {
      binds = binds-made c.args.self.now c.make.new.self asked c.in-Ok-make.number (sym c.parse.ensures.fault ∙ ap result_err c.in-Ok.is)
          (sym c.later_refusal.ensures ∙ c.in_default.is) c.in-Ok-make.ensures.number c.in-Ok-make.ensures.ok;
    }

pub returns-in-Err-make : goal.returns-in-Err-make
returns-in-Err-make c =
    let asked : Asked = record { kind = c.args.kind; flags = c.args.flags.now; mask = c.args.mask.now; proc = c.args.proc.now } in
    record {
      binds = binds-no_memory c.args.self.now c.make.new.self asked (sym c.parse.ensures.fault ∙ ap result_err c.in-Ok.is)
          (sym c.later_refusal.ensures ∙ c.in_default.is) c.in-Err-make.ensures.err;
    }
