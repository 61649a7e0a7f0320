use Rattle.std.proofs.Common.{length, refl}
use Rattle.botjournal.specs.Ledger.{device_on}
use Rattle.protocol.specs.Ends.{end_version, end_records}
use Rattle.promotion.proofs.law.law_of_promotion.Goals as goal

pub returns : goal.returns
returns g c = record {
  promotion = λ old leaf first second x y config leaves p a b at number many new.
      let device = device_on first second in
      let shown = c.laws_of_heirs.ensures.stopped old leaf.base.bot leaf.first leaf.second config device p.end at number many
      (p.shows config.leaves) in
      record {
        after = shown.after;
        opens = shown.opens;
        version = end_version p.end;
        heir_of = record {
          records = end_records p.end;
          shows_version = shown.shows_version;
          shows_records = shown.shows_records;
          heir = c.laws_of_heirs.ensures.founded (length leaves) (end_version p.end) (end_records p.end) x y device leaves
              (p.heir (length leaves) x y a b) refl new;
        };
      };
}
