use Rattle.std.proofs.Common.{◌∙◌, ◌+◌, ◌%◌, ap, sym, refl, arith, pos, ◌+ℤ◌, FitsSigned, w16}
use Rattle.std.proofs.lemmas.Int.{to_z-of_z}
use Rattle.jiff.proofs.SpanFacts.{signed_arith}
use Rattle.bottimers.specs.Zones.{ahead_at}
use Rattle.bottimers.proofs.CivilMinutes.{minutes_away}
use Rattle.bottimers.proofs.ZoneYears.{in_year}
use Rattle.bottimers.proofs.calendar.civil.Goals as goal

pub returns-clause-minute : goal.returns-clause-minute
returns-clause-minute c =
    let dt = c.shown_at-shown.result in
    let year : FitsSigned w16 dt.date.year = omega (arith, signed_arith, dt.date.year_in) in
    record {
      date = dt.date;
      shown = (sym (to_z-of_z w16 dt.date.year year), refl, refl);
      hour = dt.time.hour_in;
      minute = dt.time.minute_in;
      away = minutes_away dt (pos c.args.moment +ℤ ahead_at c.args.zone.now c.args.moment) c.shown_at-shown.ensures;
      weekday = ap (λ n. (n + 1) % 7) (c.index.ensures.value ∙ c.weekday.ensures);
    }

pub returns-clause-year : goal.returns-clause-year
returns-clause-year c = in_year c.args.moment c.if-moment-ge-MOMENTS_END.false
