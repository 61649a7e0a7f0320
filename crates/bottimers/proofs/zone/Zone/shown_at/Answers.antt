use Rattle.std.proofs.Common.{◌≡◌, ◌∙◌, ap, arith, ℤ, pos, ◌*ℤ◌}
use Rattle.std.proofs.lemmas.Int.{ints}
use Rattle.jiff.proofs.SpanFacts.{signed_arith}
use Rattle.jiff_core.specs.declared.Offset.{Offset}
use Rattle.jiff_tz.specs.PosixRule.{offset_at}
use Rattle.jiff_tz.specs.PosixText.{TzText}
use Rattle.bottimers.specs.Zones.{ahead_at}
use Rattle.bottimers.proofs.ZoneOffsets.{offset_alike}
use Rattle.bottimers.proofs.zone.Zone.shown_at.Goals as goal

pub returns : goal.returns
returns c =
    let from = rw c.unwrap.ensures at c.from_second.ensures.value in
    let found : c.unwrap.result.nanosecond ≡ pos c.args.moment *ℤ pos 1_000_000_000 = omega (arith, ints, from) in
    let instant : c.to_plain-instant.result.nanosecond ≡ pos c.args.moment *ℤ pos 1_000_000_000 = rw c.to_plain-instant.ensures found in
    let seconds : c.to_offset.result.seconds ≡ ahead_at c.args.self.now c.args.moment =
    ap (λ (o : Offset). o.seconds) c.to_offset.ensures ∙ ap (λ (n : ℤ). (offset_at c.self.inside.rule n).seconds) instant
    ∙ offset_alike c.self.inside.rule c.args.moment c.requires ∙ ap (λ (r : TzText). ahead_at r c.args.moment) c.self.view_is in
    c.to_datetime.ensures ∙ omega (arith, signed_arith, instant, seconds)
