use Rattle.std.proofs.Common.{map, subst}
use Rattle.httparse.specs.Spans.{header_bytes, span_bytes}
use Rattle.page.specs.Requests.{IsAsked}
use Rattle.page.proofs.reading.request_of.Goals as goal

pub returns : goal.returns
returns c =
    let fields = map (header_bytes c.args.heard.now) c.args.fields.now in
    let want = c.in_ok-want.want in
    subst (λ method. IsAsked c.args.site.now method fields (span_bytes c.args.heard.now c.args.spans.path) want) c.of-method.ensures
    (subst (λ target. IsAsked c.args.site.now c.of-method.result.now fields target want) c.of-target.ensures c.in_ok-want.ensures)
