use Rattle.std.proofs.Common.{Ok, refl, subst}
use Rattle.httparse.specs.declared.Error.{Error}
use Rattle.httparse.specs.Outcome.{IfComplete}
use Rattle.httparse.specs.Spans.{IsRequestOf}
use Rattle.page.proofs.RequestLemmas.{reads_head, served_head}
use Rattle.page.proofs.request.PageRequest.read.Goals as goal

pub returns-in_ok-request_of-in-Ok-Complete-clause-reads :
    goal.returns-in_ok-request_of-in-Ok-Complete-clause-reads
returns-in_ok-request_of-in-Ok-Complete-clause-reads c =
    let of = subst (λ status. IfComplete {E = Error} (Ok status) (IsRequestOf c.args.heard.now c.parse_request.new.headers)) c.in-Ok-Complete.field-0-is c.in-Ok-Complete.ensures.complete in
    reads_head c.args.site.now c.args.heard.now c.parse_request.new.headers _ c.in-Ok-Complete.spans
    c.in_ok-request_of-in-Ok-Complete.field-0.want of refl c.in_ok-request_of-in-Ok-Complete.ensures

pub returns-in_ok-request_of-in-Ok-Complete-clause-served :
    goal.returns-in_ok-request_of-in-Ok-Complete-clause-served
returns-in_ok-request_of-in-Ok-Complete-clause-served c =
    let of = subst (λ status. IfComplete {E = Error} (Ok status) (IsRequestOf c.args.heard.now c.parse_request.new.headers)) c.in-Ok-Complete.field-0-is c.in-Ok-Complete.ensures.complete in
    served_head c.args.site.now c.args.heard.now c.parse_request.new.headers _ c.in-Ok-Complete.spans
    c.in_ok-request_of-in-Ok-Complete.field-0.want of refl c.in_ok-request_of-in-Ok-Complete.ensures
