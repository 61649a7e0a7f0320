use Rattle.std.proofs.Common.{◌≡◌, ◌↔◌, ◌∙◌, List, ℕ, ap, subst}
use Rattle.std.specs.Prelude.{IsTrue}
use Rattle.rfccase.specs.declared.casemappings.Casemapping.{Casemapping}
use Rattle.userfile.specs.Records.{Records}
use Rattle.chanstate.specs.Views.{mapping_of}
use Rattle.procs.specs.Identity.{claim_by, is_known_account}
use Rattle.eggprocs.proofs.WhoisLemmas.{by-account}
use Rattle.eggprocs.proofs.whois.is_by_account.Goals as goal

pub returns : goal.returns
returns c =
    let mapping : Casemapping = c.casemapping-mapping.result in
    let records : Records = c.userfile.result.now in
    let account : List ℕ = c.account_by-account.result.now in
    let same : mapping ≡ mapping_of c.args.view.now.sight.channels = c.casemapping-mapping.ensures ∙ ap mapping_of c.channels.ensures in
    by-account mapping records.users account c.in_ok-who.who c.in_ok-claim.claim c.args.member.now c.is_same.result c.in_ok-who.ensures
    (c.in_ok-claim.ensures ∙ ap (claim_by mapping records.users account) c.as_bytes.ensures)
    (subst (λ (who : List ℕ). IsTrue c.is_same.result ↔ (c.in_ok-claim.claim ≡ who)) c.as_bytes-2.ensures c.is_same.ensures)
    ∙ ap (λ (m : Casemapping). is_known_account m records.users account) same
    ∙ ap (λ (r : Records). is_known_account (mapping_of c.args.view.now.sight.channels) r.users account) c.userfile.ensures
    ∙ ap (is_known_account (mapping_of c.args.view.now.sight.channels) c.args.view.now.sight.records.users) c.account_by-account.ensures
