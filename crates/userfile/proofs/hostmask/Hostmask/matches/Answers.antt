use Rattle.std.proofs.Common.{◌∙◌, ◌↔◌, ap, subst, IsTrue}
use Rattle.wildmask.specs.Masks.{GivenMask, IsMatchBy, is_match_by as is_mask_match}
use Rattle.userfile.specs.Hostmasks.{is_match}
use Rattle.userfile.proofs.MatchLemmas.{host_mask-same}
use Rattle.userfile.proofs.hostmask.Hostmask.matches.Goals as goal

pub returns-clause-relation : goal.returns-clause-relation
returns-clause-relation c =
    subst (λ (m : GivenMask). IsTrue c.matches_by.result ↔ IsMatchBy c.args.mapping m c.args.who.now) (host_mask-same _ _ c.self.invariant c.self.view_is) c.matches_by.ensures.matches

pub returns-clause-test : goal.returns-clause-test
unfolding is_match
returns-clause-test c = c.matches_by.ensures.test ∙ ap (λ (m : GivenMask). is_mask_match c.args.mapping m c.args.who.now) (host_mask-same _ _ c.self.invariant c.self.view_is)
