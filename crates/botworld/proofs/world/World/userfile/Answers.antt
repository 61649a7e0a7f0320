use Rattle.std.proofs.Common.{ap, ◌∙◌, sym}
use Rattle.botworld.specs.Net.{Net, shown_version, shown_records}
use Rattle.botworld.proofs.Runs.{now_sound}
use Rattle.botworld.proofs.Shown.{shown_at}
use Rattle.botworld.proofs.world.World.userfile.Goals as goal

pub returns-clause-at_version : goal.returns-clause-at_version
returns-clause-at_version g c past stands v shown =
    c.shown.ensures ∙ ap (λ (w : Net). shown_records w c.args.bot) stands.net
    ∙ (shown_at past.now (now_sound _ _ past stands) c.args.bot v (sym (ap (λ (w : Net). shown_version w c.args.bot) stands.net) ∙ shown)).1
