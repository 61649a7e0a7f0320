use Rattle.std.proofs.Common.{◌∙◌, take, sym}
use Rattle.std.specs.List.{flat_map}
use Rattle.procs.specs.declared.limits.TheConstants.{MAX_ACTIONS}
use Rattle.eggprocs.specs.Ends.{ends_of}
use Rattle.eggprocs.proofs.EndLemmas.{ends-more}
use Rattle.eggprocs.proofs.ends.all_ends.Goals as goal

pub loop-place-preserved : goal.loop-place-preserved
loop-place-preserved c =
    let bans = c.userfile-userfile.result.now.bans in
    let ends = ends_of c.args.second c.args.view.now in
    c.in_ok-push_ends.ensures (flat_map ends (take c.loop-place.place bans)) c.loop-place.invariant
    ∙ ends-more MAX_ACTIONS ends bans c.loop-place.place c.in-Some.ban.now (sym c.in-Some.ensures)
