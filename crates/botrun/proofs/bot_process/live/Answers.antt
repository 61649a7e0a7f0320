use Rattle.std.proofs.Common.{refl}
use Rattle.watching.proofs.FollowingLemmas.{at_watched}
use Rattle.watching.proofs.SendingLemmas.{up_quiet, up_reported}
use Rattle.botrun.proofs.bot_process.live.Goals as goal

pub bind_all-requires : goal.bind_all-requires
bind_all-requires g c = record { watched = at_watched _ _ _ _ _ _ c.requires.up.even.at }

pub look_back-requires : goal.look_back-requires
look_back-requires g c = record {
  watched = c.bind_all.ensures.quiet.watched;
  settled = (up_quiet _ _ _ _ _ _ _ _ _ _ c.requires.up c.bind_all.ensures.quiet refl).even.settled;
}

pub make_turns-requires : goal.make_turns-requires
make_turns-requires g c = record {
  up = up_reported _ _ _ _ _ _ _ _ _ _ (up_quiet _ _ _ _ _ _ _ _ _ _ c.requires.up c.bind_all.ensures.quiet refl) c.in_ok-look_back.ensures;
}
