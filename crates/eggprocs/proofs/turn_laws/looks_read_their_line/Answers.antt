use Rattle.std.proofs.Common.{refl, codes}
use Rattle.eggprocs.proofs.LineLemmas.{reads-modes, reads-kicks}
use Rattle.eggprocs.proofs.turn_laws.looks_read_their_line.Goals as goal

pub returns : goal.returns
returns c = record {
  give_op = reads-modes (codes "+o") refl;
  take_op = reads-modes (codes "-o") refl;
  give_voice = reads-modes (codes "+v") refl;
  take_voice = reads-modes (codes "-v") refl;
  ban = reads-modes (codes "+b") refl;
  kick = reads-kicks;
}
