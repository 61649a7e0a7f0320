use Rattle.std.proofs.Common.{◌≡◌, List, take}
use Rattle.userfile.specs.declared.user.User.{User}
use Rattle.userfile.specs.Index.{Keeps, Names, AreUnder, masks_at}
use Rattle.userfile.proofs.indexing.add_masks.Given as goal

-- the masks so far stand under their tails, nothing is lost, and nothing stands there that no user has
abbrev pub invariant-loop-mask : goal.invariant-loop-mask
invariant-loop-mask l =
    record {
      kept : Keeps l.initial.index l.index;
      names : (users : List User) → masks_at users l.place ≡ l.masks → Names l.initial.index users → Names l.index users;
      under : AreUnder l.index l.place (take l.mask-index l.masks);
    }
