-- What a hub tells of the requests that it replied to.
use Rattle.std.proofs.Common.{◌≡◌, ◌+◌, ◌++◌, ◌∷◌, [], ℕ, add-one, refl}
use Rattle.protocol.specs.Ends.{End}
use Rattle.sharelink.specs.Telling.{end_last_reply}
use Rattle.botrun.specs.Owns.{replies_up_to}

-- of one leaf more
pub one_more_reply : (leaf : ℕ) (end : End) → replies_up_to (leaf + 1) end ≡ replies_up_to leaf end ++ end_last_reply end (leaf + 1) ∷ []
one_more_reply leaf end = rw (add-one leaf) refl
