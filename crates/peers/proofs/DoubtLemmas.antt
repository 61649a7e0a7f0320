-- What an administrator decides while the hub is in doubt.
use Rattle.std.proofs.Common.{◌≡◌, ℕ, false, List, [], ◌∷◌, ◌++◌, Option, None, Some, refl, ap, sym, ◌∙◌, append-nil}
use Rattle.std.specs.Prelude.{is_some}
use Rattle.std.specs.List.{flat_map, list_any}
use Rattle.peers.specs.declared.doubt.Doubted.{Doubted}
use Rattle.peers.specs.declared.hub_links.HubLinks.{HubLinks}
use Rattle.handshake.specs.Books.{bar_line}
use Rattle.peers.specs.Doubts.{Trusts, doubted_folders}
use Rattle.peers.specs.Tells.{in_doubt}

-- nobody is barred where nothing is in doubt
none_doubted : (doubts : List (Option Doubted)) → list_any is_some doubts ≡ false → doubted_folders doubts ≡ []
none_doubted [] none = refl
none_doubted (None ∷ doubts) none = none_doubted doubts none
none_doubted (Some doubted ∷ doubts) none = cc

-- where nothing is in doubt, nothing is done
pub trusts_none : (hub : HubLinks) (lines : List ℕ) → lines ≡ [] → in_doubt hub ≡ false → Trusts hub lines hub
trusts_none hub lines empty none = record {
  bars = empty ∙ ap (flat_map bar_line) (sym (none_doubted hub.doubts.items none));
  barred = ap (λ folders. record hub.book { barred = folders })
      (sym (append-nil hub.book.barred) ∙ ap (λ more. hub.book.barred ++ more) (sym (none_doubted hub.doubts.items none)));
  over = none;
  seats = refl;
}
