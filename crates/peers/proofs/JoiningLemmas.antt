-- Only a guest whose folder is in the book joins.
use Rattle.std.proofs.Common.{◌≡◌, Option, Some, None, refl, sym, subst}
use Rattle.handshake.specs.Books.{Leaves}
use Rattle.handshake.specs.Judging.{judged}
use Rattle.peers.specs.Joining.{IsInBook, IsOfBook, place_for, verdict_by, verdict_of}
use Rattle.handshake.specs.Owns.{progress_for}
use Rattle.handshake.specs.declared.book.Place.{Place}
use Rattle.handshake.specs.declared.book.Place.TheVariants.{Free, Same, Taken, Barred}
use Rattle.peers.specs.declared.guest.Guest.{Guest}
use Rattle.peers.specs.declared.guest_stage.GuestStage.{GuestStage}
use Rattle.peers.specs.declared.guest_stage.GuestStage.TheVariants.{Meets, Asks, Enters}
use Rattle.handshake.specs.declared.refusal.HandshakeRefusal.{HandshakeRefusal}
use Rattle.handshake.specs.declared.hub_side.HubSide.{HubSide}
use Rattle.handshake.specs.declared.own.Own.{Own}
use Rattle.peers.specs.declared.verdict.Verdict.TheVariants.{Joins}

joins_same : (fault : Option HandshakeRefusal) (place : Place) → verdict_by fault place ≡ Joins → place ≡ Same
joins_same (Some refusal) place is = absurd cc
joins_same None Same is = refl
joins_same None Free is = absurd cc
joins_same None Taken is = absurd cc
joins_same None Barred is = absurd cc

pub joins_in_book : (side : HubSide) (book : Leaves) (own : Own) (stage : GuestStage) → verdict_of side book own stage ≡ Joins → IsOfBook book stage
joins_in_book side book own Meets is = absurd cc
joins_in_book side book own (Asks asked) is =
    joins_same (judged side asked.ask.words (place_for book asked) (progress_for own asked.ask.words.leaf)) (place_for book asked) is
joins_in_book side book own (Enters asked) is =
    joins_same (judged side asked.ask.words (place_for book asked) (progress_for own asked.ask.words.leaf)) (place_for book asked) is

pub in_book_at : (book : Leaves) (found : Option Guest) (guest : Guest) → found ≡ Some guest → IsOfBook book guest.stage → IsInBook book found
in_book_at book found guest is in_book = subst (IsInBook book) (sym is) in_book
