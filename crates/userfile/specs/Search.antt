-- How a search goes through the listings of the index for the best claim to be a person.
use Rattle.std.specs.Prelude.{◌≡◌, ℕ, Bool, true, false, ◌==◌, ◌&&◌, ◌||◌, nat_lt, if◌then◌else◌, List, [], ◌∷◌, Option, Some, None, slice_get}
use Rattle.std.specs.List.{list_any}
use Rattle.wildmask.specs.Signatures.{Pairs, text_signature, is_within}
use Rattle.userfile.specs.Hostmasks.{is_match}
use Rattle.userfile.specs.Index.{is_of}
use Rattle.userfile.specs.declared.user.User.{User}
use Rattle.userfile.specs.declared.index.Listing.{Listing}
use Rattle.userfile.specs.declared.persons.Winner.{Winner}
use Rattle.rfccase.specs.declared.casemappings.Casemapping.{Casemapping}

-- whether a mask with `literals` literals, of the user at `place`, is better than the best so far
abbrev pub is_better : ℕ → ℕ → Option Winner → Bool
is_better literals place None = true
is_better literals place (Some best) = nat_lt best.literals literals || (literals == best.literals && nat_lt place best.place)

-- whether a mask of a listing is worth a match: the text has the pairs that it needs, and it would be better
abbrev pub may_win : List ℕ → Listing → Option Winner → Bool
may_win who x best = is_within x.pairs (text_signature who) && is_better x.literals x.place best

-- whether any of this user's masks belongs to the listing and matches
abbrev pub has_match : Casemapping → List ℕ → Listing → Option User → Bool
has_match mapping who x None = false
has_match mapping who x (Some user) = list_any (λ mask. is_of x mask && is_match mapping mask who) user.masks

-- the best after one more listing
abbrev pub after_listing : Casemapping → List ℕ → List User → Listing → Option Winner → Option Winner
after_listing mapping who users x best =
    if may_win who x best && has_match mapping who x (slice_get users x.place) then Some (record { literals = x.literals; place = x.place }) else best

-- the best after several listings
abbrev pub after_listings : Casemapping → List ℕ → List User → List Listing → Option Winner → Option Winner
after_listings mapping who users [] best = best
after_listings mapping who users (x ∷ xs) best = after_listings mapping who users xs (after_listing mapping who users x best)

-- for a text with these pairs, both lists of listings lead to the same best
abbrev pub SameBest : Casemapping → Pairs → List Listing → List Listing → Type 0
SameBest mapping pairs xs ys = (who : List ℕ) (users : List User) (best : Option Winner) → pairs ≡ text_signature who
    → after_listings mapping who users xs best ≡ after_listings mapping who users ys best

-- the user of the best
abbrev pub user_at : List User → Option Winner → Option User
user_at users None = None
user_at users (Some best) = slice_get users best.place
