-- A list of borrowed parts, and the list of what they point to.
use Rattle.std.proofs.Common.{◌≡◌, ℕ, Bool, ◌||◌, List, [], ◌∷◌, refl, ap}
use Rattle.std.specs.Prelude.{map}
use Rattle.std.specs.List.{list_any}
use Rattle.std.specs.Borrow.{Bor}
use Rattle.rfccase.specs.Casemapping.{is_same}
use Rattle.userfile.specs.Held.{has_mask}
use Rattle.usercodec.specs.declared.user_fields.EntryFields.{EntryFields}
use Rattle.usercodec.specs.Records.{has_channel}
use Rattle.usercodec.specs.Users.{texts_of, entries_of, entry_of}

any-map : {X Y : Type 0} (p : Y → Bool) (f : X → Y) (xs : List X) → list_any (λ x. p (f x)) xs ≡ list_any p (map f xs)
any-map p f [] = refl
any-map p f (x ∷ xs) = ap (λ b. p (f x) || b) (any-map p f xs)

pub held_text : (text : List ℕ) (held : List (Bor (List ℕ))) → list_any (λ other. is_same text other.now) held ≡ has_mask text (texts_of held)
held_text text held = any-map (λ other. is_same text other) (λ other. other.now) held

pub held_channel : (channel : List ℕ) (held : List EntryFields)
    → list_any (λ entry. is_same channel entry.channel.now) held ≡ has_channel channel (entries_of held)
held_channel channel held = any-map (λ entry. is_same channel entry.channel) entry_of held
