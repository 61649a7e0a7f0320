-- Which pairs of adjacent bytes a text has, and which a mask needs, as sets of 256 places (our own choice).
use Rattle.std.specs.Prelude.{ℕ, ◌%◌, Bool, ◌&&◌, not, nat_lt, List, Option}
use Rattle.rfccase.specs.Casemapping.{folded}
use Rattle.wildmask.specs.declared.items.Item.{Item}
use Rattle.wildmask.specs.Signatures.{Pairs, Sums, no_pairs, either, pair_if, pair_of, pairs_of, pairs_needed, is_within}

-- two sets of places: a pair is in one of them or in the other
pub record WidePairs : Type 0 where
  pub low : Pairs
  pub high : Pairs

-- which of the two sets has a pair, by the sum that gives the pair its place
abbrev pub is_low : Sums
is_low sum = nat_lt (sum % 256) 128

abbrev pub is_high : Sums
is_high sum = not (is_low sum)

abbrev pub no_wide_pairs : WidePairs
no_wide_pairs = record { low = no_pairs; high = no_pairs }

-- the union of two sets
abbrev pub wide_either : WidePairs → WidePairs → WidePairs
wide_either a b = record { low = either a.low b.low; high = either a.high b.high }

abbrev pub wide_pair : ℕ → ℕ → WidePairs
wide_pair a b = record { low = pair_if is_low a b; high = pair_if is_high a b }

-- the pairs that a text has, in lower case
abbrev pub wide_text_signature : List ℕ → WidePairs
wide_text_signature text = record { low = pairs_of is_low (folded text); high = pairs_of is_high (folded text) }

-- the pair of two lower cases; without one of them, none
abbrev pub wide_pair_of_both : Option ℕ → Option ℕ → WidePairs
wide_pair_of_both a b = record { low = pair_of is_low a b; high = pair_of is_high a b }

-- the pairs that a mask with these items needs
abbrev pub wide_items_signature : List Item → WidePairs
wide_items_signature items = record { low = pairs_needed is_low items; high = pairs_needed is_high items }

-- whether the second set has each place of the first
abbrev pub is_wide_within : WidePairs → WidePairs → Bool
is_wide_within needs has = is_within needs.low has.low && is_within needs.high has.high
