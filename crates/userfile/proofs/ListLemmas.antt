-- Lists with one element in the place of another.
use Rattle.std.proofs.Common.{◌≡◌, ℕ, ◌+◌, ◌<◌, suc, length, Bool, true, false, cond, List, [], ◌∷◌, ◌++◌, refl, sym, ap, ◌∙◌, arith, Some, None}
use Rattle.std.proofs.Common.{set}
use Rattle.std.specs.List.{position_from}
use Rattle.userfile.specs.declared.channel_flags.ChannelFlags.{ChannelFlags}
use Rattle.userfile.specs.Held.{with_entry}
use Rattle.rfccase.specs.Casemapping.{is_same}

abbrev test : ChannelFlags → ChannelFlags → Bool
test entry e = is_same entry.channel e.channel

-- what a search through these entries for this channel says of the entry's channel
pub found_at : (entry : ChannelFlags) (channel : List ℕ) (seen es : List ChannelFlags) (j : ℕ) → seen ≡ es → channel ≡ entry.channel
    → Some j ≡ position_from (λ e. is_same channel e.channel) 0 seen → position_from (test entry) 0 es ≡ Some j
found_at entry channel seen es j same name found = sym
    (found ∙ ap (λ xs. position_from (λ e. is_same channel e.channel) 0 xs) same ∙ ap (λ (c : List ℕ). position_from (λ e. is_same c e.channel) 0 es) name)

pub absent_from : (entry : ChannelFlags) (channel : List ℕ) (seen es : List ChannelFlags) → seen ≡ es → channel ≡ entry.channel
    → None ≡ position_from (λ e. is_same channel e.channel) 0 seen → position_from (test entry) 0 es ≡ None
absent_from entry channel seen es same name found = sym
    (found ∙ ap (λ xs. position_from (λ e. is_same channel e.channel) 0 xs) same ∙ ap (λ (c : List ℕ). position_from (λ e. is_same c e.channel) 0 es) name)

-- where the channel has an entry, the new one takes its place
pub with_entry-found : (entry : ChannelFlags) (es : List ChannelFlags) (i j : ℕ) → position_from (test entry) i es ≡ Some j
    → (k : ℕ) × ((j ≡ i + k) × ((k < length es) × (set es k entry ≡ with_entry entry es)))
with_entry-found entry [] i j found = cc
with_entry-found entry (e ∷ es) i j found = by (test entry e) found (with_entry-found entry es (i + 1) j)
  where
    by : (b : Bool) → cond b (Some i) (position_from (test entry) (i + 1) es) ≡ Some j
        → (position_from (test entry) (i + 1) es ≡ Some j → (k : ℕ) × ((j ≡ i + 1 + k) × ((k < length es) × (set es k entry ≡ with_entry entry es))))
        → (k : ℕ) × ((j ≡ i + k) × ((k < length (e ∷ es)) × (set (e ∷ es) k entry ≡ cond b (entry ∷ es) (e ∷ with_entry entry es))))
    by true here rest = let same : i ≡ j = cc in (0, (omega arith, (omega arith, refl)))
    by false later rest = let r = rest later in (suc r.0, (omega (arith, r.1.0), (omega (arith, r.1.1.0), ap (λ xs. e ∷ xs) r.1.1.1)))

-- where it has none, the new one goes last
pub with_entry-absent : (entry : ChannelFlags) (es : List ChannelFlags) (i : ℕ) → position_from (test entry) i es ≡ None
    → es ++ entry ∷ [] ≡ with_entry entry es
with_entry-absent entry [] i absent = refl
with_entry-absent entry (e ∷ es) i absent = by (test entry e) absent (with_entry-absent entry es (i + 1))
  where
    by : (b : Bool) → cond b (Some i) (position_from (test entry) (i + 1) es) ≡ None
        → (position_from (test entry) (i + 1) es ≡ None → es ++ entry ∷ [] ≡ with_entry entry es)
        → e ∷ (es ++ entry ∷ []) ≡ cond b (entry ∷ es) (e ∷ with_entry entry es)
    by true here rest = cc
    by false later rest = ap (λ xs. e ∷ xs) (rest later)
