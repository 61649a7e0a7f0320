-- How more bytes change what was read, and when a tag is at fault.
use Rattle.std.specs.Prelude.{◌≡◌, List, ℕ, ◌++◌, ◌∷◌, Bool, false, Ok, Err}
use Rattle.usercodec.specs.declared.fault.CodecFault.TheVariants.{Short, BadTag, NotCanonical}
use Rattle.usercodec.specs.Fields.{Reading}

-- a value stays the same when more bytes follow, and so does a fault, unless bytes were missing
abbrev pub Stays : {A : Type 0} → Reading A → Reading A → List ℕ → Type 0
Stays (Ok x) later more = later ≡ Ok (x.0, x.1 ++ more)
Stays (Err Short) later more = Unit {0}
Stays (Err BadTag) later more = later ≡ Err BadTag
Stays (Err NotCanonical) later more = later ≡ Err NotCanonical

-- the first byte is not one of the tags
abbrev pub BeginsUnknown : (ℕ → Bool) → List ℕ → Type 0
BeginsUnknown is_tag bytes = (tag : ℕ) × ((rest : List ℕ) × ((bytes ≡ tag ∷ rest) × (is_tag tag ≡ false)))
