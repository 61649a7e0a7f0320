-- A query for the addresses of a name, as bytes (RFC 1035 sections 4.1.1 and 4.1.2).
use Rattle.std.specs.Prelude.{ℕ, List, [], ◌∷◌, ◌++◌, Option, None, Some, if◌then◌else◌}
use Rattle.std.specs.Int.{w16, to_be_bytes}
use Rattle.resolver.specs.declared.family.Family.{Family}
use Rattle.resolver.specs.declared.family.Family.TheVariants.{V4, V6}
use Rattle.resolver.specs.Names.{bare, is_name, spelled}

-- the type of the records that hold such addresses: A, AAAA
abbrev pub kind_of : Family → ℕ
kind_of V4 = 1
kind_of V6 = 28

-- a type and a class in two bytes each; the class is IN
abbrev pub kind_and_class : Family → List ℕ
kind_and_class family = 0 ∷ kind_of family ∷ 0 ∷ 1 ∷ []

-- a standard query that wants recursion, and has one question and no record
abbrev pub header : ℕ → List ℕ
header id = to_be_bytes w16 id ++ 1 ∷ 0 ∷ 0 ∷ 1 ∷ 0 ∷ 0 ∷ 0 ∷ 0 ∷ 0 ∷ 0 ∷ []

abbrev pub question : List ℕ → Family → List ℕ
question name family = spelled name ++ kind_and_class family

-- a query's bytes, and what it asks for
pub record Asked : Type 0 where
  pub bytes : List ℕ
  pub family : Family

abbrev pub asked : ℕ → List ℕ → Family → Asked
asked id name family = record { bytes = header id ++ question name family; family = family }

abbrev pub query_of : ℕ → List ℕ → Family → Option Asked
query_of id name family = if is_name (bare name) then Some (asked id (bare name) family) else None
