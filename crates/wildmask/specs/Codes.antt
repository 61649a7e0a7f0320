-- One byte for each item: a literal as its lower case, and a special item as an upper-case letter.
use Rattle.std.specs.Prelude.{ℕ, ◌==◌, if◌then◌else◌, List, map}
use Rattle.rfccase.specs.Casemapping.{low_by}
use Rattle.rfccase.specs.declared.casemappings.Casemapping.{Casemapping}
use Rattle.wildmask.specs.declared.items.Item.{Item}
use Rattle.wildmask.specs.declared.items.Item.TheVariants.{Literal, AnyByte, AnyText, NoSpace, Spaces}

-- an item with the lower case of its literal
abbrev pub lower : Casemapping → Item → Item
lower mapping (Literal b) = Literal (low_by mapping b)
lower mapping AnyByte = AnyByte
lower mapping AnyText = AnyText
lower mapping NoSpace = NoSpace
lower mapping Spaces = Spaces

-- A to D are upper case, so no literal has them
abbrev pub decoded : ℕ → Item
decoded code =
    if code == 65 then AnyByte else
    (if code == 66 then AnyText else
    (if code == 67 then NoSpace else
    (if code == 68 then Spaces else Literal code)))

abbrev pub items_in : List ℕ → List Item
items_in codes = map decoded codes
