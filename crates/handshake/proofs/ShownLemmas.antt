-- A leaf that asks has shown the code under its own key.
use Rattle.std.proofs.Common.{◌≡◌, ◌+◌, ℕ, Bool, true, false, not, if◌then◌else◌, List, take, Option, Some, None, refl}
use Rattle.std.proofs.lemmas.Slice.Eq.{bytes_eq-Decides}
use Rattle.handshake.specs.declared.fault.HandshakeFault.TheVariants.{NoSuchLeaf, WrongCode}
use Rattle.handshake.specs.declared.reading.Ask.{Ask}
use Rattle.handshake.specs.declared.hub_side.HubSide.{HubSide}
use Rattle.handshake.specs.declared.hub_side.HubHears.TheVariants.{Asks, Refused}
use Rattle.handshake.specs.Keys.{leaf_key}
use Rattle.handshake.specs.Lines.{leaf_code}
use Rattle.handshake.specs.Reading.{line_len, ask_in}
use Rattle.handshake.specs.Sides.{IsShown, hub_hears_ask, is_leaf, shows_code}

module _ (side : HubSide) (heard : List ℕ) where
  -- what is tested of a line
  tested : (n : ℕ) (ask : Ask) (known code : Bool) → line_len heard ≡ Some n → ask_in (take n heard) ≡ Some ask
      → is_leaf side.leaves ask.words.leaf ≡ known → shows_code side ask ≡ code
      → IsShown side heard (if not known then Refused NoSuchLeaf else if not code then Refused WrongCode else Asks (n + 1) ask)
  tested n ask false code ends says known_is code_is = tt
  tested n ask true false ends says known_is code_is = tt
  tested n ask true true ends says known_is code_is = record {
    len = n;
    line = ends;
    used_is = refl;
    says = says;
    known = known_is;
    code = (bytes_eq-Decides ask.code (leaf_code (leaf_key side.key ask.words.leaf) ask.words side.nonce)).0 code_is;
  }

  pub heard_line : (n : ℕ) (said : Option Ask) → line_len heard ≡ Some n → ask_in (take n heard) ≡ said
      → IsShown side heard (hub_hears_ask side (n + 1) (take n heard) said)
  heard_line n None ends says = tt
  heard_line n (Some ask) ends says = tested n ask _ _ ends says refl refl
