-- Where the addresses of an answer stand in the reply.
use Rattle.std.specs.Prelude.{◌≡◌, ℕ, ◌+◌, List, take, drop, Some}
use Rattle.std.specs.List.{AllByRecursion}
use Rattle.std.specs.declared.net.ip_addr.IpAddr.{IpAddr}
use Rattle.resolver.specs.declared.family.Family.{Family}
use Rattle.resolver.specs.declared.reply.NameAnswer.{NameAnswer}
use Rattle.resolver.specs.declared.reply.NameAnswer.TheVariants.{Found, Nothing}
use Rattle.resolver.specs.Queries.{kind_and_class}
use Rattle.resolver.specs.Replies.{number_at, address_of}

-- at some place of the reply stand a record's type, which is the one that was asked for, its class, which is IN, and its
-- size; the bytes that it holds, so many and no more, are the address
pub record IsHeld (family : Family) (reply : List ℕ) (address : IpAddr) : Type 0 where
  pub place : ℕ
  pub kind : take 4 (drop place reply) ≡ kind_and_class family
  pub holds : address_of family (take (number_at 8 (drop place reply)) (drop (place + 10) reply)) ≡ Some address

abbrev pub AreHeld : Family → List ℕ → NameAnswer → Type 0
AreHeld family reply (Found found) = AllByRecursion (IsHeld family reply) found
AreHeld family reply Nothing = Unit {0}
