-- What contracts see of a message, borrowed part by part.
use Rattle.std.specs.Prelude.{ℕ, List, [], ◌∷◌, ◌++◌, map}
use Rattle.ircline.specs.declared.person.Person.{Person}
use Rattle.chanstate.specs.declared.message_parts.MessageParts.{MessageParts}
use Rattle.chanstate.specs.declared.message_parts.MessageParts.TheVariants as change
use Rattle.chanstate.specs.declared.detail_parts.DetailParts.{DetailParts}
use Rattle.chanstate.specs.declared.detail_parts.DetailParts.TheVariants as part
use Rattle.chanstate.specs.declared.detail.Detail.{Detail}
use Rattle.chanstate.specs.declared.detail.Detail.TheVariants.{Account, Address}
use Rattle.chanstate.specs.Items.{Item, Welcomed, Announced, Joined, Left, Departed, Renamed, ModesSet, Titled, NamesTold, Addressed, channels_in}
use Rattle.chanstate.specs.Items.{Told, ToldAtJoin, JoinsTell, Entry}
use Rattle.chanstate.specs.declared.words.Listing.{Listing}

-- the joins of a person on the channels of a list
abbrev pub joins_in : Person → List ℕ → List Item
joins_in person list = map (Joined person.nick.now person.user.now person.host.now) (channels_in list)

-- what is told of a nick
abbrev pub detail_seen : DetailParts → Detail
detail_seen (part.Account account) = Account account.now
detail_seen (part.Address user host) = Address user.now host.now

-- what an answer to WHO tells with the account
abbrev pub who_seen : List ℕ → List ℕ → List ℕ → List ℕ → List ℕ → List Item
who_seen channel user host nick account = Addressed channel nick user host ∷ Told nick (Account account) ∷ []

-- the items that a change means
abbrev pub items_seen : MessageParts → List Item
items_seen change.Nothing = []
items_seen (change.Welcome nick) = Welcomed nick.now ∷ []
items_seen (change.Announce tokens) = Announced tokens.now ∷ []
items_seen (change.Join person list) = joins_in person list.now
items_seen (change.JoinAs person list account) = joins_in person list.now ++ ToldAtJoin person.nick.now account.now ∷ []
items_seen (change.Part nick list) = map (Left nick.now) (channels_in list.now)
items_seen (change.Kick channel target) = Left target.now channel.now ∷ []
items_seen (change.Quit nick) = Departed nick.now ∷ []
items_seen (change.Nick old new) = Renamed old.now new.now ∷ []
items_seen (change.Mode channel modes arguments) = ModesSet channel.now modes.now arguments.now ∷ []
items_seen (change.Topic channel topic) = Titled channel.now topic.now ∷ []
items_seen (change.Names channel names) = NamesTold channel.now names.now ∷ []
items_seen (change.Address channel user host nick) = Addressed channel.now nick.now user.now host.now ∷ []
items_seen (change.Who channel user host nick account) = who_seen channel.now user.now host.now nick.now account.now
items_seen (change.Tell nick detail) = Told nick.now (detail_seen detail) ∷ []
items_seen (change.JoinsTell tell) = JoinsTell tell ∷ []

-- whom a word of a list of names names
abbrev pub entry_seen : Listing → Entry
entry_seen listing = record { nick = listing.nick.now; user = listing.user.now; host = listing.host.now }
