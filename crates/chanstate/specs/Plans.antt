-- What is prepared for a message before it is taken in.
use Rattle.std.specs.Prelude.{◌≡◌, Bool, true, false, ◌&&◌, List, Option, None, Some, if◌then◌else◌, unwrap_or}
use Rattle.ircline.specs.declared.message.Message.{Message}
use Rattle.chanstate.specs.declared.state.ChanState.{ChanState}
use Rattle.chanstate.specs.declared.message_plan.MessagePlan.{MessagePlan}
use Rattle.chanstate.specs.declared.message_plan.MessagePlan.TheVariants.{Plain, Welcome, Title, Address, Open, Come, Tell, Seat}
use Rattle.chanstate.specs.declared.telling.Telling.{Telling}
use Rattle.chanstate.specs.Tellings.{told_each}
use Rattle.chanstate.specs.Views.{mapping_of}
use Rattle.chanstate.specs.declared.support.Support.{Support}
use Rattle.chanstate.specs.Announced.{with_join}
use Rattle.chanstate.specs.Items.{Item, Welcomed, Titled, Addressed, items_of}
use Rattle.chanstate.specs.Steps.{step, steps}
use Rattle.chanstate.specs.Memory.{any_adds}
use Rattle.chanstate.specs.Takes.{given}

-- whether nothing had to be prepared
abbrev pub is_plain : MessagePlan → Bool
is_plain Plain = true
is_plain other = false

-- the support once a JOIN has been read, if one has
abbrev pub joined_if : Bool → Support → Support
joined_if joined s = if joined then with_join s else s

-- the state once what was prepared is told of a nick
abbrev pub told : Option Telling → ChanState → ChanState
told None s = s
told (Some t) s = record s { channels = told_each (mapping_of s) t.nick t.details.items s.channels }

abbrev pub told_if : Bool → Option Telling → ChanState → ChanState
told_if done telling s = if done then told telling s else s

-- the state that takes in what was prepared, or gets back what was taken out for it
abbrev pub settled : Bool → MessagePlan → ChanState → ChanState
settled done Plain s = s
settled done (Welcome nick) s = if done then step (Welcomed nick) s else s
settled done (Title channel topic) s = if done then step (Titled channel topic) s else s
settled done (Address channel nick user host telling) s = if done then told telling (step (Addressed channel nick user host) s) else s
settled done (Open joined o telling) s = told_if done telling (record s {
  channels = if done then o.1 else o.0;
  support = joined_if (done && joined) s.support;
})
settled done (Come joined takes telling) s = told_if done telling (record s {
  channels = given done takes.items s.channels;
  support = joined_if (done && joined) s.support;
})
settled done (Tell telling) s = told_if done (Some telling) s
settled done (Seat own takes) s = record s {
  nick = if done then unwrap_or own s.nick else s.nick;
  channels = given done takes.items s.channels;
}

-- the state after what was prepared, if anything had to be
abbrev pub after_plan : MessagePlan → ChanState → Option ChanState
after_plan plan s = if is_plain plan then None else Some (settled true plan s)

-- what was prepared suits some items and a state: it gives the state after them, or nothing if they allocate nothing
abbrev pub Suits : List Item → ChanState → Option ChanState → Type 0
Suits items s None = any_adds items s ≡ false
Suits items s (Some next) = next ≡ steps items s

-- a plan for some items, and the state that is left meanwhile
abbrev pub IsPlanFor : List Item → MessagePlan → ChanState → ChanState → Type 0
IsPlanFor items plan left s = (settled false plan left ≡ s) × Suits items s (after_plan plan left)

-- a plan for some items, after which what was prepared is told; it is never plain
abbrev pub IsToldAfter : List Item → Option Telling → MessagePlan → ChanState → ChanState → Type 0
IsToldAfter items telling plan left s = (settled false plan left ≡ s) × (after_plan plan left ≡ Some (told telling (steps items s)))

-- what was prepared for a message and a state
abbrev pub IsReady : Message → ChanState → ChanState × Option ChanState → Type 0
IsReady m s made = (made.0 ≡ s) × Suits (items_of m) s made.1
