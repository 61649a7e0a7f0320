use Rattle.std.proofs.Common.{◌≡◌, ◌≢◌, ℕ, Bool, true, false, List, Option, refl, ap, ◌∙◌}
use Rattle.std.specs.Prelude.{codes, if◌then◌else◌, unwrap_or}
use Rattle.std.specs.List.{flat_map}
use Rattle.ircline.specs.declared.message.Message.{Message}
use Rattle.ircline.specs.declared.numeric.Numeric.{Numeric}
use Rattle.ircline.specs.declared.numeric.Numeric.TheVariants.{Welcome, ErroneousNickname, NicknameInUse, NickCollision, UnavailableResource, Other}
use Rattle.ircline.specs.Sources.{Source, source_of}
use Rattle.rfccase.specs.declared.casemappings.Casemapping.{Casemapping}
use Rattle.procs.specs.declared.action.PutWish.{PutWish}
use Rattle.userfile.specs.declared.ban.Ban.{Ban}
use Rattle.chanstate.specs.declared.state.ChanState.{ChanState}
use Rattle.chanstate.specs.declared.channel_command.ChannelCommand.{ChannelCommand}
use Rattle.chanstate.specs.declared.channel_command.ChannelCommand.TheVariants as verb
use Rattle.chanstate.specs.Items.{items_by, join_items, verb_of}
use Rattle.chanstate.specs.Steps.{after, steps}
use Rattle.chanstate.specs.Views.{mapping_of}
use Rattle.chanstate.proofs.FindLemmas.{pointwise-same}
use Rattle.botcore.specs.declared.config.Config.{Config}
use Rattle.botcore.specs.declared.watched_command.WatchedCommand.{WatchedCommand}
use Rattle.botcore.specs.declared.watched_command.WatchedCommand.TheVariants as cue
use Rattle.botcore.specs.Automatic.{cue_of, numeric_cue, watched, barred, lines_by, unless_left}
use Rattle.botcore.proofs.JoiningLemmas.{mapping-after, watched-after}
use Rattle.botcore.proofs.automatic_laws.laws_of_automatic_lines.Goals as goal

-- the command whose cue is JOIN
second_of : (a b c : Bool) (n : Numeric)
    → (if a then cue.Ping else (if b then cue.Join else (if c then cue.Mode else numeric_cue n))) ≡ cue.Join → b ≡ true
second_of true b c n is = cc
second_of false true c n is = refl
second_of false false true n is = cc
second_of false false false Welcome is = cc
second_of false false false ErroneousNickname is = cc
second_of false false false NicknameInUse is = cc
second_of false false false NickCollision is = cc
second_of false false false UnavailableResource is = cc
second_of false false false Other is = cc

join_verb : (command : List ℕ) → cue_of command ≡ cue.Join → verb_of command ≡ verb.Join
join_verb command is = ap verb_of (pointwise-same command (codes "JOIN") (second_of _ _ _ _ is))

-- the lines about a person who has joined, by these channels
abbrev lines_in : Source → List Ban → Option ℕ → Message → ChanState → List PutWish
lines_in from bans last message s =
    flat_map (barred (mapping_of s) bans (unwrap_or last 0) from) (watched from message.params s)

alike : (c : WatchedCommand) (config : Config) (s : ChanState) (bans : List Ban) (last : Option ℕ) (welcomed : Bool) (message : Message)
    → cue_of message.command ≡ c → c ≢ cue.Mode
    → lines_by c config (after message s) bans last welcomed message ≡ lines_by c config s bans last welcomed message
alike cue.Ping config s bans last welcomed message is other = refl
alike cue.Join config s bans last welcomed message is other =
    let from = source_of message.prefix in
    let joined = steps (join_items from message.params) s in
    ap (unless_left config.leaves_bans)
    (ap (λ (v : ChannelCommand). lines_in from bans last message (steps (items_by v from message.params) s)) (join_verb message.command is)
    ∙ ap (λ (mapping : Casemapping). flat_map (barred mapping bans (unwrap_or last 0) from) (watched from message.params joined))
    (mapping-after from message.params s)
    ∙ ap (flat_map (barred (mapping_of s) bans (unwrap_or last 0) from)) (watched-after from message.params s))
alike cue.Mode config s bans last welcomed message is other = absurd (other refl)
alike cue.RplWelcome config s bans last welcomed message is other = refl
alike cue.ErrNicknameInUse config s bans last welcomed message is other = refl
alike cue.Other config s bans last welcomed message is other = refl

pub returns : goal.returns
returns c = λ config s bans last welcomed message other. alike (cue_of message.command) config s bans last welcomed message refl other
