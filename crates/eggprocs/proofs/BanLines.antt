-- The bans that are told, one after another.
use Rattle.std.proofs.Common.{◌≡◌, ◌∙◌, ℕ, ◌+◌, List, [], ◌∷◌, ◌++◌, map, take, drop, slice_get, length-drop, Some, sym, ap, arith}
use Rattle.std.proofs.lemmas.List.{take_more, get_or-drop, map-append}
use Rattle.std.proofs.lemmas.Option.{slice_get_within, get_or_from_slice_get}
use Rattle.userfile.specs.declared.ban.Ban.{Ban}
use Rattle.procs.specs.declared.action.Action.{Action}
use Rattle.procs.specs.declared.call.Call.{Call}
use Rattle.eggprocs.specs.Marks.{told_ban}

-- one ban more after those that are left out
take-ban : (bans : List Ban) (out count : ℕ) (ban : Ban) → slice_get bans (out + count) ≡ Some ban
    → take (count + 1) (drop out bans) ≡ take count (drop out bans) ++ ban ∷ []
take-ban bans out count ban found =
    let within = slice_get_within bans (out + count) ban found in
    take_more (drop out bans) count ban (omega (arith, within, length-drop out bans))
    ∙ ap (λ b. take count (drop out bans) ++ b ∷ []) (get_or-drop out bans count ban ∙ get_or_from_slice_get bans (out + count) ban ban found)

pub told_ban-more : (call : Call) (bans : List Ban) (out count : ℕ) (ban : Ban) (before after : List Action)
    → slice_get bans (out + count) ≡ Some ban → before ≡ map (told_ban call) (take count (drop out bans))
    → after ≡ before ++ told_ban call ban ∷ [] → after ≡ map (told_ban call) (take (count + 1) (drop out bans))
told_ban-more call bans out count ban before after found so_far added =
    added
    ∙ ap (λ actions. actions ++ told_ban call ban ∷ []) so_far
    ∙ sym (map-append (told_ban call) (take count (drop out bans)) (ban ∷ []))
    ∙ ap (map (told_ban call)) (sym (take-ban bans out count ban found))
