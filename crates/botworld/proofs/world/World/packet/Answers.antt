use Rattle.std.proofs.Common.{◌≡◌, ℕ, Option, None, Some, IfSome, ap, ◌∙◌, sym}
use Rattle.botworld.specs.declared.sent.Sent.{Sent}
use Rattle.botworld.specs.Net.{Net, packet_at}
use Rattle.botworld.specs.Network.{State, IsSound, IsTruePacket}
use Rattle.botworld.proofs.Shown.{sent_is_true}
use Rattle.botworld.proofs.Runs.{now_sound}
use Rattle.botworld.proofs.world.World.packet.Goals as goal

found_is_true : (s : State) → IsSound s → (n : ℕ) (r : Option Sent) → packet_at s.net.packets n ≡ r → IfSome r (λ sent. IsTruePacket s sent)
found_is_true s sound n None e = tt
found_is_true s sound n (Some sent) e = sent_is_true s sound n sent e

pub returns-clause-true_packet : goal.returns-clause-true_packet
returns-clause-true_packet g c past stands =
    let at = sym (c.lent.ensures ∙ ap (λ (w : Net). packet_at w.packets c.args.number) stands.net) in
    found_is_true past.now (now_sound _ _ past stands) c.args.number _ at
