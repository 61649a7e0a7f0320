use Rattle.std.proofs.Common.{◌≡◌, ℕ, Bool, true, false, not, List, ◌+◌, ◌++◌, take, ap, subst, sym, ◌∙◌, arith}
use Rattle.std.specs.List.{flat_map}
use Rattle.std.specs.Option.{is_none}
use Rattle.std.proofs.lemmas.Grind.{common_steps}
use Rattle.std.proofs.lemmas.List.{take_all}
use Rattle.sharewire.specs.declared.packet.Packet.{Packet}
use Rattle.sharewire.specs.Streams.{Tells}
use Rattle.sharewire.proofs.PieceLaws.{first_fault, kept_fault, ends_so}
use Rattle.sharewire.proofs.pieces.read_pieces.Goals as goal
use Rattle.sharewire.proofs.pieces.read_pieces.Goals.{then-is_none, else-is_none}

pub loop-piece-preserved : goal.loop-piece-preserved
loop-piece-preserved c =
    let before : List ℕ = flat_map (λ (piece : List ℕ). piece) (take c.loop-piece.piece-index c.args.pieces.now) in
    let after : List ℕ = flat_map (λ (piece : List ℕ). piece) (take (c.loop-piece.piece-index + 1) c.args.pieces.now) in
    let stream_is : before ++ c.as_bytes.result.now ≡ after = grind (arith, common_steps) in
    let packets_is : c.loop-piece.packets.items ++ c.in_ok-feed.feed.packets ≡ c.append.new.self.items = grind (arith, common_steps) in
    let more = c.in_ok-feed.ensures.told before c.loop-piece.packets.items c.loop-piece.invariant.told in
    let told_on : Tells after (c.loop-piece.packets.items ++ c.in_ok-feed.feed.packets) c.feed.new.self =
    subst (λ (s : List ℕ). Tells s (c.loop-piece.packets.items ++ c.in_ok-feed.feed.packets) c.feed.new.self) stream_is more in
    record {
      told = subst (λ (ps : List Packet). Tells after ps c.feed.new.self) packets_is told_on;
      fault = elim c.if-is_none.branch [
        | then-is_none w ↦
            let none : is_none c.loop-piece.fault ≡ true = ap not c.is_none.ensures ∙ ap (λ (b : Bool). not (not b)) w.if-is_none.true in
            w.fault-is ∙ first_fault c.loop-piece.reader c.feed.new.self c.loop-piece.fault c.in_ok-feed.feed.fault c.loop-piece.invariant.fault
            c.in_ok-feed.ensures.fault none
        | else-is_none w ↦
            let some : is_none c.loop-piece.fault ≡ false = ap not c.is_none.ensures ∙ ap (λ (b : Bool). not (not b)) w.if-is_none.false in
            w.fault-is ∙ kept_fault c.loop-piece.reader c.feed.new.self c.loop-piece.fault c.loop-piece.invariant.fault
            c.in_ok-feed.ensures.stays some
      ];
    }

pub returns-clause-told : goal.returns-clause-told
returns-clause-told c =
    let all : take c.loop-piece.piece-index c.args.pieces.now ≡ c.args.pieces.now = take_all c.loop-piece.piece-index c.args.pieces.now (omega arith) in
    let whole : Tells (flat_map (λ (piece : List ℕ). piece) c.args.pieces.now) c.loop-piece.packets.items c.loop-piece.reader =
    subst (λ (ps : List (List ℕ)). Tells (flat_map (λ (piece : List ℕ). piece) ps) c.loop-piece.packets.items c.loop-piece.reader) all
    c.loop-piece.invariant.told in
    let packets_is : Tells (flat_map (λ (piece : List ℕ). piece) c.args.pieces.now) c.new.result c.loop-piece.reader =
    subst (λ (ps : List Packet). Tells (flat_map (λ (piece : List ℕ). piece) c.args.pieces.now) ps c.loop-piece.reader) (sym c.new.ensures) whole in
    ends_so c.loop-piece.reader c.loop-piece.fault (flat_map (λ (piece : List ℕ). piece) c.args.pieces.now) c.new.result c.loop-piece.invariant.fault packets_is
