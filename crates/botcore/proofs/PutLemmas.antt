-- What puts leave of queues, and how it is taken back.
use Rattle.std.proofs.Common.{◌≡◌, ◌∙◌, ℕ, ◌-◌, Bool, true, false, cond, Result, Ok, Err, List, [], ◌∷◌, ◌++◌, length, take, refl, ap, sym, subst, append_assoc}
use Rattle.std.proofs.lemmas.List.{append-nil}
use Rattle.std.proofs.Math.Seq.{take-append_seam}
use Rattle.bytetext.specs.declared.failure.Failure.{Failure}
use Rattle.bytetext.specs.declared.failure.Failure.TheVariants.{Refused, NoMemory}
use Rattle.outqueue.specs.declared.fault.QueueFault.{QueueFault}
use Rattle.outqueue.specs.declared.queue.Queue.{Queue}
use Rattle.outqueue.specs.declared.queue.Queue.TheVariants.{Mode, Server, Help}
use Rattle.outqueue.specs.declared.queues.Counts.{Counts}
use Rattle.outqueue.specs.Once.{stands, put_once, PutsOnce}
use Rattle.outqueue.specs.Refusals.{put_last, put_prompt, Puts, PutsPrompt}
use Rattle.outqueue.specs.Sending.{Sending, Room, no_room, counts_of, with_first}
use Rattle.procs.specs.declared.action.PutWish.{PutWish}
use Rattle.botcore.specs.declared.fault.StepFault.{StepFault}
use Rattle.botcore.specs.declared.manner.Manner.{Manner}
use Rattle.botcore.specs.Putting.{Continues, HasMoreLines, put_all, put_faults}

-- lines after lines ------------------------------------------------------------------------------------------------------

Continues_same : (xs ys : List (List ℕ)) → ys ≡ xs → Continues xs ys
Continues_same xs ys same = ([], same ∙ sym (append-nil xs))

Continues-then : (xs ys zs : List (List ℕ)) → Continues xs ys → Continues ys zs → Continues xs zs
Continues-then xs ys zs one other =
    (one.0 ++ other.0, other.1 ∙ ap (λ (l : List (List ℕ)). l ++ other.0) one.1 ∙ append_assoc xs one.0 other.0)

-- no line more
pub HasMoreLines_same : (old new : Sending) → new ≡ old → HasMoreLines old new
HasMoreLines_same old new same = record {
  prompt = Continues_same old.prompt new.prompt (ap (λ (q : Sending). q.prompt) same);
  mode = Continues_same old.mode new.mode (ap (λ (q : Sending). q.mode) same);
  server = Continues_same old.server new.server (ap (λ (q : Sending). q.server) same);
  help = Continues_same old.help new.help (ap (λ (q : Sending). q.help) same);
  timer = ap (λ (q : Sending). q.timer) same;
  room = λ none. ap (λ (q : Sending). q.room) same ∙ none;
}

-- one line more
line_more : (old : Sending) (queue : Queue) (line : List ℕ) → HasMoreLines old (put_last old queue line)
line_more old Mode line = record {
  prompt = Continues_same old.prompt old.prompt refl;
  mode = (line ∷ [], refl);
  server = Continues_same old.server old.server refl;
  help = Continues_same old.help old.help refl;
  timer = refl;
  room = λ none. ap (λ (room : Room). record room { mode = room.mode - 1 }) none;
}
line_more old Server line = record {
  prompt = Continues_same old.prompt old.prompt refl;
  mode = Continues_same old.mode old.mode refl;
  server = (line ∷ [], refl);
  help = Continues_same old.help old.help refl;
  timer = refl;
  room = λ none. ap (λ (room : Room). record room { server = room.server - 1 }) none;
}
line_more old Help line = record {
  prompt = Continues_same old.prompt old.prompt refl;
  mode = Continues_same old.mode old.mode refl;
  server = Continues_same old.server old.server refl;
  help = (line ∷ [], refl);
  timer = refl;
  room = λ none. ap (λ (room : Room). record room { help = room.help - 1 }) none;
}

pub HasMoreLines_last : (old new : Sending) (queue : Queue) (line : List ℕ) → new ≡ put_last old queue line → HasMoreLines old new
HasMoreLines_last old new queue line last = subst (HasMoreLines old) (sym last) (line_more old queue line)

answer_more : (old : Sending) (line : List ℕ) → HasMoreLines old (put_prompt old line)
answer_more old line = record {
  prompt = (line ∷ [], refl);
  mode = Continues_same old.mode old.mode refl;
  server = Continues_same old.server old.server refl;
  help = Continues_same old.help old.help refl;
  timer = refl;
  room = λ none. none;
}

-- whatever became of the line
pub HasMoreLines_puts : {T : Type 0} (old new : Sending) (queue : Queue) (line : List ℕ) (result : Result T (Failure QueueFault))
    → Puts old queue line result new → HasMoreLines old new
HasMoreLines_puts old new queue line (Ok done) puts = HasMoreLines_last old new queue line puts.1
HasMoreLines_puts old new queue line (Err (Refused fault)) puts = HasMoreLines_same old new puts.1
HasMoreLines_puts old new queue line (Err NoMemory) puts = HasMoreLines_same old new puts.1

-- a line that stands already leaves no line more
once_more : (old : Sending) (queue : Queue) (line : List ℕ) → HasMoreLines old (put_once old queue line)
unfolding put_once
once_more old queue line = by (stands old queue line)
  where
    by : (stands_already : Bool) → HasMoreLines old (cond stands_already old (put_last old queue line))
    by true = HasMoreLines_same old old refl
    by false = line_more old queue line

pub HasMoreLines_once : {T : Type 0} (old new : Sending) (queue : Queue) (line : List ℕ) (result : Result T (Failure QueueFault))
    → PutsOnce old queue line result new → HasMoreLines old new
HasMoreLines_once old new queue line (Ok done) puts = subst (HasMoreLines old) (sym puts.1) (once_more old queue line)
HasMoreLines_once old new queue line (Err (Refused fault)) puts = HasMoreLines_same old new puts.1
HasMoreLines_once old new queue line (Err NoMemory) puts = HasMoreLines_same old new puts.2

pub HasMoreLines_prompt : {T : Type 0} (old new : Sending) (line : List ℕ) (result : Result T (Failure QueueFault))
    → PutsPrompt old line result new → HasMoreLines old new
HasMoreLines_prompt old new line (Ok done) puts = subst (HasMoreLines old) (sym puts.1) (answer_more old line)
HasMoreLines_prompt old new line (Err (Refused fault)) puts = HasMoreLines_same old new puts.1
HasMoreLines_prompt old new line (Err NoMemory) puts = HasMoreLines_same old new puts.1

pub HasMoreLines-then : (a b c : Sending) → HasMoreLines a b → HasMoreLines b c → HasMoreLines a c
HasMoreLines-then a b c one other = record {
  prompt = Continues-then a.prompt b.prompt c.prompt one.prompt other.prompt;
  mode = Continues-then a.mode b.mode c.mode one.mode other.mode;
  server = Continues-then a.server b.server c.server one.server other.server;
  help = Continues-then a.help b.help c.help one.help other.help;
  timer = other.timer ∙ one.timer;
  room = λ none. other.room (one.room none);
}

-- lines taken back -------------------------------------------------------------------------------------------------------

taken : (old new : List (List ℕ)) → Continues old new → take (length old) new ≡ old
taken old new more = ap (take (length old)) more.1 ∙ take-append_seam old more.0

-- queues without room have the lines of before again
pub lines_back : (old new : Sending) (counts : Counts) → HasMoreLines old new → counts ≡ counts_of old → old.room ≡ no_room
    → with_first new counts ≡ old
lines_back old new counts more counted none =
    let mode = take (length old.mode) new.mode in
    let server = take (length old.server) new.server in
    let help = take (length old.help) new.help in
    ap (with_first new) counted
    ∙ ap (λ (l : List (List ℕ)). record new { prompt = l; mode = mode; server = server; help = help }) (taken old.prompt new.prompt more.prompt)
    ∙ ap (λ (l : List (List ℕ)). record new { prompt = old.prompt; mode = l; server = server; help = help }) (taken old.mode new.mode more.mode)
    ∙ ap (λ (l : List (List ℕ)). record new { prompt = old.prompt; mode = old.mode; server = l; help = help })
    (taken old.server new.server more.server)
    ∙ ap (λ (l : List (List ℕ)). record new { prompt = old.prompt; mode = old.mode; server = old.server; help = l })
    (taken old.help new.help more.help)
    ∙ ap (λ (t : ℕ). record old { timer = t; room = new.room }) more.timer
    ∙ ap (λ (room : Room). record old { room = room }) (more.room none ∙ sym none)

-- puts after puts --------------------------------------------------------------------------------------------------------

-- some of all lines were put, from a first moment on, and these are left
pub record IsPutting (manner : Manner) (old : Sending) (before : List StepFault) (all : List PutWish) (now : Sending)
    (told : List StepFault) (left : List PutWish) : Type 0 where
  pub queues : put_all manner now left ≡ put_all manner old all
  pub faults : told ++ put_faults manner now left ≡ before ++ put_faults manner old all
  pub kept : HasMoreLines old now
