-- How calls that are made follow those that are defined.
use Rattle.std.proofs.Common.{◌≡◌, ℕ, List, [], ◌∷◌, ◌++◌, map, Bool, true, false, cond, refl, ap, sym, subst, ◌∙◌, append_assoc, drop, slice_get}
use Rattle.std.proofs.lemmas.List.{append-nil, map-append}
use Rattle.std.proofs.lemmas.List.Elements.{filter_map-append}
use Rattle.procs.specs.Seen.{Seen}
use Rattle.procs.specs.declared.call.Call.{Call}
use Rattle.procs.specs.declared.reply.Code.{Code}
use Rattle.procs.specs.declared.reply.ProcReply.{ProcReply}
use Rattle.procs.specs.Promises.{Promised, IsKept, code_at}
use Rattle.std.specs.Prelude.{None, Some, Err}
use Rattle.bytetext.specs.declared.failure.Failure.{Failure}
use Rattle.bytetext.specs.declared.failure.Failure.TheVariants.{Refused}
use Rattle.procs.specs.declared.proc_fault.CallFault.{CallFault}
use Rattle.procs.specs.declared.proc_fault.CallFault.TheVariants.{NoSuchProc}
use Rattle.procs.specs.Calling.{holds, IsCalled}
use Rattle.procs.specs.declared.bind.Bind.{Bind}
use Rattle.procs.specs.declared.made_call.MadeCall.{MadeCall}
use Rattle.procs.specs.declared.made_call.Unbound.{Unbound}
use Rattle.procs.specs.Tellings.{Entry, Telling, told_proc, told_all, called_in, missing_in, calls_in, unbound_in}
use Rattle.procs.specs.Tellings.Telling.{Called, Missing}
use Rattle.procs.specs.Made.{Made, entry_of, AllKept, IsMade, IsFrontMade, Adds, AddsFront}

module _ (promised : Promised) (seen : Seen) where
  pub AllKept-append : (xs : List MadeCall) (m : MadeCall) → AllKept promised seen xs → IsKept promised m.proc m.call seen m.reply
      → AllKept promised seen (xs ++ m ∷ [])
  AllKept-append [] m all kept = (kept, tt)
  AllKept-append (x ∷ xs) m all kept = (all.0, AllKept-append xs m all.1 kept)

  -- ---- one more

  -- a call more
  IsMade-called : (old new : Made) (before : List Telling) (m : MadeCall) → IsMade promised seen old before
      → new.calls ≡ old.calls ++ m ∷ [] → new.unbound ≡ old.unbound → IsKept promised m.proc m.call seen m.reply
      → IsMade promised seen new (before ++ Called (entry_of m) ∷ [])
  IsMade-called old new before m made calls unbound kept = record {
    calls = ap (map entry_of) calls ∙ map-append entry_of old.calls (m ∷ []) ∙ ap (λ es. es ++ entry_of m ∷ []) made.calls
        ∙ sym (filter_map-append called_in before (Called (entry_of m) ∷ []));
    unbound = unbound ∙ made.unbound ∙ sym (filter_map-append missing_in before (Called (entry_of m) ∷ []) ∙ append-nil (unbound_in before));
    kept = subst (AllKept promised seen) (sym calls) (AllKept-append old.calls m made.kept kept);
  }

  -- a bind more that is left out
  IsMade-missing : (old new : Made) (before : List Telling) (u : Unbound) → IsMade promised seen old before
      → new.calls ≡ old.calls → new.unbound ≡ old.unbound ++ u ∷ []
      → IsMade promised seen new (before ++ Missing u ∷ [])
  IsMade-missing old new before u made calls unbound = record {
    calls = ap (map entry_of) calls ∙ made.calls ∙ sym (filter_map-append called_in before (Missing u ∷ []) ∙ append-nil (calls_in before));
    unbound = unbound ∙ ap (λ us. us ++ u ∷ []) made.unbound ∙ sym (filter_map-append missing_in before (Missing u ∷ []));
    kept = subst (AllKept promised seen) (sym calls) made.kept;
  }

  -- a call whose proc is held, and whose reply keeps the promise
  pub Adds-called : (names : List (List ℕ)) (call : Call) (number : ℕ) (name : List ℕ) (old new : Made) (proc : List ℕ) (given : Call) (reply : ProcReply)
      → new.calls ≡ old.calls ++ record { bind = number; proc = proc; call = given; reply = reply } ∷ [] → new.unbound ≡ old.unbound
      → proc ≡ name → given ≡ call → (holds names name ≡ true) × IsKept promised name call seen reply
      → Adds promised seen old (told_proc (code_at promised seen.sight) names call number name ∷ []) new
  Adds-called names call number name old new proc given reply calls unbound same_name same answer =
      λ before made.
      let m : MadeCall = record { bind = number; proc = name; call = call; reply = reply } in
      let here : new.calls ≡ old.calls ++ m ∷ []
      = subst (λ (p : List ℕ). new.calls ≡ old.calls ++ record { bind = number; proc = p; call = call; reply = reply } ∷ []) same_name
      (subst (λ (c : Call). new.calls ≡ old.calls ++ record { bind = number; proc = proc; call = c; reply = reply } ∷ []) same calls) in
      let due : Entry = record { bind = number; proc = name; call = call; code = promised.code_of name call seen.sight } in
      let entry : entry_of m ≡ due = ap (λ (c : Code). record { bind = number; proc = name; call = call; code = c }) answer.1.code in
      let told : told_proc (code_at promised seen.sight) names call number name ≡ Called (entry_of m)
      = ap (λ (h : Bool). cond h (Called due) (Missing (record { bind = number; proc = name }))) answer.0
      ∙ ap Called (sym entry) in
      subst (λ (t : Telling). IsMade promised seen new (before ++ t ∷ [])) (sym told) (IsMade-called old new before m made here unbound answer.1)

  -- one whose proc is not held
  pub Adds-missing : (names : List (List ℕ)) (call : Call) (number : ℕ) (name : List ℕ) (old new : Made) (proc : List ℕ)
      → new.calls ≡ old.calls → new.unbound ≡ old.unbound ++ record { bind = number; proc = proc } ∷ []
      → proc ≡ name → holds names name ≡ false
      → Adds promised seen old (told_proc (code_at promised seen.sight) names call number name ∷ []) new
  Adds-missing names call number name old new proc calls unbound same_name absent =
      λ before made.
      let u : Unbound = record { bind = number; proc = name } in
      let here : new.unbound ≡ old.unbound ++ u ∷ []
      = subst (λ (p : List ℕ). new.unbound ≡ old.unbound ++ record { bind = number; proc = p } ∷ []) same_name unbound in
      let due : Entry = record { bind = number; proc = name; call = call; code = promised.code_of name call seen.sight } in
      let told : told_proc (code_at promised seen.sight) names call number name ≡ Missing u = ap (λ (h : Bool). cond h (Called due) (Missing u)) absent in
      subst (λ (t : Telling). IsMade promised seen new (before ++ t ∷ [])) (sym told) (IsMade-missing old new before u made calls here)

  -- ---- one after another

  -- nothing was made
  pub Adds-none : (made : Made) → Adds promised seen made [] made
  Adds-none made = λ before is. subst (IsMade promised seen made) (sym (append-nil before)) is

  pub Adds-append : (old mid new : Made) (xs ys : List Telling) → Adds promised seen old xs mid → Adds promised seen mid ys new
      → Adds promised seen old (xs ++ ys) new
  Adds-append old mid new xs ys first then_more =
      λ before made. subst (IsMade promised seen new) (append_assoc before xs ys) (then_more (before ++ xs) (first before made))

  -- what stops early has made the first of all
  pub AddsFront-Adds : (old new : Made) (xs ys : List Telling) → Adds promised seen old xs new → AddsFront promised seen old (xs ++ ys) new
  AddsFront-Adds old new xs ys adds = λ before made. (before ++ xs, ys, sym (append_assoc before xs ys), adds before made)

  -- what stops at once has made nothing of it
  pub front_none : (old : Made) (part : List Telling) → AddsFront promised seen old part old
  front_none old part = AddsFront-Adds old old [] part (Adds-none old)

  -- whatever is missing is not held
  pub absent : (names : List (List ℕ)) (name : List ℕ) (call : Call) (e : Failure CallFault) (fault : CallFault)
      → e ≡ Refused fault → IsCalled promised names name call seen (Err e) → holds names name ≡ false
  absent names name call e fault is called =
      by fault (subst (λ (e : Failure CallFault). IsCalled promised names name call seen (Err e)) is called)
    where
      by : (fault : CallFault) → IsCalled promised names name call seen (Err (Refused fault)) → holds names name ≡ false
      by NoSuchProc absent = absent

  -- the first of some binds
  pub told_all-first : (names : List (List ℕ)) (call : Call) (binds rest : List Bind) (b : Bind) → Some b ≡ slice_get binds 0 → rest ≡ drop 1 binds
      → told_all (code_at promised seen.sight) names call binds ≡ told_all (code_at promised seen.sight) names call (b ∷ []) ++ told_all (code_at promised seen.sight) names call rest
  told_all-first names call [] rest b first next = cc
  told_all-first names call (x ∷ xs) rest b first next =
      let here : b ≡ x = cc in
      let after : rest ≡ xs = next in
      rw (here, after) refl

  -- one more of the binds is called
  pub goes_on : (names : List (List ℕ)) (call : Call) (binds rest : List Bind) (b : Bind) (old mid new : Made) (done all : List Telling)
      → Some b ≡ slice_get binds 0 → rest ≡ drop 1 binds
      → Adds promised seen old done mid → done ++ told_all (code_at promised seen.sight) names call binds ≡ all
      → Adds promised seen mid (told_all (code_at promised seen.sight) names call (b ∷ [])) new
      → (so_far : List Telling) × Adds promised seen old so_far new × (so_far ++ told_all (code_at promised seen.sight) names call rest ≡ all)
  goes_on names call binds rest b old mid new done all first next before whole more = (
    done ++ told_all (code_at promised seen.sight) names call (b ∷ []),
    Adds-append old mid new done (told_all (code_at promised seen.sight) names call (b ∷ [])) before more,
    append_assoc done (told_all (code_at promised seen.sight) names call (b ∷ [])) (told_all (code_at promised seen.sight) names call rest)
        ∙ ap (λ (ts : List Telling). done ++ ts) (sym (told_all-first names call binds rest b first next)) ∙ whole,
  )

  -- no bind is left
  pub all_done : (names : List (List ℕ)) (call : Call) (binds : List Bind) (old new : Made) (done all : List Telling)
      → None ≡ slice_get binds 0 → Adds promised seen old done new → done ++ told_all (code_at promised seen.sight) names call binds ≡ all → Adds promised seen old all new
  all_done names call [] old new done all none adds whole = subst (λ (ts : List Telling). Adds promised seen old ts new) (sym (append-nil done) ∙ whole) adds
  all_done names call (x ∷ xs) old new done all none adds whole = cc

  -- memory ran out at one of them
  pub stopped : (old mid new : Made) (done rest all : List Telling) → new ≡ mid → Adds promised seen old done mid → done ++ rest ≡ all
      → AddsFront promised seen old all new
  stopped old mid new done rest all same adds whole =
      subst (λ (ts : List Telling). AddsFront promised seen old ts new) whole
      (AddsFront-Adds old new done rest (subst (λ (m : Made). Adds promised seen old done m) (sym same) adds))

  -- what follows stops early
  pub AddsFront-after : (old mid new : Made) (xs ys : List Telling) → Adds promised seen old xs mid → AddsFront promised seen mid ys new
      → AddsFront promised seen old (xs ++ ys) new
  AddsFront-after old mid new xs ys first front =
      λ before made. subst (IsFrontMade promised seen new) (append_assoc before xs ys) (front (before ++ xs) (first before made))
