-- The invocation that waits for a peer's answer is the one that is found by its call.
use Rattle.std.proofs.Common.{◌≡◌, ℕ, ◌+◌, ◌≤◌, Bool, true, false, cond, eqb, ◌&&◌, List as Listed}
use Rattle.std.proofs.Common.{[], ◌∷◌, Option, Some, None, refl, sym, ap, ◌∙◌, arith}
use Rattle.std.specs.{Option.is_some, Bool.beq}
use Rattle.do_base.specs.names.Names.{CallName}
use Rattle.do_behave.specs.declared.invocation.{Answer.Answer, Invocation.Invocation}
use Rattle.do_behave.specs.declared.invocation.InvState.{InvState, TheVariants.{Running, Below}}
use Rattle.do_behave.specs.declared.invocation.InvState.TheVariants.{Waits, Answered}
use Rattle.do_behave.specs.declared.invocation.Waited.{Waited}
use Rattle.do_machine.specs.{Lists.some_passes, take.Awaiting.{AnsweredCall, awaits}}
use Rattle.do_machine.specs.take.Awaiting.{answered_state, is_for_root, stack_answered}
use Rattle.do_stack.specs.Waiting.{asked_by, waits_for, waiting, with_answer}
use Rattle.do_part.{specs.Numbered.{waits_at, waits_away}, proofs.Numbering.{weigh, weigh-cons}}

-- what passes is there
pub passes-some : (test : Waited → Bool) (o : Option Waited) → some_passes test o ≡ true
    → is_some o ≡ true
passes-some test None passes = absurd (cc)
passes-some test (Some what) passes = refl

-- a call as its answer names it
abbrev pub call_to : ℕ → ℕ → Bool → AnsweredCall
call_to peer number root = record { peer = peer; number = number; root = root }

-- the same call as the stack of its caller names it
abbrev pub call_of : ℕ → ℕ → CallName
call_of port number = record { node = port; number = number }

-- an invocation waits for the call, and asked for what the answer is to
abbrev pub is_awaited : ℕ → ℕ → ℕ → Bool → Listed Invocation → Bool
is_awaited port peer number root stack =
    some_passes (λ what. beq (is_for_root what) root) (waiting (call_of port number) peer stack)

module _ (port peer number : ℕ) (root : Bool) (a : Answer) where
  -- the call as its answer names it
  abbrev k : AnsweredCall
  k = call_to peer number root

  -- and as the stack does
  abbrev call : CallName
  call = call_of port number

  -- what was asked for is what the answer is to
  abbrev fits : Waited → Bool
  fits what = beq (is_for_root what) root

  -- where no call that is waited for has the number, none is answered
  none-answered : (stack : Listed Invocation) → weigh (waits_at number) stack ≡ 0
      → stack_answered k (λ what. a) stack ≡ stack
  none-answered [] none = refl
  none-answered (i ∷ below) none =
      let x = weigh-cons (waits_at number) i below in
      go i.state (omega (arith, x, none)) (none-answered below (omega (arith, x, none)))
    where
      go : (s : InvState) → waits_at number s ≡ 0
          → stack_answered k (λ what. a) below ≡ below
          → cond (awaits k s) (record i { state = answered_state (λ what. a) s } ∷ below)
          (i ∷ stack_answered k (λ what. a) below) ≡ (i ∷ below)
      go Running zero later = ap (λ l. i ∷ l) later
      go Below zero later = ap (λ l. i ∷ l) later
      go (Answered b) zero later = ap (λ l. i ∷ l) later
      go (Waits c p what) zero later = at (eqb c.number number) zero
        where
          at : (n : Bool) → ◌≡◌ {A = ℕ} (cond n 1 0) 0
              → cond (n && (eqb p peer) && (fits what)) (record i { state = Answered a } ∷ below)
              (i ∷ stack_answered k (λ what. a) below) ≡ (i ∷ below)
          at true one = absurd (omega (arith, one))
          at false one = ap (λ l. i ∷ l) later

  -- the one that is found by its call is answered, if it asked for what the answer is to
  pub awaited-answered : (stack : Listed Invocation) → weigh (waits_away port) stack ≡ 0
      → is_awaited port peer number root stack ≡ true
      → with_answer call peer a stack ≡ stack_answered k (λ what. a) stack
  awaited-answered [] home passes = refl
  awaited-answered (i ∷ below) home passes =
      let x = weigh-cons (waits_away port) i below in
      go i.state (omega (arith, x, home)) passes
      (awaited-answered below (omega (arith, x, home)))
    where
      go : (s : InvState) → waits_away port s ≡ 0
          → some_passes fits (cond (waits_for call peer s) (asked_by s) (waiting call peer below))
          ≡ true
          → (some_passes fits (waiting call peer below) ≡ true
          → with_answer call peer a below ≡ stack_answered k (λ what. a) below)
          → cond (waits_for call peer s) (record i { state = Answered a } ∷ below)
          (i ∷ with_answer call peer a below)
          ≡ cond (awaits k s) (record i { state = answered_state (λ what. a) s } ∷ below)
          (i ∷ stack_answered k (λ what. a) below)
      go Running away found later = ap (λ l. i ∷ l) (later found)
      go Below away found later = ap (λ l. i ∷ l) (later found)
      go (Answered b) away found later = ap (λ l. i ∷ l) (later found)
      go (Waits c p what) away found later =
          at (eqb c.node port) (eqb c.number number) (eqb p peer) away found
        where
          at : (h n q : Bool) → ◌≡◌ {A = ℕ} (cond h 0 1) 0
              → some_passes fits (cond ((h && n) && q) (Some what) (waiting call peer below)) ≡ true
              → cond ((h && n) && q) (record i { state = Answered a } ∷ below)
              (i ∷ with_answer call peer a below)
              ≡ cond (n && q && (fits what)) (record i { state = Answered a } ∷ below)
              (i ∷ stack_answered k (λ what. a) below)
          at false n q one this = absurd (omega (arith, one))
          at true false q one this = ap (λ l. i ∷ l) (later this)
          at true true false one this = ap (λ l. i ∷ l) (later this)
          at true true true one this =
              ap (λ b. cond b (record i { state = Answered a } ∷ below)
              (i ∷ stack_answered k (λ what. a) below)) (sym this)

  -- where it asked for something else, or none is found, none is answered
  pub unawaited-answered : (stack : Listed Invocation) → weigh (waits_away port) stack ≡ 0
      → weigh (waits_at number) stack ≤ 1
      → is_awaited port peer number root stack ≡ false
      → stack_answered k (λ what. a) stack ≡ stack
  unawaited-answered [] home once passes = refl
  unawaited-answered (i ∷ below) home once passes =
      let x = weigh-cons (waits_away port) i below in
      let y = weigh-cons (waits_at number) i below in
      go i.state (omega (arith, x, home)) (omega (arith, y, once)) passes
      (unawaited-answered below (omega (arith, x, home)) (omega (arith, y, once)))
    where
      go : (s : InvState) → waits_away port s ≡ 0
          → waits_at number s + weigh (waits_at number) below ≤ 1
          → some_passes fits (cond (waits_for call peer s) (asked_by s) (waiting call peer below))
          ≡ false
          → (some_passes fits (waiting call peer below) ≡ false
          → stack_answered k (λ what. a) below ≡ below)
          → cond (awaits k s) (record i { state = answered_state (λ what. a) s } ∷ below)
          (i ∷ stack_answered k (λ what. a) below) ≡ (i ∷ below)
      go Running away at found later = ap (λ l. i ∷ l) (later found)
      go Below away at found later = ap (λ l. i ∷ l) (later found)
      go (Answered b) away at found later = ap (λ l. i ∷ l) (later found)
      go (Waits c p what) away at found later =
          by (eqb c.node port) (eqb c.number number) (eqb p peer) away at found
        where
          by : (h n q : Bool) → ◌≡◌ {A = ℕ} (cond h 0 1) 0
              → cond n 1 0 + weigh (waits_at number) below ≤ 1
              → some_passes fits (cond ((h && n) && q) (Some what)
              (waiting call peer below)) ≡ false
              → cond (n && q && (fits what)) (record i { state = Answered a } ∷ below)
              (i ∷ stack_answered k (λ what. a) below) ≡ (i ∷ below)
          by false n q one few this = absurd (omega (arith, one))
          by true false q one few this = ap (λ l. i ∷ l) (later this)
          by true true false one few this = ap (λ l. i ∷ l) (later this)
          by true true true one few this =
              ap (λ b. cond b (record i { state = Answered a } ∷ below)
              (i ∷ stack_answered k (λ what. a) below)) this
              ∙ ap (λ l. i ∷ l) (none-answered below (omega (arith, few)))
