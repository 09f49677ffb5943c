-- What the place of a waiting invocation says of the calls.
use Rattle.std.proofs.Common.{◌≡◌, ℕ, zero, suc, ◌<◌, true, cond, List, [], ◌∷◌, length, map}
use Rattle.std.proofs.Common.{get_or, set, None, refl, ap, ◌∙◌, arith}
use Rattle.do_base.specs.names.Names.{CallName}
use Rattle.do_behave.specs.declared.invocation.Answer.{Answer}
use Rattle.std.specs.Option.{is_some}
use Rattle.do_behave.specs.declared.invocation.{Invocation.Invocation, InvState.InvState}
use Rattle.do_behave.specs.declared.invocation.InvState.TheVariants.{Running, Below, Waits}
use Rattle.do_behave.specs.declared.invocation.InvState.TheVariants.{Answered}
use Rattle.do_machine.specs.{run.Changes.answered, ends.Closing.without_answer}
use Rattle.do_stack.specs.Waiting.{waits_for, asked_by, with_answer, waiting}
use Rattle.do_stack.specs.Places.{NoneWaits, IsPlaceOf}

module _ (call : CallName) (peer : ℕ) where
  -- where no invocation waits for the call, none below the top does
  none_below : (i : Invocation) (below : List Invocation) → NoneWaits call peer (i ∷ below)
      → NoneWaits call peer below
  none_below i below none k d h = none (suc k) d (omega arith)

  -- then nothing was asked for
  pub none_waiting : (stack : List Invocation) → NoneWaits call peer stack
      → waiting call peer stack ≡ None
  none_waiting [] none = refl
  none_waiting (i ∷ below) none =
      ap (λ b. cond b (asked_by i.state) (waiting call peer below)) (none 0 i (omega arith))
      ∙ none_waiting below (none_below i below none)

  -- and an answer changes nothing
  pub none_answered : (a : Answer) (stack : List Invocation) → NoneWaits call peer stack
      → with_answer call peer a stack ≡ stack
  none_answered a [] none = refl
  none_answered a (i ∷ below) none =
      ap (λ b. cond b (answered a i ∷ below) (i ∷ with_answer call peer a below)) (none 0 i
      (omega arith)) ∙ ap (λ rest. i ∷ rest) (none_answered a below (none_below i below none))

  -- a place below the top is a place in what is below it
  place_below : (i : Invocation) (below : List Invocation) (at : ℕ)
      → IsPlaceOf call peer (i ∷ below) (suc at) → IsPlaceOf call peer below at
  place_below i below at is =
      record {
        within =
            omega (arith, is.within);
        waits =
            is.waits;
        none_above = λ k d h. is.none_above (suc k) d (omega arith);
      }

  -- what the invocation at that place asked for is what is waited for
  pub place_waiting : (stack : List Invocation) (at : ℕ) (d : Invocation)
      → IsPlaceOf call peer stack at → waiting call peer stack ≡ asked_by (get_or stack at d).state
  place_waiting [] at d is = absurd (omega (arith, is.within))
  place_waiting (i ∷ below) zero d is =
      ap (λ b. cond b (asked_by i.state) (waiting call peer below)) (is.waits d)
  place_waiting (i ∷ below) (suc at) d is =
      ap (λ b. cond b (asked_by i.state) (waiting call peer below)) (is.none_above 0 i
      (omega arith)) ∙ place_waiting below at d (place_below i below at is)

  -- the answer goes to the invocation at that place
  pub place_answered : (a : Answer) (stack : List Invocation) (at : ℕ) (d : Invocation)
      → IsPlaceOf call peer stack at
      → with_answer call peer a stack ≡ set stack at (answered a (get_or stack at d))
  place_answered a [] at d is = absurd (omega (arith, is.within))
  place_answered a (i ∷ below) zero d is =
      ap (λ b. cond b (answered a i ∷ below) (i ∷ with_answer call peer a below)) (is.waits d)
  place_answered a (i ∷ below) (suc at) d is =
      ap (λ b. cond b (answered a i ∷ below) (i ∷ with_answer call peer a below))
      (is.none_above 0 i (omega arith))
      ∙ ap (λ rest. i ∷ rest) (place_answered a below at d (place_below i below at is))

-- a list whose items are those of another, each changed, is that list changed
pub all_failed : (peer : ℕ) (old now : List Invocation) → length now ≡ length old
    → ((k : ℕ) (d : Invocation) → k < length old
    → get_or now k d ≡ without_answer peer (get_or old k d)) → now ≡ map (without_answer peer) old
all_failed peer [] [] e each = refl
all_failed peer [] (j ∷ now) e each = absurd (omega (arith, e))
all_failed peer (i ∷ old) [] e each = absurd (omega (arith, e))
all_failed peer (i ∷ old) (j ∷ now) e each =
    let head = each 0 i (omega arith) in
    let rest = all_failed peer old now (omega (arith, e)) (λ k d h. each (suc k) d (omega arith)) in
    λ n. head n ∷ rest n

-- what waits for a call asked for something
pub waits_asked : (call : CallName) (peer : ℕ) (s : InvState) → waits_for call peer s ≡ true
    → is_some (asked_by s) ≡ true
waits_asked call peer Running h = h
waits_asked call peer Below h = h
waits_asked call peer (Waits c p what) h = refl
waits_asked call peer (Answered a) h = h
