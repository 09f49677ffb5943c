-- Out values of an answer that go to locals one after another.
use Rattle.std.proofs.Common.{◌≡◌, ◌+◌, ℕ, List, [], ◌∷◌, Option, Some, None, drop, suc, zero, refl}
use Rattle.std.proofs.Common.{ap, sym, ◌∙◌, ◌<◌, add-one, arith, length}
use Rattle.std.specs.Prelude.{option_map, remove, slice_get, slice_set}
use Rattle.do_base.specs.declared.values.value.Value.{Value}
use Rattle.do_behave.specs.declared.invocation.{Invocation.Invocation, InvState.TheVariants.Running}
use Rattle.do_machine.specs.{declared.node.Node.Node, held.Refers.state_values}
use Rattle.do_machine.specs.run.{Changes.{goes_on, uses, with_outs}, Fresh.with_stack}
use Rattle.std.proofs.lemmas.List.Sums.{sum_by-cons}
use Rattle.do_part.specs.Names.{AreStored, values_of}
use Rattle.do_stack.specs.Waiting.{with_top as first_changed}
use Rattle.do_store.specs.Names.{value_names}
use Rattle.do_effects.specs.{Outs.{out_at, uses_outs}, Plans.{IsRunning, top_changed}}

-- a local, with the place at which an invocation goes on
abbrev placed : Invocation → Option ℕ → Option (ℕ × ℕ)
placed top o = option_map (λ into. (into, top.pc)) o

-- what is left from a place on begins with what is there
drop_some : (xs : List ℕ) (at x : ℕ) → slice_get xs at ≡ Some x → drop at xs ≡ x ∷ drop (suc at) xs
drop_some [] at x h = absurd (cc)
drop_some (y ∷ xs) zero x h = ap (λ o. elim o [ None ↦ y ∷ xs | Some z ↦ z ∷ xs ]) h
drop_some (y ∷ xs) (suc at) x h = drop_some xs at x h

-- nothing is left from a place on where nothing is
drop_none : (xs : List ℕ) (at : ℕ) → slice_get xs at ≡ None → drop at xs ≡ []
drop_none [] zero h = refl
drop_none [] (suc at) h = refl
drop_none (y ∷ xs) zero h = absurd (cc)
drop_none (y ∷ xs) (suc at) h = drop_none xs at h

-- no value goes nowhere
outs_none : (ks : List ℕ) (locals : List Value) → with_outs ks [] locals ≡ locals
outs_none [] locals = refl
outs_none (k ∷ ks) locals = refl

-- no value changes an invocation that runs
pub no_outs : (n : Node) (at : ℕ) → IsRunning n.stack → top_changed (uses_outs at []) n ≡ n
no_outs n at runs = go n.stack runs
  where
    -- so for each list of invocations whose first runs
    go : (stack : List Invocation) → IsRunning stack →
        with_stack (first_changed (uses_outs at []) stack) n
        ≡ with_stack stack n
    go [] h = refl
    go (top ∷ below) h = λ j. with_stack (record top {
      locals = outs_none (drop at top.outs) top.locals j;
      state = sym h j;
    } ∷ below) n

-- nor do values that no local is for
pub outs_past : (n : Node) (at : ℕ) (values : List Value) → IsRunning n.stack →
    out_at at n.stack ≡ None → top_changed (uses_outs at values) n ≡ n
outs_past n at values runs none = go n.stack runs none
  where
    -- there is no such out value, since no local is found for it
    none_there : (top : Invocation) (o : Option ℕ) → placed top o ≡ None →
        o ≡ None
    none_there top None h = refl
    none_there top (Some x) h = absurd (cc)

    -- so for each list of invocations whose first runs
    go : (stack : List Invocation) → IsRunning stack → out_at at stack ≡ None →
        with_stack (first_changed (uses_outs at values) stack) n
        ≡ with_stack stack n
    go [] h e = refl
    go (top ∷ below) h e = λ j. with_stack (record top {
      locals = ap (λ (ks : List ℕ). with_outs ks values top.locals)
          (drop_none top.outs at (none_there top (slice_get top.outs at) e)) j;
      state = sym h j;
    } ∷ below) n

-- one value goes to its local, and then the others go to theirs
pub outs_more : (n : Node) (at into pc : ℕ) (value : Value) (values : List Value) →
    out_at at n.stack ≡ Some (into, pc) →
    top_changed (uses_outs (at + 1) values) (top_changed (goes_on into value pc) n)
    ≡ top_changed (uses_outs at (value ∷ values)) n
outs_more n at into pc value values some = go n.stack some
  where
    -- so for one invocation
    one : (top : Invocation) (o : Option ℕ) → slice_get top.outs at ≡ o →
        placed top o ≡ Some (into, pc) →
        record top {
          pc = pc;
          locals = with_outs (drop (at + 1) top.outs) values
              (slice_set top.locals into value);
          state = Running;
        }
        ≡ record top {
          locals = with_outs (drop at top.outs) (value ∷ values) top.locals;
          state = Running;
        }
    one top None is h = absurd (cc)
    one top (Some k) is h =
        let same : ◌≡◌ {A = ℕ × ℕ} (k, top.pc) (into, pc) = cc in
        (λ j. record top {
          pc = (sym same j).1;
          locals = with_outs (drop (add-one at j) top.outs) values
              (slice_set top.locals (sym same j).0 value);
          state = Running;
        })
        ∙ (λ j. record top {
          locals = with_outs (sym (drop_some top.outs at k is) j) (value ∷ values) top.locals;
          state = Running;
        })

    -- so for each list of invocations with that out value
    go : (stack : List Invocation) → out_at at stack ≡ Some (into, pc) →
        with_stack (first_changed (uses_outs (at + 1) values)
        (first_changed (goes_on into value pc) stack)) n
        ≡ with_stack (first_changed (uses_outs at (value ∷ values)) stack) n
    go [] h = refl
    go (top ∷ below) h = λ j. with_stack (one top (slice_get top.outs at) refl h j ∷ below) n

-- the result first, and then what comes out
pub outs_all : (n : Node) (top : Invocation) (value : Value) (values : List Value) →
    Some top ≡ slice_get n.stack 0 →
    top_changed (uses_outs 0 values) (top_changed (goes_on top.into value top.pc) n)
    ≡ top_changed (uses value values) n
outs_all n top value values is = go n.stack is
  where
    -- so for each list of invocations that begins with it
    go : (stack : List Invocation) → Some top ≡ slice_get stack 0 →
        with_stack (first_changed (uses_outs 0 values)
        (first_changed (goes_on top.into value top.pc) stack)) n
        ≡ with_stack (first_changed (uses value values) stack) n
    go [] h = refl
    go (i ∷ below) h =
        let same : top ≡ i = cc in
        λ j. with_stack (record i {
          pc = (same j).pc;
          locals = with_outs i.outs values
              (slice_set i.locals (same j).into value);
          state = Running;
        } ∷ below) n

-- a running top invocation runs still once it goes on
pub still_runs : (stack : List Invocation) (into pc : ℕ) (value : Value) → IsRunning stack →
    IsRunning (first_changed (goes_on into value pc) stack)
still_runs [] into pc value h = h
still_runs (top ∷ below) into pc value h = refl

-- a stack that runs has a top
pub some_runs : (stack : List Invocation) → IsRunning stack → 0 < length stack
some_runs [] h = absurd h
some_runs (top ∷ below) h = omega arith

-- an invocation that runs has no answer
pub used_up : (stack : List Invocation) (top : Invocation) → IsRunning stack →
    slice_get stack 0 ≡ Some top → state_values top.state ≡ []
used_up [] top runs is = absurd runs
used_up (i ∷ below) top runs is =
    let same : i ≡ top = cc in
    ap (λ (x : Invocation). state_values x.state) (sym same) ∙ ap state_values runs

-- a list from which the first was taken
pub first_out : (xs : List Value) (x : Value) → slice_get xs 0 ≡ Some x → (rest : List Value) →
    rest ≡ remove xs 0 → xs ≡ x ∷ rest
first_out [] x some rest is = absurd (cc)
first_out (y ∷ xs) x some rest is = λ j. first j ∷ sym is j
  where
    -- what was taken is the first
    first : y ≡ x
    first = cc

-- what is named by values is stored, so it is for the first and for the others
pub rest_stored : (n : Node) (v : Value) (vs : List Value) → AreStored n (values_of (v ∷ vs)) →
    AreStored n (values_of vs)
rest_stored n v vs stored = λ serial some.
    let e = sum_by-cons (value_names n.port serial) v vs in
    stored serial (omega (arith, e, some))

-- the first
pub first_stored : (n : Node) (v : Value) (vs : List Value) → AreStored n (values_of (v ∷ vs)) →
    AreStored n (values_of (v ∷ []))
first_stored n v vs stored = λ serial some.
    let e = sum_by-cons (value_names n.port serial) v vs in
    let f = sum_by-cons (value_names n.port serial) v [] in
    stored serial (omega (arith, e, f, some))
