-- How often objects are used once an invocation was changed.
use Rattle.do_behave.specs.declared.act.Act.TheVariants as acts
use Rattle.do_behave.specs.declared.change.Change.TheVariants as changes
use Rattle.std.proofs.Common.{◌≡◌, ℕ, zero, suc, ◌+◌, cond, List, [], ◌∷◌, refl, map, arith}
use Rattle.std.specs.Prelude.{slice_set, get_or}
use Rattle.do_base.specs.{names.Names.ObjectName, declared.values.value.Value.Value}
use Rattle.do_behave.specs.Changes.{IsFitting, meaning, with_set}
use Rattle.do_behave.specs.{Exchange.{set_out, act_taken, taken_by}, InPlace.after_act}
use Rattle.do_behave.specs.declared.{act.Act.Act, change.{Change.Change, LocalSet.LocalSet}}
use Rattle.do_behave.specs.declared.invocation.Invocation.{Invocation}
use Rattle.do_stack.specs.{Exchange.{act_values, given, named_again}, Uses.uses}
use Rattle.do_stack.proofs.UsesMove.{uses-cons, uses_push}

-- a value takes the place of another; past the end it stays outside
uses_put : (o : ObjectName) (vs : List Value) (at : ℕ) (v : Value)
    → uses o (slice_set vs at v) + uses o (get_or vs at v ∷ []) ≡ uses o vs + uses o (v ∷ [])
uses_put o [] at v = refl
uses_put o (x ∷ vs) zero v =
    let a = uses-cons o v vs in
    let b = uses-cons o x vs in
    omega (arith, a, b)
uses_put o (x ∷ vs) (suc at) v =
    let a = uses-cons o x (slice_set vs at v) in
    let b = uses-cons o x vs in
    let c = uses_put o vs at v in
    omega (arith, a, b, c)

-- values take the places of others, in order
uses_sets : (o : ObjectName) (locals : List Value) (sets : List LocalSet)
    → uses o (with_set locals sets) + uses o (set_out locals sets)
    ≡ uses o locals + uses o (map (λ (s : LocalSet). s.value) sets)
uses_sets o locals [] = refl
uses_sets o locals (s ∷ more) =
    let was = get_or locals s.local s.value in
    let after = slice_set locals s.local s.value in
    let a = uses-cons o was (set_out after more) in
    let b = uses-cons o s.value (map (λ (t : LocalSet). t.value) more) in
    let c = uses_put o locals s.local s.value in
    let d = uses_sets o after more in
    omega (arith, a, b, c, d)

-- the locals that an act leaves, and those that it took out, use what the locals before and the
-- act's own values used
uses_act : (o : ObjectName) (i : Invocation) (act : Act) (slots : List Value)
    → uses o (after_act act i slots).inv.locals + uses o (act_taken i.locals act)
    ≡ uses o i.locals + uses o (act_values act)
uses_act o i (acts.Step pc locals handler writes) slots = omega arith
uses_act o i (acts.New class into pc) slots = refl
uses_act o i (acts.Send target selector args into from pc) slots = refl
uses_act o i (acts.Root port into pc) slots = refl
uses_act o i (acts.Vend value pc) slots = refl
uses_act o i (acts.Say value pc) slots = refl
uses_act o i (acts.Return value) slots = refl
uses_act o i (acts.Raise exc) slots = refl

-- what is in the locals after a change, what it took out, and a name that a list had already are
-- together what was in the locals before and what the change put in
pub uses_exchanged : (o : ObjectName) (i : Invocation) (change : Change) (slots : List Value)
    → IsFitting i change
    → uses o (after_act (meaning i change) i slots).inv.locals + uses o (taken_by i.locals change)
    + cond (named_again o i change) 1 0 ≡ uses o i.locals + uses o (given change)
uses_exchanged o i (changes.Local into value pc) slots fits =
    omega (arith, uses_put o i.locals into value)
uses_exchanged o i (changes.Push list item weight pc) slots fits =
    omega (arith, uses_push o i.locals list weight item fits)
uses_exchanged o i (changes.Goto pc) slots fits = omega arith
uses_exchanged o i (changes.Slot slot value pc) slots fits = omega arith
uses_exchanged o i (changes.Slots sets handler writes pc) slots fits =
    omega (arith, uses_sets o i.locals sets)
uses_exchanged o i (changes.Handler handler pc) slots fits = omega arith
uses_exchanged o i (changes.Other act) slots fits = omega (arith, uses_act o i act slots)
