-- How often objects are used, where a list grows and where the top of a stack changes.
use Rattle.do_behave.specs.declared.act.Act.TheVariants as acts
use Rattle.std.proofs.Common.{◌≡◌, ℕ, ◌+◌, Bool, true, false, cond, List as Listed, [], ◌∷◌, ◌++◌}
use Rattle.std.proofs.Common.{zero, suc, append-nil, set, Some, refl, sym, ap, ◌∙◌, arith, rules}
use Rattle.std.specs.{Prelude.{slice_get, IsSomeAnd, ◌||◌, ◌&&◌, map}, List.flat_map}
use Rattle.std.proofs.lemmas.List.{Sums.{sum_by-cons, sum_by-append}, Folds.list_any-append}
use Rattle.std.proofs.lemmas.List.Concat.{flat_map-append}
use Rattle.do_base.specs.{names.Names.ObjectName, values.Values.objects_of}
use Rattle.do_base.specs.declared.values.value.Value.{Value, List, the_lemmas}
use Rattle.do_behave.{specs.LongerList.{FitsIn, longer, longer_at}, proofs.KnownWeights.longer_list}
use Rattle.do_base.specs.declared.values.value.Value.TheVariants.{Obj}
use Rattle.do_behave.specs.{InPlace.after_act, declared.act.Act.Act}
use Rattle.do_behave.specs.declared.invocation.Invocation.{Invocation}
use Rattle.do_machine.specs.held.Refers.{state_values}
use Rattle.do_packet.specs.Met.{has_object, same_object}
use Rattle.do_stack.specs.{Exchange.some_names, Uses.{names, uses, invocation_values, stack_uses}}

-- one where a value names an object
abbrev once : ObjectName → Value → ℕ
once o v = cond (names o v) 1 0

-- a value is used as often as it names the object
pub uses-one : (o : ObjectName) (v : Value) → uses o (v ∷ []) ≡ cond (names o v) 1 0
uses-one o v = sum_by-cons (once o) v [] ∙ omega arith

-- a value more is used besides
pub uses-cons : (o : ObjectName) (v : Value) (vs : Listed Value)
    → uses o (v ∷ vs) ≡ uses o (v ∷ []) + uses o vs
uses-cons o v vs = sum_by-cons (once o) v vs ∙ ap (λ n. n + uses o vs) (sym (uses-one o v))

-- values in a row are used one by one
pub uses-append : (o : ObjectName) (vs ws : Listed Value)
    → uses o (vs ++ ws) ≡ uses o vs + uses o ws
uses-append o vs ws = sum_by-append (once o) vs ws

-- the objects of a list are those of its items
pub objects-list : (vs : Listed Value) → objects_of (List vs) ≡ flat_map objects_of vs
objects-list vs = listed ∙ joined vs
  where
    -- one level of the list
    listed : objects_of (List vs) ≡ flat_map (λ os. os) (map objects_of vs)
    listed = search (rules, the_lemmas)

    -- the objects of the items, one after another
    joined : (us : Listed Value) → flat_map (λ os. os) (map objects_of us) ≡ flat_map objects_of us
    joined [] = refl
    joined (u ∷ us) = ap (λ os. objects_of u ++ os) (joined us)

-- a list with an item more names what the list or the item names
names-longer : (o : ObjectName) (vs : Listed Value) (item : Value)
    → names o (List (vs ++ item ∷ [])) ≡ (names o (List vs) || names o item)
names-longer o vs item =
    ap (λ os. has_object os o) (objects-list (vs ++ item ∷ [])
    ∙ flat_map-append objects_of vs (item ∷ []))
    ∙ list_any-append (same_object o) (flat_map objects_of vs) (objects_of item ++ [])
    ∙ ap (λ os. has_object (flat_map objects_of vs) o || has_object os o) (append-nil
    (objects_of item))
    ∙ ap (λ os. has_object os o || names o item) (sym (objects-list vs))

-- what either of two names counts once
count_once : (x y : Bool) → cond (x || y) 1 0 + cond (x && y) 1 0 ≡ cond x 1 0 + cond y 1 0
count_once true true = refl
count_once true false = refl
count_once false true = refl
count_once false false = refl

-- a pushed item is used besides, unless the list names the object already
pub uses_push : (o : ObjectName) (locals : Listed Value) (k weight : ℕ) (item : Value)
    → IsSomeAnd (slice_get locals k) (λ v. FitsIn v item weight)
    → uses o (longer_at locals k item)
    + cond (some_names o (slice_get locals k) && names o item) 1 0
    ≡ uses o locals + uses o (item ∷ [])
uses_push o [] k weight item fits = absurd fits
uses_push o (v ∷ vs) zero weight item fits =
    let both = names-longer o fits.0 item in
    let longer_is = ap (λ x. longer x item) fits.1 ∙ longer_list fits.0 item in
    let named = ap (names o) longer_is ∙ both ∙ ap (λ x. names o x || names o item) (sym fits.1) in
    let a = uses-cons o (longer v item) vs ∙ ap (λ n. n + uses o vs) (uses-one o (longer v item)) in
    let b = uses-cons o v vs ∙ ap (λ n. n + uses o vs) (uses-one o v) in
    let c = uses-one o item in
    let d = ap {B = ℕ} (λ x. cond x 1 0) named in
    let e = count_once (names o v) (names o item) in
    omega (arith, a, b, c, d, e)
uses_push o (v ∷ vs) (suc k) weight item fits =
    let a = uses-cons o v (longer_at vs k item) in
    let b = uses-cons o v vs in
    let c = uses_push o vs k weight item fits in
    omega (arith, a, b, c)

-- an act that is done keeps an invocation's object and state
pub keeps_rest : (act : Act) (i : Invocation) (slots : Listed Value)
    → ((after_act act i slots).inv.object ≡ i.object) × ((after_act act i slots).inv.state
    ≡ i.state)
keeps_rest (acts.Step pc locals handler writes) i slots = (refl, refl)
keeps_rest (acts.New class into pc) i slots = (refl, refl)
keeps_rest (acts.Send target selector args into from pc) i slots = (refl, refl)
keeps_rest (acts.Root port into pc) i slots = (refl, refl)
keeps_rest (acts.Vend value pc) i slots = (refl, refl)
keeps_rest (acts.Say value pc) i slots = (refl, refl)
keeps_rest (acts.Return value) i slots = (refl, refl)
keeps_rest (acts.Raise exc) i slots = (refl, refl)

-- what an invocation uses with other locals
uses-locals : (o : ObjectName) (i j : Invocation) → j.object ≡ i.object → j.state ≡ i.state
    → uses o (invocation_values j) + uses o i.locals
    ≡ uses o (invocation_values i) + uses o j.locals
uses-locals o i j object state =
    let a = uses-cons o (Obj i.object) (i.locals ++ state_values i.state) in
    let b = uses-cons o (Obj j.object) (j.locals ++ state_values j.state) in
    let c = uses-append o i.locals (state_values i.state) in
    let d = uses-append o j.locals (state_values j.state) in
    let e = ap (λ x. uses o (Obj x ∷ [])) object in
    let f = ap (λ x. uses o (state_values x)) state in
    omega arith

-- what a stack uses with another top
pub stack_moved : (o : ObjectName) (i j : Invocation) (below : Listed Invocation)
    → j.object ≡ i.object → j.state ≡ i.state
    → stack_uses o (j ∷ below) + uses o i.locals ≡ stack_uses o (i ∷ below) + uses o j.locals
stack_moved o i j below object state =
    let a = sum_by-cons (λ k. uses o (invocation_values k)) i below in
    let b = sum_by-cons (λ k. uses o (invocation_values k)) j below in
    let c = uses-locals o i j object state in
    omega arith

-- what a stack uses once its top was changed, if the top's locals use so much then
pub change_uses : (o : ObjectName) (stack : Listed Invocation) (i j : Invocation) (t b g : ℕ)
    → slice_get stack 0 ≡ Some i → j.object ≡ i.object → j.state ≡ i.state
    → uses o j.locals + t + b ≡ uses o i.locals + g
    → stack_uses o (set stack 0 j) + t + b ≡ stack_uses o stack + g
change_uses o [] i j t b g top object state same = absurd (cc)
change_uses o (x ∷ below) i j t b g top object state same =
    let is : x ≡ i = the top in
    let moved = stack_moved o x j below (object ∙ sym (ap (λ (k : Invocation). k.object) is))
    (state ∙ sym (ap (λ (k : Invocation). k.state) is)) in
    let locals = ap (λ (k : Invocation). uses o k.locals) is in
    omega (arith, moved, locals, same)
  where
    -- the top is the first
    the : Some x ≡ Some i → x ≡ i
    the e = cc
