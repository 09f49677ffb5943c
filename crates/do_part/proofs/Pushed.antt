-- What a push to a list in the top invocation adds to the names in a stack.
use Rattle.std.proofs.Common.{◌≡◌, ℕ, ◌+◌, zero, suc, List as Listed, [], ◌∷◌, ◌++◌, Some, None}
use Rattle.std.proofs.Common.{Option, refl, sym, ap, ◌∙◌, arith, subst, ◌-◌, ◌<◌, length, get_or}
use Rattle.std.{proofs.lemmas.Option.get_or_from_slice_get, specs.Prelude.{slice_get, IsSomeAnd}}
use Rattle.std.proofs.lemmas.List.{length-append}
use Rattle.do_base.specs.values.Kinds.{items}
use Rattle.do_behave.specs.laws.ValueKinds.{items-List}
use Rattle.do_base.specs.{names.Names.ObjectName, declared.values.value.Value.{Value, List}}
use Rattle.do_behave.{proofs.KnownWeights.longer_list, specs.{Changes.meaning, InPlace.after_act}}
use Rattle.do_behave.specs.{LongerList.{FitsIn, longer, longer_at}, Steps.local}
use Rattle.do_behave.specs.declared.change.Change.TheVariants.{Push}
use Rattle.do_behave.specs.declared.invocation.Invocation.{Invocation}
use Rattle.do_stack.specs.Waiting.{with_top}
use Rattle.do_part.specs.Names.{value_of, values_of, stack_of}
use Rattle.do_part.proofs.{Exchanging.{first_of, of-cons, of-append, top-moves}, Naming.of-List}
use Rattle.do_part.proofs.Sequences.{of-one}

-- a list that stands at a place of locals
pub record ListAt (locals : Listed Value) (k : ℕ) : Type 0 where
  pub items : Listed Value
  pub is : slice_get locals k ≡ Some (List items)

-- a list to which an item fits is there
pub list_at : (top : Invocation) (k : ℕ) (item : Value) (weight : ℕ)
    → IsSomeAnd (local top k) (λ value. FitsIn value item weight) → ListAt top.locals k
list_at top k item weight fits = go (slice_get top.locals k) refl fits
  where
    go : (f : Option Value) → slice_get top.locals k ≡ f
        → IsSomeAnd f (λ value. FitsIn value item weight) → ListAt top.locals k
    go None is h = absurd h
    go (Some v) is h = record { items = h.0; is = is ∙ ap Some h.1 }

-- the top of a stack, and the list in it to which an item is pushed
pub record Pushing (stack : Listed Invocation) (list : ℕ) : Type 0 where
  pub top : Invocation
  pub is : slice_get stack 0 ≡ Some top
  pub at : ListAt top.locals list

-- they are there where contracts see a top to whose list the item fits
pub pushing : {stack seen : Listed Invocation} (list : ℕ) (item : Value) (weight : ℕ)
    → stack ≡ seen → 0 < length seen
    → ((t : Invocation) → slice_get seen 0 ≡ Some t
    → IsSomeAnd (local t list) (λ value. FitsIn value item weight))
    → Pushing stack list
pushing {stack = stack} list item weight same top fits =
    let first = first_of stack (subst (λ s. 0 < length s) (sym same) top) in
    record {
      top = first.value;
      is = first.is;
      at = list_at first.value list item weight
          (fits first.value (ap (λ s. slice_get s 0) (sym same) ∙ first.is));
    }

-- what locals name with an item more in a list
longer-moves : (locals : Listed Value) (k : ℕ) (vs : Listed Value) (item : Value) (o : ObjectName)
    → slice_get locals k ≡ Some (List vs)
    → values_of (longer_at locals k item) o ≡ values_of locals o + value_of item o
longer-moves [] k vs item o is = absurd (cc)
longer-moves (w ∷ ws) zero vs item o is =
    let e : w ≡ List vs = cc in
    let a = ap (λ v. value_of (longer v item) o) e in
    let b = ap (λ v. value_of v o) (longer_list vs item) in
    let c = of-List (vs ++ item ∷ []) o in
    let d = of-append vs (item ∷ []) o in
    let f = of-one item o in
    let g = ap (λ v. value_of v o) e in
    let h = of-List vs o in
    let i = of-cons (longer w item) ws o in
    let j = of-cons w ws o in
    omega arith
longer-moves (w ∷ ws) (suc k) vs item o is =
    let a = longer-moves ws k vs item o is in
    let b = of-cons w (longer_at ws k item) o in
    let c = of-cons w ws o in
    omega arith

-- then the list is longer there
longer-get : (locals : Listed Value) (k : ℕ) (vs : Listed Value) (item : Value)
    → slice_get locals k ≡ Some (List vs)
    → slice_get (longer_at locals k item) k ≡ Some (List (vs ++ item ∷ []))
longer-get [] k vs item is = absurd (cc)
longer-get (w ∷ ws) zero vs item is =
    let e : w ≡ List vs = cc in
    ap (λ v. Some (longer v item)) e ∙ ap Some (longer_list vs item)
longer-get (w ∷ ws) (suc k) vs item is = longer-get ws k vs item is

-- the last of some values is the one behind the others
last-at : (vs : Listed Value) (item : Value)
    → slice_get (vs ++ item ∷ []) (length vs) ≡ Some item
last-at [] item = refl
last-at (v ∷ vs) item = last-at vs item

-- the last item of a list that stands at a place of locals
pub last-there : (locals : Listed Value) (k : ℕ) (v : Value) (xs vs : Listed Value)
    (item : Value) → v ≡ get_or locals k v → v ≡ List xs
    → slice_get locals k ≡ Some (List (vs ++ item ∷ []))
    → slice_get xs (length xs - 1) ≡ Some item
last-there locals k v xs vs item found is there =
    let e = found ∙ get_or_from_slice_get locals k (List (vs ++ item ∷ [])) v there in
    let s = all (sym (items-List xs) ∙ ap items (sym is ∙ e) ∙ items-List (vs ++ item ∷ [])) in
    let l = length-append vs (item ∷ []) in
    let n : length (vs ++ item ∷ []) - 1 ≡ length vs = omega (arith, l) in
    ap (λ l. slice_get l (length l - 1)) s ∙ ap (slice_get (vs ++ item ∷ [])) n
    ∙ last-at vs item
  where
    -- what stands in an option is one thing
    all : Some xs ≡ Some (vs ++ item ∷ []) → xs ≡ vs ++ item ∷ []
    all e = cc

-- an invocation once an item was pushed
abbrev pub with_item : ℕ → Value → ℕ → ℕ → Invocation → Invocation
with_item list item weight pc i = (after_act (meaning i (Push list item weight pc)) i []).inv

module _ {stack : Listed Invocation} {list : ℕ} (p : Pushing stack list) (item : Value)
    (weight pc : ℕ) where
  -- the stack names the item once more
  pub push-moves : (o : ObjectName)
      → stack_of (with_top (with_item list item weight pc) stack) o
      ≡ stack_of stack o + value_of item o
  push-moves o = go stack p.is
    where
      go : (s : Listed Invocation) → slice_get s 0 ≡ Some p.top
          → stack_of (with_top (with_item list item weight pc) s) o
          ≡ stack_of s o + value_of item o
      go [] is = absurd (cc)
      go (i ∷ below) is =
          let e : i ≡ p.top = cc in
          let a = top-moves i (with_item list item weight pc i) below o refl refl in
          let b = longer-moves i.locals list p.at.items item o
          (ap (λ (t : Invocation). slice_get t.locals list) e ∙ p.at.is) in
          omega arith

  -- and the top has it last in its list
  pub push-last : (t : Invocation)
      → slice_get (with_top (with_item list item weight pc) stack) 0 ≡ Some t
      → slice_get t.locals list ≡ Some (List (p.at.items ++ item ∷ []))
  push-last t there = go stack p.is there
    where
      go : (s : Listed Invocation) → slice_get s 0 ≡ Some p.top
          → slice_get (with_top (with_item list item weight pc) s) 0 ≡ Some t
          → slice_get t.locals list ≡ Some (List (p.at.items ++ item ∷ []))
      go [] is there = absurd (cc)
      go (i ∷ below) is there =
          let e : i ≡ p.top = cc in
          let f : with_item list item weight pc i ≡ t = one _ _ there in
          ap (λ (x : Invocation). slice_get x.locals list) (sym f)
          ∙ longer-get i.locals list p.at.items item
          (ap (λ (x : Invocation). slice_get x.locals list) e ∙ p.at.is)
        where
          -- what stands in an option is one thing
          one : (a b : Invocation) → Some a ≡ Some b → a ≡ b
          one a b e = cc

  -- so the last item that is read back is the one that was pushed
  pub read-back : {k : Listed Invocation} {t : Invocation} {v : Value}
      → k ≡ with_top (with_item list item weight pc) stack → Some t ≡ slice_get k 0
      → ((vs : Listed Value) (x : Value) → slice_get t.locals list ≡ Some (List (vs ++ x ∷ []))
      → Some v ≡ Some x) → v ≡ item
  read-back {t = t} {v = v} is there reads =
      one v item
      (reads p.at.items item (push-last t (ap (λ l. slice_get l 0) (sym is) ∙ sym there)))
    where
      -- what stands in an option is one thing
      one : (a b : Value) → Some a ≡ Some b → a ≡ b
      one a b e = cc
