-- Scripts name no object that their arguments do not name.
use Rattle.std.proofs.Common.{◌≡◌, ℕ, List as Listed, [], ◌∷◌, ◌++◌, map, ℤ, refl, sym, ◌∙◌, ap}
use Rattle.std.{proofs.Common.{subst, arith, rules, append_assoc}, specs.List.{All, Contains}}
use Rattle.std.{specs.List.flat_map, proofs.lemmas.List.{Concat.flat_map-append, Elements.All-nil}}
use Rattle.std.proofs.lemmas.List.Elements.{All-cons, All-append, All-weaker, All-contains_itself}
use Rattle.std.proofs.lemmas.List.Elements.{Contains-append_left, Contains-append_right}
use Rattle.do_base.specs.{names.Names.ObjectName, values.Values.objects_of}
use Rattle.do_base.specs.declared.values.value.Value.{Value, List, the_lemmas}
use Rattle.do_base.specs.declared.values.value.Value.TheVariants.{Nil, Num, Text, Obj}
use Rattle.do_behave.specs.{Answers.{NamesOnly, objects_named}, laws.Sound.IsKept}
use Rattle.do_behave.specs.laws.CodeSuits.{All-first, All-second}
use Rattle.do_behave.specs.declared.invocation.Invocation.{Invocation}

objects_of-Nil : objects_of Nil ≡ []
objects_of-Nil = search (rules, the_lemmas)

objects_of-Num : (z : ℤ) → objects_of (Num z) ≡ []
objects_of-Num z = search (rules, the_lemmas)

objects_of-Text : (s : Listed ℕ) → objects_of (Text s) ≡ []
objects_of-Text s = search (rules, the_lemmas)

objects_of-Obj : (o : ObjectName) → objects_of (Obj o) ≡ o ∷ []
objects_of-Obj o = search (rules, the_lemmas)

objects_of-List : (vs : Listed Value)
    → objects_of (List vs) ≡ flat_map (λ os. os) (map objects_of vs)
objects_of-List vs = search (rules, the_lemmas)

joined : (vs : Listed Value)
    → flat_map (λ (os : Listed ObjectName). os) (map objects_of vs) ≡ flat_map objects_of vs
joined [] = refl
joined (v ∷ vs) = ap (λ os. objects_of v ++ os) (joined vs)

-- the objects of a list are those of its items
objects_of-items : (vs : Listed Value) → objects_of (List vs) ≡ flat_map objects_of vs
objects_of-items vs = objects_of-List vs ∙ joined vs

-- each value names only what stands among these and the objects of all the values
each_among : (front : Listed ObjectName) (vs : Listed Value)
    → All (NamesOnly (front ++ flat_map objects_of vs)) vs
each_among front [] = All-nil (NamesOnly (front ++ []))
each_among front (v ∷ vs) =
    let os = objects_of v in
    let more = flat_map objects_of vs in
    All-cons (NamesOnly (front ++ (os ++ more))) v vs
    (All-weaker (Contains os) (Contains (front ++ (os ++ more)))
    (λ o inside. Contains-append_right front (os ++ more) o (Contains-append_left os more o inside))
    os (All-contains_itself os))
    (subst (λ named. All (NamesOnly named) vs) (append_assoc front os more)
    (each_among (front ++ os) vs))

pub arguments_among : (inv : Invocation) (slots : Listed Value)
    → All (NamesOnly (objects_named inv slots)) (inv.locals ++ slots)
arguments_among inv slots = each_among (inv.object ∷ []) (inv.locals ++ slots)

module _ (named : Listed ObjectName) where
  items_among : (vs : Listed Value) → All (Contains named) (flat_map objects_of vs)
      → All (NamesOnly named) vs
  items_among [] all = All-nil (NamesOnly named)
  items_among (v ∷ vs) all =
      All-cons (NamesOnly named) v vs
      (All-first (Contains named) (objects_of v) (flat_map objects_of vs) all)
      (items_among vs (All-second (Contains named) (objects_of v) (flat_map objects_of vs) all))

  none_among : (v : Value) → objects_of v ≡ [] → NamesOnly named v
  none_among v none = subst (All (Contains named)) (sym none) (All-nil (Contains named))

  push_among : (vs : Listed Value) (v : Value) → NamesOnly named (List vs) → NamesOnly named v
      → NamesOnly named (List (vs ++ v ∷ []))
  push_among vs v list item =
      let old = subst (All (Contains named)) (objects_of-items vs) list in
      let last : All (Contains named) (objects_of v ++ []) =
      All-append (Contains named) (objects_of v) [] item (All-nil (Contains named)) in
      subst (All (Contains named))
      (sym (objects_of-items (vs ++ v ∷ []) ∙ flat_map-append objects_of vs (v ∷ [])))
      (All-append (Contains named) (flat_map objects_of vs) (objects_of v ++ []) old last)

pub objects_kept : (inv : Invocation) (slots : Listed Value)
    → IsKept inv (NamesOnly (objects_named inv slots)) (λ _. Unit {0}) (λ _. Unit {0})
objects_kept inv slots =
    let named = objects_named inv slots in
    let first : Contains named inv.object = (0, omega arith, refl) in
    record {
      nil = none_among named Nil objects_of-Nil;
      number = λ z. none_among named (Num z) (objects_of-Num z);
      text = λ s _. none_among named (Text s) (objects_of-Text s);
      own =
          subst (All (Contains named)) (sym (objects_of-Obj inv.object))
          (All-cons (Contains named) inv.object [] first (All-nil (Contains named)));
      empty = none_among named (List []) (objects_of-items []);
      items = λ vs q. items_among named vs (subst (All (Contains named)) (objects_of-items vs) q);
      pushed = λ vs v list item _. push_among named vs v list item;
      raised = λ s _. tt;
    }
