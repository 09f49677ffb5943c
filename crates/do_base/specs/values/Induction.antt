-- Induction over a value, by its five kinds.
use Rattle.std.{specs.Prelude.{ℕ, ℤ, List as Listed, [], ◌∷◌, map}, proofs.Common.subst}
use Rattle.std.specs.List.{AllByRecursion}
use Rattle.do_base.specs.names.Names.{ObjectName}
use Rattle.do_base.specs.declared.values.value.Value.{Value, List, ind-Value, map-Value, roll-Value}
use Rattle.do_base.specs.declared.values.value.Value.TheVariants.{Nil, Num, Text, Obj}
use Rattle.do_base.specs.declared.values.value.Value.TheOpen.{Value-F}

module _ (P : Value → Type 0)
    (nil : P Nil) (num : (n : ℤ) → P (Num n)) (text : (s : Listed ℕ) → P (Text s))
    (obj : (o : ObjectName) → P (Obj o))
    (list : (vs : Listed Value) → AllByRecursion P vs → P (List vs)) where
  each : {S : Type 0} (f : S → Value) → ((s : S) → P (f s)) → (ss : Listed S)
      → AllByRecursion P (map f ss)
  each f g [] = tt
  each f g (s ∷ ss) = (g s, each f g ss)

  level : {S : Type 0} (f : S → Value) → ((s : S) → P (f s)) → (y : Value-F S)
      → P (roll-Value (map-Value S Value f y))
  unfolding roll-Value denote.Hole.Carrier.roll
  level f g Value-F.Nil = nil
  level f g (Value-F.Num n) = num n
  level f g (Value-F.Text s) = text s
  level f g (Value-F.Obj o) = obj o
  level f g (Value-F.List ss) = list (map f ss) (each f g ss)

  pub value_induction : (v : Value) → P v
  value_induction = ind-Value P
      (λ x y e. subst (λ (x : Value-F Value). P (roll-Value x)) e (level (λ s. s.0) (λ s. s.1) y))
