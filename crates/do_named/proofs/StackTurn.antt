-- One invocation more, from the top on.
use Rattle.std.proofs.Common.{◌≡◌, ◌∙◌, ◌++◌, ◌+◌, ◌-◌, ◌<◌, ℕ, List, [], ◌∷◌, length, take, Option}
use Rattle.std.{proofs.Common.{Some, None, append_assoc, sym, ap, arith}, specs.Prelude.slice_get}
use Rattle.std.proofs.lemmas.{Grind.flat_map-append, List.append-nil}
use Rattle.std.proofs.lemmas.Option.{get_or_from_slice_get, slice_get-get_or, slice_get_within}
use Rattle.do_base.specs.names.Names.{ObjectName}
use Rattle.do_behave.specs.declared.invocation.Invocation.{Invocation}
use Rattle.do_leaks.proofs.Growing.{grown}
use Rattle.do_machine.specs.held.Refers.{invocation_objects, stack_objects}

-- counted from the bottom, an invocation is as far from the top
mirrored : (depth n i : ℕ) → depth ≡ n → i < depth → n - 1 - (depth - 1 - i) ≡ i
mirrored depth n i same within = omega (arith, same, within)

-- and is one of the stack
below_depth : (depth n i : ℕ) → depth ≡ n → i < depth → depth - 1 - i < n
below_depth depth n i same within = omega (arith, same, within)

module _ (stack : List Invocation) (depth i : ℕ) (same : depth ≡ length stack)
    (within : i < depth) (found : Option Invocation)
    (is : depth - 1 - i < length stack →
    found ≡ slice_get stack (length stack - 1 - (depth - 1 - i))) where
  -- what is found there
  found_at : found ≡ slice_get stack i
  found_at = is (below_depth depth (length stack) i same within)
      ∙ ap (slice_get stack) (mirrored depth (length stack) i same within)

  -- what it names stands behind what those above it name
  pub stack_turn : (x : Invocation) → found ≡ Some x → (before now after : List ObjectName) →
      now ≡ before ++ stack_objects (take i stack) → after ≡ now ++ invocation_objects x →
      after ≡ before ++ stack_objects (take (i + 1) stack)
  stack_turn x e before now after had more =
      let at : slice_get stack i ≡ Some x = sym found_at ∙ e in
      grown stack_objects (λ a b. a ++ b) (flat_map-append invocation_objects)
      append_assoc stack i x
      (invocation_objects x) (slice_get_within stack i x at)
      (sym (get_or_from_slice_get stack i x x at)) (append-nil (invocation_objects x)) had more

  -- something is found there
  pub stack_has : found ≡ None → ⊥
  stack_has e = go stack (omega (arith, same, within)) (sym e ∙ found_at)
    where
      go : (xs : List Invocation) → i < length xs → None ≡ slice_get xs i → ⊥
      go [] lt q = omega (arith, lt)
      go (x ∷ xs) lt q = no (slice_get-get_or (x ∷ xs) i x lt) q
        where
          no : {y : Invocation} {r : Option Invocation} → r ≡ Some y → None ≡ r → ⊥
          no s t = cc
