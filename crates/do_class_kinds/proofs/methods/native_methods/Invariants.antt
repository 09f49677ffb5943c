use Rattle.do_class_kinds.proofs.methods.native_methods.Given as goal
use Rattle.std.proofs.Common.{◌≡◌, Bor, List, map, take, ℕ}
use Rattle.do_class_kinds.{specs.Methods.AreTyped, proofs.Said.all_said}

abbrev pub invariant-loop-selector : goal.invariant-loop-selector
invariant-loop-selector l = record {
  made : l.methods ≡ all_said (map (λ (m : Bor (List ℕ) × Bor (List ℕ)). (m.0.now, m.1.now))
      (take l.selector-index l.spelled));
  typed : AreTyped l.methods;
}
