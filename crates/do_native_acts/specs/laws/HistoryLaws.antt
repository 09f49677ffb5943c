-- What one call more leaves.
use Rattle.std.proofs.Common.{◌≡◌, List, ◌∷◌, Option, Some, sym, ◌∙◌, ap}
use Rattle.do_native_acts.specs.History.{left, after_calls}

-- what a call leaves of the core after the earlier calls is the core after all of them
pub after_call : {Core Call Answer : Type 0} (start : Core)
    (does : Core → Call → Option (Core × Answer)) (h : List Call) (call : Call) (core new : Core)
    (answer : Answer) → core ≡ after_calls start does h → does core call ≡ Some (new, answer)
    → new ≡ after_calls start does (call ∷ h)
after_call start does h call core new answer is done =
    sym (ap (λ c. left c (does c call)) (sym is) ∙ ap (left core) done)
