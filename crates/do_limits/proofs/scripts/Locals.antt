-- What locals hold can be carried, where the value of each local can.
use Rattle.std.proofs.Common.{ℕ, List as Listed, [], ◌∷◌}
use Rattle.std.specs.{Prelude.{None, Option, Some, slice_get, suc, zero}, Option.IfSome}
use Rattle.do_base.specs.declared.values.value.Value.{Value}
use Rattle.do_grammar.specs.Words.{◌>>?◌}
use Rattle.do_behave.specs.{Steps.{local, local_values}, declared.invocation.Invocation.Invocation}
use Rattle.do_limits.specs.Sendable.{AreSendable, IsSendable}

-- a value at a place can be carried
pub value_at : (vs : Listed Value) (k : ℕ) → AreSendable vs → IfSome (slice_get vs k) IsSendable
value_at [] k h = tt
value_at (v ∷ vs) zero h = h.0
value_at (v ∷ vs) (suc k) h = value_at vs k h.1

-- so can what several locals hold
pub each_local : (inv : Invocation) → AreSendable inv.locals → (from : Listed ℕ) →
    IfSome (local_values inv from) AreSendable
each_local inv all [] = tt
each_local inv all (k ∷ ks) =
    one (local inv k) (local_values inv ks) (value_at inv.locals k all) (each_local inv all ks)
  where
    one : (o : Option Value) (p : Option (Listed Value)) → IfSome o IsSendable →
        IfSome p AreSendable → IfSome (o >>? λ v. p >>? λ vs. Some (v ∷ vs)) AreSendable
    one None p q rest = tt
    one (Some v) None q rest = tt
    one (Some v) (Some vs) q rest = (q, rest)
