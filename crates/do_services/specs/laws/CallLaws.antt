-- The call that a selector and the arguments make is one of four.
use Rattle.std.proofs.Common.{◌≡◌, ℕ, List, Some, None}
use Rattle.std.specs.{Prelude.codes, Option.IfSome, Str.bytes_eq}
use Rattle.do_base.specs.values.Kinds.{text}
use Rattle.do_grammar.specs.Words.{◌>>?◌}
use Rattle.do_behave.specs.{Steps.local, declared.invocation.Invocation.Invocation}
use Rattle.do_native_acts.specs.laws.FoundLaws.{if_chosen, if_found}
use Rattle.do_services.specs.{Calls.call_in, Core.service_in, declared.calls.Call.Call}
use Rattle.do_services.specs.declared.calls.Call.TheVariants.{Add, Remove, Items, Named}
use Rattle.do_services.specs.declared.service.Service.{Service}

-- what holds of each of the four holds of the call of a selector
pub each_call : (P : Call → Type 0) (selector : List ℕ) (inv : Invocation)
    → ((s : Service) → (local inv 0 >>? service_in) ≡ Some s → P (Add s))
    → ((item : List ℕ) → P (Remove item)) → P Items → ((item : List ℕ) → P (Named item))
    → IfSome (call_in selector inv) P
each_call P selector inv adds removes lists finds =
    if_chosen P (bytes_eq selector (codes "addService:")) _ _
    (if_found P (local inv 0 >>? service_in) (λ s. Some (Add s)) adds)
    (if_chosen P (bytes_eq selector (codes "removeService:")) _ _
    (if_found P (local inv 0 >>? text) (λ item. Some (Remove item)) (λ item _. removes item))
    (if_chosen P (bytes_eq selector (codes "services")) (Some Items) _ lists
    (if_chosen P (bytes_eq selector (codes "serviceNamed:")) _ None
    (if_found P (local inv 0 >>? text) (λ item. Some (Named item)) (λ item _. finds item)) tt)))
