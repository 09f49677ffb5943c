use Rattle.do_document.proofs.methods.is_new.Given as goal
use Rattle.std.{proofs.Common.{◌≡◌, drop}, specs.{List.list_any, Str.bytes_eq}}
use Rattle.do_class.specs.declared.method.Method.{Method}

abbrev pub invariant-loop-method : goal.invariant-loop-method
invariant-loop-method l =
    list_any (λ (m : Method). bytes_eq l.selector m.selector) l.methods
    ≡ list_any (λ (m : Method). bytes_eq l.selector m.selector) (drop l.method-index l.methods)
