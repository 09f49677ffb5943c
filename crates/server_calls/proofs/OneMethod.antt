-- One method alone is the methods of a class.
use Rattle.std.{proofs.Common.{◌≡◌, List, [], ◌∷◌, ◌++◌, arith, refl}, specs.Prelude.IsTrue}
use Rattle.do_class.specs.{Class.AreMethods, declared.method.Method.Method}
use Rattle.do_class.proofs.Methods.{AreMethods-none, AreMethods-push}
use Rattle.do_sig.specs.Calls.{arg_count}
use Rattle.do_grammar.specs.Names.{is_selector, colons}

-- a method with a selector that has a colon for each argument, put to none
pub one_alone : (ms : List Method) (m : Method) → ms ≡ [] → IsTrue (is_selector m.selector)
    → colons m.selector ≡ arg_count m.signature → AreMethods (ms ++ m ∷ [])
one_alone ms m none selects fits =
    rw none (AreMethods-push [] m AreMethods-none (omega arith) refl selects fits)
