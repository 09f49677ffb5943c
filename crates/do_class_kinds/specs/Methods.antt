-- Methods, as a selector and types say them.
use Rattle.std.specs.{Prelude.{ℕ, List, Option}, List.All, Option.option_map, Result.result_ok}
use Rattle.do_sig.specs.{Answers.answer_of, MethodTypes.{IsMethodType, MethodType}}
use Rattle.do_sig.specs.reading.Signatures.{signature_at}
use Rattle.do_class.specs.declared.method.Method.{Method}

-- the signature that a text spells
abbrev pub signature_of : List ℕ → Option MethodType
signature_of types = result_ok (answer_of types (signature_at types))

-- the method of a selector and types; none where the types spell no signature
abbrev pub method_said : List ℕ → List ℕ → Option Method
method_said selector types =
    option_map (λ signature. record { selector = selector; signature = signature })
    (signature_of types)

-- the signatures of methods keep to what every signature keeps to
abbrev pub AreTyped : List Method → Type 0
AreTyped methods = All (λ m. IsMethodType m.signature) methods
