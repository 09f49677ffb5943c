-- The first of several faults, and what checks come to, as a reader's answers need it.
use Rattle.std.proofs.Common.{◌≡◌, ℕ, ◌==◌, List, [], ◌∷◌, Option, Some, None, Bool, true, false}
use Rattle.std.{proofs.Common.{sym, ◌∙◌, ap, ◌⊎◌, inl, inr, Ok, Err}, specs.List.{find, list_any}}
use Rattle.std.specs.{Option.option_or, Prelude.{codes, not, option_and_then}, Str.bytes_eq}
use Rattle.toml.specs.Data.{Data, Members, as_str, get_member}
use Rattle.do_grammar.specs.Names.{colons}
use Rattle.do_sig.specs.{Answers.answer_of, Calls.arg_count, MethodTypes.MethodType}
use Rattle.do_sig.specs.{declared.fault.EncFault.EncFault, reading.Signatures.signature_at}
use Rattle.do_class.specs.declared.method.Method.{Method}
use Rattle.do_class_kinds.specs.Methods.{method_said, signature_of}
use Rattle.do_document.specs.Checks.{first_of, is_text, is_text_with, misfit, missing, required}
use Rattle.do_document.specs.{Checks.{unknown, wrong_unless}, ClassFaults.count_fault}
use Rattle.do_document.specs.ClassFaults.{is_new_selector, method_checks, signature_fault}
use Rattle.do_document.specs.{ClassFaults.types_fault, Classes.method_of, Document.{keys, text_at}}
use Rattle.do_document.specs.{Paths.path, declared.{place.Place.Place, fault.WorldFault.WorldFault}}
use Rattle.do_document.specs.declared.fault.WorldFault.TheVariants.{Memory, Sig, Wrong}
use Rattle.do_document.proofs.Finding.{or_some}

-- an answer is this fault, unless memory ran out
abbrev pub Tells : Option WorldFault → WorldFault → Type 0
Tells fault e = (e ≡ Memory) ⊎ (fault ≡ Some e)

-- an answer is this very fault, unless memory ran out
abbrev pub Is : WorldFault → WorldFault → Type 0
Is f e = (e ≡ Memory) ⊎ (e ≡ f)

-- the first of two
pub in_first : (a b : Option WorldFault) (e : WorldFault) → Tells a e → Tells (option_or a b) e
in_first a b e (inl m) = inl m
in_first a b e (inr h) = inr (or_some a b e h)

-- an equal fault is told
pub told : (a : Option WorldFault) (f e : WorldFault) → a ≡ Some f → Is f e → Tells a e
told a f e same (inl m) = inl m
told a f e same (inr h) = inr (same ∙ ap Some (sym h))

-- a key that is not known
pub unknown_found : (place : Place) (known : List (List ℕ)) (t : Members) (key : List ℕ)
    (e : WorldFault) → find (λ k. not (list_any (bytes_eq k) known)) (keys t) ≡ Some key
    → Is (Wrong (path place key)) e → Tells (unknown place known t) e
unfolding unknown
unknown_found place known t key e found is =
    let same : unknown place known t ≡ Some (Wrong (path place key)) = rw found in
    told (unknown place known t) (Wrong (path place key)) e same is

-- all keys are known
pub unknown_none : (place : Place) (known : List (List ℕ)) (t : Members)
    → find (λ k. not (list_any (bytes_eq k) known)) (keys t) ≡ None
    → unknown place known t ≡ None
unfolding unknown
unknown_none place known t none = rw none

-- what is there and can never be is wrong
pub never : (place : Place) (key : List ℕ) (t : Members) (d : Data) (e : WorldFault)
    → get_member key t ≡ Some d → Is (Wrong (path place key)) e
    → Tells (misfit place key (λ x. false) t) e
unfolding misfit
never place key t d e there is =
    let same : misfit place key (λ x. false) t ≡ Some (Wrong (path place key)) = rw there in
    told (misfit place key (λ x. false) t) (Wrong (path place key)) e same is

-- what must be there is missing
pub required_absent : (place : Place) (key : List ℕ) (good : Data → Bool) (t : Members)
    (e : WorldFault) → Tells (missing place key t) e → Tells (required place key good t) e
unfolding required
required_absent place key good t e h =
    in_first (missing place key t) (misfit place key good t) e h

-- what must be there passes its test or is wrong
required_tested : (place : Place) (key : List ℕ) (good : Data → Bool) (t : Members) (d : Data)
    → get_member key t ≡ Some d
    → required place key good t ≡ wrong_unless (good d) (path place key)
unfolding required missing misfit
required_tested place key good t d there = rw there

-- what must be a text is none
pub required_no_text : (place : Place) (key : List ℕ) (test : List ℕ → Bool) (t : Members)
    (d : Data)
    (e : WorldFault) → get_member key t ≡ Some d → as_str d ≡ None
    → Is (Wrong (path place key)) e → Tells (required place key (is_text_with test) t) e
required_no_text place key test t d e there none is =
    let tested = required_tested place key (is_text_with test) t d there in
    let failed : wrong_unless (is_text_with test d) (path place key)
    ≡ Some (Wrong (path place key)) =
    rw none in
    told (required place key (is_text_with test) t) (Wrong (path place key)) e (tested ∙ failed) is

-- what must be a text is none, where any text will do
pub required_not_text : (place : Place) (key : List ℕ) (t : Members) (d : Data)
    (e : WorldFault) → get_member key t ≡ Some d → as_str d ≡ None
    → Is (Wrong (path place key)) e → Tells (required place key is_text t) e
required_not_text place key t d e there none is =
    let tested = required_tested place key is_text t d there in
    let failed : wrong_unless (is_text d) (path place key) ≡ Some (Wrong (path place key)) =
    rw none in
    told (required place key is_text t) (Wrong (path place key)) e (tested ∙ failed) is

-- a text that must pass a test fails it
pub required_failed : (place : Place) (key : List ℕ) (test : List ℕ → Bool) (t : Members) (d : Data)
    (s : List ℕ) (e : WorldFault) → get_member key t ≡ Some d → as_str d ≡ Some s → test s ≡ false
    → Is (Wrong (path place key)) e → Tells (required place key (is_text_with test) t) e
required_failed place key test t d s e there text fails is =
    let tested = required_tested place key (is_text_with test) t d there in
    let failed : wrong_unless (is_text_with test d) (path place key)
    ≡ Some (Wrong (path place key)) =
    rw (text, fails) in
    told (required place key (is_text_with test) t) (Wrong (path place key)) e (tested ∙ failed) is

-- a text passes its test
pub required_passed : (place : Place) (key : List ℕ) (test : List ℕ → Bool) (t : Members) (d : Data)
    (s : List ℕ) → get_member key t ≡ Some d → as_str d ≡ Some s → test s ≡ true
    → required place key (is_text_with test) t ≡ None
required_passed place key test t d s there text passes =
    let tested = required_tested place key (is_text_with test) t d there in
    let passed : wrong_unless (is_text_with test d) (path place key) ≡ None = rw (text, passes) in
    tested ∙ passed

-- a text stands there
pub required_text : (place : Place) (key : List ℕ) (t : Members) (d : Data) (s : List ℕ)
    → get_member key t ≡ Some d → as_str d ≡ Some s → required place key is_text t ≡ None
required_text place key t d s there text =
    let tested = required_tested place key is_text t d there in
    let passed : wrong_unless (is_text d) (path place key) ≡ None = rw text in tested ∙ passed

-- the first of two in a row
pub two_first : (a b : Option WorldFault) (e : WorldFault) → Tells a e
    → Tells (first_of (a ∷ b ∷ [])) e
two_first a b e h = in_first a (option_or b None) e h

-- the second of two in a row
pub two_second : (a b : Option WorldFault) (e : WorldFault) → a ≡ None → Tells b e
    → Tells (first_of (a ∷ b ∷ [])) e
two_second a b e n h = rw n (in_first b None e h)

-- neither of two in a row
pub two_none : (a b : Option WorldFault) → a ≡ None → b ≡ None → first_of (a ∷ b ∷ []) ≡ None
two_none a b n m = rw (n, m)

-- the types of a method: missing or no text
pub types_first : (place : Place) (t : Members) (e : WorldFault)
    → Tells (required place (codes "types") is_text t) e
    → Tells (types_fault place t) e
unfolding types_fault
types_first place t e h =
    two_first (required place (codes "types") is_text t)
    (signature_fault place t) e h

-- types that spell no signature
pub types_refused : (place : Place) (t : Members) (types : List ℕ) (f : EncFault) (e : WorldFault)
    → required place (codes "types") is_text t ≡ None
    → text_at (codes "types") t ≡ Some types
    → answer_of types (signature_at types) ≡ Err f
    → Is (Sig (path place (codes "types")) f) e
    → Tells (types_fault place t) e
unfolding types_fault signature_fault
types_refused place t types f e there text refuses is =
    let same : signature_fault place t
    ≡ Some (Sig (path place (codes "types")) f) = rw (text, refuses) in
    two_second (required place (codes "types") is_text t)
    (signature_fault place t) e there
    (told (signature_fault place t) (Sig (path place (codes "types")) f) e same is)

-- types that spell a signature
pub types_read : (place : Place) (t : Members) (types : List ℕ) (s : MethodType)
    → required place (codes "types") is_text t ≡ None
    → text_at (codes "types") t ≡ Some types
    → answer_of types (signature_at types) ≡ Ok s
    → (types_fault place t ≡ None)
    × (option_and_then signature_of (text_at (codes "types") t) ≡ Some s)
unfolding types_fault signature_fault
types_read place t types s there text reads =
    let none : signature_fault place t ≡ None = rw (text, reads) in
    let said : option_and_then signature_of (text_at (codes "types") t) ≡ Some s =
    rw (text, reads) in (
      two_none (required place (codes "types") is_text t) (signature_fault place t)
          there none,
      said,
    )

-- the first of four in a row
pub four_first : (a b c d : Option WorldFault) (e : WorldFault) → Tells a e
    → Tells (first_of (a ∷ b ∷ c ∷ d ∷ [])) e
four_first a b c d e h = in_first a (first_of (b ∷ c ∷ d ∷ [])) e h

-- the second of four in a row
pub four_second : (a b c d : Option WorldFault) (e : WorldFault) → a ≡ None → Tells b e
    → Tells (first_of (a ∷ b ∷ c ∷ d ∷ [])) e
four_second a b c d e n h = rw n (in_first b (first_of (c ∷ d ∷ [])) e h)

-- the third of four in a row
pub four_third : (a b c d : Option WorldFault) (e : WorldFault) → a ≡ None → b ≡ None → Tells c e
    → Tells (first_of (a ∷ b ∷ c ∷ d ∷ [])) e
four_third a b c d e n m h = rw (n, m) (in_first c (first_of (d ∷ [])) e h)

-- the last of four in a row
pub four_fourth : (a b c d : Option WorldFault) (e : WorldFault) → a ≡ None → b ≡ None → c ≡ None
    → Tells d e → Tells (first_of (a ∷ b ∷ c ∷ d ∷ [])) e
four_fourth a b c d e n m o h = rw (n, m, o) (in_first d None e h)

-- none of four in a row
pub four_none : (a b c d : Option WorldFault) → a ≡ None → b ≡ None → c ≡ None → d ≡ None
    → first_of (a ∷ b ∷ c ∷ d ∷ []) ≡ None
four_none a b c d n m o p = rw (n, m, o, p)

-- a method has an unknown key
pub method_unknown : (keys : List (List ℕ)) (place : Place) (methods : List Method) (t : Members) (e
    : WorldFault)
    → Tells (unknown place keys t) e → Tells (method_checks keys place methods t) e
unfolding method_checks
method_unknown keys place methods t e h =
    four_first (unknown place keys t)
    (required place (codes "selector")
    (is_text_with (is_new_selector methods)) t) (types_fault place t) (count_fault place t) e h

-- a method has no good selector
pub method_selector : (keys : List (List ℕ)) (place : Place) (methods : List Method) (t : Members)
    (e : WorldFault)
    → unknown place keys t ≡ None
    → Tells (required place (codes "selector")
    (is_text_with (is_new_selector methods)) t) e
    → Tells (method_checks keys place methods t) e
unfolding method_checks
method_selector keys place methods t e known h =
    four_second (unknown place keys t)
    (required place (codes "selector")
    (is_text_with (is_new_selector methods)) t) (types_fault place t)
    (count_fault place t) e known h

-- a method has no good types
pub method_types : (keys : List (List ℕ)) (place : Place) (methods : List Method) (t : Members) (e :
    WorldFault)
    → unknown place keys t ≡ None
    → required place (codes "selector")
    (is_text_with (is_new_selector methods)) t ≡ None
    → Tells (types_fault place t) e → Tells (method_checks keys place methods t) e
unfolding method_checks
method_types keys place methods t e known selected h =
    four_third (unknown place keys t)
    (required place (codes "selector")
    (is_text_with (is_new_selector methods)) t) (types_fault place t) (count_fault place t) e known
    selected h

-- a selector and types that spell a signature say a method
spelled : (selector : List ℕ) (s : MethodType) (types : Option (List ℕ))
    → option_and_then signature_of types ≡ Some s
    → option_and_then (method_said selector) types
    ≡ Some (record { selector = selector; signature = s })
spelled selector s None e = cc
spelled selector s (Some types) e = rw e

-- what a method's table says, by its parts
said : (t : Members) (selector : List ℕ) (s : MethodType)
    → text_at (codes "selector") t ≡ Some selector
    → option_and_then signature_of (text_at (codes "types") t) ≡ Some s
    → method_of t ≡ Some (record { selector = selector; signature = s })
said t selector s named typed =
    let whole = spelled selector s (text_at (codes "types") t) typed in rw (named, whole)

-- a method's types have another number of arguments
pub method_count : (keys : List (List ℕ)) (place : Place) (methods : List Method) (t : Members)
    (selector : List ℕ)
    (s : MethodType) (e : WorldFault) → unknown place keys t ≡ None
    → required place (codes "selector")
    (is_text_with (is_new_selector methods)) t ≡ None
    → types_fault place t ≡ None
    → text_at (codes "selector") t ≡ Some selector
    → option_and_then signature_of (text_at (codes "types") t) ≡ Some s
    → (arg_count s == colons selector) ≡ false
    → Is (Wrong (path place (codes "types"))) e
    → Tells (method_checks keys place methods t) e
unfolding method_checks count_fault
method_count keys place methods t selector s e known selected typed named spelled other is =
    let whole = said t selector s named spelled in
    let same : count_fault place t ≡ Some (Wrong (path place (codes "types"))) =
    rw (whole, other) in
    four_fourth (unknown place keys t)
    (required place (codes "selector")
    (is_text_with (is_new_selector methods)) t) (types_fault place t) (count_fault place t) e known
    selected typed
    (told (count_fault place t) (Wrong (path place (codes "types"))) e same is)

-- a good method
pub method_good : (keys : List (List ℕ)) (place : Place) (methods : List Method) (t : Members)
    (selector : List ℕ)
    (s : MethodType) → unknown place keys t ≡ None
    → required place (codes "selector")
    (is_text_with (is_new_selector methods)) t ≡ None
    → types_fault place t ≡ None
    → text_at (codes "selector") t ≡ Some selector
    → option_and_then signature_of (text_at (codes "types") t) ≡ Some s
    → (arg_count s == colons selector) ≡ true
    → (method_checks keys place methods t ≡ None)
    × (method_of t ≡ Some (record { selector = selector; signature = s }))
unfolding method_checks count_fault
method_good keys place methods t selector s known selected typed named spelled same =
    let whole = said t selector s named spelled in
    let none : count_fault place t ≡ None = rw (whole, same) in (
      four_none (unknown place keys t)
          (required place (codes "selector")
          (is_text_with (is_new_selector methods)) t) (types_fault place t)
          (count_fault place t) known
          selected typed none,
      whole,
    )
