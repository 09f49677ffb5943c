-- What the checks of a class come to, and the refusals of types.
use Rattle.do_sig.specs.declared.fault.EncFault.TheVariants as enc
use Rattle.do_document.specs.declared.place.Place.TheVariants as at
use Rattle.std.proofs.Common.{◌≡◌, ◌≢◌, ℕ, List, Some, None, refl, sym, ◌⊎◌, inl, inr, Result, Err}
use Rattle.std.specs.Prelude.{codes, option_and_then}
use Rattle.toml.specs.Data.{Members}
use Rattle.do_sig.specs.{Answers.{IsAnswer, answer_of}, declared.fault.EncFault.EncFault}
use Rattle.do_sig.specs.reading.Signatures.{signature_at}
use Rattle.do_class.specs.Class.{Class}
use Rattle.do_class_kinds.specs.declared.kind.Kind.{Kind}
use Rattle.do_document.specs.Checks.{is_text, is_text_with, misfit, required, unknown}
use Rattle.do_document.specs.ClassFaults.{class_checks, class_keys, is_kind, is_new_name}
use Rattle.do_document.specs.{ClassFaults.{parts_fault, types_fault}, Classes.kind_of}
use Rattle.do_document.specs.{Document.text_at, Paths.path, declared.place.Place.Place}
use Rattle.do_document.specs.declared.fault.WorldFault.{WorldFault, TheVariants.{Memory, Sig}}
use Rattle.do_document.proofs.InOrder.{Tells, four_first, four_fourth, four_none, four_second}
use Rattle.do_document.proofs.{InOrder.{four_third, types_refused}, InRow.told_by}

-- a refusal that is none of memory is the answer
refusal_is : {A : Type 0} (f : EncFault) (x : Result A EncFault) → IsAnswer (Err f) x
    → f ≢ enc.Memory → x ≡ Err f
refusal_is (enc.BadChar k) x is other = sym is
refusal_is enc.Ends x is other = sym is
refusal_is (enc.Unsupported k) x is other = sym is
refusal_is (enc.Deep k) x is other = sym is
refusal_is (enc.NoSelf k) x is other = sym is
refusal_is (enc.TooManyArgs k) x is other = sym is
refusal_is enc.Memory x is other = absurd (other refl)

-- the refusal of a method's types is told
pub types_told : (place : Place) (t : Members) (types : List ℕ) (f : EncFault) (e : WorldFault)
    → required place (codes "types") is_text t ≡ None
    → text_at (codes "types") t ≡ Some types
    → IsAnswer (Err f) (answer_of types (signature_at types))
    → (e ≡ Memory) ⊎ ((f ≢ enc.Memory) × (e ≡ Sig (path place (codes "types")) f))
    → Tells (types_fault place t) e
types_told place t types f e there text is (inl m) = inl m
types_told place t types f e there text is (inr told) =
    types_refused place t types f e there text
    (refusal_is f (answer_of types (signature_at types)) is told.0) (inr told.1)

-- a class has an unknown key
pub class_unknown : (k : ℕ) (classes : List Class) (t : Members) (e : WorldFault)
    → Tells (unknown (at.Class k) class_keys t) e → Tells (class_checks k classes t) e
unfolding class_checks
class_unknown k classes t e h =
    four_first (unknown (at.Class k) class_keys t)
    (required (at.Class k) (codes "name") (is_text_with (is_new_name classes)) t)
    (misfit (at.Class k) (codes "native") (is_text_with is_kind) t)
    (option_and_then (parts_fault k t) (kind_of t)) e h

-- a class has no good name
pub class_name : (k : ℕ) (classes : List Class) (t : Members) (e : WorldFault)
    → unknown (at.Class k) class_keys t ≡ None
    → Tells (required (at.Class k) (codes "name") (is_text_with (is_new_name classes)) t) e
    → Tells (class_checks k classes t) e
unfolding class_checks
class_name k classes t e known h =
    four_second (unknown (at.Class k) class_keys t)
    (required (at.Class k) (codes "name") (is_text_with (is_new_name classes)) t)
    (misfit (at.Class k) (codes "native") (is_text_with is_kind) t)
    (option_and_then (parts_fault k t) (kind_of t)) e known h

-- a class names no kind
pub class_kind : (k : ℕ) (classes : List Class) (t : Members) (e : WorldFault)
    → unknown (at.Class k) class_keys t ≡ None
    → required (at.Class k) (codes "name") (is_text_with (is_new_name classes)) t ≡ None
    → Tells (misfit (at.Class k) (codes "native") (is_text_with is_kind) t) e
    → Tells (class_checks k classes t) e
unfolding class_checks
class_kind k classes t e known named h =
    four_third (unknown (at.Class k) class_keys t)
    (required (at.Class k) (codes "name") (is_text_with (is_new_name classes)) t)
    (misfit (at.Class k) (codes "native") (is_text_with is_kind) t)
    (option_and_then (parts_fault k t) (kind_of t)) e known named h

-- the parts of a class of a kind have a fault
pub class_parts : (k : ℕ) (classes : List Class) (t : Members) (kind : Kind) (e : WorldFault)
    → unknown (at.Class k) class_keys t ≡ None
    → required (at.Class k) (codes "name") (is_text_with (is_new_name classes)) t ≡ None
    → misfit (at.Class k) (codes "native") (is_text_with is_kind) t ≡ None
    → kind_of t ≡ Some kind → Tells (parts_fault k t kind) e → Tells (class_checks k classes t) e
unfolding class_checks
class_parts k classes t kind e known named native is h =
    let here : option_and_then (parts_fault k t) (kind_of t) ≡ parts_fault k t kind = rw is in
    four_fourth (unknown (at.Class k) class_keys t)
    (required (at.Class k) (codes "name") (is_text_with (is_new_name classes)) t)
    (misfit (at.Class k) (codes "native") (is_text_with is_kind) t)
    (option_and_then (parts_fault k t) (kind_of t)) e known named native
    (told_by (option_and_then (parts_fault k t) (kind_of t)) (parts_fault k t kind) e here h)

-- a class has no fault
pub class_good : (k : ℕ) (classes : List Class) (t : Members) (kind : Kind)
    → unknown (at.Class k) class_keys t ≡ None
    → required (at.Class k) (codes "name") (is_text_with (is_new_name classes)) t ≡ None
    → misfit (at.Class k) (codes "native") (is_text_with is_kind) t ≡ None
    → kind_of t ≡ Some kind → parts_fault k t kind ≡ None → class_checks k classes t ≡ None
unfolding class_checks
class_good k classes t kind known named native is parts =
    let here : option_and_then (parts_fault k t) (kind_of t) ≡ None = rw (is, parts) in
    four_none (unknown (at.Class k) class_keys t)
    (required (at.Class k) (codes "name") (is_text_with (is_new_name classes)) t)
    (misfit (at.Class k) (codes "native") (is_text_with is_kind) t)
    (option_and_then (parts_fault k t) (kind_of t)) known named native here
