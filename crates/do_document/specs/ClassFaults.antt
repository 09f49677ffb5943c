-- What may be wrong with the classes of a document, in the order in which it counts; the codes of
-- methods are judged once all classes are.
use Rattle.do_class_kinds.specs.declared.kind.Kind.TheVariants as kinds
use Rattle.do_document.specs.declared.lists.MethodList.TheVariants as lists
use Rattle.do_document.specs.declared.place.Place.TheVariants as at
use Rattle.std.specs.Prelude.{ℕ, ◌-◌, ◌==◌, nat_le, Bool, false, not, ◌&&◌, is_some, List, [], ◌∷◌}
use Rattle.std.specs.Prelude.{◌++◌, length, codes, Option, Some, None, option_and_then, Result, Ok}
use Rattle.std.specs.{Prelude.Err, List.{filter_map, list_any}, Option.{option_map, option_map_or}}
use Rattle.std.specs.Str.{bytes_eq}
use Rattle.toml.specs.Data.{Members}
use Rattle.do_grammar.specs.Names.{colons, is_name, is_selector}
use Rattle.do_sig.specs.{Answers.answer_of, Calls.arg_count, declared.fault.EncFault.EncFault}
use Rattle.do_sig.specs.reading.Signatures.{signature_at}
use Rattle.do_class.specs.{Class.Class, Table.class_named, declared.ids.Slot.Slot}
use Rattle.do_class.specs.declared.method.Method.{Method}
use Rattle.do_class_kinds.specs.{Kinds.kind_named, Native.native_methods, declared.kind.Kind.Kind}
use Rattle.do_document.specs.Checks.{first_among, first_of, is_text, is_text_with, list_fault}
use Rattle.do_document.specs.Checks.{misfit, required, unknown, wrong_unless}
use Rattle.do_document.specs.Classes.{allowed_methods, class_of, kind_of, method_of, slot_of}
use Rattle.do_document.specs.Document.{tables_at, text_at, texts_at}
use Rattle.do_document.specs.{Lists.{key_of, keys_of, place_of}, Paths.{numbered, path}}
use Rattle.do_document.specs.declared.document.ItemKind.TheVariants.{Text, Table}
use Rattle.do_document.specs.declared.{lists.MethodList.MethodList, place.Place.Place}
use Rattle.do_document.specs.declared.fault.WorldFault.{WorldFault, TheVariants.Sig}

-- no slot of these has the name
abbrev pub is_new_slot : List Slot → Slot → Bool
is_new_slot slots s = not (list_any (λ (t : Slot). bytes_eq s.name t.name) slots)

-- a text is a slot of a new name
abbrev pub is_slot : List (List ℕ) → List ℕ → Bool
is_slot before text = option_map_or (is_new_slot (filter_map slot_of before)) (slot_of text) false

-- a slot, behind others: it is no name, or one that is there
abbrev pub slot_fault : Place → List (List ℕ) → List ℕ → Option WorldFault
slot_fault place before text =
    wrong_unless (is_slot before text) (numbered (path place (codes "slots")) (length before))

-- the slots of a class
unfoldable pub slots_fault : Place → Members → Option WorldFault
slots_fault place t = first_of
    (list_fault place (codes "slots") 0 16 Text t
    ∷ first_among (slot_fault place) (texts_at (codes "slots") t)
    ∷ [])

-- a selector that none of these methods has
abbrev pub is_new_selector : List Method → List ℕ → Bool
is_new_selector methods text =
    is_selector text && not (list_any (λ (m : Method). bytes_eq text m.selector) methods)

-- the refusal, if it is one
abbrev pub refused : {A : Type 0} → Result A EncFault → Option EncFault
refused (Ok x) = None
refused (Err e) = Some e

-- the types spell no signature
unfoldable pub signature_fault : Place → Members → Option WorldFault
signature_fault place t =
    option_and_then (λ types. option_map (Sig (path place (codes "types")))
    (refused (answer_of types (signature_at types)))) (text_at (codes "types") t)

-- the types of a method
unfoldable pub types_fault : Place → Members → Option WorldFault
types_fault place t = first_of
    (required place (codes "types") is_text t
    ∷ signature_fault place t
    ∷ [])

-- the signature has another number of arguments than the selector has colons
unfoldable pub count_fault : Place → Members → Option WorldFault
count_fault place t =
    option_and_then (λ m. wrong_unless (arg_count m.signature == colons m.selector)
    (path place (codes "types"))) (method_of t)

-- a method at a place, in a table that may have these keys, behind other methods
unfoldable pub method_checks : List (List ℕ) → Place → List Method → Members → Option WorldFault
method_checks keys place methods t = first_of
    (unknown place keys t
    ∷ required place (codes "selector") (is_text_with (is_new_selector methods)) t
    ∷ types_fault place t
    ∷ count_fault place t
    ∷ [])

-- a rule's text has 1 to 255 bytes
abbrev pub is_rule : List ℕ → Bool
is_rule text = nat_le 1 (length text) && nat_le (length text) 255

-- the rule of a method that is denied
abbrev pub rule_fault : MethodList → Place → Members → Option WorldFault
rule_fault lists.Denied place t = required place (codes "rule") (is_text_with is_rule) t
rule_fault list place t = None

-- a table of a list at a place, behind other methods
unfoldable pub entry_checks : MethodList → Place → List Method → Members → Option WorldFault
entry_checks list place methods t = first_of
    (method_checks (keys_of list) place methods t
    ∷ rule_fault list place t
    ∷ [])

-- a table of a list of a class, behind methods and other tables
abbrev pub entry_fault : MethodList → ℕ → List Method → List Members → Members
    → Option WorldFault
entry_fault list class methods before t =
    entry_checks list (place_of list class (length before)) (methods ++ filter_map method_of before)
    t

-- a list of a class of a number, behind methods that it has already; it has at most 64 in all
unfoldable pub methods_fault : MethodList → List Method → ℕ → Members → Option WorldFault
methods_fault list methods k t = first_of
    (list_fault (at.Class k) (key_of list) 0 (64 - length methods) Table t
    ∷ first_among (entry_fault list k methods) (tables_at (key_of list) t)
    ∷ [])

-- neither of two keys may stand in a table
unfoldable pub neither : Place → List ℕ → List ℕ → Members → Option WorldFault
neither place one other t = first_of
    (misfit place one (λ d. false) t
    ∷ misfit place other (λ d. false) t
    ∷ [])

-- a class has slots and methods of its own beside its kind
abbrev pub own_fault : ℕ → Members → Option WorldFault
own_fault k t = neither (at.Class k) (codes "slots") (codes "method") t

-- a class that is no checker's has rules
abbrev pub rules_fault : ℕ → Members → Option WorldFault
rules_fault k t = neither (at.Class k) (codes "allow") (codes "deny") t

-- a native class that is no checker's has slots or methods of its own, or rules
abbrev pub native_fault : ℕ → Members → Option WorldFault
native_fault k t = first_of (own_fault k t ∷ rules_fault k t ∷ [])

-- what stands in a class of a number, behind its name and its kind
unfoldable pub parts_fault : ℕ → Members → Kind → Option WorldFault
parts_fault k t kinds.Script = first_of
    (slots_fault (at.Class k) t
    ∷ methods_fault lists.Own [] k t
    ∷ rules_fault k t
    ∷ [])
parts_fault k t kinds.Checker = first_of
    (own_fault k t
    ∷ methods_fault lists.Allowed (native_methods kinds.Checker) k t
    ∷ methods_fault lists.Denied (allowed_methods t) k t
    ∷ [])
parts_fault k t native = native_fault k t

-- a name that none of these classes has
abbrev pub is_new_name : List Class → List ℕ → Bool
is_new_name classes text = is_name text && not (is_some (class_named classes text))

-- a text names a kind
abbrev pub is_kind : List ℕ → Bool
is_kind text = is_some (kind_named text)

-- the keys that a class may have
abbrev pub class_keys : List (List ℕ)
class_keys =
    codes "allow" ∷ codes "deny" ∷ codes "method" ∷ codes "name" ∷ codes "native" ∷ codes "slots"
    ∷ []

-- a class of a number, behind others
unfoldable pub class_checks : ℕ → List Class → Members → Option WorldFault
class_checks k classes t = first_of
    (unknown (at.Class k) class_keys t
    ∷ required (at.Class k) (codes "name") (is_text_with (is_new_name classes)) t
    ∷ misfit (at.Class k) (codes "native") (is_text_with is_kind) t
    ∷ option_and_then (parts_fault k t) (kind_of t)
    ∷ [])

-- a class, behind others
abbrev pub class_fault : List Members → Members → Option WorldFault
class_fault before t = class_checks (length before) (filter_map class_of before) t
