-- What classes a document says, without the codes of their methods. What is missing or has another
-- form says nothing here; that it is refused, and where, stands in ClassFaults.
use Rattle.do_class_kinds.specs.declared.kind.Kind.TheVariants as kinds
use Rattle.do_document.specs.declared.lists.MethodList.TheVariants as lists
use Rattle.std.specs.Prelude.{ℕ, ◌-◌, Bool, true, false, if◌then◌else◌, List, [], ◌++◌, length, map}
use Rattle.std.specs.Prelude.{take, drop, codes, Option, Some, None, option_and_then}
use Rattle.std.specs.{List.filter_map, Option.{option_map, option_map_or}, Str.bytes_eq}
use Rattle.toml.specs.Data.{Members, as_str, get_member}
use Rattle.do_grammar.specs.Names.{is_name}
use Rattle.do_class.specs.{Class.Class, declared.{ids.Slot.Slot, method.Method.Method}}
use Rattle.do_check.specs.declared.rules.{Rule.Rule, Verdict.TheVariants.{Deny, Forward}}
use Rattle.do_class_kinds.specs.{Kinds.kind_named, Methods.method_said}
use Rattle.do_class_kinds.specs.{Native.{native_methods, native_slots}, declared.kind.Kind.Kind}
use Rattle.do_document.specs.{Document.{tables_at, text_at, texts_at}, Lists.key_of}
use Rattle.do_document.specs.declared.lists.MethodList.{MethodList}

-- a slot of a name
abbrev pub slot_named : Bool → List ℕ → Option Slot
slot_named copy name = if is_name name then Some (record { name = name; copy = copy }) else None

-- the slot of a text: a name, or a name and ` copy`
abbrev pub slot_of : List ℕ → Option Slot
slot_of text =
    if bytes_eq (drop (length text - 5) text) (codes " copy")
    then slot_named true (take (length text - 5) text) else slot_named false text

-- the slots that a class of scripts lists
unfoldable pub slots_in : Members → List Slot
slots_in t = filter_map slot_of (texts_at (codes "slots") t)

-- the method of a table
abbrev pub method_of : Members → Option Method
method_of t =
    option_and_then (λ selector. option_and_then (method_said selector)
    (text_at (codes "types") t)) (text_at (codes "selector") t)

-- the methods of a list of a class
unfoldable pub methods_in : MethodList → Members → List Method
methods_in list t = filter_map method_of (tables_at (key_of list) t)

-- the rule of a table for a selector, in a list of a checker: it is passed on, or answered with a
-- text
abbrev pub rule_for : MethodList → Members → List ℕ → Option Rule
rule_for lists.Own t selector = None
rule_for lists.Allowed t selector = Some (record { selector = selector; verdict = Forward })
rule_for lists.Denied t selector =
    option_map (λ text. record { selector = selector; verdict = Deny text })
    (text_at (codes "rule") t)

-- the rule of a table
abbrev pub rule_of : MethodList → Members → Option Rule
rule_of list t = option_and_then (rule_for list t) (text_at (codes "selector") t)

-- the rules of a list of a class
unfoldable pub rules_in : MethodList → Members → List Rule
rules_in list t = filter_map (rule_of list) (tables_at (key_of list) t)

-- the kind of a class: the native one that it names, or else scripts
unfoldable pub kind_of : Members → Option Kind
kind_of t =
    option_map_or (λ d. option_and_then kind_named (as_str d)) (get_member (codes "native") t)
    (Some kinds.Script)

-- the slots of a class of a kind
abbrev pub slots_by : Kind → Members → List Slot
slots_by kinds.Script t = slots_in t
slots_by k t = native_slots k

-- the methods of a checker that are there before those that it denies
abbrev pub allowed_methods : Members → List Method
allowed_methods t = native_methods kinds.Checker ++ methods_in lists.Allowed t

-- the methods of a class of a kind
abbrev pub methods_by : Kind → Members → List Method
methods_by kinds.Script t = methods_in lists.Own t
methods_by kinds.Checker t = allowed_methods t ++ methods_in lists.Denied t
methods_by k t = native_methods k

-- the rules of a class of a kind
abbrev pub rules_by : Kind → Members → List Rule
rules_by kinds.Checker t = rules_in lists.Allowed t ++ rules_in lists.Denied t
rules_by k t = []

-- the class of a table and a kind
abbrev pub class_by : Members → Kind → Option Class
class_by t k =
    option_map (λ name. record { name = name; slots = slots_by k t; methods = methods_by k t })
    (text_at (codes "name") t)

-- the class of a table
abbrev pub class_of : Members → Option Class
class_of t = option_and_then (class_by t) (kind_of t)

-- the classes of a document
unfoldable pub classes_in : Members → List Class
classes_in d = filter_map class_of (tables_at (codes "class") d)

-- the kinds of a document's classes
abbrev pub kinds_in : Members → List Kind
kinds_in d = filter_map kind_of (tables_at (codes "class") d)

-- the rules of a class
abbrev pub class_rules : Members → List Rule
class_rules t = option_map_or (λ k. rules_by k t) (kind_of t) []

-- the rules of a document's classes
abbrev pub rule_lists : Members → List (List Rule)
rule_lists d = map class_rules (tables_at (codes "class") d)
