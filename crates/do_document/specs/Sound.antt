-- What holds of the parts of a class that are read.
use Rattle.do_class_kinds.specs.declared.kind.Kind.TheVariants as kinds
use Rattle.std.specs.Prelude.{◌≡◌, ◌≤◌, ◌+◌, ◌++◌, IsTrue, IsNone, IfSome, List, length, Option}
use Rattle.std.specs.{Prelude.{Some, codes}, List.filter_map}
use Rattle.toml.specs.Data.{Members}
use Rattle.do_grammar.specs.Names.{colons}
use Rattle.do_sig.specs.{Calls.arg_count, MethodTypes.IsMethodType}
use Rattle.do_class.specs.{Class.{AreMethods, Class}, Table.class_named, declared.ids.Slot.Slot}
use Rattle.do_class.specs.declared.method.Method.{Method}
use Rattle.do_check.specs.{Rules.{AreRules, IsRule}, declared.rules.Rule.Rule}
use Rattle.do_class_kinds.specs.{Methods.AreTyped, declared.kind.Kind.Kind}
use Rattle.do_document.specs.{ClassFaults.is_new_selector, Classes.{class_of, kind_of, method_of}}
use Rattle.do_document.specs.{Classes.{methods_by, rule_of, rules_by, slots_by}, Document.tables_at}
use Rattle.do_document.specs.declared.lists.MethodList.{MethodList}

-- the method of a table, which can stand behind others in a class
pub record IsNextMethod (methods : List Method) (t : Members) (m : Method) : Type 0 where
  pub said : method_of t ≡ Some m
  pub new : IsTrue (is_new_selector methods m.selector)
  pub counted : colons m.selector ≡ arg_count m.signature
  pub typed : IsMethodType m.signature

-- the rule of a table, if it has one
pub record IsRuleOf (list : MethodList) (t : Members) (rule : Option Rule) : Type 0 where
  pub said : rule_of list t ≡ rule
  pub good : IfSome rule IsRule

-- methods and rules within the limits
pub record AreGood (methods : List Method) (rules : List Rule) : Type 0 where
  pub are_methods : AreMethods methods
  pub typed : AreTyped methods
  pub are_rules : AreRules rules

-- a list's methods and rules behind others, one method for each table
pub record AreMore (list : MethodList) (earlier methods : List Method) (before rules : List Rule)
    (ts : List Members) : Type 0 where
  pub methods_said : methods ≡ earlier ++ filter_map method_of ts
  pub rules_said : rules ≡ before ++ filter_map (rule_of list) ts
  pub all : length methods ≡ length earlier + length ts
  pub good : AreGood methods rules

-- the signatures of a class's methods keep to what every signature keeps to
abbrev pub HasTypes : Class → Type 0
HasTypes c = AreTyped c.methods

-- a native kind that has no rules
abbrev pub IsRuleless : Kind → Type 0
IsRuleless kinds.Script = ⊥
IsRuleless kinds.Checker = ⊥
IsRuleless kind = Unit {0}

-- the parts of a class of a kind, as a table says them; a script has a method for each table
pub record ArePartsOf (kind : Kind) (t : Members) (slots : List Slot) (methods : List Method)
    (rules : List Rule) : Type 0 where
  pub slots_said : slots ≡ slots_by kind t
  pub methods_said : methods ≡ methods_by kind t
  pub rules_said : rules ≡ rules_by kind t
  pub few : length slots ≤ 16
  pub good : AreGood methods rules
  pub all : kind ≡ kinds.Script → length methods ≡ length (tables_at (codes "method") t)

-- the class of a table, which can stand behind others in a class table
pub record IsNextClass (classes : List Class) (t : Members) (kind : Kind) (c : Class)
    (rules : List Rule) : Type 0 where
  pub kind_said : kind_of t ≡ Some kind
  pub said : class_of t ≡ Some c
  pub new : IsNone (class_named classes c.name)
  pub parts : ArePartsOf kind t c.slots c.methods rules

-- the class of a table; one of scripts has a method for each of its tables
pub record IsClassOf (t : Members) (c : Class) : Type 0 where
  pub said : class_of t ≡ Some c
  pub all : kind_of t ≡ Some kinds.Script
      → length c.methods ≡ length (tables_at (codes "method") t)

-- a class is of a kind
abbrev pub IsKindOf : Members → Kind → Type 0
IsKindOf t kind = kind_of t ≡ Some kind
