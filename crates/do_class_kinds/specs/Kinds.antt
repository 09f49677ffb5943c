-- The kinds of classes by their names, and what a table of classes has of them.
use Rattle.std.specs.Prelude.{◌≡◌, ℕ, List, length, Option, Some, None, codes, if◌then◌else◌}
use Rattle.std.specs.{List.All, Str.bytes_eq}
use Rattle.do_check.specs.{Rules.AreRules, declared.rules.Rule.Rule}
use Rattle.do_class.specs.Class.{Class}
use Rattle.do_class_kinds.specs.declared.kind.Kind.{Kind, TheVariants.{Names, Pasteboard, Services}}
use Rattle.do_class_kinds.specs.declared.kind.Kind.TheVariants.{Center, Checker}

-- the native kind of a name
abbrev pub kind_named : List ℕ → Option Kind
kind_named text =
    if bytes_eq text (codes "names") then Some Names
    else (if bytes_eq text (codes "pasteboard") then Some Pasteboard
    else (if bytes_eq text (codes "services") then Some Services
    else (if bytes_eq text (codes "center") then Some Center
    else (if bytes_eq text (codes "checker") then Some Checker else None))))

-- each class of a table has a kind and a list of rules
pub record AreKindsOf (table : List Class) (kinds : List Kind)
    (rules : List (List Rule)) : Type 0 where
  pub kind_each : length kinds ≡ length table
  pub rules_each : length rules ≡ length table
  pub rules_good : All AreRules rules
