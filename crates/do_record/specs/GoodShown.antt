-- What may be shown in a record: its numbers and texts are within their bounds.
use Rattle.do_base.specs.declared.events.shown.Shown as events
use Rattle.do_base.specs.declared.events.shown.Shown.TheVariants as shown
use Rattle.do_base.specs.declared.events.shown.Took as items
use Rattle.do_base.specs.declared.events.shown.Took.TheVariants as took
use Rattle.std.specs.Prelude.{◌≡◌, ℕ, zero, suc, ◌<◌, ◌≤◌, ◌^◌, ◌⊎◌, List as Listed, IsTrue, length}
use Rattle.std.specs.List.{AllByRecursion}
use Rattle.do_base.specs.declared.events.exception.Exc.{Exc, TheVariants.User}
use Rattle.do_base.specs.declared.values.value.Value.{Value, List, TheVariants.Obj}
use Rattle.do_base.specs.{names.Names.ObjectName, values.Texts.longest_text}
use Rattle.do_grammar.specs.{Grammar.IsBytes, Names.is_selector}
use Rattle.do_sched.specs.Good.{IsPlain, IsPort}
use Rattle.do_record.specs.Value.{deepest}

-- the name of an object: a node's number, and a serial above 0 and below 2^63
pub record IsObject (o : ObjectName) : Type 0 where
  pub home : IsPort o.node
  pub least : 1 ≤ o.serial
  pub most : o.serial < 2 ^ 63

-- a value that is no list
pub data IsSingle (v : Value) : Type 0 where
  -- nil, a number of 64 bits or a text
  plain : IsPlain longest_text v → IsSingle v
  -- the name of an object
  object : (o : ObjectName) → v ≡ Obj o → IsObject o → IsSingle v

-- a list of which each item is so
pub record IsListOf (P : Value → Type 0) (v : Value) : Type 0 where
  pub items : Listed Value
  pub is_list : v ≡ List items
  pub each : AllByRecursion P items

-- a value in which at most so many lists stand one in another
abbrev pub IsNested : ℕ → Value → Type 0
IsNested zero v = IsSingle v
IsNested (suc depth) v = IsSingle v ⊎ IsListOf (IsNested depth) v

-- an exception; one that a program raised has a text within the limit
abbrev pub IsException : Exc → Type 0
IsException (User text) = (length text ≤ longest_text) × IsBytes text
IsException exception = Unit {0}

-- what is taken
abbrev pub IsTook : items.Took → Type 0
IsTook (took.Call selector) = IsTrue (is_selector selector)
IsTook (took.Oneway selector) = IsTrue (is_selector selector)
IsTook (took.Raised exception) = IsException exception
IsTook (took.Ask o) = IsObject o
IsTook (took.Granted o) = IsObject o
IsTook (took.Gone o) = IsObject o
IsTook (took.Left o) = IsObject o
IsTook item = Unit {0}

-- what is shown
abbrev pub IsShown : events.Shown → Type 0
IsShown (shown.Took item) = IsTook item
IsShown (shown.Say value) = IsNested deepest value
IsShown (shown.Return value) = IsNested deepest value
IsShown (shown.Raise exception) = IsException exception
IsShown (shown.Free o) = IsObject o
