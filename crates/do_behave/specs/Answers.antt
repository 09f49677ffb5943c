-- What holds of every answer of a behaviour.
use Rattle.std.specs.Prelude.{◌≡◌, ℕ, ◌<◌, ◌≤◌, List, [], ◌∷◌, ◌++◌, length, map, IsTrue}
use Rattle.std.specs.List.{All, Contains, flat_map}
use Rattle.do_base.specs.{names.Names.ObjectName, values.Values.objects_of}
use Rattle.do_base.specs.declared.values.value.Value.{Value}
use Rattle.do_class.specs.Class.{Class}
use Rattle.do_grammar.specs.Names.{is_selector, colons}
use Rattle.do_behave.specs.Limits.{IsLimited, IsLimitedExc}
use Rattle.do_script.specs.Listing.{IsLocal}
use Rattle.do_behave.specs.{Ready.IsHandler, Parts.WeighsWithin}
use Rattle.do_behave.specs.declared.{invocation.Invocation.Invocation, act.Act.Act}
use Rattle.do_behave.specs.declared.act.Act.TheVariants.{Step, New, Send, Root, Vend, Say, Return}
use Rattle.do_behave.specs.declared.act.Act.TheVariants.{Raise}

-- the values that an act holds
abbrev pub values_of : Act → List Value
values_of (Step pc locals handler writes) = locals ++ map (λ w. w.value) writes
values_of (New class into pc) = []
values_of (Send target selector args into from pc) = target ∷ args
values_of (Root port into pc) = port ∷ []
values_of (Vend value pc) = value ∷ []
values_of (Say value pc) = value ∷ []
values_of (Return value) = value ∷ []
values_of (Raise exc) = []

-- the objects that an invocation names, its own among them, and those in the slots
abbrev pub objects_named : Invocation → List Value → List ObjectName
objects_named inv slots = inv.object ∷ flat_map objects_of (inv.locals ++ slots)

-- a value in which no other objects stand than these
abbrev pub NamesOnly : List ObjectName → Value → Type 0
NamesOnly objects value = All (Contains objects) (objects_of value)

-- a step keeps sixteen locals
abbrev pub HasLocals : Act → Type 0
HasLocals (Step pc locals handler writes) = length locals ≡ 16
HasLocals _ = Unit {0}

-- what holds of every act, of whatever code and invocation: no object is named that the arguments
-- do not name
pub record NamesShown (inv : Invocation) (slots : List Value) (act : Act) : Type 0 where
  pub locals : HasLocals act
  pub objects : All (NamesOnly (objects_named inv slots)) (values_of act)

-- Locals, slots and classes are there, and a message has a selector with one argument and one local
-- for each colon.
abbrev pub IsInRange : List Class → List Value → Act → Type 0
IsInRange table slots (Step pc locals handler writes) =
    (length locals ≡ 16) × IsHandler handler × All (λ w. w.slot < length slots) writes
IsInRange table slots (New class into pc) = (class.0 < length table) × IsLocal into
IsInRange table slots (Send target selector args into from pc) =
    IsTrue (is_selector selector) × (length args ≡ colons selector)
    × (length from ≡ colons selector) × IsLocal into × All IsLocal from
IsInRange table slots (Root port into pc) = IsLocal into
IsInRange table slots _ = Unit {0}

-- the text of an exception is within the limit
abbrev pub RaisesLimited : Act → Type 0
RaisesLimited (Raise exc) = IsLimitedExc exc
RaisesLimited _ = Unit {0}

-- What the arguments hold keeps the limits on texts, items and nesting, and then what is answered
-- does. A value that is made keeps the limit on weight, and one that the arguments hold may weigh
-- more.
pub record AnswersWell (table : List Class) (inv : Invocation) (slots : List Value)
    (act : Act) : Type 0 where
  pub range : IsInRange table slots act
  pub limits : (most : ℕ) → 2097152 ≤ most → All (IsLimited most) (inv.locals ++ slots)
      → All (IsLimited most) (values_of act) × RaisesLimited act
  pub weights : All (WeighsWithin (inv.locals ++ slots)) (values_of act)
