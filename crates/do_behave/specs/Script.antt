-- What a script does: one instruction is one act.
use Rattle.do_base.specs.declared.values.value.Value.TheVariants as values
use Rattle.do_script.specs.declared.instruction.Instruction.TheVariants as does
use Rattle.std.specs.Prelude.{ℕ, ◌==◌, nat_le, Bool, ◌&&◌, List, [], ◌+ℤ◌, ◌-ℤ◌, ◌*ℤ◌, length}
use Rattle.std.specs.Prelude.{if◌then◌else◌, Option, Some, None, option_and_then, slice_get}
use Rattle.do_base.specs.values.{Equal.value_eq, Kinds.{number, text}}
use Rattle.do_base.specs.declared.values.value.Value.{Value, List as ListValue}
use Rattle.do_base.specs.declared.events.exception.Exc.TheVariants.{User}
use Rattle.do_class.specs.{Class.Class, Table.class_id, declared.ids.MethodId.MethodId}
use Rattle.do_grammar.specs.Words.{◌>>?◌}
use Rattle.do_script.specs.{Listing.Listing, declared.instruction.Instruction.Instruction}
use Rattle.do_behave.specs.Steps.{local, local_values, next, gives, goes_to, writes, handles}
use Rattle.do_behave.specs.{Steps.or_fault, Numbers.{checked, calculates, less, truth, is_zero}}
use Rattle.do_behave.specs.Lists.{pushes, picks, counts}
use Rattle.do_behave.specs.declared.{invocation.Invocation.Invocation, act.Act.Act}
use Rattle.do_behave.specs.declared.act.Act.TheVariants.{New, Send, Root, Vend, Say, Return, Raise}

-- a text is raised as it is
abbrev pub raises : Invocation → ℕ → Option Act
raises inv k = local inv k >>? text >>? λ s. Some (Raise (User s))

-- asks for the root of the node whose port is the number in a local
abbrev pub asks_root : Invocation → ℕ → ℕ → Option Act
asks_root inv into k =
    local inv k >>? number >>? λ port. Some (Root (values.Num port) into (next inv))

-- sends a message to what a local holds
abbrev pub sends : Invocation → ℕ → ℕ → List ℕ → List ℕ → Option Act
sends inv into target selector from =
    local inv target >>? λ t. local_values inv from >>? λ args.
    Some (Send t selector args into from (next inv))

-- gives whether two locals hold the same value
abbrev pub compares : Invocation → ℕ → ℕ → ℕ → Option Act
compares inv into left right =
    local inv left >>? λ v. local inv right >>? λ w.
    Some (gives inv into (values.Num (truth (value_eq v w))))

-- goes on at a place where a local holds nil or 0
abbrev pub goes_if_zero : Invocation → ℕ → ℕ → Option Act
goes_if_zero inv k to =
    local inv k >>? λ v. Some (goes_to inv (if is_zero v then to else next inv))

-- the act of each instruction; none where it is a fault of type
abbrev pub performs : Invocation → List Value → Instruction → Option Act
performs inv slots (does.Nil d) = Some (gives inv d values.Nil)
performs inv slots (does.Number d z) = Some (gives inv d (values.Num z))
performs inv slots (does.Text d s) = Some (gives inv d (values.Text s))
performs inv slots (does.Own d) = Some (gives inv d (values.Obj inv.object))
performs inv slots (does.Move d s) = local inv s >>? λ v. Some (gives inv d v)
performs inv slots (does.Get d k) = slice_get slots k >>? λ v. Some (gives inv d v)
performs inv slots (does.Set k s) = local inv s >>? λ v. Some (writes inv k v)
performs inv slots (does.Add d a b) = calculates (λ x y. checked (x +ℤ y)) inv d a b
performs inv slots (does.Subtract d a b) = calculates (λ x y. checked (x -ℤ y)) inv d a b
performs inv slots (does.Multiply d a b) = calculates (λ x y. checked (x *ℤ y)) inv d a b
performs inv slots (does.Less d a b) = calculates less inv d a b
performs inv slots (does.Same d a b) = compares inv d a b
performs inv slots (does.Jump to) = Some (goes_to inv to)
performs inv slots (does.IfNot a to) = goes_if_zero inv a to
performs inv slots (does.List d) = Some (gives inv d (ListValue []))
performs inv slots (does.Push d s) = pushes inv d s
performs inv slots (does.Item d a i) = picks inv d a i
performs inv slots (does.Count d a) = counts inv d a
performs inv slots (does.New d c) = Some (New (class_id c) d (next inv))
performs inv slots (does.Send d t selector from) = sends inv d t selector from
performs inv slots (does.Root d p) = asks_root inv d p
performs inv slots (does.Vend s) = local inv s >>? λ v. Some (Vend v (next inv))
performs inv slots (does.Say s) = local inv s >>? λ v. Some (Say v (next inv))
performs inv slots (does.Return s) = local inv s >>? λ v. Some (Return v)
performs inv slots (does.Raise s) = raises inv s
performs inv slots (does.Catch d to) = Some (handles inv (Some (record { into = d; pc = to })))
performs inv slots does.EndCatch = Some (handles inv None)

-- past the last instruction nil is returned
abbrev pub does_next : Invocation → List Value → Option Instruction → Option Act
does_next inv slots None = Some (Return values.Nil)
does_next inv slots (Some instruction) = performs inv slots instruction

-- the code of a method
abbrev pub code_of : List (List Listing) → MethodId → Option Listing
code_of codes method =
    option_and_then (λ of_class. slice_get of_class method.index) (slice_get codes method.class.0)

-- sixteen locals, as many slots as the code names, and as many classes
abbrev pub is_ready : List Class → Invocation → List Value → Listing → Bool
is_ready table inv slots code =
    (length inv.locals == 16) &&
    (nat_le code.slots (length slots) && nat_le code.classes (length table))

-- the act of code; none where the invocation lacks what the code names
abbrev pub runs : List Class → Invocation → List Value → Listing → Option Act
runs table inv slots code =
    if is_ready table inv slots code then does_next inv slots (slice_get code.instructions inv.pc)
    else None

-- the behaviour of scripts: the act of the method's code; without code or act, a fault of type
abbrev pub script : List (List Listing) → List Class → Invocation → List Value → Act
script codes table inv slots = or_fault (code_of codes inv.method >>? runs table inv slots)
