-- The acts of a native method by place. A place with no act is a fault of type.
use Rattle.std.specs.Prelude.{ℕ, ◌==◌, Option, Some, None, List, map, length, if◌then◌else◌}
use Rattle.std.specs.Prelude.{slice_index_or}
use Rattle.do_base.specs.declared.values.value.Value.{Value}
use Rattle.do_class.specs.{Class.Class, Table.selector_of}
use Rattle.do_grammar.specs.Words.{◌>>?◌}
use Rattle.do_behave.specs.{Steps.{local, or_fault}, declared.invocation.Invocation.Invocation}
use Rattle.do_behave.specs.declared.act.Act.{Act, TheVariants.{Send, Return}}
use Rattle.do_native_acts.specs.Steps.{answered, changes, fits}

-- the selector of the method that an invocation of 16 locals runs
abbrev pub selector_in : List Class → Invocation → Option (List ℕ)
selector_in table inv = if length inv.locals == 16 then selector_of table inv.method else None

-- the act that the selector of the method leads to
abbrev pub by_selector : List Class → Invocation → (List ℕ → Option Act) → Act
by_selector table inv does = or_fault (selector_in table inv >>? does)

-- returns the answer that stands in local 14
abbrev pub returns : Invocation → Option Act
returns inv = local inv 14 >>? λ v. Some (Return v)

-- each argument comes from local 13
abbrev pub aside : List Value → List ℕ
aside args = map (λ _. 13) args

-- sends to what a local holds, with the result to local 13
abbrev pub sends : Invocation → ℕ → List ℕ → List Value → ℕ → Option Act
sends inv target selector args to =
    local inv target >>? λ v. Some (Send v selector args 13 (aside args) to)

-- the act of a method whose places are these
abbrev pub at_place : Invocation → List (Option Act) → Option Act
at_place inv places = slice_index_or places inv.pc None

-- a method of two places: it does this, and returns the answer
abbrev pub in_two : Invocation → Option Act → Option Act
in_two inv first = if inv.pc == 0 then first else if inv.pc == 1 then returns inv else None

-- The first act of a method that only answers: it reads the core from the slots and the call from
-- the locals, does the call, and keeps the answer and the slots that change. None where either is
-- not there; Range is raised where there is no room.
abbrev pub does_call : {Core Call : Type 0} → (List Value → Option Core) → (Core → List Value)
    → (Core → Call → Option (Core × Value)) → Option Call → Invocation → List Value → Option Act
does_call from to does call inv slots =
    from slots >>? λ core. call >>? λ asked.
    Some (fits (does core asked) (λ done. answered inv done.1 (changes 0 slots (to done.0))))
