-- How an act of a script goes on.
use Rattle.std.specs.Prelude.{ℕ, ◌+◌, List, [], ◌∷◌, Option, Some, None, slice_get, slice_set}
use Rattle.do_base.specs.declared.values.value.Value.{Value}
use Rattle.do_base.specs.declared.events.exception.Exc.TheVariants.{TypeFault}
use Rattle.do_grammar.specs.Words.{◌>>?◌}
use Rattle.do_behave.specs.declared.invocation.{Handler.Handler, Invocation.Invocation}
use Rattle.do_behave.specs.declared.act.Act.{Act, TheVariants.{Step, Raise}}

-- what a local holds, if it is there
abbrev pub local : Invocation → ℕ → Option Value
local inv k = slice_get inv.locals k

-- what several locals hold, if all are there
abbrev pub local_values : Invocation → List ℕ → Option (List Value)
local_values inv [] = Some []
local_values inv (k ∷ ks) = local inv k >>? λ v. local_values inv ks >>? λ vs. Some (v ∷ vs)

abbrev pub next : Invocation → ℕ
next inv = inv.pc + 1

-- sets a local, and goes on
abbrev pub gives : Invocation → ℕ → Value → Act
gives inv into value = Step (next inv) (slice_set inv.locals into value) inv.handler []

-- goes on at a place
abbrev pub goes_to : Invocation → ℕ → Act
goes_to inv place = Step place inv.locals inv.handler []

-- writes a slot, and goes on
abbrev pub writes : Invocation → ℕ → Value → Act
writes inv slot value =
    Step (next inv) inv.locals inv.handler (record { slot = slot; value = value } ∷ [])

-- has another handler or none, and goes on
abbrev pub handles : Invocation → Option Handler → Act
handles inv handler = Step (next inv) inv.locals handler []

-- the act, or a fault of type where there is none
abbrev pub or_fault : Option Act → Act
or_fault None = Raise TypeFault
or_fault (Some act) = act
