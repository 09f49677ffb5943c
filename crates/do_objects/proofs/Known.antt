-- What else a node's steps keep of its invocations, and how many locals these begin with.
use Rattle.std.proofs.Common.{◌≡◌, ◌-◌, ◌≤◌, ◌++◌, ℕ, List, length, ◌+◌, arith}
use Rattle.std.specs.{Prelude.{Some, replicate}, List.AllByRecursion}
use Rattle.do_base.specs.declared.values.value.Value.{Value, TheVariants.Nil}
use Rattle.do_class.specs.{Class.Class, Table.{signature_of, method_at}}
use Rattle.do_class.specs.declared.ids.MethodId.{MethodId}
use Rattle.do_behave.specs.declared.act.Act.{Act, TheVariants.Step}
use Rattle.do_behave.specs.declared.invocation.Invocation.{Invocation}
use Rattle.do_machine.specs.Context.{Found}
use Rattle.std.{specs.Option.IsSome, proofs.lemmas.List.{length-append, length-replicate}}
use Rattle.do_sig.specs.declared.signature.Signature.{Signature}

-- what is known of an invocation, by its method and how many locals it has
abbrev pub Known : Type 1
Known = MethodId → ℕ → Type 0

-- so much is known of each of these invocations
abbrev pub AreKnown : Known → List Invocation → Type 0
AreKnown W is = AllByRecursion (λ i. W i.method (length i.locals)) is

-- how many locals an invocation begins with, by its values
abbrev pub begun_count : List Value → ℕ
begun_count values = length (values ++ replicate (16 - length values) Nil)

-- so much is known of each invocation that begins with no more values than its method takes
abbrev pub HoldsBegun : Known → List Class → Type 0
HoldsBegun W table =
    (m : Found) (values : List Value) → signature_of table m.id ≡ Some m.signature →
    length values ≤ length m.signature.args → W m.id (begun_count values)

-- how many locals an invocation has after an act
abbrev pub count_after : Invocation → Act → ℕ
count_after i (Step pc locals handler writes) = length locals
count_after i _ = length i.locals

-- so much is known of an invocation after an act, if it was before
abbrev pub HoldsAfter : Known → Invocation → Act → Type 0
HoldsAfter W i a = W i.method (length i.locals) → W i.method (count_after i a)

-- a method with a signature is one of the table
pub has_method : (table : List Class) (id : MethodId) (s : Signature) →
    signature_of table id ≡ Some s → IsSome (method_at table id)
has_method table id s h = grind (arith, h)

-- an invocation begins with 16 locals, where its values are no more
pub begun_locals : (values : List Value) → length values ≤ 16 →
    begun_count values ≡ 16
begun_locals values few = simp (length-append, length-replicate) (omega (arith, few))
