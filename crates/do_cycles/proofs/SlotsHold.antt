-- An object that slots name has a holder.
use Rattle.std.proofs.Common.{◌≡◌, ◌⊎◌, ◌+◌, ℕ, Bool, true, false, cond, List, [], ◌∷◌, refl, sym}
use Rattle.std.proofs.Common.{Option, Some, None, subst, inl, inr}
use Rattle.std.{specs.{Prelude.is_some, Option.option_or}, proofs.lemmas.Bool.both_ways}
use Rattle.do_base.specs.{names.Names.ObjectName, values.Values.objects_of}
use Rattle.do_base.specs.declared.values.value.Value.{Value}
use Rattle.do_leaks.{specs.{Heap.names_in, Leaks.{holder, holder_in}}, proofs.Named.in_either}
use Rattle.do_machine.specs.{Lists.IsIn, held.Refers.objects_in}
use Rattle.do_packet.specs.Met.{has_object}
use Rattle.do_trace.specs.declared.outcome.ObjLine.{ObjLine}

-- one of two options is there
some_either : {H : Type 0} (b : Bool) (r : H) (rest : Option H) →
    (b ≡ false → is_some rest ≡ true) → is_some (cond b (Some r) rest) ≡ true
some_either true r rest h = refl
some_either false r rest h = h refl

-- the first of two options is there
some_first : {H : Type 0} (a b : Option H) → is_some a ≡ true → is_some (option_or a b) ≡ true
some_first None b h = absurd (cc)
some_first (Some a) b h = refl

-- the second of two options is there
some_second : {H : Type 0} (a b : Option H) → is_some b ≡ true → is_some (option_or a b) ≡ true
some_second None b h = h
some_second (Some a) b h = refl

-- where slots name an object, one of them is the first that does
held_in : (from o : ObjectName) (slot : ℕ) (vs : List Value) →
    has_object (objects_in vs) o ≡ true → is_some (holder_in from slot vs o) ≡ true
held_in from o slot [] h = absurd (cc)
held_in from o slot (v ∷ vs) h =
    some_either (has_object (objects_of v) o) _ (holder_in from (slot + 1) vs o)
    (λ e. held_in from o (slot + 1) vs (later (in_either (objects_of v) (objects_in vs) o h) e))
  where
    later : (has_object (objects_of v) o ≡ true) ⊎ (has_object (objects_in vs) o ≡ true) →
        has_object (objects_of v) o ≡ false → has_object (objects_in vs) o ≡ true
    later (inl x) e = absurd (both_ways (has_object (objects_of v) o) e x)
    later (inr x) e = x

-- where a slot of an object of a heap names an object, that has a holder
pub held_by_line : (heap : List ObjLine) (line : ObjLine) (o : ObjectName) → IsIn heap line →
    has_object (names_in line) o ≡ true → is_some (holder heap o) ≡ true
held_by_line [] line o i h = absurd i
held_by_line (x ∷ xs) line o (inl q) h =
    some_first (holder_in x.oid 0 x.slots o) (holder xs o)
    (held_in x.oid o 0 x.slots
    (subst (λ (y : ObjLine). has_object (names_in y) o ≡ true) (sym q) h))
held_by_line (x ∷ xs) line o (inr i) h =
    some_second (holder_in x.oid 0 x.slots o) (holder xs o) (held_by_line xs line o i h)
