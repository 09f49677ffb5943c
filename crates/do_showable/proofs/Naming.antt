-- Names of objects that a record may have, and values of such names.
use Rattle.std.proofs.Common.{Bool, List as Listed, [], arith, inl, inr, length, map, refl, rules}
use Rattle.std.proofs.Common.{subst, suc, sym, true, zero, ℕ, ℤ, ◌&&◌, ◌*◌, ◌+◌, ◌<◌, ◌^◌, ◌∙◌, ◌∷◌}
use Rattle.std.proofs.{Common.◌≡◌, lemmas.Bool.{and_parts, Decides.nat_tests}}
use Rattle.std.specs.{Int.Signed.mag, List.{AllByRecursion, list_all}}
use Rattle.std.specs.Prelude.{Some, nat_le, nat_lt, negsuc, pos, ◌-◌, ◌≤◌}
use Rattle.do_base.specs.declared.events.exception.Exc.{Exc, TheVariants.{ConnectionDied, Deep}}
use Rattle.do_base.specs.declared.events.exception.Exc.TheVariants.{NotUnderstood, NotVended, Range}
use Rattle.do_base.specs.declared.events.exception.Exc.TheVariants.{TimedOut, TooLarge, TypeFault}
use Rattle.do_base.specs.declared.events.exception.Exc.TheVariants.{User}
use Rattle.do_base.specs.declared.values.value.Value.{List, Value, the_lemmas}
use Rattle.do_base.specs.declared.values.value.Value.TheVariants.{Nil, Num, Obj, Text}
use Rattle.do_base.specs.{names.Names.ObjectName, values.Induction.value_induction}
use Rattle.do_base.specs.values.{Kinds.object as object_of, Texts.longest_text}
use Rattle.do_grammar.specs.Num.{zigzag}
use Rattle.do_sched.specs.Good.{IsPort, nil, number, text}
use Rattle.do_record.specs.GoodShown.{IsException, IsNested, IsObject, IsSingle, object, plain}
use Rattle.do_record.specs.Value.{deepest}
use Rattle.do_coder.{proofs.values.PartFacts.all_bytes, specs.{Parts.is_bytes, Recent.IsSerial}}
use Rattle.do_machine.specs.Objects.{object_at}
use Rattle.do_facts.proofs.RulesOfActs.{is_raised}
use Rattle.do_limits.proofs.values.Carried.{carry-List, carry-Num, carry-Text}
use Rattle.do_limits.specs.Sendable.{IsSendable, IsSendableExc, can_carry}
use Rattle.do_at_hand.proofs.Shown.{AllName, Names, of_items, of_object}

-- a record may name an object: its home is a port, and its serial is from 1 to 2^63 - 1
abbrev pub is_nameable : ObjectName → Bool
is_nameable o =
    (nat_le 1 o.node && nat_le o.node 65535)
    && (nat_le 1 o.serial && nat_le o.serial 9223372036854775807)

-- such a name may stand in a record
pub object_stands : (o : ObjectName) → is_nameable o ≡ true → IsObject o
object_stands o h =
    let most : o.serial ≤ 9223372036854775807 = grind (arith, nat_tests, h) in
    record {
      home = (grind (arith, nat_tests, h), grind (arith, nat_tests, h));
      least = grind (arith, nat_tests, h);
      most = omega (arith, most);
    }

-- an object of a port, with a serial, is such
pub named_at : (port serial : ℕ) → IsPort port → IsSerial serial →
    is_nameable (object_at port serial) ≡ true
named_at port serial at s = grind (arith, nat_tests, at.0, at.1, s.0, s.1)

-- ---- values

-- a value that is no list stands at each depth
single : (depth : ℕ) (v : Value) → IsSingle v → IsNested depth v
single zero v h = h
single (suc depth) v h = inl h

-- a number of 64 bits by its size
sized : (z : ℤ) → nat_lt (zigzag z) (2 ^ 64) ≡ true → mag z < 2 ^ 63
sized (pos n) e = half n e
  where
    half : (n : ℕ) → nat_lt (2 * n) 18446744073709551616 ≡ true → n < 9223372036854775808
    half n e = grind (arith, nat_tests, e)
sized (negsuc n) e = half n e
  where
    half : (n : ℕ) → nat_lt (2 * n + 1) 18446744073709551616 ≡ true → n < 9223372036854775808
    half n e = grind (arith, nat_tests, e)

-- a text that can be carried
texted : (v : Value) (t : Listed ℕ) → v ≡ Text t →
    (nat_le (length t) longest_text && is_bytes t) ≡ true → IsSingle v
texted v t is e =
    let h = and_parts (nat_le (length t) longest_text) (is_bytes t) e in
    plain (text t is (within (length t) h.0) (all_bytes t h.1))
  where
    within : (n : ℕ) → nat_le n 1048575 ≡ true → n ≤ 1048575
    within n e = grind (arith, nat_tests, e)

-- a value that can be carried and has only such names stands in a record
abbrev Stands : Value → Type 0
Stands v = (depth : ℕ) → can_carry v depth ≡ true → Names is_nameable v → IsNested depth v

-- so do values
each_stands : (vs : Listed Value) (depth : ℕ) → AllByRecursion Stands vs →
    list_all (λ (f : ℕ → Bool). f depth) (map can_carry vs) ≡ true → AllName is_nameable vs →
    AllByRecursion (IsNested depth) vs
each_stands [] depth h c k = tt
each_stands (v ∷ vs) depth h c k =
    let cs = and_parts (can_carry v depth) _ c in
    (h.0 depth cs.0 k.0, each_stands vs depth h.1 cs.1 k.1)

-- the tests of a list: its items can stand one less deep, and it so deep
list_tests : (vs : Listed Value) (depth : ℕ) → can_carry (List vs) depth ≡ true →
    (list_all (λ (f : ℕ → Bool). f (depth - 1)) (map can_carry vs) ≡ true) × (1 ≤ depth)
list_tests vs depth c =
    let few = nat_le (length (map can_carry vs)) 1024 in
    let fit = list_all (λ (f : ℕ → Bool). f (depth - 1)) (map can_carry vs) in
    let e = and_parts (nat_lt 0 depth) (few && fit) (sym (carry-List depth vs) ∙ c) in
    ((and_parts few fit e.1).1, grind (arith, nat_tests, e.0))

-- a list
list_stands : (vs : Listed Value) → AllByRecursion Stands vs → Stands (List vs)
list_stands vs h zero c k = absurd (omega (arith, (list_tests vs zero c).1))
list_stands vs h (suc depth) c k =
    let less : suc depth - 1 ≡ depth = omega arith in
    inr (record {
      items = vs;
      is_list = refl;
      each = subst (λ d. AllByRecursion (IsNested d) vs) less
          (each_stands vs (suc depth - 1) h (list_tests vs (suc depth) c).0
          (of_items is_nameable vs k));
    })

-- each value
nested : (v : Value) → Stands v
nested =
    value_induction Stands
    (λ depth c k. single depth Nil (plain (nil refl)))
    (λ z depth c k. single depth (Num z) (plain (number z refl
    (sized z (sym (carry-Num depth z) ∙ c)))))
    (λ t depth c k. single depth (Text t) (texted (Text t) t refl (sym (carry-Text depth t) ∙ c)))
    (λ o depth c k. single depth (Obj o) (object o refl
    (object_stands o (of_object is_nameable (Obj o) o k (the_object o)))))
    list_stands
  where
    the_object : (o : ObjectName) → object_of (Obj o) ≡ Some o
    the_object o = search (rules, the_lemmas)

-- a value that a message can carry, with such names
pub value_stands : (v : Value) → IsSendable v → Names is_nameable v → IsNested deepest v
value_stands v h k = nested v deepest h k

-- ---- exceptions

-- an exception that a message can carry
pub exception_stands : (e : Exc) → IsSendableExc e → IsException e
exception_stands TypeFault h = tt
exception_stands Range h = tt
exception_stands Deep h = tt
exception_stands NotUnderstood h = tt
exception_stands ConnectionDied h = tt
exception_stands NotVended h = tt
exception_stands TooLarge h = tt
exception_stands TimedOut h = tt
exception_stands (User t) h = h

-- the exceptions of rules
pub raised_stands : (e : Exc) → is_raised e ≡ true → IsException e
raised_stands (User t) h = absurd (cc (h))
raised_stands _ h = tt
