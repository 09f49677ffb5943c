-- A method takes 8 arguments at most, and as many values are passed.
use Rattle.std.proofs.Common.{◌≡◌, ◌∙◌, ◌≤◌, ◌&&◌, ℕ, Bool, true, false, List, [], ◌∷◌, length, map}
use Rattle.std.proofs.Common.{refl, ap, arith, subst, suc}
use Rattle.std.specs.Prelude.{None, Option, Some, option_and_then, option_map, slice_get, slice_set}
use Rattle.std.{specs.List.All, proofs.lemmas.List.{Elements.All-get_or, length-map, length-set}}
use Rattle.std.proofs.lemmas.Option.{get_or_from_slice_get, slice_get_within}
use Rattle.do_base.specs.declared.values.value.Value.{Value}
use Rattle.do_class.specs.{Class.Class, Table.{class_at, signature_of}}
use Rattle.do_class.specs.declared.{ids.{ClassId.ClassId, MethodId.MethodId}, method.Method.Method}
use Rattle.do_sig.specs.{Calls.{args_fit, encoding_fits}, Fits.each_takes, MethodTypes.IsMethodType}
use Rattle.do_sig.specs.declared.{encoding.Encoding.Encoding, signature.Signature.Signature}
use Rattle.do_machine.specs.{Context.{Found, method_for}, World.HasSignatures}
use Rattle.do_machine.specs.run.{Changes.with_outs, Send.inputs_by}
use Rattle.do_facts.proofs.methods.MethodsFound.{signature_found}

-- each method of the table takes at most 8 arguments
abbrev pub TakesFew : List Class → Type 0
TakesFew table =
    (id : MethodId) (s : Signature) → signature_of table id ≡ Some s → length s.args ≤ 8

-- what is at a place of a list has what each element has
all_at : {X : Type 0} (P : X → Type 0) (xs : List X) (k : ℕ) (x : X) → All P xs →
    slice_get xs k ≡ Some x → P x
all_at P xs k x all at =
    subst P (get_or_from_slice_get xs k x x at)
    (All-get_or P xs k x (slice_get_within xs k x at) all)

-- a table whose signatures keep to what every signature keeps to takes few
pub takes_few : (table : List Class) → All HasSignatures table → TakesFew table
takes_few table all id s h = by (class_at table id.class) refl h
  where
    in_method : (c : Class) → HasSignatures c → (m : Option Method) →
        slice_get c.methods id.index ≡ m → option_map (λ m. m.signature) m ≡ Some s →
        length s.args ≤ 8
    in_method c each None at q = absurd (cc)
    in_method c each (Some m) at q =
        let is : m.signature ≡ s = cc in
        let keeps =
        all_at (λ (m : Method). IsMethodType m.signature) c.methods id.index m each at in
        omega (arith, keeps.few, ap (λ (x : Signature). length x.args) is)

    by : (c : Option Class) → class_at table id.class ≡ c →
        option_map (λ m. m.signature) (option_and_then (λ c. slice_get c.methods id.index) c)
        ≡ Some s → length s.args ≤ 8
    by None at q = absurd (cc)
    by (Some c) at q =
        in_method c (all_at HasSignatures table id.class.0 c all at)
        (slice_get c.methods id.index) refl q

-- so does a method that is found for a selector
pub found_few : (table : List Class) → TakesFew table → (class : Option ClassId)
    (selector : List ℕ) (m : Found) → method_for table class selector ≡ Some m →
    length m.signature.args ≤ 8
found_few table few class selector m found =
    few m.id m.signature (signature_found table class selector m found)

-- values that pass tests are as many
taken_length : (tests : List (Value → Bool)) (values : List Value) →
    each_takes tests values ≡ true → length values ≡ length tests
taken_length [] [] h = refl
taken_length [] (v ∷ values) h = absurd (cc)
taken_length (e ∷ tests) [] h = absurd (cc)
taken_length (e ∷ tests) (v ∷ values) h = ap suc (taken_length tests values (rest (e v) h))
  where
    rest : (b : Bool) → (b && each_takes tests values) ≡ true → each_takes tests values ≡ true
    rest true q = q
    rest false q = absurd (cc)

-- values that fit a method are as many as its arguments
pub fitting_length : (s : Signature) (values : List Value) → args_fit s values ≡ true →
    length values ≡ length s.args
fitting_length s values fit =
    taken_length (map encoding_fits s.args) values fit ∙ length-map s.args encoding_fits

-- the values that are passed are no more than the arguments
pub inputs_length : (es : List Encoding) (values : List Value) →
    length (inputs_by es values) ≤ length es
inputs_length [] values = omega arith
inputs_length (e ∷ es) [] = omega arith
inputs_length (e ∷ es) (v ∷ values) = omega (arith, inputs_length es values)

-- values that come out change no number of locals
pub outs_length : (ks : List ℕ) (values locals : List Value) →
    length (with_outs ks values locals) ≡ length locals
outs_length [] values locals = refl
outs_length (k ∷ ks) [] locals = refl
outs_length (k ∷ ks) (v ∷ values) locals =
    outs_length ks values (slice_set locals k v) ∙ length-set locals k v
