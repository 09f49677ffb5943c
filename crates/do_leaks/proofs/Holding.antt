-- What slots in a row name first.
use Rattle.std.proofs.Common.{◌≡◌, List, [], ◌∷◌, ◌++◌, Option, Some, None, refl, ap, ◌∙◌, sym}
use Rattle.std.proofs.Common.{cond, Bool, true, false, ◌||◌, ℕ, ◌+◌, length, arith, ◌<◌, get_or}
use Rattle.std.{proofs.Common.{take, length-take}, specs.Option.option_or}
use Rattle.std.proofs.lemmas.{List.{append-nil, take_more}, Grind.flat_map-append}
use Rattle.do_base.specs.{names.Names.ObjectName, values.Values.objects_of}
use Rattle.do_base.specs.declared.values.value.Value.{Value}
use Rattle.do_packet.specs.Met.{has_object, same_object}
use Rattle.do_trace.specs.declared.outcome.{ObjLine.ObjLine, NodeLine.NodeLine}
use Rattle.do_leaks.specs.{Heap.objects_at, declared.leak.Holder.Holder, Leaks.{holder, holder_in}}
use Rattle.do_leaks.specs.Rest.{noted}

-- the first of three, however they are grouped
pub option_or_assoc : (a b c : Option Holder) →
    option_or (option_or a b) c ≡ option_or a (option_or b c)
option_or_assoc None b c = refl
option_or_assoc (Some h) b c = refl

-- nothing behind an option leaves it
pub option_or_none : (a : Option Holder) → option_or a None ≡ a
option_or_none None = refl
option_or_none (Some h) = refl

-- one choice before another
noted_or : (b : Bool) (h : Holder) (rest : Bool) (ys : Option Holder) (all : Bool) →
    cond all (Some h) None ≡ option_or (cond rest (Some h) None) ys →
    cond (b || all) (Some h) None ≡ option_or (cond (b || rest) (Some h) None) ys
noted_or true h rest ys all e = refl
noted_or false h rest ys all e = e

-- a slot for the objects of two lists
pub noted-append : (xs ys : List ObjectName) (slot : Holder) (o : ObjectName) →
    noted (xs ++ ys) slot o ≡ option_or (noted xs slot o) (noted ys slot o)
noted-append [] ys slot o = refl
noted-append (x ∷ xs) ys slot o =
    noted_or (same_object o x) slot (has_object xs o) (noted ys slot o) (has_object (xs ++ ys) o)
    (noted-append xs ys slot o)

-- a slot that names it, or those behind
holder_or : (b : Bool) (h : Holder) (all rest ys : Option Holder) → all ≡ option_or rest ys →
    cond b (Some h) all ≡ option_or (cond b (Some h) rest) ys
holder_or true h all rest ys e = refl
holder_or false h all rest ys e = e

-- the slots of two lists
pub holder_in-append : (from : ObjectName) (slot : ℕ) (vs ws : List Value) (o : ObjectName) →
    holder_in from slot (vs ++ ws) o
    ≡ option_or (holder_in from slot vs o) (holder_in from (slot + length vs) ws o)
holder_in-append from slot [] ws o = ap (λ n. holder_in from n ws o) (omega arith)
holder_in-append from slot (v ∷ vs) ws o =
    holder_or (has_object (objects_of v) o) (record { oid = from; slot = slot })
    (holder_in from (slot + 1) (vs ++ ws) o) (holder_in from (slot + 1) vs o)
    (holder_in from (slot + length (v ∷ vs)) ws o)
    (holder_in-append from (slot + 1) vs ws o
    ∙ ap (λ n. option_or (holder_in from (slot + 1) vs o) (holder_in from n ws o)) (omega arith))

-- the objects of two lists
pub holder-append : (xs ys : List ObjLine) (o : ObjectName) →
    holder (xs ++ ys) o ≡ option_or (holder xs o) (holder ys o)
holder-append [] ys o = refl
holder-append (x ∷ xs) ys o =
    ap (option_or (holder_in x.oid 0 x.slots o)) (holder-append xs ys o)
    ∙ sym (option_or_assoc (holder_in x.oid 0 x.slots o) (holder xs o) (holder ys o))

-- what the slots of one node's objects name
pub holder_at_node : (n : NodeLine) (o : ObjectName) →
    holder (objects_at (n ∷ [])) o ≡ holder n.objects o
holder_at_node n o = ap (λ xs. holder xs o) (append-nil n.objects)

-- the objects of two lists of nodes
pub holder_by_nodes : (ms ns : List NodeLine) (o : ObjectName) →
    holder (objects_at (ms ++ ns)) o
    ≡ option_or (holder (objects_at ms) o) (holder (objects_at ns) o)
holder_by_nodes ms ns o = ap (λ xs. holder xs o) (flat_map-append (λ n. n.objects) ms ns)
    ∙ holder-append (objects_at ms) (objects_at ns) o

-- one more slot
pub holder_in_more : {now after : Option Holder} → (before : Option Holder) (from : ObjectName)
    (vs : List Value) (i : ℕ) (v : Value) (o : ObjectName) → i < length vs → v ≡ get_or vs i v →
    now ≡ option_or before (holder_in from 0 (take i vs) o) →
    after ≡ option_or now (noted (objects_of v) (record { oid = from; slot = i }) o) →
    after ≡ option_or before (holder_in from 0 (take (i + 1) vs) o)
holder_in_more before from vs i v o lt is e last =
    let first = holder_in from 0 (take i vs) o in
    let one = λ (n : ℕ) (u : Value). holder_in from n (u ∷ []) o in
    let few : 0 + length (take i vs) ≡ i = omega (arith, length-take i vs) in
    last ∙ ap (λ a. option_or a (one i v)) e ∙ option_or_assoc before first (one i v)
    ∙ ap (option_or before)
    (ap (λ u. option_or first (one i u)) is
    ∙ ap (λ n. option_or first (one n (get_or vs i v))) (sym few)
    ∙ sym (holder_in-append from 0 (take i vs) (get_or vs i v ∷ []) o)
    ∙ ap (λ us. holder_in from 0 us o) (sym (take_more vs i v lt)))

pub ruleset holding_steps =
    (option_or_assoc, option_or_none, noted-append, holder_in-append, holder-append)
