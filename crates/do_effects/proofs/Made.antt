-- The name of an object that was made.
use Rattle.std.proofs.Common.{◌≡◌, ◌&&◌, ◌<◌, ℕ, Bool, true, false, cond, eqb, List, [], ◌∷◌, ◌++◌}
use Rattle.std.proofs.Common.{IsSome, Some, None, is_some, refl, ap, ◌∙◌, arith}
use Rattle.do_base.specs.declared.values.value.Value.{Value, TheVariants.Obj}
use Rattle.do_class.specs.declared.ids.ClassId.{ClassId}
use Rattle.do_machine.specs.{declared.node.{Node.Node, Stored.Stored}, State.{own, stored}}
use Rattle.do_machine.specs.run.Fresh.{with_objects}
use Rattle.do_part.specs.Names.{AreStored, values_of}
use Rattle.do_store.proofs.Valued.{names-Obj}

-- the last object is stored under its serial
last_stored : (serial : ℕ) (heap : List Stored) (x : Stored) → eqb x.serial serial ≡ true →
    IsSome (stored serial (heap ++ x ∷ []))
last_stored serial [] x same = ap (λ b. is_some (cond b (Some x) None)) same
last_stored serial (y ∷ heap) x same = go (eqb y.serial serial) (last_stored serial heap x same)
  where
    -- whether another object has the serial or not
    go : (b : Bool) → IsSome (stored serial (heap ++ x ∷ [])) →
        IsSome (cond b (Some y) (stored serial (heap ++ x ∷ [])))
    go true h = refl
    go false h = h

-- what is made is stored
pub made_stored : (n : Node) (class : ClassId) (slots : List Value) →
    AreStored (with_objects (record { class = class; slots = slots } ∷ []) n)
    (values_of (Obj (own n n.next_serial) ∷ []))
made_stored n class slots = λ serial some.
    go serial (eqb n.next_serial serial) refl some
  where
    -- what is named is the object that was made
    counted : (serial : ℕ) → values_of (Obj (own n n.next_serial) ∷ []) (own n serial)
        ≡ cond (eqb n.port n.port && eqb n.next_serial serial) 1 0
    counted serial = let e = names-Obj n.port serial (own n n.next_serial) in omega (arith, e)

    -- so for its serial, and no other is named
    go : (serial : ℕ) (b : Bool) → eqb n.next_serial serial ≡ b →
        0 < values_of (Obj (own n n.next_serial) ∷ []) (own n serial) →
        IsSome (stored serial (n.heap ++ record {
          serial = n.next_serial;
          class = class;
          slots = slots;
        } ∷ []))
    go serial true same some = last_stored serial n.heap _ same
    go serial false same some =
        let none : ◌≡◌ {A = ℕ} (cond (eqb n.port n.port && eqb n.next_serial serial) 1 0) 0 =
        ap (λ b. let k : ℕ = cond (eqb n.port n.port && b) 1 0 in k) same
        ∙ never (eqb n.port n.port) in
        let e = counted serial in
        absurd (omega arith)
      where
        -- under another serial nothing is named
        never : (b : Bool) → ◌≡◌ {A = ℕ} (cond (b && false) 1 0) 0
        never true = refl
        never false = refl
