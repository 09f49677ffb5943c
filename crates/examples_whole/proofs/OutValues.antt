-- Where the values of an answer go.
use Rattle.std.{proofs.Common.{◌≡◌, [], ◌∷◌, refl}, specs.Prelude.{Some, pos, slice_get}}
use Rattle.do_base.specs.declared.values.value.Value.TheVariants.{Nil, Num}
use Rattle.do_behave.specs.declared.invocation.InvState.TheVariants.{Below, Running}
use Rattle.do_machine.specs.run.Changes.{uses}
use Rattle.examples_whole.proofs.Samples.{invocation}

-- of two out values that go to one local, the later wins
later_wins :
    slice_get (uses Nil (Num (pos 2) ∷ Num (pos 3) ∷ []) (invocation (4 ∷ 4 ∷ []) Below)).locals 4
    ≡ Some (Num (pos 3))
later_wins = refl

-- an out value that goes to the local of the result wins over the result
out_value_wins :
    slice_get (uses (Num (pos 1)) (Num (pos 2) ∷ []) (invocation (5 ∷ []) Below)).locals 5
    ≡ Some (Num (pos 2))
out_value_wins = refl

-- each goes to its own local, and the invocation runs on
each_in_its_local :
    uses (Num (pos 1)) (Num (pos 2) ∷ Num (pos 3) ∷ []) (invocation (0 ∷ 1 ∷ []) Below)
    ≡ record (invocation (0 ∷ 1 ∷ []) Running) {
      locals = Num (pos 2) ∷ Num (pos 3) ∷ Nil ∷ Nil ∷ Nil ∷ Num (pos 1) ∷ Nil ∷ Nil ∷ Nil ∷ Nil
          ∷ Nil ∷ Nil ∷ Nil ∷ Nil ∷ Nil ∷ Nil ∷ [];
    }
each_in_its_local = refl
