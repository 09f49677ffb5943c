use Rattle.do_center.proofs.removing.place_at.Goals as goal
use Rattle.std.proofs.Common.{◌≡◌, ℕ, zero, suc, List, [], ◌∷◌, None, refl, sym, arith}
use Rattle.std.{specs.Prelude.{slice_get, slice_index_or}, proofs.lemmas.Grind.common_steps}

-- where nothing stands, the other is taken
nothing_there : {A : Type 0} (xs : List A) (k : ℕ) (d : A) → slice_get xs k ≡ None
    → slice_index_or xs k d ≡ d
nothing_there [] k d e = refl
nothing_there (x ∷ xs) zero d e = cc
nothing_there (x ∷ xs) (suc k) d e = nothing_there xs k d e

pub returns-in-None : goal.returns-in-None
returns-in-None c =
    let none : slice_get c.args.places.now c.args.at ≡ None = grind (arith, common_steps) in
    sym (nothing_there c.args.places.now c.args.at None none)
