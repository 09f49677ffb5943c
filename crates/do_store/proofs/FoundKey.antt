-- The key where an object was found, and the list once its slot is written or emptied.
use Rattle.std.proofs.Common.{◌≡◌, ◌≢◌, ℕ, cond, eq-eqb, ne_eqb, List, [], ◌∷◌, Option, Some, None}
use Rattle.std.proofs.Common.{Contains, sym, ap, ◌∙◌}
use Rattle.do_store.specs.{Objects.stored_at, Listing.{Rising, pair_serial, live_in, listed}}
use Rattle.do_store.specs.declared.object.{Object.Object, Pair.Pair}
use Rattle.do_store.proofs.Listed.{stored-found, Edited}

-- the key where an object was found
pub record FoundAt (at : ℕ → Option Object) (pairs : List Pair) (n k : ℕ) : Type 0 where
  pub member : Contains pairs (record { serial = n; key = k })
  pub object : Object
  pub found : at k ≡ Some object
  pub same : object.serial ≡ n

-- the object at the key of a serial is the one stored
pub stored-at_key : (at : ℕ → Option Object) (top : ℕ) (pairs : List Pair) (n k : ℕ)
    → Rising pair_serial 0 pairs top → (f : FoundAt at pairs n k)
    → stored_at (listed at pairs) n ≡ at k
stored-at_key at top pairs n k rising f =
    stored-found at 0 top pairs (record { serial = n; key = k }) f.object rising f.member f.found
    f.same ∙ sym f.found

-- to write the slot at a serial's key is to edit that object
pub edited-some : (at at' : ℕ → Option Object) (pairs : List Pair) (n k : ℕ)
    (f : FoundAt at pairs n k) (o' : Object) (by : Object → List Object)
    → at' k ≡ Some o' → o'.serial ≡ n → by f.object ≡ o' ∷ [] → ((j : ℕ) → j ≢ k → at' j ≡ at j)
    → Edited at at' pairs n k f.object by
edited-some at at' pairs n k f o' by now same is others = record {
  member = f.member;
  found = f.found;
  same = f.same;
  others = others;
  here = ap (live_in n) now ∙ ap (λ b. cond b (o' ∷ []) []) (eq-eqb o'.serial n same) ∙ sym is;
  elsewhere = λ m differs. ap (live_in m) now
      ∙ ap (λ b. cond b (o' ∷ []) []) (ne_eqb o'.serial m (λ e. differs (sym e ∙ same)));
}

-- to empty the slot at a serial's key is to take that object out
pub edited-none : (at at' : ℕ → Option Object) (pairs : List Pair) (n k : ℕ)
    (f : FoundAt at pairs n k) → at' k ≡ None → ((j : ℕ) → j ≢ k → at' j ≡ at j)
    → Edited at at' pairs n k f.object (λ o. [])
edited-none at at' pairs n k f now others = record {
  member = f.member;
  found = f.found;
  same = f.same;
  others = others;
  here = ap (live_in n) now;
  elsewhere = λ m differs. ap (live_in m) now;
}
