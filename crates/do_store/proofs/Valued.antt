-- What a value of each kind names.
use Rattle.std.proofs.Common.{◌≡◌, ◌≢◌, ℕ, ◌+◌, cond, eqb, eq-eqb, ne_eqb, ◌&&◌, List as Listed, []}
use Rattle.std.proofs.Common.{◌∷◌, take, get_or, length, sum, map, rules, ap, ◌∙◌, refl, arith, ◌<◌}
use Rattle.std.proofs.{Common.sum_by, lemmas.List.{take_more, Sums.{sum_by-cons, sum_by-append}}}
use Rattle.do_base.specs.names.Names.{ObjectName}
use Rattle.do_base.specs.declared.values.value.Value.{Value, List, the_lemmas, TheVariants.Obj}
use Rattle.do_store.{specs.Names.{value_names, values_name}, proofs.StepsInARow.once}

-- a name counts once for its object
pub names-Obj : (port n : ℕ) (o : ObjectName)
    → value_names port n (Obj o) ≡ cond ((eqb o.node port) && (eqb o.serial n)) 1 0
names-Obj port n o = search (rules, the_lemmas)

-- a list names what its items name
pub names-List : (port n : ℕ) (vs : Listed Value)
    → value_names port n (List vs) ≡ values_name port n vs
names-List port n vs = listed ∙ sums vs
  where
    -- a list's names are the sum over its items
    listed : value_names port n (List vs) ≡ sum (map (value_names port n) vs)
    listed = search (rules, the_lemmas)

    -- the new object's slots name besides what they name
    sums : (us : Listed Value) → sum (map (value_names port n) us) ≡ values_name port n us
    sums [] = refl
    sums (u ∷ us) = let a = sum_by-cons (value_names port n) u us in let b = sums us in
        let c = sum_by-cons (λ (m : ℕ). m) (value_names port n u) (map (value_names port n) us) in
        grind (arith, a, b, c)

-- a name of an own object counts for that object
pub names-own : (port n : ℕ) (o : ObjectName) → o.node ≡ port
    → value_names port n (Obj o) ≡ once o.serial n
names-own port n o home = names-Obj port n o
    ∙ ap (λ b. cond (b && (eqb o.serial n)) 1 0) (eq-eqb o.node port home)

-- a name of a foreign object counts for none
pub names-foreign : (port n : ℕ) (o : ObjectName) → o.node ≢ port → value_names port n (Obj o) ≡ 0
names-foreign port n o away = names-Obj port n o
    ∙ ap (λ b. cond (b && (eqb o.serial n)) 1 0) (ne_eqb o.node port away)

-- one item more names what it names besides
pub names-more : (port n : ℕ) (vs : Listed Value) (i : ℕ) (v : Value) → i < length vs
    → v ≡ get_or vs i v
    → values_name port n (take (i + 1) vs) ≡ values_name port n (take i vs) + value_names port n v
names-more port n vs i v within is =
    let f = value_names port n in
    let a = ap (sum_by f) (take_more vs i v within) in
    let b = sum_by-append f (take i vs) (get_or vs i v ∷ []) in
    let c = sum_by-cons f (get_or vs i v) [] in
    let d = ap f is in
    omega arith
