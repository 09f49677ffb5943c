-- What is walked as a value is spelled as one.
use Rattle.std.proofs.Common.{◌≡◌, ℕ, zero, suc, ◌<◌, Bool, true, false, cond, eqb, List as Listed}
use Rattle.std.proofs.Common.{[], ◌∷◌, ◌++◌, length, map, Option, Some, None, refl, sym, ap, ◌∙◌}
use Rattle.std.proofs.{Common.{arith, append_assoc}, lemmas.{Bool.eqb-true, List.append-nil}}
use Rattle.do_base.specs.declared.values.value.Value.{Value}
use Rattle.do_sched.specs.Value.{spaced, value_text}
use Rattle.do_record.specs.{GoodShown.IsNested, Value.{Walked, deepest, is_value, walks}}
use Rattle.do_record.proofs.values.ValueStep.{Items, TakesItems, TakesValue, Values, value_step}
use Rattle.do_record.proofs.values.Walking.{not_over, open_walks}

-- an item, and what stands behind it: a bracket, or a space and more items
item_step : (k : ℕ) → Values (suc k) → Items k → Items (suc k)
item_step k values items n depth room bytes small fits h =
    let v = values n (suc depth) room bytes small fits h in
    go v v.left v.rest refl refl v.goes_on
  where
    done : (v : TakesValue n (suc depth) room bytes) (m : ℕ) (rest : Listed ℕ) → m < n
        → v.rest ≡ 93 ∷ rest → walks m false depth rest ≡ true → TakesItems n depth room bytes
    done v m rest fewer ends e = record {
      first = v.value;
      others = [];
      rest = rest;
      left = m;
      spelled = v.spelled ∙ ap (λ w. value_text v.value ++ w) ends
          ∙ ap (λ w. w ++ 93 ∷ rest) (sym (append-nil (value_text v.value)));
      good = (v.good, tt);
      fewer = fewer;
      goes_on = e;
    }

    joined : (v : TakesValue n (suc depth) room bytes) (m : ℕ) (rest : Listed ℕ) → m < n
        → v.rest ≡ 32 ∷ rest → TakesItems m depth room rest → TakesItems n depth room bytes
    joined v m rest fewer ends i = record {
      first = v.value;
      others = i.first ∷ i.others;
      rest = i.rest;
      left = i.left;
      spelled = v.spelled ∙ ap (λ w. value_text v.value ++ w)
          (ends ∙ ap (λ w. 32 ∷ w) i.spelled)
          ∙ sym (append_assoc (value_text v.value)
          (spaced (map value_text (i.first ∷ i.others))) (93 ∷ i.rest));
      good = (v.good, i.good);
      fewer = let less = i.fewer in omega arith;
      goes_on = i.goes_on;
    }

    ended : (v : TakesValue n (suc depth) room bytes) (m b : ℕ) (rest : Listed ℕ) → m < n
        → v.rest ≡ b ∷ rest → (t : Bool) → eqb b 93 ≡ t
        → elim (cond {A = Option Walked} t (Some (false, depth, rest)) None) [
          | None ↦ false
          | Some s ↦ walks m s.0 s.1 s.2
        ] ≡ true → TakesItems n depth room bytes
    ended v m b rest fewer ends true p q =
        done v m rest fewer (ends ∙ ap (λ w. w ∷ rest) (eqb-true b 93 p)) q
    ended v m b rest fewer ends false p q = absurd cc

    goes : (v : TakesValue n (suc depth) room bytes) (m b : ℕ) (rest : Listed ℕ) → m < n
        → v.rest ≡ b ∷ rest → (t : Bool) → eqb b 32 ≡ t
        → elim (cond {A = Option Walked} t (Some (true, suc depth, rest))
        (cond (eqb b 93) (Some (false, depth, rest))
        None)) [ None ↦ false | Some s ↦ walks m s.0 s.1 s.2 ] ≡ true
        → TakesItems n depth room bytes
    goes v m b rest fewer ends true p q =
        joined v m rest fewer (ends ∙ ap (λ w. w ∷ rest) (eqb-true b 32 p))
        (items m depth room rest (omega arith) fits q)
    goes v m b rest fewer ends false p q = ended v m b rest fewer ends (eqb b 93) refl q

    go : (v : TakesValue n (suc depth) room bytes) (m : ℕ) (rest : Listed ℕ) → v.left ≡ m
        → v.rest ≡ rest → walks m false (suc depth) rest ≡ true → TakesItems n depth room bytes
    go v zero rest left_is rest_is e = let no = not_over depth rest in absurd cc
    go v (suc m) [] left_is rest_is e =
        let f : false ≡ true = sym (open_walks m depth []) ∙ e in
        absurd cc
    go v (suc m) (b ∷ rest) left_is rest_is e =
        goes v m b rest (let less = v.fewer in omega arith) rest_is (eqb b 32) refl
        (sym (open_walks m depth (b ∷ rest)) ∙ e)

-- ---- all values

-- values and items are taken in any number of tokens
pub taken : (k : ℕ) → Values k × Items k
taken zero = (none, no_items)
  where
    none : Values zero
    none zero depth room bytes small fits h = absurd cc
    none (suc n) depth room bytes small fits h = absurd (omega arith)

    no_items : Items zero
    no_items zero depth room bytes small fits h = absurd cc
    no_items (suc n) depth room bytes small fits h = absurd (omega arith)
taken (suc k) =
    let below = taken k in
    let values = value_step k below.1 in
    (values, item_step k values below.1)

-- the value that bytes are
pub record IsValueText (bytes : Listed ℕ) : Type 0 where
  pub value : Value
  pub spelled : bytes ≡ value_text value
  pub good : IsNested deepest value

-- where the walk is over, nothing is left
over : (n : ℕ) (rest : Listed ℕ) → walks n false 0 rest ≡ true → rest ≡ []
over n [] h = refl
over zero (b ∷ rest) h = absurd cc
over (suc n) (b ∷ rest) h = absurd cc

-- what is read as a value is one
pub value_takes : (bytes : Listed ℕ) → is_value bytes ≡ true → IsValueText bytes
value_takes bytes h =
    let v = (taken (length bytes)).0 (length bytes) 0 8 bytes (omega arith) refl h in
    record {
      value = v.value;
      spelled = v.spelled ∙ ap (λ w. value_text v.value ++ w) (over v.left v.rest v.goes_on)
          ∙ append-nil (value_text v.value);
      good = v.good;
    }
