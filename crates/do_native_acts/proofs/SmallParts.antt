-- The parts of a list are small where there are few and all have small parts.
use Rattle.std.proofs.Common.{◌≡◌, ℕ, ◌<◌, ◌≤◌, Bool, true, false, ◌&&◌, nat_le, List as Listed}
use Rattle.std.{proofs.Common.{length, map, sym, ◌∙◌, ap, arith, rules}, specs.List.list_all}
use Rattle.std.proofs.lemmas.List.{length-map, Folds.list_all-map}
use Rattle.do_base.specs.declared.values.value.Value.{Value, List, the_lemmas}
use Rattle.do_behave.specs.Limits.{has_small_parts}

-- the parts of a list, as its items answer
small_List : (vs : Listed Value)
    → has_small_parts (List vs)
    ≡ (nat_le (length (map has_small_parts vs)) 1024 && list_all (λ b. b) (map has_small_parts vs))
small_List vs = search (rules, the_lemmas)

-- the parts of a list are the parts of its items
small_items : (vs : Listed Value)
    → has_small_parts (List vs) ≡ (nat_le (length vs) 1024 && list_all has_small_parts vs)
small_items vs =
    small_List vs
    ∙ ap (λ n. nat_le n 1024 && list_all (λ b. b) (map has_small_parts vs))
    (length-map vs has_small_parts)
    ∙ ap (λ b. nat_le (length vs) 1024 && b) (list_all-map (λ (b : Bool). b) has_small_parts vs)

-- as many items as may be pass
few_pass : (n : ℕ) → n ≤ 1024 → nat_le n 1024 ≡ true
few_pass n le = grind arith

-- more fail
many_fail : (n : ℕ) → 1024 < n → nat_le n 1024 ≡ false
many_fail n lt = grind arith

-- of few items, all have small parts or not
pub small_few : (v : Value) (vs : Listed Value) → v ≡ List vs → (b : Bool) (n : ℕ)
    → n ≡ length vs → n ≤ 1024 → b ≡ list_all has_small_parts vs → b ≡ has_small_parts v
small_few v vs is b n counted le all =
    all
    ∙ ap (λ t. t && list_all has_small_parts vs)
    (sym (few_pass n le) ∙ ap (λ k. nat_le k 1024) counted)
    ∙ sym (small_items vs) ∙ ap has_small_parts (sym is)

-- of many items, the test of their number is the whole
pub small_many : (v : Value) (vs : Listed Value) → v ≡ List vs → (n : ℕ) → n ≡ length vs
    → 1024 < n → nat_le n 1024 ≡ has_small_parts v
small_many v vs is n counted lt =
    many_fail n lt
    ∙ ap (λ t. t && list_all has_small_parts vs)
    (sym (many_fail n lt) ∙ ap (λ k. nat_le k 1024) counted)
    ∙ sym (small_items vs) ∙ ap has_small_parts (sym is)
