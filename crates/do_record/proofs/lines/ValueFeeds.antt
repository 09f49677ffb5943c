-- How many lines a text has, and that no value has a line feed in it.
use Rattle.do_sched.specs.declared.line.Line.TheVariants as lines
use Rattle.std.proofs.Common.{◌≡◌, ℕ, zero, suc, ◌+◌, true, cond, eqb, List as Listed, [], ◌∷◌}
use Rattle.std.proofs.Common.{◌++◌, map, refl, sym, ap, subst, ◌∙◌, arith, inl, inr}
use Rattle.std.specs.{Prelude.{codes, not, ◌==◌}, Fmt.decimal}
use Rattle.std.specs.List.{AllByRecursion, flat_map, list_all}
use Rattle.std.proofs.lemmas.{Bool.ne_eqb, List.{append-nil, Sums.sum_by-append}}
use Rattle.do_base.specs.{declared.values.value.Value.{Value, List}, names.Names.ObjectName}
use Rattle.do_base.specs.values.Texts.{longest_text}
use Rattle.do_grammar.specs.{Names.is_selector, Words.Without}
use Rattle.do_grammar.proofs.texts.IntExact.{Without-decimal}
use Rattle.do_grammar.proofs.texts.WordBytes.{Without-append, Without-passes}
use Rattle.do_sched.specs.{Good.IsPlain, Spelling.{fed, spaced_value}, Value.{between, object_name}}
use Rattle.do_sched.specs.{Value.{spaced, value_text}, declared.version.Version.TheVariants.Second}
use Rattle.do_sched.proofs.LineWithoutFeed.{no_feed}
use Rattle.do_record.specs.GoodShown.{IsNested, IsObject, IsSingle, object, plain}
use Rattle.do_record.specs.Grammar.{lines_in}
use Rattle.do_record.proofs.values.{SinglesTaken.value_text-Obj, ValueStep.value_text-List}

-- ---- how many lines

-- texts free_behind one another have the lines of both
pub lines_append : (a b : Listed ℕ) → lines_in (a ++ b) ≡ lines_in a + lines_in b
lines_append a b = sum_by-append (λ c. cond (eqb c 10) 1 0) a b

-- a text without a line feed has none
lines_none : (a : Listed ℕ) → Without 10 a → lines_in a ≡ 0
lines_none [] h = refl
lines_none (x ∷ a) h = rw (ne_eqb x 10 h.0) (lines_none a h.1)

-- and with one it is a line
pub one_line : (a : Listed ℕ) → Without 10 a → lines_in (fed a) ≡ 1
one_line a h = lines_append a (10 ∷ []) ∙ ap (λ n. n + 1) (lines_none a h)

-- ---- words

-- a text that a test finds without a line feed has none
pub literal : (a : Listed ℕ) → list_all (λ b. not (b == 10)) a ≡ true → Without 10 a
literal a h = Without-passes (λ b. not (b == 10)) 10 a refl h

-- nor has it before another that has none
pub free_worded : (word rest : Listed ℕ) → list_all (λ b. not (b == 10)) word ≡ true
    → Without 10 rest → Without 10 (word ++ rest)
free_worded word rest h k = Without-append 10 word rest (literal word h) k

-- what stands nowhere in a text stands nowhere free_behind its front
pub free_behind : (a b : Listed ℕ) → Without 10 (a ++ b) → Without 10 b
free_behind [] b h = h
free_behind (x ∷ a) b h = free_behind a b h.1

-- nor has the name of an object
pub object_free : (o : ObjectName) → IsObject o → Without 10 (object_name o)
object_free o h =
    let home = h.home.1 in
    let most = h.most in (
      λ (e : 35 ≡ 10). omega arith,
      Without-append 10 (decimal o.node) (46 ∷ decimal o.serial)
          (Without-decimal 10 o.node (omega arith) (omega arith)) (
            λ (e : 46 ≡ 10). omega arith,
            Without-decimal 10 o.serial (omega arith) (omega arith),
          ),
    )

-- ---- values

-- a selector with one colon
one_colon : is_selector (codes "a:") ≡ true
unfolding is_selector
one_colon = refl

-- a plain value has none: it may stand in a line of a schedule
pub plain_free : (v : Value) → IsPlain longest_text v → Without 10 (value_text v)
plain_free v h =
    let free = no_feed Second (lines.Start 1 (codes "a:") (v ∷ [])) (record {
      at_port = (omega arith, omega arith);
      selects = one_colon;
      enough = refl;
      plain = (h, tt);
    }) in
    let values = free_behind (codes "start " ++ decimal 1)
    (32 ∷ (codes "a:" ++ flat_map spaced_value (v ∷ []))) free in
    subst (Without 10) (append-nil (value_text v))
    (free_behind (codes "a:") (flat_map spaced_value (v ∷ [])) values.1).1

-- nor has a value without a list
single_free : (v : Value) → IsSingle v → Without 10 (value_text v)
single_free v (plain h) = plain_free v h
single_free v (object o same h) =
    subst (Without 10) (sym (ap value_text same ∙ value_text-Obj o)) (object_free o h)

-- nor has a list, if its items have none
list_free : (vs : Listed Value) → AllByRecursion (λ v. Without 10 (value_text v)) vs
    → Without 10 (value_text (List vs))
list_free vs h =
    subst (Without 10) (sym (value_text-List vs)) (
      λ (e : 91 ≡ 10). omega arith,
      Without-append 10 (between (map value_text vs)) (93 ∷ []) (items vs h) (
        λ (e : 93 ≡ 10). omega arith,
        tt,
      ),
    )
  where
    more : (vs : Listed Value) → AllByRecursion (λ v. Without 10 (value_text v)) vs
        → Without 10 (spaced (map value_text vs))
    more [] h = tt
    more (v ∷ vs) h = (
      λ (e : 32 ≡ 10). omega arith,
      Without-append 10 (value_text v) (spaced (map value_text vs)) h.0 (more vs h.1),
    )

    items : (vs : Listed Value) → AllByRecursion (λ v. Without 10 (value_text v)) vs
        → Without 10 (between (map value_text vs))
    items [] h = tt
    items (v ∷ vs) h =
        Without-append 10 (value_text v) (spaced (map value_text vs)) h.0 (more vs h.1)

-- no value has one
pub value_free : (room : ℕ) (v : Value) → IsNested room v → Without 10 (value_text v)
value_free zero v h = single_free v h
value_free (suc room) v (inl h) = single_free v h
value_free (suc room) v (inr h) =
    subst (λ w. Without 10 (value_text w)) (sym h.is_list)
    (list_free h.items (all h.items h.each (value_free room)))
  where
    all : (vs : Listed Value) → AllByRecursion (IsNested room) vs
        → ((w : Value) → IsNested room w → Without 10 (value_text w))
        → AllByRecursion (λ w. Without 10 (value_text w)) vs
    all [] p each = tt
    all (w ∷ vs) p each = (each w p.0, all vs p.1 each)
