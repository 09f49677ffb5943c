-- A checker names only what was shown, and answers well where its rules are rules; it sends to its
-- target alone, and only what a rule allows.
use Rattle.std.proofs.Common.{◌≡◌, ℕ, suc, ◌≤◌, List as Listed, [], ◌∷◌, length, Option, Some, None}
use Rattle.std.{proofs.Common.{refl, ap, ◌∙◌, subst, arith, IsTrue}, specs.Prelude.codes}
use Rattle.std.{specs.{List.All, Option.IfSome, Str.bytes_eq}, proofs.lemmas.List.Elements.All-nil}
use Rattle.std.proofs.lemmas.List.{Elements.{All-cons, All-head}, FromFn.length-range_with_len}
use Rattle.do_base.specs.{values.Texts.longest_text, declared.values.value.Value.Value}
use Rattle.do_class.specs.Class.{Class}
use Rattle.do_grammar.specs.{Names.{is_selector, colons}, Words.◌>>?◌}
use Rattle.do_behave.specs.{Answers.{AnswersWell, NamesShown}, Ready.IsReady}
use Rattle.do_behave.specs.{Steps.{local, local_values}, declared.invocation.Invocation.Invocation}
use Rattle.do_behave.specs.{declared.act.Act.TheVariants.Send, laws.Sound.get_kept}
use Rattle.do_native_acts.specs.laws.GoodActs.{IsGood, MayGood, kept_good, then_good, choice_good}
use Rattle.do_native_acts.specs.laws.GoodActs.{places_good, returns_good, selector_good}
use Rattle.do_native_acts.specs.laws.KindLaws.{some_same}
use Rattle.do_check.specs.Acts.{target_in, firsts, passes_on, forward_places, forwards, guards}
use Rattle.do_check.specs.Acts.{follows, checks, check_act}
use Rattle.do_check.specs.{Rules.{IsVerdict, AreRules, verdict_of}, declared.rules.Rule.Rule}
use Rattle.do_check.specs.declared.rules.Verdict.{Verdict, TheVariants.{Forward, Deny}}
use Rattle.do_check.specs.laws.FirstLocals.{few_colons, firsts_are_locals}
use Rattle.do_check.specs.laws.{GuardGood.{raises_good, guards_good}, RuleFound.verdict_found}

-- what holds of every local holds of what several hold, and there is a value for each
each_local : (inv : Invocation) (Q : Value → Type 0) → All Q inv.locals → (from : Listed ℕ)
    → IfSome (local_values inv from) (λ vs. All Q vs × (length vs ≡ length from))
each_local inv Q all [] = (All-nil Q, refl)
each_local inv Q all (k ∷ ks) =
    one_more (local inv k) (local_values inv ks) (get_kept Q inv.locals k all)
    (each_local inv Q all ks)
  where
    one_more : (o : Option Value) (p : Option (Listed Value)) → IfSome o Q
        → IfSome p (λ vs. All Q vs × (length vs ≡ length ks))
        → IfSome (o >>? λ v. p >>? λ vs. Some (v ∷ vs))
        (λ vs. All Q vs × (length vs ≡ suc (length ks)))
    one_more None p q rest = tt
    one_more (Some v) None q rest = tt
    one_more (Some v) (Some vs) q rest = (All-cons Q v vs q rest.0, ap suc rest.1)

-- what holds of an answer holds of what is found
of_found : {A : Type 0} (P : A → Type 0) (o : Option A) (x : A) → IfSome o P → o ≡ Some x → P x
of_found P None x p is = cc
of_found P (Some y) x p is = subst P (some_same is) p

-- what holds of all slots holds of the target
target_kept : (Q : Value → Type 0) (vs : Listed Value) (target : Value) → All Q vs
    → target_in vs ≡ Some target → Q target
target_kept Q [] target all is = cc
target_kept Q (v ∷ []) target all is = subst Q (some_same is) (All-head Q v [] all)
target_kept Q (v ∷ w ∷ vs) target all is = cc

module _ (made : Type 0) (table : Listed Class) (inv : Invocation) (slots : Listed Value) where
  module _ (selector : Listed ℕ) (is : made → IsTrue (is_selector selector)) where
    -- the locals of the arguments
    abbrev from : Listed ℕ
    from = firsts (colons selector)

    -- there is one for each colon
    arg_count : length from ≡ colons selector
    arg_count = length-range_with_len 0 (colons selector)

    -- the message to the target is good
    sent_good : (target : Value) (args : Listed Value) → target_in slots ≡ Some target
        → local_values inv from ≡ Some args
        → IsGood made table inv slots (Send target selector args 14 from 1)
    sent_good target args there held =
        kept_good made table inv slots (Send target selector args 14 from 1)
        (λ Q T L R is_made kept all of_slots.
        let values =
        of_found (λ vs. All Q vs × (length vs ≡ length from)) (local_values inv from) args
        (each_local inv Q all from) held in
        record {
          values = All-cons Q target args (target_kept Q slots target of_slots there) values.0;
          locals = tt;
          range = λ r.
              let selects = is (is_made r) in (
                selects,
                values.1 ∙ arg_count,
                arg_count,
                omega arith,
                firsts_are_locals (colons selector) (few_colons selector selects),
              );
          raises = tt;
        })

    -- passing a message on is good
    passes_good : MayGood made table inv slots (passes_on inv slots selector)
    passes_good =
        then_good made table inv slots (target_in slots)
        (λ target. local_values inv from >>? λ args. Some (Send target selector args 14 from 1))
        (λ target there. then_good made table inv slots (local_values inv from)
        (λ args. Some (Send target selector args 14 from 1))
        (λ args held. sent_good target args there held))

    -- each act of a method that is allowed is good
    pub forwards_good : MayGood made table inv slots (forwards inv slots selector)
    forwards_good =
        places_good made table inv slots (forward_places inv slots selector)
        (passes_good, (returns_good made table inv slots, tt))

  -- what follows from a verdict is good
  pub follows_good : (selector : Listed ℕ) (v : Verdict)
      → (made → IsTrue (is_selector selector) × IsVerdict v)
      → MayGood made table inv slots (follows inv slots selector v)
  follows_good selector Forward known = forwards_good selector (λ is_made. (known is_made).0)
  follows_good selector (Deny text) known =
      raises_good made table inv slots text (λ is_made. short (known is_made).1)
    where
      short : length text ≤ 255 → length text ≤ longest_text
      short h = omega (arith, h)

-- each act of a checker is good
check_good : (rules : Listed Rule) (table : Listed Class) (inv : Invocation) (slots : Listed Value)
    → IsGood (AreRules rules) table inv slots (check_act rules table inv slots)
check_good rules table inv slots =
    selector_good (AreRules rules) table inv slots (checks rules inv slots)
    (λ sixteen selector _. choice_good (AreRules rules) table inv slots
    (bytes_eq selector (codes "guard:")) (guards inv slots)
    (verdict_of rules selector >>? follows inv slots selector)
    (guards_good (AreRules rules) table inv slots sixteen)
    (then_good (AreRules rules) table inv slots (verdict_of rules selector)
    (follows inv slots selector)
    (λ v found. follows_good (AreRules rules) table inv slots selector v
    (verdict_found rules selector v found))))

-- an act of a checker names only what was shown
pub check_names_shown : (rules : Listed Rule) (table : Listed Class) (inv : Invocation)
    (slots : Listed Value) → NamesShown inv slots (check_act rules table inv slots)
check_names_shown rules table inv slots = (check_good rules table inv slots).shown

-- a checker whose rules are rules answers well
pub check_answers_well : (rules : Listed Rule) (table : Listed Class) (inv : Invocation)
    (slots : Listed Value) → AreRules rules → IsReady table inv slots
    → AnswersWell table inv slots (check_act rules table inv slots)
check_answers_well rules table inv slots = (check_good rules table inv slots).well
