-- Lines that show something are read exactly.
use Rattle.do_base.specs.declared.events.shown.Shown.TheVariants as shown
use Rattle.std.proofs.Common.{◌≡◌, ℕ, Bool, true, false, cond, eqb, List as Listed, ◌∷◌, ◌++◌}
use Rattle.std.proofs.Common.{Option, Some, None, refl, sym, ap, ◌∙◌, arith}
use Rattle.std.specs.{Prelude.{◌||◌, codes}, Fmt.decimal, Str.bytes_eq}
use Rattle.std.proofs.lemmas.Bool.{eq-eqb, eqb-true}
use Rattle.do_base.specs.declared.{events.shown.Shown.Shown, values.value.Value.Value}
use Rattle.do_grammar.{specs.Words.word, proofs.texts.DecExact.cond_some}
use Rattle.do_grammar.proofs.texts.{WordBytes.{chain_some, some_is}, WordExact.word_takes}
use Rattle.do_lines.specs.Shown.{exception_text, shown_text}
use Rattle.do_sched.specs.{Good.IsPort, Reading.port_at, Value.value_text}
use Rattle.do_record.specs.{GoodShown.{IsNested, IsShown}, Shown.{behind_own, behind_port}}
use Rattle.do_record.specs.Shown.{is_exception, is_of_port, is_shown, is_shown_by, is_took}
use Rattle.do_record.specs.{Shown.passes_there, Value.{deepest, is_object, is_value}}
use Rattle.do_record.proofs.lines.ExceptionsExact.{exception_again, exception_takes}
use Rattle.do_record.proofs.lines.{ItemsExact.{item_again, item_takes}, WordChoice.either}
use Rattle.do_record.proofs.{lines.WordChoice.first_word, values.ObjectsExact.object_again}
use Rattle.do_record.proofs.values.ObjectsExact.{object_takes, port_again, port_takes, port_word}
use Rattle.do_record.proofs.values.{ValueGiven.value_again, ValueTaken.value_takes}

-- what a node of the port shows by a line
pub record IsShownLine (port : ℕ) (t : Listed ℕ) : Type 0 where
  pub what : Shown
  pub spelled : t ≡ shown_text port what
  pub good : IsShown what

-- what passes a test behind the node's port stands behind it
port_takes_rest : (port : ℕ) (test : Listed ℕ → Bool) (bytes : Listed ℕ)
    → is_of_port port test bytes ≡ true
    → (rest : Listed ℕ) × (bytes ≡ decimal port ++ 32 ∷ rest) × (test rest ≡ true)
port_takes_rest port test bytes h = go (behind_port port bytes) refl h
  where
    own : (w : Listed ℕ × Listed ℕ) (o : Option ℕ) (rest : Listed ℕ) → port_at w.0 ≡ o
        → behind_own port o w.1 ≡ Some rest → (w.0 ≡ decimal port) × (w.1 ≡ rest)
    own w None rest p q = absurd cc
    own w (Some n) rest p q =
        let c = cond_some (eqb n port) (Some w.1) rest q in (
          (port_takes w.0 n p).0 ∙ ap decimal (eqb-true n port c.0),
          some_is w.1 rest c.1,
        )

    go : (o : Option (Listed ℕ)) → behind_port port bytes ≡ o → passes_there test o ≡ true
        → (rest : Listed ℕ) × (bytes ≡ decimal port ++ 32 ∷ rest) × (test rest ≡ true)
    go None p q = absurd cc
    go (Some rest) p q =
        let a = chain_some (word 32 bytes) (λ w. behind_own port (port_at w.0) w.1) rest p in
        let o = own a.0 (port_at a.0.0) rest refl a.2 in (
          rest,
          word_takes 32 bytes a.0 a.1 ∙ ap (λ w. w ++ 32 ∷ a.0.1) o.0
              ∙ ap (λ w. decimal port ++ 32 ∷ w) o.1,
          q,
        )

-- what stands behind the node's port is tested
port_again_rest : (port : ℕ) (test : Listed ℕ → Bool) (rest : Listed ℕ) → IsPort port
    → test rest ≡ true → is_of_port port test (decimal port ++ 32 ∷ rest) ≡ true
port_again_rest port test rest h e =
    rw (port_word 32 port rest (omega arith) h, port_again port h, eq-eqb port port refl) e

-- what is read as a line by its words is one
line_by : (port : ℕ) (t : Listed ℕ) (w : Listed ℕ × Listed ℕ) → word 32 t ≡ Some w
    → is_shown_by port (Some w) ≡ true → IsShownLine port t
line_by port t w p h = by_took (bytes_eq w.0 (codes "took")) refl h
  where
    says : Bool
    says = bytes_eq w.0 (codes "say") || bytes_eq w.0 (codes "return")

    raises : Bool
    raises = bytes_eq w.0 (codes "raise")

    by_raise : (b : Bool) → raises ≡ b → cond b (is_of_port port is_exception w.1) false ≡ true
        → IsShownLine port t
    by_raise true e q =
        let r = port_takes_rest port is_exception w.1 q in
        let x = exception_takes r.0 r.2 in
        record {
          what = shown.Raise x.raised;
          spelled = first_word (codes "raise") t w p e ∙ ap (λ u. codes "raise " ++ u) r.1
              ∙ ap (λ u. codes "raise " ++ decimal port ++ 32 ∷ u) x.spelled;
          good = x.good;
        }
    by_raise false e q = absurd cc

    valued : (first : Listed ℕ) (make : Value → Shown)
        → ((v : Value)
        → shown_text port (make v) ≡ first ++ 32 ∷ (decimal port ++ 32 ∷ value_text v))
        → ((v : Value) → IsNested deepest v → IsShown (make v)) → bytes_eq w.0 first ≡ true
        → is_of_port port is_value w.1 ≡ true → IsShownLine port t
    valued first make text good e q =
        let r = port_takes_rest port is_value w.1 q in
        let v = value_takes r.0 r.2 in
        record {
          what = make v.value;
          spelled = first_word first t w p e ∙ ap (λ u. first ++ 32 ∷ u) (r.1
              ∙ ap (λ u. decimal port ++ 32 ∷ u) v.spelled) ∙ sym (text v.value);
          good = good v.value v.good;
        }

    by_say : (b : Bool) → says ≡ b
        → cond b (is_of_port port is_value w.1) (cond raises (is_of_port port is_exception w.1)
        false) ≡ true → IsShownLine port t
    by_say true e q =
        either _ _ e
        (λ e. valued (codes "say") (λ v. shown.Say v) (λ v. refl) (λ v h. h) e q)
        (λ e. valued (codes "return") (λ v. shown.Return v) (λ v. refl) (λ v h. h) e q)
    by_say false e q = by_raise raises refl q

    by_free : (b : Bool) → bytes_eq w.0 (codes "free") ≡ b
        → cond b (is_object w.1) (cond says (is_of_port port is_value w.1)
        (cond raises (is_of_port port is_exception w.1) false)) ≡ true → IsShownLine port t
    by_free true e q =
        let n = object_takes w.1 q in
        record {
          what = shown.Free n.named;
          spelled = first_word (codes "free") t w p e ∙ ap (λ u. codes "free " ++ u) n.spelled;
          good = n.good;
        }
    by_free false e q = by_say says refl q

    by_took : (b : Bool) → bytes_eq w.0 (codes "took") ≡ b
        → cond b (is_took w.1) (cond (bytes_eq w.0 (codes "free")) (is_object w.1)
        (cond says (is_of_port port is_value w.1)
        (cond raises (is_of_port port is_exception w.1) false))) ≡ true → IsShownLine port t
    by_took true e q =
        let i = item_takes w.1 q in
        record {
          what = shown.Took i.item;
          spelled = first_word (codes "took") t w p e ∙ ap (λ u. codes "took " ++ u) i.spelled;
          good = i.good;
        }
    by_took false e q = by_free (bytes_eq w.0 (codes "free")) refl q

-- what is read as a line that shows something is one
pub shown_takes : (port : ℕ) (t : Listed ℕ) → is_shown port t ≡ true → IsShownLine port t
shown_takes port t h = go (word 32 t) refl h
  where
    go : (o : Option (Listed ℕ × Listed ℕ)) → word 32 t ≡ o → is_shown_by port o ≡ true
        → IsShownLine port t
    go None p q = absurd cc
    go (Some w) p q = line_by port t w p q

-- what a node shows is read from its line
pub shown_again : (port : ℕ) (s : Shown) → IsPort port → IsShown s
    → is_shown port (shown_text port s) ≡ true
shown_again port (shown.Took item) h good = item_again item good
shown_again port (shown.Say v) h good =
    port_again_rest port is_value (value_text v) h (value_again v good)
shown_again port (shown.Return v) h good =
    port_again_rest port is_value (value_text v) h (value_again v good)
shown_again port (shown.Raise e) h good =
    port_again_rest port is_exception (exception_text e) h (exception_again e good)
shown_again port (shown.Free o) h good = object_again o good
