-- What is taken is read exactly.
use Rattle.do_base.specs.declared.events.shown.Took.TheVariants as took
use Rattle.std.proofs.Common.{◌≡◌, ℕ, Bool, true, false, cond, List as Listed, ◌∷◌, ◌++◌, Option}
use Rattle.std.proofs.Common.{Some, None, refl, sym, ap, ◌∙◌}
use Rattle.std.specs.{Prelude.{◌||◌, codes}, Str.bytes_eq}
use Rattle.do_base.specs.{declared.events.shown.Took.Took, names.Names.ObjectName}
use Rattle.do_grammar.specs.{Names.is_selector, Words.word}
use Rattle.do_lines.specs.Shown.{took_text}
use Rattle.do_sched.specs.Value.{object_name}
use Rattle.do_record.specs.{GoodShown.{IsObject, IsTook}, Shown.{is_exception, is_long_took}}
use Rattle.do_record.specs.{Shown.{is_plain_took, is_took, is_took_by}, Value.is_object}
use Rattle.do_record.proofs.lines.ExceptionsExact.{exception_again, exception_takes}
use Rattle.do_record.proofs.lines.WordChoice.{either, first_word, same_text}
use Rattle.do_record.proofs.values.ObjectsExact.{object_again, object_takes}

-- the item that a text names
pub record IsTookText (t : Listed ℕ) : Type 0 where
  pub item : Took
  pub spelled : t ≡ took_text item
  pub good : IsTook item

-- what is read as an item of one word is one
plain_item : (t : Listed ℕ) → is_plain_took t ≡ true → IsTookText t
plain_item t h =
    either _ _ h (λ h. either _ _ h (λ h. either _ _ h (λ h. either _ _ h
    (λ h. record { item = took.Reply; spelled = same_text t (codes "reply") h; good = tt })
    (λ h. record { item = took.RootAsk; spelled = same_text t (codes "rootask") h; good = tt }))
    (λ h. record { item = took.RootAnswer; spelled = same_text t _ h; good = tt }))
    (λ h. record { item = took.Settled; spelled = same_text t _ h; good = tt }))
    (λ h. record { item = took.End; spelled = same_text t _ h; good = tt })

-- what is read as an item of two words is one
long_item : (t : Listed ℕ) (w : Listed ℕ × Listed ℕ) → word 32 t ≡ Some w
    → is_long_took w.0 w.1 ≡ true → IsTookText t
long_item t w p h = by_call (is_call || is_oneway) refl h
  where
    is_call : Bool
    is_call = bytes_eq w.0 (codes "call")

    is_oneway : Bool
    is_oneway = bytes_eq w.0 (codes "oneway")

    with_object : Bool
    with_object =
        bytes_eq w.0 (codes "ask") || bytes_eq w.0 (codes "granted") || bytes_eq w.0 (codes "gone")
        || bytes_eq w.0 (codes "left")

    named : (first : Listed ℕ) (make : ObjectName → Took)
        → ((o : ObjectName) → took_text (make o) ≡ first ++ 32 ∷ object_name o)
        → ((o : ObjectName) → IsObject o → IsTook (make o)) → bytes_eq w.0 first ≡ true
        → is_object w.1 ≡ true → IsTookText t
    named first make text good is_first is_object =
        let n = object_takes w.1 is_object in
        record {
          item = make n.named;
          spelled = first_word first t w p is_first ∙ ap (λ u. first ++ 32 ∷ u) n.spelled
              ∙ sym (text n.named);
          good = good n.named n.good;
        }

    by_object : (b : Bool) → with_object ≡ b → cond b (is_object w.1) false ≡ true → IsTookText t
    by_object true e q =
        either _ _ e (λ e. either _ _ e (λ e. either _ _ e
        (λ e. named (codes "ask") (λ o. took.Ask o) (λ o. refl) (λ o h. h) e q)
        (λ e. named (codes "granted") (λ o. took.Granted o) (λ o. refl) (λ o h. h) e q))
        (λ e. named (codes "gone") (λ o. took.Gone o) (λ o. refl) (λ o h. h) e q))
        (λ e. named (codes "left") (λ o. took.Left o) (λ o. refl) (λ o h. h) e q)
    by_object false e q = absurd cc

    by_raised : (b : Bool) → bytes_eq w.0 (codes "raised") ≡ b
        → cond b (is_exception w.1) (cond with_object (is_object w.1) false) ≡ true → IsTookText t
    by_raised true e q =
        let x = exception_takes w.1 q in
        record {
          item = took.Raised x.raised;
          spelled = first_word (codes "raised") t w p e ∙ ap (λ u. codes "raised " ++ u) x.spelled;
          good = x.good;
        }
    by_raised false e q = by_object with_object refl q

    by_call : (b : Bool) → (is_call || is_oneway) ≡ b
        → cond b (is_selector w.1) (cond (bytes_eq w.0 (codes "raised")) (is_exception w.1)
        (cond with_object (is_object w.1) false)) ≡ true → IsTookText t
    by_call true e q =
        either _ _ e
        (λ e. record {
          item = took.Call w.1;
          spelled = first_word (codes "call") t w p e;
          good = q;
        })
        (λ e. record {
          item = took.Oneway w.1;
          spelled = first_word (codes "oneway") t w p e;
          good = q;
        })
    by_call false e q = by_raised (bytes_eq w.0 (codes "raised")) refl q

-- what is read as an item is one
pub item_takes : (t : Listed ℕ) → is_took t ≡ true → IsTookText t
item_takes t h = go (word 32 t) refl h
  where
    go : (o : Option (Listed ℕ × Listed ℕ)) → word 32 t ≡ o → is_took_by t o ≡ true → IsTookText t
    go None p q = plain_item t q
    go (Some w) p q = long_item t w p q

-- an item is read
pub item_again : (item : Took) → IsTook item → is_took (took_text item) ≡ true
item_again (took.Call selector) h = h
item_again (took.Oneway selector) h = h
item_again took.Reply h = refl
item_again (took.Raised e) h = exception_again e h
item_again took.RootAsk h = refl
item_again took.RootAnswer h = refl
item_again (took.Ask o) h = object_again o h
item_again (took.Granted o) h = object_again o h
item_again (took.Gone o) h = object_again o h
item_again (took.Left o) h = object_again o h
item_again took.Settled h = refl
item_again took.End h = refl
