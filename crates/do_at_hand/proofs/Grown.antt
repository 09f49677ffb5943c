-- What a message that is received adds to what a node holds and asks for.
use Rattle.do_behave.specs.declared.invocation.Reason.TheVariants as reasons
use Rattle.std.proofs.Common.{◌≡◌, ◌∙◌, ◌==◌, ◌||◌, ◌⊎◌, ℕ, Bool, true, false, cond, not, List, []}
use Rattle.std.proofs.Common.{◌∷◌, filter, fold, inl, inr, map, refl, sym, ap, subst, arith}
use Rattle.std.specs.{Prelude.{Err, Ok, Result}, List.list_any}
use Rattle.std.proofs.lemmas.{Bool.Decides.nat_tests, List.Sorted.list_any-IsPermutation}
use Rattle.do_base.specs.{names.Names.ObjectName, declared.events.exception.Exc.Exc}
use Rattle.do_base.specs.declared.values.value.Value.{Value}
use Rattle.do_class.specs.declared.{ids.{ClassId.ClassId, MethodId.MethodId}, packet.Name.Name}
use Rattle.do_class.specs.declared.packet.Name.TheVariants.{Lent, Mine, Yours}
use Rattle.do_packet.specs.Met.{has_object, same_object}
use Rattle.do_behave.specs.declared.invocation.Reason.{Reason}
use Rattle.do_machine.specs.declared.{item.Message.Message, node.{Node.Node, Wanted.Wanted}}
use Rattle.do_machine.specs.{Context.Context, Effect.{each, only}}
use Rattle.do_machine.specs.{Items.{is_exported, name_naming, named_as}, Lists.{IsIn, inserted}}
use Rattle.do_machine.specs.{Objects.{joined, object_at}, State.{has_asked, is_open}}
use Rattle.do_machine.specs.lend.Asking.{asking, same_wanted, settling, wanted, wanted_lt}
use Rattle.do_machine.specs.take.{Receipt.receiving_name, Requests.{admission, request}}
use Rattle.do_machine.proofs.{Bools.{or_left, or_right}, Inserting.inserted_moves}
use Rattle.do_facts.proofs.{Chains.{either, is_closed}, links.HeldChanged.held_more}
use Rattle.do_facts.proofs.links.SameIsEqual.{object_itself, wanted_is}
use Rattle.do_facts.proofs.walk.{SmallEffects.settling_node, Takes.admitted}

-- a node that stores, holds and reaches the same, and asks for what it asked for
pub record Grown (n m : Node) : Type 0 where
  pub heap : m.heap ≡ n.heap
  pub held : m.held ≡ n.held
  pub port : m.port ≡ n.port
  pub ends : m.open_to ≡ n.open_to
  pub asked : (o : ObjectName) → has_asked n o ≡ true → has_asked m o ≡ true

-- the node itself
pub same : (n : Node) → Grown n n
same n = record {
  heap = refl;
  held = refl;
  port = refl;
  ends = refl;
  asked = λ o h. h;
}

-- one after another
pub then_grown : (n m l : Node) → Grown n m → Grown m l → Grown n l
then_grown n m l a b = record {
  heap = b.heap ∙ a.heap;
  held = b.held ∙ a.held;
  port = b.port ∙ a.port;
  ends = b.ends ∙ a.ends;
  asked = λ o h. b.asked o (a.asked o h);
}

-- a lend that is over
settles : (w : Wanted) (n : Node) → Grown n (settling w n).node
settles w n = subst (Grown n) (sym (settling_node w n)) (same n)

-- what is asked for, once one more is
asked_now : (w : Wanted) (ws : List Wanted) (o : ObjectName) →
    list_any (λ v. same_object o v.object) (inserted wanted_lt w ws)
    ≡ (same_object o w.object || list_any (λ v. same_object o v.object) ws)
asked_now w ws o =
    sym (list_any-IsPermutation (λ (v : Wanted). same_object o v.object) (w ∷ ws)
    (inserted wanted_lt w ws) (inserted_moves wanted_lt w ws))

-- an object that is asked for
asks : (w : Wanted) (n : Node) → Grown n (asking w n).node
asks w n =
    either (λ e. Grown n e.node) (not (is_open n w.object.node)) (settling w n) _
    (λ _. settles w n)
    (λ _. either (λ e. Grown n e.node) (list_any (same_wanted w) n.asked) (only n) _
    (λ _. same n)
    (λ _. record {
      heap = refl;
      held = refl;
      port = refl;
      ends = refl;
      asked = λ o h. asked_now w n.asked o
          ∙ or_right (same_object o w.object) (has_asked n o) h;
    }))

-- an object that is asked for under a token is asked for
asked_some : (w : Wanted) (ws : List Wanted) → list_any (same_wanted w) ws ≡ true →
    list_any (λ v. same_object w.object v.object) ws ≡ true
asked_some w [] e = e
asked_some w (v ∷ ws) e = grind (arith, nat_tests, e, asked_some w ws)

-- over an open end it is asked for
asked_for : (w : Wanted) (n : Node) → is_open n w.object.node ≡ true →
    has_asked (asking w n).node w.object ≡ true
asked_for w n ends =
    either (λ e. has_asked e.node w.object ≡ true) (not (is_open n w.object.node))
    (settling w n) _ (λ shut. absurd (no ends (is_closed (is_open n w.object.node) shut)))
    (λ _. either (λ e. has_asked e.node w.object ≡ true) (list_any (same_wanted w) n.asked)
    (only n) _ (λ there. asked_some w n.asked there)
    (λ _. asked_now w n.asked w.object
    ∙ or_left (same_object w.object w.object) (has_asked n w.object) (object_itself w.object)))
  where
    no : is_open n w.object.node ≡ true → is_open n w.object.node ≡ false → ⊥
    no x y = cc

module _ (from : ℕ) where
  -- a name that is received
  by_name : (x : Name) (n : Node) → Grown n (receiving_name from x n).node
  by_name (Lent o class token) n = asks (wanted o from token) n
  by_name (Mine s class) n = same n
  by_name (Yours s) n = same n

  -- names that are received
  pub by_names : (xs : List Name) (n : Node) → Grown n (each (receiving_name from) xs n).node
  by_names [] n = same n
  by_names (x ∷ xs) n =
      let m = (receiving_name from x n).node in
      then_grown n m _ (by_name x n) (by_names xs m)

  -- each that is lent, of a home that is reached, is asked for
  pub lent_asked : (o : ObjectName) (class : ClassId) (token : ℕ) (xs : List Name) →
      IsIn xs (Lent o class token) → (n : Node) → is_open n o.node ≡ true →
      has_asked (each (receiving_name from) xs n).node o ≡ true
  lent_asked o class token [] i n ends = absurd i
  lent_asked o class token (x ∷ xs) (inl e) n ends =
      subst (λ y. has_asked (each (receiving_name from) (y ∷ xs) n).node o ≡ true) (sym e)
      ((by_names xs (receiving_name from (Lent o class token) n).node).asked o
      (asked_for (wanted o from token) n ends))
  lent_asked o class token (x ∷ xs) (inr i) n ends =
      lent_asked o class token xs i (receiving_name from x n).node
      (ap (list_any (λ p. p == o.node)) (by_name x n).ends ∙ ends)

-- a request
pub by_request : (c : Context) (from : ℕ) (reason : Reason) (m : Message) (vs : List Value)
    (n : Node) → Grown n (request c from reason m vs n).node
by_request c from reason m vs n = go (admission c from m vs)
  where
    refuses : (e : Exc) (r : Reason) → Grown n (admitted c r m vs n (Err e)).node
    refuses e (reasons.Call peer number) = same n
    refuses e (reasons.Oneway peer) = same n
    refuses e reasons.Local = same n
    refuses e reasons.Start = same n

    go : (r : Result MethodId Exc) → Grown n (admitted c reason m vs n r).node
    go (Err e) = refuses e reason
    go (Ok method) = record {
      heap = refl;
      held = refl;
      port = refl;
      ends = refl;
      asked = λ o h. h;
    }

-- ---- what is held

-- what is held is held with one more
held_joined : (o z : ObjectName) (os : List ObjectName) → has_object os o ≡ true →
    has_object (joined os z) o ≡ true
held_joined o z os h = held_more o.node o.serial z os ∙ grind (arith, h)

-- and so is this one
one_joined : (o z : ObjectName) (os : List ObjectName) → same_object o z ≡ true →
    has_object (joined os z) o ≡ true
one_joined o z os h = held_more o.node o.serial z os ∙ grind (arith, nat_tests, h)

-- what is held is held with more
pub held_still : (o : ObjectName) (more os : List ObjectName) → has_object os o ≡ true →
    has_object (fold joined os more) o ≡ true
held_still o [] os h = h
held_still o (z ∷ more) os h = held_still o more (joined os z) (held_joined o z os h)

-- and so is each of these
pub held_now : (o : ObjectName) (more os : List ObjectName) → has_object more o ≡ true →
    has_object (fold joined os more) o ≡ true
held_now o [] os h = absurd (cc)
held_now o (z ∷ more) os h = go (same_object o z) refl (held_now o more (joined os z)) h
  where
    Now : Type 0
    Now = has_object (fold joined (joined os z) more) o ≡ true

    go : (b : Bool) → same_object o z ≡ b → (has_object more o ≡ true → Now) →
        (b || has_object more o) ≡ true → Now
    go true e rest k = held_still o more (joined os z) (one_joined o z os e)
    go false e rest k = rest k

-- the sender's objects that a message names are exported
pub named_exported : (from to s : ℕ) (class : ClassId) (xs : List Name) →
    IsIn xs (Mine s class) →
    has_object (named_as is_exported (map (name_naming from to) xs)) (object_at from s) ≡ true
named_exported from to s class [] i = absurd i
named_exported from to s class (x ∷ xs) (inl e) =
    subst (λ y. has_object (named_as is_exported (map (name_naming from to) (y ∷ xs)))
    (object_at from s) ≡ true) (sym e)
    (or_left (same_object (object_at from s) (object_at from s))
    (has_object (named_as is_exported (map (name_naming from to) xs)) (object_at from s))
    (object_itself (object_at from s)))
named_exported from to s class (Mine t d ∷ xs) (inr i) =
    or_right (same_object (object_at from s) (object_at from t))
    (has_object (named_as is_exported (map (name_naming from to) xs)) (object_at from s))
    (named_exported from to s class xs i)
named_exported from to s class (Yours t ∷ xs) (inr i) = named_exported from to s class xs i
named_exported from to s class (Lent o d t ∷ xs) (inr i) = named_exported from to s class xs i

-- an object that is asked for is so without one ask, or it is the object of that
pub asked_or : (w : Wanted) (ws : List Wanted) (o : ObjectName) →
    list_any (λ v. same_object o v.object) ws ≡ true →
    (same_object o w.object ≡ true)
    ⊎ (list_any (λ v. same_object o v.object) (filter (λ v. not (same_wanted w v)) ws) ≡ true)
asked_or w [] o h = absurd (cc)
asked_or w (v ∷ ws) o h =
    go (same_object o v.object) (same_wanted w v) refl refl (asked_or w ws o) h
  where
    rest : List Wanted
    rest = filter (λ v. not (same_wanted w v)) ws

    among : List Wanted → Bool
    among vs = list_any (λ v. same_object o v.object) vs

    go : (b d : Bool) → same_object o v.object ≡ b → same_wanted w v ≡ d →
        (among ws ≡ true → (same_object o w.object ≡ true) ⊎ (among rest ≡ true)) →
        (b || among ws) ≡ true →
        (same_object o w.object ≡ true) ⊎ (among (cond (not d) (v ∷ rest) rest) ≡ true)
    go true true e q f k =
        inl (subst (λ (z : Wanted). same_object o z.object ≡ true) (sym (wanted_is w v q)) e)
    go true false e q f k = inr (or_left (same_object o v.object) (among rest) e)
    go false true e q f k = f k
    go false false e q f k = elim (f k) [
      | inl a ↦ inl a
      | inr b ↦ inr (or_right (same_object o v.object) (among rest) b)
    ]
