-- What a node frees and leaves, from its parts.
use Rattle.std.proofs.Common.{[], ◌∷◌, refl, ◌∙◌, arith, ◌≡◌, ◌++◌, ℕ, Bool, true, false, List}
use Rattle.std.proofs.{Common.{filter, map, not, ◌==◌, ap, sym}, lemmas.Bool.eq-eqb}
use Rattle.std.proofs.lemmas.{Grind.common_steps, List.{append-nil, Elements.filter_agree}}
use Rattle.std.specs.{Prelude.◌||◌, List.{list_all, list_any}}
use Rattle.do_base.specs.{names.Names.ObjectName, declared.events.shown.Shown.Shown}
use Rattle.do_base.specs.declared.events.shown.Shown.TheVariants.{Free}
use Rattle.do_packet.specs.Met.{has_object}
use Rattle.do_machine.specs.declared.{node.{Node.Node, Stored.Stored}, state.State.State}
use Rattle.do_machine.specs.{declared.state.Effect.Effect, Effect.only, Objects.object_at}
use Rattle.do_machine.specs.{State.own, held.{Kept.kept, Leaving.freeing, Refers.stack_objects}}
use Rattle.do_rules.proofs.HeldUp.{all_kept}
use Rattle.do_rules.specs.{Doing.and_then, HeldUp.stays_by, Judged.entry_in}

-- the objects that are not in a heap any more, as they are shown
abbrev pub freed_lines : ℕ → List Stored → List Stored → List Shown
freed_lines port before heap =
    map (λ x. Free (object_at port x.serial))
    (filter (λ x. not (list_any (λ y. y.serial == x.serial) heap)) before)

-- a name is among those of stored objects where its serial is stored
names_any : (port serial : ℕ) (heap : List Stored) →
    has_object (map (λ x. object_at port x.serial) heap) (object_at port serial)
    ≡ list_any (λ y. y.serial == serial) heap
names_any port serial [] = refl
names_any port serial (x ∷ xs) =
    let rest = names_any port serial xs in
    grind (arith, common_steps, rest)

-- so what is freed are the objects whose serials are not stored
pub freed_is : (port : ℕ) (before heap : List Stored) (left : List ObjectName)
    (shown lines : List Shown) → left ≡ map (λ x. object_at port x.serial) heap →
    lines ≡ shown ++ map (λ x. Free (object_at port x.serial))
    (filter (λ x. not (has_object left (object_at port x.serial))) before) →
    lines ≡ shown ++ freed_lines port before heap
freed_is port before heap left shown lines names is =
    is ∙ ap (λ xs. shown ++ map (λ x. Free (object_at port x.serial)) xs)
    (filter_agree (λ x. not (has_object left (object_at port x.serial)))
    (λ x. not (list_any (λ y. y.serial == x.serial) heap))
    (λ x. ap (λ os. not (has_object os (object_at port x.serial))) names
    ∙ ap (λ b. not b) (names_any port x.serial heap)) before)

-- what holds on the right holds of both
or_right : (a b : Bool) → b ≡ true → (a || b) ≡ true
or_right true b h = refl
or_right false b h = h

-- of objects that are all stored none is freed
none_freed : (xs heap : List Stored) →
    ((y : Stored) → list_any (λ x. x.serial == y.serial) xs ≡ true →
    list_any (λ x. x.serial == y.serial) heap ≡ true) →
    filter (λ y. not (list_any (λ x. x.serial == y.serial) heap)) xs ≡ []
none_freed [] heap all = refl
none_freed (x ∷ xs) heap all =
    let here : list_any (λ y. y.serial == x.serial) heap ≡ true =
    all x (ap (λ b. b || list_any (λ y. y.serial == x.serial) xs)
    (eq-eqb x.serial x.serial refl)) in
    rw here (none_freed xs heap (λ y h. all y (or_right _ _ h)))

-- where each object stays even with no entry, a node frees nothing
pub frees_nothing : (S : State) (e : Effect) →
    list_all (stays_by (stack_objects e.node.stack) e.node e.node.heap) e.node.heap ≡ true →
    e ≡ and_then e (λ n. freeing (kept (entry_in S n) n) n)
frees_nothing S e all =
    let none : only e.node ≡ freeing (kept (entry_in S e.node) e.node) e.node =
    same_only e.node ∙ ap (λ heap. freeing heap e.node) (all_kept S e.node all) in
    keeps ∙ ap (λ d. and_then e (λ n. d)) none
  where
    same_only : (n : Node) → only n ≡ freeing n.heap n
    same_only n =
        ap (λ xs. record (only n) { shown = map (λ x. Free (own n x.serial)) xs })
        (sym (none_freed n.heap n.heap (λ y h. h)))

    keeps : e ≡ and_then e only
    keeps = rw (append-nil e.sent, append-nil e.shown) refl

pub ruleset whole_steps = (frees_nothing)
