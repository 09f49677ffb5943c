-- The observers that the calls leave suspended are those that they tell.
use Rattle.std.proofs.Common.{◌≡◌, Bool, true, false, ◌&&◌, List, [], ◌∷◌, ◌++◌, length, nat_lt}
use Rattle.std.proofs.Common.{Option, Some, None, refl, sym, ◌∙◌, ap, nat_le}
use Rattle.std.specs.{Prelude.{if◌then◌else◌, not, ◌||◌}, Option.option_map}
use Rattle.std.proofs.lemmas.Bool.{and_parts, not-true}
use Rattle.do_base.specs.names.Names.{ObjectName}
use Rattle.do_center.specs.Calls.{added, suspended, with_suspended}
use Rattle.do_native_acts.specs.History.{left}
use Rattle.do_center.specs.History.{after, is_suspended}
use Rattle.do_center.specs.Observers.{are_distinct, has_object, same_object, without_object}
use Rattle.do_center.specs.{Posting.{came_to_all, posted_of}, Queues.deliveries, Seats.Core}
use Rattle.do_center.specs.declared.calls.Call.{Call, TheVariants.{Add, Remove, Suspend, Post}}
use Rattle.do_center.specs.declared.{notes.Delivery.Delivery, posting.Posting.Posting}
use Rattle.do_center.specs.declared.registrations.Registration.{Registration}
use Rattle.do_center.proofs.CoreKept.{distinct_left, distinct_pushed, fresh, has_pushed}
use Rattle.do_center.specs.laws.SameObject.{same_is}

-- a registration more leaves those that are suspended
add_same : (c : Core) (r : Registration)
    → (left {Answer = List Delivery} c (option_map (λ d. (d, [])) (added c r))).1 ≡ c.1
add_same c r = by (nat_lt (length c.0) 256)
  where
    none : List Delivery
    none = []

    by : (b : Bool)
        → (left c (option_map (λ d. (d, none))
        (if b then Some (c.0 ++ fresh r ∷ [], c.1) else None))).1 ≡ c.1
    by true = refl
    by false = refl

-- and so does a post
post_same : (c : Core) (p : Posting) → (left c (posted_of c p)).1 ≡ c.1
post_same c p = by (nat_le (length p.due) 1024)
  where
    by : (b : Bool)
        → (left c (if b then Some ((p.seats, c.1), deliveries c.0 p.due) else None)).1 ≡ c.1
    by true = refl
    by false = refl

-- those that are suspended once one more may be
abbrev suspended_with : List ObjectName → Option (List ObjectName) → List ObjectName
suspended_with os None = os
suspended_with os (Some new) = new

-- they are what suspending leaves
suspend_same : (c : Core) (o : ObjectName)
    → (left c (suspended c o true)).1 ≡ suspended_with c.1 (with_suspended c.1 o)
suspend_same c o = by (with_suspended c.1 o)
  where
    none : List Delivery
    none = []

    by : (f : Option (List ObjectName))
        → (left c (option_map (λ os. ((c.0, os), none)) f)).1 ≡ suspended_with c.1 f
    by None = refl
    by (Some os) = refl

-- no suspending leaves an object twice
suspend_distinct : (os : List ObjectName) (o : ObjectName) → are_distinct os ≡ true
    → are_distinct (suspended_with os (with_suspended os o)) ≡ true
suspend_distinct os o distinct = by (has_object os o) (nat_lt (length os) 256) refl
  where
    by : (b c : Bool) → has_object os o ≡ b
        → are_distinct (suspended_with os
        (if b then Some os else if c then Some (os ++ o ∷ []) else None)) ≡ true
    by true c has = distinct
    by false true has = distinct_pushed os o has distinct
    by false false has = distinct

-- no call leaves an object twice
after_distinct : (h : List Call) → are_distinct (after h).1 ≡ true
after_distinct [] = refl
after_distinct (Add r ∷ h) = ap are_distinct (add_same (after h) r) ∙ after_distinct h
after_distinct (Remove o name about ∷ h) = after_distinct h
after_distinct (Suspend o true ∷ h) =
    ap are_distinct (suspend_same (after h) o)
    ∙ suspend_distinct (after h).1 o (after_distinct h)
after_distinct (Suspend o false ∷ h) = distinct_left (after h).1 o (after_distinct h)
after_distinct (Post note immediate ∷ h) =
    let c = after h in
    ap are_distinct (post_same c (came_to_all note immediate c.1 c.0)) ∙ after_distinct h

-- what suspending one leaves of another
suspend_told : (os : List ObjectName) (o x : ObjectName)
    → has_object (suspended_with os (with_suspended os o)) x
    ≡ (has_object os x || (same_object x o && nat_lt (length os) 256))
suspend_told os o x =
    by (has_object os o) (nat_lt (length os) 256) (same_object x o) refl refl
  where
    none : (b : Bool) → b ≡ (b || false)
    none true = refl
    none false = refl

    by : (b c d : Bool) → has_object os o ≡ b → same_object x o ≡ d
        → has_object (suspended_with os
        (if b then Some os else if c then Some (os ++ o ∷ []) else None)) x
        ≡ (has_object os x || (d && c))
    by true c true has same =
        let here = ap (has_object os) (same_is x o same) ∙ has in
        here ∙ sym (ap (λ b. b || c) here)
    by true c false has same = none (has_object os x)
    by false true true has same = has_pushed os o x ∙ ap (λ b. has_object os x || b) same
    by false true false has same = has_pushed os o x ∙ ap (λ b. has_object os x || b) same
    by false false true has same = none (has_object os x)
    by false false false has same = none (has_object os x)

-- what resuming one leaves of another
resume_told : (os : List ObjectName) (o x : ObjectName) → are_distinct os ≡ true
    → has_object (without_object os o) x ≡ (not (same_object x o) && has_object os x)
resume_told [] o x distinct = by (same_object x o)
  where
    by : (b : Bool) → false ≡ (not b && false)
    by true = refl
    by false = refl
resume_told (y ∷ os) o x distinct =
    let parts = and_parts (not (has_object os y)) (are_distinct os) distinct in
    by (same_object o y) (same_object x o) refl refl (not-true (has_object os y) parts.0)
    (resume_told os o x parts.1)
  where
    rest : List ObjectName
    rest = without_object os o

    by : (b c : Bool) → same_object o y ≡ b → same_object x o ≡ c → has_object os y ≡ false
        → has_object rest x ≡ (not (same_object x o) && has_object os x)
        → has_object (if b then os else y ∷ rest) x ≡ (not c && has_object (y ∷ os) x)
    by true true first other alone told =
        ap (has_object os) (same_is x o other ∙ same_is o y first) ∙ alone
    by true false first other alone told =
        sym (ap (λ z. same_object x z || has_object os x) (sym (same_is o y first))
        ∙ ap (λ b. b || has_object os x) other)
    by false true first other alone told =
        ap (λ z. same_object z y || has_object rest x) (same_is x o other)
        ∙ ap (λ b. b || has_object rest x) first
        ∙ told ∙ ap (λ b. not b && has_object os x) other
    by false false first other alone told =
        ap (λ b. same_object x y || b) (told ∙ ap (λ b. not b && has_object os x) other)

-- an observer is suspended after the calls where they tell it
suspended_told : (h : List Call) (o : ObjectName) → has_object (after h).1 o ≡ is_suspended h o
suspended_told [] o = refl
suspended_told (Add r ∷ h) o =
    ap (λ os. has_object os o) (add_same (after h) r) ∙ suspended_told h o
suspended_told (Remove other name about ∷ h) o = suspended_told h o
suspended_told (Suspend other true ∷ h) o =
    ap (λ os. has_object os o) (suspend_same (after h) other)
    ∙ suspend_told (after h).1 other o
    ∙ ap (λ b. b || (same_object o other && nat_lt (length (after h).1) 256))
    (suspended_told h o)
suspended_told (Suspend other false ∷ h) o =
    resume_told (after h).1 other o (after_distinct h)
    ∙ ap (λ b. not (same_object o other) && b) (suspended_told h o)
suspended_told (Post note immediate ∷ h) o =
    let c = after h in
    ap (λ os. has_object os o) (post_same c (came_to_all note immediate c.1 c.0))
    ∙ suspended_told h o

-- and so it is in a core that the calls left
pub core_suspended : (h : List Call) (c : Core) (o : ObjectName) → c ≡ after h
    → has_object c.1 o ≡ is_suspended h o
core_suspended h c o is = ap (λ (d : Core). has_object d.1 o) is ∙ suspended_told h o
