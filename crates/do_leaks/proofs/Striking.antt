-- Taking out what can be reached, one object at a time.
use Rattle.std.proofs.Common.{◌≡◌, List, [], ◌∷◌, ◌++◌, Option, Some, None, refl, ap, ◌∙◌, sym}
use Rattle.std.proofs.Common.{cond, Bool, true, false, ◌||◌, IsSome, inl, inr}
use Rattle.std.{specs.Prelude.is_none, proofs.lemmas.Bool.{cases_Bool, both_ways, cond-false}}
use Rattle.std.proofs.lemmas.Bool.{cond-true, or_cases, or_left, or_right}
use Rattle.do_base.specs.names.Names.{ObjectName}
use Rattle.do_packet.specs.Met.{has_object, same_object}
use Rattle.do_leaks.proofs.Named.{in_either, in_left, in_one, in_right, same_is, same_self}
use Rattle.do_leaks.{proofs.Named.{some_list, some_of}, specs.Reach.AllPass}
use Rattle.do_leaks.specs.Rest.{IsStruck, NamesByObject, PassesOn, is_gone, names_of, or_none}

-- an object waits to be taken out, or is gone
abbrev pub is_pending : List ObjectName → NamesByObject → ObjectName → Bool
is_pending waiting rest o = has_object waiting o || is_gone rest o

-- All that is reached from what is gone waits or is gone.
pub record IsStruckSoFar (first : NamesByObject) (named waiting : List ObjectName)
    (rest : NamesByObject) : Type 0 where
  pub kept : (o : ObjectName) → is_gone rest o ≡ false → names_of rest o ≡ names_of first o
  pub named_pending : AllPass (is_pending waiting rest) named
  pub passed_on : (o : ObjectName) (os : List ObjectName) → names_of first o ≡ Some os →
      is_gone rest o ≡ true → AllPass (is_pending waiting rest) os
  pub smallest : (test : ObjectName → Bool) → AllPass test named → PassesOn first test →
      AllPass test waiting × ((o : ObjectName) → IsSome (names_of first o) →
      is_gone rest o ≡ true → test o ≡ true)

-- before any is taken out, all wait
pub struck_none : (first : NamesByObject) (named : List ObjectName) →
    IsStruckSoFar first named named first
struck_none first named = record {
  kept = λ o h. refl;
  named_pending = λ o h. or_left (has_object named o) (is_gone first o) h;
  passed_on = λ o os e gone. absurd (some_list (names_of first o) os e gone);
  smallest = λ test starts passes. (
    starts,
    λ o there gone.
        let s = some_of (names_of first o) there in
        absurd (some_list (names_of first o) s.0 s.1 gone),
  );
}

-- One more is taken out, and what it names waits.
module _ (first : NamesByObject) (named waiting : List ObjectName) (oid : ObjectName)
    (rest after : NamesByObject)
    (gone : (o : ObjectName) →
    names_of after o ≡ cond (same_object oid o) None (names_of rest o))
    (so_far : IsStruckSoFar first named (waiting ++ oid ∷ []) rest) where
  -- what waits then
  abbrev pub more : List ObjectName
  more = waiting ++ or_none (names_of rest oid)

  -- the object itself is gone
  itself : (o : ObjectName) → same_object oid o ≡ true → is_gone after o ≡ true
  itself o same = ap is_none (gone o ∙ cond-true (same_object oid o) None (names_of rest o) same)

  -- another is gone as before
  others : (o : ObjectName) → same_object oid o ≡ false → names_of after o ≡ names_of rest o
  others o apart = gone o ∙ cond-false (same_object oid o) None (names_of rest o) apart

  -- what was gone stays so
  stays : (o : ObjectName) → is_gone rest o ≡ true → is_gone after o ≡ true
  stays o h = elim (cases_Bool (same_object oid o)) [
    | inl same ↦ itself o same
    | inr apart ↦ ap is_none (others o apart) ∙ h
  ]

  -- what was pending stays so
  still : (o : ObjectName) → is_pending (waiting ++ oid ∷ []) rest o ≡ true →
      is_pending more after o ≡ true
  still o h =
      let late : is_gone after o ≡ true → is_pending more after o ≡ true =
      or_right (has_object more o) (is_gone after o) in
      elim (or_cases (has_object (waiting ++ oid ∷ []) o) (is_gone rest o) h) [
        | inr was ↦ late (stays o was)
        | inl waits ↦ elim (in_either waiting (oid ∷ []) o waits) [
          | inl early ↦ or_left (has_object more o) (is_gone after o)
              (in_left waiting (or_none (names_of rest oid)) o early)
          | inr last ↦ late (itself o (ap (same_object oid) (in_one oid o last) ∙ same_self oid))
        ]
      ]

  -- what is left was left before
  before : (o : ObjectName) → is_gone after o ≡ false →
      (names_of after o ≡ names_of rest o) × (is_gone rest o ≡ false)
  before o h = elim (cases_Bool (same_object oid o)) [
    | inl same ↦ absurd (both_ways (is_gone after o) h (itself o same))
    | inr apart ↦ (others o apart, sym (ap is_none (others o apart)) ∙ h)
  ]

  -- the list of an object that is taken out is the first one
  first_list : (os : List ObjectName) → names_of rest oid ≡ Some os →
      names_of first oid ≡ Some os
  first_list os e = sym (so_far.kept oid (ap is_none e)) ∙ e

  -- what the object's list has waits
  list_waits : (os : List ObjectName) → names_of rest oid ≡ Some os →
      AllPass (is_pending more after) os
  list_waits os e q h = or_left (has_object more q) (is_gone after q)
      (in_right waiting (or_none (names_of rest oid)) q
      (ap (λ x. has_object (or_none x) q) e ∙ h))

  -- what the list of one that is gone has is pending
  passes : (o : ObjectName) (os : List ObjectName) → names_of first o ≡ Some os →
      is_gone after o ≡ true → AllPass (is_pending more after) os
  passes o os e h = elim (cases_Bool (is_gone rest o)) [
    | inl was ↦ λ q in_list. still q (so_far.passed_on o os e was q in_list)
    | inr left ↦ elim (cases_Bool (same_object oid o)) [
      | inr apart ↦ absurd (both_ways (is_gone rest o) left (sym (ap is_none (others o apart)) ∙ h))
      | inl same ↦
          let is : o ≡ oid = sym (same_is oid o same) in
          list_waits os (ap (names_of rest) (sym is) ∙ so_far.kept o left ∙ e)
    ]
  ]

  -- what waits passes each test that the reached pass
  waits_pass : (test : ObjectName → Bool) → PassesOn first test →
      AllPass test (waiting ++ oid ∷ []) → AllPass test more
  waits_pass test passing all q h = elim (in_either waiting (or_none (names_of rest oid)) q h) [
    | inl early ↦ all q (in_left waiting (oid ∷ []) q early)
    | inr late ↦ listed (names_of rest oid) refl late
  ]
    where
      here : test oid ≡ true
      here = all oid (in_right waiting (oid ∷ []) oid
          (or_left (same_object oid oid) false (same_self oid)))

      listed : (x : Option (List ObjectName)) → names_of rest oid ≡ x →
          has_object (or_none x) q ≡ true → test q ≡ true
      listed None e late = absurd (both_ways false refl late)
      listed (Some os) e late = passing oid os (first_list os e) here q late

  pub struck_one : IsStruckSoFar first named more after
  struck_one = record {
    kept = λ o h. let b = before o h in b.0 ∙ so_far.kept o b.1;
    named_pending = λ o h. still o (so_far.named_pending o h);
    passed_on = passes;
    smallest = λ test starts passing.
        let s = so_far.smallest test starts passing in (
          waits_pass test passing s.0,
          λ o there h. elim (cases_Bool (same_object oid o)) [
            | inl same ↦ ap test (sym (same_is oid o same))
                ∙ s.0 oid (in_right waiting (oid ∷ []) oid
                (or_left (same_object oid oid) false (same_self oid)))
            | inr apart ↦ s.1 o there (sym (ap is_none (others o apart)) ∙ h)
          ],
        );
  }

-- once none waits, all that is reached is gone
pub struck_all : (first : NamesByObject) (named : List ObjectName) (rest : NamesByObject) →
    IsStruckSoFar first named [] rest → IsStruck first named rest
struck_all first named rest s = record {
  named_gone = s.named_pending;
  passed_on = λ o os e gone. s.passed_on o os e gone;
  smallest = λ test starts passes. (s.smallest test starts passes).1;
}
