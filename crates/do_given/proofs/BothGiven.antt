-- What two words give, of which the second is read only where the first gives something.
use Rattle.std.proofs.Common.{◌≤◌, ◌⊎◌, ℕ, List, Option, Ok, Err, inl, inr, arith, sym}
use Rattle.std.proofs.Math.Path.{ap₂}
use Rattle.do_base.specs.{outside.Causes.Rose, declared.outside.shelf.NamedFile.NamedFile}
use Rattle.do_given.specs.{declared.status.Status.Status, Files.IsUnread}
use Rattle.do_given.specs.Reading.{OrUnread, RefusesSecond, Stops}
use Rattle.do_given.proofs.{FilesTold.{no_err, read_is}, Stopping.{give_any, must_be, stops_as}}

-- a count that rose in a part of a call rose in the whole
rose_earlier : (before mid now : ℕ) → before ≤ mid → Rose mid now → Rose before now
rose_earlier before mid now le rose = omega (arith, rose, le)

-- a file that a part of a call could not read, the whole could not read
pub unread_earlier : (told : Option (List NamedFile)) (before mid now : ℕ) (name : List ℕ)
    → before ≤ mid → IsUnread told mid now name → IsUnread told before now name
unread_earlier told before mid now name le (inl rose) = inl (rose_earlier before mid now le rose)
unread_earlier told before mid now name le (inr none) = inr none

module _ {A : Type 0} (gives : A → Type 0) (refuses refuses_second : Status → Type 0)
    (unread : Type 0) where
  -- what stops the first stops both
  pub first_stops : (unread_second : Type 0) (status : Status) → Stops unread ⊥ refuses status
      → Stops (unread ⊎ unread_second) ⊥
      (λ st. refuses st ⊎ RefusesSecond gives refuses_second st) status
  first_stops unread_second status stopped = stops_as
      {u = unread} {v = unread ⊎ unread_second} {f = ⊥} {g = ⊥}
      {r = refuses} {s = λ st. refuses st ⊎ RefusesSecond gives refuses_second st}
      (λ it. inl it) (λ none. none) (λ st none. inl none) status stopped

  -- so does what stops the second, where the first gave something
  pub second_stops : (told : Option (List NamedFile)) (before mid now : ℕ) (name : List ℕ)
      (first : A) (status : Status) → before ≤ mid → gives first
      → Stops (IsUnread told mid now name) ⊥ refuses_second status
      → Stops (unread ⊎ IsUnread told before now name) ⊥
      (λ st. refuses st ⊎ RefusesSecond gives refuses_second st) status
  second_stops told before mid now name first status le given stopped = stops_as
      {u = IsUnread told mid now name} {v = unread ⊎ IsUnread told before now name}
      {f = ⊥} {g = ⊥} {r = refuses_second}
      {s = λ st. refuses st ⊎ RefusesSecond gives refuses_second st}
      (λ it. inr (unread_earlier told before mid now name le it)) (λ none. none)
      (λ st none. inr (record { first = first; given = given; refused = none })) status stopped

module _ {A : Type 0} (gives : A → Type 0) (refuses refuses_second : Status → Type 0) where
  -- where the first gave nothing, a refusal is answered that must be
  pub refuses_first : {C : Type 0} (status : Status)
      → ((st : Status) → refuses st → OrUnread {A = A} (Err st) (Err status))
      → ((x : A) → gives x → OrUnread (Ok x) (Err status))
      → (st : Status) → refuses st ⊎ RefusesSecond gives refuses_second st
      → OrUnread {A = C} (Err st) (Err status)
  refuses_first status refused accepts st (inl none) = must_be st status (refused st none)
  refuses_first status refused accepts st (inr second) =
      give_any second.first (Err st) status (accepts second.first second.given)

  -- where the first gave something, a refusal is that of the second
  pub refuses_behind : (first : A) (wanted : Type 0) (st : Status)
      → (refuses st → OrUnread (Err st) (Ok first)) → (refuses_second st → wanted)
      → refuses st ⊎ RefusesSecond gives refuses_second st → wanted
  refuses_behind first wanted st refused goes (inl none) =
      absurd (no_err first st (refused none))
  refuses_behind first wanted st refused goes (inr second) = goes second.refused

-- what must be given is made of what was read
pub given_is_read : {A B C : Type 0} (make : A → B → C) (first x : A) (second y : B)
    → OrUnread (Ok x) (Ok first) → OrUnread (Ok y) (Ok second)
    → OrUnread (Ok (make x y)) (Ok (make first second))
given_is_read make first x second y one two =
    inl (sym (ap₂ (λ a b. Ok (make a b)) (read_is first x one) (read_is second y two)))
