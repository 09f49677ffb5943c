-- A world that a word gives, and its node of a port.
use Rattle.std.proofs.Common.{◌≡◌, ◌⊎◌, ℕ, List, None, Some, Ok, Err, inl, inr, ap, sym, subst}
use Rattle.std.proofs.Common.{codes, ◌∙◌, refl}
use Rattle.do_base.specs.declared.outside.shelf.NamedFile.{NamedFile}
use Rattle.do_document.specs.declared.fault.WorldFault.TheVariants.{Wrong}
use Rattle.do_machine.specs.declared.state.Seat.{Seat}
use Rattle.do_world.specs.declared.world.World.{World}
use Rattle.do_given.specs.declared.{seated.Seated.Seated, status.Status.Status}
use Rattle.do_given.specs.declared.status.Status.TheVariants.{BadWorld, Memory}
use Rattle.do_given.specs.Reading.{GivesWorld, OrUnread, RefusesWorld}
use Rattle.do_given.specs.Serving.{GivesSeat, RefusesSeat, seat_at}
use Rattle.do_given.proofs.{FilesTold.{no_err, read_is}, Stopping.{give_any, must_be}}

module _ (files : List NamedFile) (port : ℕ) (word : List ℕ) where
  -- where no world was read, a refusal is answered that must be
  pub seat_refused : (status : Status)
      → ((st : Status) → RefusesWorld (Some files) word st
      → OrUnread {A = World} (Err st) (Err status))
      → ((w : World) → GivesWorld (Some files) word w → OrUnread (Ok w) (Err status))
      → (st : Status) → RefusesSeat (Some files) port word st
      → OrUnread {A = Seated} (Err st) (Err status)
  seat_refused status refused accepts st (inl none) = must_be st status (refused st none)
  seat_refused status refused accepts st (inr lacks) =
      give_any lacks.world (Err st) status (accepts lacks.world lacks.gives)

  module _ (read : World)
      (accepts : (w : World) → GivesWorld (Some files) word w → OrUnread (Ok w) (Ok read)) where
    -- a world that is given with a node is the one that was read
    given_world : (given : Seated) → GivesSeat (Some files) port word given
        → given.world ≡ read
    given_world given gives = read_is read given.world (accepts given.world gives.gives)

    -- a world that was read and lacks the node is given with none
    pub lacking_gives : seat_at read port ≡ None → (given : Seated)
        → GivesSeat (Some files) port word given → ⊥
    lacking_gives lacks given gives =
        let there : seat_at read port ≡ Some given.seat =
        subst (λ w. seat_at w port ≡ Some given.seat) (given_world given gives) gives.seated in
        cc

    -- it is refused as wrong, unless memory ran out
    pub lacking_refused : (status : Status)
        → ((st : Status) → RefusesWorld (Some files) word st → OrUnread (Err st) (Ok read))
        → (status ≡ BadWorld (Wrong (codes "node"))) ⊎ (status ≡ Memory)
        → (st : Status) → RefusesSeat (Some files) port word st
        → OrUnread {A = Seated} (Err st) (Err status)
    lacking_refused status refused told st (inl none) = absurd (no_err read st (refused st none))
    lacking_refused status refused (inl tells) st (inr lacks) =
        inl (ap (λ s. Err s) (tells ∙ sym lacks.tells))
    lacking_refused status refused (inr memory) st (inr lacks) =
        inr (inr (ap (λ s. Err s) memory))

    -- a world that was read and has the node is given with it
    pub seated_gives : (seat : Seat) → seat_at read port ≡ Some seat → (given : Seated)
        → GivesSeat (Some files) port word given
        → OrUnread (Ok given) (Ok (record { world = read; seat = seat }))
    seated_gives seat seated given gives =
        let same : given.world ≡ read = given_world given gives in
        let there : seat_at read port ≡ Some given.seat =
        subst (λ w. seat_at w port ≡ Some given.seat) same gives.seated in
        let one : given.seat ≡ seat = cc in
        inl (sym (rw (same, one) refl))

    -- it is not refused
    pub seated_not_refused : (seat : Seat) → seat_at read port ≡ Some seat
        → ((st : Status) → RefusesWorld (Some files) word st → OrUnread (Err st) (Ok read))
        → (st : Status) → RefusesSeat (Some files) port word st → ⊥
    seated_not_refused seat seated refused st (inl none) = no_err read st (refused st none)
    seated_not_refused seat seated refused st (inr lacks) =
        let same : lacks.world ≡ read =
        read_is read lacks.world (accepts lacks.world lacks.gives) in
        let none : seat_at read port ≡ None =
        subst (λ w. seat_at w port ≡ None) same lacks.lacks in
        cc
