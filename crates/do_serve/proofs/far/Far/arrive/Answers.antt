use Rattle.do_serve.proofs.far.Far.arrive.Goals as goal
use Rattle.std.proofs.Common.{refl, ◌≡◌}
use Rattle.do_frames.specs.declared.fault.StreamFault.TheVariants.{BadKind, BadLength, BadVersion}
use Rattle.do_frames.specs.declared.fault.StreamFault.TheVariants.{Memory}
use Rattle.do_serve.proofs.StreamNext.{next_taken, next_none, next_faulty}

pub invariant_of-self : goal.invariant_of-self
invariant_of-self c =
    (next_taken c.self.inside.reader c.next.new.self c.in-Ok-Some.frame _ refl c.self.invariant
    (rw c.in-Ok-Some.field-0-is at c.in-Ok-Some.ensures)).1

pub returns-in-Ok-Some-clause-ok : goal.returns-in-Ok-Some-clause-ok
returns-in-Ok-Some-clause-ok c =
    rw (← c.self.view_is) (
      (next_taken c.self.inside.reader c.next.new.self c.in-Ok-Some.frame _ refl c.self.invariant
          (rw c.in-Ok-Some.field-0-is at c.in-Ok-Some.ensures)).0,
      refl,
    )

pub returns-in-Ok-None-clause-ok : goal.returns-in-Ok-None-clause-ok
returns-in-Ok-None-clause-ok c =
    let n = next_none c.self.inside.reader c.next.new.self _ refl c.self.invariant
    (rw c.in-Ok-None.field-0-is at c.in-Ok-None.ensures) in
    rw (← c.self.view_is, n.1) (n.0, refl)

pub returns-in-Err-BadKind-clause-ok : goal.returns-in-Err-BadKind-clause-ok
returns-in-Err-BadKind-clause-ok c =
    rw (← c.self.view_is) (
      next_faulty c.self.inside.reader c.next.new.self (BadKind c.in-Err-BadKind.field-0-0) _ refl
          c.self.invariant (λ (e : BadKind c.in-Err-BadKind.field-0-0 ≡ Memory). absurd cc)
          (rw c.in-Err-BadKind.field-0-is at c.in-Err-BadKind.ensures),
      refl,
    )

pub returns-in-Err-BadLength-clause-ok : goal.returns-in-Err-BadLength-clause-ok
returns-in-Err-BadLength-clause-ok c =
    rw (← c.self.view_is) (
      next_faulty c.self.inside.reader c.next.new.self
          (BadLength c.in-Err-BadLength.field-0-0) _ refl
          c.self.invariant
          (λ (e : BadLength c.in-Err-BadLength.field-0-0 ≡ Memory). absurd cc)
          (rw c.in-Err-BadLength.field-0-is at c.in-Err-BadLength.ensures),
      refl,
    )

pub returns-in-Err-BadVersion-clause-ok : goal.returns-in-Err-BadVersion-clause-ok
returns-in-Err-BadVersion-clause-ok c =
    rw (← c.self.view_is) (
      next_faulty c.self.inside.reader c.next.new.self
          (BadVersion c.in-Err-BadVersion.field-0-0) _ refl
          c.self.invariant
          (λ (e : BadVersion c.in-Err-BadVersion.field-0-0 ≡ Memory). absurd cc)
          (rw c.in-Err-BadVersion.field-0-is at c.in-Err-BadVersion.ensures),
      refl,
    )
