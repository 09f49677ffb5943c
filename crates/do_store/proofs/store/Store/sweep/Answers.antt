use Rattle.do_store.proofs.store.Store.sweep.Goals as goal
use Rattle.std.proofs.Common.{ℕ, Some, refl, arith, ap, ◌∙◌, subst}
use Rattle.do_store.specs.{Names.values_name, Steps.Lowers}

pub invariant_of-self : goal.invariant_of-self
invariant_of-self c = let facts =
    c.in_err-object.ensures.books c.self.inside.node c.self.invariant in facts.0

pub returns-in_err-object-clause-freed : goal.returns-in_err-object-clause-freed
returns-in_err-object-clause-freed c =
    let facts = c.in_err-object.ensures.books c.self.inside.node c.self.invariant in
    rw (c.from_residual.ensures, ← c.self.view_is) (facts.1, facts.2)

pub invariant_of-self-2 : goal.invariant_of-self-2
invariant_of-self-2 c =
    let node = c.self.inside.node in
    let facts = c.in_ok-object.ensures.books node c.self.invariant in
    let slots = c.in_ok-object.object.slots in
    let Q : ℕ → Type 0 =
    λ p. Lowers p c.next_idle.new.table c.lower_values.new.table c.next_idle.new.queue
    c.lower_values.new.queue (λ n. values_name p n slots) in
    let l : Lowers node c.next_idle.new.table c.lower_values.new.table c.next_idle.new.queue
    c.lower_values.new.queue (λ n. values_name node n slots) =
    subst Q c.port-port.ensures.value c.lower_values.ensures in
    l.books (λ n. values_name node n slots) (λ n. 0) facts.0 (λ n. omega arith)

pub returns-clause-freed : goal.returns-clause-freed
returns-clause-freed c =
    let facts = c.in_ok-object.ensures.books c.self.inside.node c.self.invariant in
    let o = c.in_ok-object.object in
    rw (← c.self.view_is) (
      refl,
      c.lower_values.ensures.seen ∙ facts.1,
      facts.2
          ∙ ap (λ h. Some
          (record { serial = o.serial; class = o.class; slots = o.slots; held = h }))
          facts.3,
      facts.4,
    )
