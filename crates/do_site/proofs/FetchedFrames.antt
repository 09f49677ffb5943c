-- Frames that are fetched from a site.
use Rattle.std.proofs.Common.{◌≡◌, ◌∷◌, ℕ, List, None, Option, Some, refl, subst}
use Rattle.std.specs.Prelude.{IfOk, IfSome, Result}
use Rattle.do_class.specs.Class.{Class}
use Rattle.do_machine.specs.run.Run.{Acting}
use Rattle.do_net.specs.Seen.{FetchesSpelled, Seen}
use Rattle.do_network.specs.{Links.Sending, Spelled.IsSpelledSending}
use Rattle.do_streams.specs.Streamed.{Streamed}
use Rattle.do_site.{specs.{Sited.Sited, Steps.seen_of}, proofs.PlansKeep.if_ok}

-- what is taken out of streams has a spelling, sent from a port by a table of classes
abbrev pub TakesSpelled : List Class → ℕ → Streamed → Streamed → Option ℕ → Type 0
TakesSpelled table port was now to = IfSome to (λ peer. (s : Sending) →
    was.frames ≡ s ∷ now.frames → IsSpelledSending table port s)

-- so has what is fetched of what is seen
spelled_seen : (old new : Seen) (was now : Streamed) (to : Option ℕ) →
    old.frames ≡ was.frames → new.frames ≡ now.frames →
    TakesSpelled old.table old.part.own.node.port was now to → FetchesSpelled old new to
spelled_seen old new was now None before after taken = tt
spelled_seen old new was now (Some to) before after taken = λ s first.
    taken s (subst (λ frames. frames ≡ s ∷ now.frames) before
    (subst (λ frames. old.frames ≡ s ∷ frames) after first))

-- what a site takes out of its streams by its classes, from its port, is fetched so
pub fetched_spelled : {B E : Type 0} (act : B → Acting) (inside now : Sited B) → inside ≡ now →
    (later : Streamed) (table : List Class) (port : ℕ) → table ≡ inside.table →
    port ≡ inside.work.core.part.own.node.port → (r : Result (Option ℕ) E) →
    IfOk r (TakesSpelled table port inside.work.core.streams later) →
    IfOk r (FetchesSpelled (seen_of now.table (act now.acts) now.work.core)
    (seen_of inside.table (act inside.acts)
    (record { part = inside.work.core.part; streams = later })))
fetched_spelled {B = B} act inside now same later table port classes own r taken =
    let core = inside.work.core in
    let acting = act inside.acts in
    let new = seen_of inside.table acting (record { part = core.part; streams = later }) in
    let by_classes = subst (λ (t : List Class).
    IfOk r (TakesSpelled t port core.streams later)) classes taken in
    let by_port = subst (λ (p : ℕ).
    IfOk r (TakesSpelled inside.table p core.streams later)) own by_classes in
    let fetched : IfOk r (FetchesSpelled (seen_of inside.table acting core) new) =
    if_ok r (λ to. spelled_seen (seen_of inside.table acting core) new core.streams later to
    refl refl) by_port in
    subst (λ (s : Sited B). IfOk r (FetchesSpelled (seen_of s.table (act s.acts) s.work.core) new))
    same fetched
