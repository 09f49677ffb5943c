use Rattle.do_packet.proofs.packing.met_objects.MetObjects.meet.Goals as goal
use Rattle.std.{proofs.Common.{◌≡◌, None, Some, ◌∙◌, ap, refl, sym}, specs.List.position}
use Rattle.do_packet.specs.Met.{met_one, place, same_object}
use Rattle.do_packet.proofs.Places.{met_known, met_new, places_push}

pub returns-in-Some-clause-met : goal.returns-in-Some-clause-met
returns-in-Some-clause-met c =
    let known : position (same_object c.args.oid) c.self.inside.oids ≡ Some c.in-Some.at.now =
    sym (c.self.invariant c.args.oid) ∙ sym c.get.ensures.value ∙ rw c.in-Some.is refl in
    sym (rw c.self.view_is at (met_known c.self.inside.oids c.args.oid c.in-Some.at.now known).0)

pub invariant_of-self-in-Ok : goal.invariant_of-self-in-Ok
invariant_of-self-in-Ok c =
    let absent : position (same_object c.args.oid) c.self.inside.oids ≡ None =
    sym (c.self.invariant c.args.oid) ∙ sym c.get.ensures.value ∙ rw c.in_default.is refl in
    rw c.in_ok-push.ensures.ok
    (places_push c.self.inside.oids c.args.oid c.self.inside.places c.insert.new.self
    c.len-at.result c.len-at.ensures absent
    (rw c.in-Ok.is at c.insert.ensures.updates) c.self.invariant)

pub returns-in-Ok-clause-met : goal.returns-in-Ok-clause-met
returns-in-Ok-clause-met c =
    let absent : position (same_object c.args.oid) c.self.inside.oids ≡ None =
    sym (c.self.invariant c.args.oid) ∙ sym c.get.ensures.value ∙ rw c.in_default.is refl in
    rw c.in_ok-push.ensures.ok
    (sym (met_new c.self.inside.oids c.args.oid absent).0
    ∙ ap (λ os. met_one os c.args.oid) c.self.view_is)

pub returns-in-Ok-clause-place : goal.returns-in-Ok-clause-place
returns-in-Ok-clause-place c =
    let absent : position (same_object c.args.oid) c.self.inside.oids ≡ None =
    sym (c.self.invariant c.args.oid) ∙ sym c.get.ensures.value ∙ rw c.in_default.is refl in
    c.len-at.ensures ∙ sym (met_new c.self.inside.oids c.args.oid absent).1
    ∙ ap (λ os. place os c.args.oid) c.self.view_is
