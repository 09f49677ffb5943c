use Rattle.do_world.proofs.method_codes.codes_at.Goals as goal
use Rattle.std.proofs.{Common.{◌∙◌, ap, length}, lemmas.List.length-map}
use Rattle.toml.specs.View.{table_view}
use Rattle.do_class.specs.Class.{Class}
use Rattle.do_world.proofs.CodeKinds.{native_codes, script_codes}

pub returns-in_ok-slots-in-Script : goal.returns-in_ok-slots-in-Script
returns-in_ok-slots-in-Script c =
    rw c.in-Script.is (script_codes (table_view c.args.table.now) c.args.classes.now c.args.k
    c.slots.result.now c.in_ok-slots-in-Script.slots c.args.names.now c.class_codes.result
    (rw c.in-Script.is at c.requires.kind) c.requires.class c.slots.ensures
    c.in_ok-slots-in-Script.ensures
    (ap length c.requires.names ∙ length-map c.args.classes.now (λ (d : Class). d.name))
    c.class_codes.ensures)

pub returns-in_ok-no_codes-in_default : goal.returns-in_ok-no_codes-in_default
returns-in_ok-no_codes-in_default c =
    native_codes (table_view c.args.table.now) c.args.kind c.args.classes.now c.args.k
    (length c.args.classes.now) c.args.names.now c.in_ok-no_codes-in_default.field-0
    c.in_default.not-Script c.requires.kind c.requires.class c.in_ok-no_codes-in_default.ensures
