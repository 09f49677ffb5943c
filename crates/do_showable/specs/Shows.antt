-- What the inputs of one node show, one after another.
use Rattle.std.specs.{List.AllByRecursion, Prelude.{List, [], ℕ, ◌∷◌}}
use Rattle.do_grammar.specs.Grammar.{IsBytes}
use Rattle.do_class.specs.Class.{Class}
use Rattle.do_sched.specs.{Good.{IsPort, IsStart}, declared.version.Version.TheVariants.Second}
use Rattle.do_record.specs.GoodShown.{IsShown}
use Rattle.do_machine.specs.run.Run.{Acting}
use Rattle.do_network.specs.{Links.Part, Site.site_step, declared.input.Input.Input}
use Rattle.do_network.specs.declared.input.Input.TheVariants.{Frame, Start}

-- an input that may come to a node of a port: a start may stand in a schedule, and a frame is of
-- bytes and comes from a peer with a port
abbrev pub MayCome : ℕ → Input → Type 0
MayCome port (Start selector values) = IsStart Second port selector values
MayCome port (Frame from f) = IsPort from × IsBytes f.payload
MayCome port _ = Unit {0}

-- what each input shows may stand in a record
abbrev pub AllMayStand : List Class → Acting → Part → List Input → Type 0
AllMayStand table act p [] = Unit {0}
AllMayStand table act p (i ∷ is) =
    let h = site_step table act p i in
    AllByRecursion IsShown h.shown × AllMayStand table act h.part is
