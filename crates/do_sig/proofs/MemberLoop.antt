-- A loop over the members of a structure that stops with an error.
use Rattle.do_sig.specs.declared.fault.Stop as code
use Rattle.std.proofs.Common.{◌≡◌, ◌≢◌, ℕ, List, ◌∷◌, Result, arith}
use Rattle.do_grammar.specs.Reader.{Stop, short, bad, until}
use Rattle.do_grammar.proofs.loops.{TimesLoop.with_front, UntilLoop.fault_turn}
use Rattle.do_sig.specs.declared.fault.{Kind.Kind, Stop.TheVariants.{Memory, Short, Bad}}
use Rattle.do_sig.{specs.reading.{Gives.Fails, Types.type_at}, proofs.TypeBySteps.ByStep}
use Rattle.do_sig.specs.declared.value_type.ValueType.{ValueType}
use Rattle.do_sig.proofs.TypeExact.{Reads-type, type_apart}

-- where a member stops, so do the members
pub members_fail : (e : code.Stop) (d : ℕ) (front : List ValueType) (bytes : List ℕ) (b : ℕ)
    (others : List ℕ) (total : Result (List ValueType × List ℕ) (Stop Kind))
    → with_front front (until 125 (type_at d) bytes) ≡ total → bytes ≡ b ∷ others → b ≢ 125
    → Fails e (type_at d bytes) → Fails e total
members_fail Memory d front bytes b others total so_far e ne h = tt
members_fail Short d front bytes b others total so_far e ne h =
    fault_turn 125 (omega arith) (ByStep d) (type_at d) (Reads-type d) (type_apart d) front bytes b
    others short total so_far e ne h
members_fail (Bad k left) d front bytes b others total so_far e ne h =
    fault_turn 125 (omega arith) (ByStep d) (type_at d) (Reads-type d) (type_apart d) front bytes b
    others (bad k left) total so_far e ne h
