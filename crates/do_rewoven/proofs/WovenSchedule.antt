-- What sound records are woven to is a schedule.
use Rattle.do_record.specs.declared.parts.RecordLine.TheVariants as inputs
use Rattle.do_weave.specs.Laws as weaving
use Rattle.std.proofs.Common.{◌≡◌, ◌∙◌, ◌+◌, ℕ, List, [], ◌∷◌, Ok, refl, sym, ap, arith, sum_by}
use Rattle.std.proofs.lemmas.List.Sums.{sum_by-cons}
use Rattle.do_machine.specs.declared.state.State.{State}
use Rattle.do_record.specs.declared.parts.{Record.Record, RecordLine.RecordLine}
use Rattle.do_sched.specs.{Schedule.IsSchedule, Spelling.{spelling, steps_of}}
use Rattle.do_sched.specs.declared.{line.Line.Line, version.Version.TheVariants.Second}
use Rattle.do_weave.specs.{Inputs.lines_of, Rules.Rules, Weaving.woven}
use Rattle.do_weave.proofs.StepsWoven.{fine_woven}
use Rattle.do_woven.specs.Steps.{block_steps, input_steps, record_steps, steps_in}
use Rattle.do_rewoven.proofs.RecordsBehind.{AreSound}

-- the lines of an input take its steps
input_same : (port : ℕ) (input : RecordLine) → steps_of (lines_of port input) ≡ input_steps input
input_same port (inputs.Start selector values) = refl
input_same port inputs.Run = refl
input_same port (inputs.Take from) = refl
input_same port (inputs.Close peer) = refl
input_same port (inputs.Ended peer) = refl

-- sums of equal numbers are equal
sums_same : {X : Type 0} (f g : X → ℕ) → ((x : X) → f x ≡ g x) → (xs : List X) →
    sum_by f xs ≡ sum_by g xs
sums_same f g h [] = refl
sums_same f g h (x ∷ xs) =
    sum_by-cons f x xs ∙ ap (λ n. n + sum_by f xs) (h x)
    ∙ ap (λ n. g x + n) (sums_same f g h xs) ∙ sym (sum_by-cons g x xs)

-- the lines of records take their steps
records_same : (records : List Record) → weaving.steps_in records ≡ steps_in records
records_same =
    sums_same weaving.record_steps record_steps
    (λ r. sums_same (weaving.block_steps r.port) block_steps (λ b. input_same r.port b.input)
    r.blocks)

-- what is woven of sound records
pub woven_schedule : (R : Rules) (S : State) (records : List Record) (lines : List Line) →
    AreSound records → woven R S records ≡ Ok lines → IsSchedule (spelling Second lines) lines
woven_schedule R S records lines sound e =
    let fine = fine_woven R records sound.good S lines e in
    let few = fine.few in
    let most = sound.few in
    let same = records_same records in
    record { spelled = refl; good = fine.good; few = omega (arith, few, most, same) }
