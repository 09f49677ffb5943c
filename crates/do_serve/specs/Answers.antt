-- What the answers of serving tell.
use Rattle.do_base.specs.declared.outside.sink.PutFail.TheVariants as put
use Rattle.std.specs.Prelude.{◌≡◌, ℕ, ◌⊎◌, Bool, true, false, List, [], ◌∷◌, ◌++◌, Option, Result}
use Rattle.std.specs.Prelude.{Ok, Err}
use Rattle.do_base.specs.outside.{Bytes.{with_more, HasWritten}, Causes.Rose}
use Rattle.do_base.specs.declared.outside.sink.PutFail.{PutFail}
use Rattle.do_output.specs.Told.{TellsMore}
use Rattle.do_link.specs.Told.{Told, Listened}
use Rattle.do_serve.specs.declared.serving.ServeEnd.{ServeEnd, TheVariants.{Done, TurnsSpent}}
use Rattle.do_serve.specs.declared.serving.ServeEnd.TheVariants.{LinkFault, WriteFault, Memory}
use Rattle.do_serve.specs.{Handing.{frames_handed, IsFront}, Record.first_line}
use Rattle.do_serve.specs.Serving.{Report, How, ended, spent}

-- the whole record of what serving came to
abbrev pub record_text : ℕ → Report → List ℕ
record_text port r = first_line port ++ r.text

-- the whole record was written, and every frame was handed over
pub record IsWhole (port : ℕ) (before now : Option (List ℕ)) (told : List Told) (report : Report)
    (how : How) : Type 0 where
  pub stops : report.how ≡ how
  pub written : now ≡ with_more before (record_text port report)
  pub handed : frames_handed told ≡ report.frames

-- a front of the record was written, and the frames of a front were handed over
pub record IsBroken (port : ℕ) (before now : Option (List ℕ)) (told : List Told)
    (report : Report) : Type 0 where
  pub written : HasWritten before now (record_text port report)
  pub handed : IsFront (frames_handed told) report.frames

-- what a link tells where it listened for these peers first
abbrev pub listened : ℕ → List ℕ → Bool → List Told → List Told
listened port peers failed told = Listened port peers failed ∷ told

-- What an answer tells of the list that the link told in this call, where serving over what stands
-- behind its listen comes to this report. The counts are those of the faults of the output.
abbrev pub TellsServed : ℕ → List ℕ → ℕ → (List Told → Report) → Option (List Told)
    → Option (List Told) → Option (List ℕ) → Option (List ℕ) → ℕ → ℕ → ServeEnd → Type 0
TellsServed port peers turns report told told' before now faults faults' Done =
    (rest : List Told) × TellsMore told told' (listened port peers false rest)
    × IsWhole port before now rest (report rest) ended
TellsServed port peers turns report told told' before now faults faults' (TurnsSpent n) =
    (rest : List Told) × TellsMore told told' (listened port peers false rest) × (n ≡ turns)
    × IsWhole port before now rest (report rest) spent
TellsServed port peers turns report told told' before now faults faults' LinkFault =
    TellsMore told told' (listened port peers true []) × (now ≡ before)
TellsServed port peers turns report told told' before now faults faults' WriteFault =
    (rest : List Told) × TellsMore told told' (listened port peers false rest)
    × Rose faults faults' × IsBroken port before now rest (report rest)
TellsServed port peers turns report told told' before now faults faults' Memory =
    (TellsMore told told' [] × (now ≡ before))
    ⊎ ((rest : List Told) × TellsMore told told' (listened port peers false rest)
    × IsBroken port before now rest (report rest))

-- nothing more was written, or a front of these bytes
abbrev pub Breaks : Option (List ℕ) → Option (List ℕ) → List ℕ → Type 0
Breaks before now bytes = (now ≡ before) ⊎ HasWritten before now bytes

-- how serving stopped, by whether the line `end` was used
abbrev pub how_by : Bool → How
how_by true = ended
how_by false = spent

-- what taking turns tells of the list that the link told, where serving over it comes to this
-- report
abbrev pub TellsTurns : ℕ → (List Told → Report) → Option (List Told) → Option (List Told)
    → Option (List ℕ) → Option (List ℕ) → ℕ → ℕ → Result Bool PutFail → Type 0
TellsTurns port report told told' before now faults faults' (Ok has_ended) =
    (list : List Told) × TellsMore told told' list
    × IsWhole port before now list (report list) (how_by has_ended)
TellsTurns port report told told' before now faults faults' (Err put.Failed) =
    (list : List Told) × TellsMore told told' list × Rose faults faults'
    × IsBroken port before now list (report list)
TellsTurns port report told told' before now faults faults' (Err put.Memory) =
    (list : List Told) × TellsMore told told' list × IsBroken port before now list (report list)
