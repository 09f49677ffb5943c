-- What a person is told beside the line of a status.
use Rattle.std.specs.{Prelude.{ℕ, Bool, List, ◌∷◌, [], ◌++◌, decimal, if◌then◌else◌}, List.flat_map}
use Rattle.do_advice.specs.declared.nodes.TheConstants.{LACKING, OTHERS}
use Rattle.do_advice.specs.declared.ports.TheConstants.{PORT, TAKEN, UNHEARD}
use Rattle.do_advice.specs.declared.raised.TheConstants.{ENDED, WHERE}

-- ports, a space in front of each
abbrev pub ports_text : List ℕ → List ℕ
ports_text ports = flat_map (λ port. 32 ∷ decimal port) ports

-- the line that tells which port has no node in a world, and which ports have one
abbrev pub nodes_text : ℕ → List ℕ → List ℕ
nodes_text lacking ports =
    LACKING.now ++ decimal lacking ++ OTHERS.now ++ ports_text ports ++ 10 ∷ []

-- why a port could not be listened at, as far as it is known
abbrev pub cause_text : Bool → List ℕ
cause_text is_taken = if is_taken then TAKEN.now else UNHEARD.now

-- the line that tells of a port that could not be listened at
abbrev pub unheard_text : ℕ → Bool → List ℕ
unheard_text port is_taken = PORT.now ++ decimal port ++ cause_text is_taken

-- the line that tells how many starts an exception ended
abbrev pub raised_text : ℕ → List ℕ
raised_text count = ENDED.now ++ decimal count ++ WHERE.now
