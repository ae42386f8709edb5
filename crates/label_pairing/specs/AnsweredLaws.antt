-- That two lists have an answer, as a statement. It is proved by a function of src/lib.rt.
use Rattle.std.specs.Prelude.{ℕ, List}
use Rattle.answers.specs.Answered.{IsAnswered}
use Rattle.linear_systems.specs.Vertices.{MarkedPoint}
use Rattle.label_pairing.specs.Stops.{pairs_in}

-- Two lists have an answer: a list of pairs, or too many.
abbrev pub PairsAreAnswered : Type 0
PairsAreAnswered =
    (all : List ℕ) (first second : List MarkedPoint) → IsAnswered (pairs_in all first second)
