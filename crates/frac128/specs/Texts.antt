-- The text of a step that does not fit.
use Rattle.std.specs.Prelude.{ℕ, List, ◌++◌, codes}
use Rattle.rational.specs.Text.{number_text}
use Rattle.frac128.specs.Steps.{Step}
use Rattle.frac128.specs.declared.steps.Op.{Op}
use Rattle.frac128.specs.declared.steps.Op.TheVariants.{Add, Sub, Mul, Div}

-- an operation
abbrev pub op_text : Op → List ℕ
op_text Add = codes "add"
op_text Sub = codes "sub"
op_text Mul = codes "mul"
op_text Div = codes "div"

-- a step: the operation and both operands
abbrev pub step_text : Step → List ℕ
step_text step =
    op_text step.op ++ codes " " ++ number_text step.left ++ codes " " ++ number_text step.right
