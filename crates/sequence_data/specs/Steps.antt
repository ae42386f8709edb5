-- The steps in which leaves go into the cells of a sequence form, leaf after leaf.
use Rattle.std.specs.Prelude.{ℕ, List, ◌∷◌, ◌++◌, take}
use Rattle.std.specs.List.{enumerate_from}
use Rattle.answers.specs.Answers.{Answer, refused_by}
use Rattle.frac128.specs.FirstUnfit.{all_fit, all_steps_fit}
use Rattle.frac128.specs.Steps.{added_product_steps, step_of, Step}
use Rattle.frac128.specs.declared.steps.Op.TheVariants.{Add}
use Rattle.sequence_data.specs.declared.types.Leaf.{Leaf}
use Rattle.sequence_data.specs.declared.types.Cell.{Cell}
use Rattle.sequence_data.specs.declared.stop.SeqStop.{SeqStop}
use Rattle.sequence_data.specs.declared.stop.SeqStop.TheVariants as stops
use Rattle.sequence_data.specs.Cells.{cell_at}

-- the steps at a node or a profile all fit; or the first that does not
abbrev pub fit_at : ℕ → List Step → Answer SeqStop (Unit {0})
fit_at place steps = refused_by (stops.Range place) (all_steps_fit steps)

-- ---- into the cells
-- a leaf goes into its cell: its chance, and its chance times each payoff, are added to the cell's
-- sums so far
abbrev pub added_steps : Cell → Leaf → List Step
added_steps c l =
    step_of Add c.weight l.chance
    ∷ added_product_steps c.one l.chance l.one ++ added_product_steps c.two l.chance l.two

-- a numbered leaf goes into its cell, where the leaves before it are
abbrev pub leaf_steps : List Leaf → (ℕ × Leaf) → List Step
leaf_steps leaves n = added_steps (cell_at (take n.0 leaves) n.1.row n.1.column) n.1

-- the steps of all leaves fit; or the first that does not, with the place of its leaf
abbrev pub gathering_in : List Leaf → Answer SeqStop (Unit {0})
gathering_in leaves =
    refused_by (λ stop. stops.Range stop.0.1.place stop.1)
    (all_fit (leaf_steps leaves) (enumerate_from 0 leaves))
