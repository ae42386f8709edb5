use Rattle.std.proofs.Common.{◌∙◌, ℕ, ◌≡◌, ◌+◌, List, [], ◌∷◌, ◌++◌, codes, append_assoc}
use Rattle.std.specs.Fmt.{decimal}
use Rattle.rational.specs.Text.{number_text}
use Rattle.refusals.proofs.lines.sums_line.Goals as goal

-- the words where their parts are known
joined : (a b first second : ℕ) (one other : List ℕ) → a ≡ first + 1 → b ≡ second + 1
    → codes "gambit: not constant sum: " ++ (decimal a ++ (codes " has " ++ (one ++ (codes ", " ++ (decimal b ++ (codes " has " ++ (other ++ 10 ∷ [])))))))
    ≡ codes "gambit: " ++ (codes "not constant sum: " ++ decimal (first + 1) ++ codes " has " ++ one ++ codes ", " ++ decimal (second + 1) ++ codes " has " ++ other) ++ 10 ∷ []
joined a b first second one other e f = rw (e, f) (simp append_assoc)

pub returns : goal.returns
returns c =
    c.in_ok-format.ensures.ok
    ∙ joined c.from_one-first.result c.from_one-second.result c.args.sums.first c.args.sums.second (number_text c.args.sums.first_sum) (number_text c.args.sums.second_sum) c.from_one-first.ensures c.from_one-second.ensures
