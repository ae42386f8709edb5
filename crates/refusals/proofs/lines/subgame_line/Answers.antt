use Rattle.std.proofs.Common.{◌∙◌, ℕ, ◌≡◌, ◌+◌, List, [], ◌∷◌, ◌++◌, codes, append_assoc}
use Rattle.std.specs.Fmt.{decimal}
use Rattle.frac128.specs.Texts.{step_text}
use Rattle.refusals.specs.Refusals.{site_text}
use Rattle.refusals.proofs.lines.subgame_line.Goals as goal

-- the words where their parts are known
joined : (number node : ℕ) (site step : List ℕ) → number ≡ node + 1
    → codes "gambit: range in subgame " ++ (decimal number ++ (codes " " ++ (site ++ (codes ": " ++ (step ++ 10 ∷ []))))) ≡ codes "gambit: " ++ (codes "range in subgame " ++ decimal (node + 1) ++ codes " " ++ site ++ codes ": " ++ step) ++ 10 ∷ []
joined number node site step e = rw e (simp append_assoc)

pub returns : goal.returns
returns c = c.in_ok-format.ensures.ok ∙ joined c.from_one-number.result c.args.node (site_text c.args.site.now) (step_text c.args.unfit) c.from_one-number.ensures
