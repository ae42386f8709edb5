use Rattle.std.proofs.Common.{◌∙◌, ℕ, ◌≡◌, List, [], ◌∷◌, ◌++◌, codes, append_assoc}
use Rattle.frac128.specs.Texts.{step_text}
use Rattle.refusals.specs.Refusals.{site_text}
use Rattle.refusals.proofs.lines.range_line.Goals as goal

-- the words where their parts are known
joined : (site step : List ℕ) → codes "gambit: range in " ++ (site ++ (codes ": " ++ (step ++ 10 ∷ []))) ≡ codes "gambit: " ++ (codes "range in " ++ site ++ codes ": " ++ step) ++ 10 ∷ []
joined site step = simp append_assoc

pub returns : goal.returns
returns c = c.in_ok-format.ensures.ok ∙ joined (site_text c.args.site.now) (step_text c.args.unfit)
