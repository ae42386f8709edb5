use Rattle.zero_sum_lp.proofs.EndPriceLemmas.{value_proved}
use Rattle.zero_sum_lp.proofs.laws.optima_prove_the_value.Goals as goal

pub returns : goal.returns
returns c f least g n t x y ro co sign p after optimal raised trimmed = value_proved f least g n t ro co p after optimal x y sign raised trimmed
