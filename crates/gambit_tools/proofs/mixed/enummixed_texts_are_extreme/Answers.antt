use Rattle.std.proofs.Common.{ℕ, Bool, true, false, List, Ok}
use Rattle.game_core.specs.declared.game.Game.{Game}
use Rattle.enumpure.proofs.OneTextLaws.{text-is}
use Rattle.gambit_tools.specs.Enummixed.{IsExtremeText, enummixed}
use Rattle.gambit_tools.proofs.mixed.enummixed_texts_are_extreme.Goals as goal

each : (all : Bool) (game : Game) (text : List ℕ) → enummixed all game (Ok text) → IsExtremeText game text
each true game text h = record { table = h.2.0; is_form = h.2.1; is_text = text-is _ text h.2.2.2 }
each false game text h = record { table = h.2.0; is_form = h.2.1; is_text = text-is _ text h.2.2.2.2 }

pub returns : goal.returns
returns c = each
