use Rattle.std.proofs.Common.{option_map, string_bytes, refl}
use Rattle.std.proofs.lemmas.Result.{err_from_is_err_and}
use Rattle.answers.specs.Answers.{map_ok}
use Rattle.words.specs.Words.{Convert}
use Rattle.gambit_tools.proofs.convert.convert.Goals as goal

pub returns-in_err-game : goal.returns-in_err-game
returns-in_err-game g c =
    let p = err_from_is_err_and c.from_residual.result c.from_residual.ensures.1 in
    rw (p.1, p.2) (c.in_err-game.ensures (Convert c.args.layout c.args.row c.args.column (option_map string_bytes c.args.file)) refl)

pub returns : goal.returns
returns g c = c.in_ok-game.ensures (Convert c.args.layout c.args.row c.args.column (option_map string_bytes c.args.file)) (map_ok c.strategic_layout.result (λ text. text.items)) refl c.strategic_layout.ensures
