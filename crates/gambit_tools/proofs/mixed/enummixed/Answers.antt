use Rattle.std.proofs.Common.{option_map, string_bytes, refl}
use Rattle.std.proofs.lemmas.Result.{err_from_is_err_and}
use Rattle.answers.specs.Answers.{map_ok}
use Rattle.words.specs.Words.{Enummixed}
use Rattle.gambit_tools.proofs.mixed.enummixed.Goals as goal

pub returns-in_err-game : goal.returns-in_err-game
returns-in_err-game g c =
    let p = err_from_is_err_and c.from_residual.result c.from_residual.ensures.1 in
    rw (p.1, p.2) (c.in_err-game.ensures (Enummixed c.args.all c.args.crew.now.workers (option_map string_bytes c.args.file)) refl)

pub returns : goal.returns
returns g c = c.in_ok-game.ensures (Enummixed c.args.all c.args.crew.now.workers (option_map string_bytes c.args.file)) (map_ok c.extreme_equilibria.result (λ text. text.items)) refl c.extreme_equilibria.ensures
