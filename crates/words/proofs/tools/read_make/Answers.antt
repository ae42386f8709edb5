use Rattle.std.proofs.Common.{◌≡◌, ◌∙◌, map, string_bytes, refl, sym}
use Rattle.std.proofs.lemmas.Result.{err_from_is_err_and}
use Rattle.words.specs.Commands.{collected}
use Rattle.words.specs.Words.{answer, make_of, make_options, make_settings}
use Rattle.words.proofs.MatchAnswerLemmas.{make_told}
use Rattle.words.proofs.tools.read_make.Goals as goal

pub returns : goal.returns
returns c =
    let told : make_settings (collected c.given-workers.result) (collected c.given-plain.result) ≡ answer make_options make_of (map string_bytes c.args.words.now) =
    make_told (map string_bytes c.args.words.now) c.in_ok-matches.matches (collected c.given-workers.result) (collected c.given-plain.result)
    (c.in_ok-matches.ensures.told make_options c.in_ok-command.ensures refl) c.given-workers.ensures c.given-plain.ensures in
    sym told ∙ c.in_ok-make.ensures.settings

pub returns-in_err-make : goal.returns-in_err-make
returns-in_err-make c =
    let p = err_from_is_err_and c.from_residual-in_err-make.result c.from_residual-in_err-make.ensures.1 in
    let told : make_settings (collected c.given-workers.result) (collected c.given-plain.result) ≡ answer make_options make_of (map string_bytes c.args.words.now) =
    make_told (map string_bytes c.args.words.now) c.in_ok-matches.matches (collected c.given-workers.result) (collected c.given-plain.result)
    (c.in_ok-matches.ensures.told make_options c.in_ok-command.ensures refl) c.given-workers.ensures c.given-plain.ensures in
    rw (p.1, p.2) (sym told ∙ c.in_err-make.ensures.refused.0, c.in_err-make.ensures.refused.1)
