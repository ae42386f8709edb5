use Rattle.std.proofs.Common.{sym, ◌∙◌, ap, subst, refl, List, [], ◌∷◌, ◌++◌, ◌≡◌}
use Rattle.std.specs.Prelude.{Ok}
use Rattle.game_core.specs.declared.token.Token.{Token}
use Rattle.game_core.specs.declared.token.Token.TheVariants.{Text, Word}
use Rattle.file_parts.specs.Parts.{whole_number}
use Rattle.file_parts.specs.Parsing.{parse_title}
use Rattle.file_parts.proofs.HeaderLaws.{title_is, title_again}
use Rattle.file_parts.proofs.ValueLemmas.{value, value_some, value_title}
use Rattle.file_parts.proofs.laws.titles_are_read.Goals as goal

pub returns : goal.returns
returns g c = record {
  sound = λ kind word version tokens rest title e.
      let is = title_is word version tokens (title, rest) (sym (value_title kind word version tokens) ∙ ap value e) in
      (Word word ∷ whole_number version ∷ Word is.0 ∷ [], (is.0, is.1, refl), is.2);
  complete = λ kind word version header rest title h.
      let tokens : List Token = Word word ∷ whole_number version ∷ Word h.0 ∷ Text title ∷ rest in
      let read : parse_title kind word version tokens ≡ Ok (title, rest) = value_some (parse_title kind word version tokens) (title, rest) (value_title kind word version tokens ∙ title_again word version h.0 title rest h.1) in
      subst (λ (front : List Token). parse_title kind word version (front ++ Text title ∷ rest) ≡ Ok (title, rest)) (sym h.2) read;
}
