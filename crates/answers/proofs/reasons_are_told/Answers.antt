use Rattle.answers.proofs.AnswerLemmas.{refused_by-single, gives_refused}
use Rattle.answers.proofs.reasons_are_told.Goals as goal

pub returns : goal.returns
returns g c = record {
  single = refused_by-single g.S.Reasons.told g.S.Reasons.stage;
  given = gives_refused g.S.Reasons.memory g.S.Reasons.told g.S.Reasons.stage;
}
