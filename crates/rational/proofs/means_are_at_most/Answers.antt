use Rattle.rational.proofs.MeanLemmas.{mean_le, support}
use Rattle.rational.proofs.means_are_at_most.Goals as goal

pub returns : goal.returns
returns c = record {
  at_most = λ n x v m w h. mean_le n x v m w.not_negative w.sum_is_one h;
  reaches = λ n x v m w h. support n x v m w.not_negative w.sum_is_one h;
}
