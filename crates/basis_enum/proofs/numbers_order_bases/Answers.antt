use Rattle.basis_enum.proofs.DigitLemmas.{comes_first, basis_tells}
use Rattle.basis_enum.proofs.numbers_order_bases.Goals as goal

pub returns : goal.returns
returns c = record { less = comes_first; equal = basis_tells }
