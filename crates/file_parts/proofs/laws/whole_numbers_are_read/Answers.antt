use Rattle.file_parts.proofs.TokenLaws.{whole_is, whole_again}
use Rattle.file_parts.proofs.laws.whole_numbers_are_read.Goals as goal

pub returns : goal.returns
returns c = record { sound = λ n tokens rest e. whole_is tokens (n, rest) e; complete = whole_again }
