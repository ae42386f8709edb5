use Rattle.tree_grammar.proofs.WholeFileLaws.{read_is_file, file_is_read}
use Rattle.tree_grammar.proofs.files_are_read.Goals as goal

pub returns-clause-sound : goal.returns-clause-sound
returns-clause-sound c = read_is_file

pub returns-clause-complete : goal.returns-clause-complete
returns-clause-complete c = file_is_read
