use Rattle.std.proofs.Common.{ap, sym, Ok}
use Rattle.apd_session.proofs.Making.{subject_file, subject_tree}
use Rattle.apd_session.proofs.opening.subject_text.Goals as goal

pub returns-in_ok-tree_program-in-Tree-clause-has : goal.returns-in_ok-tree_program-in-Tree-clause-has
returns-in_ok-tree_program-in-Tree-clause-has g c = rw c.in-Tree.is (subject_tree _ _ c.in-Tree.nodes _ (ap Ok (sym c.in_ok-tree_program-in-Tree.ensures.text)))

pub returns-in-File-clause-has : goal.returns-in-File-clause-has
returns-in-File-clause-has g c = rw c.in-File.is (subject_file _ _ c.in-File.name.now c.load_file.result c.load_file.ensures.has)
