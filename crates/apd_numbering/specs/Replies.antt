-- Questions, replies and findings by another numbering of names.
use Rattle.std.specs.Prelude.{ℕ, List, map}
use Rattle.apd_answers.specs.Store.{Store}
use Rattle.apd_answers.specs.declared.finding.Finding.{Finding}
use Rattle.apd_answers.specs.declared.finding.Finding.TheVariants.{WrongInstance, Uncovered, Violation, Candidates}
use Rattle.apd_answers.specs.declared.question.Asked.{Asked}
use Rattle.apd_answers.specs.declared.question.Question.{Question}
use Rattle.apd_answers.specs.declared.question.Question.TheVariants.{True, Covers, Below}
use Rattle.apd_answers.specs.declared.question.Reply.{Reply}
use Rattle.apd_answers.specs.declared.question.Reply.TheVariants.{Yes, No, Values, Unknown}
use Rattle.apd_answers.specs.declared.store.Pair.{Pair}
use Rattle.apd_term.specs.declared.instance.Instance.{Instance}
use Rattle.apd_numbering.specs.Renumbering.{renumbered, renumbered_instance, renumbered_list, renumbered_pred, renumbered_tuple}

abbrev pub renumbered_question : (ℕ → ℕ) → Question → Question
renumbered_question r (True a) = True (renumbered r a)
renumbered_question r (Covers t) = Covers (renumbered_tuple r t)
renumbered_question r (Below q p) = Below (renumbered r q) (renumbered r p)

abbrev pub renumbered_reply : (ℕ → ℕ) → Reply → Reply
renumbered_reply r Yes = Yes
renumbered_reply r No = No
renumbered_reply r (Values values) = Values (renumbered_list r values)
renumbered_reply r Unknown = Unknown

abbrev pub renumbered_asked : (ℕ → ℕ) → Asked → Asked
renumbered_asked r a = record { question = renumbered_question r a.question; suspects = a.suspects }

abbrev pub renumbered_pair : (ℕ → ℕ) → Pair → Pair
renumbered_pair r p = record { question = renumbered_question r p.question; reply = renumbered_reply r p.reply }

abbrev pub renumbered_store : (ℕ → ℕ) → Store → Store
renumbered_store r s = record { pairs = map (renumbered_pair r) s.pairs; trusted = map (renumbered_pred r) s.trusted }

abbrev pub renumbered_instances : (ℕ → ℕ) → List Instance → List Instance
renumbered_instances r cs = map (renumbered_instance r) cs

abbrev pub renumbered_finding : (ℕ → ℕ) → Finding → Finding
renumbered_finding r (WrongInstance clause t) = WrongInstance clause (renumbered_tuple r t)
renumbered_finding r (Uncovered goal) = Uncovered (renumbered r goal)
renumbered_finding r (Violation clause goal caller callee p q) = Violation clause goal caller callee (renumbered r p) (renumbered r q)
renumbered_finding r (Candidates cs) = Candidates (renumbered_instances r cs)
