-- What a store keeps as a text: an oracle file of the second form.
use Rattle.std.specs.Prelude.{ℕ, List, ◌++◌, length, flat_map, codes}
use Rattle.apd_term.specs.Canonical.{by_appearance, canonical, shifted}
use Rattle.apd_term.specs.Term.{Term, compound, none, more, variables}
use Rattle.apd_term.specs.declared.standard.TheConstants.{BELOW, COVERS, NO, TRUE, TRUSTED, UNKNOWN, YES}
use Rattle.apd_term.specs.declared.term.Pred.{Pred}
use Rattle.apd_ops.specs.declared.op.TheConstants.{MOST_PRIORITY}
use Rattle.apd_ops.specs.Table.{Table}
use Rattle.apd_write.specs.Writing.{written}
use Rattle.apd_clauses.specs.Indicators.{indicator_of}
use Rattle.apd_answers.specs.Store.{Store}
use Rattle.apd_answers.specs.declared.question.Question.{Question}
use Rattle.apd_answers.specs.declared.question.Question.TheVariants.{True, Covers, Below}
use Rattle.apd_answers.specs.declared.question.Reply.{Reply}
use Rattle.apd_answers.specs.declared.question.Reply.TheVariants.{Yes, No, Values, Unknown}
use Rattle.apd_answers.specs.declared.store.Pair.{Pair}
use Rattle.apd_text.specs.ClauseTerms.{clause_term}
use Rattle.apd_term.specs.Listed.{list_term}

-- a reply as a term: `yes`, `no`, `unknown`, or `yes` of a list of values
abbrev pub reply_term : Reply → Term
reply_term Yes = compound YES none
reply_term No = compound NO none
reply_term Unknown = compound UNKNOWN none
reply_term (Values values) = compound YES (more (list_term values) none)

-- how many variables a term has, each counted once
abbrev pub variable_count : Term → ℕ
variable_count t = length (by_appearance (variables t))

-- a call in canonical form, with the numbers of its variables behind those of another, so that the two have none in common
abbrev pub apart_from : Term → Term → Term
apart_from other t = shifted (variable_count other) (canonical t)

-- a question with its reply as a statement
abbrev pub statement_of : Question → Term → Term
statement_of (True a) r = compound TRUE (more a (more r none))
statement_of (Covers t) r = compound COVERS (more (clause_term t) (more r none))
statement_of (Below q p) r = compound BELOW (more (canonical q) (more (apart_from q p) (more r none)))

-- and in canonical form
abbrev pub pair_term : Pair → Term
pair_term p = canonical (statement_of p.question (reply_term p.reply))

-- trust in a predicate as a statement
abbrev pub trust_term : Pred → Term
trust_term p = compound TRUSTED (more (indicator_of p) none)

-- a statement in a line of its own: as a clause is written, a space and a full stop
abbrev pub line_of : Table → List (List ℕ) → Term → List ℕ
line_of ops names t = written ops names t MOST_PRIORITY ++ codes " .\n"

abbrev pub trust_line : Table → List (List ℕ) → Pred → List ℕ
trust_line ops names p = line_of ops names (trust_term p)

abbrev pub pair_line : Table → List (List ℕ) → Pair → List ℕ
pair_line ops names p = line_of ops names (pair_term p)

-- the form, and a line for each predicate that is trusted and for each reply, in the order in which they came
unfoldable pub known_text : Table → List (List ℕ) → Store → List ℕ
known_text ops names store = codes "form(2) .\n" ++ flat_map (trust_line ops names) store.trusted ++ flat_map (pair_line ops names) store.pairs
