-- What the lines of an entry's text say.
use Rattle.std.specs.Prelude.{ℕ, List, [], ◌∷◌, map, Option, None, Some}
use Rattle.std.specs.List.{flat_map}
use Rattle.apd_term.specs.Canonical.{canonical}
use Rattle.apd_term.specs.Tuple.{canonical_tuple}
use Rattle.apd_term.specs.declared.instance.Instance.{Instance}
use Rattle.apd_causes.specs.declared.run.Query.{Query}
use Rattle.apd_causes.specs.declared.run.Ran.{Ran}
use Rattle.apd_answers.specs.Questions.{canonical_question}
use Rattle.apd_answers.specs.declared.finding.Finding.{Finding}
use Rattle.apd_answers.specs.declared.finding.Finding.TheVariants.{WrongInstance, Uncovered, Violation, Candidates}
use Rattle.apd_answers.specs.declared.question.Asked.{Asked}
use Rattle.apd_answers.specs.declared.question.Question.TheVariants.{True}
use Rattle.apd_answers.specs.declared.question.Reply.TheVariants.{Yes, No}
use Rattle.apd_again.specs.Bare.{bare}
use Rattle.apd_text.specs.Lines.{goals_of}
use Rattle.apd_text.specs.declared.entry.Told.{Told}
use Rattle.apd_text.specs.declared.entry.Told.TheVariants.{Wrong, Missing, NoEnd}
use Rattle.apd_text.specs.declared.entry.Entry.{Entry}
use Rattle.apd_text.specs.declared.entry.Entry.TheVariants as entry
use Rattle.apd_claims.specs.declared.claim.Claim.{Claim}
use Rattle.apd_claims.specs.declared.claim.Claim.TheVariants.{Runs, Ends, Tells, Asks, Replies, Finds, Descends}

-- the query that a run's first line is read as: its goals, and no variables that it shows
abbrev pub query_written : Query → Query
query_written q = record { tuple = bare (record { head = q.tuple.head; body = goals_of q }); vars = [] }

-- what was asked, as it is written
abbrev pub canonical_asked : Asked → Asked
canonical_asked x = record { question = canonical_question x.question; suspects = x.suspects }

abbrev pub canonical_instance : Instance → Instance
canonical_instance c = record { clause = c.clause; tuple = canonical_tuple c.tuple }

-- what was found, as it is written
abbrev pub canonical_finding : Finding → Finding
canonical_finding (WrongInstance clause t) = WrongInstance clause (canonical_tuple t)
canonical_finding (Uncovered goal) = Uncovered (canonical goal)
canonical_finding (Violation clause goal caller_no callee_no caller callee) = Violation clause goal caller_no callee_no (canonical caller) (canonical callee)
canonical_finding (Candidates cs) = Candidates (map canonical_instance cs)

-- the line of a finding's clause, where it is printed
abbrev pub line_said : Finding → ℕ → ℕ
line_said (WrongInstance clause t) line = line
line_said (Uncovered goal) line = 0
line_said (Violation clause goal caller_no callee_no caller callee) line = line
line_said (Candidates cs) line = 0

abbrev pub ended : Option Ran → List Claim
ended None = []
ended (Some ran) = Ends ran ∷ []

-- that a run doesn't end is no claim
abbrev pub told_claims : Told → List Claim
told_claims (Wrong a exit) = Tells (True (canonical a)) No ∷ []
told_claims (Missing a box_no) = Tells (True (canonical a)) Yes ∷ []
told_claims (NoEnd calls) = []

-- what the entry's lines say, but for those that say nothing
abbrev pub claims_of : Entry → List Claim
claims_of (entry.Run q budget answers filter end) = Runs (query_written q) ∷ ended end
claims_of (entry.Symptom what) = told_claims what
claims_of (entry.Question number x) = Asks (canonical_asked x) ∷ []
claims_of (entry.Replied reply left by_reference) = Replies reply ∷ []
claims_of (entry.Found finding line) = Finds (canonical_finding finding) (line_said finding line) ∷ []
claims_of (entry.AllDescend calls) = Descends calls ∷ []
claims_of (entry.PassedOver line pred) = []
claims_of (entry.Warning line pred) = []
claims_of (entry.Loaded clauses) = []
claims_of (entry.OracleLoaded statements) = []
claims_of (entry.ReferenceLoaded clauses) = []
claims_of (entry.TraceSet filter) = []
claims_of (entry.Known text) = []
claims_of (entry.BadReply reason) = []
claims_of (entry.Unanswered stopped) = []
claims_of (entry.Refused refusal) = []
claims_of (entry.Demo nodes questions clause) = []
claims_of entry.UsageRefused = []
claims_of (entry.ProgramRefused line cause) = []
claims_of (entry.OracleRefused line cause) = []
claims_of (entry.ReferenceRefused line cause) = []
claims_of (entry.CheckHolds findings) = []
claims_of (entry.CheckFails line why) = []
claims_of (entry.FileTooLong length) = []
claims_of entry.InputFault = []
claims_of entry.InputOver = []

abbrev pub all_claims : List Entry → List Claim
all_claims es = flat_map claims_of es
