-- What the log of a session is worth.
use Rattle.std.specs.Prelude.{ℕ, ◌≡◌, ◌⊎◌, List, IfSome, ⊤}
use Rattle.apd_check.specs.Checked.{after_all, first_state}
use Rattle.apd_check.specs.Right.{AreRight as AllRight, findings_in}
use Rattle.apd_check.specs.declared.checked.Checked.{Checked}
use Rattle.apd_check.specs.declared.checked.Checked.TheVariants.{Holds, Fails}
use Rattle.apd_claims.specs.Saying.{Said, said_in}
use Rattle.apd_account.specs.Account.{account_with}
use Rattle.apd_account.specs.Right.{AreRight, AreTrueIfMarked}
use Rattle.apd_answers.specs.Interpretation.{Interpretation}
use Rattle.apd_answers.specs.Repliers.{nobody}
use Rattle.apd_answers.specs.Store.{Store}
use Rattle.apd_clauses.specs.Clauses.{tuples_of}
use Rattle.apd_clauses.specs.declared.clause.Clause.{Clause}
use Rattle.apd_divide.specs.declared.node.Strategy.{Strategy}
use Rattle.apd_read.specs.Reader.{Reader}
use Rattle.apd_reference.specs.LeastModel.{HoldsLeastModel}
use Rattle.apd_reference.specs.Referees.{program_of_referee, replies_of}
use Rattle.apd_session.specs.Flow.{FlowsTo}
use Rattle.apd_session.specs.Known.{Outside}
use Rattle.apd_session.specs.Opening.{opening_of}
use Rattle.apd_session.specs.Outcome.{Meets, SaysNothing}
use Rattle.apd_session.specs.Written.{WroteWhatHolds}
use Rattle.apd_session.specs.declared.opening.Course.TheVariants.{Hears, Plays, Checks}
use Rattle.apd_session.specs.declared.opening.Opening.{Opening}
use Rattle.apd_session.specs.declared.opening.Opening.TheVariants.{Unloaded, Closed, Open}
use Rattle.apd_session.specs.declared.status.Status.{Status}
use Rattle.apd_talk.specs.Speech.{Lasting}
use Rattle.apd_text.specs.declared.entry.Entry.{Entry}
use Rattle.apd_text.specs.declared.log.Log.{Log}
use Rattle.apd_words.specs.Words.{options_of}

-- entries are right whatever the program, the strategy and the known replies are
abbrev pub AreAlwaysRight : Interpretation → List Entry → Type 0
AreAlwaysRight m entries = (program : List Clause) (strategy : Strategy) (known : Store) → AreRight m program strategy (account_with nobody known) entries

-- entries are right for what a session begins with: where it goes on, for its program and the replies that are known before the first
-- line; where it ends before it hears anything, they are right whatever the program and the replies are.
abbrev pub AreRightFor : Interpretation → List Entry → Opening → Type 0
AreRightFor m entries (Unloaded why) = AreAlwaysRight m entries
AreRightFor m entries (Closed ops b why) = AreAlwaysRight m entries
AreRightFor m entries (Open ops start course) = AreRight m start.state.program start.state.strategy (account_with (replies_of start.state.referee) start.state.replies) entries

-- where a session goes on with a reference program, each reply that is marked as its own is true of an interpretation in which what
-- holds is that program's least model
abbrev pub ReferredRightly : Interpretation → List Entry → Opening → Type 0
ReferredRightly m entries (Unloaded why) = ⊤
ReferredRightly m entries (Closed ops b why) = ⊤
ReferredRightly m entries (Open ops start course) = IfSome (program_of_referee start.state.referee) (λ right. HoldsLeastModel (tuples_of right) m →
    AreTrueIfMarked m start.state.program start.state.strategy (account_with (replies_of start.state.referee) start.state.replies) entries)

-- of a log that says this, so many findings are said; each follows from the replies before it, and where all replies of the log, those
-- known before and the trust are true of the interpretation, it is a bug, candidates that contain one, or calls that all descend
pub record AreFindings (m : Interpretation) (program : List Clause) (known : Store) (said : List Said) (total : ℕ) : Type 0 where
  pub right : AllRight program m (after_all program (first_state known) said).known (first_state known) said
  pub count : total ≡ findings_in said

abbrev pub HoldsRightly : Interpretation → List Clause → Store → List Said → Checked → Type 0
HoldsRightly m program known said (Holds total) = AreFindings m program known said total
HoldsRightly m program known said (Fails line why) = ⊤

-- where a log is checked and holds, its findings are right
abbrev pub ChecksRightly : Interpretation → {names : List (List ℕ)} → Reader names → Opening → Checked → Type 0
ChecksRightly m reader (Unloaded why) verdict = ⊤
ChecksRightly m reader (Closed ops b why) verdict = ⊤
ChecksRightly m reader (Open ops start Hears) verdict = ⊤
ChecksRightly m reader (Open ops start (Plays nodes)) verdict = ⊤
ChecksRightly m reader (Open ops start (Checks text)) verdict = HoldsRightly m start.state.program start.state.replies (said_in reader ops text) verdict

-- a world is met, what was said in it is right, also of a log that is checked, and each diagnosis in it came to an end, unless a question
-- stayed without a reply; and what a session writes in this world holds, where it can be checked
pub record MeetsRightly (m : Interpretation) {names : List (List ℕ)} (words : List (List ℕ)) (reader : Reader names) (p q : Outside) (st : Status) (log : Log) : Type 0 where
  pub meets : Meets words reader p q st log
  pub right : AreRightFor m log.entries.list (opening_of reader meets.world.files (options_of words))
  pub referred : ReferredRightly m log.entries.list (opening_of reader meets.world.files (options_of words))
  pub checked : SaysNothing st log ⊎ ChecksRightly m reader (opening_of reader meets.world.files (options_of words)) meets.world.verdict
  pub flows : FlowsTo st log.entries.list
  pub wrote : WroteWhatHolds words reader meets.world

-- whatever names are kept later and whatever reader there is under them, a world is met rightly
abbrev pub IsRightSession : Interpretation → List (List ℕ) → Outside → Outside → Log → Status → Type 0
IsRightSession m words p q log st =
    Lasting log.names (λ names. (reader : Reader names) → MeetsRightly m words reader p q st log)

-- nothing holds, and no call is below another
abbrev pub nothing_intended : Interpretation
nothing_intended = record { holds = λ a. ⊥; below = λ a b. ⊥; transitive = λ a b c p q. p; irreflexive = λ a p. p }
