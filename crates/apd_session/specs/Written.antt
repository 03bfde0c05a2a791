-- What is asked of a session, so that the log that it wrote can be checked.
use Rattle.std.specs.Prelude.{◌≡◌, ℕ, ◌≤◌, List, length}
use Rattle.std.specs.List.{AllByRecursion}
use Rattle.apd_answers.specs.Named.{QuestionIsNamed, ReplyIsNamed}
use Rattle.apd_answers.specs.Store.{Store}
use Rattle.apd_answers.specs.declared.store.Pair.{Pair}
use Rattle.apd_base.specs.declared.limits.TheConstants.{MAX_INPUT}
use Rattle.apd_check.specs.Checked.{IsCheckOf}
use Rattle.apd_check.specs.declared.checked.Checked.{Checked}
use Rattle.apd_check.specs.declared.checked.Checked.TheVariants.{Holds}
use Rattle.apd_clauses.specs.Clauses.{tuples_of}
use Rattle.apd_console.specs.Lines.{InputEnd, hear}
use Rattle.apd_console.specs.declared.line.Line.{Line}
use Rattle.apd_lines.specs.Lines.{LineIsNamed, line_in}
use Rattle.apd_numbering.specs.Given.{IsGivenOf}
use Rattle.apd_numbering.specs.Lists.{BeginAlike}
use Rattle.apd_ops.specs.Table.{Table}
use Rattle.apd_read.specs.Reader.{Reader}
use Rattle.apd_reading_back.specs.Law.{AreNames}
use Rattle.apd_reference.specs.Referees.{names_known}
use Rattle.apd_term.specs.Named.{AllTuplesNamed}
use Rattle.apd_text.specs.FilterTerms.{PredsAreNamed}
use Rattle.apd_words.specs.Words.{options_of}
use Rattle.apd_session.specs.Opening.{opening_of}
use Rattle.apd_session.specs.Session.{World, session_of}
use Rattle.apd_session.specs.declared.opening.Course.TheVariants.{Hears}
use Rattle.apd_session.specs.declared.opening.Opening.TheVariants.{Open}
use Rattle.apd_session.specs.declared.opening.Start.{Start}
use Rattle.apd_talk.specs.Speech.{Lasting}
use Rattle.apd_talk.specs.Utterance.{Utterance, entries_of, texts_of}
use Rattle.apd_text.specs.declared.entry.Entry.{Entry}
use Rattle.apd_upheld.specs.Fair.{AreRunsInSize}
use Rattle.apd_upheld.specs.Good.{count_found}
use Rattle.apd_written.specs.Claims.{all_claims}
use Rattle.apd_written.specs.Conditions.{AllSayable, LeavesMeanings}
use Rattle.apd_written.specs.Texts.{IsShort}

-- the words and the files are such that the lines of the input are heard: with these operators, and from this start
pub record IsHeard {names : List (List ℕ)} (words : List (List ℕ)) (reader : Reader names) (world : World) : Type 0 where
  pub ops : Table
  pub start : Start
  pub opens : opening_of reader world.files (options_of words) ≡ Open ops start Hears

-- each question and reply of the store, and each predicate that is trusted, has names among the first n
pub record StoreIsNamed (n : ℕ) (store : Store) : Type 0 where
  pub pairs : AllByRecursion (λ (p : Pair). QuestionIsNamed n p.question × ReplyIsNamed n p.reply) store.pairs
  pub trust : PredsAreNamed n store.trusted

-- the names that were read are kept: those of the program, of the replies that are known before, of whoever is asked before the user,
-- and of each line that was heard
pub record AreKept {names : List (List ℕ)} (reader : Reader names) (input : List ℕ) (ends : InputEnd) (ops : Table) (start : Start) : Type 0 where
  pub program : AllTuplesNamed (length names) (tuples_of start.state.program)
  pub known : StoreIsNamed (length names) start.state.replies
  pub referee : names_known start.state.referee ≤ length names
  pub lines : AllByRecursion (λ (line : Line). LineIsNamed (length names) (line_in reader ops line)) (hear MAX_INPUT input ends).lines

-- what a session utters
abbrev pub uttered_in : {names : List (List ℕ)} → List (List ℕ) → Reader names → World → List (Utterance Entry)
uttered_in words reader world = (session_of words reader world).utterances

-- Lines are heard, whose names are kept, as are those of all that was read. The program leaves some names their meanings. No run's
-- query became too large; what was said has few levels and the numbers of symbols; and it is no longer than a file may be.
pub record CanBeChecked {names : List (List ℕ)} (words : List (List ℕ)) (reader : Reader names) (world : World) : Type 0 where
  pub heard : IsHeard words reader world
  pub kept : AreKept reader world.input world.ends heard.ops heard.start
  pub meanings : LeavesMeanings heard.ops
  pub in_size : AreRunsInSize (entries_of (uttered_in words reader world))
  pub sayable : AllSayable heard.ops names (entries_of (uttered_in words reader world))
  pub short : IsShort (texts_of (uttered_in words reader world))

-- what a session wrote holds, where it can be checked: the check of its text, for the same program, operators and known replies, finds
-- each line good, and as many findings as its entries claim
abbrev pub WroteWhatHolds : {names : List (List ℕ)} → List (List ℕ) → Reader names → World → Type 0
WroteWhatHolds {names} words reader world = AreNames names → (x : CanBeChecked words reader world)
    → IsCheckOf x.heard.start.state.program x.heard.ops reader x.heard.start.state.replies (texts_of (uttered_in words reader world)) (Holds (count_found (all_claims (entries_of (uttered_in words reader world)))))

-- And whoever numbers names otherwise finds that: under any other names that begin with those of the program, its operators and the
-- known replies, what the check finds, whatever names come later, is that each line is good, and as many findings.
abbrev pub WroteWhatHoldsElsewhere : {names : List (List ℕ)} → List (List ℕ) → Reader names → World → Type 0
WroteWhatHoldsElsewhere {names} words reader world = AreNames names → (x : CanBeChecked words reader world) → (n : ℕ)
    → IsGivenOf n x.heard.start.state.program x.heard.ops x.heard.start.state.replies → (others : List (List ℕ)) → BeginAlike n names others → (result : Checked)
    → Lasting others (λ later. (other : Reader later) → IsCheckOf x.heard.start.state.program x.heard.ops other x.heard.start.state.replies (texts_of (uttered_in words reader world)) result)
    → result ≡ Holds (count_found (all_claims (entries_of (uttered_in words reader world))))
