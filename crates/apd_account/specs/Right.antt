-- When the entries of a log are right: they follow the definition of each diagnosis; what is found is a bug, calls that all descend do
-- so, what is asked isn't known yet, and a reply leaves few suspects.
use Rattle.std.specs.Prelude.{◌≡◌, ℕ, ◌<◌, List, [], ◌∷◌, length, Option, None, Some, IfSome, IsSome, Bool, true, false, ⊤}
use Rattle.apd_term.specs.Term.{Term}
use Rattle.apd_clauses.specs.declared.clause.Clause.{Clause}
use Rattle.apd_clauses.specs.Clauses.{tuples_of}
use Rattle.apd_answers.specs.declared.finding.Finding.{Finding}
use Rattle.apd_answers.specs.declared.question.Reply.{Reply}
use Rattle.apd_answers.specs.declared.question.Reply.TheVariants.{Unknown}
use Rattle.apd_answers.specs.declared.question.Asked.{Asked}
use Rattle.apd_answers.specs.Interpretation.{Interpretation}
use Rattle.apd_answers.specs.Questions.{FitsAsked, IsTrueReply}
use Rattle.apd_answers.specs.Store.{Store, decided, is_doubted, is_kept, with_pair, AreTruePairs}
use Rattle.apd_answers.specs.Trust.{AreTrue}
use Rattle.apd_answers.specs.Dialogue.{Turn, asks, ends}
use Rattle.apd_answers.specs.Findings.{AllDescendByReplies, Descends, IsByReplies}
use Rattle.apd_answers.specs.Bugs.{IsBug}
use Rattle.apd_divide.specs.declared.node.Strategy.{Strategy}
use Rattle.apd_divide.specs.declared.node.Strategy.TheVariants.{Divide}
use Rattle.apd_divide.specs.Exits.{IsUserExit}
use Rattle.apd_divide.specs.Recorded.{tree}
use Rattle.apd_divide.specs.Tree.{Tree, branching}
use Rattle.apd_loop.specs.Known.{IsTreeOfDenied}
use Rattle.apd_loop.specs.Loop.{calls_in}
use Rattle.apd_loop.specs.declared.LoopEnd.{LoopEnd}
use Rattle.apd_loop.specs.declared.LoopEnd.TheVariants.{Found, AllDescend}
use Rattle.apd_missing.specs.Known.{IsMissing}
use Rattle.apd_record.specs.Recorded.{Recorded, chain}
use Rattle.apd_wrong.specs.Next.{LeavesAtMost}
use Rattle.apd_wrong.specs.Part.{HasNone}
use Rattle.apd_text.specs.declared.entry.Entry.{Entry}
use Rattle.apd_text.specs.declared.entry.Told.{Told}
use Rattle.apd_text.specs.declared.entry.Told.TheVariants.{Wrong, Missing, NoEnd}
use Rattle.apd_account.specs.Account.{Account, Stage, Idle, Moves, Awaits, after_entry}
use Rattle.apd_account.specs.Inquiry.{Inquiry, left_of, next_in, whole_of}
use Rattle.apd_account.specs.Telling.{Telling, Runs, Begins, Asks, Replies, Finds, Clears, Breaks, Other, told_by}

-- the atom is the head of this exit, one of a box of the program's
pub record IsHeadOf (R : Recorded) (number : ℕ) (atom : Term) : Type 0 where
  pub exit : IsUserExit R number
  pub head : exit.point.tuple.head ≡ atom

-- the proof tree of an atom that is the head of this exit
pub record IsTreeOfSymptom (R : Recorded) (number : ℕ) (atom : Term) (x : Tree) : Type 0 where
  pub head : IsHeadOf R number atom
  pub tree_is : x ≡ tree R number atom

-- the tree that a state holds is this, the proof tree of a goal that isn't true by the replies
pub record IsTreeHeld (R : Recorded) (store : Store) (q : Inquiry) (x : Tree) : Type 0 where
  pub held : whole_of q ≡ Some x
  pub of_denied : IsTreeOfDenied R (chain R) store x

-- the tree whose nodes are suspects in a state, by the symptom and the replies: the proof tree of the wrong answer; or, where a run
-- doesn't end, the one that the state holds, of a goal that isn't true by the replies. Where an answer is missing there are no suspects
abbrev pub IsSuspected : Recorded → Store → Option Told → Inquiry → Tree → Type 0
IsSuspected R store None q x = ⊥
IsSuspected R store (Some (Wrong atom exit)) q x = IsTreeOfSymptom R exit.0 atom x
IsSuspected R store (Some (Missing atom box_no)) q x = ⊥
IsSuspected R store (Some (NoEnd calls)) q x = IsTreeHeld R store q x

-- of so many suspects fewer are left in a state; under divide and query, where of no label of their tree it is kept that it isn't known, at
-- most (2b - 1) / (2b) of them, for each b from 1 on that is no less than the number of children of any node of the tree
pub record LeavesFewer (strategy : Strategy) (R : Recorded) (store : Store) (symptom : Option Told) (before : ℕ) (q : Inquiry) : Type 0 where
  pub after : ℕ
  pub left_is : left_of q ≡ Some after
  pub fewer : after < before
  pub whole : Tree
  pub suspected : IsSuspected R store symptom q whole
  pub fraction : strategy ≡ Divide → HasNone (is_doubted store) whole → LeavesAtMost (branching whole) before after

-- what a reply to what was asked leaves in the state that it leads to, of as many suspects as the question counted, if it did
abbrev pub Leaves : Strategy → Recorded → Store → Option Told → Asked → Reply → Inquiry → Type 0
Leaves strategy R store symptom asked reply q =
    IfSome asked.suspects (λ before. LeavesFewer strategy R (with_pair store asked.question reply) symptom before q)

-- a reply is marked as given without a line exactly where there is one to the question, and then it is that one
abbrev pub IsReferred : Option Reply → Reply → Bool → Type 0
IsReferred given reply true = given ≡ Some reply
IsReferred given reply false = given ≡ None

-- a reply answers the question that waits, it leaves as many suspects as the state that it leads to has, and where the question
-- counted them, fewer
pub record IsAnswer (strategy : Strategy) (a : Account) (reply : Reply) (left : Option ℕ) (by_reference : Bool) : Type 0 where
  pub asked : Asked
  pub next : Reply → Inquiry
  pub waits : a.stage ≡ Awaits asked next
  pub fits : FitsAsked asked reply
  pub referred : IsReferred (a.replies asked.question) reply by_reference
  pub left_is : left ≡ left_of (next reply)
  pub leaves : Leaves strategy a.history a.store a.symptom asked reply (next reply)

-- a reply that is marked as given without a line is true
abbrev pub IsTrueIfGiven : Interpretation → Stage → Reply → Bool → Type 0
IsTrueIfGiven m stage reply false = ⊤
IsTrueIfGiven m Idle reply true = ⊤
IsTrueIfGiven m (Moves q) reply true = ⊤
IsTrueIfGiven m (Awaits asked next) reply true = IsTrueReply m asked.question reply

abbrev pub IsTrueTelling : Interpretation → Account → Telling → Type 0
IsTrueTelling m a (Runs q budget answers end) = ⊤
IsTrueTelling m a (Begins what) = ⊤
IsTrueTelling m a (Asks asked) = ⊤
IsTrueTelling m a (Replies reply left by_reference) = IsTrueIfGiven m a.stage reply by_reference
IsTrueTelling m a (Finds finding) = ⊤
IsTrueTelling m a (Clears calls) = ⊤
IsTrueTelling m a Breaks = ⊤
IsTrueTelling m a Other = ⊤

-- a reply of this entry that is marked so is true
abbrev pub IsTrueIfMarked : Interpretation → Account → Entry → Type 0
IsTrueIfMarked m a e = IsTrueTelling m a (told_by e)

-- a question has no reply yet: it isn't decided, and where it counts the suspects, it isn't kept that it isn't known
pub record IsUnanswered (store : Store) (asked : Asked) : Type 0 where
  pub undecided : decided store asked.question ≡ None
  pub unreplied : IsSome asked.suspects → is_kept store asked.question Unknown ≡ false

-- what a symptom names is there in the run: an exit with this head; a box in which this answer is missing; so many calls of the chain
abbrev pub IsOfRun : Recorded → Told → Type 0
IsOfRun R (Wrong atom exit) = IsHeadOf R exit.0 atom
IsOfRun R (Missing atom box_no) = IsMissing R box_no atom
IsOfRun R (NoEnd calls) = calls ≡ length (chain R)

-- a symptom is told where no diagnosis goes on
pub record IsSymptom (a : Account) (what : Told) : Type 0 where
  pub idle : a.stage ≡ Idle
  pub of_run : IsOfRun a.history what

module _ (program : List Clause) (strategy : Strategy) where
  -- the turn that is due: what comes next in the diagnosis that goes on
  pub record IsDue (a : Account) (turn : Turn Inquiry LoopEnd) : Type 0 where
    pub inquiry : Inquiry
    pub stage : a.stage ≡ Moves inquiry
    pub next : next_in (tuples_of program) strategy a.history a.store inquiry ≡ turn

  -- what is asked is what the turn that is due asks: of the suspect that the strategy chooses, with the count of suspects; and it has
  -- no reply yet
  pub record IsQuestion (a : Account) (asked : Asked) : Type 0 where
    pub next : Reply → Inquiry
    pub due : IsDue a (asks asked next)
    pub unanswered : IsUnanswered a.store asked

  -- what was found is what the turn that is due ends in. It follows from the replies; and it is a bug where they are all true, the
  -- symptoms and the trust among them. Of candidates that means that one at least is wrong
  pub record IsFound (m : Interpretation) (a : Account) (finding : Finding) : Type 0 where
    pub due : IsDue a (ends (Found finding))
    pub by_replies : IsByReplies (tuples_of program) a.history a.store finding
    pub bug : AreTrue (tuples_of program) m a.store → IsBug (tuples_of program) a.history m finding

  -- that all calls descend is what the turn that is due ends in. The calls of the last run's chain are so many; by the replies each is
  -- below the one before, and so it is where they are all true
  pub record IsDescent (m : Interpretation) (a : Account) (calls : ℕ) : Type 0 where
    pub due : IsDue a (ends AllDescend)
    pub count : calls ≡ length (chain a.history)
    pub by_replies : AllDescendByReplies a.store (calls_in a.history (chain a.history))
    pub descends : AreTruePairs m a.store.pairs → Descends m (calls_in a.history (chain a.history))

module _ (m : Interpretation) (program : List Clause) (strategy : Strategy) where
  abbrev pub IsRightTelling : Account → Telling → Type 0
  IsRightTelling a (Runs q budget answers end) = ⊤
  IsRightTelling a (Begins what) = IsSymptom a what
  IsRightTelling a (Asks asked) = IsQuestion program strategy a asked
  IsRightTelling a (Replies reply left by_reference) = IsAnswer strategy a reply left by_reference
  IsRightTelling a (Finds finding) = IsFound program strategy m a finding
  IsRightTelling a (Clears calls) = IsDescent program strategy m a calls
  IsRightTelling a Breaks = ⊤
  IsRightTelling a Other = ⊤

  -- an entry is right after what was told
  abbrev pub IsRight : Account → Entry → Type 0
  IsRight a e = IsRightTelling a (told_by e)

  -- each reply that is marked is true
  abbrev pub AreTrueIfMarked : Account → List Entry → Type 0
  AreTrueIfMarked a [] = ⊤
  AreTrueIfMarked a (e ∷ es) = IsTrueIfMarked m a e × AreTrueIfMarked (after_entry program strategy a e) es

  -- each entry is right after those before it
  abbrev pub AreRight : Account → List Entry → Type 0
  AreRight a [] = ⊤
  AreRight a (e ∷ es) = IsRight a e × AreRight (after_entry program strategy a e) es
