-- The entries of a diagnosis are right: of each of the three.
use Rattle.std.proofs.Common.{◌≡◌, ℕ, Bool, List, [], ◌∷◌, Option, Some, refl, ap, subst, map, ◌∙◌}
use Rattle.std.specs.Prelude.{length}
use Rattle.apd_term.specs.Term.{Term}
use Rattle.apd_term.specs.Canonical.{canonical}
use Rattle.apd_term.specs.Substitution.{IsInstance}
use Rattle.apd_term.specs.declared.tuple.Tuple.{Tuple}
use Rattle.apd_term.proofs.Variants.{IsInstance_from_variants, canonical-canonical}
use Rattle.apd_record.specs.Reading.{call_atom}
use Rattle.apd_record.specs.Recorded.{Recorded, chain}
use Rattle.apd_record.specs.Sound.{IsSound}
use Rattle.apd_clauses.specs.declared.clause.Clause.{Clause}
use Rattle.apd_clauses.specs.Clauses.{tuples_of}
use Rattle.apd_answers.specs.declared.finding.Finding.{Finding}
use Rattle.apd_answers.specs.declared.question.Reply.{Reply}
use Rattle.apd_answers.specs.declared.question.Asked.{Asked}
use Rattle.apd_answers.specs.Interpretation.{Interpretation}
use Rattle.apd_answers.specs.Questions.{FitsAsked}
use Rattle.apd_answers.specs.Store.{Store, with_pair}
use Rattle.apd_answers.specs.Dialogue.{Turn, asks, goes, ends, next_turn}
use Rattle.apd_answers.specs.Findings.{AllDescendByReplies, Descends, IsByReplies}
use Rattle.apd_answers.proofs.Decided.{added-no}
use Rattle.apd_answers.proofs.Sound.{finding-sound, descent-sound}
use Rattle.apd_divide.specs.declared.node.Strategy.{Strategy}
use Rattle.apd_divide.specs.Recorded.{tree}
use Rattle.apd_divide.specs.Tree.{Tree, suspects}
use Rattle.apd_loop.specs.Loop.{calls_in}
use Rattle.apd_loop.specs.declared.LoopEnd.{LoopEnd}
use Rattle.apd_loop.specs.declared.LoopEnd.TheVariants.{AllDescend}
use Rattle.apd_loop.specs.declared.LoopEnd.TheVariants as loop_ends
use Rattle.apd_text.specs.declared.entry.Told.{Told}
use Rattle.apd_text.specs.declared.entry.Told.TheVariants.{Wrong}
use Rattle.apd_wrong.specs.Wrong.{wrong}
use Rattle.apd_wrong.specs.Next.{AsksInTree, ComesNext}
use Rattle.apd_wrong.specs.Part.{IsPartOf}
use Rattle.apd_wrong.specs.Support.{IsWrongTree}
use Rattle.apd_wrong.proofs.Next.{comes-next}
use Rattle.apd_wrong.proofs.Part.{part-whole}
use Rattle.apd_wrong.proofs.Recorded.{tree-wrong}
use Rattle.apd_ports.specs.declared.point.PointId.{PointId}
use Rattle.apd_account.specs.Account.{Account, Stage, Awaits, after_turn, at_stage, with_question, with_reply, with_told}
use Rattle.apd_account.specs.Inquiry.{Inquiry, OfWrong, left_of}
use Rattle.apd_account.specs.Right.{IsAnswer, IsDescent, IsDue, IsFound, IsHeadOf, IsReferred, IsTreeOfSymptom, IsUnanswered, Leaves}

-- what was found by the replies
pub found-right : (m : Interpretation) (program : List Clause) (strategy : Strategy) (a : Account) (f : Finding) → IsSound (tuples_of program) a.history → IsDue program strategy a (ends (loop_ends.Found f)) → IsByReplies (tuples_of program) a.history a.store f
    → IsFound program strategy m a f
found-right m program strategy a f sound due by = record { due = due; by_replies = by; bug = λ true. finding-sound (tuples_of program) a.history m a.store f true sound by }

-- calls of which each is below the one before
canonical-again : (R : Recorded) (bs : List ℕ) → map canonical (calls_in R bs) ≡ calls_in R bs
canonical-again R [] = refl
canonical-again R (b ∷ bs) = rw (canonical-canonical (call_atom R b), canonical-again R bs) refl

pub descent-right : (m : Interpretation) (program : List Clause) (strategy : Strategy) (a : Account) → IsDue program strategy a (ends AllDescend) → AllDescendByReplies a.store (calls_in a.history (chain a.history))
    → IsDescent program strategy m a (length (chain a.history))
descent-right m program strategy a due by = record {
  due = due;
  count = refl;
  by_replies = by;
  descends = λ true. subst (Descends m) (canonical-again a.history (chain a.history)) (descent-sound m a.store true (calls_in a.history (chain a.history)) by);
}

-- A diagnosis whose states are known by the record, the replies and the symptom.
module _ {D : Type 0} (strategy : Strategy) (Known : Recorded → Store → Option Told → D → Type 0) (left : D → Option ℕ) (state : D → Inquiry) where
  -- the question has no reply yet, and each reply that fits leads to a known state, with fewer suspects where they were counted
  pub record AsksRightly (R : Recorded) (store : Store) (symptom : Option Told) (asked : Asked) (next : Reply → D) : Type 0 where
    pub unanswered : IsUnanswered store asked
    pub known : (r : Reply) → FitsAsked asked r → Known R (with_pair store asked.question r) symptom (next r)
    pub leaves : (r : Reply) → FitsAsked asked r → Leaves strategy R store symptom asked r (state (next r))

  -- a question that was asked rightly waits for its reply
  pub record Waits (a : Account) (asked : Asked) (next : Reply → D) : Type 0 where
    pub stage : a.stage ≡ Awaits asked (λ r. state (next r))
    pub asks : AsksRightly a.history a.store a.symptom asked next

  pub waits : (a : Account) (asked : Asked) (next : Reply → D) → AsksRightly a.history a.store a.symptom asked next → Waits (at_stage a (Awaits asked (λ r. state (next r)))) asked next
  waits a asked next k = record { stage = refl; asks = record { unanswered = k.unanswered; known = k.known; leaves = k.leaves } }

  -- a reply that fits is right
  pub reply-right : (a : Account) (asked : Asked) (next : Reply → D) (r : Reply) (by_reference : Bool) → Waits a asked next → FitsAsked asked r → IsReferred (a.replies asked.question) r by_reference → left (next r) ≡ left_of (state (next r))
      → IsAnswer strategy a r (left (next r)) by_reference
  reply-right a asked next r by_reference w fits referred is =
      record { asked = asked; next = λ r. state (next r); waits = w.stage; fits = fits; referred = referred; left_is = is; leaves = w.asks.leaves r fits }

-- the next turn of a known state: a question that is asked rightly, or an end
module _ {D E : Type 0} (strategy : Strategy) (Known : Recorded → Store → Option Told → D → Type 0) (left : D → Option ℕ) (state : D → Inquiry) (IsEnd : Recorded → Store → E → Type 0) where
  abbrev pub RightTurn : Recorded → Store → Option Told → Turn D E → Type 0
  RightTurn R store symptom (asks asked next) = AsksRightly strategy Known left state R store symptom asked next
  RightTurn R store symptom (goes x) = ⊥
  RightTurn R store symptom (ends e) = IsEnd R store e

-- what is told after a question of the turn that is due, and after a reply to what waits
pub question-is : (program : List Clause) (strategy : Strategy) (a : Account) (asked : Asked) (next : Reply → Inquiry) → IsDue program strategy a (asks asked next) → with_question program strategy a a.stage ≡ at_stage a (Awaits asked next)
question-is program strategy a asked next due =
    ap (with_question program strategy a) due.stage ∙ ap (λ (t : Turn Inquiry LoopEnd). at_stage a (after_turn t)) due.next

pub replied-is : (a : Account) (asked : Asked) (next : Reply → Inquiry) (r : Reply) → a.stage ≡ Awaits asked next → with_reply a a.stage r ≡ with_reply a (Awaits asked next) r
replied-is a asked next r e = ap (λ (s : Stage). with_reply a s r) e

-- The diagnosis of a wrong answer.

-- a tree of a wrong answer that is a part of the symptom's
pub record IsKnownTree (P : List Tuple) (R : Recorded) (store : Store) (symptom : Option Told) (x : Tree) : Type 0 where
  pub atom : Term
  pub exit : PointId
  pub symptom_is : symptom ≡ Some (Wrong atom exit)
  pub whole : Tree
  pub of_symptom : IsTreeOfSymptom R exit.0 atom whole
  pub wrong : IsWrongTree P R store x
  pub part : IsPartOf whole x

abbrev pub wrong_left : Tree → Option ℕ
wrong_left x = Some (suspects x)

module _ (P : List Tuple) (strategy : Strategy) where
  wrong_asks : (R : Recorded) (store : Store) (symptom : Option Told) (x : Tree) (asked : Asked) (next : Reply → Tree) → (k : IsKnownTree P R store symptom x) → AsksInTree P R strategy store k.whole asked next
      → AsksRightly strategy (IsKnownTree P) wrong_left OfWrong R store symptom asked next
  wrong_asks R store symptom x asked next k a = record {
    unanswered = record { undecided = a.undecided; unreplied = λ counted. a.unreplied };
    known = λ r fits. record {
      atom = k.atom;
      exit = k.exit;
      symptom_is = k.symptom_is;
      whole = k.whole;
      of_symptom = k.of_symptom;
      wrong = (a.left r fits).wrong;
      part = (a.left r fits).part;
    };
    leaves = λ r fits. rw a.counted (record {
      after = suspects (next r);
      left_is = refl;
      fewer = (a.left r fits).fewer;
      whole = k.whole;
      suspected = rw k.symptom_is k.of_symptom;
      fraction = (a.left r fits).fraction;
    });
  }

  -- its next turn
  abbrev pub WrongTurn : Recorded → Store → Option Told → Turn Tree Finding → Type 0
  WrongTurn = RightTurn strategy (IsKnownTree P) wrong_left OfWrong (IsByReplies P)

  wrong_turn-by : (R : Recorded) (store : Store) (symptom : Option Told) (x : Tree) (k : IsKnownTree P R store symptom x) (turn : Turn Tree Finding) → ComesNext P R strategy store k.whole turn → WrongTurn R store symptom turn
  wrong_turn-by R store symptom x k (asks asked next) c = wrong_asks R store symptom x asked next k c
  wrong_turn-by R store symptom x k (goes y) c = absurd c
  wrong_turn-by R store symptom x k (ends f) c = c

  pub wrong_turn : (R : Recorded) (store : Store) (symptom : Option Told) (x : Tree) → IsKnownTree P R store symptom x → WrongTurn R store symptom (next_turn (wrong strategy) store x)
  wrong_turn R store symptom x k =
      wrong_turn-by R store symptom x k (next_turn (wrong strategy) store x) (comes-next P R strategy store k.whole x k.wrong k.part)

-- a symptom begins with the tree of an exit that has it as its head
pub wrong_begins : (P : List Tuple) (R : Recorded) (store : Store) (exit : PointId) (atom : Term) → IsSound P R → IsHeadOf R exit.0 atom
    → IsKnownTree P R (with_told store (Wrong atom exit)) (Some (Wrong atom exit)) (tree R exit.0 atom)
wrong_begins P R store exit atom sound x = record {
  atom = atom;
  exit = exit;
  symptom_is = refl;
  whole = tree R exit.0 atom;
  of_symptom = record { head = x; tree_is = refl };
  wrong =
      let head = x.exit.point.tuple.head in
      tree-wrong P R (with_told store (Wrong atom exit)) sound exit.0 atom x.exit (subst (λ t. IsInstance t head) x.head (IsInstance_from_variants head head refl)) (added-no store atom);
  part = part-whole (tree R exit.0 atom);
}
