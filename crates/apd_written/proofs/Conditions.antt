-- What is proper, has names that are kept and can be said is written and reads back.
use Rattle.std.proofs.Common.{◌≡◌, ℕ, ◌<◌, ◌≤◌, inl, List, [], ◌∷◌, length, map, Option, refl, sym, arith}
use Rattle.std.specs.Prelude.{◌^◌, pos}
use Rattle.std.specs.List.{AllByRecursion}
use Rattle.std.proofs.lemmas.List.{length-map}
use Rattle.apd_answers.specs.declared.finding.Finding.{Finding}
use Rattle.apd_answers.specs.declared.finding.Finding.TheVariants.{WrongInstance, Uncovered, Violation, Candidates}
use Rattle.apd_answers.specs.declared.question.Question.{Question}
use Rattle.apd_answers.specs.declared.question.Question.TheVariants as asks
use Rattle.apd_answers.specs.declared.question.Reply.{Reply}
use Rattle.apd_answers.specs.declared.question.Reply.TheVariants.{Yes, No, Values, Unknown}
use Rattle.apd_causes.specs.declared.run.Query.{Query}
use Rattle.apd_clauses.specs.Kinds.{IsPureGoal, IsUserAtom}
use Rattle.apd_ops.specs.Table.{Table}
use Rattle.apd_reading_back.specs.Law.{IsInRange, IsWritable}
use Rattle.apd_reading_back.specs.Queries.{AreReadable, IsCompound, IsGoal}
use Rattle.apd_term.specs.Canonical.{by_appearance, canonical, place_of}
use Rattle.apd_term.specs.Named.{AllNamed, IsNamed, TupleIsNamed}
use Rattle.apd_term.specs.Term.{IsGround, Term, apply, variable, variables, integer}
use Rattle.apd_term.specs.Tuple.{canonical_tuple, variables_of_tuple}
use Rattle.apd_term.specs.declared.instance.Instance.{Instance}
use Rattle.apd_term.specs.declared.standard.TheConstants.{NECK}
use Rattle.apd_term.specs.declared.tuple.Tuple.{Tuple}
use Rattle.apd_term.proofs.Ground.{canonical-ground}
use Rattle.apd_term.proofs.Named.{AllNamed-map, IsNamed-canonical, TupleIsNamed-canonical}
use Rattle.apd_term.proofs.Variants.{canonical-canonical}
use Rattle.apd_record.proofs.Atoms.{IsPureGoal-apply, IsUserAtom-apply}
use Rattle.apd_text.specs.ClauseTerms.{clause_term}
use Rattle.apd_term.specs.Listed.{list_term}
use Rattle.apd_text.specs.Lines.{goals_of}
use Rattle.apd_text.specs.Named.{FindingIsNamed, HasStandardNames, QuestionIsNamed, ReplyIsNamed, ToldIsNamed}
use Rattle.apd_text.proofs.MoreNames.{clause_named, list_named, neck_named}
use Rattle.apd_text.specs.declared.entry.Told.{Told}
use Rattle.apd_text.specs.declared.entry.Told.TheVariants.{Wrong, Missing, NoEnd}
use Rattle.apd_text.specs.declared.entry.Entry.{Entry}
use Rattle.apd_text.specs.declared.entry.Entry.TheVariants as entry
use Rattle.apd_kept.proofs.Forms.{list_ground}
use Rattle.apd_written.specs.Conditions.{AllSayable, AreValuesSayable, IsAtomSayable, IsClauseSayable, IsFindingSayable, IsOrderSayable, IsQuerySayable, IsQuestionSayable, IsReplySayable, IsSayable, IsSymptomSayable, LeavesMeanings, MayBeAsked}
use Rattle.apd_written.specs.Numbers.{AllNumbered, IsFindingNumbered, IsNumbered, IsReplyNumbered}
use Rattle.apd_written.specs.Proper.{AllHaveNames, AllProper, AreProperGoals, HasNames, IsProper, IsProperClause, IsProperFinding, IsProperQuestion, IsProperReply}
use Rattle.apd_written.specs.Says.{HasNoBreak}
use Rattle.apd_written.specs.Texts.{AreTellable, IsClauseTellable, IsInstanceTellable, IsAsked, IsPrintable, IsTellable}
use Rattle.apd_written.specs.Uttered.{AllWritten, IsFindingWritten, IsQuestionWritten, IsReplyWritten, IsSymptomWritten, IsWritten}
use Rattle.apd_written.proofs.PureGoals.{own-head, pure-body, pure-compound, pure-ones}
use Rattle.apd_written.proofs.Together.{clause-form, order-form, query-form}

-- What terms are in canonical form.

pure-map : (s : ℕ → Term) (ts : List Term) → AllByRecursion IsPureGoal ts → AllByRecursion IsPureGoal (map (apply s) ts)
pure-map s [] pure = tt
pure-map s (t ∷ ts) pure = (IsPureGoal-apply s t pure.0, pure-map s ts pure.1)

module _ (ops : Table) (names : List (List ℕ)) (standard : HasStandardNames (length names)) (meanings : LeavesMeanings ops) where
  abbrev IsKept : Term → Type 0
  IsKept t = IsNamed (length names) t

  neck : NECK.0 < length names
  neck = neck_named (length names) standard

  writable : (t : Term) → canonical t ≡ t → IsKept t → IsInRange t → IsWritable names t
  writable t form kept in_range = record { named = kept; canonical = form; in_range = in_range }

  goal_is : (t : Term) → IsCompound t → IsKept t → IsInRange t → IsGoal names t
  goal_is t atom kept in_range = record { atom = atom; named = kept; in_range = in_range }

  atom-tellable : (a : Term) → IsKept a → IsAtomSayable ops names a → IsTellable ops names a
  atom-tellable a kept h = record { writable = writable (canonical a) (canonical-canonical a) (IsNamed-canonical (length names) a kept) h.in_range; shallow = h.shallow }

  clause-tellable : (t : Tuple) → IsProperClause t → TupleIsNamed (length names) t → IsClauseSayable ops names t → IsClauseTellable ops names t
  clause-tellable t proper kept h =
      let form = TupleIsNamed-canonical (length names) t kept in
      let order : ℕ → Term = λ v. variable (place_of (by_appearance (variables_of_tuple t)) v) in
      record {
        writable = writable (clause_term (canonical_tuple t)) (clause-form t) (clause_named (length names) (canonical_tuple t).head (canonical_tuple t).body neck form.0 form.1) h.in_range;
        shallow = h.shallow;
        goals = pure-ones (canonical_tuple t).body (pure-map order t.body proper.pure);
        head = own-head (canonical_tuple t).head (IsUserAtom-apply order t.head proper.head);
      }

  instances-tellable : (cs : List Instance) → AllByRecursion (λ (c : Instance). IsProperClause c.tuple) cs → AllByRecursion (λ (c : Instance). TupleIsNamed (length names) c.tuple) cs → AllByRecursion (λ (c : Instance). c.clause < 2 ^ 32) cs → AllByRecursion (λ (c : Instance). IsClauseSayable ops names c.tuple) cs → AllByRecursion (IsInstanceTellable ops names) cs
  instances-tellable [] proper kept few h = tt
  instances-tellable (c ∷ cs) proper kept few h = (record { few = few.0; clause = clause-tellable c.tuple proper.0 kept.0 h.0 }, instances-tellable cs proper.1 kept.1 few.1 h.1)

  -- The goals of a query.
  goals-are : (gs : List Term) → AllByRecursion IsPureGoal gs → AllNamed (length names) gs → AllByRecursion IsInRange gs → AllByRecursion (IsGoal names) gs
  goals-are [] pure kept ranges = tt
  goals-are (g ∷ gs) pure kept ranges = (goal_is g (pure-compound g pure.0) kept.0 ranges.0, goals-are gs pure.1 kept.1 ranges.1)

  query-printable : (q : Query) → AreProperGoals q.tuple.body → AllNamed (length names) q.tuple.body → IsQuerySayable ops names q → IsPrintable ops names q
  query-printable q proper kept h =
      let whole : Tuple = record { head = integer (pos 0); body = q.tuple.body } in
      let order : ℕ → Term = λ v. variable (place_of (by_appearance (variables_of_tuple whole)) v) in
      let same : length (goals_of q) ≡ length q.tuple.body = length-map q.tuple.body (apply order) in
      by (goals_of q) refl (pure-map order q.tuple.body proper.pure) (let some = proper.some in omega (arith, same, some)) (let few = proper.few in omega (arith, same, few)) (AllNamed-map (length names) order q.tuple.body (λ v. tt) kept) h.first h.in_range
    where
      by : (gs : List Term) → goals_of q ≡ gs → AllByRecursion IsPureGoal gs → 0 < length gs → length gs ≤ 64 → AllNamed (length names) gs → MayBeAsked ops names gs → AllByRecursion IsInRange gs → IsPrintable ops names q
      by [] is pure some few kept_so first ranges = absurd (omega (arith, some))
      by (g ∷ gs) is pure some few kept_so first ranges = record {
        goal = g;
        goals = gs;
        are = is;
        askable = record { means = meanings.query; first = first.0; goals_are = goals-are (g ∷ gs) pure kept_so ranges; form = query-form q g gs is; shallow = first.1 };
        one = pure-ones (g ∷ gs) pure;
        clean = pure-body (g ∷ gs) few pure;
      }

  query-asked : (q : Query) → AreProperGoals q.tuple.body → TupleIsNamed (length names) q.tuple × AllByRecursion HasNoBreak q.vars → IsQuerySayable ops names q → IsAsked ops names q
  query-asked q proper kept h = record { goals = query-printable q proper kept.0.1 h; variables = kept.1 }

  -- The other entries.
  order-readable : (q p : Term) → IsUserAtom q → IsUserAtom p → IsKept q → IsKept p → IsOrderSayable ops names q p → AreReadable ops names (canonical q) (canonical p ∷ [])
  order-readable q p own_q own_p kept_q kept_p h =
      let in_form : (t : Term) → IsUserAtom t → IsCompound (canonical t) = λ t own. pure-compound (canonical t) (inl (IsUserAtom-apply (λ v. variable (place_of (by_appearance (variables t)) v)) t own)) in
      record {
        goals_are = (goal_is (canonical q) (in_form q own_q) (IsNamed-canonical (length names) q kept_q) h.below, (goal_is (canonical p) (in_form p own_p) (IsNamed-canonical (length names) p kept_p) h.above, tt));
        form = order-form (canonical q) (canonical p) (canonical-canonical q) (canonical-canonical p);
        shallow = h.shallow;
      }

  question-written : (q : Question) → IsProperQuestion q → QuestionIsNamed (length names) q → IsQuestionSayable ops names q → IsQuestionWritten ops names q
  question-written (asks.True a) proper kept h = atom-tellable a kept h
  question-written (asks.Covers t) proper kept h = clause-tellable t proper kept h
  question-written (asks.Below q p) proper kept h = order-readable q p proper.0 proper.1 kept.0 kept.1 h

  values-tellable : (values : List Term) → AllByRecursion IsGround values → AllNamed (length names) values → AreValuesSayable ops names values → AreTellable ops names values
  values-tellable values ground kept h = record { writable = writable (list_term values) (sym (canonical-ground (list_term values) (list_ground values ground))) (list_named (length names) values neck kept) h.in_range; shallow = h.shallow }

  reply-written : (r : Reply) (left : Option ℕ) → IsProperReply r → ReplyIsNamed (length names) r → IsReplyNumbered r left → IsReplySayable ops names r → IsReplyWritten ops names r left
  reply-written Yes left proper kept few h = few
  reply-written No left proper kept few h = few
  reply-written Unknown left proper kept few h = few
  reply-written (Values values) left proper kept few h = (few, values-tellable values proper kept h)

  symptom-written : (what : Told) → ToldIsNamed (length names) what → IsSymptomSayable ops names what → IsSymptomWritten ops names what
  symptom-written (Wrong a exit) kept h = atom-tellable a kept h
  symptom-written (Missing a box_no) kept h = atom-tellable a kept h
  symptom-written (NoEnd calls) kept h = h

  finding-written : (f : Finding) (line : ℕ) → IsProperFinding f → FindingIsNamed (length names) f → IsFindingNumbered f line → IsFindingSayable ops names f → IsFindingWritten ops names f line
  finding-written (WrongInstance clause t) line proper kept few h = (few.0, (few.1, clause-tellable t proper kept h))
  finding-written (Uncovered goal) line proper kept few h = atom-tellable goal kept h
  finding-written (Violation clause goal caller_no callee_no caller callee) line proper kept few h = record {
    clause_few = few.clause_few;
    line_few = few.line_few;
    goal_few = few.goal_few;
    caller_few = few.caller_few;
    callee_few = few.callee_few;
    by = atom-tellable caller kept.0 h.0;
    what = atom-tellable callee kept.1 h.1;
  }
  finding-written (Candidates cs) line proper kept few h = instances-tellable cs proper kept few h

  entry-written : (e : Entry) → IsProper e → HasNames (length names) e → IsNumbered e → IsSayable ops names e → IsWritten ops names e
  entry-written (entry.Run q budget answers filter end) proper kept few h = query-asked q proper kept h
  entry-written (entry.Symptom what) proper kept few h = symptom-written what kept h
  entry-written (entry.Question number x) proper kept few h = (h.0, question-written x.question proper kept h.1)
  entry-written (entry.Replied reply left given) proper kept few h = reply-written reply left proper kept few h
  entry-written (entry.Found f line) proper kept few h = finding-written f line proper kept few h
  entry-written (entry.Known text) proper kept few h = meanings.statements
  entry-written (entry.AllDescend calls) proper kept few h = few
  entry-written (entry.PassedOver line p) proper kept few h = tt
  entry-written (entry.Warning line p) proper kept few h = tt
  entry-written (entry.Loaded n) proper kept few h = tt
  entry-written (entry.OracleLoaded n) proper kept few h = tt
  entry-written (entry.ReferenceLoaded n) proper kept few h = tt
  entry-written (entry.TraceSet filter) proper kept few h = tt
  entry-written (entry.BadReply reason) proper kept few h = tt
  entry-written (entry.Unanswered stopped) proper kept few h = tt
  entry-written (entry.Refused r) proper kept few h = tt
  entry-written (entry.Demo nodes questions clause) proper kept few h = tt
  entry-written entry.UsageRefused proper kept few h = tt
  entry-written (entry.ProgramRefused line cause) proper kept few h = tt
  entry-written (entry.OracleRefused line cause) proper kept few h = tt
  entry-written (entry.ReferenceRefused line cause) proper kept few h = tt
  entry-written (entry.CheckHolds findings) proper kept few h = tt
  entry-written (entry.CheckFails line why) proper kept few h = tt
  entry-written (entry.FileTooLong n) proper kept few h = tt
  entry-written entry.InputFault proper kept few h = tt
  entry-written entry.InputOver proper kept few h = tt

  pub all-written : (es : List Entry) → AllProper es → AllHaveNames (length names) es → AllNumbered es → AllSayable ops names es → AllWritten ops names es
  all-written [] proper kept few h = tt
  all-written (e ∷ es) proper kept few h = (entry-written e proper.0 kept.0 few.0 h.0, all-written es proper.1 kept.1 few.1 h.1)
