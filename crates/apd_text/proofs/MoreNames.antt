-- A text stays where names are put at the end.
use Rattle.std.proofs.Common.{◌≡◌, ℕ, ◌<◌, List, [], ◌∷◌, ◌++◌, length, refl, map, arith}
use Rattle.std.specs.Prelude.{pos, flat_map, Bool, true, false, nat_eq, if◌then◌else◌}
use Rattle.std.specs.List.{AllByRecursion}
use Rattle.apd_term.specs.declared.standard.TheConstants.{CELL, COMMA, DIVIDE, NECK}
use Rattle.apd_term.specs.Term.{Term, Terms, variable, integer, compound, none, more}
use Rattle.apd_term.specs.Named.{IsNamed, AreNamed, AllNamed, TupleIsNamed}
use Rattle.apd_term.specs.Canonical.{canonical}
use Rattle.apd_term.specs.Tuple.{canonical_tuple}
use Rattle.apd_term.specs.declared.instance.Instance.{Instance}
use Rattle.apd_term.specs.declared.tuple.Tuple.{Tuple}
use Rattle.apd_term.specs.declared.term.NameId.{NameId}
use Rattle.apd_term.specs.declared.term.Pred.{Pred}
use Rattle.apd_term.proofs.FirstNames.{length-standard_names}
use Rattle.apd_term.proofs.Named.{IsNamed-canonical, TupleIsNamed-canonical}
use Rattle.apd_term.proofs.Naming.{text_of_name-append}
use Rattle.apd_causes.specs.declared.run.Query.{Query}
use Rattle.apd_causes.specs.declared.faults.LoadCause.{LoadCause}
use Rattle.apd_causes.specs.declared.faults.LoadCause.TheVariants.{Token, Read, Op, Body, ClausesOver}
use Rattle.apd_causes.specs.declared.faults.BodyFault.{BodyFault}
use Rattle.apd_causes.specs.declared.faults.BodyFault.TheVariants as body
use Rattle.apd_ops.specs.Table.{Table}
use Rattle.apd_ports.specs.declared.event.Event.{Event}
use Rattle.apd_ports.specs.declared.filter.Filter.{Filter}
use Rattle.apd_ports.specs.declared.filter.Filter.TheVariants.{Off, All, Leap, Skip}
use Rattle.apd_write.proofs.MoreNames.{written-more}
use Rattle.apd_clauses.specs.Indicators.{indicator_of}
use Rattle.apd_faults.specs.Names.{body_text, cause_text}
use Rattle.apd_answers.specs.declared.question.Question.{Question}
use Rattle.apd_answers.specs.declared.question.Question.TheVariants.{True, Covers, Below}
use Rattle.apd_answers.specs.declared.question.Reply.{Reply}
use Rattle.apd_answers.specs.declared.question.Reply.TheVariants.{Yes, No, Values, Unknown}
use Rattle.apd_answers.specs.declared.finding.Finding.{Finding}
use Rattle.apd_answers.specs.declared.finding.Finding.TheVariants.{WrongInstance, Uncovered, Violation, Candidates}
use Rattle.apd_text.specs.ClauseTerms.{pair, conjunction, with_body, clause_term}
use Rattle.apd_term.specs.Listed.{list_term}
use Rattle.apd_text.specs.Dialogues.{atom_text, candidate_text, clause_text, told_text, asked_text, reply_text, finding_text}
use Rattle.apd_text.specs.declared.entry.Told.{Told}
use Rattle.apd_text.specs.declared.entry.Told.TheVariants.{Wrong, Missing, NoEnd}
use Rattle.apd_text.specs.Entries.{refusal_text, text_of}
use Rattle.apd_causes.specs.Faults.{FaultIsNamed, CauseIsNamed}
use Rattle.apd_text.specs.Named.{RefusalIsNamed, ToldIsNamed, QuestionIsNamed, ReplyIsNamed, FindingIsNamed, HasStandardNames, EntryIsNamed}
use Rattle.apd_text.specs.FilterTerms.{FilterIsNamed, PredsAreNamed, filter_term}
use Rattle.apd_text.specs.Lines.{goal_text, goals_of, head_text, elements, elements_of, bindings, answer_text, port_text}
use Rattle.apd_text.specs.declared.entry.Refusal.{Refusal}
use Rattle.apd_text.specs.declared.entry.Refusal.TheVariants as refusal
use Rattle.apd_text.specs.declared.entry.Entry.{Entry}
use Rattle.apd_text.specs.declared.entry.Entry.TheVariants.{PassedOver, Warning, Loaded, OracleLoaded, ReferenceLoaded, TraceSet, Known, Run, Symptom, Question as Asks, Replied, BadReply, Found, AllDescend, Unanswered, Refused, Demo, UsageRefused, ProgramRefused, OracleRefused, ReferenceRefused, CheckHolds, CheckFails, FileTooLong, InputFault, InputOver}

all_written-more : (ops : Table) (names others : List (List ℕ)) (ts : List Term) → AllNamed (length names) ts → map (goal_text ops (names ++ others)) ts ≡ map (goal_text ops names) ts
all_written-more ops names others [] named = refl
all_written-more ops names others (t ∷ ts) named = rw (written-more ops names others t 999 named.0, all_written-more ops names others ts named.1) refl

pub head_text-more : (ops : Table) (names others : List (List ℕ)) (q : Query) → TupleIsNamed (length names) q.tuple → head_text ops (names ++ others) q ≡ head_text ops names q
unfolding head_text
head_text-more ops names others q named =
    let goals : AllNamed (length names) (goals_of q) = (TupleIsNamed-canonical (length names) (record { head = integer (pos 0); body = q.tuple.body }) (tt, named.1)).1 in
    rw (all_written-more ops names others (goals_of q) goals) refl

mutual
  elements_named : (n : ℕ) (t : Term) → IsNamed n t → AllNamed n (elements t)
  elements_named n (variable v) named = tt
  elements_named n (integer i) named = tt
  elements_named n (compound f ts) named = either (nat_eq f.0 CELL.0) (elements_of_named n ts named.1)
    where
      either : (b : Bool) → AllNamed n (elements_of ts) → AllNamed n (if b then elements_of ts else [])
      either true all = all
      either false all = tt

  elements_of_named : (n : ℕ) (ts : Terms) → AreNamed n ts → AllNamed n (elements_of ts)
  elements_of_named n none named = tt
  elements_of_named n (more t none) named = tt
  elements_of_named n (more t (more u none)) named = (named.0, elements_named n u named.1.0)
  elements_of_named n (more t (more u (more v us))) named = tt

bindings-more : (ops : Table) (names others vars : List (List ℕ)) (values : List Term) → AllNamed (length names) values → bindings ops (names ++ others) vars values ≡ bindings ops names vars values
bindings-more ops names others [] values named = refl
bindings-more ops names others (v ∷ vars) [] named = refl
bindings-more ops names others (v ∷ vars) (t ∷ values) named = rw (written-more ops names others t 699 named.0, bindings-more ops names others vars values named.1) refl

pub answer_text-more : (ops : Table) (names others vars : List (List ℕ)) (number : ℕ) (values : Term) → IsNamed (length names) values → answer_text ops (names ++ others) vars number values ≡ answer_text ops names vars number values
unfolding answer_text
answer_text-more ops names others vars number values named = rw (bindings-more ops names others vars (elements values) (elements_named (length names) values named)) refl

pub port_text-more : (ops : Table) (names others : List (List ℕ)) (e : Event) → IsNamed (length names) e.atom → port_text ops (names ++ others) e ≡ port_text ops names e
unfolding port_text
port_text-more ops names others e named = rw (written-more ops names others e.atom 999 named) refl

body_text-more : (names others : List (List ℕ)) (f : BodyFault) → FaultIsNamed (length names) f → body_text (names ++ others) f ≡ body_text names f
unfolding body_text
body_text-more names others body.Dcg named = refl
body_text-more names others body.NotCallable named = refl
body_text-more names others (body.HeadIsBuiltin p) named = rw (text_of_name-append names others p.name named) refl
body_text-more names others body.VariableGoal named = refl
body_text-more names others body.Cut named = refl
body_text-more names others body.Negation named = refl
body_text-more names others body.Disjunction named = refl
body_text-more names others body.IfThen named = refl
body_text-more names others (body.Impure p) named = rw (text_of_name-append names others p.name named) refl
body_text-more names others body.DcgList named = refl
body_text-more names others body.DcgArity named = refl
body_text-more names others body.BodyOver named = refl
body_text-more names others body.Memory named = refl

cause_text-more : (names others : List (List ℕ)) (c : LoadCause) → CauseIsNamed (length names) c → cause_text (names ++ others) c ≡ cause_text names c
unfolding cause_text
cause_text-more names others (Token f) named = refl
cause_text-more names others (Read f) named = refl
cause_text-more names others (Op c) named = refl
cause_text-more names others (Body f) named = body_text-more names others f named
cause_text-more names others ClausesOver named = refl

refusal_text-more : (names others : List (List ℕ)) (r : Refusal) → RefusalIsNamed (length names) r → refusal_text (names ++ others) r ≡ refusal_text names r
unfolding refusal_text
refusal_text-more names others (refusal.Syntax c) named = rw (cause_text-more names others c named) refl
refusal_text-more names others refusal.TooLong named = refl
refusal_text-more names others refusal.NotACommand named = refl
refusal_text-more names others (refusal.GoalRefused f) named = rw (body_text-more names others f named) refl
refusal_text-more names others refusal.NoRun named = refl
refusal_text-more names others (refusal.NoSuchBox n) named = refl
refusal_text-more names others (refusal.NoSuchExit n) named = refl
refusal_text-more names others (refusal.NotUserBox n) named = refl
refusal_text-more names others (refusal.NotComplete n) named = refl
refusal_text-more names others refusal.NotGround named = refl
refusal_text-more names others refusal.NotInstance named = refl
refusal_text-more names others (refusal.Answered n) named = refl
refusal_text-more names others refusal.NotStopped named = refl
refusal_text-more names others refusal.NoChain named = refl

pair_named : (n : ℕ) (f : NameId) (a b : Term) → f.0 < n → IsNamed n a → IsNamed n b → IsNamed n (pair f a b)
pair_named n f a b name left right = (name, (left, (right, tt)))

conjunction_named : (n : ℕ) (g : Term) (gs : List Term) → NECK.0 < n → IsNamed n g → AllNamed n gs → IsNamed n (conjunction g gs)
conjunction_named n g [] neck first others = first
conjunction_named n g (h ∷ gs) neck first others = pair_named n COMMA g (conjunction h gs) (omega (arith, neck)) first (conjunction_named n h gs neck others.0 others.1)

pub clause_named : (n : ℕ) (head : Term) (body : List Term) → NECK.0 < n → IsNamed n head → AllNamed n body → IsNamed n (with_body head body)
clause_named n head [] neck first others = first
clause_named n head (g ∷ gs) neck first others = pair_named n NECK head (conjunction g gs) neck first (conjunction_named n g gs neck others.0 others.1)

pub list_named : (n : ℕ) (ts : List Term) → NECK.0 < n → AllNamed n ts → IsNamed n (list_term ts)
list_named n [] neck named = (omega (arith, neck), tt)
list_named n (t ∷ ts) neck named = pair_named n CELL t (list_term ts) (omega (arith, neck)) named.0 (list_named n ts neck named.1)

pub neck_named : (n : ℕ) → HasStandardNames n → NECK.0 < n
neck_named n standard = omega (arith, standard, length-standard_names)

atom_text-more : (ops : Table) (names others : List (List ℕ)) (a : Term) → IsNamed (length names) a → atom_text ops (names ++ others) a ≡ atom_text ops names a
atom_text-more ops names others a named = written-more ops names others (canonical a) 999 (IsNamed-canonical (length names) a named)

clause_text-more : (ops : Table) (names others : List (List ℕ)) (t : Tuple) → HasStandardNames (length names) → TupleIsNamed (length names) t → clause_text ops (names ++ others) t ≡ clause_text ops names t
clause_text-more ops names others t standard named =
    let numbered : TupleIsNamed (length names) (canonical_tuple t) = TupleIsNamed-canonical (length names) t named in
    written-more ops names others (clause_term (canonical_tuple t)) 1200
    (clause_named (length names) (canonical_tuple t).head (canonical_tuple t).body (neck_named (length names) standard) numbered.0 numbered.1)

told_text-more : (ops : Table) (names others : List (List ℕ)) (w : Told) → ToldIsNamed (length names) w → told_text ops (names ++ others) w ≡ told_text ops names w
unfolding told_text
told_text-more ops names others (Wrong a exit) named = rw (atom_text-more ops names others a named) refl
told_text-more ops names others (Missing a box_no) named = rw (atom_text-more ops names others a named) refl
told_text-more ops names others (NoEnd calls) named = refl

asked_text-more : (ops : Table) (names others : List (List ℕ)) (q : Question) → HasStandardNames (length names) → QuestionIsNamed (length names) q → asked_text ops (names ++ others) q ≡ asked_text ops names q
unfolding asked_text
asked_text-more ops names others (True a) standard named = rw (atom_text-more ops names others a named) refl
asked_text-more ops names others (Covers t) standard named = rw (clause_text-more ops names others t standard named) refl
asked_text-more ops names others (Below q p) standard named = rw (atom_text-more ops names others q named.0, atom_text-more ops names others p named.1) refl

reply_text-more : (ops : Table) (names others : List (List ℕ)) (r : Reply) → HasStandardNames (length names) → ReplyIsNamed (length names) r → reply_text ops (names ++ others) r ≡ reply_text ops names r
unfolding reply_text
reply_text-more ops names others Yes standard named = refl
reply_text-more ops names others No standard named = refl
reply_text-more ops names others (Values values) standard named =
    let list : IsNamed (length names) (list_term values) = list_named (length names) values (neck_named (length names) standard) named in
    rw (atom_text-more ops names others (list_term values) list) refl
reply_text-more ops names others Unknown standard named = refl

candidates-more : (ops : Table) (names others : List (List ℕ)) (cs : List Instance) → HasStandardNames (length names) → AllByRecursion (λ (c : Instance). TupleIsNamed (length names) c.tuple) cs
    → flat_map (candidate_text ops (names ++ others)) cs ≡ flat_map (candidate_text ops names) cs
candidates-more ops names others [] standard named = refl
candidates-more ops names others (c ∷ cs) standard named =
    rw (clause_text-more ops names others c.tuple standard named.0, candidates-more ops names others cs standard named.1) refl

finding_text-more : (ops : Table) (names others : List (List ℕ)) (f : Finding) (line : ℕ) → HasStandardNames (length names) → FindingIsNamed (length names) f → finding_text ops (names ++ others) f line ≡ finding_text ops names f line
unfolding finding_text
finding_text-more ops names others (WrongInstance clause t) line standard named = rw (clause_text-more ops names others t standard named) refl
finding_text-more ops names others (Uncovered goal) line standard named = rw (atom_text-more ops names others goal named) refl
finding_text-more ops names others (Violation clause goal caller_no callee_no caller callee) line standard named =
    rw (atom_text-more ops names others caller named.0, atom_text-more ops names others callee named.1) refl
finding_text-more ops names others (Candidates cs) line standard named = rw (candidates-more ops names others cs standard named) refl

predicates_named : (n : ℕ) (preds : List Pred) → HasStandardNames n → PredsAreNamed n preds → AllNamed n (map indicator_of preds)
predicates_named n [] standard named = tt
predicates_named n (p ∷ preds) standard named =
    (pair_named n DIVIDE (compound p.name none) (integer (pos p.arity)) (omega (arith, standard, length-standard_names)) (named.0, tt) tt, predicates_named n preds standard named.1)

filter_named : (n : ℕ) (f : Filter) → HasStandardNames n → FilterIsNamed n f → IsNamed n (filter_term f)
filter_named n Off standard named = (omega (arith, standard, length-standard_names), tt)
filter_named n All standard named = (omega (arith, standard, length-standard_names), tt)
filter_named n (Leap preds) standard named =
    (omega (arith, standard, length-standard_names), (list_named n (map indicator_of preds) (neck_named n standard) (predicates_named n preds standard named), tt))
filter_named n (Skip b) standard named = (omega (arith, standard, length-standard_names), (tt, tt))

pub text_of-more : (ops : Table) (names others : List (List ℕ)) (e : Entry) → EntryIsNamed (length names) e → text_of ops (names ++ others) e ≡ text_of ops names e
unfolding text_of
text_of-more ops names others (PassedOver line pred) named = rw (text_of_name-append names others pred.name named) refl
text_of-more ops names others (Warning line pred) named = rw (text_of_name-append names others pred.name named) refl
text_of-more ops names others (Loaded clauses) named = refl
text_of-more ops names others (OracleLoaded statements) named = refl
text_of-more ops names others (ReferenceLoaded clauses) named = refl
text_of-more ops names others (TraceSet filter) named = rw (written-more ops names others (filter_term filter) 999 (filter_named (length names) filter named.0 named.1)) refl
text_of-more ops names others (Known text) named = refl
text_of-more ops names others (Run query budget answers filter end) named = refl
text_of-more ops names others (Symptom what) named = rw (told_text-more ops names others what named) refl
text_of-more ops names others (Asks number asked) named = rw (asked_text-more ops names others asked.question named.0 named.1) refl
text_of-more ops names others (Replied reply left by_reference) named = rw (reply_text-more ops names others reply named.0 named.1) refl
text_of-more ops names others (BadReply reason) named = refl
text_of-more ops names others (Found finding line) named = rw (finding_text-more ops names others finding line named.0 named.1) refl
text_of-more ops names others (AllDescend calls) named = refl
text_of-more ops names others (Unanswered stopped) named = refl
text_of-more ops names others (Refused r) named = rw (refusal_text-more names others r named) refl
text_of-more ops names others (Demo nodes questions clause) named = refl
text_of-more ops names others UsageRefused named = refl
text_of-more ops names others (ProgramRefused line cause) named = rw (cause_text-more names others cause named) refl
text_of-more ops names others (OracleRefused line cause) named = refl
text_of-more ops names others (ReferenceRefused line cause) named = rw (cause_text-more names others cause named) refl
text_of-more ops names others (CheckHolds findings) named = refl
text_of-more ops names others (CheckFails line why) named = refl
text_of-more ops names others (FileTooLong n) named = refl
text_of-more ops names others InputFault named = refl
text_of-more ops names others InputOver named = refl
