-- The log of a session is right, also where not all was said.
use Rattle.std.proofs.Common.{◌≡◌, ◌⊎◌, ◌+◌, arith, ◌∙◌, ℕ, List, [], ◌∷◌, ◌++◌, Option, refl, sym, ap, subst, inl, inr}
use Rattle.apd_account.specs.Account.{Account, account_with}
use Rattle.std.specs.Prelude.{IfSome}
use Rattle.apd_account.specs.Right.{IsRight, AreRight, AreTrueIfMarked}
use Rattle.apd_account.proofs.Fronts.{right-front, right-last}
use Rattle.apd_answers.specs.Repliers.{nobody}
use Rattle.apd_answers.specs.Interpretation.{Interpretation}
use Rattle.apd_answers.specs.declared.question.Question.{Question}
use Rattle.apd_answers.specs.declared.question.Reply.{Reply}
use Rattle.apd_check.proofs.Right.{all-counted, text-right}
use Rattle.apd_check.specs.Checked.{IsCheckOf, first_state as at_first}
use Rattle.apd_check.specs.Right.{findings_in}
use Rattle.apd_check.specs.declared.checked.Checked.{Checked}
use Rattle.apd_check.specs.declared.checked.Checked.TheVariants.{Holds, Fails}
use Rattle.apd_claims.specs.Saying.{said_in}
use Rattle.apd_clauses.specs.Clauses.{IsProgram, tuples_of}
use Rattle.apd_clauses.specs.declared.clause.Clause.{Clause}
use Rattle.apd_divide.specs.declared.node.Strategy.{Strategy}
use Rattle.apd_read.specs.Reader.{Reader}
use Rattle.apd_reference.specs.LeastModel.{HoldsLeastModel}
use Rattle.apd_reference.specs.Referees.{program_of_referee, replies_of}
use Rattle.apd_reference.specs.declared.referee.Referee.{Referee}
use Rattle.apd_reference.specs.declared.referee.Referee.TheVariants.{Nobody, Program, Tree}
use Rattle.apd_talk.proofs.Uttering.{entries_of-append}
use Rattle.apd_talk.specs.Speech.{begun}
use Rattle.apd_talk.specs.Utterance.{Utterance, UttersFront, Pushed, entries_of}
use Rattle.apd_text.specs.declared.entry.Entry.{Entry}
use Rattle.apd_text.specs.declared.entry.Entry.TheVariants.{Run}
use Rattle.apd_text.specs.declared.log.Log.{Log}
use Rattle.apd_words.specs.Words.{options_of}
use Rattle.apd_session.proofs.Findings.{session-right}
use Rattle.apd_session.proofs.Flowing.{every-session-flows}
use Rattle.apd_session.proofs.Openings.{IsAskable, opening_has}
use Rattle.apd_session.proofs.Referred.{all_true}
use Rattle.apd_session.specs.Flow.{Due, Nothing, due_by, part_of, Flows, FlowsTo}
use Rattle.apd_answers.specs.Store.{Store}
use Rattle.apd_session.specs.Headline.{AreRightFor, ChecksRightly, HoldsRightly, MeetsRightly, ReferredRightly}
use Rattle.apd_session.proofs.Upheld.{checked-holds}
use Rattle.apd_session.specs.Known.{Outside}
use Rattle.apd_session.specs.Outcome.{IsSaid, IsWhole, Meets, SaysNothing}
use Rattle.apd_session.specs.Opening.{first_state, opening_of}
use Rattle.apd_session.specs.Session.{IsVerdict, Transcript, World, session_of}
use Rattle.apd_ops.specs.Table.{Table}
use Rattle.apd_session.specs.declared.opening.Course.{Course}
use Rattle.apd_session.specs.declared.opening.Course.TheVariants.{Hears, Plays, Checks}
use Rattle.apd_session.specs.declared.opening.Start.{Start}
use Rattle.apd_session.specs.declared.opening.Opening.{Opening}
use Rattle.apd_session.specs.declared.opening.Opening.TheVariants.{Unloaded, Closed, Open}
use Rattle.apd_session.specs.declared.status.Status.{Status}
use Rattle.apd_session.specs.declared.status.Status.TheVariants as status

module _ (m : Interpretation) (program : List Clause) (strategy : Strategy) (his : Question → Option Reply) (known : Store) where
  -- a run whose end isn't set yet tells nothing
  begun-right : (a : Account) (e : Entry) → IsRight m program strategy a e → IsRight m program strategy a (begun e)
  begun-right a (Run q budget answers filter end) r = tt
  begun-right a e r = r

  abbrev Right : List Entry → Type 0
  Right es = AreRight m program strategy (account_with his known) es

  pushed-right : (es : List Entry) (us : List (Utterance Entry)) → Pushed begun [] es us → Right (entries_of us) → Right es
  pushed-right es us (inl e) r = subst Right (sym e) r
  pushed-right es us (inr p) r =
      let before = p.0 in
      let last = p.1 in
      let whole : Right (entries_of before ++ last.entry ∷ []) = subst Right (entries_of-append before (last ∷ [])) (subst (λ l. Right (entries_of l)) p.2 r) in
      subst Right (sym p.3) (right-last m program strategy begun begun-right (account_with his known) (entries_of before) last.entry whole)

  front-right : (log : Log) (x y : Option (List ℕ)) (us : List (Utterance Entry)) → UttersFront begun [] log.entries.list x y us → Right (entries_of us) → Right log.entries.list
  front-right log x y us f r =
      let parts : Right (entries_of f.said ++ entries_of f.unsaid) = subst Right (entries_of-append f.said f.unsaid) (subst (λ l. Right (entries_of l)) f.parts r) in
      pushed-right log.entries.list f.said f.pushed (right-front m program strategy (account_with his known) (entries_of f.said) (entries_of f.unsaid) parts)

  whole-right : (st : Status) (t : Transcript) (log : Log) (x y : Option (List ℕ)) → IsWhole st t log x y → Right (entries_of t.utterances) → Right log.entries.list
  whole-right st t log x y w r = subst Right (sym w.says.logged) r

  said-right : (st : Status) (t : Transcript) (log : Log) (x y : Option (List ℕ)) → IsSaid st t log x y → Right (entries_of t.utterances) → Right log.entries.list
  said-right status.WriteFault t log x y h r = front-right log x y t.utterances h.0 r
  said-right status.Memory t log x y h r = front-right log x y t.utterances h.0 r
  said-right status.Done t log x y h r = whole-right status.Done t log x y h r
  said-right status.Usage t log x y h r = whole-right status.Usage t log x y h r
  said-right status.Program t log x y h r = whole-right status.Program t log x y h r
  said-right status.ReadFault t log x y h r = whole-right status.ReadFault t log x y h r
  said-right status.InputLimit t log x y h r = whole-right status.InputLimit t log x y h r
  said-right status.OracleText t log x y h r = whole-right status.OracleText t log x y h r
  said-right status.ReferenceText t log x y h r = whole-right status.ReferenceText t log x y h r
  said-right status.CheckFailed t log x y h r = whole-right status.CheckFailed t log x y h r
  said-right status.FileTooLong t log x y h r = whole-right status.FileTooLong t log x y h r

-- what was said is right for what the session began with
said-right_for : (m : Interpretation) (st : Status) (t : Transcript) (log : Log) (x y : Option (List ℕ)) (o : Opening) → IsSaid st t log x y → AreRightFor m (entries_of t.utterances) o → AreRightFor m log.entries.list o
said-right_for m st t log x y (Unloaded why) h r = λ program strategy known. said-right m program strategy nobody known st t log x y h (r program strategy known)
said-right_for m st t log x y (Closed ops b why) h r = λ program strategy known. said-right m program strategy nobody known st t log x y h (r program strategy known)
said-right_for m st t log x y (Open ops start course) h r = said-right m start.state.program start.state.strategy (replies_of start.state.referee) start.state.replies st t log x y h r

-- a front of entries that fit
front-flows : (d e : Due) (xs ys : List Entry) → Flows d (xs ++ ys) e → (x : Due) × Flows d xs x
front-flows d e [] ys h = (d, refl)
front-flows d e (x ∷ xs) ys h = let rest = front-flows h.0 e xs ys h.2 in (rest.0, (h.0, h.1, rest.1))

-- an entry is to a diagnosis what it was when it began
begun-part : (e : Entry) → part_of (begun e) ≡ part_of e
begun-part (Run q budget answers filter end) = refl
begun-part e = refl

begun-flows : (d e : Due) (xs : List Entry) (x : Entry) → Flows d (xs ++ x ∷ []) e → Flows d (xs ++ begun x ∷ []) e
begun-flows d e [] x h = (h.0, ap (due_by d) (begun-part x) ∙ h.1, h.2)
begun-flows d e (y ∷ xs) x h = (h.0, h.1, begun-flows h.0 e xs x h.2)

pushed-flows : (es : List Entry) (us : List (Utterance Entry)) → Pushed begun [] es us → (d : Due) → Flows Nothing (entries_of us) d → Flows Nothing es d
pushed-flows es us (inl e) d h = subst (λ l. Flows Nothing l d) (sym e) h
pushed-flows es us (inr p) d h =
    let before = p.0 in
    let last = p.1 in
    let whole : Flows Nothing (entries_of before ++ last.entry ∷ []) d =
    subst (λ l. Flows Nothing l d) (entries_of-append before (last ∷ [])) (subst (λ l. Flows Nothing (entries_of l) d) p.2 h) in
    subst (λ l. Flows Nothing l d) (sym p.3) (begun-flows Nothing d (entries_of before) last.entry whole)

cut-flows : (log : Log) (x y : Option (List ℕ)) (us : List (Utterance Entry)) → UttersFront begun [] log.entries.list x y us → Flows Nothing (entries_of us) Nothing → (d : Due) × Flows Nothing log.entries.list d
cut-flows log x y us f h =
    let parts : Flows Nothing (entries_of f.said ++ entries_of f.unsaid) Nothing =
    subst (λ l. Flows Nothing l Nothing) (entries_of-append f.said f.unsaid) (subst (λ l. Flows Nothing (entries_of l) Nothing) f.parts h) in
    let front = front-flows Nothing Nothing (entries_of f.said) (entries_of f.unsaid) parts in
    (front.0, pushed-flows log.entries.list f.said f.pushed front.0 front.1)

whole-flows : (st : Status) (t : Transcript) (log : Log) (x y : Option (List ℕ)) → IsWhole st t log x y → Flows Nothing (entries_of t.utterances) Nothing → Flows Nothing log.entries.list Nothing
whole-flows st t log x y w h = subst (λ es. Flows Nothing es Nothing) (sym w.says.logged) h

-- what is due in the end, by what was said
said-flows : (st : Status) (t : Transcript) (log : Log) (x y : Option (List ℕ)) → IsSaid st t log x y → Flows Nothing (entries_of t.utterances) Nothing → FlowsTo st log.entries.list
said-flows status.WriteFault t log x y h k = cut-flows log x y t.utterances h.0 k
said-flows status.Memory t log x y h k = cut-flows log x y t.utterances h.0 k
said-flows status.Done t log x y h k = whole-flows status.Done t log x y h k
said-flows status.Usage t log x y h k = whole-flows status.Usage t log x y h k
said-flows status.Program t log x y h k = whole-flows status.Program t log x y h k
said-flows status.ReadFault t log x y h k = whole-flows status.ReadFault t log x y h k
said-flows status.InputLimit t log x y h k = whole-flows status.InputLimit t log x y h k
said-flows status.OracleText t log x y h k = whole-flows status.OracleText t log x y h k
said-flows status.ReferenceText t log x y h k = whole-flows status.ReferenceText t log x y h k
said-flows status.CheckFailed t log x y h k = whole-flows status.CheckFailed t log x y h k
said-flows status.FileTooLong t log x y h k = whole-flows status.FileTooLong t log x y h k

-- replies that are marked are true where the reference program is right
refers_by : (m : Interpretation) (program : List Clause) (strategy : Strategy) (known : Store) (entries : List Entry) (referee : Referee) → IsAskable referee → AreRight m program strategy (account_with (replies_of referee) known) entries
    → IfSome (program_of_referee referee) (λ right. HoldsLeastModel (tuples_of right) m → AreTrueIfMarked m program strategy (account_with (replies_of referee) known) entries)
refers_by m program strategy known entries Nobody may right = tt
refers_by m program strategy known entries (Tree t) may right = absurd may
refers_by m program strategy known entries (Program r) may right = λ least.
    all_true m program strategy r.program r.budget may.0 may.1 least (account_with (replies_of (Program r)) known) entries refl right

abbrev RefersRightly : Interpretation → Opening → Type 0
RefersRightly m x = (entries : List Entry) → AreRightFor m entries x → ReferredRightly m entries x

pub refers-rightly : (m : Interpretation) (words names : List (List ℕ)) (reader : Reader names) (world : World) → RefersRightly m (opening_of reader world.files (options_of words))
refers-rightly m words names reader world =
    opening_has (RefersRightly m) reader world.files (λ why last entries right. tt) (λ ops b why table last entries right. tt)
    (λ options program ops b store referee course is table fit may alone entries right. refers_by m program options.strategy store entries referee may right) words

-- findings of a log that holds are right
abbrev pub VerdictIsRight : Interpretation → {names : List (List ℕ)} → Reader names → Opening → Type 0
VerdictIsRight m reader x = (verdict : Checked) → IsVerdict reader x verdict → ChecksRightly m reader x verdict

holds_rightly : (m : Interpretation) {names : List (List ℕ)} (reader : Reader names) (program : List Clause) (ops : Table) (known : Store) (text : List ℕ) → IsProgram program → (verdict : Checked)
    → IsCheckOf program ops reader known text verdict → HoldsRightly m program known (said_in reader ops text) verdict
holds_rightly m {names} reader program ops known text is (Holds total) checked = record {
  right = text-right program m is ops names reader known text total checked;
  count = let e : total ≡ 0 + findings_in (said_in reader ops text) = all-counted program (at_first known) 0 total (said_in reader ops text) checked in omega (arith, e);
}
holds_rightly m reader program ops known text is (Fails line why) checked = tt

checks_rightly : (m : Interpretation) {names : List (List ℕ)} (reader : Reader names) (ops : Table) (start : Start) (course : Course) → IsProgram start.state.program → VerdictIsRight m reader (Open ops start course)
checks_rightly m reader ops start Hears is = λ verdict checked. tt
checks_rightly m reader ops start (Plays nodes) is = λ verdict checked. tt
checks_rightly m reader ops start (Checks text) is = holds_rightly m reader start.state.program ops start.state.replies text is

verdict-right : (m : Interpretation) (words names : List (List ℕ)) (reader : Reader names) (world : World) → VerdictIsRight m reader (opening_of reader world.files (options_of words))
verdict-right m words names reader world =
    opening_has (VerdictIsRight m reader) reader world.files (λ why last verdict checked. tt) (λ ops b why table last verdict checked. tt)
    (λ options program ops b store referee course is table fit may alone. checks_rightly m reader ops (record { beginning = b; state = first_state program options store referee }) course is) words

judged-right : (m : Interpretation) {names : List (List ℕ)} (reader : Reader names) (x : Opening) (verdict : Checked) (nothing : Type 0) → VerdictIsRight m reader x → nothing ⊎ IsVerdict reader x verdict → nothing ⊎ ChecksRightly m reader x verdict
judged-right m reader x verdict nothing right (inl none) = inl none
judged-right m reader x verdict nothing right (inr is) = inr (right verdict is)

-- what is said in the world that is met is right, whatever is known of it
pub meets-rightly : (m : Interpretation) (words names : List (List ℕ)) (reader : Reader names) (p q : Outside) (st : Status) (log : Log) → Meets words reader p q st log → MeetsRightly m words reader p q st log
meets-rightly m words names reader p q st log meets =
    let right : AreRightFor m log.entries.list (opening_of reader meets.world.files (options_of words)) =
    said-right_for m st (session_of words reader meets.world) log p.streams.held q.streams.held (opening_of reader meets.world.files (options_of words)) meets.said (session-right m reader words meets.world) in record {
      meets = meets;
      right = right;
      referred = refers-rightly m words names reader meets.world log.entries.list right;
      checked = judged-right m reader (opening_of reader meets.world.files (options_of words)) meets.world.verdict (SaysNothing st log) (verdict-right m words names reader meets.world) meets.judged;
      flows = said-flows st (session_of words reader meets.world) log p.streams.held q.streams.held meets.said (every-session-flows words names reader meets.world);
      wrote = checked-holds reader words meets.world;
    }
