-- Who is asked before the user, by what the file of a reference program gives.
use Rattle.std.proofs.Common.{◌≡◌, ℕ, suc, ◌<◌, ◌≤◌, List, [], ◌∷◌, length, refl, ap, sym, ◌∙◌, arith, Bool, true, false, Option, Some, None, subst}
use Rattle.std.specs.Prelude.{if◌then◌else◌, nat_lt}
use Rattle.std.proofs.Math.Dec.{leb}
use Rattle.std.proofs.lemmas.Bool.{le-leb, lt-leb}
use Rattle.apd_causes.specs.declared.faults.LoadCause.TheVariants as causes
use Rattle.apd_clauses.specs.Clauses.{clause_at, tuples_of}
use Rattle.apd_clauses.specs.declared.clause.Clause.{Clause}
use Rattle.apd_load.specs.Program.{Loads, loads, program_of}
use Rattle.apd_load.specs.Warnings.{NotesAreNamed, warnings_of}
use Rattle.apd_load.specs.declared.Note.{Note}
use Rattle.apd_ops.specs.Table.{Table}
use Rattle.apd_read.specs.Reader.{Reader}
use Rattle.apd_reference.proofs.LowNames.{tuples_low}
use Rattle.apd_reference.specs.Ready.{RightProgram}
use Rattle.apd_reference.specs.declared.referee.Referee.TheVariants.{Nobody, Program}
use Rattle.apd_session.specs.Opening.{last_line, referred_by, refused_reference, reviewed}
use Rattle.apd_session.specs.Preparing.{IsReferring, Refers, ReviewsText, is_read_fault, stops_referring}
use Rattle.apd_session.specs.Roles.{Gives, IsNamedLoad}
use Rattle.apd_session.specs.declared.opening.Reviewed.{Reviewed}
use Rattle.apd_session.specs.declared.referring.Referring.{Referring}
use Rattle.apd_session.specs.declared.referring.Referring.TheVariants.{Asks}
use Rattle.apd_term.specs.Growth.{Grown}
use Rattle.apd_term.specs.Named.{AllTuplesNamed}
use Rattle.apd_term.specs.StandardNames.{standard_names}

pub refers_unnamed : (content : List ℕ → Option (List ℕ)) (failed : Type 0) (budget : ℕ) (names : List (List ℕ)) → Refers content failed budget names None (Asks Nobody None)
refers_unnamed content failed budget names = record { loading = Gives []; is = tt; faults = λ e. absurd (cc); so = λ n grew reader. refl }

pub refers_later : (content now : List ℕ → Option (List ℕ)) (failed fails : Type 0) (budget : ℕ) (names : List (List ℕ)) (name : Option (List ℕ)) (x : Referring) → now ≡ content → (failed → fails) → Refers now failed budget names name x → Refers content fails budget names name x
refers_later content now failed fails budget names name x same rose r = record {
  loading = r.loading;
  is = subst (λ (c : List ℕ → Option (List ℕ)). IsNamedLoad c name r.loading) same r.is;
  faults = λ e. rose (r.faults e);
  so = r.so;
}

-- the last clause has the last line
pub last_is : (cs : List Clause) (c : Clause) → clause_at cs (length cs) ≡ Some c → c.line ≡ last_line cs
last_is [] c is = absurd (cc)
last_is (d ∷ []) c is = let same : d ≡ c = cc in ap (λ (x : Clause). x.line) (sym same)
last_is (d ∷ (e ∷ cs)) c is = last_is (e ∷ cs) c is

-- a program that was loaded is refused where it has as many clauses as a program may have, and else it is asked
module _ (budget : ℕ) (program : List Clause) (ops : Table) (passed : List Note) where
  abbrev loaded : Loads
  loaded = loads (record { program = program; ops = ops; passed = passed })

  pub refers_over : 20000 ≤ length program → refused_reference (last_line program) causes.ClausesOver ≡ referred_by budget loaded
  refers_over most = let test : leb (suc (length program)) 20000 ≡ false = lt-leb _ _ (omega (arith, most)) in rw test refl

  pub refers_to : (right : RightProgram) (r : Reviewed) → right.program ≡ program → right.budget ≡ budget → r.clauses ≡ length program → r.passed ≡ passed → r.called ≡ warnings_of program → length program < 20000
      → Asks (Program right) (Some r) ≡ referred_by budget loaded
  refers_to right r is within clauses notes called few =
      let test : leb (suc (length program)) 20000 ≡ true = le-leb _ _ (omega (arith, few)) in
      let first : right ≡ record { program = program; budget = budget } = λ i. record { program = is i; budget = within i } in
      let second : r ≡ reviewed program passed = λ i. record { clauses = clauses i; passed = notes i; called = called i } in
      (λ i. Asks (Program (first i)) (Some (second i))) ∙ rw test refl

  -- what has names that are known, and no fault of a load ends the session
  pub referring_ready : (n : ℕ) → length standard_names ≤ n → AllTuplesNamed n (tuples_of program) → NotesAreNamed n passed → NotesAreNamed n (warnings_of program) → IsReferring n (referred_by budget loaded)
  referring_ready n standard named notes warnings = by (nat_lt (length program) 20000)
    where
      by : (b : Bool) → IsReferring n (if b then Asks (Program (record { program = program; budget = budget })) (Some (reviewed program passed)) else refused_reference (last_line program) causes.ClausesOver)
      by true = (tuples_low (length standard_names) n (tuples_of program) named standard, record { passed = notes; called = warnings })
      by false = record { named = tt; may = tt }

  pub referring_calm : is_read_fault (stops_referring (referred_by budget loaded)) ≡ false
  referring_calm = by (nat_lt (length program) 20000)
    where
      by : (b : Bool) → is_read_fault (stops_referring (if b then Asks (Program (record { program = program; budget = budget })) (Some (reviewed program passed)) else refused_reference (last_line program) causes.ClausesOver)) ≡ false
      by true = refl
      by false = refl

-- who is asked by a text is asked by what the text makes
pub reviews_made : (budget : ℕ) (text bytes : List ℕ) (names : List (List ℕ)) (o : Loads) (x : Referring) → bytes ≡ text → ((n : List (List ℕ)) → Grown names n → (reader : Reader n) → program_of reader bytes ≡ o) → x ≡ referred_by budget o
    → ReviewsText budget text names x
reviews_made budget text bytes names o x is makes by = λ n grew reader.
    ap (λ (t : List ℕ). referred_by budget (program_of reader t)) (sym is) ∙ ap (referred_by budget) (makes n grew reader) ∙ sym by
