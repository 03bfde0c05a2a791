-- What a line asks for: the goals of a query are few and of pure Prolog, and what is brought in has the names of the line.
use Rattle.std.proofs.Common.{◌≡◌, ℕ, Bool, true, false, List, Option, Some, None, refl, sym, ◌∙◌, ap, subst, arith}
use Rattle.std.specs.Prelude.{All, if◌then◌else◌, slice_get, ℤ, Result, Ok, Err}
use Rattle.std.proofs.lemmas.List.Elements.{All-from_recursion, recursion_from_All}
use Rattle.apd_causes.specs.declared.faults.BodyFault.{BodyFault}
use Rattle.apd_causes.specs.declared.reading.Read.{Read}
use Rattle.apd_causes.specs.declared.run.Query.{Query}
use Rattle.apd_term.specs.Named.{IsNamed, TupleIsNamed}
use Rattle.apd_term.specs.Term.{Term, arguments, predicate_of}
use Rattle.apd_term.specs.declared.standard.TheConstants.{KNOWN, LOOP, MISSING, QUERY, QUIT, TRACE, WRONG}
use Rattle.apd_term.proofs.FirstNames.{length-standard_names}
use Rattle.apd_clauses.specs.Bodies.{body_fault}
use Rattle.apd_clauses.specs.Clauses.{IsAtom, is_pred}
use Rattle.apd_clauses.specs.Kinds.{IsPureGoal, ◌∕◌}
use Rattle.apd_clauses.specs.Queries.{IsQueryTerm, query_from}
use Rattle.apd_clauses.proofs.Asked.{is_asked, query_has_goals, query_is_named, query_is_pure}
use Rattle.apd_clauses.proofs.Parts.{body_is_clean}
use Rattle.apd_clauses.proofs.Pure.{goals_are_atoms}
use Rattle.apd_clauses.proofs.Placing.{own_predicate}
use Rattle.apd_commands.specs.Filters.{filter_at, trace_asked}
use Rattle.apd_commands.specs.Commands.{command_in, command_of, integer_at, missing_asked, query_asked, term_asked, wrong_asked}
use Rattle.apd_commands.specs.declared.commands.Command.{Command}
use Rattle.apd_commands.specs.declared.commands.Command.TheVariants as command
use Rattle.apd_console.specs.declared.line.Line.{Line}
use Rattle.apd_lines.specs.Lines.{LineIsNamed, line_in}
use Rattle.apd_lines.specs.declared.lines.LineRead.{LineRead}
use Rattle.apd_lines.specs.declared.lines.LineRead.TheVariants as lines
use Rattle.apd_ops.specs.Table.{Table}
use Rattle.apd_ports.specs.declared.filter.Filter.{Filter}
use Rattle.apd_read.specs.Reader.{Reader}
use Rattle.apd_text.specs.declared.entry.Refusal.TheVariants.{NotACommand}
use Rattle.apd_commands.proofs.Commanding.{argument_named}
use Rattle.apd_session.proofs.Unbroken.{AreUnbroken, ReadIsUnbroken, variables-unbroken}
use Rattle.apd_written.specs.Proper.{AreProperGoals}

-- A query.

query_in : (r : Result Query BodyFault) (q : Query) → query_asked r ≡ command.Query q → r ≡ Ok q
query_in (Err fault) q is = absurd (cc)
query_in (Ok p) q is = cc

not_wrong : (b k : Option ℤ) (q : Query) → wrong_asked b k ≡ command.Query q → ⊥
not_wrong None k q is = cc
not_wrong (Some b) None q is = cc
not_wrong (Some b) (Some k) q is = cc

not_missing : (b : Option ℤ) (a : Option Term) (q : Query) → missing_asked b a ≡ command.Query q → ⊥
not_missing None a q is = cc
not_missing (Some b) None q is = cc
not_missing (Some b) (Some a) q is = cc

not_trace : (f : Option Filter) (q : Query) → trace_asked f ≡ command.Query q → ⊥
not_trace None q is = cc
not_trace (Some f) q is = cc

-- the query is that of this term
record IsOfTerm (r : Read) (q : Query) : Type 0 where
  asks : IsQueryTerm r.term
  is : query_from r ≡ Ok q

term_query : (r : Read) (q : Query) → term_asked r (predicate_of r.term) ≡ command.Query q → IsOfTerm r q
term_query r q is =
    by (is_pred (predicate_of r.term) (QUIT ∕ 0)) (is_pred (predicate_of r.term) (QUERY ∕ 1)) (is_pred (predicate_of r.term) (WRONG ∕ 2)) (is_pred (predicate_of r.term) (MISSING ∕ 2)) (is_pred (predicate_of r.term) (LOOP ∕ 0)) (is_pred (predicate_of r.term) (TRACE ∕ 1)) (is_pred (predicate_of r.term) (KNOWN ∕ 0)) refl is
  where
    by : (a b c d e f g : Bool) → is_pred (predicate_of r.term) (QUERY ∕ 1) ≡ b
        → (if a then command.Quit else (if b then query_asked (query_from r) else (if c then wrong_asked (integer_at r.term 0) (integer_at r.term 1)
        else (if d then missing_asked (integer_at r.term 0) (slice_get (arguments r.term) 1) else (if e then command.Loop else (if f then trace_asked (filter_at r.term) else (if g then command.Known else command.Refused NotACommand))))))) ≡ command.Query q
        → IsOfTerm r q
    by true b c d e f g asks h = absurd (cc)
    by false true c d e f g asks h = record { asks = own_predicate (predicate_of r.term) (QUERY ∕ 1) asks; is = query_in (query_from r) q h }
    by false false true d e f g asks h = absurd (not_wrong (integer_at r.term 0) (integer_at r.term 1) q h)
    by false false false true e f g asks h = absurd (not_missing (integer_at r.term 0) (slice_get (arguments r.term) 1) q h)
    by false false false false true f g asks h = absurd (cc)
    by false false false false false true g asks h = absurd (not_trace (filter_at r.term) q h)
    by false false false false false false true asks h = absurd (cc)
    by false false false false false false false asks h = absurd (cc)

query_proper : (r : Read) (q : Query) → IsOfTerm r q → AreProperGoals q.tuple.body
query_proper r q h =
    let a = is_asked r q h.asks h.is in
    record {
      some = query_has_goals r q h.asks h.is;
      few = (body_is_clean q.tuple.body (ap (λ (p : Query). body_fault p.tuple.body) a.query ∙ a.clean)).few;
      pure = recursion_from_All IsPureGoal q.tuple.body (query_is_pure r q h.asks h.is);
    }

line_goals : (line : LineRead) (q : Query) → command_of line ≡ command.Query q → AreProperGoals q.tuple.body
line_goals lines.Empty q is = absurd (cc)
line_goals lines.TooLong q is = absurd (cc)
line_goals (lines.Bad cause) q is = absurd (cc)
line_goals (lines.Clause r) q is = query_proper r q (term_query r q is)

pub query_goals : {names : List (List ℕ)} (reader : Reader names) (ops : Table) (line : Line) (q : Query) → command_in reader ops line ≡ command.Query q → AreProperGoals q.tuple.body
unfolding command_in
query_goals reader ops line q is = line_goals (line_in reader ops line) q is

pub query_atoms : {names : List (List ℕ)} (reader : Reader names) (ops : Table) (line : Line) (q : Query) → command_in reader ops line ≡ command.Query q → All IsAtom q.tuple.body
query_atoms reader ops line q is = goals_are_atoms q.tuple.body (All-from_recursion IsPureGoal q.tuple.body (query_goals reader ops line q is).pure)

-- Names.

query_named : (n : ℕ) (line : LineRead) (q : Query) → LineIsNamed n line → command_of line ≡ command.Query q → TupleIsNamed n q.tuple
query_named n lines.Empty q named is = absurd (cc)
query_named n lines.TooLong q named is = absurd (cc)
query_named n (lines.Bad cause) q named is = absurd (cc)
query_named n (lines.Clause r) q named is =
    let h = term_query r q is in
    let standard = named.standard in
    query_is_named r q h.asks h.is n (omega (arith, standard, length-standard_names)) named.named

-- the atom of `missing(B, A)` is its second argument
no_query : (r : Result Query BodyFault) (b : ℤ) (a : Term) → query_asked r ≡ command.Missing b a → ⊥
no_query (Err fault) b a is = cc
no_query (Ok q) b a is = cc

no_wrong : (x y : Option ℤ) (b : ℤ) (a : Term) → wrong_asked x y ≡ command.Missing b a → ⊥
no_wrong None y b a is = cc
no_wrong (Some x) None b a is = cc
no_wrong (Some x) (Some y) b a is = cc

no_trace : (f : Option Filter) (b : ℤ) (a : Term) → trace_asked f ≡ command.Missing b a → ⊥
no_trace None b a is = cc
no_trace (Some f) b a is = cc

atom_in : (x : Option ℤ) (y : Option Term) (b : ℤ) (a : Term) → missing_asked x y ≡ command.Missing b a → y ≡ Some a
atom_in None y b a is = absurd (cc)
atom_in (Some x) None b a is = absurd (cc)
atom_in (Some x) (Some y) b a is = cc

term_atom : (r : Read) (b : ℤ) (a : Term) → term_asked r (predicate_of r.term) ≡ command.Missing b a → slice_get (arguments r.term) 1 ≡ Some a
term_atom r b a is =
    by (is_pred (predicate_of r.term) (QUIT ∕ 0)) (is_pred (predicate_of r.term) (QUERY ∕ 1)) (is_pred (predicate_of r.term) (WRONG ∕ 2)) (is_pred (predicate_of r.term) (MISSING ∕ 2)) (is_pred (predicate_of r.term) (LOOP ∕ 0)) (is_pred (predicate_of r.term) (TRACE ∕ 1)) (is_pred (predicate_of r.term) (KNOWN ∕ 0)) is
  where
    by : (i j c d e f g : Bool)
        → (if i then command.Quit else (if j then query_asked (query_from r) else (if c then wrong_asked (integer_at r.term 0) (integer_at r.term 1)
        else (if d then missing_asked (integer_at r.term 0) (slice_get (arguments r.term) 1) else (if e then command.Loop else (if f then trace_asked (filter_at r.term) else (if g then command.Known else command.Refused NotACommand))))))) ≡ command.Missing b a
        → slice_get (arguments r.term) 1 ≡ Some a
    by true j c d e f g h = absurd (cc)
    by false true c d e f g h = absurd (no_query (query_from r) b a h)
    by false false true d e f g h = absurd (no_wrong (integer_at r.term 0) (integer_at r.term 1) b a h)
    by false false false true e f g h = atom_in (integer_at r.term 0) (slice_get (arguments r.term) 1) b a h
    by false false false false true f g h = absurd (cc)
    by false false false false false true g h = absurd (no_trace (filter_at r.term) b a h)
    by false false false false false false true h = absurd (cc)
    by false false false false false false false h = absurd (cc)

atom_named : (n : ℕ) (line : LineRead) (b : ℤ) (a : Term) → LineIsNamed n line → command_of line ≡ command.Missing b a → IsNamed n a
atom_named n lines.Empty b a named is = absurd (cc)
atom_named n lines.TooLong b a named is = absurd (cc)
atom_named n (lines.Bad cause) b a named is = absurd (cc)
atom_named n (lines.Clause r) b a named is = argument_named n r.term 1 a (term_atom r b a is) named.named

-- the variables of a query stand on one line
query_unbroken : (line : LineRead) (q : Query) → ReadIsUnbroken line → command_of line ≡ command.Query q → AreUnbroken q.vars
query_unbroken lines.Empty q h is = absurd (cc)
query_unbroken lines.TooLong q h is = absurd (cc)
query_unbroken (lines.Bad cause) q h is = absurd (cc)
query_unbroken (lines.Clause r) q h is =
    let t = term_query r q is in
    subst (λ (p : Query). AreUnbroken p.vars) (sym (is_asked r q t.asks t.is).query) (variables-unbroken r.vars r.term h)

module _ (n : ℕ) where
  -- a command brings in these names
  abbrev pub HasGivenNames : Command → Type 0
  HasGivenNames (command.Query q) = TupleIsNamed n q.tuple × AreUnbroken q.vars
  HasGivenNames (command.Missing b a) = IsNamed n a
  HasGivenNames c = Unit {0}

  given_by : (line : LineRead) (c : Command) → LineIsNamed n line → ReadIsUnbroken line → command_of line ≡ c → HasGivenNames c
  given_by line (command.Query q) named unbroken is = (query_named n line q named is, query_unbroken line q unbroken is)
  given_by line (command.Missing b a) named unbroken is = atom_named n line b a named is
  given_by line command.Nothing named unbroken is = tt
  given_by line command.Quit named unbroken is = tt
  given_by line (command.Refused r) named unbroken is = tt
  given_by line (command.Wrong b k) named unbroken is = tt
  given_by line command.Loop named unbroken is = tt
  given_by line (command.Trace f) named unbroken is = tt
  given_by line command.Known named unbroken is = tt

  pub command-given : {names : List (List ℕ)} (reader : Reader names) (ops : Table) (line : Line) → LineIsNamed n (line_in reader ops line) → ReadIsUnbroken (line_in reader ops line) → HasGivenNames (command_in reader ops line)
  unfolding command_in
  command-given reader ops line named unbroken = given_by (line_in reader ops line) (command_of (line_in reader ops line)) named unbroken refl
