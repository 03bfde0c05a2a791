-- The text of a clause reads as the clause.
use Rattle.std.proofs.Common.{◌≡◌, ℕ, List, [], ◌∷◌, refl, sym, ◌∙◌, ap, arith, Bool, true, false, Some}
use Rattle.std.specs.Prelude.{if◌then◌else◌, ◌==◌, ◌&&◌}
use Rattle.std.specs.List.{AllByRecursion}
use Rattle.apd_term.specs.declared.term.NameId.{NameId}
use Rattle.apd_term.specs.declared.standard.TheConstants.{COMMA, NECK}
use Rattle.apd_term.specs.Term.{Term, variable, integer, compound, none, more, predicate_of}
use Rattle.apd_term.specs.Tuple.{canonical_tuple}
use Rattle.apd_term.specs.declared.tuple.Tuple.{Tuple}
use Rattle.apd_clauses.specs.Kinds.{◌∕◌}
use Rattle.apd_clauses.specs.Predicates.{is_pred}
use Rattle.apd_ops.specs.Table.{Table, IsTable}
use Rattle.apd_read.specs.Reader.{Reader}
use Rattle.apd_text.specs.ClauseTerms.{conjunction, with_body, clause_term}
use Rattle.apd_text.specs.Dialogues.{clause_text}
use Rattle.apd_reading_back.specs.Law.{AreNames}
use Rattle.apd_reading_back.proofs.Read.{items_read_back}
use Rattle.apd_claims.specs.Claims.{goals_in, tuple_in}
use Rattle.apd_claims.specs.Reading.{as_clause, term_in}
use Rattle.apd_written.specs.Says.{HasNoBreak}
use Rattle.apd_written.specs.Texts.{IsOneGoal, IsClauseTellable, IsShort}
use Rattle.apd_written.proofs.Breaks.{written-break}
use Rattle.apd_written.proofs.ReadBack.{term-read}

-- another name, or another number of arguments
other_name : (f : NameId) (a b : Term) (g : NameId) → is_pred (predicate_of (compound f (more a (more b none)))) (g ∕ 2) ≡ false → (f.0 == g.0) ≡ false
other_name f a b g h = by (f.0 == g.0) refl
  where
    by : (c : Bool) → (f.0 == g.0) ≡ c → (f.0 == g.0) ≡ false
    by false e = e
    by true e = absurd (let bad : true ≡ false = sym (ap (λ (c : Bool). c && true) e) ∙ h in cc)

one_goal : (g : Term) → IsOneGoal g → goals_in g ≡ g ∷ []
one_goal (variable v) h = refl
one_goal (integer i) h = refl
one_goal (compound f none) h = refl
one_goal (compound f (more a none)) h = refl
one_goal (compound f (more a (more b none))) h = ap (λ (c : Bool). if c then a ∷ goals_in b else compound f (more a (more b none)) ∷ []) (other_name f a b COMMA h)
one_goal (compound f (more a (more b (more c ts)))) h = refl

goals-back : (g : Term) (gs : List Term) → AllByRecursion IsOneGoal (g ∷ gs) → goals_in (conjunction g gs) ≡ g ∷ gs
goals-back g [] h = one_goal g h.0
goals-back g (x ∷ xs) h = ap (λ ts. g ∷ ts) (goals-back x xs h.1)

alone : (t : Term) → is_pred (predicate_of t) (NECK ∕ 2) ≡ false → tuple_in t ≡ record { head = t; body = [] }
alone (variable v) h = refl
alone (integer i) h = refl
alone (compound f none) h = refl
alone (compound f (more a none)) h = refl
alone (compound f (more a (more b none))) h =
    ap (λ (c : Bool). if c then record { head = a; body = goals_in b } else record { head = compound f (more a (more b none)); body = [] }) (other_name f a b NECK h)
alone (compound f (more a (more b (more c ts)))) h = refl

tuple-back : (head : Term) (body : List Term) → is_pred (predicate_of head) (NECK ∕ 2) ≡ false → AllByRecursion IsOneGoal body → tuple_in (with_body head body) ≡ record { head = head; body = body }
tuple-back head [] h g = alone head h
tuple-back head (x ∷ xs) h g = ap (λ b. record { head = head; body = b }) (goals-back x xs g)

module _ {names : List (List ℕ)} (reader : Reader names) (ops : Table) (table : IsTable ops) (all : AreNames names) where
  -- what stands in the clause's text
  pub clause-read : (t : Tuple) → IsClauseTellable ops names t → IsShort (as_clause (clause_text ops names t)) → term_in reader ops (clause_text ops names t) ≡ Some (clause_term (canonical_tuple t))
  clause-read t c short =
      let u = clause_term (canonical_tuple t) in
      term-read reader ops (clause_text ops names t) u table (items_read_back ops names u 1200 table all c.writable (omega arith) c.shallow) short

  pub clause-back : (t : Tuple) → IsClauseTellable ops names t → tuple_in (clause_term (canonical_tuple t)) ≡ canonical_tuple t
  clause-back t c = tuple-back (canonical_tuple t).head (canonical_tuple t).body c.head c.goals

  pub clause-break : (t : Tuple) → IsClauseTellable ops names t → HasNoBreak (clause_text ops names t)
  clause-break t c = written-break ops names (clause_term (canonical_tuple t)) 1200
