-- The clauses of a program and the terms that they are made of.
use Rattle.std.proofs.Common.{◌≡◌, ℕ, zero, suc, Bool, true, false, List, [], ◌∷◌, ◌++◌, Some, Ok, inl, inr, refl, sym, ◌∙◌, ap, subst}
use Rattle.std.specs.Prelude.{slice_get}
use Rattle.apd_term.specs.Term.{Term, variable, predicate_of}
use Rattle.apd_term.specs.declared.term.Pred.{Pred}
use Rattle.apd_term.specs.declared.tuple.Tuple.{Tuple}
use Rattle.apd_clauses.specs.Clauses.{IsAtom}
use Rattle.apd_clauses.specs.Kinds.{◌∕◌}
use Rattle.apd_clauses.proofs.Parts.{clause_is_pure}
use Rattle.apd_clauses.proofs.Pure.{user_is_atom}
use Rattle.apd_term.specs.Term.{list_of}
use Rattle.std.specs.Prelude.{length}
use Rattle.apd_dcg.specs.declared.part.Part.{Part}
use Rattle.apd_dcg.specs.declared.part.Part.TheVariants.{Terminals, Goal, Nonterminal}
use Rattle.apd_dcg.specs.Faults.{extended}
use Rattle.apd_dcg.specs.Parts.{parts, with_move}
use Rattle.apd_dcg.specs.Rules.{rule_term, is_grammar_rule, clause_made, AreClausesOf, last_state, new_variable}
use Rattle.apd_dcg.proofs.Fine.{IsOfRule, of_rule, sides, made_of_rule, made_of_other, head_longer, IsLongerAtom, predicate-states, IsEnd, with_end}
use Rattle.apd_grammar.specs.Derivations.{IsRuleOf, IsOfGrammar, of_nonterminal}
use Rattle.apd_grammar.proofs.Ground.{atom_by_predicate}

-- a clause with its term
pub record IsMadeAt (sources : List Term) (i : ℕ) (c : Tuple) : Type 0 where
  pub source : Term
  pub there : slice_get sources i ≡ Some source
  pub made : clause_made source ≡ Ok c

pub source_at : (sources : List Term) (P : List Tuple) → AreClausesOf sources P → (i : ℕ) (c : Tuple) → slice_get P i ≡ Some c → IsMadeAt sources i c
source_at [] [] e i c h = cc
source_at [] (d ∷ P) e i c h = cc
source_at (t ∷ ts) [] e i c h = cc
source_at (t ∷ ts) (d ∷ P) e zero c h =
    let first : clause_made t ≡ Ok d = cc in
    let same : d ≡ c = cc in
    record { source = t; there = refl; made = first ∙ ap Ok same }
source_at (t ∷ ts) (d ∷ P) e (suc i) c h =
    let rest : AreClausesOf ts P = cc in
    let k = source_at ts P rest i c h in
    record { source = k.source; there = k.there; made = k.made }

-- a term with its clause
pub record HasClauseAt (P : List Tuple) (i : ℕ) (source : Term) : Type 0 where
  pub clause : Tuple
  pub there : slice_get P i ≡ Some clause
  pub made : clause_made source ≡ Ok clause

pub clause_at : (sources : List Term) (P : List Tuple) → AreClausesOf sources P → (i : ℕ) (t : Term) → slice_get sources i ≡ Some t → HasClauseAt P i t
clause_at [] [] e i t h = cc
clause_at [] (d ∷ P) e i t h = cc
clause_at (x ∷ ts) [] e i t h = cc
clause_at (x ∷ ts) (d ∷ P) e zero t h =
    let first : clause_made x ≡ Ok d = cc in
    let same : x ≡ t = cc in
    record { clause = d; there = refl; made = ap clause_made (sym same) ∙ first }
clause_at (x ∷ ts) (d ∷ P) e (suc i) t h =
    let rest : AreClausesOf ts P = cc in
    let k = clause_at ts P rest i t h in
    record { clause = k.clause; there = k.there; made = k.made }

-- the clause of a rule
pub clause_of_rule_term : (h b : Term) (c : Tuple) → clause_made (rule_term h b) ≡ Ok c → IsOfRule h b c
clause_of_rule_term h b c e = of_rule h b c (made_of_rule (rule_term h b) c refl e)

pub predicate-longer : (n : Term) → (k : IsLongerAtom n) → predicate_of n ≡ Some (k.name ∕ length (list_of k.arguments))
predicate-longer n k = ap predicate_of k.is

-- the head of each clause is an atom
pub head_atom : (t : Term) (c : Tuple) → clause_made t ≡ Ok c → IsAtom c.head
head_atom t c e = either (is_grammar_rule t) refl
  where
    either : (b : Bool) → is_grammar_rule t ≡ b → IsAtom c.head
    either true r =
        let k = sides t r in
        let f = clause_of_rule_term k.head k.body c (ap clause_made (sym k.is) ∙ e) in
        let l = head_longer k.head f.head_fine in
        let ps = with_move (parts k.body) in
        let m = new_variable (rule_term k.head k.body) in
        let is = predicate-states k.head (variable m) (variable (last_state m ps)) _ (predicate-longer k.head l) in
        atom_by_predicate c.head _ (ap (λ (d : Tuple). predicate_of d.head) f.clause ∙ is)
    either false r = user_is_atom c.head (clause_is_pure t c (made_of_other t c r e)).head

-- Nonterminals of parts.

abbrev pub IsOfGrammarPart : List Term → Part → Type 0
IsOfGrammarPart sources (Terminals ts) = Unit {0}
IsOfGrammarPart sources (Goal g) = Unit {0}
IsOfGrammarPart sources (Nonterminal n) = (p : Pred) → predicate_of n ≡ Some p → IsOfGrammar sources (extended p)

abbrev pub AreOfGrammar : List Term → List Part → Type 0
AreOfGrammar sources [] = Unit {0}
AreOfGrammar sources (p ∷ ps) = IsOfGrammarPart sources p × AreOfGrammar sources ps

module _ (sources : List Term) where
  each_of_grammar : (ps : List Part) → ((k : ℕ) (n : Term) → slice_get ps k ≡ Some (Nonterminal n) → IsOfGrammarPart sources (Nonterminal n)) → AreOfGrammar sources ps
  each_of_grammar [] h = tt
  each_of_grammar (p ∷ ps) h = (first p (h 0), each_of_grammar ps (λ k n at. h (suc k) n at))
    where
      first : (q : Part) → ((n : Term) → Some q ≡ Some (Nonterminal n) → IsOfGrammarPart sources (Nonterminal n)) → IsOfGrammarPart sources q
      first (Terminals ts) h = tt
      first (Goal g) h = tt
      first (Nonterminal n) h = h n refl

  AreOfGrammar-end : (ps end : List Part) → IsEnd end → AreOfGrammar sources ps → AreOfGrammar sources (ps ++ end)
  AreOfGrammar-end [] end (inl e) h = subst (AreOfGrammar sources) (sym e) tt
  AreOfGrammar-end [] end (inr e) h = subst (AreOfGrammar sources) (sym e) (tt, tt)
  AreOfGrammar-end (p ∷ ps) end i h = (h.0, AreOfGrammar-end ps end i h.1)

  pub rule_of_grammar : (h b : Term) → IsRuleOf sources h b → AreOfGrammar sources (with_move (parts b))
  rule_of_grammar h b r =
      let k = with_end (parts b) in
      subst (AreOfGrammar sources) (sym k.is)
      (AreOfGrammar-end (parts b) k.end k.is_end (each_of_grammar (parts b) (λ i n at p is. of_nonterminal h b n i r at is)))
