-- The names of a rule's clause, and of its fault, are those of the rule and of lists and equations.
use Rattle.std.proofs.Common.{◌≡◌, ℕ, ◌+◌, ◌<◌, ◌==◌, Bool, true, false, ◌||◌, zero, suc, List, [], ◌∷◌, ◌++◌, map, length, take, Option, Some, None, Ok, Err, inl, inr, refl, sym, subst, arith}
use Rattle.std.specs.Prelude.{IfSome, nat_le, nat_lt, if◌then◌else◌}
use Rattle.std.specs.List.{flat_map}
use Rattle.std.specs.Option.{option_or}
use Rattle.apd_term.proofs.Listed.{listed-named}
use Rattle.apd_term.specs.Listed.{listed}
use Rattle.apd_term.specs.Term.{Term, Terms, variable, integer, compound, none, more, list_of, terms_of}
use Rattle.apd_term.specs.Named.{IsNamed, AreNamed, AllNamed, TupleIsNamed}
use Rattle.apd_term.specs.declared.tuple.Tuple.{Tuple}
use Rattle.apd_term.specs.declared.standard.TheConstants.{CELL, CURLY, COMMA, UNIFY}
use Rattle.apd_causes.specs.Faults.{FaultIsNamed}
use Rattle.apd_causes.specs.declared.faults.BodyFault.{BodyFault}
use Rattle.apd_causes.specs.declared.faults.BodyFault.TheVariants as faults
use Rattle.apd_clauses.specs.declared.kinds.Kind.{Kind}
use Rattle.apd_clauses.specs.declared.kinds.Kind.TheVariants as kinds
use Rattle.apd_clauses.specs.Predicates.{same_pred}
use Rattle.apd_clauses.specs.Kinds.{◌∕◌, kind_of}
use Rattle.apd_clauses.specs.Bodies.{conjuncts, unless_fault}
use Rattle.apd_clauses.proofs.Parts.{AllNamed-append, AllNamed-conjuncts}
use Rattle.apd_clauses.proofs.FaultNames.{IsKnown, or_known, goal_known}
use Rattle.apd_dcg.specs.declared.part.Part.{Part}
use Rattle.apd_dcg.specs.declared.part.Part.TheVariants.{Terminals, Goal, Nonterminal}
use Rattle.apd_dcg.specs.Parts.{part_by, part_of, braced, parts_by, parts_of, parts, with_move}
use Rattle.apd_dcg.specs.Faults.{extended, is_list, is_call, unless_user, rule_head_fault, construct_fault, nonterminal_fault, part_fault, first_part_fault, parts_fault, rule_fault}
use Rattle.apd_dcg.specs.Rules.{with_states, onto, goal_between, state_after, goals_from, last_state, clause_with, new_variable, rule_term, clause_of_rule}
use Rattle.apd_dcg.proofs.Fine.{IsEnd, with_end, of_rule}

module _ (n : ℕ) where
  named_list : (ts : Terms) → AreNamed n ts → AllNamed n (list_of ts)
  named_list none h = tt
  named_list (more t ts) h = (h.0, named_list ts h.1)

  named_terms : (ts : List Term) → AllNamed n ts → AreNamed n (terms_of ts)
  named_terms [] h = tt
  named_terms (t ∷ ts) h = (h.0, named_terms ts h.1)

  -- Parts.

  abbrev pub IsNamedPart : Part → Type 0
  IsNamedPart (Terminals ts) = AllNamed n ts
  IsNamedPart (Goal g) = IsNamed n g
  IsNamedPart (Nonterminal m) = IsNamed n m

  abbrev pub AreNamedParts : List Part → Type 0
  AreNamedParts [] = Unit {0}
  AreNamedParts (p ∷ ps) = IsNamedPart p × AreNamedParts ps

  named_both : (ps qs : List Part) → AreNamedParts ps → AreNamedParts qs → AreNamedParts (ps ++ qs)
  named_both [] qs h k = k
  named_both (p ∷ ps) qs h k = (h.0, named_both ps qs h.1 k)

  named_goals : (gs : List Term) → AllNamed n gs → AreNamedParts (map Goal gs)
  named_goals [] h = tt
  named_goals (g ∷ gs) h = (h.0, named_goals gs h.1)

  named_part : (t : Term) → IsNamed n t → IsNamedPart (part_of t)
  named_part t h = either (listed t) refl
    where
      either : (o : Option (List Term)) → listed t ≡ o → IsNamedPart (part_by o t)
      either (Some ts) k = subst (λ o. IfSome o (AllNamed n)) k (listed-named n t h)
      either None k = h

  named_braced : (t g : Term) → braced t ≡ Some g → IsNamed n t → IsNamed n g
  named_braced (variable v) g e h = cc
  named_braced (integer i) g e h = cc
  named_braced (compound f none) g e h = cc
  named_braced (compound f (more x none)) g e h = either (f.0 == CURLY.0) e
    where
      either : (b : Bool) → (if b then Some x else None) ≡ Some g → IsNamed n g
      either true e = let same : x ≡ g = cc in subst (IsNamed n) same h.1.0
      either false e = cc
  named_braced (compound f (more x (more y ts))) g e h = cc

  named_parts_of : (t : Term) → IsNamed n t → AreNamedParts (parts_of t)
  named_parts_of t h = either (braced t) refl
    where
      either : (o : Option Term) → braced t ≡ o → AreNamedParts (parts_by o t)
      either None k = (named_part t h, tt)
      either (Some g) k = named_goals (conjuncts g) (AllNamed-conjuncts n g (named_braced t g k h))

  named_all : (ts : List Term) → AllNamed n ts → AreNamedParts (flat_map parts_of ts)
  named_all [] h = tt
  named_all (t ∷ ts) h = named_both (parts_of t) (flat_map parts_of ts) (named_parts_of t h.0) (named_all ts h.1)

  named_end : (end : List Part) → IsEnd end → AreNamedParts end
  named_end end (inl e) = subst AreNamedParts (sym e) tt
  named_end end (inr e) = subst AreNamedParts (sym e) (tt, tt)

  named_parts : (b : Term) → IsNamed n b → AreNamedParts (with_move (parts b))
  named_parts b h = let k = with_end (parts b) in subst AreNamedParts (sym k.is) (named_both (parts b) k.end (named_all (conjuncts b) (AllNamed-conjuncts n b h)) (named_end k.end k.is_end))

  -- Goals.

  named_onto : CELL.0 < n → (ts : List Term) (v : ℕ) → AllNamed n ts → IsNamed n (onto ts (variable v))
  named_onto l [] v h = tt
  named_onto l (t ∷ ts) v h = (l, (h.0, (named_onto l ts v h.1, tt)))

  named_states : (m : Term) (a b : ℕ) → IsNamed n m → IsNamed n (with_states m (variable a) (variable b))
  named_states (variable v) a b h = tt
  named_states (integer i) a b h = tt
  named_states (compound f ts) a b h = (h.0, named_terms (list_of ts ++ variable a ∷ variable b ∷ []) (AllNamed-append n (list_of ts) (variable a ∷ variable b ∷ []) (named_list ts h.1) (tt, (tt, tt))))

  named_goal : UNIFY.0 < n → (p : Part) (a b : ℕ) → IsNamedPart p → IsNamed n (goal_between p (variable a) (variable b))
  named_goal l (Terminals ts) a b h = (l, (tt, (named_onto (omega arith) ts b h, tt)))
  named_goal l (Goal g) a b h = h
  named_goal l (Nonterminal m) a b h = named_states m a b h

  named_from : UNIFY.0 < n → (k : ℕ) (ps : List Part) → AreNamedParts ps → AllNamed n (goals_from k ps)
  named_from l k [] h = tt
  named_from l k (p ∷ ps) h = (named_goal l p k (k + 1) h.0, named_from l (state_after k p) ps h.1)

  pub rule_is_named : UNIFY.0 < n → (h b : Term) (c : Tuple) → clause_of_rule h b ≡ Ok c → IsNamed n (rule_term h b) → TupleIsNamed n c
  rule_is_named l h b c e named =
      let k = new_variable (rule_term h b) in
      let ps = with_move (parts b) in
      subst (TupleIsNamed n) (sym (of_rule h b c e).clause)
      (named_states h k (last_state k ps) named.1.0, named_from l k ps (named_parts b named.1.1.0))

  -- Faults.

  unless_known : (k : Kind) (fault : BodyFault) → FaultIsNamed n fault → IsKnown n (unless_user k fault)
  unless_known kinds.User fault h = tt
  unless_known (kinds.Builtin goal) fault h = h
  unless_known kinds.Conjunction fault h = h
  unless_known kinds.Cut fault h = h
  unless_known kinds.Negation fault h = h
  unless_known kinds.Disjunction fault h = h
  unless_known kinds.IfThen fault h = h
  unless_known kinds.Impure fault h = h

  construct_known : (k : Kind) → IsKnown n (construct_fault k)
  construct_known kinds.User = tt
  construct_known (kinds.Builtin goal) = tt
  construct_known kinds.Conjunction = tt
  construct_known kinds.Cut = tt
  construct_known kinds.Negation = tt
  construct_known kinds.Disjunction = tt
  construct_known kinds.IfThen = tt
  construct_known kinds.Impure = tt

  head_known : (t : Term) → IsNamed n t → IsKnown n (rule_head_fault t)
  head_known (variable v) h = tt
  head_known (integer i) h = tt
  head_known (compound f ts) h = by (nat_lt 253 (length (list_of ts))) (same_pred (f ∕ length (list_of ts)) (COMMA ∕ 2) || is_list (f ∕ length (list_of ts)))
    where
      by : (a b : Bool) → IsKnown n (if a then Some faults.DcgArity else (if b then Some (faults.HeadIsBuiltin (f ∕ length (list_of ts)))
          else unless_user (kind_of (extended (f ∕ length (list_of ts)))) (faults.HeadIsBuiltin (extended (f ∕ length (list_of ts))))))
      by true b = tt
      by false true = h.0
      by false false = unless_known (kind_of (extended (f ∕ length (list_of ts)))) (faults.HeadIsBuiltin (extended (f ∕ length (list_of ts)))) h.0

  nonterminal_known : (t : Term) → IsNamed n t → IsKnown n (nonterminal_fault t)
  nonterminal_known (variable v) h = tt
  nonterminal_known (integer i) h = tt
  nonterminal_known (compound f ts) h = by (nat_lt 253 (length (list_of ts))) (is_call (f ∕ length (list_of ts))) (same_pred (f ∕ length (list_of ts)) (CELL ∕ 2))
    where
      last : (o : Option BodyFault) → IsKnown n o
          → IsKnown n (option_or (unless_user (kind_of (extended (f ∕ length (list_of ts)))) (faults.Impure (extended (f ∕ length (list_of ts))))) o)
      last o k =
          or_known n (unless_user (kind_of (extended (f ∕ length (list_of ts)))) (faults.Impure (extended (f ∕ length (list_of ts))))) o
          (unless_known (kind_of (extended (f ∕ length (list_of ts)))) (faults.Impure (extended (f ∕ length (list_of ts)))) h.0) k

      first : (o : Option BodyFault) → IsKnown n o → IsKnown n (option_or (construct_fault (kind_of (f ∕ length (list_of ts)))) o)
      first o k = or_known n (construct_fault (kind_of (f ∕ length (list_of ts)))) o (construct_known (kind_of (f ∕ length (list_of ts)))) k

      by : (a b c : Bool) → IsKnown n (if a then Some faults.DcgArity else option_or (construct_fault (kind_of (f ∕ length (list_of ts))))
          (if b then Some (faults.Impure (f ∕ length (list_of ts)))
          else option_or (unless_user (kind_of (extended (f ∕ length (list_of ts)))) (faults.Impure (extended (f ∕ length (list_of ts))))) (if c then Some faults.DcgList else None)))
      by true b c = tt
      by false true c = first (Some (faults.Impure (f ∕ length (list_of ts)))) h.0
      by false false true = first _ (last (Some faults.DcgList) tt)
      by false false false = first _ (last None tt)

  part_known : (p : Part) → IsNamedPart p → IsKnown n (part_fault p)
  part_known (Terminals ts) h = tt
  part_known (Goal g) h = goal_known n g h
  part_known (Nonterminal m) h = nonterminal_known m h

  first_known : (ps : List Part) → AreNamedParts ps → IsKnown n (first_part_fault ps)
  first_known [] h = tt
  first_known (p ∷ ps) h = or_known n (part_fault p) (first_part_fault ps) (part_known p h.0) (first_known ps h.1)

  named_take : (k : ℕ) (ps : List Part) → AreNamedParts ps → AreNamedParts (take k ps)
  named_take zero ps h = tt
  named_take (suc k) [] h = tt
  named_take (suc k) (p ∷ ps) h = (h.0, named_take k ps h.1)

  over_known : (b : Bool) → IsKnown n (if b then None else Some faults.BodyOver)
  over_known true = tt
  over_known false = tt

  pub rule_fault_named : (h b : Term) (fault : BodyFault) → clause_of_rule h b ≡ Err fault → IsNamed n (rule_term h b) → FaultIsNamed n fault
  rule_fault_named h b fault e named = either (rule_fault h (with_move (parts b))) known e
    where
      ps : List Part
      ps = with_move (parts b)

      known : IsKnown n (rule_fault h (with_move (parts b)))
      known =
          or_known n (rule_head_fault h) (parts_fault (with_move (parts b))) (head_known h named.1.0)
          (or_known n (first_part_fault (take 64 (with_move (parts b)))) _ (first_known (take 64 (with_move (parts b))) (named_take 64 (with_move (parts b)) (named_parts b named.1.1.0)))
          (over_known (nat_le (length (with_move (parts b))) 64)))

      either : (o : Option BodyFault) → IsKnown n o → unless_fault o (clause_with (new_variable (rule_term h b)) h (with_move (parts b))) ≡ Err fault → FaultIsNamed n fault
      either None k e = cc
      either (Some f) k e = let same : f ≡ fault = cc in subst (FaultIsNamed n) same k
