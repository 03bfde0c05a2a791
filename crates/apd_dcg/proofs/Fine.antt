-- Rules without a fault: their clauses, and the atoms with states.
use Rattle.std.proofs.Common.{◌≡◌, ℕ, ◌≤◌, Bool, true, false, List, [], ◌∷◌, ◌++◌, map, length, take, Option, Some, None, Ok, ◌⊎◌, inl, inr, refl, sym, ◌∙◌, ap, subst, arith, length-append}
use Rattle.std.specs.Prelude.{nat_le, nat_lt, if◌then◌else◌}
use Rattle.std.specs.List.{list_any}
use Rattle.std.proofs.lemmas.List.{take_all, append-nil}
use Rattle.std.proofs.lemmas.Bool.Decides.{nat_tests}
use Rattle.apd_term.specs.Term.{Term, Terms, variable, integer, compound, none, more, list_of, terms_of, apply, apply_all, predicate_of}
use Rattle.apd_term.specs.declared.term.NameId.{NameId}
use Rattle.apd_term.specs.declared.term.Pred.{Pred}
use Rattle.apd_term.specs.declared.tuple.Tuple.{Tuple}
use Rattle.apd_term.specs.declared.standard.TheConstants.{CELL, GRAMMAR_ARROW}
use Rattle.apd_term.proofs.Spelling.{list_of-terms_of, length-apply_all}
use Rattle.apd_term.proofs.Tuples.{apply-terms_of}
use Rattle.apd_arith.specs.declared.goal.Builtin.{Builtin}
use Rattle.apd_arith.specs.Builtins.{builtin_of}
use Rattle.apd_causes.specs.declared.faults.BodyFault.{BodyFault}
use Rattle.apd_causes.specs.declared.faults.BodyFault.TheVariants as faults
use Rattle.apd_clauses.specs.declared.kinds.Kind.{Kind}
use Rattle.apd_clauses.specs.declared.kinds.Kind.TheVariants as kinds
use Rattle.apd_clauses.specs.Kinds.{◌∕◌, kind_of, kind_by, control_of, other_kind}
use Rattle.apd_clauses.specs.Bodies.{unless_fault, clause_from}
use Rattle.apd_clauses.proofs.Faults.{none_or}
use Rattle.apd_clauses.proofs.Parts.{few_goals}
use Rattle.apd_clauses.proofs.Indexing.{same_pred-true}
use Rattle.apd_dcg.specs.declared.part.Part.{Part}
use Rattle.apd_dcg.specs.declared.part.Part.TheVariants.{Terminals}
use Rattle.apd_dcg.specs.Parts.{parts, moves, with_move}
use Rattle.apd_dcg.specs.Faults.{extended, unless_user, fault_of_rule_head, rule_head_fault, fault_of_nonterminal, nonterminal_fault, part_fault, first_part_fault, parts_fault, rule_fault}
use Rattle.apd_dcg.specs.Rules.{with_states, onto, clause_with, new_variable, rule_term, clause_of_rule, rule_from, is_grammar_rule, clause_made}
use Rattle.apd_dcg.proofs.Applied.{IsNoVariable, AreFine, AreFine-left, map-both}

-- Faults.

-- nothing was chosen: the test failed, and the other side is nothing
pub unchosen : {A : Type 0} (b : Bool) (x : A) (o : Option A) → (if b then Some x else o) ≡ None → (b ≡ false) × (o ≡ None)
unchosen true x o e = cc
unchosen false x o e = (refl, e)

first_fine : (ps : List Part) → first_part_fault ps ≡ None → AreFine ps
first_fine [] e = tt
first_fine (p ∷ ps) e = let k = none_or (part_fault p) (first_part_fault ps) e in (k.0, first_fine ps k.1)

pub record AreTaken (ps : List Part) : Type 0 where
  pub fine : AreFine ps
  pub few : length ps ≤ 64

pub parts_taken : (ps : List Part) → parts_fault ps ≡ None → AreTaken ps
parts_taken ps e =
    let k = none_or (first_part_fault (take 64 ps)) (if nat_le (length ps) 64 then None else Some faults.BodyOver) e in
    let l = few_goals (length ps) k.1 in
    record { fine = first_fine ps (ap first_part_fault (sym (take_all 64 ps l)) ∙ k.0); few = l }

pub rule_taken_parts : (h : Term) (ps : List Part) → rule_fault h ps ≡ None → AreTaken ps
rule_taken_parts h ps e = parts_taken ps (none_or (rule_head_fault h) (parts_fault ps) e).1

-- whether the end was added
pub moved : (ps : List Part) → list_any moves ps ≡ true → ps ≡ with_move ps
moved ps e = sym (ap (λ b. if b then ps else ps ++ Terminals [] ∷ []) e)

pub unmoved : (ps : List Part) → list_any moves ps ≡ false → ps ++ Terminals [] ∷ [] ≡ with_move ps
unmoved ps e = sym (ap (λ b. if b then ps else ps ++ Terminals [] ∷ []) e)

user_unless : (k : Kind) (fault : BodyFault) → unless_user k fault ≡ None → k ≡ kinds.User
user_unless kinds.User fault e = refl
user_unless (kinds.Builtin goal) fault e = cc
user_unless kinds.Conjunction fault e = cc
user_unless kinds.Cut fault e = cc
user_unless kinds.Negation fault e = cc
user_unless kinds.Disjunction fault e = cc
user_unless kinds.IfThen fault e = cc
user_unless kinds.Impure fault e = cc

short : (n : ℕ) → nat_lt 253 n ≡ false → n ≤ 253
short n e = grind (arith, nat_tests)

-- with two more arguments the predicate is the program's own
pub record IsLonger (p : Pred) : Type 0 where
  pub short : p.arity ≤ 253
  pub own : kind_of (extended p) ≡ kinds.User

longer_head : (p : Pred) → fault_of_rule_head p ≡ None → IsLonger p
longer_head p e =
    let a = unchosen _ _ _ e in
    let b = unchosen _ _ _ a.1 in
    record { short = short p.arity a.0; own = user_unless (kind_of (extended p)) _ b.1 }

longer_nonterminal : (p : Pred) → fault_of_nonterminal p ≡ None → IsLonger p
longer_nonterminal p e =
    let a = unchosen _ _ _ e in
    let b = none_or _ _ a.1 in
    let c = unchosen _ _ _ b.1 in
    let d = none_or _ _ c.1 in
    record { short = short p.arity a.0; own = user_unless (kind_of (extended p)) _ d.0 }

pub record IsLongerAtom (n : Term) : Type 0 where
  pub name : NameId
  pub arguments : Terms
  pub is : n ≡ compound name arguments
  pub longer : IsLonger (name ∕ length (list_of arguments))

pub head_longer : (h : Term) → rule_head_fault h ≡ None → IsLongerAtom h
head_longer (variable v) e = cc
head_longer (integer i) e = cc
head_longer (compound f ts) e = record { name = f; arguments = ts; is = refl; longer = longer_head (f ∕ length (list_of ts)) e }

pub nonterminal_longer : (n : Term) → nonterminal_fault n ≡ None → IsLongerAtom n
nonterminal_longer (variable v) e = cc
nonterminal_longer (integer i) e = cc
nonterminal_longer (compound f ts) e = record { name = f; arguments = ts; is = refl; longer = longer_nonterminal (f ∕ length (list_of ts)) e }

pub longer-apply : (s : ℕ → Term) (n : Term) → IsLongerAtom n → IsLongerAtom (apply s n)
longer-apply s n l = record {
  name = l.name;
  arguments = apply_all s l.arguments;
  is = ap (apply s) l.is;
  longer = subst (λ k. IsLonger (l.name ∕ k)) (sym (length-apply_all s l.arguments)) l.longer;
}

pub own_builtin : (p : Pred) → kind_of p ≡ kinds.User → builtin_of p ≡ None
own_builtin p e = either (builtin_of p) e
  where
    either : (o : Option Builtin) → kind_by o (control_of p) (other_kind p) ≡ kinds.User → o ≡ None
    either None e = refl
    either (Some goal) e = cc

-- Rules.

-- the clause of a rule without a fault
pub record IsOfRule (h b : Term) (c : Tuple) : Type 0 where
  pub head_fine : rule_head_fault h ≡ None
  pub taken : AreTaken (with_move (parts b))
  pub clause : c ≡ clause_with (new_variable (rule_term h b)) h (with_move (parts b))

pub of_rule : (h b : Term) (c : Tuple) → clause_of_rule h b ≡ Ok c → IsOfRule h b c
of_rule h b c e = either (rule_fault h (with_move (parts b))) refl e
  where
    either : (o : Option BodyFault) → rule_fault h (with_move (parts b)) ≡ o
        → unless_fault o (clause_with (new_variable (rule_term h b)) h (with_move (parts b))) ≡ Ok c → IsOfRule h b c
    either (Some fault) k g = cc
    either None k g =
        let n = none_or (rule_head_fault h) (parts_fault (with_move (parts b))) k in
        let made : clause_with (new_variable (rule_term h b)) h (with_move (parts b)) ≡ c = cc in
        record { head_fine = n.0; taken = parts_taken (with_move (parts b)) n.1; clause = sym made }

-- a rule's head and body
pub record HasSides (t : Term) : Type 0 where
  pub head : Term
  pub body : Term
  pub is : t ≡ rule_term head body

pub sides : (t : Term) → is_grammar_rule t ≡ true → HasSides t
sides (variable v) r = cc
sides (integer i) r = cc
sides (compound f none) r = let e = ap (λ (p : Pred). p.arity) (same_pred-true (f ∕ 0) (GRAMMAR_ARROW ∕ 2) r) in absurd (omega (arith, e))
sides (compound f (more h none)) r = let e = ap (λ (p : Pred). p.arity) (same_pred-true (f ∕ 1) (GRAMMAR_ARROW ∕ 2) r) in absurd (omega (arith, e))
sides (compound f (more h (more b none))) r =
    let same : f ∕ 2 ≡ GRAMMAR_ARROW ∕ 2 = same_pred-true (f ∕ 2) (GRAMMAR_ARROW ∕ 2) r in
    record { head = h; body = b; is = ap (λ (p : Pred). compound p.name (more h (more b none))) same }
sides (compound f (more h (more b (more x ts)))) r =
    let e = ap (λ (p : Pred). p.arity) (same_pred-true (f ∕ length (list_of (more h (more b (more x ts))))) (GRAMMAR_ARROW ∕ 2) r) in
    absurd (omega (arith, e))

pub made_of_rule : (t : Term) (c : Tuple) → is_grammar_rule t ≡ true → clause_made t ≡ Ok c → rule_from t ≡ Ok c
made_of_rule t c r e = ap (λ b. if b then rule_from t else clause_from t) (sym r) ∙ e

pub made_of_other : (t : Term) (c : Tuple) → is_grammar_rule t ≡ false → clause_made t ≡ Ok c → clause_from t ≡ Ok c
made_of_other t c r e = ap (λ b. if b then rule_from t else clause_from t) (sym r) ∙ e

-- nothing, or an empty list of terminals
abbrev pub IsEnd : List Part → Type 0
IsEnd end = (end ≡ []) ⊎ (end ≡ Terminals [] ∷ [])

-- the parts, and at their end maybe an empty list of terminals
pub record HasEnd (ps : List Part) : Type 0 where
  pub end : List Part
  pub is : with_move ps ≡ ps ++ end
  pub is_end : IsEnd end

pub with_end : (ps : List Part) → HasEnd ps
with_end ps = either (list_any moves ps) refl
  where
    either : (b : Bool) → list_any moves ps ≡ b → HasEnd ps
    either true e = record { end = []; is = ap (λ b. if b then ps else ps ++ Terminals [] ∷ []) e ∙ sym (append-nil ps); is_end = inl refl }
    either false e = record { end = Terminals [] ∷ []; is = ap (λ b. if b then ps else ps ++ Terminals [] ∷ []) e; is_end = inr refl }

pub with_move-left : (ps : List Part) → AreFine (with_move ps) → AreFine ps
with_move-left ps h = let k = with_end ps in AreFine-left ps k.end (subst AreFine k.is h)

-- Atoms with states.

pub predicate-states : (n s t : Term) (p : Pred) → predicate_of n ≡ Some p → predicate_of (with_states n s t) ≡ Some (extended p)
predicate-states (variable v) s t p e = cc
predicate-states (integer i) s t p e = cc
predicate-states (compound f ts) s t p e =
    let same : f ∕ length (list_of ts) ≡ p = cc in
    ap (λ xs. Some (f ∕ length xs)) (list_of-terms_of (list_of ts ++ s ∷ t ∷ []))
    ∙ ap (λ k. Some (f ∕ k)) (length-append (list_of ts) (s ∷ t ∷ []))
    ∙ ap (λ q. Some (extended q)) same

list_of-apply : (s : ℕ → Term) (ts : Terms) → list_of (apply_all s ts) ≡ map (apply s) (list_of ts)
list_of-apply s none = refl
list_of-apply s (more t ts) = ap (λ r. apply s t ∷ r) (list_of-apply s ts)

terms_of-list_of : (ts : Terms) → terms_of (list_of ts) ≡ ts
terms_of-list_of none = refl
terms_of-list_of (more t ts) = ap (more t) (terms_of-list_of ts)

pub states-apply : (s : ℕ → Term) (n a b : Term) → IsNoVariable n → apply s (with_states n a b) ≡ with_states (apply s n) (apply s a) (apply s b)
states-apply s (variable v) a b h = absurd h
states-apply s (integer i) a b h = refl
states-apply s (compound f ts) a b h =
    ap (compound f) (apply-terms_of s (list_of ts ++ a ∷ b ∷ []))
    ∙ ap (λ xs. compound f (terms_of xs)) (map-both (apply s) (list_of ts) (a ∷ b ∷ []) ∙ ap (λ xs. xs ++ apply s a ∷ apply s b ∷ []) (sym (list_of-apply s ts)))

pub onto-apply : (s : ℕ → Term) (ts : List Term) (r : Term) → apply s (onto ts r) ≡ onto (map (apply s) ts) (apply s r)
onto-apply s [] r = refl
onto-apply s (t ∷ ts) r = ap (λ u. compound CELL (more (apply s t) (more u none))) (onto-apply s ts r)

pub no_variable : (n : Term) → nonterminal_fault n ≡ None → IsNoVariable n
no_variable (variable v) e = cc
no_variable (integer i) e = tt
no_variable (compound f ts) e = tt

pub head_no_variable : (h : Term) → rule_head_fault h ≡ None → IsNoVariable h
head_no_variable (variable v) e = cc
head_no_variable (integer i) e = tt
head_no_variable (compound f ts) e = tt

-- two lists with the same two elements at their ends
last_two : (xs ys : List Term) (a b c d : Term) → xs ++ a ∷ b ∷ [] ≡ ys ++ c ∷ d ∷ [] → (xs ≡ ys) × (a ≡ c) × (b ≡ d)
last_two [] [] a b c d e = (refl, cc, cc)
last_two [] (y ∷ ys) a b c d e = absurd (omega (arith, ap length e, length-append ys (c ∷ d ∷ [])))
last_two (x ∷ xs) [] a b c d e = absurd (omega (arith, ap length e, length-append xs (a ∷ b ∷ [])))
last_two (x ∷ xs) (y ∷ ys) a b c d e =
    let rest : xs ++ a ∷ b ∷ [] ≡ ys ++ c ∷ d ∷ [] = cc in
    let same : x ≡ y = cc in
    let k = last_two xs ys a b c d rest in
    (rw (same, k.0) refl, k.1, k.2)

pub record AreSameStates (n a b m c d : Term) : Type 0 where
  pub atom : n ≡ m
  pub first : a ≡ c
  pub second : b ≡ d

pub states-injective : (n m a b c d : Term) (p q : Pred) → predicate_of n ≡ Some p → predicate_of m ≡ Some q → with_states n a b ≡ with_states m c d
    → AreSameStates n a b m c d
states-injective (variable v) m a b c d p q i j e = cc
states-injective (integer z) m a b c d p q i j e = cc
states-injective (compound f ts) (variable v) a b c d p q i j e = cc
states-injective (compound f ts) (integer z) a b c d p q i j e = cc
states-injective (compound f ts) (compound g us) a b c d p q i j e =
    let whole : compound f (terms_of (list_of ts ++ a ∷ b ∷ [])) ≡ compound g (terms_of (list_of us ++ c ∷ d ∷ [])) = e in
    let name : f ≡ g = cc in
    let inner : terms_of (list_of ts ++ a ∷ b ∷ []) ≡ terms_of (list_of us ++ c ∷ d ∷ []) = cc in
    let lists = sym (list_of-terms_of (list_of ts ++ a ∷ b ∷ [])) ∙ ap list_of inner ∙ list_of-terms_of (list_of us ++ c ∷ d ∷ []) in
    let k = last_two (list_of ts) (list_of us) a b c d lists in
    let args : ts ≡ us = sym (terms_of-list_of ts) ∙ ap terms_of k.0 ∙ terms_of-list_of us in
    record { atom = rw (name, args) refl; first = k.1; second = k.2 }
