-- A clause of pure Prolog that is written as one term is taken from that term.
use Rattle.std.proofs.Common.{◌≡◌, ◌≤◌, Bool, true, false, true≢false, List, [], ◌∷◌, length, Option, Some, None, Ok, refl, sym, ◌∙◌, ap}
use Rattle.std.specs.Prelude.{All}
use Rattle.std.proofs.lemmas.List.{append-nil}
use Rattle.std.proofs.lemmas.List.Elements.{All-head, All-tail}
use Rattle.apd_term.specs.Term.{Term, compound, integer, list_of, predicate_of, variable}
use Rattle.apd_term.specs.declared.standard.TheConstants.{COMMA}
use Rattle.apd_term.specs.declared.term.Pred.{Pred}
use Rattle.apd_clauses.specs.Bodies.{body_fault, clause_from, conjuncts, first_fault, goal_fault, goal_fault_of_kind, head_fault, head_fault_of_kind}
use Rattle.apd_clauses.specs.Kinds.{◌∕◌, IsPureGoal, IsUserAtom, is_pure, kind_of}
use Rattle.apd_clauses.specs.Predicates.{is_pred, same_pred}
use Rattle.apd_clauses.specs.declared.kinds.Kind.{Kind}
use Rattle.apd_clauses.specs.declared.kinds.Kind.TheVariants as kinds
use Rattle.apd_clauses.proofs.Conjuncts.{conjuncts-one}
use Rattle.apd_clauses.proofs.Faults.{fault_of_few, or_none}
use Rattle.apd_clauses.proofs.Indexing.{same_pred-true}
use Rattle.apd_clauses.proofs.Pure.{no_goal, no_user, pure_by, user_by_kind}
use Rattle.apd_text.specs.ClauseTerms.{conjunction, with_body}

-- a goal of pure Prolog has no fault, and is no conjunction
pub kind_clean : (p : Pred) (k : Kind) → is_pure k ≡ true → goal_fault_of_kind p k ≡ None
kind_clean p kinds.User e = refl
kind_clean p (kinds.Builtin goal) e = refl
kind_clean p kinds.Conjunction e = refl
kind_clean p kinds.Cut e = absurd (cc)
kind_clean p kinds.Negation e = absurd (cc)
kind_clean p kinds.Disjunction e = absurd (cc)
kind_clean p kinds.IfThen e = absurd (cc)
kind_clean p kinds.Impure e = absurd (cc)

pub goal_clean : (g : Term) → IsPureGoal g → goal_fault g ≡ None
goal_clean (variable v) pure = absurd (no_goal (variable v) refl pure)
goal_clean (integer i) pure = absurd (no_goal (integer i) refl pure)
goal_clean (compound f ts) pure =
    let p : Pred = f ∕ length (list_of ts) in kind_clean p (kind_of p) ((pure_by (compound f ts) p refl).1 pure)

goals_clean : (gs : List Term) → All IsPureGoal gs → first_fault gs ≡ None
goals_clean [] pure = refl
goals_clean (g ∷ gs) pure = or_none (goal_fault g) (first_fault gs) (goal_clean g (All-head IsPureGoal g gs pure)) (goals_clean gs (All-tail IsPureGoal g gs pure))

head_clean : (h : Term) → IsUserAtom h → head_fault h ≡ None
head_clean (variable v) user = absurd (no_user (variable v) refl user)
head_clean (integer i) user = absurd (no_user (integer i) refl user)
head_clean (compound f ts) user =
    let p : Pred = f ∕ length (list_of ts) in ap (head_fault_of_kind p) ((user_by_kind (compound f ts) p refl).1 user)

no_comma : (g : Term) → IsPureGoal g → is_pred (predicate_of g) (COMMA ∕ 2) ≡ false
no_comma g pure = by (predicate_of g) refl
  where
    by_test : (p : Pred) → predicate_of g ≡ Some p → (b : Bool) → same_pred p (COMMA ∕ 2) ≡ b → b ≡ false
    by_test p is false e = refl
    by_test p is true e =
        let same : p ≡ COMMA ∕ 2 = same_pred-true p (COMMA ∕ 2) e in
        let kind : is_pure (kind_of (COMMA ∕ 2)) ≡ true = (pure_by g (COMMA ∕ 2) (is ∙ ap Some same)).1 pure in
        absurd (true≢false (sym kind))

    by : (o : Option Pred) → predicate_of g ≡ o → is_pred o (COMMA ∕ 2) ≡ false
    by None is = refl
    by (Some p) is = by_test p is (same_pred p (COMMA ∕ 2)) refl

-- goals that are written as one term are taken from it
goals_back : (g : Term) (gs : List Term) → All IsPureGoal (g ∷ gs) → conjuncts (conjunction g gs) ≡ g ∷ gs
goals_back g [] pure = conjuncts-one g (no_comma g (All-head IsPureGoal g [] pure))
goals_back g (h ∷ hs) pure =
    rw (conjuncts-one g (no_comma g (All-head IsPureGoal g (h ∷ hs) pure)), goals_back h hs (All-tail IsPureGoal g (h ∷ hs) pure)) (ap (λ (xs : List Term). g ∷ xs) (append-nil (h ∷ hs)))

-- and so is a clause with a body
pub clause_back_from : (h g : Term) (gs : List Term) → IsUserAtom h → All IsPureGoal (g ∷ gs) → length (g ∷ gs) ≤ 64 → clause_from (with_body h (g ∷ gs)) ≡ Ok (record { head = h; body = g ∷ gs })
clause_back_from h g gs user pure few =
    let body : conjuncts (conjunction g gs) ≡ g ∷ gs = goals_back g gs pure in
    let clean : body_fault (g ∷ gs) ≡ None = sym (fault_of_few (g ∷ gs) few) ∙ goals_clean (g ∷ gs) pure in
    rw (body, or_none (head_fault h) (body_fault (g ∷ gs)) (head_clean h user) clean) refl
