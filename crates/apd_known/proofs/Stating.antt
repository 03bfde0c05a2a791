-- What a clause replies may be stated.
use Rattle.std.proofs.Common.{◌≡◌, ◌==◌, ◌&&◌, ◌+◌, ◌<◌, ℕ, suc, arith, Bool, true, false, List, length, Option, Some, None, Result, Ok, Err, refl, sym, ap, subst, ◌∙◌}
use Rattle.std.specs.Prelude.{if◌then◌else◌, not}
use Rattle.std.specs.Option.{option_map}
use Rattle.std.proofs.lemmas.Bool.{eqb-true, and_parts}
use Rattle.std.specs.List.{list_all, slice_get}
use Rattle.apd_term.specs.Term.{Term, Terms, variable, integer, compound, none, more, arguments, list_of, predicate_of, variables}
use Rattle.apd_term.specs.declared.term.NameId.{NameId}
use Rattle.apd_term.specs.Canonical.{canonical, place_of, by_appearance}
use Rattle.apd_term.specs.Named.{IsNamed, AreNamed, AllNamed, TupleIsNamed}
use Rattle.apd_term.specs.declared.standard.TheConstants.{TRUE, COVERS, BELOW}
use Rattle.apd_term.specs.declared.term.Pred.{Pred}
use Rattle.apd_term.specs.declared.tuple.Tuple.{Tuple}
use Rattle.apd_term.proofs.Named.{AreNamed-more, IsNamed-canonical, IsNamed-more}
use Rattle.apd_causes.specs.declared.faults.BodyFault.{BodyFault}
use Rattle.apd_causes.specs.declared.faults.OracleCause.TheVariants.{NotAStatement, NotUserAtom, NotGround, WrongCount, BuiltinFalse}
use Rattle.apd_clauses.specs.Bodies.{clause_from, conjuncts, fact, parts_of}
use Rattle.apd_clauses.specs.Bodies.{head_fault, body_fault}
use Rattle.apd_clauses.specs.Kinds.{◌∕◌, kind_of, IsUserAtom}
use Rattle.apd_clauses.specs.Predicates.{is_pred}
use Rattle.apd_clauses.proofs.Indexing.{same_pred-true}
use Rattle.apd_clauses.specs.declared.kinds.Kind.{Kind}
use Rattle.apd_clauses.specs.declared.kinds.Kind.TheVariants as kinds
use Rattle.apd_clauses.proofs.Faults.{none_or}
use Rattle.apd_clauses.proofs.Parts.{body_is_clean, clause_is_named, clause_is_pure, is_taken, some_conjunct}
use Rattle.apd_clauses.proofs.Pure.{user_is_atom}
use Rattle.apd_record.proofs.Atoms.{predicate-same}
use Rattle.apd_answers.specs.Named.{ReplyIsNamed}
use Rattle.apd_answers.specs.Questions.{Fits, unknowns, with_values}
use Rattle.apd_answers.specs.declared.question.Question.TheVariants.{True, Covers, Below}
use Rattle.apd_answers.specs.declared.question.Reply.{Reply}
use Rattle.apd_answers.specs.declared.question.Reply.TheVariants.{Yes, No, Values, Unknown}
use Rattle.apd_answers.specs.declared.store.Pair.{Pair}
use Rattle.apd_known.specs.Pairs.{IsStatable, MayCover}
use Rattle.apd_known.specs.Statements.{is_own, is_of_own, is_own_atom, is_rule, pair_of, truth_stated, order_stated, values_stated, solution_stated, body_stated, cover_stated, reply_stated, truth_in}
use Rattle.apd_known.specs.Told.{word_told, values_told}
use Rattle.apd_known.specs.declared.statements.FileForm.{FileForm}
use Rattle.apd_known.specs.declared.statements.FileForm.TheVariants.{First, Second}
use Rattle.apd_arith.specs.Truths.{is_ground}
use Rattle.apd_known.specs.Truths.{is_true_if_builtin}
use Rattle.apd_known.proofs.Telling.{values_told_named, truth_told_fits, truth_told_named, word_told_fits, word_told_named}
use Rattle.apd_arith.proofs.Tests.{all_ground, test_ground}
use Rattle.apd_known.proofs.Truths.{all_pass}

-- an atom that passes the test is one of a program's own predicate, and so is its canonical form
pub kind_own : (k : Kind) → is_own k ≡ true → k ≡ kinds.User
kind_own kinds.User e = refl
kind_own (kinds.Builtin g) e = absurd (cc)
kind_own kinds.Conjunction e = absurd (cc)
kind_own kinds.Cut e = absurd (cc)
kind_own kinds.Negation e = absurd (cc)
kind_own kinds.Disjunction e = absurd (cc)
kind_own kinds.IfThen e = absurd (cc)
kind_own kinds.Impure e = absurd (cc)

own_by : (o : Option Pred) → is_of_own o ≡ true → option_map kind_of o ≡ Some kinds.User
own_by None e = absurd (cc)
own_by (Some p) e = ap Some (kind_own (kind_of p) e)

own_atom : (a : Term) → is_own_atom a ≡ true → IsUserAtom a
own_atom a e = own_by (predicate_of a) e

pub canonical_own : (a : Term) → IsUserAtom a → IsUserAtom (canonical a)
canonical_own a h = ap (option_map kind_of) (predicate-same (λ v. variable (place_of (by_appearance (variables a)) v)) a (user_is_atom a h)) ∙ h

module _ (n : ℕ) (pair : Pair) where
  truth_may : (a : Term) (o : Option Reply) → IsNamed n a → ((r : Reply) → o ≡ Some r → Fits (True a) r × ReplyIsNamed n r) → truth_stated a o ≡ Ok pair → IsStatable n pair
  truth_may a None named of e = absurd (cc)
  truth_may a (Some r) named of e = by_test (is_own_atom a) refl e
    where
      by_test : (b : Bool) → is_own_atom a ≡ b → (if b then Ok (pair_of (True a) r) else Err NotUserAtom) ≡ Ok pair → IsStatable n pair
      by_test true own q =
          let same : pair_of (True a) r ≡ pair = cc in
          let s = of r refl in
          subst (IsStatable n) same (record { asked = own_atom a own; fits = s.0; question_named = named; reply_named = s.1 })
      by_test false own q = absurd (cc)

  order_may : (x y : Term) (o : Option Reply) → IsNamed n x → IsNamed n y → ((r : Reply) → o ≡ Some r → Fits (Below (canonical x) (canonical y)) r × ReplyIsNamed n r)
      → order_stated x y o ≡ Ok pair → IsStatable n pair
  order_may x y None nx ny of e = absurd (cc)
  order_may x y (Some r) nx ny of e = by_test (is_own_atom x && is_own_atom y) refl e
    where
      by_test : (b : Bool) → (is_own_atom x && is_own_atom y) ≡ b → (if b then Ok (pair_of (Below (canonical x) (canonical y)) r) else Err NotUserAtom) ≡ Ok pair → IsStatable n pair
      by_test true own q =
          let same : pair_of (Below (canonical x) (canonical y)) r ≡ pair = cc in
          let s = of r refl in
          let two = and_parts (is_own_atom x) (is_own_atom y) own in
          subst (IsStatable n) same (record {
            asked = (canonical_own x (own_atom x two.0), canonical_own y (own_atom y two.1));
            fits = s.0;
            question_named = (IsNamed-canonical n x nx, IsNamed-canonical n y ny);
            reply_named = s.1;
          })
      by_test false own q = absurd (cc)

  values_may : (t : Tuple) (vs : List Term) → MayCover t → TupleIsNamed n t → AllNamed n vs → values_stated t vs ≡ Ok pair → IsStatable n pair
  values_may t vs may named vs_named e = by_tests (list_all is_ground vs) (length vs == length (unknowns t)) (list_all is_true_if_builtin (with_values t vs)) refl refl refl e
    where
      by_tests : (a b d : Bool) → list_all is_ground vs ≡ a → (length vs == length (unknowns t)) ≡ b → list_all is_true_if_builtin (with_values t vs) ≡ d
          → (if not a then Err NotGround else (if not b then Err WrongCount else (if not d then Err BuiltinFalse else Ok (pair_of (Covers t) (Values vs))))) ≡ Ok pair → IsStatable n pair
      by_tests false b d ground count truth q = absurd (cc)
      by_tests true false d ground count truth q = absurd (cc)
      by_tests true true false ground count truth q = absurd (cc)
      by_tests true true true ground count truth q =
          let same : pair_of (Covers t) (Values vs) ≡ pair = cc in
          subst (IsStatable n) same (record {
            asked = may;
            fits = record { ground = all_ground vs ground; count = eqb-true (length vs) (length (unknowns t)) count; builtins = all_pass (with_values t vs) truth };
            question_named = named;
            reply_named = vs_named;
          })

  solution_may : (t : Tuple) (r : Reply) → MayCover t → TupleIsNamed n t → ReplyIsNamed n r → solution_stated t r ≡ Ok pair → IsStatable n pair
  solution_may t Yes may named r_named e = absurd (cc)
  solution_may t No may named r_named e =
      let same : pair_of (Covers t) No ≡ pair = cc in
      subst (IsStatable n) same (record { asked = may; fits = tt; question_named = named; reply_named = tt })
  solution_may t (Values vs) may named r_named e = values_may t vs may named r_named e
  solution_may t Unknown may named r_named e = absurd (cc)

  -- a rule has a goal
  rule_has_goal : (c : Term) → is_rule c ≡ true → 0 < length (parts_of c).body
  rule_has_goal (variable v) e = absurd (cc)
  rule_has_goal (integer i) e = absurd (cc)
  rule_has_goal (compound f none) e = absurd (cc)
  rule_has_goal (compound f (more a none)) e = absurd (cc)
  rule_has_goal (compound f (more a (more b none))) e =
      subst (λ (x : Bool). 0 < length (if x then record { head = a; body = conjuncts b } else fact (compound f (more a (more b none)))).body) (sym e) (some_conjunct b)
  rule_has_goal (compound f (more a (more b (more d ts)))) e = absurd (cc)

  rule_may : (c : Term) (t : Tuple) → is_rule c ≡ true → clause_from c ≡ Ok t → is_ground t.head ≡ true → MayCover t
  rule_may c t rule e ground =
      let taken = is_taken c t e in
      let pure = clause_is_pure c t e in
      record {
        head = pure.head;
        ground = test_ground t.head ground;
        some = subst (λ (x : Tuple). 0 < length x.body) (sym taken.parts) (rule_has_goal c rule);
        few = (body_is_clean t.body (none_or (head_fault t.head) (body_fault t.body) taken.clean).1).few;
        goals = pure.body;
      }

  body_may : (c : Term) (w : Result Tuple BodyFault) (r : Reply) → clause_from c ≡ w → is_rule c ≡ true → IsNamed n c → ReplyIsNamed n r → body_stated w r ≡ Ok pair → IsStatable n pair
  body_may c (Err fault) r is rule named r_named e = absurd (cc)
  body_may c (Ok t) r is rule named r_named e = by_test (is_ground t.head) refl e
    where
      by_test : (b : Bool) → is_ground t.head ≡ b → (if b then solution_stated t r else Err NotGround) ≡ Ok pair → IsStatable n pair
      by_test true ground q = solution_may t r (rule_may c t rule is ground) (clause_is_named c t is n named) r_named q
      by_test false ground q = absurd (cc)

  cover_may : (c : Term) (o : Option Reply) → IsNamed n c → ((r : Reply) → o ≡ Some r → ReplyIsNamed n r) → cover_stated c o ≡ Ok pair → IsStatable n pair
  cover_may c None named of e = absurd (cc)
  cover_may c (Some r) named of e = by_test (is_rule c) refl e
    where
      by_test : (b : Bool) → is_rule c ≡ b → (if b then body_stated (clause_from c) r else Err NotAStatement) ≡ Ok pair → IsStatable n pair
      by_test true rule q = body_may c (clause_from c) r refl rule named (of r refl) q
      by_test false rule q = absurd (cc)

  -- in a file of either form a word is a reply to whether an atom is true
  word_may : (form : FileForm) (a r : Term) (s : Reply) → truth_in form r ≡ Some s → Fits (True a) s × ReplyIsNamed n s
  word_may First a r s is = (word_told_fits (True a) r s tt tt is, word_told_named n r s is)
  word_may Second a r s is = (truth_told_fits (True a) r s tt tt tt is, truth_told_named n r s is)

  -- what a term replies may be stated, with the names of the term
  pub reply_may : (form : FileForm) (t : Term) → IsNamed n t → reply_stated form t ≡ Ok pair → IsStatable n pair
  unfolding reply_stated
  reply_may form (variable v) named e = absurd (cc)
  reply_may form (integer i) named e = absurd (cc)
  reply_may form (compound f none) named e = absurd (cc)
  reply_may form (compound f (more a none)) named e = absurd (cc)
  reply_may form (compound f (more a (more r none))) named e = by_name (f.0 == TRUE.0) (f.0 == COVERS.0) e
    where
      by_name : (b d : Bool) → (if b then truth_stated a (truth_in form r) else (if d then cover_stated a (values_told r) else Err NotAStatement)) ≡ Ok pair → IsStatable n pair
      by_name true d q = truth_may a (truth_in form r) named.1.0 (λ s is. word_may form a r s is) q
      by_name false true q = cover_may a (values_told r) named.1.0 (λ s is. values_told_named n r s named.1.1.0 is) q
      by_name false false q = absurd (cc)
  reply_may form (compound f (more x (more y (more r none)))) named e = by_name (f.0 == BELOW.0) e
    where
      by_name : (b : Bool) → (if b then order_stated x y (word_told r) else Err NotAStatement) ≡ Ok pair → IsStatable n pair
      by_name true q =
          order_may x y (word_told r) named.1.0 named.1.1.0 (λ s is. (word_told_fits (Below (canonical x) (canonical y)) r s tt tt is, word_told_named n r s is)) q
      by_name false q = absurd (cc)
  reply_may form (compound f (more x (more y (more r (more z ts))))) named e = absurd (cc)

-- each term is named by some names
abbrev mutual
  bound : Term → ℕ
  bound (variable v) = 0
  bound (integer i) = 0
  bound (compound f ts) = suc f.0 + bounds ts

  bounds : Terms → ℕ
  bounds none = 0
  bounds (more t ts) = bound t + bounds ts

mutual
  bound_named : (t : Term) → IsNamed (bound t) t
  bound_named (variable v) = tt
  bound_named (integer i) = tt
  bound_named (compound f ts) = (omega arith, AreNamed-more (bounds ts) (suc f.0 + bounds ts) ts (omega arith) (bounds_named ts))

  bounds_named : (ts : Terms) → AreNamed (bounds ts) ts
  bounds_named none = tt
  bounds_named (more t ts) =
      (IsNamed-more (bound t) (bound t + bounds ts) t (omega arith) (bound_named t), AreNamed-more (bounds ts) (bound t + bounds ts) ts (omega arith) (bounds_named ts))

-- so the reply that is stated fits
pub reply_fits : (form : FileForm) (t : Term) (pair : Pair) → reply_stated form t ≡ Ok pair → Fits pair.question pair.reply
reply_fits form t pair e = (reply_may (bound t) pair form t (bound_named t) e).fits

-- a term that is a name with three arguments
pub three_parts : (t a b d : Term) (f : NameId) → is_pred (predicate_of t) (f ∕ 3) ≡ true → slice_get (arguments t) 0 ≡ Some a → slice_get (arguments t) 1 ≡ Some b → slice_get (arguments t) 2 ≡ Some d
    → t ≡ compound f (more a (more b (more d none)))
three_parts (variable v) a b d f e p q r = absurd (cc)
three_parts (integer i) a b d f e p q r = absurd (cc)
three_parts (compound g none) a b d f e p q r = absurd (cc)
three_parts (compound g (more x none)) a b d f e p q r = absurd (cc)
three_parts (compound g (more x (more y none))) a b d f e p q r = absurd (cc)
three_parts (compound g (more x (more y (more z none)))) a b d f e p q r =
    let name : g ∕ 3 ≡ f ∕ 3 = same_pred-true (g ∕ 3) (f ∕ 3) e in
    let i : x ≡ a = cc in
    let j : y ≡ b = cc in
    let k : z ≡ d = cc in
    ap (λ (s : Pred). compound s.name (more x (more y (more z none)))) name
    ∙ ap (λ u. compound f (more u (more y (more z none)))) i
    ∙ ap (λ u. compound f (more a (more u (more z none)))) j
    ∙ ap (λ u. compound f (more a (more b (more u none)))) k
three_parts (compound g (more x (more y (more z (more w ts))))) a b d f e p q r =
    let name = same_pred-true (g ∕ length (list_of (more x (more y (more z (more w ts)))))) (f ∕ 3) e in
    absurd (omega (arith, ap (λ (s : Pred). s.arity) name))
