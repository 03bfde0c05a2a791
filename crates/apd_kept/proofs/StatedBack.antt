-- What the statement of a pair states: the same reply to the same question, up to its canonical form. And of a trusted predicate, that it is trusted.
use Rattle.std.proofs.Common.{◌≡◌, ◌==◌, ◌&&◌, ℕ, ◌+◌, ◌-◌, ◌≤◌, Bool, true, List, [], ◌∷◌, length, map, Option, Some, None, Result, Ok, Err, refl, sym, ◌∙◌, ap, subst, arith, le-leb, eq-eqb}
use Rattle.std.specs.Prelude.{All, if◌then◌else◌, IsSome}
use Rattle.std.specs.List.{AllByRecursion, flat_map, list_all}
use Rattle.std.specs.Option.{option_map}
use Rattle.std.proofs.lemmas.List.{length-map}
use Rattle.std.proofs.lemmas.List.Elements.{All-map, All-weaker}
use Rattle.apd_term.specs.Canonical.{canonical}
use Rattle.apd_term.specs.Term.{IsGround, Term, apply, arguments, compound, more, none, predicate_of, variables}
use Rattle.apd_term.specs.Tuple.{apply_tuple, canonical_tuple}
use Rattle.apd_term.specs.declared.standard.TheConstants.{BELOW, COVERS, TRUE}
use Rattle.apd_term.specs.declared.term.Pred.{Pred}
use Rattle.apd_term.specs.declared.tuple.Tuple.{Tuple}
use Rattle.apd_term.proofs.Ground.{apply-ground}
use Rattle.apd_term.proofs.Variants.{canonical-canonical, canonical-renamed}
use Rattle.apd_arith.specs.Builtins.{builtin_of_atom}
use Rattle.apd_arith.specs.Truth.{IsTrueBy}
use Rattle.apd_arith.specs.Truths.{is_ground}
use Rattle.apd_arith.specs.declared.goal.Builtin.{Builtin}
use Rattle.apd_arith.proofs.Tests.{ground_test, true_goal}
use Rattle.apd_causes.specs.declared.faults.OracleCause.TheVariants.{NotUserAtom, NotGround}
use Rattle.apd_clauses.specs.Bodies.{clause_from}
use Rattle.apd_clauses.specs.Kinds.{IsPureGoal, IsUserAtom, kind_of}
use Rattle.apd_clauses.specs.declared.kinds.Kind.TheVariants as kinds
use Rattle.apd_record.proofs.Atoms.{IsPureGoal-apply, IsUserAtom-apply}
use Rattle.apd_answers.specs.Questions.{Fits, IsTrueIfBuiltin, body_with, canonical_question, unknowns, with_values}
use Rattle.apd_answers.specs.Store.{Store}
use Rattle.apd_answers.specs.Trust.{with_trust}
use Rattle.apd_answers.specs.declared.question.Question.{Question}
use Rattle.apd_answers.specs.declared.question.Question.TheVariants.{True, Covers, Below}
use Rattle.apd_answers.specs.declared.question.Reply.{Reply}
use Rattle.apd_answers.specs.declared.question.Reply.TheVariants.{Yes, No, Values, Unknown}
use Rattle.apd_answers.specs.declared.store.Pair.{Pair}
use Rattle.apd_text.specs.ClauseTerms.{with_body}
use Rattle.apd_clauses.specs.Indicators.{indicated}
use Rattle.apd_known.specs.Pairs.{IsStatable, MayAsk, MayCover, MayTrust}
use Rattle.apd_known.specs.Statements.{body_stated, cover_stated, is_own, is_of_own, is_own_atom, of_reply, order_stated, pair_of, reply_stated, solution_stated, statement_added, term_stated, trust_stated, truth_stated}
use Rattle.apd_known.specs.Told.{truth_told, values_told, word_told}
use Rattle.apd_term.proofs.Listed.{listed-list}
use Rattle.apd_known.specs.Truths.{is_true_if_builtin, passes}
use Rattle.apd_known.specs.declared.statements.FileForm.TheVariants.{Second}
use Rattle.apd_record.proofs.Missing.{both_empty}
use Rattle.apd_kept.specs.Kept.{apart_from, pair_term, reply_term, trust_term, variable_count}
use Rattle.apd_kept.proofs.Clauses.{clause_back_from}
use Rattle.apd_kept.proofs.Forms.{back, clause_apply, clause_back, list_ground, same_form, same_tuple_form, same_unknowns, there, three_back, two_back}
use Rattle.apd_answers.proofs.Places.{values_ground}

-- the statement of a pair, stated again
pub record IsStatedBack (p : Pair) : Type 0 where
  pub pair : Pair
  pub stated : term_stated Second (pair_term p) ≡ of_reply (Ok pair)
  pub question : canonical_question p.question ≡ canonical_question pair.question
  pub reply : p.reply ≡ pair.reply

own_by : (o : Option Pred) → option_map kind_of o ≡ Some kinds.User → is_of_own o ≡ true
own_by None e = absurd (cc)
own_by (Some p) e = let same : kind_of p ≡ kinds.User = cc in ap is_own same

own_test : (a : Term) → IsUserAtom a → is_own_atom a ≡ true
own_test a user = own_by (predicate_of a) user

-- the term of a reply has no variable, and tells it
reply_ground : (q : Question) (r : Reply) → Fits q r → IsGround (reply_term r)
reply_ground q Yes fits = refl
reply_ground q No fits = refl
reply_ground q Unknown fits = refl
reply_ground (True a) (Values vs) fits = absurd fits
reply_ground (Below x y) (Values vs) fits = absurd fits
reply_ground (Covers t) (Values vs) fits = rw (list_ground vs fits.ground) refl

truth_back_told : (a : Term) (r : Reply) → Fits (True a) r → truth_told (reply_term r) ≡ Some r
truth_back_told a Yes fits = refl
truth_back_told a No fits = refl
truth_back_told a (Values vs) fits = absurd fits
truth_back_told a Unknown fits = refl

order_back_told : (x y : Term) (r : Reply) → Fits (Below x y) r → word_told (reply_term r) ≡ Some r
order_back_told x y Yes fits = refl
order_back_told x y No fits = refl
order_back_told x y (Values vs) fits = absurd fits
order_back_told x y Unknown fits = absurd fits

values_back_told : (t : Tuple) (r : Reply) → Fits (Covers t) r → values_told (reply_term r) ≡ Some r
values_back_told t Yes fits = absurd fits
values_back_told t No fits = refl
values_back_told t (Values vs) fits = ap (option_map Values) (listed-list vs)
values_back_told t Unknown fits = absurd fits

-- whether an atom is true
truth_back : (a : Term) (r : Reply) → IsUserAtom a → Fits (True a) r → IsStatedBack (record { question = True a; reply = r })
unfolding term_stated reply_stated
truth_back a r user fits =
    let w : Term = reply_term r in
    let whole : Term = compound TRUE (more a (more w none)) in
    let s = there whole in
    let b : Term = apply s a in
    record {
      pair = pair_of (True b) r;
      stated = ap (λ (x : Term). of_reply (truth_stated b (truth_told x))) (apply-ground s w (reply_ground (True a) r fits))
          ∙ ap (λ (o : Option Reply). of_reply (truth_stated b o)) (truth_back_told a r fits)
          ∙ ap (λ (c : Bool). of_reply (if c then Ok (pair_of (True b) r) else Err NotUserAtom)) (own_test b (IsUserAtom-apply s a user));
      question = ap True (same_form s (back whole) a (two_back TRUE a w).0);
      reply = refl;
    }

-- whether a call is below another
order_back : (x y : Term) (r : Reply) → IsUserAtom x → IsUserAtom y → Fits (Below x y) r → IsStatedBack (record { question = Below x y; reply = r })
unfolding term_stated reply_stated
order_back x y r user_x user_y fits =
    let w : Term = reply_term r in
    let q : Term = canonical x in
    let p : Term = apart_from x y in
    let whole : Term = compound BELOW (more q (more p (more w none))) in
    let s = there whole in
    let q' : Term = apply s q in
    let p' : Term = apply s p in
    let backs = three_back BELOW q p w in
    let own_q : is_own_atom q' ≡ true = own_test q' (IsUserAtom-apply s q (IsUserAtom-apply _ x user_x)) in
    let own_p : is_own_atom p' ≡ true = own_test p' (IsUserAtom-apply s p (IsUserAtom-apply _ (canonical y) (IsUserAtom-apply _ y user_y))) in
    let again_q : canonical x ≡ canonical (canonical q') = sym (canonical-canonical x) ∙ same_form s (back whole) q backs.0 ∙ sym (canonical-canonical q') in
    let moved : canonical p ≡ canonical (canonical y) = canonical-renamed (λ v. variable_count x + v) (λ v. v - variable_count x) (canonical y) (λ v o. omega arith) in
    let again_p : canonical y ≡ canonical (canonical p') = sym (canonical-canonical y) ∙ sym moved ∙ same_form s (back whole) p backs.1 ∙ sym (canonical-canonical p') in
    record {
      pair = pair_of (Below (canonical q') (canonical p')) r;
      stated = ap (λ (u : Term). of_reply (order_stated q' p' (word_told u))) (apply-ground s w (reply_ground (Below x y) r fits))
          ∙ ap (λ (o : Option Reply). of_reply (order_stated q' p' o)) (order_back_told x y r fits)
          ∙ ap (λ (c : Bool). of_reply (if c && is_own_atom p' then Ok (pair_of (Below (canonical q') (canonical p')) r) else Err NotUserAtom)) own_q
          ∙ ap (λ (c : Bool). of_reply (if c then Ok (pair_of (Below (canonical q') (canonical p')) r) else Err NotUserAtom)) own_p;
      question = ap (λ (u : Term). Below u (canonical y)) again_q ∙ ap (λ (u : Term). Below (canonical (canonical q')) u) again_p;
      reply = refl;
    }

-- ground atoms pass where they are true
passes_by : (o : Option Builtin) (a : Term) → IsGround a → (IsSome o → IsTrueBy o (arguments a)) → passes o a ≡ true
passes_by None a ground holds = refl
passes_by (Some goal) a ground holds = rw (ground_test a ground, true_goal goal (arguments a) (holds refl)) refl

pass_all : (ts : List Term) → flat_map variables ts ≡ [] → AllByRecursion IsTrueIfBuiltin ts → list_all is_true_if_builtin ts ≡ true
pass_all [] ground holds = refl
pass_all (t ∷ ts) ground holds =
    let parts = both_empty (variables t) (flat_map variables ts) ground in
    rw (passes_by (builtin_of_atom t) t parts.0 holds.0, pass_all ts parts.1 holds.1) refl

-- values under which a body is true, or that there are none
solution_back : (t u : Tuple) (r : Reply) → IsGround t.head → Fits (Covers t) r → canonical_tuple t ≡ canonical_tuple u → length (unknowns u) ≡ length (unknowns t) → solution_stated u r ≡ Ok (pair_of (Covers u) r)
solution_back t u Yes head fits same count = absurd fits
solution_back t u No head fits same count = refl
solution_back t u Unknown head fits same count = absurd fits
solution_back t u (Values vs) head fits same count =
    let ground : list_all is_ground vs ≡ true = grounds vs fits.ground in
    let many : (length vs == length (unknowns u)) ≡ true = eq-eqb (length vs) (length (unknowns u)) (fits.count ∙ sym count) in
    let true_ : list_all is_true_if_builtin (with_values u vs) ≡ true =
    ap (λ (c : Tuple). list_all is_true_if_builtin (body_with c vs)) (sym same) ∙ pass_all (with_values t vs) (values_ground t vs head fits.ground fits.count) fits.builtins in
    rw (ground, many, true_) refl
  where
    grounds : (ts : List Term) → AllByRecursion IsGround ts → list_all is_ground ts ≡ true
    grounds [] h = refl
    grounds (v ∷ ts) h = rw (ground_test v h.0, grounds ts h.1) refl

cover_back : (head g : Term) (gs : List Term) (r : Reply) → MayCover (record { head = head; body = g ∷ gs }) → Fits (Covers (record { head = head; body = g ∷ gs })) r
    → IsStatedBack (record { question = Covers (record { head = head; body = g ∷ gs }); reply = r })
unfolding term_stated reply_stated
cover_back head g gs r may fits =
    let t : Tuple = record { head = head; body = g ∷ gs } in
    let w : Term = reply_term r in
    let c : Term = with_body head (g ∷ gs) in
    let whole : Term = compound COVERS (more c (more w none)) in
    let s = there whole in
    let u : Tuple = apply_tuple s t in
    let same_t : apply_tuple (back whole) u ≡ t = clause_back s (back whole) head g gs (two_back COVERS c w).0 in
    let same : canonical_tuple t ≡ canonical_tuple u = same_tuple_form s (back whole) t same_t in
    let count : length (unknowns u) ≡ length (unknowns t) = same_unknowns _ (back whole) t same_t in
    let pure : All IsPureGoal u.body = All-map IsPureGoal (apply s) t.body (All-weaker IsPureGoal (λ x. IsPureGoal (apply s x)) (IsPureGoal-apply s) t.body may.goals) in
    let few : length u.body ≤ 64 = subst (λ n. n ≤ 64) (sym (length-map t.body (apply s))) may.few in
    let taken : clause_from (with_body u.head u.body) ≡ Ok u = clause_back_from u.head (apply s g) (map (apply s) gs) (IsUserAtom-apply s head may.head) pure few in
    let ground : is_ground u.head ≡ true = ap is_ground (apply-ground s head may.ground) ∙ ground_test head may.ground in
    record {
      pair = pair_of (Covers u) r;
      stated = ap (λ (x : Term). of_reply (cover_stated (apply s c) (values_told x))) (apply-ground s w (reply_ground (Covers t) r fits))
          ∙ ap (λ (o : Option Reply). of_reply (cover_stated (apply s c) o)) (values_back_told t r fits)
          ∙ ap (λ (x : Term). of_reply (cover_stated x (Some r))) (clause_apply s t)
          ∙ ap (λ (x : Result Tuple _). of_reply (body_stated x r)) taken
          ∙ ap (λ (b : Bool). of_reply (if b then solution_stated u r else Err NotGround)) ground
          ∙ ap of_reply (solution_back t u r may.ground fits same count);
      question = ap Covers same;
      reply = refl;
    }

-- a statement of each pair that may be stated
pub stated_back : (n : ℕ) (p : Pair) → IsStatable n p → IsStatedBack p
stated_back n p may = by p.question p.reply may.asked may.fits
  where
    by : (q : Question) (r : Reply) → MayAsk q → Fits q r → IsStatedBack (record { question = q; reply = r })
    by (True a) r user fits = truth_back a r user fits
    by (Below x y) r users fits = order_back x y r users.0 users.1 fits
    by (Covers t) r may fits = by_body t.body refl
      where
        by_body : (body : List Term) → t.body ≡ body → IsStatedBack (record { question = Covers t; reply = r })
        by_body [] is = absurd (let some = may.some in let none = ap length is in omega (arith, some, none))
        by_body (g ∷ gs) is =
            let same : record { head = t.head; body = g ∷ gs } ≡ t = ap (λ (b : List Term). record { head = t.head; body = b }) (sym is) in
            subst (λ (u : Tuple). IsStatedBack (record { question = Covers u; reply = r })) same
            (cover_back t.head g gs r (subst MayCover (sym same) may) (subst (λ (u : Tuple). Fits (Covers u) r) (sym same) fits))

-- and of each predicate that may be trusted
pub trust_back : (p : Pred) → p.arity ≤ 255 → term_stated Second (trust_term p) ≡ trust_stated Second (Some p)
unfolding term_stated
trust_back p few = ap (λ (b : Bool). trust_stated Second (indicated (Some p.name) (if b then Some p.arity else None))) (le-leb p.arity 255 few)

-- which is kept
pub trust_added : (n : ℕ) (p : Pred) (store : Store) (k : ℕ) → MayTrust n p → statement_added (record { form = Second; answers = store; statements = k }) (trust_stated Second (Some p))
    ≡ Ok (record { form = Second; answers = with_trust store p; statements = k + 1 })
trust_added n p store k may = rw may.own refl
