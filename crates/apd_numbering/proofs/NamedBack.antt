-- A text whose line says what has kept names was read as a term whose names are kept.
use Rattle.std.proofs.Common.{◌≡◌, ℕ, ◌<◌, ◌≤◌, Bool, true, false, List, [], ◌∷◌, ◌++◌, length, map, refl, sym, ◌∙◌, subst, arith, Option, None, Some}
use Rattle.std.specs.Prelude.{◌==◌, if◌then◌else◌}
use Rattle.std.specs.Option.{option_map, option_or}
use Rattle.std.proofs.lemmas.Bool.{true≢false, and_parts}
use Rattle.std.proofs.lemmas.Bool.Decides.{Decides-eqb}
use Rattle.apd_answers.specs.declared.question.Reply.{Reply}
use Rattle.apd_answers.specs.declared.question.Reply.TheVariants.{Yes, No, Values, Unknown}
use Rattle.apd_answers.specs.Named.{ReplyIsNamed}
use Rattle.apd_causes.specs.declared.faults.BodyFault.{BodyFault}
use Rattle.apd_causes.specs.declared.reading.Read.{Read}
use Rattle.apd_claims.specs.Claims.{fact, goals_in, query_claim, query_told, reply_in, tuple_in}
use Rattle.apd_claims.specs.declared.claim.Claim.TheVariants.{Garbled}
use Rattle.apd_clauses.specs.Bodies.{body_fault, conjuncts, conjuncts_all, unless_fault}
use Rattle.apd_clauses.specs.Kinds.{◌∕◌}
use Rattle.apd_clauses.specs.Predicates.{is_pred}
use Rattle.apd_clauses.specs.Queries.{goals_asked, query_from, query_showing, shown_variables}
use Rattle.apd_known.specs.Told.{is_word, values_of}
use Rattle.apd_term.specs.Canonical.{canonical}
use Rattle.apd_term.specs.Listed.{listed, listed_in}
use Rattle.apd_term.specs.Named.{AllNamed, AreNamed, IsNamed, TupleIsNamed}
use Rattle.apd_term.specs.Term.{Term, Terms, variable, integer, compound, none, more, apply, apply_all, arguments, list_of, predicate_of}
use Rattle.apd_term.specs.Tuple.{canonical_tuple}
use Rattle.apd_term.specs.declared.standard.TheConstants.{CELL, COMMA, NECK, NIL, NO, QUERY, UNKNOWN, YES}
use Rattle.apd_term.specs.declared.term.NameId.{NameId}
use Rattle.apd_term.specs.declared.tuple.Tuple.{Tuple}
use Rattle.apd_numbering.specs.Said.{ClaimIsNamed}

-- A substitution takes no name away.

mutual
  apply-back : (n : ℕ) (s : ℕ → Term) (t : Term) → IsNamed n (apply s t) → IsNamed n t
  apply-back n s (variable v) i = tt
  apply-back n s (integer z) i = tt
  apply-back n s (compound f ts) i = (i.0, apply_all-back n s ts i.1)

  apply_all-back : (n : ℕ) (s : ℕ → Term) (ts : Terms) → AreNamed n (apply_all s ts) → AreNamed n ts
  apply_all-back n s none i = tt
  apply_all-back n s (more t ts) i = (apply-back n s t i.0, apply_all-back n s ts i.1)

pub canonical-back : (n : ℕ) (t : Term) → IsNamed n (canonical t) → IsNamed n t
canonical-back n t i = apply-back n _ t i

list-back : (n : ℕ) (s : ℕ → Term) (ts : List Term) → AllNamed n (map (apply s) ts) → AllNamed n ts
list-back n s [] i = tt
list-back n s (t ∷ ts) i = (apply-back n s t i.0, list-back n s ts i.1)

pub canonical_tuple-back : (n : ℕ) (t : Tuple) → TupleIsNamed n (canonical_tuple t) → TupleIsNamed n t
canonical_tuple-back n t i = (apply-back n _ t.head i.0, list-back n _ t.body i.1)

-- A predicate that is the standard one.

named_pred : (n : ℕ) → 132 ≤ n → (f c : NameId) (k m : ℕ) → c.0 < 132 → is_pred (Some (record { name = f; arity = k })) (c ∕ m) ≡ true → (f.0 < n) × (k ≡ m)
named_pred n many f c k m l e =
    let s = and_parts (f.0 == c.0) (k == m) e in
    let same : f.0 ≡ c.0 = (Decides-eqb f.0 c.0).0 s.0 in
    (omega (arith, same, l, many), (Decides-eqb k m).0 s.1)

module _ (n : ℕ) (many : 132 ≤ n) where
  name-below : (f c : NameId) → c.0 < 132 → (f.0 == c.0) ≡ true → f.0 < n
  name-below f c l e = let same : f.0 ≡ c.0 = (Decides-eqb f.0 c.0).0 e in omega (arith, same, l, many)

  append-back : (ts us : List Term) → AllNamed n (ts ++ us) → AllNamed n ts × AllNamed n us
  append-back [] us i = (tt, i)
  append-back (t ∷ ts) us i = let k = append-back ts us i.1 in ((i.0, k.0), k.1)

  -- Queries.

  mutual
    conjuncts-back : (t : Term) → AllNamed n (conjuncts t) → IsNamed n t
    conjuncts-back (variable v) i = tt
    conjuncts-back (integer z) i = tt
    conjuncts-back (compound f ts) i = by (is_pred (predicate_of (compound f ts)) (COMMA ∕ 2)) refl (all_conjuncts-back ts) i
      where
        by : (b : Bool) → is_pred (predicate_of (compound f ts)) (COMMA ∕ 2) ≡ b → (AllNamed n (conjuncts_all ts) → AreNamed n ts) → AllNamed n (if b then conjuncts_all ts else compound f ts ∷ []) → IsNamed n (compound f ts)
        by true e h j = ((named_pred n many f COMMA (length (list_of ts)) 2 (omega arith) e).0, h j)
        by false e h j = j.0

    all_conjuncts-back : (ts : Terms) → AllNamed n (conjuncts_all ts) → AreNamed n ts
    all_conjuncts-back none i = tt
    all_conjuncts-back (more t ts) i = let k = append-back (conjuncts t) (conjuncts_all ts) i in (conjuncts-back t k.0, all_conjuncts-back ts k.1)

  asked-back : (t : Term) → is_pred (predicate_of t) (QUERY ∕ 1) ≡ true → AllNamed n (goals_asked t) → IsNamed n t
  asked-back (variable v) e i = absurd (true≢false (sym e))
  asked-back (integer z) e i = absurd (true≢false (sym e))
  asked-back (compound f none) e i = absurd (omega (arith, (named_pred n many f QUERY 0 1 (omega arith) e).1))
  asked-back (compound f (more b none)) e i = by (f.0 == QUERY.0) refl i
    where
      by : (c : Bool) → (f.0 == QUERY.0) ≡ c → AllNamed n (if c then conjuncts b else []) → IsNamed n (compound f (more b none))
      by true d j = (name-below f QUERY (omega arith) d, (conjuncts-back b j, tt))
      by false d j = absurd (true≢false (sym (and_parts (f.0 == QUERY.0) (1 == 1) e).0 ∙ d))
  asked-back (compound f (more b (more c ts))) e i = absurd (omega (arith, (named_pred n many f QUERY (length (list_of (more b (more c ts)))) 1 (omega arith) e).1))

  pub query-back : (p : Read) → (query_claim p ≡ Garbled → ⊥) → ClaimIsNamed n (query_claim p) → IsNamed n p.term
  query-back p good i = by (is_pred (predicate_of p.term) (QUERY ∕ 1)) refl good i
    where
      told : (o : Option BodyFault) → is_pred (predicate_of p.term) (QUERY ∕ 1) ≡ true → (query_told (unless_fault o (query_showing (shown_variables p.vars p.term) (goals_asked p.term))) ≡ Garbled → ⊥)
          → ClaimIsNamed n (query_told (unless_fault o (query_showing (shown_variables p.vars p.term) (goals_asked p.term)))) → IsNamed n p.term
      told None e h j = asked-back p.term e j.1
      told (Some fault) e h j = absurd (h refl)

      by : (b : Bool) → is_pred (predicate_of p.term) (QUERY ∕ 1) ≡ b → ((if b then query_told (query_from p) else Garbled) ≡ Garbled → ⊥) → ClaimIsNamed n (if b then query_told (query_from p) else Garbled) → IsNamed n p.term
      by true e h j = told (body_fault (goals_asked p.term)) e h j
      by false e h j = absurd (h refl)

  -- Clauses.

  goals_in-back : (t : Term) → AllNamed n (goals_in t) → IsNamed n t
  goals_in-back (variable v) i = tt
  goals_in-back (integer z) i = tt
  goals_in-back (compound f none) i = i.0
  goals_in-back (compound f (more a none)) i = i.0
  goals_in-back (compound f (more a (more b none))) i = by (f.0 == COMMA.0) refl (goals_in-back b) i
    where
      by : (c : Bool) → (f.0 == COMMA.0) ≡ c → (AllNamed n (goals_in b) → IsNamed n b) → AllNamed n (if c then a ∷ goals_in b else compound f (more a (more b none)) ∷ []) → IsNamed n (compound f (more a (more b none)))
      by true e h j = (name-below f COMMA (omega arith) e, (j.0, (h j.1, tt)))
      by false e h j = j.0
  goals_in-back (compound f (more a (more b (more c ts)))) i = i.0

  pub tuple_in-back : (t : Term) → TupleIsNamed n (tuple_in t) → IsNamed n t
  tuple_in-back (variable v) i = tt
  tuple_in-back (integer z) i = tt
  tuple_in-back (compound f none) i = i.0
  tuple_in-back (compound f (more a none)) i = i.0
  tuple_in-back (compound f (more a (more b none))) i = by (f.0 == NECK.0) refl i
    where
      by : (c : Bool) → (f.0 == NECK.0) ≡ c → TupleIsNamed n (if c then record { head = a; body = goals_in b } else fact (compound f (more a (more b none)))) → IsNamed n (compound f (more a (more b none)))
      by true e j = (name-below f NECK (omega arith) e, (j.0, (goals_in-back b j.1, tt)))
      by false e j = j.0
  tuple_in-back (compound f (more a (more b (more c ts)))) i = i.0

  -- Replies.

  word-back : (t : Term) (word : NameId) → word.0 < 132 → is_word t word ≡ true → IsNamed n t
  word-back (variable v) word l e = absurd (true≢false (sym e))
  word-back (integer z) word l e = absurd (true≢false (sym e))
  word-back (compound f none) word l e = ((named_pred n many f word 0 0 l e).0, tt)
  word-back (compound f (more a ts)) word l e = absurd (omega (arith, (named_pred n many f word (length (list_of (more a ts))) 0 l e).1))

  mutual
    listed-back : (t : Term) (ts : List Term) → listed t ≡ Some ts → AllNamed n ts → IsNamed n t
    listed-back (variable v) ts e i = tt
    listed-back (integer z) ts e i = tt
    listed-back (compound f us) ts e i = listed_in-back f us ts e i

    listed_in-back : (f : NameId) (us : Terms) (ts : List Term) → listed_in f us ≡ Some ts → AllNamed n ts → (f.0 < n) × AreNamed n us
    listed_in-back f none ts e i = by (f.0 == NIL.0) refl e
      where
        by : (c : Bool) → (f.0 == NIL.0) ≡ c → (if c then Some [] else None) ≡ Some ts → (f.0 < n) × AreNamed n none
        by true d h = (name-below f NIL (omega arith) d, tt)
        by false d h = absurd cc
    listed_in-back f (more t none) ts e i = absurd cc
    listed_in-back f (more t (more u none)) ts e i = by (f.0 == CELL.0) refl (listed u) (listed-back u) e
      where
        by : (c : Bool) → (f.0 == CELL.0) ≡ c → (o : Option (List Term)) → ((vs : List Term) → o ≡ Some vs → AllNamed n vs → IsNamed n u) → (if c then option_map (λ vs. t ∷ vs) o else None) ≡ Some ts
            → (f.0 < n) × AreNamed n (more t (more u none))
        by true d (Some vs) h k =
            let same : t ∷ vs ≡ ts = cc in
            let j : AllNamed n (t ∷ vs) = subst (AllNamed n) (sym same) i in
            (name-below f CELL (omega arith) d, (j.0, (h vs refl j.1, tt)))
        by true d None h k = absurd cc
        by false d o h k = absurd cc
    listed_in-back f (more t (more u (more w us))) ts e i = absurd cc

  values_of-back : (t : Term) (reply : Reply) → is_pred (predicate_of t) (YES ∕ 1) ≡ true → values_of (arguments t) ≡ Some reply → ReplyIsNamed n reply → IsNamed n t
  values_of-back (variable v) reply e h i = tt
  values_of-back (integer z) reply e h i = tt
  values_of-back (compound f none) reply e h i = absurd cc
  values_of-back (compound f (more u none)) reply e h i = ((named_pred n many f YES 1 1 (omega arith) e).0, (by (listed u) (listed-back u) h, tt))
    where
      by : (o : Option (List Term)) → ((vs : List Term) → o ≡ Some vs → AllNamed n vs → IsNamed n u) → option_map Values o ≡ Some reply → IsNamed n u
      by None k j = absurd cc
      by (Some vs) k j = let same : reply ≡ Values vs = cc in k vs refl (subst (ReplyIsNamed n) same i)
  values_of-back (compound f (more u (more w us))) reply e h i = absurd cc

  pub reply_in-back : (t : Term) (reply : Reply) → reply_in t ≡ Some reply → ReplyIsNamed n reply → IsNamed n t
  reply_in-back t reply e i =
      by (is_word t UNKNOWN) (is_word t YES) (is_word t NO) (is_pred (predicate_of t) (YES ∕ 1)) (word-back t UNKNOWN (omega arith)) (word-back t YES (omega arith)) (word-back t NO (omega arith))
      (λ d h. values_of-back t reply d h i) e
    where
      by : (a b c d : Bool) → (a ≡ true → IsNamed n t) → (b ≡ true → IsNamed n t) → (c ≡ true → IsNamed n t) → (d ≡ true → values_of (arguments t) ≡ Some reply → IsNamed n t)
          → option_or (if a then Some Unknown else (if b then Some Yes else (if c then Some No else None))) (if c then Some No else (if d then values_of (arguments t) else None)) ≡ Some reply → IsNamed n t
      by true b c d f g h k j = f refl
      by false true c d f g h k j = g refl
      by false false true d f g h k j = h refl
      by false false false true f g h k j = k refl j
      by false false false false f g h k j = absurd cc
