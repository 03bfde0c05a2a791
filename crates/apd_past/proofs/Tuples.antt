-- Tuples whose terms are written out with one numbering.
use Rattle.std.proofs.Common.{◌≡◌, ℕ, zero, suc, ◌+◌, ◌<◌, ◌≤◌, List, [], ◌∷◌, ◌++◌, length, get_or, drop, map, refl, sym, ◌∙◌, ap, subst, arith, append_assoc}
use Rattle.std.specs.List.{flat_map, fold}
use Rattle.std.proofs.lemmas.List.{append-nil, drop_more, drop_all}
use Rattle.apd_term.specs.Term.{Term, variables, IsAmong}
use Rattle.apd_term.specs.Canonical.{with_new, by_appearance, canonical, canonical_in}
use Rattle.apd_term.specs.Tuple.{canonical_tuple, variables_of_tuple}
use Rattle.apd_term.specs.declared.tuple.Tuple.{Tuple}
use Rattle.apd_cells.proofs.Ordered.{among_seen, canonical_kept}
use Rattle.apd_cells.specs.Stored.{Stored}
use Rattle.apd_cells.specs.Store.{term_at}
use Rattle.apd_past.specs.declared.past.PastCell.{PastCell}
use Rattle.apd_past.specs.Tuples.{terms_at, AreInside, IsNumbered}

-- the only term
pub canonical_alone : (old new : List ℕ) (t r : Term) → old ≡ [] → IsNumbered old new t r → r ≡ canonical t
canonical_alone old new t r none n = n.is ∙ ap (λ seen. canonical_in seen t) (n.order ∙ ap (λ seen. fold with_new seen (variables t)) none)

fold-append : (xs ys seen : List ℕ) → fold with_new seen (xs ++ ys) ≡ fold with_new (fold with_new seen xs) ys
fold-append [] ys seen = refl
fold-append (x ∷ xs) ys seen = fold-append xs ys (with_new seen x)

-- the numbers of a tuple's variables
abbrev order_of : Tuple → List ℕ
order_of t = by_appearance (variables_of_tuple t)

-- while a tuple is written: the numbers that come out in the end, and the goals that are left
pub record IsWriting (t : Tuple) (seen : List ℕ) (left body : List Term) : Type 0 where
  pub order : fold with_new seen (flat_map variables left) ≡ order_of t
  pub goals : body ++ map (canonical_in (order_of t)) left ≡ map (canonical_in (order_of t)) t.body

-- a term that was written has the form that it has in the end
written_kept : (seen new vs order : List ℕ) (t r : Term) → IsNumbered seen new t r → fold with_new new vs ≡ order → r ≡ canonical_in order t
written_kept seen new vs order t r n e =
    n.is ∙ sym (canonical_kept vs new t (λ v o. subst (λ s. IsAmong s v) (sym n.order) (among_seen (variables t) seen v o))) ∙ ap (λ s. canonical_in s t) e

order_next : (seen new vs : List ℕ) (t r : Term) → IsNumbered seen new t r → fold with_new new vs ≡ fold with_new seen (variables t ++ vs)
order_next seen new vs t r n = ap (λ s. fold with_new s vs) n.order ∙ sym (fold-append (variables t) vs seen)

pub head_written : (t : Tuple) (seen new : List ℕ) (r : Term) → seen ≡ [] → IsNumbered seen new t.head r → r ≡ canonical_in (order_of t) t.head
head_written t seen new r none n =
    written_kept seen new (flat_map variables t.body) (order_of t) t.head r n
    (order_next seen new (flat_map variables t.body) t.head r n ∙ ap (λ s. fold with_new s (variables_of_tuple t)) none)

pub writing_more : (t : Tuple) (seen new : List ℕ) (x r : Term) (left body more : List Term) → IsWriting t seen (x ∷ left) body → IsNumbered seen new x r → more ≡ body ++ r ∷ []
    → IsWriting t new left more
writing_more t seen new x r left body more w n is =
    let order : fold with_new new (flat_map variables left) ≡ order_of t = order_next seen new (flat_map variables left) x r n ∙ w.order in
    let f = canonical_in (order_of t) in
    record {
      order = order;
      goals = ap (λ b. b ++ map f left) is ∙ append_assoc body (r ∷ []) (map f left)
          ∙ ap (λ y. body ++ y ∷ map f left) (written_kept seen new (flat_map variables left) (order_of t) x r n order) ∙ w.goals;
    }

pub writing_last : (t : Tuple) (seen : List ℕ) (left body : List Term) (head : Term) → IsWriting t seen left body → left ≡ [] → head ≡ canonical_in (order_of t) t.head
    → record { head = head; body = body } ≡ canonical_tuple t
writing_last t seen left body head w none h =
    let e : IsWriting t seen [] body = subst (λ l. IsWriting t seen l body) none w in
    let b : body ≡ map (canonical_in (order_of t)) t.body = sym (append-nil body) ∙ e.goals in
    ap (λ x. record { head = x; body = body }) h ∙ ap (λ x. record { head = canonical_in (order_of t) t.head; body = x }) b

-- the goals that are left
pub next_left : (s : Stored) (goals : List PastCell) (n : ℕ) (d : PastCell) → n < length goals
    → terms_at s (drop n goals) ≡ term_at s (get_or goals n d).0 ∷ terms_at s (drop (n + 1) goals)
next_left s goals n d l = ap (terms_at s) (drop_more goals n d l)

pub none_left : (s : Stored) (goals : List PastCell) (n : ℕ) → length goals ≤ n → terms_at s (drop n goals) ≡ []
none_left s goals n l = ap (terms_at s) (drop_all n goals l)

pub inside_at : (n : ℕ) (cs : List PastCell) (i : ℕ) (d : PastCell) → AreInside n cs → i < length cs → (get_or cs i d).0 < n
inside_at n [] i d h l = absurd (omega (arith, l))
inside_at n (c ∷ cs) zero d h l = h.0
inside_at n (c ∷ cs) (suc i) d h l = inside_at n cs i d h.1 (omega (arith, l))
