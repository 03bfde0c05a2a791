-- Tuples whose terms are written out with one numbering.
use Rattle.std.proofs.Common.{◌≡◌, ℕ, ◌+◌, ◌-◌, ◌*◌, ◌<◌, ◌≤◌, List, [], ◌∷◌, ◌++◌, length, get_or, drop, map, refl, sym, ◌∙◌, ap, subst, arith, append_assoc, true, false, Option, Some, None}
use Rattle.std.specs.Prelude.{nat_lt}
use Rattle.std.specs.List.{flat_map, fold}
use Rattle.std.proofs.lemmas.Bool.Decides.{nat_tests}
use Rattle.std.proofs.lemmas.List.{append-nil, drop_more, drop_all}
use Rattle.apd_term.specs.Term.{Term, size, variables, IsAmong}
use Rattle.apd_term.specs.Canonical.{with_new, by_appearance, canonical, canonical_in}
use Rattle.apd_term.specs.Tuple.{canonical_tuple, variables_of_tuple, sizes, size_of_tuple}
use Rattle.apd_term.specs.declared.tuple.Tuple.{Tuple}
use Rattle.apd_cells.specs.Ordered.{IsNumberedAnew, Numbers}
use Rattle.apd_cells.specs.Stored.{Stored}
use Rattle.apd_cells.specs.Store.{term_at, SizeWithin}
use Rattle.apd_unify.specs.Cells.{AreCells}
use Rattle.apd_unify.specs.declared.store.Cell.{Cell}
use Rattle.apd_cells.proofs.Ordered.{among_seen, canonical_kept}
use Rattle.apd_trace.specs.Frames.{is_large}
use Rattle.apd_frames.specs.Links.{Instance}
use Rattle.apd_frames.specs.Instances.{terms_in, tuple_in, IsInside}

pub numbers_some : (old new : List ℕ) (t r : Term) (k : ℕ) (o : Option Term) → Numbers old new t k o → o ≡ Some r → IsNumberedAnew old new t k r
numbers_some old new t r k o h e = subst (Numbers old new t k) e h

pub none_so : {X : Type 0} (o : Option X) → ((r : X) → ¬ (o ≡ Some r)) → o ≡ None
none_so None h = refl
none_so (Some r) h = absurd (h r refl)

-- the only term
pub canonical_alone : (old new : List ℕ) (t r : Term) (k : ℕ) (o : Option Term) → old ≡ [] → Numbers old new t k o → o ≡ Some r → r ≡ canonical t
canonical_alone old new t r k o none h e =
    let n = numbers_some old new t r k o h e in
    n.is ∙ ap (λ seen. canonical_in seen t) (n.order ∙ ap (λ seen. fold with_new seen (variables t)) none)

fold-append : (xs ys seen : List ℕ) → fold with_new seen (xs ++ ys) ≡ fold with_new (fold with_new seen xs) ys
fold-append [] ys seen = refl
fold-append (x ∷ xs) ys seen = fold-append xs ys (with_new seen x)

-- the numbers of a tuple's variables
abbrev order_of : Tuple → List ℕ
order_of t = by_appearance (variables_of_tuple t)

-- while a tuple is written: the numbers that come out in the end, the goals that are left, and what is left of the limit
pub record IsNumbering (t : Tuple) (seen : List ℕ) (left body : List Term) (k : ℕ) : Type 0 where
  pub order : fold with_new seen (flat_map variables left) ≡ order_of t
  pub goals : body ++ map (canonical_in (order_of t)) left ≡ map (canonical_in (order_of t)) t.body
  pub limit : k + size_of_tuple t ≡ 1000000 + sizes left

-- a term that was written has the form that it has in the end
written_kept : (seen new vs order : List ℕ) (t r : Term) (k : ℕ) → IsNumberedAnew seen new t k r → fold with_new new vs ≡ order → r ≡ canonical_in order t
written_kept seen new vs order t r k n e =
    n.is ∙ sym (canonical_kept vs new t (λ v o. subst (λ s. IsAmong s v) (sym n.order) (among_seen (variables t) seen v o))) ∙ ap (λ s. canonical_in s t) e

order_next : (seen new vs : List ℕ) (t r : Term) (k : ℕ) → IsNumberedAnew seen new t k r → fold with_new new vs ≡ fold with_new seen (variables t ++ vs)
order_next seen new vs t r k n = ap (λ s. fold with_new s vs) n.order ∙ sym (fold-append (variables t) vs seen)

pub head_written : (t : Tuple) (seen new : List ℕ) (r : Term) (o : Option Term) → seen ≡ [] → Numbers seen new t.head 1000000 o → o ≡ Some r → r ≡ canonical_in (order_of t) t.head
head_written t seen new r o none h e =
    let n = numbers_some seen new t.head r 1000000 o h e in
    written_kept seen new (flat_map variables t.body) (order_of t) t.head r 1000000 n
    (order_next seen new (flat_map variables t.body) t.head r 1000000 n ∙ ap (λ s. fold with_new s (variables_of_tuple t)) none)

pub numbering_more : (t : Tuple) (seen new : List ℕ) (x r : Term) (left body more : List Term) (k j : ℕ) (o : Option Term) → IsNumbering t seen (x ∷ left) body k → Numbers seen new x k o → o ≡ Some r
    → more ≡ body ++ r ∷ [] → j ≡ k - size r → IsNumbering t new left more j
numbering_more t seen new x r left body more k j o w h e is less =
    let n = numbers_some seen new x r k o h e in
    let order : fold with_new new (flat_map variables left) ≡ order_of t = order_next seen new (flat_map variables left) x r k n ∙ w.order in
    let f = canonical_in (order_of t) in
    record {
      order = order;
      goals = ap (λ b. b ++ map f left) is ∙ append_assoc body (r ∷ []) (map f left)
          ∙ ap (λ y. body ++ y ∷ map f left) (written_kept seen new (flat_map variables left) (order_of t) x r k n order) ∙ w.goals;
      limit = omega (arith, less, n.within, n.size_is, w.limit);
    }

large_so : (n : ℕ) → 1000000 < n → nat_lt 1000000 n ≡ true
large_so n h = grind (arith, nat_tests)

small_so : (n : ℕ) → n ≤ 1000000 → nat_lt 1000000 n ≡ false
small_so n h = grind (arith, nat_tests)

-- terms that are all short are small together
short_terms : (s : Stored) (cs : List Cell) → ((c : ℕ) → c < length s.cells → size (term_at s c) ≤ 15384) → AreCells (length s.cells) cs → sizes (terms_in s cs) ≤ 15384 * length cs
short_terms s [] h i = omega arith
short_terms s (c ∷ cs) h i = omega (arith, h c.0 i.0, short_terms s cs h i.1)

pub short_instance : (s : Stored) (i : Instance) → ((c : ℕ) → c < length s.cells → size (term_at s c) ≤ 15384) → IsInside (length s.cells) i → length i.goals ≤ 64 → is_large (tuple_in s i) ≡ false
short_instance s i h p l = small_so (size_of_tuple (tuple_in s i)) (omega (arith, h i.head.0 p.head, short_terms s i.goals h p.goals, l))

pub numbering_last : (t : Tuple) (seen : List ℕ) (left body : List Term) (head : Term) (k : ℕ) → IsNumbering t seen left body k → left ≡ [] → head ≡ canonical_in (order_of t) t.head
    → (is_large t ≡ false) × (record { head = head; body = body } ≡ canonical_tuple t)
numbering_last t seen left body head k w none h =
    let e : IsNumbering t seen [] body k = subst (λ l. IsNumbering t seen l body k) none w in
    let b : body ≡ map (canonical_in (order_of t)) t.body = sym (append-nil body) ∙ e.goals in (
      small_so (size_of_tuple t) (omega (arith, e.limit)),
      ap (λ x. record { head = x; body = body }) h ∙ ap (λ x. record { head = canonical_in (order_of t) t.head; body = x }) b,
    )

-- while a tuple's symbols are counted: what is left of the limit, and the goals that are left
pub record IsCounting (t : Tuple) (left : List Term) (k : ℕ) : Type 0 where
  pub limit : k + size_of_tuple t ≡ 1000000 + sizes left

pub size_some : (t : Term) (k n : ℕ) (o : Option ℕ) → SizeWithin t k o → o ≡ Some n → (n ≡ size t) × (n ≤ k)
size_some t k n o h e = subst (SizeWithin t k) e h

pub size_none : (t : Term) (k : ℕ) (o : Option ℕ) → SizeWithin t k o → o ≡ None → k < size t
size_none t k o h e = subst (SizeWithin t k) e h

pub counting_first : (t : Tuple) (n k : ℕ) (o : Option ℕ) → SizeWithin t.head 1000000 o → o ≡ Some n → k ≡ 1000000 - n → IsCounting t t.body k
counting_first t n k o h e is =
    let s = size_some t.head 1000000 n o h e in
    record { limit = omega (arith, is, s.0, s.1) }

pub counting_more : (t : Tuple) (x : Term) (left : List Term) (n k j : ℕ) (o : Option ℕ) → IsCounting t (x ∷ left) k → SizeWithin x k o → o ≡ Some n → j ≡ k - n → IsCounting t left j
counting_more t x left n k j o w h e is =
    let s = size_some x k n o h e in
    record { limit = omega (arith, is, s.0, s.1, w.limit) }

pub counting_last : (t : Tuple) (left : List Term) (k : ℕ) → IsCounting t left k → left ≡ [] → is_large t ≡ false
counting_last t left k w none =
    let e : IsCounting t [] k = subst (λ l. IsCounting t l k) none w in
    small_so (size_of_tuple t) (omega (arith, e.limit))

pub counted_head : (t : Tuple) (o : Option ℕ) → SizeWithin t.head 1000000 o → o ≡ None → is_large t ≡ true
counted_head t o h e = large_so (size_of_tuple t) (omega (arith, size_none t.head 1000000 o h e))

pub counted_goal : (t : Tuple) (x : Term) (left : List Term) (k : ℕ) (o : Option ℕ) → IsCounting t (x ∷ left) k → SizeWithin x k o → o ≡ None → is_large t ≡ true
counted_goal t x left k o w h e = large_so (size_of_tuple t) (omega (arith, size_none x k o h e, w.limit))

-- the goals of an instance that are left
pub next_left : (s : Stored) (i : Instance) (items : List Cell) (n : ℕ) (d : Cell) → items ≡ i.goals → n < length items
    → terms_in s (drop n i.goals) ≡ term_at s (get_or items n d).0 ∷ terms_in s (drop (n + 1) i.goals)
next_left s i items n d e l =
    subst (λ cs. terms_in s (drop n cs) ≡ term_at s (get_or items n d).0 ∷ terms_in s (drop (n + 1) cs)) e (ap (terms_in s) (drop_more items n d l))

pub none_left : (s : Stored) (i : Instance) (items : List Cell) (n : ℕ) → items ≡ i.goals → length items ≤ n → terms_in s (drop n i.goals) ≡ []
none_left s i items n e l = subst (λ cs. terms_in s (drop n cs) ≡ []) e (ap (terms_in s) (drop_all n items l))

pub less : (k j : ℕ) (r : Term) → j ≡ size r → k - j ≡ k - size r
less k j r e = ap (λ n. k - n) e
