-- The walk over a term's symbols notes the marks of its positions; a term's instances have them.
use Rattle.std.proofs.Common.{◌≡◌, inl, inr, ℕ, suc, ◌+◌, ◌-◌, ◌<◌, ◌≤◌, ◌==◌, ◌++◌, if◌then◌else◌, Bool, true, false, List, [], ◌∷◌, length, drop, take, get_or, refl, sym, ap, ◌∙◌, subst, arith, append_assoc}
use Rattle.std.specs.Prelude.{reverse}
use Rattle.std.proofs.lemmas.Bool.Decides.{nat_tests}
use Rattle.std.proofs.lemmas.List.{append-nil, drop_all, drop_more, reverse-append}
use Rattle.apd_term.specs.Term.{Term, Terms, variable, integer, compound, none, more, list_of, spell, spell_all, apply, apply_all, IsAmong}
use Rattle.apd_term.specs.Substitution.{IsInstance}
use Rattle.apd_term.specs.declared.term.Sym.{Sym}
use Rattle.apd_term.specs.declared.term.Sym.TheVariants.{Var, Int, Fun}
use Rattle.apd_term.proofs.Among.{IsAmong-append, IsAmong-left, IsAmong-right}
use Rattle.apd_term.proofs.Ground.{apply-ground}
use Rattle.apd_term.proofs.Spelling.{length-apply_all}
use Rattle.apd_marks.specs.Positions.{IsLasting, all_marks, any_term, below, marks_at, marks_below, marks_of, noted, onward, top, waiting, whole}
use Rattle.apd_marks.specs.declared.positions.Parent.{Parent}

-- The walk, with the innermost parent first.

abbrev pub held : ℕ → ℕ → List Parent → List Parent
held mark n parents = if n == 0 then parents else record { mark = mark; left = n } ∷ parents

abbrev pub after : Parent → Sym → List Parent → List Parent
after f (Var v) parents = held f.mark (f.left - 1) parents
after f (Int i) parents = held f.mark (f.left - 1) parents
after f (Fun g n) parents = held (below f.mark f.left (Fun g n)) n (held f.mark (f.left - 1) parents)

-- the marks of what is still to be read
abbrev pub rest : List Sym → List Parent → List ℕ
rest [] parents = []
rest (x ∷ xs) [] = []
rest (x ∷ xs) (f ∷ parents) = noted f x ++ rest xs (after f x parents)

reverse-waiting : (m n : ℕ) (parents : List Parent) → reverse (waiting m n parents) ≡ held m n (reverse parents)
reverse-waiting m n parents = by (n == 0)
  where
    by : (b : Bool) → reverse (if b then parents else parents ++ record { mark = m; left = n } ∷ []) ≡ (if b then reverse parents else record { mark = m; left = n } ∷ reverse parents)
    by true = refl
    by false = reverse-append parents (record { mark = m; left = n } ∷ [])

pub reverse-onward : (f : Parent) (x : Sym) (parents : List Parent) → reverse (onward f x parents) ≡ after f x (reverse parents)
reverse-onward f (Var v) parents = reverse-waiting f.mark (f.left - 1) parents
reverse-onward f (Int i) parents = reverse-waiting f.mark (f.left - 1) parents
reverse-onward f (Fun g n) parents =
    reverse-waiting (below f.mark f.left (Fun g n)) n (waiting f.mark (f.left - 1) parents)
    ∙ ap (held (below f.mark f.left (Fun g n)) n) (reverse-waiting f.mark (f.left - 1) parents)

pub held-some : (m k : ℕ) (parents : List Parent) → held m (suc k) parents ≡ record { mark = m; left = suc k } ∷ parents
held-some m k parents = ap (λ (b : Bool). if b then parents else record { mark = m; left = suc k } ∷ parents) (let e : (suc k == 0) ≡ false = grind (arith, nat_tests) in e)

-- terms below a parent
module _ (c : ℕ) (ts : Terms) (xs : List Sym) (parents : List Parent) where
  abbrev Below : Type 0
  Below = rest (spell_all ts ++ xs) (held c (length (list_of ts)) parents) ≡ marks_below c ts ++ rest xs parents

  one-less : Below → rest (spell_all ts ++ xs) (held c (suc (length (list_of ts)) - 1) parents) ≡ marks_below c ts ++ rest xs parents
  one-less h = ap (λ k. rest (spell_all ts ++ xs) (held c k parents)) (let e : suc (length (list_of ts)) - 1 ≡ length (list_of ts) = omega arith in e) ∙ h

rest-below : (c : ℕ) (ts : Terms) (xs : List Sym) (parents : List Parent) → rest (spell_all ts ++ xs) (held c (length (list_of ts)) parents) ≡ marks_below c ts ++ rest xs parents
rest-below c none xs parents = refl
rest-below c (more (variable v) ts) xs parents =
    ap (rest (Var v ∷ (spell_all ts ++ xs))) (held-some c (length (list_of ts)) parents)
    ∙ one-less c ts xs parents (rest-below c ts xs parents)
rest-below c (more (integer i) ts) xs parents =
    ap (rest (Int i ∷ (spell_all ts ++ xs))) (held-some c (length (list_of ts)) parents)
    ∙ ap (λ ys. below c (suc (length (list_of ts))) (Int i) ∷ ys) (one-less c ts xs parents (rest-below c ts xs parents))
rest-below c (more (compound f us) ts) xs parents =
    let n = suc (length (list_of ts)) in
    let m = below c n (Fun f (length (list_of us))) in
    ap (rest (Fun f (length (list_of us)) ∷ ((spell_all us ++ spell_all ts) ++ xs))) (held-some c (length (list_of ts)) parents)
    ∙ ap (λ ys. m ∷ ys)
    (ap (λ zs. rest zs (held m (length (list_of us)) (held c (n - 1) parents))) (append_assoc (spell_all us) (spell_all ts) xs)
    ∙ rest-below m us (spell_all ts ++ xs) (held c (n - 1) parents)
    ∙ ap (λ zs. marks_below m us ++ zs) (one-less c ts xs parents (rest-below c ts xs parents))
    ∙ sym (append_assoc (marks_below m us) (marks_below c ts) (rest xs parents)))

rest-whole : (t : Term) → rest (spell t) (held top 1 []) ≡ marks_of t
rest-whole t =
    ap (λ ys. rest ys (held top 1 [])) (sym (append-nil (spell t ++ []) ∙ append-nil (spell t)))
    ∙ rest-below top (more t none) [] []
    ∙ append-nil (marks_of t)

none-left : (xs : List Sym) → rest xs [] ≡ []
none-left [] = refl
none-left (x ∷ xs) = refl

-- The loop.

-- a list whose last element isn't there
pub emptied : {X : Type 0} (xs ys : List X) (n : ℕ) → xs ≡ ys ++ [] → ys ≡ take (n - 1) xs → n ≡ 0 → xs ≡ []
emptied xs ys n e f z =
    let g : n - 1 ≡ 0 = omega (arith, z) in
    e ∙ ap (λ zs. zs ++ []) (f ∙ ap (λ k. take k xs) g)

abbrev pub IsWalk : Term → List Sym → ℕ → List Parent → List ℕ → Type 0
IsWalk t xs i parents marks = marks ++ rest (drop i xs) (reverse parents) ≡ marks_of t

pub walk-begins : (t : Term) (xs : List Sym) (fresh parents : List Parent) (marks : List ℕ) → xs ≡ spell t → marks ≡ [] → fresh ≡ [] → parents ≡ waiting top 1 fresh → IsWalk t xs 0 parents marks
walk-begins t xs fresh parents marks e f g h =
    ap (λ (ms : List ℕ). ms ++ rest xs (reverse parents)) f
    ∙ ap (λ ys. rest ys (reverse parents)) e
    ∙ ap (λ fs. rest (spell t) (reverse fs)) (h ∙ ap (waiting top 1) g)
    ∙ rest-whole t

pub walk-goes : (t : Term) (xs : List Sym) (i : ℕ) (d x : Sym) (f : Parent) (parents left parents_new : List Parent) (marks marks_new : List ℕ) → i < length xs → x ≡ get_or xs i d → parents ≡ left ++ f ∷ []
    → marks_new ≡ marks ++ noted f x → parents_new ≡ onward f x left → IsWalk t xs i parents marks → IsWalk t xs (i + 1) parents_new marks_new
walk-goes t xs i d x f parents left parents_new marks marks_new l is e g h so_far =
    let later = rest (drop (i + 1) xs) (after f x (reverse left)) in
    ap (λ ms. ms ++ rest (drop (i + 1) xs) (reverse parents_new)) g
    ∙ ap (λ fs. (marks ++ noted f x) ++ rest (drop (i + 1) xs) fs) (ap reverse h ∙ reverse-onward f x left)
    ∙ append_assoc marks (noted f x) later
    ∙ ap (λ fs. marks ++ rest (x ∷ drop (i + 1) xs) fs) (sym (ap reverse e ∙ reverse-append left (f ∷ [])))
    ∙ ap (λ ys. marks ++ rest ys (reverse parents)) (sym (drop_more xs i d l ∙ ap (λ y. y ∷ drop (i + 1) xs) (sym is)))
    ∙ so_far

pub walk-stops : (t : Term) (xs : List Sym) (i : ℕ) (parents : List Parent) (marks : List ℕ) → parents ≡ [] → IsWalk t xs i parents marks → marks ≡ marks_of t
walk-stops t xs i parents marks e so_far = sym (append-nil marks) ∙ ap (λ ys. marks ++ ys) (sym (ap (λ fs. rest (drop i xs) (reverse fs)) e ∙ none-left (drop i xs))) ∙ so_far

pub walk-ends : (t : Term) (xs : List Sym) (i : ℕ) (parents : List Parent) (marks : List ℕ) → length xs ≤ i → IsWalk t xs i parents marks → marks ≡ marks_of t
walk-ends t xs i parents marks l so_far = sym (append-nil marks) ∙ ap (λ ys. marks ++ ys) (sym (ap (λ ys. rest ys (reverse parents)) (drop_all i xs l))) ∙ so_far

-- Instances.

mutual
  marks_at-instance : (s : ℕ → Term) (m n : ℕ) (t : Term) (k : ℕ) → IsAmong (marks_at m n t) k → IsAmong (marks_at m n (apply s t)) k
  marks_at-instance s m n (variable v) k h = absurd h
  marks_at-instance s m n (integer i) k h = h
  marks_at-instance s m n (compound f ts) k h =
      rw (length-apply_all s ts) (elim h [ inl e ↦ inl e | inr a ↦ inr (marks_below-instance s (below m n (Fun f (length (list_of ts)))) ts k a) ])

  marks_below-instance : (s : ℕ → Term) (m : ℕ) (ts : Terms) (k : ℕ) → IsAmong (marks_below m ts) k → IsAmong (marks_below m (apply_all s ts)) k
  marks_below-instance s m none k h = absurd h
  marks_below-instance s m (more t ts) k h =
      rw (length-apply_all s ts) (elim (IsAmong-append (marks_at m (suc (length (list_of ts))) t) (marks_below m ts) k h) [
        | inl a ↦ IsAmong-left (marks_at m (suc (length (list_of ts))) (apply s t)) (marks_below m (apply_all s ts)) k (marks_at-instance s m (suc (length (list_of ts))) t k a)
        | inr a ↦ IsAmong-right (marks_at m (suc (length (list_of ts))) (apply s t)) (marks_below m (apply_all s ts)) k (marks_below-instance s m ts k a)
      ])

-- a mark that the instances have too, they have
pub lasting-marks : (a x : Term) (m : ℕ) → IsInstance a x → IsLasting x m → IsAmong (all_marks a) m
lasting-marks a x m (s, e) (inl (g, is)) =
    let same : x ≡ a = sym (apply-ground s x g) ∙ e in
    IsAmong-left (marks_of a ++ whole a ∷ []) (any_term ∷ []) m (IsAmong-right (marks_of a) (whole a ∷ []) m (inl (ap whole (sym same) ∙ sym is)))
lasting-marks a x m i (inr (inl is)) = IsAmong-right (marks_of a ++ whole a ∷ []) (any_term ∷ []) m (inl (sym is))
lasting-marks a x m (s, e) (inr (inr h)) =
    IsAmong-left (marks_of a ++ whole a ∷ []) (any_term ∷ []) m
    (IsAmong-left (marks_of a) (whole a ∷ []) m (subst (λ (t : Term). IsAmong (marks_of t) m) e (marks_below-instance s top (more x none) m h)))
