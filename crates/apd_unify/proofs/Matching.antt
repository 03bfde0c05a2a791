-- The terms of a goal and of a head are made equal one after another.
use Rattle.std.proofs.Common.{◌≡◌, ◌⊎◌, inl, inr, ℕ, zero, suc, List, [], ◌∷◌, ◌++◌, length, take, drop, map, refl, sym, ◌∙◌, ap, subst, arith}
use Rattle.std.specs.List.{zip}
use Rattle.std.proofs.lemmas.Bool.{cases_eq}
use Rattle.apd_term.specs.declared.term.Sym.{Sym}
use Rattle.apd_term.specs.declared.term.Sym.TheVariants.{Var, Int, Fun}
use Rattle.apd_term.specs.Term.{Term, variable, compound, terms_of, list_of, apply, apply_all, variables, read_all, IsAmong, IsTerms, Occurs}
use Rattle.apd_term.specs.Substitution.{term_for, with_applied, followed_by, Unifies}
use Rattle.apd_term.proofs.Among.{IsAmong-left, IsAmong-right, IsAmong-append}
use Rattle.apd_term.proofs.Applying.{apply-followed_by, apply-same, apply-variable}
use Rattle.apd_term.proofs.Pairs.{term_for-same, term_for-other}
use Rattle.apd_term.proofs.Spelling.{under_name, list_of-terms_of}
use Rattle.apd_unify.specs.Textbook.{Equation, apply_equations}
use Rattle.apd_unify.specs.Unifier.{OccursIn, BringsNoVariable, IsUnifier}
use Rattle.apd_unify.proofs.Rounds.{UnifiesAll, OccursInAll, apply_kept, Unifies-same, UnifiesAll-kept, UnifiesAll-followed_by, UnifiesAll-append, UnifiesAll-split, OccursInAll-append}
use Rattle.apd_unify.proofs.Rules.{decomposes}
use Rattle.apd_cells.proofs.Numbering.{occurs_in_image}
use Rattle.apd_cells.proofs.Passing.{list_of-apply_all}

-- what is kept while equations are left, with the pairs that were found
pub record IsMatching (a b : Term) (es : List Equation) (found : List (ℕ × Term)) : Type 0 where
  pub unifies : (u : ℕ → Term) → Unifies u a b → UnifiesAll u es
  pub solves : (u : ℕ → Term) → UnifiesAll u es → Unifies (followed_by (term_for found) u) a b
  pub kept : (u : ℕ → Term) → Unifies u a b → (w : ℕ) → apply u (term_for found w) ≡ u w
  pub inside : (w : ℕ) → OccursInAll es w → OccursIn a b w
  pub brings : BringsNoVariable found a b

pub first_matching : (a b : Term) → IsMatching a b ((a, b) ∷ []) []
first_matching a b = record {
  unifies = λ u h. (h, tt);
  solves = λ u h. h.0;
  kept = λ u h w. refl;
  inside = λ w o. elim o [ inl x ↦ x | inr y ↦ absurd y ];
  brings = tt;
}

-- once nothing is left a most general unifier was found
pub last_matching : (a b : Term) (found : List (ℕ × Term)) → IsMatching a b [] found → IsUnifier a b found
last_matching a b found r = record {
  unifies = Unifies-same (term_for found) (followed_by (term_for found) variable) a b (λ w. sym (apply-variable (term_for found w))) (r.solves variable tt);
  most_general = r.kept;
  brings = r.brings;
}

-- pairs followed by others
abbrev pub composed : List (ℕ × Term) → List (ℕ × Term) → List (ℕ × Term)
composed ps qs = with_applied (term_for qs) ps ++ qs

pub term_for-composed : (ps qs : List (ℕ × Term)) (w : ℕ) → term_for (composed ps qs) w ≡ apply (term_for qs) (term_for ps w)
term_for-composed [] qs w = refl
term_for-composed (p ∷ ps) qs w =
    let s = term_for qs in
    elim (cases_eq p.0 w) [
      | inl e ↦ term_for-same (p.0, apply s p.1) (composed ps qs) w e ∙ ap (apply s) (sym (term_for-same p ps w e))
      | inr n ↦ term_for-other (p.0, apply s p.1) (composed ps qs) w n ∙ term_for-composed ps qs w ∙ ap (apply s) (sym (term_for-other p ps w n))
    ]

-- pairs that are composed, applied to a term
pub apply-composed : (ps qs : List (ℕ × Term)) (t : Term) → apply (term_for qs) (apply (term_for ps) t) ≡ apply (term_for (composed ps qs)) t
apply-composed ps qs t =
    apply-followed_by (term_for ps) (term_for qs) t
    ∙ sym (apply-same (term_for (composed ps qs)) (followed_by (term_for ps) (term_for qs)) (term_for-composed ps qs) t)

brings_append : (ps qs : List (ℕ × Term)) (a b : Term) → BringsNoVariable ps a b → BringsNoVariable qs a b → BringsNoVariable (ps ++ qs) a b
brings_append [] qs a b h k = k
brings_append (p ∷ ps) qs a b h k = (h.0, brings_append ps qs a b h.1 k)

brings_within : (ps : List (ℕ × Term)) (c d a b : Term) → BringsNoVariable ps c d → ((w : ℕ) → OccursIn c d w → OccursIn a b w) → BringsNoVariable ps a b
brings_within [] c d a b h k = tt
brings_within (p ∷ ps) c d a b h k = ((k p.0 h.0.0, λ w o. k w (h.0.1 w o)), brings_within ps c d a b h.1 k)

occurs_pairs : (qs : List (ℕ × Term)) (a b : Term) (v w : ℕ) → BringsNoVariable qs a b → Occurs w (term_for qs v) → (v ≡ w) ⊎ OccursIn a b w
occurs_pairs [] a b v w h (inl e) = inl e
occurs_pairs [] a b v w h (inr n) = absurd n
occurs_pairs (q ∷ qs) a b v w h o = elim (cases_eq q.0 v) [
  | inl e ↦ inr (h.0.1 w (subst (Occurs w) (term_for-same q qs v e) o))
  | inr n ↦ occurs_pairs qs a b v w h.1 (subst (Occurs w) (term_for-other q qs v n) o)
]

-- a variable of a term to which pairs were applied
occurs_applied : (qs : List (ℕ × Term)) (a b t : Term) (w : ℕ) → BringsNoVariable qs a b → Occurs w (apply (term_for qs) t) → Occurs w t ⊎ OccursIn a b w
occurs_applied qs a b t w h o =
    let k = occurs_in_image (term_for qs) w t o in
    elim (occurs_pairs qs a b k.0 w h k.2) [
      | inl e ↦ inl (subst (IsAmong (variables t)) e k.1)
      | inr i ↦ inr i
    ]

brings_applied : (ps qs : List (ℕ × Term)) (a b : Term) → BringsNoVariable ps a b → BringsNoVariable qs a b → BringsNoVariable (with_applied (term_for qs) ps) a b
brings_applied [] qs a b h k = tt
brings_applied (p ∷ ps) qs a b h k = (
  (h.0.0, λ w o. elim (occurs_applied qs a b p.1 w k o) [ inl i ↦ h.0.1 w i | inr j ↦ j ]),
  brings_applied ps qs a b h.1 k,
)

occurs_applied_all : (qs : List (ℕ × Term)) (a b : Term) (es : List Equation) (w : ℕ) → BringsNoVariable qs a b → OccursInAll (apply_equations (term_for qs) es) w → OccursInAll es w ⊎ OccursIn a b w
occurs_applied_all qs a b [] w h o = absurd o
occurs_applied_all qs a b (e ∷ es) w h (inl x) = elim (IsAmong-append (variables (apply (term_for qs) e.0)) (variables (apply (term_for qs) e.1)) w x) [
  | inl i ↦ elim (occurs_applied qs a b e.0 w h i) [ inl p ↦ inl (inl (IsAmong-left (variables e.0) (variables e.1) w p)) | inr q ↦ inr q ]
  | inr j ↦ elim (occurs_applied qs a b e.1 w h j) [ inl p ↦ inl (inl (IsAmong-right (variables e.0) (variables e.1) w p)) | inr q ↦ inr q ]
]
occurs_applied_all qs a b (e ∷ es) w h (inr y) = elim (occurs_applied_all qs a b es w h y) [ inl p ↦ inl (inr p) | inr q ↦ inr q ]

-- the first equation was solved by a most general unifier of its sides
pub matched_round : (a b : Term) (e : Equation) (es : List Equation) (found qs : List (ℕ × Term)) → IsMatching a b (e ∷ es) found → IsUnifier e.0 e.1 qs
    → IsMatching a b (apply_equations (term_for qs) es) (composed found qs)
matched_round a b e es found qs r h =
    let s = term_for qs in
    let within : (w : ℕ) → OccursIn e.0 e.1 w → OccursIn a b w = λ w o. r.inside w (inl o) in
    let kept : (u : ℕ → Term) → Unifies u a b → (w : ℕ) → apply u (s w) ≡ u w = λ u k. h.most_general u (r.unifies u k).0 in
    record {
      unifies = λ u k. UnifiesAll-kept u s (kept u k) es (r.unifies u k).1;
      solves = λ u k.
          Unifies-same (followed_by (term_for (composed found qs)) u) (followed_by (term_for found) (followed_by s u)) a b
          (λ w. ap (apply u) (term_for-composed found qs w) ∙ apply-followed_by s u (term_for found w))
          (r.solves (followed_by s u) (
            sym (apply-followed_by s u e.0) ∙ ap (apply u) h.unifies ∙ apply-followed_by s u e.1,
            UnifiesAll-followed_by u s es k,
          ));
      kept = λ u k w. ap (apply u) (term_for-composed found qs w) ∙ apply_kept u s (kept u k) (term_for found w) ∙ r.kept u k w;
      inside = λ w o. elim (occurs_applied_all qs e.0 e.1 es w h.brings o) [ inl p ↦ r.inside w (inr p) | inr q ↦ within w q ];
      brings = (let k = brings_within qs e.0 e.1 a b h.brings within in
          brings_append (with_applied s found) qs a b (brings_applied found qs a b r.brings k) k);
    }

-- equations with the same unifiers, and no other variables, in place of the first
matching_replaced : (a b : Term) (e : Equation) (ds es : List Equation) (found : List (ℕ × Term)) → IsMatching a b (e ∷ es) found
    → ((u : ℕ → Term) → Unifies u e.0 e.1 → UnifiesAll u ds) → ((u : ℕ → Term) → UnifiesAll u ds → Unifies u e.0 e.1)
    → ((w : ℕ) → OccursInAll ds w → OccursIn e.0 e.1 w) → IsMatching a b (ds ++ es) found
matching_replaced a b e ds es found r split joined within = record {
  unifies = λ u h. (let g = r.unifies u h in UnifiesAll-append u ds es (split u g.0) g.1);
  solves = λ u h. (let g = UnifiesAll-split u ds es h in r.solves u (joined u g.0, g.1));
  kept = r.kept;
  inside = λ w o. r.inside w (elim (OccursInAll-append ds es w o) [ inl i ↦ inl (within w i) | inr j ↦ inr j ]);
  brings = r.brings;
}

pub zip_nothing : (xs ys : List Term) → ys ≡ [] → zip xs ys ≡ []
zip_nothing [] ys e = refl
zip_nothing (x ∷ xs) [] e = refl
zip_nothing (x ∷ xs) (y ∷ ys) e = cc

zip_parts : (f : Term → Term) (n : ℕ) (xs ys : List Term) → zip (take n xs) (map f (take n ys)) ++ zip (drop n xs) (map f (drop n ys)) ≡ zip xs (map f ys)
zip_parts f zero xs ys = refl
zip_parts f (suc n) [] [] = refl
zip_parts f (suc n) [] (y ∷ ys) = refl
zip_parts f (suc n) (x ∷ xs) [] = zip_nothing (drop n xs) [] refl
zip_parts f (suc n) (x ∷ xs) (y ∷ ys) = ap (λ r. (x, f y) ∷ r) (zip_parts f n xs ys)

-- the equations between symbols of a goal, with all bindings applied, and those of a head under a substitution
abbrev pub equations_between : (ℕ → Term) → List Sym → List Sym → List Equation
equations_between v goal head = zip (read_all goal) (map (apply v) (read_all head))

-- both begin with one symbol, which is no variable
pub matching_symbol : (a b : Term) (v : ℕ → Term) (x : Sym) (goal head : List Sym) (found : List (ℕ × Term)) → IsTerms (x ∷ goal) → IsTerms (x ∷ head) → ((w : ℕ) → ¬ (x ≡ Var w))
    → IsMatching a b (equations_between v (x ∷ goal) (x ∷ head)) found → IsMatching a b (equations_between v goal head) found
matching_symbol a b v (Var w) goal head found h k n r = absurd (n w refl)
matching_symbol a b v (Int i) goal head found h k n r =
    matching_replaced a b _ [] (equations_between v goal head) found r (λ u e. tt) (λ u e. refl) (λ w o. absurd o)
matching_symbol a b v (Fun f m) goal head found h k n r =
    let xs = take m (read_all goal) in
    let ys = take m (read_all head) in
    let us = map (apply v) ys in
    let parts : zip (list_of (terms_of xs)) (list_of (apply_all v (terms_of ys))) ≡ zip xs us =
    ap (λ z. zip z (list_of (apply_all v (terms_of ys)))) (list_of-terms_of xs) ∙ ap (zip xs) (list_of-apply_all v (terms_of ys) ∙ ap (map (apply v)) (list_of-terms_of ys)) in
    let d = decomposes f f (terms_of xs) (apply_all v (terms_of ys)) refl
    (ap length (list_of-terms_of xs) ∙ (under_name f m goal h).0 ∙ sym ((ap length (list_of-apply_all v (terms_of ys) ∙ ap (map (apply v)) (list_of-terms_of ys))) ∙ length_map (apply v) ys ∙ (under_name f m head k).0)) in
    subst (λ es. IsMatching a b es found) (zip_parts (apply v) m (read_all goal) (read_all head))
    (matching_replaced a b (compound f (terms_of xs), compound f (apply_all v (terms_of ys))) (zip xs us) (zip (drop m (read_all goal)) (map (apply v) (drop m (read_all head)))) found r
    (λ u e. subst (UnifiesAll u) parts (d.split u e))
    (λ u e. d.joined u (subst (UnifiesAll u) (sym parts) e))
    (λ w o. d.within w (subst (λ es. OccursInAll es w) (sym parts) o)))
  where
    length_map : (s : Term → Term) (zs : List Term) → length (map s zs) ≡ length zs
    length_map s [] = refl
    length_map s (z ∷ zs) = omega (arith, length_map s zs)

-- a substitution in both sides of all equations
pub zip_applied : (s : ℕ → Term) (xs ys : List Term) → zip (map (apply s) xs) (map (apply s) ys) ≡ apply_equations s (zip xs ys)
zip_applied s [] ys = refl
zip_applied s (x ∷ xs) [] = refl
zip_applied s (x ∷ xs) (y ∷ ys) = ap (λ r. (apply s x, apply s y) ∷ r) (zip_applied s xs ys)
