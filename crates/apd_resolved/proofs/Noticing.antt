-- What is seen while symbols are passed.
use Rattle.std.proofs.Common.{◌≡◌, ◌⊎◌, inl, inr, ℕ, zero, suc, ◌+◌, ◌<◌, ◌≤◌, ◌==◌, Bool, true, false, if◌then◌else◌, List, [], ◌∷◌, ◌++◌, length, get_or, take, refl, sym, ◌∙◌, ap, subst, arith, append_assoc}
use Rattle.std.specs.List.{list_any, fold, flat_map}
use Rattle.std.proofs.lemmas.Bool.{cases_eq}
use Rattle.std.proofs.lemmas.List.{append-nil, length-append, take_more, take_all}
use Rattle.std.proofs.lemmas.List.Concat.{flat_map-append}
use Rattle.apd_term.specs.declared.term.Sym.{Sym}
use Rattle.apd_term.specs.declared.term.Sym.TheVariants.{Var, Int, Fun}
use Rattle.apd_term.specs.Term.{Term, IsAmong, spell, variables}
use Rattle.apd_term.specs.Spelling.{variable_in}
use Rattle.apd_term.specs.Canonical.{with_new}
use Rattle.apd_term.proofs.Among.{IsAmong-left, IsAmong-right, IsAmong-append}
use Rattle.apd_term.proofs.Spelling.{flat_map-variables}
use Rattle.apd_term.proofs.Variants.{any_of}
use Rattle.apd_cells.proofs.Ordered.{any_other, with_old, with_other}
use Rattle.apd_resolved.specs.Noticed.{is_unseen, unseen, Sees}

-- a number stands among others, or not
pub among_or_not : (xs : List ℕ) (v : ℕ) → IsAmong xs v ⊎ (¬ IsAmong xs v)
among_or_not [] v = inr (λ m. m)
among_or_not (x ∷ xs) v = elim (cases_eq x v) [
  | inl e ↦ inl (inl e)
  | inr n ↦ elim (among_or_not xs v) [
    | inl m ↦ inl (inr m)
    | inr k ↦ inr (λ m. elim m [ inl e ↦ n e | inr y ↦ k y ])
  ]
]

abbrev flag : Bool → ℕ
flag b = if b then 0 else 1

at_most_one : (b : Bool) → flag b ≤ 1
at_most_one true = omega arith
at_most_one false = omega arith

counted_old : (seen : List ℕ) (k : ℕ) → IsAmong seen k → is_unseen seen k ≡ 0
counted_old seen k m = ap flag (any_of seen k m)

counted_new : (seen : List ℕ) (k : ℕ) → ¬ IsAmong seen k → is_unseen seen k ≡ 1
counted_new seen k n = ap flag (any_other seen k n)

counted_less : (seen : List ℕ) (v k : ℕ) → is_unseen (seen ++ v ∷ []) k ≤ is_unseen seen k
counted_less seen v k = elim (among_or_not seen k) [
  | inl m ↦ omega (arith, counted_old (seen ++ v ∷ []) k (IsAmong-left seen (v ∷ []) k m))
  | inr n ↦ omega (arith, counted_new seen k n, at_most_one (list_any (λ w. w == k) (seen ++ v ∷ [])))
]

unseen_less : (n : ℕ) (seen : List ℕ) (v : ℕ) → unseen n (seen ++ v ∷ []) ≤ unseen n seen
unseen_less zero seen v = omega arith
unseen_less (suc k) seen v = omega (arith, unseen_less k seen v, counted_less seen v k)

-- one more was seen
unseen_one : (n : ℕ) (seen : List ℕ) (v : ℕ) → v < n → ¬ IsAmong seen v → unseen n (seen ++ v ∷ []) + 1 ≤ unseen n seen
unseen_one zero seen v l m = absurd (omega arith)
unseen_one (suc k) seen v l m = elim (cases_eq v k) [
  | inl e ↦
      let a = counted_old (seen ++ v ∷ []) k (IsAmong-right seen (v ∷ []) k (inl e)) in
      let b = counted_new seen k (subst (λ y. ¬ IsAmong seen y) e m) in
      omega (arith, unseen_less k seen v, a, b)
  | inr d ↦ omega (arith, unseen_one k seen v (omega (arith, l, d)) m, counted_less seen v k)
]

sees_with : (old mid : List ℕ) (vs : List ℕ) (v : ℕ) → Sees old mid vs → Sees old (with_new mid v) (vs ++ v ∷ [])
sees_with old mid vs v h = elim (among_or_not mid v) [
  | inl m ↦ subst (λ z. Sees old z (vs ++ v ∷ [])) (sym (with_old mid v m)) (record {
    more = h.more;
    is = h.is;
    only = λ u k. IsAmong-left vs (v ∷ []) u (h.only u k);
    all = λ u k. elim (IsAmong-append vs (v ∷ []) u k) [
      | inl a ↦ h.all u a
      | inr b ↦ elim b [ inl e ↦ subst (IsAmong mid) e m | inr y ↦ absurd y ]
    ];
    once = λ n b. h.once n (λ u k. b u (IsAmong-left vs (v ∷ []) u k));
  })
  | inr o ↦ subst (λ z. Sees old z (vs ++ v ∷ [])) (sym (with_other mid v o)) (record {
    more = h.more ++ v ∷ [];
    is = ap (λ z. z ++ v ∷ []) h.is ∙ append_assoc old h.more (v ∷ []);
    only = λ u k. elim (IsAmong-append h.more (v ∷ []) u k) [
      | inl a ↦ IsAmong-left vs (v ∷ []) u (h.only u a)
      | inr b ↦ IsAmong-right vs (v ∷ []) u b
    ];
    all = λ u k. elim (IsAmong-append vs (v ∷ []) u k) [
      | inl a ↦ IsAmong-left mid (v ∷ []) u (h.all u a)
      | inr b ↦ IsAmong-right mid (v ∷ []) u b
    ];
    once = λ n b. omega (
      arith,
      h.once n (λ u k. b u (IsAmong-left vs (v ∷ []) u k)),
      unseen_one n mid v (b v (IsAmong-right vs (v ∷ []) v (inl refl))) o,
      length-append mid (v ∷ []),
    );
  })
]

sees_symbol : (old mid : List ℕ) (vs : List ℕ) (x : Sym) → Sees old mid vs → Sees old (fold with_new mid (variable_in x)) (vs ++ variable_in x)
sees_symbol old mid vs (Var v) h = sees_with old mid vs v h
sees_symbol old mid vs (Int i) h = subst (Sees old mid) (sym (append-nil vs)) h
sees_symbol old mid vs (Fun f n) h = subst (Sees old mid) (sym (append-nil vs)) h

-- one symbol more was passed
pub sees_more : (old mid new : List ℕ) (symbols : List Sym) (i : ℕ) (x : Sym) → Sees old mid (flat_map variable_in (take i symbols)) → i < length symbols
    → get_or symbols i (Var 0) ≡ x → new ≡ fold with_new mid (variable_in x) → Sees old new (flat_map variable_in (take (i + 1) symbols))
sees_more old mid new symbols i x h l e is =
    let front = flat_map variable_in (take i symbols) in
    let k : flat_map variable_in (take (i + 1) symbols) ≡ front ++ variable_in x =
    ap (flat_map variable_in) (take_more symbols i (Var 0) l)
    ∙ flat_map-append variable_in (take i symbols) (get_or symbols i (Var 0) ∷ [])
    ∙ ap (λ r. front ++ r) (append-nil (variable_in (get_or symbols i (Var 0))) ∙ ap variable_in e) in
    subst (Sees old new) (sym k) (subst (λ z. Sees old z (front ++ variable_in x)) (sym is) (sees_symbol old mid front x h))

pub sees_all : (old new : List ℕ) (symbols : List Sym) (i : ℕ) (t : Term) → Sees old new (flat_map variable_in (take i symbols)) → length symbols ≤ i → symbols ≡ spell t
    → Sees old new (variables t)
sees_all old new symbols i t h l e = subst (Sees old new) (ap (flat_map variable_in) (take_all i symbols l ∙ e) ∙ flat_map-variables t) h
