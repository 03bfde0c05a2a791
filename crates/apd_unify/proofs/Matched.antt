-- A term of a head and the term at a cell, which are made equal.
use Rattle.std.proofs.Common.{◌≡◌, ◌≢◌, inl, inr, ℕ, ◌+◌, ◌<◌, ◌≤◌, Bool, true, false, List, [], ◌∷◌, ◌++◌, length, get_or, take, drop, refl, sym, ◌∙◌, ap, subst, arith, append_assoc}
use Rattle.std.specs.Prelude.{OnOk, Some, Result, Ok, Err, slice_get}
use Rattle.std.proofs.lemmas.Bool.{cases_eq}
use Rattle.std.proofs.lemmas.List.{append-nil, drop_more, get_or_append_left, length-append}
use Rattle.apd_term.specs.declared.term.Sym.{Sym}
use Rattle.apd_term.specs.declared.term.Sym.TheVariants.{Var, Int, Fun}
use Rattle.apd_term.specs.Term.{Term, variable, compound, terms_of, apply, spell, variables, arity_of, first_of, read_all, term_of, IsTerms, Occurs}
use Rattle.apd_term.specs.Substitution.{term_for, single, followed_by}
use Rattle.apd_term.specs.Canonical.{shifted}
use Rattle.apd_term.proofs.Among.{IsAmong-left, IsAmong-right, IsAmong-append}
use Rattle.apd_term.proofs.Applying.{apply-followed_by, apply-same}
use Rattle.apd_term.proofs.Variants.{apply-agree}
use Rattle.apd_term.proofs.Pairs.{term_for-same, term_for-other}
use Rattle.apd_term.proofs.Spelling.{under_name, list_of-terms_of, some_symbol}
use Rattle.apd_unify.specs.Heads.{HasGoneOn, IsLoadedFor, Matches}
use Rattle.apd_unify.specs.Unified.{IsUnified, IsUnification}
use Rattle.apd_unify.specs.Unifier.{OccursIn, BringsNoVariable, HasNoUnifier, IsUnifier}
use Rattle.apd_unify.proofs.Beginning.{first_symbol-apply, apart_first, no_unifier_apart}
use Rattle.apd_cells.specs.First.{first_symbol, IsFixed}
use Rattle.apd_cells.specs.Numbered.{IsNumbered}
use Rattle.apd_cells.specs.Slots.{slot_at, cell_of, IsSet, HasSet, IsSingle, IsSlot, AreSlots, GetsOwn, EachGetsOwn, GetsAny, EachGetsAny, single_term, put_for, HasLoaded, value_of, value_in, Numbering, IsNumberOf, Fits}
use Rattle.apd_cells.specs.Stored.{Stored}
use Rattle.apd_cells.specs.Store.{written, meaning, term_at, symbol_at, loaded, IsEnd, IsSound, Keeps}
use Rattle.apd_cells.specs.declared.slots.Slot.{Slot}
use Rattle.apd_cells.specs.declared.slots.Slot.TheVariants.{New, Own, Given}
use Rattle.apd_cells.proofs.Bindings.{Keeps-self}
use Rattle.apd_cells.proofs.Following.{written-variable}
use Rattle.apd_cells.proofs.Keeping.{meaning-loaded, term_at-others, made_loaded, Keeps-loaded, Keeps-trans}
use Rattle.apd_cells.proofs.Keys.{first_symbol-end}
use Rattle.apd_cells.proofs.Loading.{above-ge, store_loaded}
use Rattle.apd_cells.proofs.Meaning.{apply-absent}
use Rattle.apd_cells.proofs.Numbering.{is_numbered}
use Rattle.apd_cells.proofs.Standing.{shifted_zero}
use Rattle.apd_cells.proofs.Touching.{touched-all, untouched}

-- the term at a cell where one symbol is written
written_single : (cells : List Sym) (c : ℕ) → IsSingle cells c → written cells c ≡ single_term (get_or cells c (Var 0))
written_single cells c h = by (get_or cells c (Var 0)) h.one (drop_more cells c (Var 0) h.inside)
  where
    by : (x : Sym) → arity_of x ≡ 0 → drop c cells ≡ x ∷ drop (c + 1) cells → first_of (read_all (drop c cells)) ≡ single_term x
    by (Var v) z e = ap (λ xs. first_of (read_all xs)) e
    by (Int i) z e = ap (λ xs. first_of (read_all xs)) e
    by (Fun f n) z e = ap (λ xs. first_of (read_all xs)) e ∙ ap (λ k. compound f (terms_of (take k (read_all (drop (c + 1) cells))))) z

value_set : (s : Stored) (n : ℕ) (x : Slot) → IsSet x → value_of s n x ≡ term_at s (cell_of x)
value_set s n New h = absurd h
value_set s n (Own c) h = refl
value_set s n (Given c) h = refl

inside_of : (cells : List Sym) (n : ℕ) (owner : ℕ → ℕ) (v : ℕ) (x : Slot) → IsSlot cells n owner v x → IsSet x → IsSingle cells (cell_of x)
inside_of cells n owner v New h s = absurd s
inside_of cells n owner v (Own c) h s = h.0
inside_of cells n owner v (Given c) h s = h

later_newer : (n : ℕ) (cells : List Sym) (a b : Slot) → GetsOwn n cells a b → GetsAny n cells a b
later_newer n cells New New h = tt
later_newer n cells New (Own c) h = h
later_newer n cells New (Given c) h = absurd h
later_newer n cells (Own c) b h = h
later_newer n cells (Given c) b h = h

later_same : (n : ℕ) (cells : List Sym) (a : Slot) → GetsAny n cells a a
later_same n cells New = tt
later_same n cells (Own c) = refl
later_same n cells (Given c) = refl

-- numbers that fit later fitted before
fits_before : (s s' : Stored) (more : List Sym) (owner : ℕ → ℕ) (v n : ℕ) (a b : Slot) → s'.cells ≡ s.cells ++ more → s.variables ≤ s'.variables → IsSlot s.cells s.variables owner v a
    → GetsAny s.variables s'.cells a b → IsNumberOf s' n b → IsNumberOf s n a
fits_before s s' more owner v n New New e l i h f = omega (arith, f)
fits_before s s' more owner v n New (Own c) e l i h f = h n f
fits_before s s' more owner v n New (Given c) e l i h f = omega (arith, f)
fits_before s s' more owner v n (Own c) b e l i h f =
    sym (ap (λ xs. get_or xs c (Var 0)) e ∙ get_or_append_left s.cells more (Var 0) c i.0.inside) ∙ subst (IsNumberOf s' n) h f
fits_before s s' more owner v n (Given c) b e l i h f =
    let k : s'.variables ≤ n = subst (IsNumberOf s' n) h f in omega arith

pub fits_back : (g : Numbering) (s s' : Stored) (old new : List Slot) → AreSlots s.cells s.variables old → HasGoneOn s s' old new → Fits g s' new → Fits g s old
fits_back g s s' old new i h f = λ v. fits_before s s' h.more i.owner v (g.of v) (slot_at old v) (slot_at new v) h.cells h.variables (i.each v) (h.later v) (f v)

later_then : (cells more : List Sym) (n m k : ℕ) (owner : ℕ → ℕ) (v : ℕ) (a b c : Slot) → n ≤ m → IsSlot cells k owner v b → GetsAny n cells a b → GetsAny m (cells ++ more) b c → GetsAny n (cells ++ more) a c
later_then cells more n m k owner v New New New l i h j = tt
later_then cells more n m k owner v New New (Own d) l i h j = λ q e. (let r = j q e in omega arith)
later_then cells more n m k owner v New New (Given d) l i h j = tt
later_then cells more n m k owner v New (Own d) c l i h j =
    subst (GetsAny n (cells ++ more) New) (sym j) (λ q e. h q (sym (get_or_append_left cells more (Var 0) d i.0.inside) ∙ e))
later_then cells more n m k owner v New (Given d) c l i h j = subst (GetsAny n (cells ++ more) New) (sym j) tt
later_then cells more n m k owner v (Own d) b c l i h j = (let q : GetsAny m (cells ++ more) (Own d) c = subst (λ x. GetsAny m (cells ++ more) x c) h j in q)
later_then cells more n m k owner v (Given d) b c l i h j = (let q : GetsAny m (cells ++ more) (Given d) c = subst (λ x. GetsAny m (cells ++ more) x c) h j in q)

pub gone_trans : (a b c : Stored) (x y z : List Slot) → HasGoneOn a b x y → HasGoneOn b c y z → HasGoneOn a c x z
gone_trans a b c x y z h k = record {
  more = h.more ++ k.more;
  cells = k.cells ∙ ap (λ xs. xs ++ k.more) h.cells ∙ append_assoc a.cells h.more k.more;
  variables = omega (arith, h.variables, k.variables);
  slots = k.slots;
  later = λ v. subst (λ cells. GetsAny a.variables cells (slot_at x v) (slot_at z v)) (sym k.cells)
      (later_then b.cells k.more a.variables b.variables b.variables h.slots.owner v (slot_at x v) (slot_at y v) (slot_at z v) h.variables (h.slots.each v) (h.later v)
      (subst (λ cells. GetsAny b.variables cells (slot_at y v) (slot_at z v)) k.cells (k.later v)));
  keeps = Keeps-trans a b c h.keeps k.keeps;
}

-- where only variables were bound
pub gone_bound : (s s1 s2 : Stored) (old new : List Slot) → HasGoneOn s s1 old new → s2.cells ≡ s1.cells → s2.variables ≡ s1.variables → Keeps s1 s2 → HasGoneOn s s2 old new
gone_bound s s1 s2 old new h e f k = record {
  more = h.more;
  cells = e ∙ h.cells;
  variables = omega (arith, h.variables, f);
  slots = subst (λ cells. AreSlots cells s2.variables new) (sym e) (subst (λ n. AreSlots s1.cells n new) (sym f) h.slots);
  later = subst (λ cells. EachGetsAny s.variables cells old new) (sym e) h.later;
  keeps = Keeps-trans s s1 s2 h.keeps k;
}

pub gone_self : (s : Stored) (slots : List Slot) → AreSlots s.cells s.variables slots → HasGoneOn s s slots slots
gone_self s slots h = record {
  more = [];
  cells = sym (append-nil s.cells);
  variables = omega arith;
  slots = h;
  later = λ v. later_same s.variables s.cells (slot_at slots v);
  keeps = Keeps-self s;
}

sound_loaded : (s : Stored) (t : Term) (base : ℕ) → IsSound s → IsSound (loaded s t base)
sound_loaded s t base h = store_loaded s.cells s.variables (shifted base t) s.trail h

-- cells came behind the others, slots got some of them, and nothing else was done
module _ (s s' : Stored) (old new : List Slot) (store : IsSound s) (slots : AreSlots s.cells s.variables old) (now : AreSlots s'.cells s'.variables new) (newer : EachGetsOwn s.variables s'.cells old new)
    (means : (v : ℕ) → meaning s'.cells s'.trail v ≡ meaning s.cells s.trail v) (others : (c : ℕ) → c < length s.cells → term_at s' c ≡ term_at s c) where
  value_newer : (owner owner' : ℕ → ℕ) (v n : ℕ) (a b : Slot) → IsSlot s.cells s.variables owner v a → IsSlot s'.cells s'.variables owner' v b → GetsOwn s.variables s'.cells a b → IsNumberOf s' n b
      → value_of s' n b ≡ value_of s n a
  value_newer owner owner' v n New New i j k f = refl
  value_newer owner owner' v n New (Own c) i j k f =
      ap (apply (meaning s'.cells s'.trail)) (written-variable s'.cells c n j.0.inside f) ∙ means n ∙ (is_numbered s store).unused n (k n f)
  value_newer owner owner' v n New (Given c) i j k f = absurd k
  value_newer owner owner' v n (Own c) b i j k f = ap (value_of s' n) k ∙ others c i.0.inside
  value_newer owner owner' v n (Given c) b i j k f = ap (value_of s' n) k ∙ others c i.inside

  pub values_newer : (g : Numbering) → Fits g s' new → (v : ℕ) → value_in s' g.of new v ≡ value_in s g.of old v
  values_newer g f v = value_newer slots.owner now.owner v (g.of v) (slot_at old v) (slot_at new v) (slots.each v) (now.each v) (newer v) (f v)

  value_put : (g : Numbering) (v : ℕ) → IsSet (slot_at new v) → apply (meaning s.cells s.trail) (put_for s'.cells new v) ≡ value_in s' g.of new v
  value_put g v i =
      let c = cell_of (slot_at new v) in
      let one = inside_of s'.cells s'.variables now.owner v (slot_at new v) (now.each v) i in
      ap (apply (meaning s.cells s.trail)) (sym (written_single s'.cells c one))
      ∙ apply-same (meaning s.cells s.trail) (meaning s'.cells s'.trail) (λ w. sym (means w)) (written s'.cells c)
      ∙ sym (value_set s' (g.of v) (slot_at new v) i)

  -- what is put for a term means what its variables stand for
  pub applied_put : (g : Numbering) (t : Term) → ((v : ℕ) → Occurs v t → IsSet (slot_at new v)) → apply (meaning s.cells s.trail) (apply (put_for s'.cells new) t) ≡ apply (value_in s' g.of new) t
  applied_put g t set =
      apply-followed_by (put_for s'.cells new) (meaning s.cells s.trail) t
      ∙ apply-agree (followed_by (put_for s'.cells new) (meaning s.cells s.trail)) (value_in s' g.of new) t (λ v o. value_put g v (set v o))

  pub gone_newer : (more : List Sym) → s'.cells ≡ s.cells ++ more → s.variables ≤ s'.variables → Keeps s s' → HasGoneOn s s' old new
  gone_newer more cells variables keeps = record {
    more = more;
    cells = cells;
    variables = variables;
    slots = now;
    later = λ v. later_newer s.variables s'.cells (slot_at old v) (slot_at new v) (newer v);
    keeps = keeps;
  }

-- a term of the clause was loaded
module _ (s s' : Stored) (old new : List Slot) (t : Term) (store : IsSound s) (slots : AreSlots s.cells s.variables old) (h : HasLoaded s s' old new t) where
  pub sound_then : IsSound s'
  sound_then = subst IsSound (sym h.is) (sound_loaded s h.term 0 store)

  means_then : (v : ℕ) → meaning s'.cells s'.trail v ≡ meaning s.cells s.trail v
  means_then v = ap (λ (z : Stored). meaning z.cells z.trail v) h.is ∙ meaning-loaded s h.term 0 v

  others_then : (c : ℕ) → c < length s.cells → term_at s' c ≡ term_at s c
  others_then c l = ap (λ (z : Stored). term_at z c) h.is ∙ term_at-others s h.term 0 c store l

  pub loaded_for : (c : ℕ) → c ≡ length s.cells → IsLoadedFor s s' old new t c
  loaded_for c e =
      let u = h.term in
      let n : length s'.cells ≡ length s.cells + length (spell (shifted 0 u)) = ap (λ (z : Stored). length z.cells) h.is ∙ length-append s.cells (spell (shifted 0 u)) in
      let there : s'.variables ≡ (loaded s u 0).variables = ap (λ (z : Stored). z.variables) h.is in
      record {
        gone = gone_newer s s' old new store slots h.slots h.newer means_then others_then (spell (shifted 0 u)) (ap (λ (z : Stored). z.cells) h.is)
            (omega (arith, there, above-ge s.variables (variables (shifted 0 u)))) (subst (Keeps s) (sym h.is) (Keeps-loaded s u 0));
        inside = omega (arith, n, e, some_symbol (shifted 0 u));
        values = values_newer s s' old new store slots h.slots h.newer means_then others_then;
        means = means_then;
        others = others_then;
        made = λ g f.
            made_loaded s s' u 0 c h.is e
            ∙ ap (apply (meaning s.cells s.trail)) (shifted_zero u)
            ∙ h.same
            ∙ applied_put s s' old new store slots h.slots h.newer means_then others_then g t h.set;
      }

-- pairs change no variable that stands in neither term
term_for-other_terms : (ps : List (ℕ × Term)) (a b : Term) (w : ℕ) → BringsNoVariable ps a b → ¬ OccursIn a b w → term_for ps w ≡ variable w
term_for-other_terms [] a b w h n = refl
term_for-other_terms (p ∷ ps) a b w h n =
    term_for-other p ps w (λ e. n (subst (OccursIn a b) e h.0.0)) ∙ term_for-other_terms ps a b w h.1 n

not_in_terms : (s : Stored) (a b n : ℕ) → IsNumbered s → a < length s.cells → b < length s.cells → s.variables ≤ n → ¬ OccursIn (term_at s a) (term_at s b) n
not_in_terms s a b n h l m k o = elim (IsAmong-append (variables (term_at s a)) (variables (term_at s b)) n o) [
  | inl x ↦ (let q = h.below a n l x in absurd (omega arith))
  | inr y ↦ (let q = h.below b n m y in absurd (omega arith))
]

-- what unification makes of what stands for a variable
value_unified : (s s' : Stored) (a b n : ℕ) (x : Slot) → IsNumbered s → a < length s.cells → b < length s.cells → (u : IsUnified s s' a b) → s'.variables ≡ s.variables → IsNumberOf s' n x
    → value_of s' n x ≡ apply (term_for u.pairs) (value_of s n x)
value_unified s s' a b n New h l m u e f =
    sym (term_for-other_terms u.pairs (term_at s a) (term_at s b) n u.unifier.brings (not_in_terms s a b n h l m (omega (arith, f, e))))
value_unified s s' a b n (Own c) h l m u e f = u.made c
value_unified s s' a b n (Given c) h l m u e f = u.made c

-- a variable for which a cell stands
pub matched_cell : (r : Bool) (s s' : Stored) (slots : List Slot) (at c v : ℕ) → IsSound s → AreSlots s.cells s.variables slots → IsSet (slot_at slots v) → c ≡ cell_of (slot_at slots v)
    → at < length s.cells → c < length s.cells → IsUnification r s s' at c → s'.variables ≡ s.variables → Matches r s s' slots slots at (variable v)
matched_cell true s s' slots at c v store i set e l m u q = λ g f.
    let value : value_in s g.of slots v ≡ term_at s c = value_set s (g.of v) (slot_at slots v) set ∙ ap (term_at s) (sym e) in
    record {
      pairs = u.pairs;
      unifier = subst (λ t. IsUnifier (term_at s at) t u.pairs) (sym value) u.unifier;
      made = record {
        means = λ w k. u.means w;
        values = λ w. value_unified s s' at c (g.of w) (slot_at slots w) (is_numbered s store) l m u q (f w);
      };
    }
matched_cell false s s' slots at c v store i set e l m u q = λ g f.
    let value : value_in s g.of slots v ≡ term_at s c = value_set s (g.of v) (slot_at slots v) set ∙ ap (term_at s) (sym e) in
    subst (HasNoUnifier (term_at s at)) (sym value) u

-- the same by what stands for it
pub matched_slot : (r : Bool) (s s' : Stored) (slots : List Slot) (at v : ℕ) (x : Slot) (t : Term) → IsSound s → AreSlots s.cells s.variables slots → slot_at slots v ≡ x → IsSet x → t ≡ variable v
    → at < length s.cells → IsUnification r s s' at (cell_of x) → s'.variables ≡ s.variables → Matches r s s' slots slots at t
matched_slot r s s' slots at v x t store i was set is l u q =
    let set_there : IsSet (slot_at slots v) = subst IsSet (sym was) set in
    let inside = subst (λ y. cell_of y < length s.cells) was (inside_of s.cells s.variables i.owner v (slot_at slots v) (i.each v) set_there).inside in
    subst (Matches r s s' slots slots at) (sym is) (matched_cell r s s' slots at (cell_of x) v store i set_there (sym (ap cell_of was)) l inside u q)

-- the only symbol of a variable
pub one_variable : (xs : List Sym) (v : ℕ) → slice_get xs 0 ≡ Some (Var v) → term_of xs ≡ variable v
one_variable [] v e = cc
one_variable (x ∷ xs) v e = (let k : x ≡ Var v = cc in ap (λ y. term_of (y ∷ xs)) k)

-- what holds of what was done holds where nothing went wrong
pub on_ok : {A E : Type 0} {P : Type 0} (r : Result A E) → P → OnOk r P
on_ok (Ok x) p = p
on_ok (Err e) p = tt

-- the same numbers fit where only variables were bound
fits_bound : (g : Numbering) (s s' : Stored) (slots : List Slot) → s'.cells ≡ s.cells → s'.variables ≡ s.variables → Fits g s' slots → Fits g s slots
fits_bound g s s' slots e q f = λ v. one (g.of v) (slot_at slots v) (f v)
  where
    one : (n : ℕ) (x : Slot) → IsNumberOf s' n x → IsNumberOf s n x
    one n New h = omega (arith, h, q)
    one n (Own c) h = sym (ap (λ xs. get_or xs c (Var 0)) e) ∙ h
    one n (Given c) h = omega (arith, h, q)

-- a term that was loaded
pub matched_loaded : (r : Bool) (s s1 s2 : Stored) (old new : List Slot) (at c : ℕ) (t : Term) → IsSound s → AreSlots s.cells s.variables old → at < length s.cells → c ≡ length s.cells
    → HasLoaded s s1 old new t → IsUnification r s1 s2 at c → s2.cells ≡ s1.cells → s2.variables ≡ s1.variables → Matches r s s2 old new at t
matched_loaded true s s1 s2 old new at c t store i l e h u same q = λ g f.
    let k = loaded_for s s1 old new t store i h c e in
    let f1 = fits_bound g s1 s2 new same q f in
    let made : term_at s1 c ≡ apply (value_in s g.of old) t = k.made g f1 ∙ apply-same (value_in s1 g.of new) (value_in s g.of old) (k.values g f1) t in
    let inside : at < length s1.cells = omega (arith, ap length k.gone.cells, length-append s.cells k.gone.more) in
    record {
      pairs = u.pairs;
      unifier = subst (λ x. IsUnifier x (apply (value_in s g.of old) t) u.pairs) (k.others at l) (subst (λ x. IsUnifier (term_at s1 at) x u.pairs) made u.unifier);
      made = record {
        means = λ w j. u.means w ∙ ap (apply (term_for u.pairs)) (k.means w);
        values = λ w. value_unified s1 s2 at c (g.of w) (slot_at new w) (is_numbered s1 (sound_then s s1 old new t store i h)) inside k.inside u q (f w)
            ∙ ap (apply (term_for u.pairs)) (k.values g f1 w);
      };
    }
matched_loaded false s s1 s2 old new at c t store i l e h u same q = λ g f.
    let k = loaded_for s s1 old new t store i h c e in
    let f1 = fits_bound g s1 s2 new same q f in
    let made : term_at s1 c ≡ apply (value_in s g.of old) t = k.made g f1 ∙ apply-same (value_in s1 g.of new) (value_in s g.of old) (k.values g f1) t in
    subst (λ x. HasNoUnifier x (apply (value_in s g.of old) t)) (k.others at l) (subst (HasNoUnifier (term_at s1 at)) made u)

single_unifier : (t : Term) (n : ℕ) → ¬ Occurs n t → IsUnifier t (variable n) (single n t)
single_unifier t n a = record {
  unifies = apply-absent n t t a ∙ sym (term_for-same (n, t) [] n refl);
  most_general = λ u h w. elim (cases_eq n w) [
    | inl e ↦ ap (apply u) (term_for-same (n, t) [] w e) ∙ h ∙ ap u e
    | inr d ↦ ap (apply u) (term_for-other (n, t) [] w d)
  ];
  brings = ((IsAmong-right (variables t) (n ∷ []) n (inl refl), λ w o. IsAmong-left (variables t) (n ∷ []) w o), tt);
}

-- a variable for which nothing stood, and the term at a cell stands then
module _ (s : Stored) (old new : List Slot) (at v : ℕ) (store : IsSound s) (slots : AreSlots s.cells s.variables old) (l : at < length s.cells) (was : slot_at old v ≡ New) (k : HasSet old new v (Given at)) where
  pub gone_given : arity_of (get_or s.cells at (Var 0)) ≡ 0 → HasGoneOn s s old new
  gone_given z = record {
    more = [];
    cells = sym (append-nil s.cells);
    variables = omega arith;
    slots = record {
      owner = slots.owner;
      each = λ w. elim (cases_eq v w) [
        | inl e ↦ subst (IsSlot s.cells s.variables slots.owner w) (sym (ap (slot_at new) (sym e) ∙ k.here)) (record { inside = l; one = z })
        | inr d ↦ subst (IsSlot s.cells s.variables slots.owner w) (sym (k.others w d)) (slots.each w)
      ];
    };
    later = λ w. elim (cases_eq v w) [
      | inl e ↦ subst (λ x. GetsAny s.variables s.cells x (slot_at new w)) (sym (ap (slot_at old) (sym e) ∙ was)) (subst (GetsAny s.variables s.cells New) (sym (ap (slot_at new) (sym e) ∙ k.here)) tt)
      | inr d ↦ subst (GetsAny s.variables s.cells (slot_at old w)) (sym (k.others w d)) (later_same s.variables s.cells (slot_at old w))
    ];
    keeps = Keeps-self s;
  }

  absent_means : (n w : ℕ) → s.variables ≤ n → w < s.variables → ¬ Occurs n (meaning s.cells s.trail w)
  absent_means n w m j o = let e = untouched s.cells s.variables s.trail s.variables n w store (touched-all s.cells s.variables s.trail store) m o in absurd (omega arith)

  absent_at : (n c : ℕ) → s.variables ≤ n → c < length s.cells → ¬ Occurs n (term_at s c)
  absent_at n c m j o = let q = (is_numbered s store).below c n j o in absurd (omega arith)

  value_other : (owner : ℕ → ℕ) (w n m : ℕ) (x : Slot) → IsSlot s.cells s.variables owner w x → s.variables ≤ n → n ≢ m → value_of s m x ≡ apply (term_for (single n (term_at s at))) (value_of s m x)
  value_other owner w n m New i j d = sym (term_for-other (n, term_at s at) [] m d)
  value_other owner w n m (Own c) i j d = sym (apply-absent n (term_at s at) (term_at s c) (absent_at n c j i.0.inside))
  value_other owner w n m (Given c) i j d = sym (apply-absent n (term_at s at) (term_at s c) (absent_at n c j i.inside))

  pub matched_given : Matches true s s old new at (variable v)
  matched_given = λ g f.
      let n = g.of v in
      let t = term_at s at in
      let above : s.variables ≤ n = subst (IsNumberOf s n) k.here (f v) in
      let value : value_in s g.of old v ≡ variable n = ap (value_of s n) was in
      record {
        pairs = single n t;
        unifier = subst (λ x. IsUnifier t x (single n t)) (sym value) (single_unifier t n (absent_at n at above l));
        made = record {
          means = λ w j. sym (apply-absent n t (meaning s.cells s.trail w) (absent_means n w above j));
          values = λ w. elim (cases_eq v w) [
            | inl e ↦ ap (value_of s (g.of w)) (ap (slot_at new) (sym e) ∙ k.here)
                ∙ sym (ap (apply (term_for (single n t))) (ap (value_of s (g.of w)) (ap (slot_at old) (sym e) ∙ was)) ∙ term_for-same (n, t) [] (g.of w) (ap g.of e))
            | inr d ↦ ap (value_of s (g.of w)) (k.others w d)
                ∙ value_other slots.owner w n (g.of w) (slot_at old w) (slots.each w) above (λ e. d (sym (g.same v) ∙ ap g.back e ∙ g.same w))
          ];
        };
      }

-- the term of a cell that leads there
pub matches_there : (r : Bool) (s s' : Stored) (old new : List Slot) (at to : ℕ) (t : Term) → term_at s to ≡ term_at s at → Matches r s s' old new to t → Matches r s s' old new at t
matches_there true s s' old new at to t e h = λ g f. (let k = h g f in record {
  pairs = k.pairs;
  unifier = subst (λ x. IsUnifier x (apply (value_in s g.of old) t) k.pairs) e k.unifier;
  made = k.made;
})
matches_there false s s' old new at to t e h = λ g f. subst (λ x. HasNoUnifier x (apply (value_in s g.of old) t)) e (h g f)

-- the first symbol of a term that begins with a symbol that is no variable
first_fixed : (f : ℕ → Term) (y : Sym) (xs : List Sym) → IsTerms (y ∷ xs) → IsFixed y → first_symbol (apply f (first_of (read_all (y ∷ xs)))) ≡ y
first_fixed f (Var v) xs h n = absurd (n v refl)
first_fixed f (Int i) xs h n = refl
first_fixed f (Fun g k) xs h n =
    let us = take k (read_all xs) in
    let e : first_symbol (compound g (terms_of us)) ≡ Fun g k = ap (λ j. Fun g j) (ap length (list_of-terms_of us) ∙ (under_name g k xs h).0) in
    first_symbol-apply f (compound g (terms_of us)) (λ v q. n v (sym e ∙ q)) ∙ e

pub matches_clash : (s s' : Stored) (old new : List Slot) (at to : ℕ) (x y : Sym) (head : List Sym) (place : ℕ) → IsSound s → to < length s.cells → IsEnd s to → term_at s to ≡ term_at s at
    → x ≡ symbol_at s to → IsFixed x → y ≡ get_or head place (Var 0) → IsFixed y → x ≢ y → place < length head → IsTerms (drop place head)
    → Matches false s s' old new at (first_of (read_all (drop place head)))
matches_clash s s' old new at to x y head place store l e same ex nx ey ny d j terms = λ g f.
    let p : first_symbol (term_at s at) ≡ x = ap first_symbol (sym same) ∙ first_symbol-end s to store l e ∙ sym ex in
    let is : drop place head ≡ y ∷ drop (place + 1) head = drop_more head place (Var 0) j ∙ ap (λ z. z ∷ drop (place + 1) head) (sym ey) in
    let q : first_symbol (apply (value_in s g.of old) (first_of (read_all (drop place head)))) ≡ y =
    ap (λ xs. first_symbol (apply (value_in s g.of old) (first_of (read_all xs)))) is ∙ first_fixed (value_in s g.of old) y (drop (place + 1) head) (subst IsTerms is terms) ny in
    no_unifier_apart (term_at s at) (apply (value_in s g.of old) (first_of (read_all (drop place head))))
    (apart_first (term_at s at) (apply (value_in s g.of old) (first_of (read_all (drop place head)))) (record {
      different = λ z. d (sym p ∙ z ∙ q);
      left = subst IsFixed (sym p) nx;
      right = subst IsFixed (sym q) ny;
    }))
