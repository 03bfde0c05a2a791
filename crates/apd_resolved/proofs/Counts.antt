-- Counting the symbols of a term, part by part.
use Rattle.std.proofs.Common.{◌≡◌, ◌≢◌, ◌⊎◌, inl, inr, ℕ, ◌+◌, ◌-◌, ◌<◌, List, [], ◌∷◌, ◌++◌, length, get_or, sym, ◌∙◌, ap, subst, arith, append_assoc, refl}
use Rattle.std.specs.List.{flat_map}
use Rattle.std.specs.Prelude.{max}
use Rattle.std.proofs.lemmas.List.{length-append}
use Rattle.std.proofs.lemmas.List.Concat.{flat_map-append}
use Rattle.apd_term.specs.declared.term.Sym.{Sym}
use Rattle.apd_term.specs.declared.term.Sym.TheVariants.{Var, Int, Fun}
use Rattle.apd_term.specs.Term.{Term, IsAmong, IsGround, Occurs, size, spell, variables}
use Rattle.apd_term.specs.Spelling.{variable_in}
use Rattle.apd_term.proofs.Among.{IsAmong-append}
use Rattle.apd_term.proofs.Spelling.{length-spell, size_positive, flat_map-variables}
use Rattle.apd_cells.specs.declared.known.Extent.{Extent}
use Rattle.apd_cells.specs.declared.walk.Run.{Run}
use Rattle.apd_cells.specs.Stored.{Stored}
use Rattle.apd_cells.specs.Store.{term_at, IsStore}
use Rattle.apd_cells.specs.Heap.{IsVariable}
use Rattle.apd_cells.specs.Work.{AreRuns, run_symbols, runs_symbols, PassesOn}
use Rattle.apd_cells.specs.Known.{HasExtent}
use Rattle.apd_cells.specs.First.{IsFixed}
use Rattle.apd_cells.proofs.Passing.{elsewhere, run_one}
use Rattle.apd_resolved.specs.Counting.{IsOfSymbol, PassesPart}

-- the extent of a term at a cell that leads to another
pub extent_behind : (s : Stored) (c at : ℕ) (e : Extent) → c < length s.cells → term_at s at ≡ term_at s c → HasExtent s at e → HasExtent s c e
extent_behind s c at e l same h = record {
  inside = l;
  long = h.long ∙ ap size same;
  below = λ v o. h.below v (subst (Occurs v) (sym same) o);
}

-- a cell that leads to another one has a variable
pub led_elsewhere : (s : Stored) (c at : ℕ) → (at ≡ c) ⊎ IsVariable (get_or s.cells c (Var 0)) → at ≢ c → IsVariable (get_or s.cells c (Var 0))
led_elsewhere s c at (inl same) other = absurd (other same)
led_elsewhere s c at (inr is) other = is

-- a term whose extent is above no variable has none
none_among : (vs : List ℕ) → ((v : ℕ) → IsAmong vs v → ⊥) → vs ≡ []
none_among [] h = refl
none_among (v ∷ vs) h = absurd (h v (inl refl))

pub extent_ground : (s : Stored) (c : ℕ) (e : Extent) → HasExtent s c e → e.above ≡ 0 → IsGround (term_at s c)
extent_ground s c e h z = none_among (variables (term_at s c)) (λ v o. omega (arith, h.below v o, z))

-- the extent of a symbol that is no variable
pub fixed_extent : (x : Sym) → IsFixed x → IsOfSymbol x (record { size = 1; above = 0 })
fixed_extent (Var v) f = absurd (f v refl)
fixed_extent (Int i) f = record { one = refl; below = λ v m. absurd m }
fixed_extent (Fun g n) f = record { one = refl; below = λ v m. absurd m }

-- one symbol is passed
pub passes_symbol : (s : Stored) (old new : List Run) (x : Sym) (e : Extent) → PassesOn s old x new → IsOfSymbol x e → PassesPart s old e new
passes_symbol s old new x e p h = record {
  right = p.right;
  part = x ∷ [];
  symbols = p.symbols;
  long = h.one;
  some = omega (arith, h.one);
  below = λ v i. elim (IsAmong-append (variable_in x) [] v i) [ inl m ↦ h.below v m | inr m ↦ absurd m ];
}

-- a term is passed whose extent is known
pub passes_known : (s : Stored) (here next : Run) (rest : List Run) (e : Extent) → IsStore s.cells s.variables s.trail → AreRuns s.cells (here ∷ rest) → 0 < here.left
    → IsVariable (get_or s.cells here.at (Var 0)) → HasExtent s here.at e → next ≡ record { at = here.at + 1; left = here.left - 1 } → PassesPart s (here ∷ rest) e (next ∷ rest)
passes_known s here next rest e h r l i x is =
    let t = term_at s here.at in
    let k = elsewhere s here.at here.left h r.0 l i in
    rw is (record {
      right = (k.1, r.1);
      part = spell t;
      symbols = ap (λ z. z ++ runs_symbols s rest) k.0 ∙ append_assoc (spell t) (run_symbols s (here.at + 1) (here.left - 1)) (runs_symbols s rest);
      long = x.long ∙ sym (length-spell t);
      some = omega (arith, x.long, size_positive t);
      below = λ v o. x.below v (subst (λ vs. IsAmong vs v) (flat_map-variables t) o);
    })

-- the last term of a run is passed, whose extent is known
pub passes_last : (s : Stored) (here next : Run) (rest : List Run) (e : Extent) → AreRuns s.cells (here ∷ rest) → here.left ≡ 1 → HasExtent s here.at e
    → next ≡ record { at = here.at + 1; left = 0 } → PassesPart s (here ∷ rest) e (next ∷ rest)
passes_last s here next rest e r one x is =
    let t = term_at s here.at in
    let k : run_symbols s here.at here.left ≡ spell t = ap (run_symbols s here.at) one ∙ run_one s here.at x.inside in
    rw is (record {
      right = (record { inside = omega (arith, x.inside); enough = omega arith }, r.1);
      part = spell t;
      symbols = ap (λ z. z ++ runs_symbols s rest) k;
      long = x.long ∙ sym (length-spell t);
      some = omega (arith, x.long, size_positive t);
      below = λ v o. x.below v (subst (λ vs. IsAmong vs v) (flat_map-variables t) o);
    })

-- a run has no fewer symbols than the term that its first cell leads to
pub over_limit : (s : Stored) (here : Run) (limit : ℕ) → IsStore s.cells s.variables s.trail → AreRuns s.cells (here ∷ []) → 0 < here.left
    → IsVariable (get_or s.cells here.at (Var 0)) → limit < size (term_at s here.at) → limit < length (runs_symbols s (here ∷ []))
over_limit s here limit h r l i o =
    let t = term_at s here.at in
    let k = elsewhere s here.at here.left h r.0 l i in
    omega (arith, o, length-spell t, ap length k.0, length-append (spell t) (run_symbols s (here.at + 1) (here.left - 1)), length-append (run_symbols s here.at here.left) [])

-- what was counted of a term, with these symbols left
pub record IsCounted (t : Term) (e : Extent) (left : List Sym) : Type 0 where
  pub long : e.size + length left ≡ size t
  pub below : (v : ℕ) → Occurs v t → (v < e.above) ⊎ IsAmong (flat_map variable_in left) v

pub counted_none : (t : Term) (e : Extent) (left : List Sym) → e.size ≡ 0 → left ≡ spell t → IsCounted t e left
counted_none t e left z is = rw is (record {
  long = omega (arith, z, length-spell t);
  below = λ v o. inr (subst (λ vs. IsAmong vs v) (sym (flat_map-variables t)) o);
})

pub counted_more : (t : Term) (old part new : Extent) (before symbols after : List Sym) → IsCounted t old before → before ≡ symbols ++ after → part.size ≡ length symbols
    → ((v : ℕ) → IsAmong (flat_map variable_in symbols) v → v < part.above) → new.size ≡ old.size + part.size → new.above ≡ max old.above part.above → IsCounted t new after
counted_more t old part new before symbols after h e l b size_is above_is = record {
  long = omega (arith, h.long, ap length e, length-append symbols after);
  below = λ v o. elim (h.below v o) [
    | inl q ↦ inl (omega arith)
    | inr m ↦ elim (IsAmong-append (flat_map variable_in symbols) (flat_map variable_in after) v (subst (λ vs. IsAmong vs v) (ap (flat_map variable_in) e ∙ flat_map-append variable_in symbols after) m)) [
      | inl p ↦ (let q = b v p in inl (omega arith))
      | inr p ↦ inr p
    ]
  ];
}

-- all of it was counted
pub counted_all : (s : Stored) (c : ℕ) (e : Extent) (left : List Sym) → c < length s.cells → IsCounted (term_at s c) e left → left ≡ [] → HasExtent s c e
counted_all s c e left l h z = record {
  inside = l;
  long = omega (arith, h.long, ap length z);
  below = λ v o. elim (h.below v o) [
    | inl q ↦ q
    | inr m ↦ absurd (subst (λ xs. IsAmong (flat_map variable_in xs) v) z m)
  ];
}
