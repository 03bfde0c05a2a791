-- Variables that are matched with the subterms at places.
use Rattle.std.proofs.Common.{◌≡◌, ◌≢◌, inl, inr, ℕ, ◌<◌, Bool, true, false, cond, List, [], ◌∷◌, length, map, get_or, None, Some, refl, sym, ap, ◌∙◌, true≢false, eq-eqb, arith}
use Rattle.std.specs.Prelude.{nat_eq}
use Rattle.std.specs.Map.{lookup}
use Rattle.std.proofs.lemmas.Bool.{eqb-true}
use Rattle.std.proofs.lemmas.List.{map-append}
use Rattle.std.proofs.lemmas.Option.{slice_get-get_or}
use Rattle.indexmap.specs.IndexMap.{get, insert_entry}
use Rattle.indexmap.proofs.CallerLemmas.{insert_entry-new}
use Rattle.apd_term.specs.Term.{Term}
use Rattle.apd_term.specs.declared.term.Sym.{Sym}
use Rattle.apd_term.specs.declared.term.Sym.TheVariants.{Var}
use Rattle.apd_term.specs.MatchStep.{IsStep}
use Rattle.apd_term.specs.Substitution.{IsFree, term_for}
use Rattle.apd_term.proofs.Pairs.{term_for-other, term_for-same}
use Rattle.apd_skips.specs.Skips.{Firsts, HasSkips, IsSkip, end_of, placed, subterm_at}
use Rattle.apd_skips.specs.declared.skips.Skip.{Skip}

-- the skip of a symbol
pub skip-of : (s : List Sym) (skips : List Skip) (i : ℕ) (d : Skip) → HasSkips s skips → i < length s → IsSkip s i (get_or skips i d)
skip-of s skips i d h l = let n = h.0 in h.1 i (get_or skips i d) (omega arith) (slice_get-get_or skips i d (omega (arith, l, n)))

-- The pairs of a list of places.

abbrev named : List Sym → List (ℕ × ℕ) → List (ℕ × Term)
named s es = map (λ (e : ℕ × ℕ). (e.0, subterm_at s e.1)) es

-- the subterm for a variable
abbrev IsFor : List (ℕ × Term) → ℕ → Term → Type 0
IsFor ps v t = (IsFree v ps → ⊥) × (term_for ps v ≡ t)

apart : (v w : ℕ) → nat_eq v w ≡ false → w ≢ v
apart v w q e = true≢false (sym (eq-eqb v w (sym e)) ∙ q)

found : (s : List Sym) (es : List (ℕ × ℕ)) (v p : ℕ) → lookup (nat_eq v) es ≡ Some p → IsFor (named s es) v (subterm_at s p)
found s [] v p h = absurd (cc)
found s (e ∷ es) v p h = by (nat_eq v e.0) refl (found s es v p)
  where
    by : (b : Bool) → nat_eq v e.0 ≡ b → (lookup (nat_eq v) es ≡ Some p → IsFor (named s es) v (subterm_at s p)) → IsFor (named s (e ∷ es)) v (subterm_at s p)
    by true q rest =
        let same : e.0 ≡ v = sym (eqb-true v e.0 q) in
        let is : Some e.1 ≡ Some p = sym (ap (λ (b : Bool). cond b (Some e.1) (lookup (nat_eq v) es)) q) ∙ h in
        let one : e.1 ≡ p = cc in
        (λ f. f.0 same, term_for-same (e.0, subterm_at s e.1) (named s es) v same ∙ ap (subterm_at s) one)
    by false q rest =
        let r = rest (sym (ap (λ (b : Bool). cond b (Some e.1) (lookup (nat_eq v) es)) q) ∙ h) in
        (λ f. r.0 f.1, term_for-other (e.0, subterm_at s e.1) (named s es) v (apart v e.0 q) ∙ r.1)

free : (s : List Sym) (es : List (ℕ × ℕ)) (v : ℕ) → lookup (nat_eq v) es ≡ None → IsFree v (named s es)
free s [] v h = tt
free s (e ∷ es) v h = by (nat_eq v e.0) refl (free s es v)
  where
    by : (b : Bool) → nat_eq v e.0 ≡ b → (lookup (nat_eq v) es ≡ None → IsFree v (named s es)) → IsFree v (named s (e ∷ es))
    by true q rest =
        let is : Some e.1 ≡ None = sym (ap (λ (b : Bool). cond b (Some e.1) (lookup (nat_eq v) es)) q) ∙ h in
        absurd (cc)
    by false q rest = (apart v e.0 q, rest (sym (ap (λ (b : Bool). cond b (Some e.1) (lookup (nat_eq v) es)) q) ∙ h))

-- A variable's step.

module _ (s : List Sym) (v from end : ℕ) where
  pub step-again : (firsts : Firsts) (p : ℕ) → get nat_eq firsts v ≡ Some p → end ≡ end_of s from → subterm_at s p ≡ subterm_at s from → IsStep (Var v) s from (placed s firsts) (placed s firsts) (Some end)
  step-again firsts p h e same = let r = found s firsts.entries v p h in (e, inl (refl, r.0, r.1 ∙ same))

  pub step-unequal : (firsts : Firsts) (p : ℕ) → get nat_eq firsts v ≡ Some p → subterm_at s p ≢ subterm_at s from → IsStep (Var v) s from (placed s firsts) (placed s firsts) None
  step-unequal firsts p h n = let r = found s firsts.entries v p h in (r.0, λ e. n (sym r.1 ∙ e))

  pub step-new : (old new : Firsts) → get nat_eq old v ≡ None → new.entries ≡ insert_entry nat_eq old.entries v from → end ≡ end_of s from → IsStep (Var v) s from (placed s old) (placed s new) (Some end)
  step-new old new h is e = (
    e,
    inr (
      free s old.entries v h,
      ap (named s) (is ∙ insert_entry-new nat_eq old v from h) ∙ map-append (λ (f : ℕ × ℕ). (f.0, subterm_at s f.1)) old.entries ((v, from) ∷ []),
    ),
  )
