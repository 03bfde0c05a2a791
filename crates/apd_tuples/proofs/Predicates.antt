-- The predicate of a term is told by its first symbol, and stays when variables are renamed.
use Rattle.std.proofs.Common.{◌≡◌, ℕ, List, Option, Some, None, refl, sym, ◌∙◌, ap, subst}
use Rattle.std.specs.Prelude.{slice_get, IfSome}
use Rattle.apd_term.specs.declared.term.NameId.{NameId}
use Rattle.apd_term.specs.declared.term.Pred.{Pred}
use Rattle.apd_term.specs.declared.term.Sym.{Sym}
use Rattle.apd_term.specs.declared.term.Sym.TheVariants.{Var, Int, Fun}
use Rattle.apd_term.specs.Term.{Term, variable, integer, compound, apply, predicate_of}
use Rattle.apd_term.specs.declared.tuple.Tuple.{Tuple}
use Rattle.apd_term.proofs.Spelling.{length-apply_all}
use Rattle.apd_cells.specs.First.{first_symbol}
use Rattle.apd_term.specs.Canonical.{by_appearance, place_of}
use Rattle.apd_term.specs.Tuple.{variables_of_tuple}
use Rattle.apd_cells.specs.Store.{term_at}
use Rattle.apd_past.specs.History.{History, at_moment}
use Rattle.apd_past.specs.Tuples.{tuple_at}
use Rattle.apd_tuples.specs.Spots.{Place}
use Rattle.apd_tuples.specs.Tuples.{kept_tuple, kept_tuples}
use Rattle.apd_tuples.proofs.Standing.{got_some}

abbrev pub pred_by : Sym → Option Pred
pred_by (Var v) = None
pred_by (Int i) = None
pred_by (Fun f n) = Some (record { name = f; arity = n })

first-predicate : (t : Term) → pred_by (first_symbol t) ≡ predicate_of t
first-predicate (variable v) = refl
first-predicate (integer i) = refl
first-predicate (compound f ts) = refl

pub predicate-by : (t : Term) (x : Sym) → first_symbol t ≡ x → pred_by x ≡ predicate_of t
predicate-by t x e = ap pred_by (sym e) ∙ first-predicate t

abbrev pred_at : NameId → ℕ → Option Pred
pred_at f n = Some (record { name = f; arity = n })

predicate-renamed : (f : ℕ → ℕ) (t : Term) → predicate_of (apply (λ v. variable (f v)) t) ≡ predicate_of t
predicate-renamed f (variable v) = refl
predicate-renamed f (integer i) = refl
predicate-renamed f (compound g ts) = ap (pred_at g) (length-apply_all (λ v. variable (f v)) ts)

-- the predicate of the head of a kept tuple
pub predicate-kept : (h : History) (ps : List Place) (i : ℕ) (now : List Tuple) (p : Place) (o : Option Pred) → kept_tuples h ps ≡ now → slice_get ps i ≡ Some p
    → o ≡ predicate_of (term_at (at_moment p.moment h) p.head.0) → IfSome (slice_get now i) (λ (t : Tuple). o ≡ predicate_of t.head)
predicate-kept h ps i now p o view there is =
    let same : o ≡ predicate_of (kept_tuple h p).head =
    is ∙ sym (predicate-renamed (place_of (by_appearance (variables_of_tuple (tuple_at (at_moment p.moment h) p.head.0 p.goals)))) (term_at (at_moment p.moment h) p.head.0)) in
    subst (λ z. IfSome z (λ (t : Tuple). o ≡ predicate_of t.head)) (got_some h ps i now p (kept_tuple h p) view there refl) same
