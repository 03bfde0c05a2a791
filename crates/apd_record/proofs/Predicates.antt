-- The predicate of a kept tuple's head, which is told without a look at the whole.
use Rattle.std.proofs.Common.{◌≡◌, ℕ, List, Option, Some, None, sym, ◌∙◌, ap, subst}
use Rattle.std.specs.Prelude.{slice_get, IfSome}
use Rattle.std.proofs.lemmas.Option.{get_or_from_slice_get}
use Rattle.apd_term.specs.Term.{Term, predicate_of}
use Rattle.apd_term.specs.declared.term.Pred.{Pred}
use Rattle.apd_term.specs.declared.tuple.Tuple.{Tuple}
use Rattle.apd_tuples.specs.declared.spots.Numbered.{Numbered}
use Rattle.apd_tuples.specs.Tuples.{IsNumbered}
use Rattle.apd_points.specs.declared.kept.TuplePlace.{TuplePlace}
use Rattle.apd_points.specs.declared.kept.TuplePlace.TheVariants.{Kept}
use Rattle.apd_record.specs.Kept.{no_tuple, tuple_there, IsTupleThere}

same_pred : (o p : Option Pred) → o ≡ p → IfSome o (λ q. p ≡ Some q)
same_pred None p e = tt
same_pred (Some q) p e = sym e

pub pred_told : (n : ℕ) (all : List Term) (kept : List Tuple) (at : TuplePlace) (k : Numbered) (o : Option Pred) → at ≡ Kept k → IsTupleThere n kept at
    → IfSome (slice_get kept k.number) (λ (t : Tuple). o ≡ predicate_of t.head) → IfSome o (λ p. predicate_of (tuple_there all kept at).head ≡ Some p)
pred_told n all kept at k o is there h =
    let numbered : IsNumbered kept k = subst (IsTupleThere n kept) is there in
    let own : o ≡ predicate_of numbered.tuple.head = subst (λ z. IfSome z (λ (t : Tuple). o ≡ predicate_of t.head)) numbered.there h in
    let read : tuple_there all kept at ≡ numbered.tuple =
    ap (tuple_there all kept) is ∙ get_or_from_slice_get kept k.number numbered.tuple no_tuple numbered.there in
    same_pred o (predicate_of (tuple_there all kept at).head) (own ∙ ap (λ (t : Tuple). predicate_of t.head) (sym read))
