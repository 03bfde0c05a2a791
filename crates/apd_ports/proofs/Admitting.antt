-- What a filter admits after some events.
use Rattle.std.proofs.Common.{◌≡◌, ℕ, Bool, true, false, not, List, [], ◌∷◌, ◌++◌, nat_eq, refl, ap, sym, ◌∙◌, subst, arith}
use Rattle.std.specs.Prelude.{◌↔◌, IsTrue, Option, Some, None}
use Rattle.std.specs.List.{fold}
use Rattle.std.proofs.lemmas.Bool.Decides.{nat_tests}
use Rattle.std.proofs.lemmas.List.Folds.{Any-from_list_any, list_any-from_Any}
use Rattle.std.proofs.lemmas.List.Sums.{fold_push}
use Rattle.std.proofs.lemmas.Bool.{and_parts}
use Rattle.apd_term.specs.Term.{predicate_of}
use Rattle.apd_term.specs.declared.term.Pred.{Pred}
use Rattle.apd_ports.specs.Filter.{Admission, admits, after_event, before_events, inside_after, is_admitted, is_among, is_predicate}
use Rattle.apd_ports.specs.Inside.{Admits, after_events}
use Rattle.apd_ports.specs.declared.event.Event.{Event}
use Rattle.apd_ports.specs.declared.filter.Filter.{Filter}
use Rattle.apd_ports.specs.declared.filter.Filter.TheVariants.{Off, All, Leap, Skip}
use Rattle.apd_ports.proofs.Insides.{inside_noted, noted_inside}

-- the filter itself stays
same_filter : (a : Admission) (es : List Event) → (fold after_event a es).filter ≡ a.filter
same_filter a [] = refl
same_filter a (e ∷ es) = same_filter (after_event a e) es

by_filter : (f : Filter) (es : List Event) (e : Event) → is_admitted (after_events f es) e ≡ admits f (after_event (after_events f es) e).inside e
by_filter f es e = ap (λ (g : Filter). admits g (after_event (after_events f es) e).inside e) (same_filter (before_events f) es)

skipping : (b : ℕ) (es : List Event) (boxes : List ℕ) → fold after_event (record { filter = Skip b; inside = boxes }) es ≡ record { filter = Skip b; inside = fold (inside_after b) boxes es }
skipping b [] boxes = refl
skipping b (e ∷ es) boxes = skipping b es (inside_after b boxes e)

by_boxes : (b : ℕ) (es : List Event) (e : Event) → is_admitted (after_events (Skip b) es) e ≡ not (is_among (fold (inside_after b) [] (es ++ e ∷ [])) e.box_no)
by_boxes b es e =
    ap (λ (a : Admission). is_admitted a e) (skipping b es [])
    ∙ ap (λ (ns : List ℕ). not (is_among ns e.box_no)) (sym (fold_push (inside_after b) [] es e))

listed : (o : Option Pred) (p : Pred) → is_predicate o p ≡ true → o ≡ Some p
listed None p is = absurd (cc)
listed (Some q) p is =
    let h = and_parts (nat_eq q.name.0 p.name.0) (nat_eq q.arity p.arity) is in
    let name : q.name.0 ≡ p.name.0 = grind (arith, nat_tests, h.0) in
    let arity : q.arity ≡ p.arity = grind (arith, nat_tests, h.1) in
    ap (λ (n : ℕ). Some (record { name = record { 0 = n }; arity = q.arity })) name ∙ ap (λ (k : ℕ). Some (record { name = p.name; arity = k })) arity

is_listed : (o : Option Pred) (p : Pred) → o ≡ Some p → is_predicate o p ≡ true
is_listed o p is = subst (λ (q : Option Pred). is_predicate q p ≡ true) (sym is) (grind (arith, nat_tests))

refuted : (b : Bool) → not b ≡ true → b ≡ true → ⊥
refuted true hidden is = cc
refuted false hidden is = cc

unless : (b : Bool) → (b ≡ true → ⊥) → not b ≡ true
unless true never = absurd (never refl)
unless false never = refl

pub admits_what_it_says : (f : Filter) (before : List Event) (e : Event) → IsTrue (is_admitted (after_events f before) e) ↔ Admits f before e
admits_what_it_says Off before e = (λ is. let other : true ≡ false = sym is ∙ by_filter Off before e in absurd (cc), λ never. absurd never)
admits_what_it_says All before e = (λ is. tt, λ any. by_filter All before e)
admits_what_it_says (Leap preds) before e = (
  λ is.
      let found = Any-from_list_any (is_predicate (predicate_of e.atom)) preds (sym (by_filter (Leap preds) before e) ∙ is) in
      (found.0, found.1, found.2, found.3, listed (predicate_of e.atom) found.1 found.4),
  λ found.
      by_filter (Leap preds) before e
      ∙ list_any-from_Any (is_predicate (predicate_of e.atom)) preds (found.0, found.1, found.2, found.3, is_listed (predicate_of e.atom) found.1 found.4),
)
admits_what_it_says (Skip b) before e = (
  λ is inner.
      refuted (is_among (fold (inside_after b) [] (before ++ e ∷ [])) e.box_no) (sym (by_boxes b before e) ∙ is)
      (inside_noted b (before ++ e ∷ []) e.box_no inner),
  λ outer.
      by_boxes b before e
      ∙ unless (is_among (fold (inside_after b) [] (before ++ e ∷ [])) e.box_no) (λ is. outer (noted_inside b (before ++ e ∷ []) e.box_no is)),
)
