-- The bindings of a list of values, by the list of all values.
use Rattle.std.proofs.Common.{◌≡◌, ℕ, ◌+◌, ◌<◌, ◌≤◌, List, [], ◌∷◌, ◌++◌, length, drop, get_or, ap, sym, ◌∙◌, append_assoc}
use Rattle.std.proofs.lemmas.List.{append-nil, drop_more, drop_all}
use Rattle.apd_term.specs.Term.{Term}
use Rattle.apd_ops.specs.Table.{Table}
use Rattle.apd_text.specs.Lines.{binding, bindings}
use Rattle.apd_text.proofs.Binding.{no_bindings}

-- so many variables have their texts, by the list of all values
pub bindings_next : (ops : Table) (names vars : List (List ℕ)) (values : List Term) (i : ℕ) (texts : List (List ℕ)) (d : List ℕ) (e : Term) → i < length vars → i < length values →
    bindings ops names vars values ≡ texts ++ bindings ops names (drop i vars) (drop i values) →
    bindings ops names vars values ≡ (texts ++ binding ops names (get_or vars i d) (get_or values i e) ∷ []) ++ bindings ops names (drop (i + 1) vars) (drop (i + 1) values)
bindings_next ops names vars values i texts d e more_ some before =
    before
    ∙ ap (λ (vs : List (List ℕ)). texts ++ bindings ops names vs (drop i values)) (drop_more vars i d more_)
    ∙ ap (λ (ts : List Term). texts ++ bindings ops names (get_or vars i d ∷ drop (i + 1) vars) ts) (drop_more values i e some)
    ∙ sym (append_assoc texts (binding ops names (get_or vars i d) (get_or values i e) ∷ []) _)

pub bindings_short : (ops : Table) (names vars : List (List ℕ)) (values : List Term) (i : ℕ) (texts : List (List ℕ)) → length values ≤ i →
    bindings ops names vars values ≡ texts ++ bindings ops names (drop i vars) (drop i values) → texts ≡ bindings ops names vars values
bindings_short ops names vars values i texts all before =
    sym (before ∙ ap (λ (ts : List Term). texts ++ bindings ops names (drop i vars) ts) (drop_all i values all) ∙ ap (λ (bs : List (List ℕ)). texts ++ bs) (no_bindings ops names (drop i vars)) ∙ append-nil texts)

pub bindings_end : (ops : Table) (names vars : List (List ℕ)) (values : List Term) (i : ℕ) (texts : List (List ℕ)) → length vars ≤ i →
    bindings ops names vars values ≡ texts ++ bindings ops names (drop i vars) (drop i values) → texts ≡ bindings ops names vars values
bindings_end ops names vars values i texts all before =
    sym (before ∙ ap (λ (vs : List (List ℕ)). texts ++ bindings ops names vs (drop i values)) (drop_all i vars all) ∙ append-nil texts)
