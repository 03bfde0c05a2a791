-- Terms by another numbering of names: each name's number is replaced, and nothing else.
use Rattle.std.specs.Prelude.{◌≡◌, ℕ, ◌<◌, ◌≤◌, List, length, map}
use Rattle.apd_term.specs.StandardNames.{standard_names}
use Rattle.apd_term.specs.Term.{Term, Terms, variable, integer, compound, none, more}
use Rattle.apd_term.specs.declared.instance.Instance.{Instance}
use Rattle.apd_term.specs.declared.term.NameId.{NameId}
use Rattle.apd_term.specs.declared.term.Pred.{Pred}
use Rattle.apd_term.specs.declared.tuple.Tuple.{Tuple}

-- One numbering in place of another: each number has one in its place, and no two have the same. The first n names keep theirs, the
-- standard ones among them.
pub record Renumbering (n : ℕ) : Type 0 where
  pub to : ℕ → ℕ
  pub back : ℕ → ℕ
  pub there : (i : ℕ) → to (back i) ≡ i
  pub again : (i : ℕ) → back (to i) ≡ i
  pub stays : (i : ℕ) → i < n → to i ≡ i
  pub standard : length standard_names ≤ n

abbrev pub renumbered_name : (ℕ → ℕ) → NameId → NameId
renumbered_name r f = record { 0 = r f.0 }

abbrev mutual
  pub renumbered : (ℕ → ℕ) → Term → Term
  renumbered r (variable v) = variable v
  renumbered r (integer i) = integer i
  renumbered r (compound f ts) = compound (renumbered_name r f) (renumbered_all r ts)

  pub renumbered_all : (ℕ → ℕ) → Terms → Terms
  renumbered_all r none = none
  renumbered_all r (more t ts) = more (renumbered r t) (renumbered_all r ts)

abbrev pub renumbered_list : (ℕ → ℕ) → List Term → List Term
renumbered_list r ts = map (renumbered r) ts

abbrev pub renumbered_pred : (ℕ → ℕ) → Pred → Pred
renumbered_pred r p = record { name = renumbered_name r p.name; arity = p.arity }

abbrev pub renumbered_tuple : (ℕ → ℕ) → Tuple → Tuple
renumbered_tuple r t = record { head = renumbered r t.head; body = renumbered_list r t.body }

abbrev pub renumbered_tuples : (ℕ → ℕ) → List Tuple → List Tuple
renumbered_tuples r ts = map (renumbered_tuple r) ts

abbrev pub renumbered_instance : (ℕ → ℕ) → Instance → Instance
renumbered_instance r c = record { clause = c.clause; tuple = renumbered_tuple r c.tuple }
