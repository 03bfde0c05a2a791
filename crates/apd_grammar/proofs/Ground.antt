-- Terms without variables, and goals between states.
use Rattle.std.proofs.Common.{◌≡◌, ◌≢◌, ℕ, pos, ◌==◌, Bool, true, false, List, [], ◌∷◌, ◌++◌, length, Some, None, refl, ◌∙◌, ap}
use Rattle.std.specs.Prelude.{if◌then◌else◌}
use Rattle.std.specs.Bool.{Decides}
use Rattle.std.proofs.lemmas.Bool.Decides.{Decides-eqb}
use Rattle.apd_term.specs.Term.{Term, variable, integer, compound, none, more, list_of, apply, variables, IsGround, predicate_of}
use Rattle.apd_term.specs.Substitution.{followed_by}
use Rattle.apd_term.specs.declared.term.Pred.{Pred}
use Rattle.apd_term.specs.declared.standard.TheConstants.{CELL}
use Rattle.apd_term.proofs.Ground.{IsGround-apply}
use Rattle.apd_arith.specs.Builtins.{builtin_of}
use Rattle.apd_clauses.specs.Clauses.{IsAtom}
use Rattle.apd_clauses.specs.Kinds.{◌∕◌}
use Rattle.apd_record.specs.Recorded.{is_none, is_user_atom}
use Rattle.apd_record.specs.Sound.{IsAlwaysTrue}
use Rattle.apd_record.proofs.Missing.{both_empty}
use Rattle.apd_dcg.specs.Faults.{extended}
use Rattle.apd_dcg.specs.Rules.{with_states, onto, equation}
use Rattle.apd_dcg.proofs.Fine.{IsLongerAtom, own_builtin, predicate-states}

-- an integer for each variable
abbrev pub anything : ℕ → Term
anything v = integer (pos 0)

-- a substitution, and an integer for each variable that it leaves
abbrev pub grounded : (ℕ → Term) → ℕ → Term
grounded s = followed_by s anything

pub grounded_ground : (s : ℕ → Term) (v : ℕ) → IsGround (grounded s v)
grounded_ground s v = IsGround-apply anything (s v) (λ w o. refl)

pub onto-append : (vs ws : List Term) (t : Term) → onto (vs ++ ws) t ≡ onto vs (onto ws t)
onto-append [] ws t = refl
onto-append (v ∷ vs) ws t = ap (λ u. compound CELL (more v (more u none))) (onto-append vs ws t)

pub onto_ground : (vs : List Term) (t : Term) → IsGround (onto vs t) → IsGround t
onto_ground [] t g = g
onto_ground (v ∷ vs) t g =
    let rest = (both_empty (variables v) (variables (onto vs t) ++ []) g).1 in
    onto_ground vs t (both_empty (variables (onto vs t)) [] rest).0

-- equal sides stay equal
pub always_equal : (a b : Term) → a ≡ b → IsAlwaysTrue (equation a b)
always_equal a b e s g = ap (apply s) e

-- an atom of the program's own
pub user_by_predicate : (a : Term) (p : Pred) → predicate_of a ≡ Some p → builtin_of p ≡ None → is_user_atom a ≡ true
user_by_predicate (variable v) p e b = refl
user_by_predicate (integer i) p e b = refl
user_by_predicate (compound f ts) p e b = let same : f ∕ length (list_of ts) ≡ p = cc in ap (λ q. is_none (builtin_of q)) same ∙ ap is_none b

pub atom_by_predicate : (a : Term) (p : Pred) → predicate_of a ≡ Some p → IsAtom a
atom_by_predicate (variable v) p e = cc
atom_by_predicate (integer i) p e = cc
atom_by_predicate (compound f ts) p e = refl

-- the predicate of an atom with states
predicate_longer : (n s t : Term) (l : IsLongerAtom n) → predicate_of (with_states n s t) ≡ Some (extended (l.name ∕ length (list_of l.arguments)))
predicate_longer n s t l = predicate-states n s t (l.name ∕ length (list_of l.arguments)) (ap predicate_of l.is)

pub states_user : (n s t : Term) → IsLongerAtom n → is_user_atom (with_states n s t) ≡ true
states_user n s t l =
    user_by_predicate (with_states n s t) (extended (l.name ∕ length (list_of l.arguments))) (predicate_longer n s t l)
    (own_builtin (extended (l.name ∕ length (list_of l.arguments))) l.longer.own)

pub states_atom : (n s t : Term) → IsLongerAtom n → IsAtom (with_states n s t)
states_atom n s t l = atom_by_predicate (with_states n s t) (extended (l.name ∕ length (list_of l.arguments))) (predicate_longer n s t l)

-- a value for one variable
abbrev pub with_value : (ℕ → Term) → ℕ → Term → ℕ → Term
with_value s n x v = if n == v then x else s v

pub value_here : (s : ℕ → Term) (n : ℕ) (x : Term) → with_value s n x n ≡ x
value_here s n x = by (n == n) (Decides-eqb n n)
  where
    by : (b : Bool) → Decides b (n ≡ n) → (if b then x else s n) ≡ x
    by true d = refl
    by false d = let bad : false ≡ true = d.1 refl in cc

pub value_elsewhere : (s : ℕ → Term) (n : ℕ) (x : Term) (v : ℕ) → n ≢ v → with_value s n x v ≡ s v
value_elsewhere s n x v ne = by (n == v) (Decides-eqb n v)
  where
    by : (b : Bool) → Decides b (n ≡ v) → (if b then x else s v) ≡ s v
    by true d = absurd (ne (d.0 refl))
    by false d = refl

pub value_ground : (s : ℕ → Term) (n : ℕ) (x : Term) → ((v : ℕ) → IsGround (s v)) → IsGround x → (v : ℕ) → IsGround (with_value s n x v)
value_ground s n x g gx v = either (n == v)
  where
    either : (b : Bool) → IsGround (if b then x else s v)
    either true = gx
    either false = g v
