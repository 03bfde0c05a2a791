-- How bindings are kept: each leads to the one before it of the same variable, and to one further back.
use Rattle.std.specs.Prelude.{◌≡◌, ℕ, ◌<◌, ◌≤◌, ◌⊎◌, Option, Some, None, List, [], ◌∷◌, ◌++◌, length, get_or, set}
use Rattle.apd_past.specs.Done.{Span}
use Rattle.apd_past.specs.declared.spans.KeptSpan.{KeptSpan}

-- the variable of a binding that is kept, and those of the ones before it: the first of a variable has its number
abbrev pub variable_by : Option ℕ → ℕ → List ℕ → ℕ
variable_by None way vs = way
variable_by (Some far) way vs = get_or vs way 0

abbrev pub variables_after : List ℕ → List KeptSpan → List ℕ
variables_after vs [] = vs
variables_after vs (k ∷ ks) = variables_after (vs ++ variable_by k.jump k.way vs ∷ []) ks

abbrev pub variables_of : List KeptSpan → List ℕ
variables_of kept = variables_after [] kept

-- the binding that is kept
abbrev pub span_of : ℕ → KeptSpan → Span
span_of v k = record { variable = v; cell = k.cell; from = k.from; until = k.until }

abbrev pub spans_with : List ℕ → List KeptSpan → List Span
spans_with [] ks = []
spans_with (v ∷ vs) [] = []
spans_with (v ∷ vs) (k ∷ ks) = span_of v k ∷ spans_with vs ks

-- the bindings without the ways, the oldest first
abbrev pub spans_of : List KeptSpan → List Span
spans_of kept = spans_with (variables_of kept) kept

-- the way to the one before it
abbrev pub before_by : Option ℕ → ℕ → Option ℕ
before_by None way = None
before_by (Some far) way = Some way

abbrev pub before_of : KeptSpan → Option ℕ
before_of k = before_by k.jump k.way

abbrev pub no_kept : KeptSpan
no_kept = record { cell = 0; from = 0; until = None; way = 0; jump = None }

-- a binding that is kept ends behind the moment, and the one at a place, if one is given
abbrev pub with_until : ℕ → KeptSpan → KeptSpan
with_until m k = record { cell = k.cell; from = k.from; until = Some m; way = k.way; jump = k.jump }

abbrev pub ended_at : Option ℕ → ℕ → List KeptSpan → List KeptSpan
ended_at None m kept = kept
ended_at (Some i) m kept = set kept i (with_until m (get_or kept i no_kept))

-- the variable at this place is the one
pub record IsOn (vs : List ℕ) (v i : ℕ) : Type 0 where
  pub there : i < length vs
  pub is : get_or vs i 0 ≡ v

-- the place of the newest binding of the variable before place k
abbrev pub IsNewest : List ℕ → ℕ → ℕ → Option ℕ → Type 0
IsNewest vs v k None = (i : ℕ) → i < k → ¬ IsOn vs v i
IsNewest vs v k (Some n) = (n < k) × IsOn vs v n × ((i : ℕ) → n < i → i < k → ¬ IsOn vs v i)

-- the place of a binding of the variable before place k
abbrev pub IsEarlier : List ℕ → ℕ → ℕ → Option ℕ → Type 0
IsEarlier vs v k None = Unit {0}
IsEarlier vs v k (Some n) = (n < k) × IsOn vs v n

-- the ways from a binding lead to the one before it of its variable, and to an earlier one
pub record HasWays (vs : List ℕ) (v k : ℕ) (before jump : Option ℕ) : Type 0 where
  pub before_is : IsNewest vs v k before
  pub jump_is : IsEarlier vs v k jump

-- each has its ways
abbrev pub HaveWays : List KeptSpan → Type 0
HaveWays kept = (i : ℕ) → i < length kept →
    HasWays (variables_of kept) (get_or (variables_of kept) i 0) i (before_of (get_or kept i no_kept)) (get_or kept i no_kept).jump

-- there are no more than moments, each was made behind an earlier moment than those after it, and behind one that is past;
-- each has its ways, and each variable the newest one of it
pub record AreLinked (kept : List KeptSpan) (newest : List (Option ℕ)) (moments : ℕ) : Type 0 where
  pub few : length kept ≤ moments
  pub rising : (i j : ℕ) → i ≤ j → j < length kept → (get_or kept i no_kept).from ≤ (get_or kept j no_kept).from
  pub past : (i : ℕ) → i < length kept → (get_or kept i no_kept).from < moments
  pub ways : HaveWays kept
  pub below : (v i : ℕ) → IsOn (variables_of kept) v i → v < length newest
  pub newest_is : (v : ℕ) → v < length newest → IsNewest (variables_of kept) v (length kept) (get_or newest v None)

-- the place of the newest binding of the variable of those that were made before the moment
abbrev pub IsNewestAt : List KeptSpan → ℕ → ℕ → Option ℕ → Type 0
IsNewestAt kept v m None = (i : ℕ) → IsOn (variables_of kept) v i → m ≤ (get_or kept i no_kept).from
IsNewestAt kept v m (Some n) =
    IsOn (variables_of kept) v n × ((get_or kept n no_kept).from < m)
    × ((i : ℕ) → n < i → IsOn (variables_of kept) v i → m ≤ (get_or kept i no_kept).from)

-- from a binding to the one before it, or to the one further back where that wasn't made before the moment
abbrev pub GoesBack : List KeptSpan → KeptSpan → ℕ → Option ℕ → Type 0
GoesBack kept k m o = (o ≡ before_of k) ⊎ ((far : ℕ) × (o ≡ Some far) × (k.jump ≡ Some far) × (m ≤ (get_or kept far no_kept).from))
