-- Marks: numbers that a predicate's clauses share whose first arguments begin alike, by which those are found that a goal
-- may enter.
use Rattle.std.specs.Prelude.{ℕ, ◌≡◌, ◌+◌, ◌*◌, ◌%◌, ◌^◌, ◌<◌, ◌≤◌, Bool, List, [], ◌∷◌, ◌++◌, Option, Some, None, All, unwrap_or, slice_get, if◌then◌else◌, nat_eq}
use Rattle.std.specs.Int.RustNames.{unsigned_abs}
use Rattle.std.specs.declared.hash.FoldHasher.{FoldHasher}
use Rattle.std.specs.declared.hash.BuildHasherDefault.{BuildHasherDefault}
use Rattle.indexmap.specs.IndexMap.{get, IndexMap}
use Rattle.apd_term.specs.Term.{predicate_of}
use Rattle.apd_term.specs.declared.term.Pred.{Pred}
use Rattle.apd_term.specs.declared.term.Sym.{Sym}
use Rattle.apd_term.specs.declared.term.Sym.TheVariants.{Var, Int, Fun}
use Rattle.apd_term.specs.declared.tuple.Tuple.{Tuple}
use Rattle.apd_cells.specs.First.{AreClashing, key_of}
use Rattle.apd_clauses.specs.declared.clause.Clause.{Clause}
use Rattle.apd_clauses.specs.declared.marks.TheConstants.{NAMES, SPREAD}
use Rattle.apd_clauses.specs.Clauses.{clauses_from, tuples_of}

-- all variables have the same part
abbrev pub part_of : Sym → ℕ
part_of (Var v) = 0
part_of (Int i) = unsigned_abs i + 1
part_of (Fun f n) = NAMES + f.0

-- the mark of the predicate's clauses whose first arguments begin with a symbol
unfoldable pub mark_for : Pred → Sym → ℕ
mark_for p first =
    (((p.name.0 * 256 + p.arity) * SPREAD) % 2 ^ 64 + part_of first) % 2 ^ 64

abbrev pub mark_by : Option Pred → Sym → ℕ
mark_by None first = 0
mark_by (Some p) first = mark_for p first

abbrev pub mark_of : Clause → ℕ
mark_of c = mark_by (predicate_of c.tuple.head) (key_of c.tuple.head)

-- the numbers of the clauses that pass a test, in order, where the first clause has number n
abbrev pub numbers_where : ℕ → (Clause → Bool) → List Clause → List ℕ
numbers_where n test [] = []
numbers_where n test (c ∷ cs) =
    if test c then n ∷ numbers_where (n + 1) test cs else numbers_where (n + 1) test cs

-- the numbers of the clauses with this mark, in order
abbrev pub marked : ℕ → List Clause → List ℕ
marked mark cs = numbers_where 1 (λ c. nat_eq mark (mark_of c)) cs

abbrev pub Marked : Type 0
Marked = IndexMap ℕ (List ℕ) (BuildHasherDefault FoldHasher)

-- the numbers that are noted for a mark
abbrev pub marked_at : Marked → ℕ → List ℕ
marked_at m mark = unwrap_or (get nat_eq m mark) []

-- the numbers of each mark's clauses are noted
abbrev pub AreMarked : List Clause → Marked → Type 0
AreMarked cs m = (mark : ℕ) → marked_at m mark ≡ marked mark cs

-- one more number is noted for the mark
abbrev pub NotesMark : Marked → ℕ → ℕ → Marked → Type 0
NotesMark old mark n new =
    (other : ℕ)
    → marked_at new other ≡ (if nat_eq mark other then marked_at old other ++ n ∷ [] else marked_at old other)

abbrev pub HaveSameMarked : Marked → Marked → Type 0
HaveSameMarked old new = (mark : ℕ) → marked_at new mark ≡ marked_at old mark

-- the least of those numbers that aren't below another, if there is one
abbrev pub IsFirstFrom : List ℕ → ℕ → Option ℕ → Type 0
IsFirstFrom xs least None = All (λ x. x < least) xs
IsFirstFrom xs least (Some y) = (least ≤ y) × All (λ x. least ≤ x → y ≤ x) xs

-- the first arguments of the predicate's clauses at the places from i to before j begin otherwise than the key says
abbrev pub PassesOver : List Clause → Pred → Sym → ℕ → ℕ → Type 0
PassesOver cs p key i j =
    (k : ℕ) (c : ℕ × Tuple) → i ≤ k → k < j → slice_get (clauses_from 1 p (tuples_of cs)) k ≡ Some c
    → AreClashing key (key_of c.1.head)
