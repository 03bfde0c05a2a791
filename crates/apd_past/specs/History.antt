-- What a past is: cells that are never dropped, and what was done to variables. At each moment it is a store.
use Rattle.std.specs.Prelude.{◌≡◌, ℕ, ◌+◌, ◌<◌, ◌≤◌, ◌⊎◌, ltb, Bool, true, false, Option, Some, None, List, [], ◌∷◌, ◌++◌, length, map, drop, if◌then◌else◌, refl}
use Rattle.std.specs.Coded.{Coded, code_by, coded_list, coded×, coded⊎, coded_ℕ, coded_ℤ}
use Rattle.std.specs.List.{flat_map}
use Rattle.std.proofs.Common.{ℤ}
use Rattle.apd_term.specs.declared.term.Sym.{Sym}
use Rattle.apd_term.specs.Spelling.{parts, whole, map-whole-parts, variable_in}
use Rattle.apd_cells.specs.declared.heap.TrailNote.{TrailNote}
use Rattle.apd_cells.specs.declared.heap.TrailNote.TheVariants.{Loaded, Bound}
use Rattle.apd_cells.specs.declared.heap.Binding.TheVariants.{Free}
use Rattle.apd_cells.specs.Stored.{Stored}
use Rattle.apd_cells.specs.Store.{above, binding_of, term_at, HasCells, MayBind}
use Rattle.apd_past.specs.Done.{Done, Span, coded_spans, is_within, map-span_whole, span_parts, span_whole, with_end, with_span}

-- the symbols of all terms that were loaded, one after another, each term in prefix order; a number above all their
-- variables; how often one was bound or freed; and the bindings, the newest first
pub record History : Type 0 where
  pub cells : List Sym
  pub variables : ℕ
  pub moments : ℕ
  pub spans : List Span

-- it was made before the moment, and hadn't ended by then
abbrev pub is_bound : ℕ → Span → Bool
is_bound m s = if ltb s.from m then is_within m s.until else false

-- the bindings at a moment: those that were made before it and hadn't ended by then
abbrev pub bindings_at : ℕ → List Span → List TrailNote
bindings_at m [] = []
bindings_at m (s ∷ ss) = if is_bound m s then Bound s.variable s.cell ∷ bindings_at m ss else bindings_at m ss

-- the store at a moment, and at present
abbrev pub at_moment : ℕ → History → Stored
at_moment m h = record { cells = h.cells; variables = h.variables; trail = bindings_at m h.spans }

abbrev pub present : History → Stored
present h = at_moment h.moments h

-- more terms, behind the others
abbrev pub with_terms : History → List Sym → History
with_terms h symbols = record {
  cells = h.cells ++ symbols;
  variables = above h.variables (flat_map variable_in symbols);
  moments = h.moments;
  spans = h.spans;
}

-- what there was at each moment is there as it was
pub record KeepsMoments (old new : History) : Type 0 where
  pub moments : old.moments ≤ new.moments
  pub cells : length old.cells ≤ length new.cells
  pub terms : (m c : ℕ) → m ≤ old.moments → c < length old.cells → term_at (at_moment m new) c ≡ term_at (at_moment m old) c

-- the store where the newest binding is taken back
abbrev pub unbound : Stored → Stored
unbound s = record { cells = s.cells; variables = s.variables; trail = drop 1 s.trail }

-- the variable might be bound to the cell when it was: it was free, and the term there doesn't have it; and as long as it is
-- bound, those that were bound before are
pub record IsRightSpan (cells : List Sym) (n : ℕ) (s : Span) (before : List Span) : Type 0 where
  pub may : MayBind cells n (bindings_at s.from before) s.variable s.cell
  pub stays : (m : ℕ) → is_bound m s ≡ true → bindings_at m before ≡ bindings_at s.from before

-- each binding was right
abbrev pub IsRight : List Sym → ℕ → List Span → Type 0
IsRight cells n [] = HasCells cells n
IsRight cells n (s ∷ ss) = IsRightSpan cells n s ss × IsRight cells n ss

-- each binding of a history was right
abbrev pub IsRightHistory : History → Type 0
IsRightHistory h = IsRight h.cells h.variables h.spans

-- the variables of bindings
abbrev pub variables_of : List TrailNote → List ℕ
variables_of [] = []
variables_of (Loaded c n ∷ notes) = variables_of notes
variables_of (Bound v c ∷ notes) = v ∷ variables_of notes

-- the cells of a history, and what was done
abbrev pub history_of : List Sym → Done → History
history_of cells d = record { cells = cells; variables = d.variables; moments = d.moments; spans = d.spans }

-- one more binding
abbrev pub with_done : History → ℕ → ℕ → History
with_done h v c = history_of h.cells (with_span (record { variables = h.variables; moments = h.moments; spans = h.spans }) v c)

-- the bindings at present
abbrev pub bindings_of : Done → List TrailNote
bindings_of d = bindings_at d.moments d.spans

-- it has no end
abbrev pub is_open : Option ℕ → Bool
is_open None = true
is_open (Some u) = false

-- the newest binding without an end ends
abbrev pub ended : ℕ → List Span → List Span
ended m [] = []
ended m (s ∷ ss) = if is_open s.until then with_end m s ∷ ss else s ∷ ended m ss

-- the variable of the newest of these bindings is freed, if there is one
abbrev pub freed_first : List TrailNote → Done → Done
freed_first [] d = d
freed_first (b ∷ bs) d = record { variables = d.variables; moments = d.moments + 1; spans = ended d.moments d.spans }

-- the variable that was bound last is freed, if one is bound
abbrev pub freed : Done → Done
freed d = freed_first (bindings_of d) d

-- the variable is that of the newest binding
abbrev pub IsNewestBound : ℕ → List TrailNote → Type 0
IsNewestBound v notes = (c : ℕ) × (notes ≡ Bound v c ∷ drop 1 notes)

-- all are below the number
abbrev pub AreBelow : ℕ → List ℕ → Type 0
AreBelow n [] = Unit {0}
AreBelow n (v ∷ vs) = (v < n) × AreBelow n vs

-- they were made behind moments before this one
abbrev pub ComeBefore : ℕ → List Span → Type 0
ComeBefore m [] = Unit {0}
ComeBefore m (s ∷ ss) = (s.from < m) × ComeBefore m ss

-- it is past, if there is one
abbrev pub IsPast : ℕ → Option ℕ → Type 0
IsPast m None = Unit {0}
IsPast m (Some u) = u < m

-- a binding was made behind a moment that is past, and after all those before it; its end is past too; and its variable was free
pub record IsSpan (m : ℕ) (s : Span) (before : List Span) : Type 0 where
  pub made : s.from < m
  pub ended : IsPast m s.until
  pub after : ComeBefore s.from before
  pub free : binding_of (bindings_at s.from before) s.variable ≡ Free

abbrev pub AreSpans : ℕ → List Span → Type 0
AreSpans m [] = Unit {0}
AreSpans m (s ∷ ss) = IsSpan m s ss × AreSpans m ss

-- each binding is one; these variables are those that are bound at present, the newest first, and below the journal's number
pub record IsJournal (d : Done) (bound : List ℕ) : Type 0 where
  pub spans : AreSpans d.moments d.spans
  pub bound_are : bound ≡ variables_of (bindings_of d)
  pub below : AreBelow d.variables bound

-- more was done, and the bindings at each moment up to the present one are as they were
pub record HasDoneMore (old new : Done) : Type 0 where
  pub variables : new.variables ≡ old.variables
  pub moments : old.moments ≤ new.moments
  pub earlier : (m : ℕ) → m ≤ old.moments → bindings_at m new.spans ≡ bindings_at m old.spans

-- its parts
abbrev pub history_code : Coded History
history_code =
    code_by
    (List (ℕ ⊎ (ℤ ⊎ (ℕ × ℕ))) × (ℕ × (ℕ × List ((ℕ × ℕ) × (ℕ × Option ℕ)))))
    (coded× (coded_list (coded⊎ coded_ℕ (coded⊎ coded_ℤ (coded× coded_ℕ coded_ℕ)))) (coded× coded_ℕ (coded× coded_ℕ coded_spans)))
    (λ h. (map parts h.cells, (h.variables, (h.moments, map span_parts h.spans))))
    (λ p. record { cells = map whole p.0; variables = p.1.0; moments = p.1.1.0; spans = map span_whole p.1.1.1 })
    (λ h. rw (map-whole-parts h.cells, map-span_whole h.spans) refl)
