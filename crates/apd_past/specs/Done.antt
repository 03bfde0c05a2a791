-- What was done to variables: each binding, with the moments at which it was there.
use Rattle.std.specs.Prelude.{◌≡◌, ℕ, ◌+◌, ◌==◌, ltb, leb, Bool, true, Option, Some, None, List, [], ◌∷◌, map, max, if◌then◌else◌, refl}
use Rattle.std.specs.Coded.{Coded, code_by, coded_list, coded_option, coded×, coded_ℕ}
use Rattle.std.proofs.Common.{ap}
use Rattle.apd_cells.specs.Store.{above}

-- a variable was bound to a cell behind a moment, and freed behind a later one, unless it is bound still
pub record Span : Type 0 where
  pub variable : ℕ
  pub cell : ℕ
  pub from : ℕ
  pub until : Option ℕ

-- a journal: a number above all variables, how often one was bound or freed, and the bindings, the newest first
pub record Done : Type 0 where
  pub variables : ℕ
  pub moments : ℕ
  pub spans : List Span

-- the moment isn't behind that of the end
abbrev pub is_within : ℕ → Option ℕ → Bool
is_within m None = true
is_within m (Some u) = leb m u

-- the cell that a binding still leads to at a moment; none where it has ended
abbrev pub cell_at : ℕ → Span → Option ℕ
cell_at m s = if is_within m s.until then Some s.cell else None

-- what a variable is bound to at a moment: what its newest binding says of those that were made before
abbrev pub to_of : ℕ → List Span → ℕ → Option ℕ
to_of m [] v = None
to_of m (s ∷ ss) v = if s.variable == v then (if ltb s.from m then cell_at m s else to_of m ss v) else to_of m ss v

-- one more binding
abbrev pub with_span : Done → ℕ → ℕ → Done
with_span d v c = record {
  variables = d.variables;
  moments = d.moments + 1;
  spans = record { variable = v; cell = c; from = d.moments; until = None } ∷ d.spans;
}

-- a binding ends behind this moment
abbrev pub with_end : ℕ → Span → Span
with_end m s = record { variable = s.variable; cell = s.cell; from = s.from; until = Some m }

-- the newest binding of the variable ends
abbrev pub ended_on : ℕ → ℕ → List Span → List Span
ended_on m v [] = []
ended_on m v (s ∷ ss) = if s.variable == v then with_end m s ∷ ss else s ∷ ended_on m v ss

-- the variable is freed
abbrev pub with_freed : Done → ℕ → Done
with_freed d v = record { variables = d.variables; moments = d.moments + 1; spans = ended_on d.moments v d.spans }

-- the variables of these numbers are there, and all that are below them
abbrev pub with_variables : Done → List ℕ → Done
with_variables d vs = record { variables = above d.variables vs; moments = d.moments; spans = d.spans }

-- this variable is there, and all that are below it
abbrev pub with_variable : Done → ℕ → Done
with_variable d v = record { variables = max d.variables (v + 1); moments = d.moments; spans = d.spans }

-- at least so many variables are there
abbrev pub with_room : Done → ℕ → Done
with_room d n = record { variables = max d.variables n; moments = d.moments; spans = d.spans }

-- a binding as its parts
abbrev pub span_parts : Span → (ℕ × ℕ) × (ℕ × Option ℕ)
span_parts s = ((s.variable, s.cell), (s.from, s.until))

abbrev pub span_whole : (ℕ × ℕ) × (ℕ × Option ℕ) → Span
span_whole p = record { variable = p.0.0; cell = p.0.1; from = p.1.0; until = p.1.1 }

pub map-span_whole : (ss : List Span) → map span_whole (map span_parts ss) ≡ ss
map-span_whole [] = refl
map-span_whole (s ∷ ss) = ap (λ r. s ∷ r) (map-span_whole ss)

abbrev pub coded_spans : Coded (List ((ℕ × ℕ) × (ℕ × Option ℕ)))
coded_spans = coded_list (coded× (coded× coded_ℕ coded_ℕ) (coded× coded_ℕ (coded_option coded_ℕ)))

-- the three of them
abbrev pub done_code : Coded Done
done_code =
    code_by
    (ℕ × (ℕ × List ((ℕ × ℕ) × (ℕ × Option ℕ))))
    (coded× coded_ℕ (coded× coded_ℕ coded_spans))
    (λ d. (d.variables, (d.moments, map span_parts d.spans)))
    (λ p. record { variables = p.0; moments = p.1.0; spans = map span_whole p.1.1 })
    (λ d. rw (map-span_whole d.spans) refl)
