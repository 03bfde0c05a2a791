-- Goals of a clause that were loaded at once, one behind the other.
use Rattle.std.proofs.Common.{◌≡◌, ℕ, ◌+◌, ◌<◌, ◌≤◌, List, [], ◌∷◌, ◌++◌, length, get_or, map, take, drop, refl, sym, ◌∙◌, ap, subst, arith, append_assoc}
use Rattle.std.specs.List.{flat_map}
use Rattle.std.proofs.lemmas.List.{drop_at, length-append, take_all, take-append-drop, take_more}
use Rattle.std.proofs.lemmas.List.Concat.{flat_map-append}
use Rattle.apd_term.specs.declared.term.Sym.{Sym}
use Rattle.apd_term.specs.declared.term.Sym.TheVariants.{Var, Int, Fun}
use Rattle.apd_term.specs.Spelling.{read_all-spell, variable_in}
use Rattle.apd_term.specs.Term.{Term, apply, first_of, read_all, size, spell, variables, IsAmong}
use Rattle.apd_term.proofs.Among.{IsAmong-left, IsAmong-right}
use Rattle.apd_term.proofs.Applying.{apply-same}
use Rattle.apd_term.proofs.Spelling.{length-spell, size_positive}
use Rattle.apd_cells.specs.Slots.{slot_at, cell_of, AreSlots, HasLoadedAll, IsSet, Numbering, put_for, put_terms, single_term, value_in}
use Rattle.apd_cells.specs.Store.{above, meaning, term_at, written, IsSound, Keeps}
use Rattle.apd_cells.specs.Stored.{Stored}
use Rattle.apd_cells.specs.declared.slots.Slot.{Slot}
use Rattle.apd_cells.proofs.Flat.{size-applied}
use Rattle.apd_cells.proofs.Keeping.{meaning-behind, others-behind, Keeps-behind}
use Rattle.apd_cells.proofs.Loading.{above-ge}
use Rattle.apd_unify.specs.Cells.{AreCells}
use Rattle.apd_unify.specs.Heads.{HasBody}
use Rattle.apd_unify.specs.declared.store.Cell.{Cell}
use Rattle.apd_unify.proofs.Matched.{applied_put, gone_newer, gone_self, values_newer}

abbrev at_cell : ℕ → Cell
at_cell n = record { 0 = n }

-- where terms begin that stand one behind the other from a cell on
abbrev pub cells_from : ℕ → List Term → List Cell
cells_from n [] = []
cells_from n (t ∷ ts) = at_cell n ∷ cells_from (n + size t) ts

-- how many symbols they have together
abbrev pub size_of : List Term → ℕ
size_of ts = length (flat_map spell ts)

size_more : (t : Term) (ts : List Term) → size_of (t ∷ ts) ≡ size t + size_of ts
size_more t ts = omega (arith, length-append (spell t) (flat_map spell ts), length-spell t)

cells_last : (n : ℕ) (us : List Term) (t : Term) → cells_from n (us ++ t ∷ []) ≡ cells_from n us ++ at_cell (n + size_of us) ∷ []
cells_last n [] t = (let e : n ≡ n + 0 = omega arith in ap (λ k. at_cell k ∷ []) e)
cells_last n (u ∷ us) t =
    let e : n + size u + size_of us ≡ n + size_of (u ∷ us) = omega (arith, size_more u us) in
    ap (λ cs. at_cell n ∷ cs) (cells_last (n + size u) us t ∙ ap (λ k. cells_from (n + size u) us ++ at_cell k ∷ []) e)

size_last : (us : List Term) (t : Term) → size_of (us ++ t ∷ []) ≡ size_of us + size t
size_last us t = omega (arith, ap length (flat_map-append spell us (t ∷ [])), length-append (flat_map spell us) (flat_map spell (t ∷ [])), size_more t [])

-- the cells of so many of the terms, and where the next one begins
pub record ArePlaced (n at : ℕ) (ts : List Term) (i : ℕ) (cs : List Cell) : Type 0 where
  pub cells : cs ≡ cells_from n (take i ts)
  pub next : at ≡ n + size_of (take i ts)

pub placed_none : (n at : ℕ) (ts : List Term) (cs : List Cell) → at ≡ n → cs ≡ [] → ArePlaced n at ts 0 cs
placed_none n at ts cs e c = record { cells = c; next = omega (arith, e) }

one_more : (ts : List Term) (i : ℕ) (t : Term) → i < length ts → t ≡ get_or ts i t → take (i + 1) ts ≡ take i ts ++ t ∷ []
one_more ts i t l is = take_more ts i t l ∙ ap (λ u. take i ts ++ u ∷ []) (sym is)

pub placed_more : (n at next : ℕ) (ts : List Term) (i : ℕ) (t : Term) (symbols : List Sym) (cs out : List Cell) → ArePlaced n at ts i cs → i < length ts → t ≡ get_or ts i t → symbols ≡ spell t
    → next ≡ at + length symbols → out ≡ cs ++ at_cell at ∷ [] → ArePlaced n next ts (i + 1) out
placed_more n at next ts i t symbols cs out h l is s e o =
    let last = one_more ts i t l is in
    record {
      cells = o ∙ ap (λ z. z ++ at_cell at ∷ []) h.cells ∙ ap (λ k. cells_from n (take i ts) ++ at_cell k ∷ []) h.next
          ∙ sym (ap (cells_from n) last ∙ cells_last n (take i ts) t);
      next = omega (arith, e, h.next, ap length s, length-spell t, ap size_of last, size_last (take i ts) t);
    }

-- the next one ends where all end, or before
pub placed_within : (n at : ℕ) (ts : List Term) (i : ℕ) (t : Term) (symbols : List Sym) (cs : List Cell) → ArePlaced n at ts i cs → i < length ts → t ≡ get_or ts i t → symbols ≡ spell t
    → at + length symbols ≤ n + size_of ts
placed_within n at ts i t symbols cs h l is s =
    let all : size_of ts ≡ size_of (take (i + 1) ts) + size_of (drop (i + 1) ts) =
    ap size_of (sym (take-append-drop (i + 1) ts)) ∙ ap length (flat_map-append spell (take (i + 1) ts) (drop (i + 1) ts))
    ∙ length-append (flat_map spell (take (i + 1) ts)) (flat_map spell (drop (i + 1) ts)) in
    omega (arith, h.next, all, ap length s, length-spell t, ap size_of (one_more ts i t l is), size_last (take i ts) t)

-- terms that are written behind others are read there
written_from : (front : List Sym) (us : List Term) → map (λ (c : Cell). written (front ++ flat_map spell us) c.0) (cells_from (length front) us) ≡ us
written_from front [] = refl
written_from front (u ∷ us) =
    let rest = flat_map spell us in
    let first : written (front ++ flat_map spell (u ∷ us)) (length front) ≡ u =
    ap (λ y. first_of (read_all y)) (drop_at front (spell u ++ rest) (length front) refl) ∙ ap first_of (read_all-spell u rest) in
    let n : length front + size u ≡ length (front ++ spell u) = omega (arith, length-append front (spell u), length-spell u) in
    ap (λ x. x ∷ map (λ (c : Cell). written (front ++ flat_map spell (u ∷ us)) c.0) (cells_from (length front + size u) us)) first
    ∙ ap (λ xs. u ∷ xs)
    (ap (λ z. map (λ (c : Cell). written z c.0) (cells_from (length front + size u) us)) (sym (append_assoc front (spell u) rest))
    ∙ ap (λ k. map (λ (c : Cell). written ((front ++ spell u) ++ rest) c.0) (cells_from k us)) n
    ∙ written_from (front ++ spell u) us)

single_one : (x : Sym) → size (single_term x) ≡ 1
single_one (Var v) = refl
single_one (Int i) = refl
single_one (Fun f n) = refl

abbrev put_of : List Sym → List Slot → List Term → List Term
put_of cells slots ts = map (apply (put_for cells slots)) ts

-- what is put for them begins at the same cells
put_size : (cells : List Sym) (slots : List Slot) (t : Term) → size (apply (put_for cells slots) t) ≡ size t
put_size cells slots t = size-applied (put_for cells slots) (λ v. single_one (get_or cells (cell_of (slot_at slots v)) (Var 0))) t

put_cells : (cells : List Sym) (slots : List Slot) (n : ℕ) (ts : List Term) → cells_from n (put_of cells slots ts) ≡ cells_from n ts
put_cells cells slots n [] = refl
put_cells cells slots n (t ∷ ts) =
    ap (λ k. at_cell n ∷ cells_from (n + k) (put_of cells slots ts)) (put_size cells slots t)
    ∙ ap (λ cs. at_cell n ∷ cs) (put_cells cells slots (n + size t) ts)

put_length : (cells : List Sym) (slots : List Slot) (ts : List Term) → length (put_terms cells slots ts) ≡ size_of ts
put_length cells slots [] = refl
put_length cells slots (t ∷ ts) =
    omega (arith, size_more (apply (put_for cells slots) t) (put_of cells slots ts), put_size cells slots t, put_length cells slots ts, size_more t ts)

cells_inside : (n m : ℕ) (ts : List Term) → n + size_of ts ≤ m → AreCells m (cells_from n ts)
cells_inside n m [] l = tt
cells_inside n m (t ∷ ts) l = (
  omega (arith, l, size_more t ts, size_positive t),
  cells_inside (n + size t) m ts (omega (arith, l, size_more t ts)),
)

terms_applied : (s : Stored) (cs : List Cell) → map (λ (c : Cell). term_at s c.0) cs ≡ map (apply (meaning s.cells s.trail)) (map (λ (c : Cell). written s.cells c.0) cs)
terms_applied s [] = refl
terms_applied s (c ∷ cs) = ap (λ xs. term_at s c.0 ∷ xs) (terms_applied s cs)

pub each_same : (v w : ℕ → Term) (ts : List Term) → ((x : ℕ) → v x ≡ w x) → map (apply v) ts ≡ map (apply w) ts
each_same v w [] h = refl
each_same v w (t ∷ ts) h = ap (λ x. x ∷ map (apply v) ts) (apply-same v w h t) ∙ ap (λ xs. apply w t ∷ xs) (each_same v w ts h)

-- a clause without goals
pub body_none : (s : Stored) (slots : List Slot) (ts : List Term) (cs : List Cell) → AreSlots s.cells s.variables slots → ts ≡ [] → cs ≡ [] → HasBody s s slots slots ts cs
body_none s slots ts cs h e c = rw (e, c) (record {
  gone = gone_self s slots h;
  values = λ g f v. refl;
  others = λ d l. refl;
  made = λ g f. refl;
  inside = tt;
})

-- the goals of a clause
module _ (s s' : Stored) (old new : List Slot) (ts : List Term) (store : IsSound s) (slots : AreSlots s.cells s.variables old) (h : HasLoadedAll s s' old new ts) where
  means : (v : ℕ) → meaning s'.cells s'.trail v ≡ meaning s.cells s.trail v
  means v = ap (λ (z : Stored). meaning z.cells z.trail v) h.is ∙ meaning-behind s (put_terms s'.cells new ts) (above s.variables (flat_map variable_in (put_terms s'.cells new ts))) v

  others : (c : ℕ) → c < length s.cells → term_at s' c ≡ term_at s c
  others c l = ap (λ (z : Stored). term_at z c) h.is ∙ others-behind s (put_terms s'.cells new ts) (above s.variables (flat_map variable_in (put_terms s'.cells new ts))) c store l

  cells_are : s'.cells ≡ s.cells ++ put_terms s'.cells new ts
  cells_are = ap (λ (z : Stored). z.cells) h.is

  pub length_then : length s'.cells ≡ length s.cells + size_of ts
  length_then = ap length cells_are ∙ length-append s.cells (put_terms s'.cells new ts) ∙ ap (λ k. length s.cells + k) (put_length s'.cells new ts)

  pub keeps_then : Keeps s s'
  keeps_then = subst (Keeps s) (sym h.is) (Keeps-behind s (put_terms s'.cells new ts) (above s.variables (flat_map variable_in (put_terms s'.cells new ts))))

  made_each : (g : Numbering) (xs : List Term) → ((v : ℕ) → IsAmong (flat_map variables xs) v → IsSet (slot_at new v))
      → map (apply (meaning s.cells s.trail)) (map (apply (put_for s'.cells new)) xs) ≡ map (apply (value_in s' g.of new)) xs
  made_each g [] set = refl
  made_each g (x ∷ xs) set =
      ap (λ y. y ∷ map (apply (meaning s.cells s.trail)) (map (apply (put_for s'.cells new)) xs))
      (applied_put s s' old new store slots h.slots h.newer means others g x (λ v o. set v (IsAmong-left (variables x) (flat_map variables xs) v o)))
      ∙ ap (λ ys. apply (value_in s' g.of new) x ∷ ys) (made_each g xs (λ v o. set v (IsAmong-right (variables x) (flat_map variables xs) v o)))

  made_at : (g : Numbering) → map (λ (c : Cell). term_at s' c.0) (cells_from (length s.cells) ts) ≡ map (apply (value_in s' g.of new)) ts
  made_at g =
      ap (map (λ (c : Cell). term_at s' c.0)) (sym (put_cells s'.cells new (length s.cells) ts))
      ∙ terms_applied s' (cells_from (length s.cells) (put_of s'.cells new ts))
      ∙ ap (map (apply (meaning s'.cells s'.trail)))
      (ap (λ z. map (λ (c : Cell). written z c.0) (cells_from (length s.cells) (put_of s'.cells new ts))) cells_are ∙ written_from s.cells (put_of s'.cells new ts))
      ∙ each_same (meaning s'.cells s'.trail) (meaning s.cells s.trail) (put_of s'.cells new ts) means
      ∙ made_each g ts h.set

  pub body_loaded : (at i : ℕ) (cs : List Cell) → ArePlaced (length s.cells) at ts i cs → length ts ≤ i → HasBody s s' old new ts cs
  body_loaded at i cs p l =
      let is : cs ≡ cells_from (length s.cells) ts = p.cells ∙ ap (cells_from (length s.cells)) (take_all i ts l) in
      let there : s'.variables ≡ above s.variables (flat_map variable_in (put_terms s'.cells new ts)) = ap (λ (z : Stored). z.variables) h.is in
      record {
        gone = gone_newer s s' old new store slots h.slots h.newer means others (put_terms s'.cells new ts) cells_are
            (omega (arith, there, above-ge s.variables (flat_map variable_in (put_terms s'.cells new ts)))) keeps_then;
        values = values_newer s s' old new store slots h.slots h.newer means others;
        others = others;
        made = λ g f. ap (map (λ (c : Cell). term_at s' c.0)) is ∙ made_at g;
        inside = subst (AreCells (length s'.cells)) (sym is) (cells_inside (length s.cells) (length s'.cells) ts (omega (arith, length_then)));
      }
