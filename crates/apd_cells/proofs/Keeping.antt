-- What loading keeps, and how marks nest.
use Rattle.std.proofs.Common.{◌≡◌, ℕ, zero, suc, ◌+◌, ◌-◌, ◌<◌, ◌≤◌, List, [], ◌∷◌, ◌++◌, length, take, refl, sym, ◌∙◌, ap, arith}
use Rattle.std.proofs.lemmas.List.{length-drop, take_at, drop_at}
use Rattle.apd_term.specs.declared.term.Sym.{Sym}
use Rattle.apd_term.specs.Term.{Term, apply, spell, first_of, read_all}
use Rattle.apd_term.specs.Canonical.{shifted}
use Rattle.apd_term.specs.Spelling.{term_of-spell}
use Rattle.apd_cells.specs.declared.heap.TrailNote.{TrailNote}
use Rattle.apd_cells.specs.declared.heap.TrailNote.TheVariants.{Loaded, Bound}
use Rattle.apd_cells.specs.Stored.{Stored}
use Rattle.apd_cells.specs.Store.{written, meaning, term_at, IsStore, before_notes, at_mark, Keeps, loaded, with_symbols}
use Rattle.apd_cells.proofs.Written.{written-append}
use Rattle.apd_cells.proofs.Meaning.{HasCells-of}
use Rattle.apd_cells.proofs.Undoing.{before_more, before_none, before_trail}
use Rattle.apd_cells.proofs.Bindings.{Keeps-self}

-- the meaning of variables stays
pub meaning-behind : (s : Stored) (xs : List Sym) (n v : ℕ) → meaning (with_symbols s xs n).cells (with_symbols s xs n).trail v ≡ meaning s.cells s.trail v
meaning-behind s xs n v = ap (λ cells. meaning cells s.trail v) (take_at s.cells xs (length s.cells) refl)

pub meaning-loaded : (s : Stored) (t : Term) (base v : ℕ) → meaning (loaded s t base).cells (loaded s t base).trail v ≡ meaning s.cells s.trail v
meaning-loaded s t base v = meaning-behind s (spell (shifted base t)) (loaded s t base).variables v

pub term_at-loaded : (s : Stored) (t : Term) (base : ℕ) → term_at (loaded s t base) (length s.cells) ≡ apply (meaning s.cells s.trail) (shifted base t)
term_at-loaded s t base =
    let u = shifted base t in
    ap (λ cells. apply (meaning cells s.trail) (written (s.cells ++ spell u) (length s.cells))) (take_at s.cells (spell u) (length s.cells) refl)
    ∙ ap (apply (meaning s.cells s.trail)) (ap (λ y. first_of (read_all y)) (drop_at s.cells (spell u) (length s.cells) refl) ∙ term_of-spell u)

-- so do the terms at other cells
pub others-behind : (s : Stored) (xs : List Sym) (n c : ℕ) → IsStore s.cells s.variables s.trail → c < length s.cells → term_at (with_symbols s xs n) c ≡ term_at s c
others-behind s xs n c h l =
    ap (λ cells. apply (meaning cells s.trail) (written (s.cells ++ xs) c)) (take_at s.cells xs (length s.cells) refl)
    ∙ ap (apply (meaning s.cells s.trail)) (written-append s.cells xs c (HasCells-of s.cells s.variables s.trail h).whole l)

pub term_at-others : (s : Stored) (t : Term) (base c : ℕ) → IsStore s.cells s.variables s.trail → c < length s.cells → term_at (loaded s t base) c ≡ term_at s c
term_at-others s t base c h l = others-behind s (spell (shifted base t)) (loaded s t base).variables c h l

pub Keeps-behind : (s : Stored) (xs : List Sym) (n : ℕ) → Keeps s (with_symbols s xs n)
Keeps-behind s xs n =
    let note = Loaded (length s.cells) s.variables in
    let j = length (note ∷ s.trail) - length s.trail in
    let e : j ≡ 1 = omega arith in (
      omega arith,
      ap (before_notes (s.cells ++ xs) n (note ∷ s.trail)) e
          ∙ ap (λ cells. before_notes cells s.variables s.trail 0) (take_at s.cells xs (length s.cells) refl)
          ∙ before_none s.cells s.variables s.trail,
    )

pub Keeps-loaded : (s : Stored) (t : Term) (base : ℕ) → Keeps s (loaded s t base)
Keeps-loaded s t base = Keeps-behind s (spell (shifted base t)) (loaded s t base).variables

-- what loading keeps, where it succeeds and where it changes nothing
pub record HasKept (s new : Stored) : Type 0 where
  pub others : (c : ℕ) → c < length s.cells → term_at new c ≡ term_at s c
  pub kept : Keeps s new

pub kept_loaded : (s new : Stored) (t : Term) (base : ℕ) → IsStore s.cells s.variables s.trail → new ≡ loaded s t base → HasKept s new
kept_loaded s new t base h e = rw e (record { others = λ c l. term_at-others s t base c h l; kept = Keeps-loaded s t base })

pub kept_same : (s new : Stored) → new ≡ s → HasKept s new
kept_same s new e = rw e (record { others = λ c l. refl; kept = Keeps-self s })

-- going back in two steps
pub before_twice : (cells : List Sym) (n : ℕ) (notes : List TrailNote) (j k : ℕ)
    → (let s = before_notes cells n notes j in before_notes s.cells s.variables s.trail k) ≡ before_notes cells n notes (j + k)
before_twice cells n [] j k = refl
before_twice cells n (Loaded c m ∷ notes) zero k = ap (before_notes cells n (Loaded c m ∷ notes)) (omega arith)
before_twice cells n (Loaded c m ∷ notes) (suc j) k =
    let f : suc j + k ≡ suc (j + k) = omega arith in
    ap (λ (s : Stored). before_notes s.cells s.variables s.trail k) (before_more cells n (Loaded c m) notes j)
    ∙ before_twice (take c cells) m notes j k
    ∙ sym (ap (before_notes cells n (Loaded c m ∷ notes)) f ∙ before_more cells n (Loaded c m) notes (j + k))
before_twice cells n (Bound v c ∷ notes) zero k = ap (before_notes cells n (Bound v c ∷ notes)) (omega arith)
before_twice cells n (Bound v c ∷ notes) (suc j) k =
    let f : suc j + k ≡ suc (j + k) = omega arith in
    ap (λ (s : Stored). before_notes s.cells s.variables s.trail k) (before_more cells n (Bound v c) notes j)
    ∙ before_twice cells n notes j k
    ∙ sym (ap (before_notes cells n (Bound v c ∷ notes)) f ∙ before_more cells n (Bound v c) notes (j + k))

pub length-before : (cells : List Sym) (n : ℕ) (notes : List TrailNote) (j : ℕ) → length (before_notes cells n notes j).trail ≡ length notes - j
length-before cells n notes j = ap length (before_trail cells n notes j) ∙ length-drop j notes

pub at_mark-at_mark : (i j : ℕ) (s : Stored) → i ≤ j → j ≤ length s.trail → at_mark i (at_mark j s) ≡ at_mark i s
at_mark-at_mark i j s l m =
    let back = length s.trail - j in
    let e : length (at_mark j s).trail - i ≡ j - i = omega (arith, length-before s.cells s.variables s.trail back) in
    let f : back + (j - i) ≡ length s.trail - i = omega arith in
    ap (before_notes (at_mark j s).cells (at_mark j s).variables (at_mark j s).trail) e
    ∙ before_twice s.cells s.variables s.trail back (j - i)
    ∙ ap (before_notes s.cells s.variables s.trail) f

pub Keeps-trans : (a b c : Stored) → Keeps a b → Keeps b c → Keeps a c
Keeps-trans a b c h k = (
  omega (arith, h.0, k.0),
  sym (at_mark-at_mark (length a.trail) (length b.trail) c h.0 k.0) ∙ ap (at_mark (length a.trail)) k.1 ∙ h.1,
)

pub made_loaded : (s new : Stored) (t : Term) (base c : ℕ) → new ≡ loaded s t base → c ≡ length s.cells → term_at new c ≡ apply (meaning s.cells s.trail) (shifted base t)
made_loaded s new t base c e is = rw (e, is) (term_at-loaded s t base)
