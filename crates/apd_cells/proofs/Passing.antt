-- A walk passes one symbol after another.
use Rattle.std.proofs.Common.{Some, ◌≡◌, ◌≢◌, ◌⊎◌, inl, inr, ℕ, zero, suc, ◌+◌, ◌-◌, ◌<◌, ◌≤◌, List, [], ◌∷◌, ◌++◌, length, get_or, take, drop, map, refl, sym, ◌∙◌, ap, subst, arith, append_assoc, add-zero, add_comm}
use Rattle.std.proofs.Math.Seq.{take-add}
use Rattle.std.specs.List.{flat_map}
use Rattle.std.proofs.lemmas.List.{drop_more, append-nil, map-append, length-drop}
use Rattle.std.proofs.lemmas.List.Concat.{flat_map-append}
use Rattle.apd_term.specs.declared.term.NameId.{NameId}
use Rattle.apd_term.specs.declared.term.Sym.{Sym}
use Rattle.apd_term.specs.declared.term.Sym.TheVariants.{Var, Int, Fun}
use Rattle.apd_term.specs.Term.{Term, Terms, compound, none, more, list_of, terms_of, apply, apply_all, spell, first_of, read_all, arity_of, IsTerms}
use Rattle.apd_term.specs.Spelling.{image}
use Rattle.apd_term.proofs.Spelling.{length-apply_all, list_of-terms_of, spell_all-is, under_name, pass_at, length-read_all}
use Rattle.apd_cells.proofs.Written.{IsTerms-drop, reads_something}
use Rattle.apd_cells.specs.declared.heap.Binding.TheVariants.{Free}
use Rattle.apd_cells.specs.declared.heap.TrailNote.{TrailNote}
use Rattle.apd_cells.specs.Heap.{IsVariable}
use Rattle.apd_cells.specs.Stored.{Stored}
use Rattle.apd_cells.specs.Store.{meaning, term_at, binding_of, IsStore}
use Rattle.apd_cells.specs.Work.{IsRun, AreRuns, Leads, run_symbols, runs_symbols, IsWalk, walk_symbols, GoesTo, PassesOn}
use Rattle.apd_cells.specs.declared.walk.Run.{Run}
use Rattle.apd_cells.specs.declared.walk.Walk.{Walk}
use Rattle.apd_cells.proofs.Meaning.{HasCells-of, meaning-free}
use Rattle.apd_cells.proofs.Following.{written-variable}

pub list_of-apply_all : (s : ℕ → Term) (ts : Terms) → list_of (apply_all s ts) ≡ map (apply s) (list_of ts)
list_of-apply_all s none = refl
list_of-apply_all s (more t ts) = ap (λ r. apply s t ∷ r) (list_of-apply_all s ts)

-- the symbols of a compound with a substitution applied
spell-applied : (s : ℕ → Term) (f : NameId) (us : List Term) → spell (apply s (compound f (terms_of us))) ≡ Fun f (length us) ∷ flat_map spell (map (apply s) us)
spell-applied s f us =
    rw (length-apply_all s (terms_of us), spell_all-is (apply_all s (terms_of us)), list_of-apply_all s (terms_of us), list_of-terms_of us) refl

-- one symbol, and the symbols of the terms that are left then
symbols_from : (s : ℕ → Term) (x : Sym) (xs : List Sym) (m : ℕ) → IsTerms (x ∷ xs)
    → flat_map spell (map (apply s) (take (suc m) (read_all (x ∷ xs)))) ≡ image s x ++ flat_map spell (map (apply s) (take (m + arity_of x) (read_all xs)))
symbols_from s (Var v) xs m h = rw (add-zero m) refl
symbols_from s (Int i) xs m h = rw (add-zero m) refl
symbols_from s (Fun f k) xs m h =
    let us = take k (read_all xs) in
    let rest = take m (drop k (read_all xs)) in
    let n : length us ≡ k = (under_name f k xs h).0 in
    let all : take (m + k) (read_all xs) ≡ us ++ rest = ap (λ j. take j (read_all xs)) (add_comm m k) ∙ take-add k m (read_all xs) in
    ap (λ r. r ++ flat_map spell (map (apply s) rest)) (spell-applied s f us ∙ ap (λ j. Fun f j ∷ flat_map spell (map (apply s) us)) n)
    ∙ ap (λ r. Fun f k ∷ r)
    (sym (flat_map-append spell (map (apply s) us) (map (apply s) rest)) ∙ ap (flat_map spell) (sym (map-append (apply s) us rest)) ∙ ap (λ r. flat_map spell (map (apply s) r)) (sym all))

-- a store's cells are whole terms from each of them on
pub IsTerms-at : (cells : List Sym) (n : ℕ) (notes : List TrailNote) (c : ℕ) → IsStore cells n notes → IsTerms (drop c cells)
IsTerms-at cells n notes c h = IsTerms-drop c cells (HasCells-of cells n notes h).whole

-- what stands after one symbol
pub record After (s : Stored) (c n : ℕ) : Type 0 where
  pub there : c < length s.cells
  pub rest : IsRun s.cells (c + 1) (n - 1 + arity_of (get_or s.cells c (Var 0)))
  pub symbols : run_symbols s c n ≡ image (meaning s.cells s.trail) (get_or s.cells c (Var 0)) ++ run_symbols s (c + 1) (n - 1 + arity_of (get_or s.cells c (Var 0)))

pub after : (s : Stored) (c n : ℕ) → IsStore s.cells s.variables s.trail → IsRun s.cells c n → 0 < n → After s c n
after s c zero h r l = absurd (omega arith)
after s c (suc m) h r l =
    let x = get_or s.cells c (Var 0) in
    let whole = IsTerms-at s.cells s.variables s.trail c h in
    let k = pass_at s.cells c (suc m) (Var 0) whole l r.enough in
    let e : drop c s.cells ≡ x ∷ drop (c + 1) s.cells = drop_more s.cells c (Var 0) k.0 in
    let g = symbols_from (meaning s.cells s.trail) x (drop (c + 1) s.cells) m (subst IsTerms e whole) in
    let j : suc m - 1 ≡ m = omega arith in
    record {
      there = k.0;
      rest = record { inside = omega (arith, k.0); enough = k.3 };
      symbols = ap (λ y. flat_map spell (map (apply (meaning s.cells s.trail)) (take (suc m) (read_all y)))) e
          ∙ g ∙ ap (λ y. image (meaning s.cells s.trail) x ++ run_symbols s (c + 1) (y + arity_of x)) (sym j);
    }

-- a symbol that is no bound variable stands for itself
pub image-self : (s : Stored) (x : Sym) → ((v : ℕ) → x ≡ Var v → binding_of s.trail v ≡ Free) → image (meaning s.cells s.trail) x ≡ x ∷ []
image-self s (Var v) f = ap spell (meaning-free s.cells s.trail v (f v refl))
image-self s (Int i) f = refl
image-self s (Fun g n) f = refl

-- one term is written at a cell
pub run_one : (s : Stored) (c : ℕ) → c < length s.cells → run_symbols s c 1 ≡ spell (term_at s c)
run_one s c l = one (read_all (drop c s.cells)) (reads_something s.cells c l)
  where
    one : (ts : List Term) → 0 < length ts → flat_map spell (map (apply (meaning s.cells s.trail)) (take 1 ts)) ≡ spell (apply (meaning s.cells s.trail) (first_of ts))
    one [] l = absurd (omega arith)
    one (t ∷ ts) l = append-nil (spell (apply (meaning s.cells s.trail) t))

pub run_one-is : (s : Stored) (c : ℕ) → c < length s.cells → IsRun s.cells c 1
run_one-is s c l = record { inside = omega arith; enough = omega (arith, reads_something s.cells c l) }

-- the first symbol where a cell leads, and what is left there
passed_there : (s : Stored) (c at : ℕ) → IsStore s.cells s.variables s.trail → Leads s c at
    → (spell (term_at s c) ≡ get_or s.cells at (Var 0) ∷ run_symbols s (at + 1) (arity_of (get_or s.cells at (Var 0))))
    × IsRun s.cells (at + 1) (arity_of (get_or s.cells at (Var 0)))
passed_there s c at h d =
    let x = get_or s.cells at (Var 0) in
    let k = after s at 1 h (run_one-is s at d.inside) (omega arith) in
    let z : 1 - 1 + arity_of x ≡ arity_of x = omega arith in (
      ap spell (sym d.same) ∙ sym (run_one s at d.inside) ∙ k.symbols ∙ ap (λ z. z ++ run_symbols s (at + 1) (1 - 1 + arity_of x)) (image-self s x d.end)
          ∙ ap (λ j. x ∷ run_symbols s (at + 1) j) z,
      subst (IsRun s.cells (at + 1)) z k.rest,
    )

-- a run whose first cell leads elsewhere
pub elsewhere : (s : Stored) (c n : ℕ) → IsStore s.cells s.variables s.trail → IsRun s.cells c n → 0 < n → IsVariable (get_or s.cells c (Var 0))
    → (run_symbols s c n ≡ spell (term_at s c) ++ run_symbols s (c + 1) (n - 1)) × IsRun s.cells (c + 1) (n - 1)
elsewhere s c n h r l i =
    let k = after s c n h r l in
    let v = i.0 in
    let z : n - 1 + 0 ≡ n - 1 = omega arith in
    let e : run_symbols s c n ≡ image (meaning s.cells s.trail) (Var v) ++ run_symbols s (c + 1) (n - 1 + 0) =
    subst (λ x. run_symbols s c n ≡ image (meaning s.cells s.trail) x ++ run_symbols s (c + 1) (n - 1 + arity_of x)) i.1 k.symbols in
    let m : IsRun s.cells (c + 1) (n - 1 + 0) = subst (λ x. IsRun s.cells (c + 1) (n - 1 + arity_of x)) i.1 k.rest in (
      e ∙ ap (λ y. spell (meaning s.cells s.trail v) ++ run_symbols s (c + 1) y) z
          ∙ ap (λ y. spell (apply (meaning s.cells s.trail) y) ++ run_symbols s (c + 1) (n - 1)) (sym (written-variable s.cells c v k.there i.1)),
      subst (IsRun s.cells (c + 1)) z m,
    )

-- one symbol of a run that has no other run to go into
pub record PassesHere (s : Stored) (c n at : ℕ) : Type 0 where
  pub rest : IsRun s.cells (c + 1) (n - 1 + arity_of (get_or s.cells at (Var 0)))
  pub symbols : run_symbols s c n ≡ get_or s.cells at (Var 0) ∷ run_symbols s (c + 1) (n - 1 + arity_of (get_or s.cells at (Var 0)))

passes_at : (s : Stored) (c n at : ℕ) → IsStore s.cells s.variables s.trail → IsRun s.cells c n → 0 < n → Leads s c at → at ≡ c → PassesHere s c n at
passes_at s c n at h r l d e =
    let k = after s at n h (subst (λ y. IsRun s.cells y n) (sym e) r) l in
    let p : PassesHere s at n at = record {
      rest = k.rest;
      symbols = k.symbols ∙ ap (λ z. z ++ run_symbols s (at + 1) (n - 1 + arity_of (get_or s.cells at (Var 0)))) (image-self s (get_or s.cells at (Var 0)) d.end);
    } in
    subst (λ y. PassesHere s y n at) e p

pub passes_here : (s : Stored) (c n at : ℕ) → IsStore s.cells s.variables s.trail → IsRun s.cells c n → 0 < n → Leads s c at
    → (at ≡ c) ⊎ (arity_of (get_or s.cells at (Var 0)) ≡ 0) → PassesHere s c n at
passes_here s c n at h r l d (inl e) = passes_at s c n at h r l d e
passes_here s c n at h r l d (inr z) = elim d.start [
  | inl e ↦ passes_at s c n at h r l d e
  | inr i ↦
      let k = elsewhere s c n h r l i in
      let p = passed_there s c at h d in
      let x = get_or s.cells at (Var 0) in
      let m : n - 1 ≡ n - 1 + arity_of x = omega arith in
      let q : run_symbols s (at + 1) (arity_of x) ≡ [] = ap (run_symbols s (at + 1)) z in
      record {
        rest = subst (IsRun s.cells (c + 1)) m k.1;
        symbols = k.0 ∙ ap (λ y. y ++ run_symbols s (c + 1) (n - 1)) (p.0 ∙ ap (λ y. x ∷ y) q) ∙ ap (λ y. x ∷ run_symbols s (c + 1) y) m;
      }
]

-- one symbol of a run that goes into another
pub record PassesInto (s : Stored) (c n at : ℕ) : Type 0 where
  pub there : IsRun s.cells (at + 1) (arity_of (get_or s.cells at (Var 0)))
  pub rest : IsRun s.cells (c + 1) (n - 1)
  pub symbols : run_symbols s c n ≡ get_or s.cells at (Var 0) ∷ run_symbols s (at + 1) (arity_of (get_or s.cells at (Var 0))) ++ run_symbols s (c + 1) (n - 1)

pub passes_into : (s : Stored) (c n at : ℕ) → IsStore s.cells s.variables s.trail → IsRun s.cells c n → 0 < n → Leads s c at
    → at ≢ c → PassesInto s c n at
passes_into s c n at h r l d o = elim d.start [
  | inl e ↦ absurd (o e)
  | inr i ↦
      let k = elsewhere s c n h r l i in
      let p = passed_there s c at h d in
      record { there = p.1; rest = k.1; symbols = k.0 ∙ ap (λ y. y ++ run_symbols s (c + 1) (n - 1)) p.0 }
]

-- a symbol of a run that goes into no other
pub passed_here : (s : Stored) (here next : Run) (rest : List Run) (at arity : ℕ) (x : Sym) → IsStore s.cells s.variables s.trail → AreRuns s.cells (here ∷ rest)
    → 0 < here.left → Leads s here.at at → x ≡ get_or s.cells at (Var 0) → arity ≡ arity_of x → (at ≡ here.at) ⊎ (arity ≡ 0)
    → next ≡ record { at = here.at + 1; left = here.left - 1 + arity } → PassesOn s (here ∷ rest) x (next ∷ rest)
passed_here s here next rest at arity x h r l d e f o is =
    let g : arity ≡ arity_of (get_or s.cells at (Var 0)) = f ∙ ap arity_of e in
    let k = passes_here s here.at here.left at h r.0 l d (elim o [ inl y ↦ inl y | inr z ↦ inr (sym g ∙ z) ]) in
    rw (is, g, e) (record {
      right = (k.rest, r.1);
      symbols = ap (λ y. y ++ runs_symbols s rest) k.symbols;
    })

-- the runs behind the one that is left, which is left out where nothing is left of it
pub record PutBack (s : Stored) (here : Run) (old rest : List Run) : Type 0 where
  pub right : AreRuns s.cells rest
  pub symbols : run_symbols s (here.at + 1) (here.left - 1) ++ runs_symbols s old ≡ runs_symbols s rest

pub put_back : (s : Stored) (here : Run) (old rest : List Run) (run : Run) → AreRuns s.cells (here ∷ old) → IsRun s.cells (here.at + 1) (here.left - 1)
    → run ≡ record { at = here.at + 1; left = here.left - 1 } → rest ≡ run ∷ old → PutBack s here old rest
put_back s here old rest run r k i e = rw (e, i) (record { right = (k, r.1); symbols = refl })

pub nothing_back : (s : Stored) (here : Run) (old rest : List Run) → AreRuns s.cells (here ∷ old) → here.left ≤ 1 → rest ≡ old → PutBack s here old rest
nothing_back s here old rest r l e =
    let z : here.left - 1 ≡ 0 = omega arith in
    record {
      right = rw e r.1;
      symbols = ap (λ j. run_symbols s (here.at + 1) j ++ runs_symbols s old) z ∙ ap (runs_symbols s) (sym e);
    }

-- a symbol of a run that goes into another
pub passed_into : (s : Stored) (here next : Run) (old rest : List Run) (at arity : ℕ) (x : Sym) → IsStore s.cells s.variables s.trail → AreRuns s.cells (here ∷ old)
    → 0 < here.left → Leads s here.at at → x ≡ get_or s.cells at (Var 0) → arity ≡ arity_of x → at ≢ here.at
    → PutBack s here old rest → next ≡ record { at = at + 1; left = arity } → PassesOn s (here ∷ old) x (next ∷ rest)
passed_into s here next old rest at arity x h r l d e f o b is =
    let g : arity ≡ arity_of (get_or s.cells at (Var 0)) = f ∙ ap arity_of e in
    let k = passes_into s here.at here.left at h r.0 l d o in
    let y = get_or s.cells at (Var 0) in
    rw (is, g, e) (record {
      right = (k.there, b.right);
      symbols = ap (λ z. z ++ runs_symbols s old) k.symbols
          ∙ ap (λ z. y ∷ z) (append_assoc (run_symbols s (at + 1) (arity_of y)) (run_symbols s (here.at + 1) (here.left - 1)) (runs_symbols s old))
          ∙ ap (λ z. y ∷ run_symbols s (at + 1) (arity_of y) ++ z) b.symbols;
    })

-- the waiting runs in place of runs that are done
pub record Replaces (here : Run) (old : List Run) (next : Run) (new : List Run) : Type 0 where
  pub same : (s : Stored) → runs_symbols s (here ∷ old) ≡ runs_symbols s (next ∷ new)
  pub right : (cells : List Sym) → AreRuns cells (here ∷ old) → AreRuns cells (next ∷ new)

pub replaces_first : (here : Run) (old : List Run) → Replaces here old here old
replaces_first here old = record { same = λ s. refl; right = λ cells r. r }

runs_none : (s : Stored) (r : Run) (rs : List Run) → r.left ≡ 0 → runs_symbols s (r ∷ rs) ≡ runs_symbols s rs
runs_none s r rs e = ap (λ j. run_symbols s r.at j ++ runs_symbols s rs) e

pub replaces_more : (here : Run) (old : List Run) (next : Run) (mid : List Run) (r : Run) (new : List Run) → Replaces here old next mid → next.left ≡ 0 → mid ≡ r ∷ new
    → Replaces here old r new
replaces_more here old next mid r new h e is = record {
  same = λ s. h.same s ∙ runs_none s next mid e ∙ ap (runs_symbols s) is;
  right = λ cells a. subst (AreRuns cells) is (h.right cells a).1;
}

pub goes_none : (here : Run) (old : List Run) (next : Run) (mid : List Run) → Replaces here old next mid → next.left ≡ 0 → mid ≡ [] → (s : Stored) → runs_symbols s (here ∷ old) ≡ []
goes_none here old next mid h e is s = h.same s ∙ runs_none s next mid e ∙ ap (runs_symbols s) is

pub goes_on : (here : Run) (old : List Run) (next : Run) (new : List Run) → Replaces here old next new → 0 < next.left → GoesTo here old (Some next) new
goes_on here old next new h l = (l, (h.same, h.right))

-- the first symbol behind those that are done
pub goes_and_passes : (s : Stored) (here : Run) (old : List Run) (next : Run) (mid : List Run) (x : Sym) (new : List Run) → GoesTo here old (Some next) mid → PassesOn s (next ∷ mid) x new
    → runs_symbols s (here ∷ old) ≡ x ∷ runs_symbols s new
goes_and_passes s here old next mid x new g p = g.1.0 s ∙ p.symbols

-- what is left of a run fits the machine
pub left_fits : (cells : List Sym) (c n : ℕ) → IsRun cells c n → n ≤ length cells
left_fits cells c n r = omega (arith, r.enough, length-read_all (drop c cells), length-drop c cells)

pub run_inside : (cells : List Sym) (c n : ℕ) → IsRun cells c n → 0 < n → c < length cells
run_inside cells c n r l = omega (arith, r.enough, length-read_all (drop c cells), length-drop c cells)

-- a walk that begins at a cell
pub record Started (s : Stored) (c : ℕ) (w : Walk) : Type 0 where
  pub right : IsWalk s.cells w
  pub symbols : walk_symbols s w ≡ spell (term_at s c)

pub started : (s : Stored) (c : ℕ) (rest : List Run) (w : Walk) → c < length s.cells → rest ≡ [] → w ≡ record { at = c; left = 1; rest = rest } → Started s c w
started s c rest w l e is = rw (is, e) (record {
  right = record { here = run_one-is s c l; rest = tt };
  symbols = append-nil (run_symbols s c 1) ∙ run_one s c l;
})
