-- One term of a head after another is made equal with one of a goal.
use Rattle.std.proofs.Common.{◌≡◌, inl, inr, ℕ, zero, suc, ◌+◌, ◌-◌, ◌<◌, ◌≤◌, List, [], ◌∷◌, ◌++◌, length, take, drop, map, refl, sym, ◌∙◌, ap, subst, arith}
use Rattle.std.specs.List.{flat_map}
use Rattle.std.proofs.lemmas.List.{drop-append-le, length-append, map-append, take-append-le}
use Rattle.std.proofs.lemmas.List.Concat.{flat_map-append}
use Rattle.apd_term.specs.declared.term.Sym.{Sym}
use Rattle.apd_term.specs.Term.{Term, apply, spell, size, variables, first_of, read_all, IsAmong, IsTerms}
use Rattle.apd_term.specs.Spelling.{variable_in}
use Rattle.apd_term.specs.Substitution.{term_for, followed_by}
use Rattle.apd_term.proofs.Among.{IsAmong-left, IsAmong-right, IsAmong-append}
use Rattle.apd_term.proofs.Applying.{apply-followed_by}
use Rattle.apd_term.proofs.Variants.{apply-agree}
use Rattle.apd_term.proofs.Spelling.{read_all-flat_map_all, IsTerms-flat_map, flat_map-variables}
use Rattle.apd_unify.specs.Heads.{IsPastFirst}
use Rattle.apd_unify.proofs.Pairing.{past_run}
use Rattle.apd_cells.specs.Stored.{Stored}
use Rattle.apd_cells.specs.Store.{written, meaning, term_at, HasCells, IsSound}
use Rattle.apd_cells.specs.Work.{run_of, IsRun, AreRuns, run_symbols, runs_symbols}
use Rattle.apd_cells.specs.declared.walk.Run.{Run}
use Rattle.apd_cells.proofs.Compounds.{read_past}
use Rattle.apd_cells.proofs.Meaning.{HasCells-of}
use Rattle.apd_cells.proofs.Passing.{IsTerms-at, run_inside}
use Rattle.apd_cells.proofs.Written.{IsTerms-drop, read_all-append}

-- the first term of a run
front : (f : Term → Term) (n : ℕ) (xs : List Term) → 0 < n → n ≤ length xs
    → flat_map spell (map f (take n xs)) ≡ spell (f (first_of xs)) ++ flat_map spell (map f (take (n - 1) (drop 1 xs)))
front f zero xs l m = absurd (omega arith)
front f (suc n) [] l m = absurd (omega arith)
front f (suc n) (x ∷ xs) l m = (let e : n ≡ suc n - 1 = omega arith in ap (λ j. spell (f x) ++ flat_map spell (map f (take j xs))) e)

pub is_past_first : (s : Stored) (here next : Run) → IsSound s → IsRun s.cells here.at here.left → 0 < here.left
    → next ≡ record { at = here.at + size (written s.cells here.at); left = here.left - 1 } → IsPastFirst s here next
is_past_first s here next h r l is =
    let terms = IsTerms-at s.cells s.variables s.trail here.at h in
    let g = apply (meaning s.cells s.trail) in
    rw is (record {
      right = past_run s.cells here.at here.left terms r l;
      symbols = front g here.left (read_all (drop here.at s.cells)) l r.enough
          ∙ ap (λ xs. spell (term_at s here.at) ++ flat_map spell (map g (take (here.left - 1) xs)))
          (sym (read_past s.cells here.at terms (run_inside s.cells here.at here.left r l)));
    })

pub is_past_last : (s : Stored) (here next : Run) → IsRun s.cells here.at here.left → here.left ≡ 1 → next ≡ record { at = here.at; left = 0 } → IsPastFirst s here next
is_past_last s here next r e is =
    let g = apply (meaning s.cells s.trail) in
    let z : here.left - 1 ≡ 0 = omega arith in
    rw is (record {
      right = record { inside = r.inside; enough = omega arith };
      symbols = front g here.left (read_all (drop here.at s.cells)) (omega arith) r.enough
          ∙ ap (λ j. spell (term_at s here.at) ++ flat_map spell (map g (take j (drop 1 (read_all (drop here.at s.cells)))))) z;
    })

-- the terms of runs as they are written
abbrev pub runs_terms : List Sym → List Run → List Term
runs_terms cells [] = []
runs_terms cells (r ∷ rs) = run_of cells r.at r.left ++ runs_terms cells rs

runs_spelled : (s : Stored) (rs : List Run) → runs_symbols s rs ≡ flat_map spell (map (apply (meaning s.cells s.trail)) (runs_terms s.cells rs))
runs_spelled s [] = refl
runs_spelled s (r ∷ rs) =
    let g = apply (meaning s.cells s.trail) in
    ap (λ z. run_symbols s r.at r.left ++ z) (runs_spelled s rs)
    ∙ sym (flat_map-append spell (map g (run_of s.cells r.at r.left)) (map g (runs_terms s.cells rs)))
    ∙ ap (flat_map spell) (sym (map-append g (run_of s.cells r.at r.left) (runs_terms s.cells rs)))

pub runs_read : (s : Stored) (rs : List Run) → read_all (runs_symbols s rs) ≡ map (apply (meaning s.cells s.trail)) (runs_terms s.cells rs)
runs_read s rs = ap read_all (runs_spelled s rs) ∙ read_all-flat_map_all (map (apply (meaning s.cells s.trail)) (runs_terms s.cells rs))

pub runs_whole : (s : Stored) (rs : List Run) → IsTerms (runs_symbols s rs)
runs_whole s rs = subst IsTerms (sym (runs_spelled s rs)) (IsTerms-flat_map (map (apply (meaning s.cells s.trail)) (runs_terms s.cells rs)))

-- runs with more cells behind them
read_more : (cells more : List Sym) (c : ℕ) → IsTerms cells → c ≤ length cells → read_all (drop c (cells ++ more)) ≡ read_all (drop c cells) ++ read_all more
read_more cells more c h l = ap read_all (drop-append-le c cells more l) ∙ read_all-append (drop c cells) more (IsTerms-drop c cells h)

run_more : (cells more : List Sym) (c n : ℕ) → IsTerms cells → IsRun cells c n → IsRun (cells ++ more) c n
run_more cells more c n h r = record {
  inside = omega (arith, r.inside, length-append cells more);
  enough = omega (arith, r.enough, ap length (read_more cells more c h r.inside), length-append (read_all (drop c cells)) (read_all more));
}

pub runs_more : (cells more : List Sym) (rs : List Run) → IsTerms cells → AreRuns cells rs → AreRuns (cells ++ more) rs
runs_more cells more [] h r = tt
runs_more cells more (x ∷ rs) h r = (run_more cells more x.at x.left h r.0, runs_more cells more rs h r.1)

terms_more : (cells more : List Sym) (rs : List Run) → IsTerms cells → AreRuns cells rs → runs_terms (cells ++ more) rs ≡ runs_terms cells rs
terms_more cells more [] h r = refl
terms_more cells more (x ∷ rs) h r =
    ap (λ z. take x.left z ++ runs_terms (cells ++ more) rs) (read_more cells more x.at h r.0.inside)
    ∙ ap (λ z. z ++ runs_terms (cells ++ more) rs) (take-append-le x.left (read_all (drop x.at cells)) (read_all more) r.0.enough)
    ∙ ap (λ z. run_of cells x.at x.left ++ z) (terms_more cells more rs h r.1)

-- the variables of terms that are written in cells
among_taken : (n : ℕ) (ts : List Term) (w : ℕ) → IsAmong (flat_map variables (take n ts)) w → IsAmong (flat_map variables ts) w
among_taken zero ts w m = absurd m
among_taken (suc n) [] w m = absurd m
among_taken (suc n) (t ∷ ts) w m = elim (IsAmong-append (variables t) (flat_map variables (take n ts)) w m) [
  | inl i ↦ IsAmong-left (variables t) (flat_map variables ts) w i
  | inr j ↦ IsAmong-right (variables t) (flat_map variables ts) w (among_taken n ts w j)
]

among_dropped : (n : ℕ) (xs : List Sym) (w : ℕ) → IsAmong (flat_map variable_in (drop n xs)) w → IsAmong (flat_map variable_in xs) w
among_dropped zero xs w m = m
among_dropped (suc n) [] w m = absurd m
among_dropped (suc n) (x ∷ xs) w m = IsAmong-right (variable_in x) (flat_map variable_in xs) w (among_dropped n xs w m)

spelled_variables : (ts : List Term) → flat_map variable_in (flat_map spell ts) ≡ flat_map variables ts
spelled_variables [] = refl
spelled_variables (t ∷ ts) =
    flat_map-append variable_in (spell t) (flat_map spell ts) ∙ ap (λ z. z ++ flat_map variable_in (flat_map spell ts)) (flat_map-variables t)
    ∙ ap (λ z. variables t ++ z) (spelled_variables ts)

run_below : (cells : List Sym) (n c k w : ℕ) → HasCells cells n → IsAmong (flat_map variables (run_of cells c k)) w → w < n
run_below cells n c k w h m =
    let d = drop c cells in
    let i : IsAmong (flat_map variables (read_all d)) w = among_taken k (read_all d) w m in
    let j : IsAmong (flat_map variable_in d) w =
    subst (λ xs. IsAmong (flat_map variable_in xs) w) (IsTerms-drop c cells h.whole) (subst (λ r. IsAmong r w) (sym (spelled_variables (read_all d))) i) in
    h.below w (among_dropped c cells w j)

runs_below : (cells : List Sym) (n : ℕ) (rs : List Run) (w : ℕ) → HasCells cells n → IsAmong (flat_map variables (runs_terms cells rs)) w → w < n
runs_below cells n [] w h m = absurd m
runs_below cells n (r ∷ rs) w h m =
    elim (IsAmong-append (flat_map variables (run_of cells r.at r.left)) (flat_map variables (runs_terms cells rs)) w
    (subst (λ z. IsAmong z w) (flat_map-append variables (run_of cells r.at r.left) (runs_terms cells rs)) m)) [
      | inl i ↦ run_below cells n r.at r.left w h i
      | inr j ↦ runs_below cells n rs w h j
    ]

map_agree : (f : Term → Term) (s r : ℕ → Term) (ts : List Term) → ((t : Term) → f t ≡ apply r t) → ((w : ℕ) → IsAmong (flat_map variables ts) w → s w ≡ r w) → map (apply s) ts ≡ map f ts
map_agree f s r [] e h = refl
map_agree f s r (t ∷ ts) e h =
    ap (λ x. x ∷ map (apply s) ts) (apply-agree s r t (λ w o. h w (IsAmong-left (variables t) (flat_map variables ts) w o)) ∙ sym (e t))
    ∙ ap (λ xs. f t ∷ xs) (map_agree f s r ts e (λ w o. h w (IsAmong-right (variables t) (flat_map variables ts) w o)))

map_twice : (f g : Term → Term) (ts : List Term) → map (λ t. f (g t)) ts ≡ map f (map g ts)
map_twice f g [] = refl
map_twice f g (t ∷ ts) = ap (λ xs. f (g t) ∷ xs) (map_twice f g ts)

-- the terms of runs after pairs were applied to what variables mean
pub runs_applied : (s s' : Stored) (more : List Sym) (qs : List (ℕ × Term)) (rs : List Run) → IsSound s → s'.cells ≡ s.cells ++ more
    → ((v : ℕ) → v < s.variables → meaning s'.cells s'.trail v ≡ apply (term_for qs) (meaning s.cells s.trail v)) → AreRuns s.cells rs
    → read_all (runs_symbols s' rs) ≡ map (apply (term_for qs)) (read_all (runs_symbols s rs))
runs_applied s s' more qs rs h e m r =
    let cells = HasCells-of s.cells s.variables s.trail h in
    let g = meaning s.cells s.trail in
    let g' = meaning s'.cells s'.trail in
    let p = term_for qs in
    let ts = runs_terms s.cells rs in
    runs_read s' rs
    ∙ ap (map (apply g')) (ap (λ xs. runs_terms xs rs) e ∙ terms_more s.cells more rs cells.whole r)
    ∙ map_agree (λ t. apply p (apply g t)) g' (followed_by g p) ts (λ t. apply-followed_by g p t) (λ w o. m w (runs_below s.cells s.variables rs w cells o))
    ∙ map_twice (apply p) (apply g) ts
    ∙ ap (map (apply p)) (sym (runs_read s rs))
