-- The equations of two runs.
use Rattle.std.proofs.Common.{Some, ◌≡◌, ℕ, zero, suc, ◌+◌, ◌-◌, ◌<◌, ◌≤◌, List, [], ◌∷◌, ◌++◌, length, take, drop, map, refl, sym, ◌∙◌, ap, subst, arith, append_assoc, add_comm}
use Rattle.std.proofs.Math.Seq.{take-add}
use Rattle.std.specs.List.{zip}
use Rattle.std.proofs.lemmas.List.{map-append, length-map, length-drop}
use Rattle.apd_term.specs.declared.term.NameId.{NameId}
use Rattle.apd_term.specs.declared.term.Sym.{Sym}
use Rattle.apd_term.specs.Term.{Term, arguments, apply, size, first_of, read_all, IsTerms}
use Rattle.apd_unify.specs.Textbook.{Equation}
use Rattle.apd_unify.specs.declared.unify.Pairs.{Pairs}
use Rattle.apd_cells.specs.Stored.{Stored}
use Rattle.apd_cells.specs.Store.{written, meaning, term_at, IsStore}
use Rattle.apd_cells.specs.Work.{run_of, IsRun}
use Rattle.apd_unify.specs.Unifying.{IsPairs, ArePairs, pairs_of, equations_of, IsPast, GoesOn, HasArguments, IsDecomposed}
use Rattle.apd_cells.proofs.Passing.{IsTerms-at, run_inside}
use Rattle.apd_cells.proofs.Compounds.{read_past, past_inside, Compound, compound_at}

zip_split : (f : Term → Term) (n : ℕ) (xs ys : List Term) → 0 < n → n ≤ length xs → n ≤ length ys
    → zip (map f (take n xs)) (map f (take n ys)) ≡ (f (first_of xs), f (first_of ys)) ∷ zip (map f (take (n - 1) (drop 1 xs))) (map f (take (n - 1) (drop 1 ys)))
zip_split f zero xs ys l a b = absurd (omega arith)
zip_split f (suc m) [] ys l a b = absurd (omega arith)
zip_split f (suc m) (x ∷ xs) [] l a b = absurd (omega arith)
zip_split f (suc m) (x ∷ xs) (y ∷ ys) l a b =
    let e : m ≡ suc m - 1 = omega arith in
    ap (λ j. (f x, f y) ∷ zip (map f (take j xs)) (map f (take j ys))) e

-- the equations of two runs but the first
abbrev pub rest_of : Stored → Pairs → List Equation
rest_of s p =
    zip (map (apply (meaning s.cells s.trail)) (take (p.left - 1) (drop 1 (read_all (drop p.a s.cells)))))
    (map (apply (meaning s.cells s.trail)) (take (p.left - 1) (drop 1 (read_all (drop p.b s.cells)))))

pub split_pairs : (s : Stored) (p : Pairs) → IsPairs s.cells p → 0 < p.left → pairs_of s p ≡ (term_at s p.a, term_at s p.b) ∷ rest_of s p
split_pairs s p r l = zip_split (apply (meaning s.cells s.trail)) p.left (read_all (drop p.a s.cells)) (read_all (drop p.b s.cells)) l r.left_run.enough r.right_run.enough

pub past_run : (cells : List Sym) (c n : ℕ) → IsTerms (drop c cells) → IsRun cells c n → 0 < n → IsRun cells (c + size (written cells c)) (n - 1)
past_run cells c n h r l =
    let m = run_inside cells c n r l in
    record {
      inside = past_inside cells c h m;
      enough = omega (arith, r.enough, ap length (read_past cells c h m), length-drop 1 (read_all (drop c cells)));
    }

pub is_past : (s : Stored) (p next : Pairs) → IsStore s.cells s.variables s.trail → IsPairs s.cells p → 0 < p.left
    → next ≡ record { a = p.a + size (written s.cells p.a); b = p.b + size (written s.cells p.b); left = p.left - 1 } → IsPast s p next
is_past s p next h r l is =
    let ha = IsTerms-at s.cells s.variables s.trail p.a h in
    let hb = IsTerms-at s.cells s.variables s.trail p.b h in
    let ea = read_past s.cells p.a ha (run_inside s.cells p.a p.left r.left_run l) in
    let eb = read_past s.cells p.b hb (run_inside s.cells p.b p.left r.right_run l) in
    let f = apply (meaning s.cells s.trail) in
    rw is (record {
      right = record { left_run = past_run s.cells p.a p.left ha r.left_run l; right_run = past_run s.cells p.b p.left hb r.right_run l };
      first = split_pairs s p r l
          ∙ ap (λ z. (term_at s p.a, term_at s p.b) ∷ zip (map f (take (p.left - 1) z)) (map f (take (p.left - 1) (drop 1 (read_all (drop p.b s.cells)))))) (sym ea)
          ∙ ap (λ z. (term_at s p.a, term_at s p.b) ∷ zip (map f (take (p.left - 1) (read_all (drop (p.a + size (written s.cells p.a)) s.cells)))) (map f (take (p.left - 1) z))) (sym eb);
    })

-- where one pair is left, any pairs without one are behind it
pub is_past_last : (s : Stored) (p next : Pairs) → IsPairs s.cells p → p.left ≡ 1 → next ≡ record { a = p.a; b = p.b; left = 0 } → IsPast s p next
is_past_last s p next r e is =
    let z : p.left - 1 ≡ 0 = omega arith in
    let f = apply (meaning s.cells s.trail) in
    rw is (record {
      right = record {
        left_run = record { inside = r.left_run.inside; enough = omega arith };
        right_run = record { inside = r.right_run.inside; enough = omega arith };
      };
      first = split_pairs s p r (omega arith)
          ∙ ap (λ j. (term_at s p.a, term_at s p.b) ∷ zip (map f (take j (drop 1 (read_all (drop p.a s.cells))))) (map f (take j (drop 1 (read_all (drop p.b s.cells)))))) z;
    })

zip-append : (xs ys us vs : List Term) → length xs ≡ length us → zip (xs ++ ys) (us ++ vs) ≡ zip xs us ++ zip ys vs
zip-append [] ys [] vs e = refl
zip-append [] ys (u ∷ us) vs e = absurd (omega arith)
zip-append (x ∷ xs) ys [] vs e = absurd (omega arith)
zip-append (x ∷ xs) ys (u ∷ us) vs e = ap (λ r. (x, u) ∷ r) (zip-append xs ys us vs (omega arith))

-- the arguments and then the rest of the run, where both are written there
pub run_into : (s : Stored) (c m n : ℕ) (f : NameId) → Compound s c f n
    → map (apply (meaning s.cells s.trail)) (run_of s.cells (c + 1) (m + n))
    ≡ map (apply (meaning s.cells s.trail)) (run_of s.cells (c + 1) n) ++ map (apply (meaning s.cells s.trail)) (take m (drop 1 (read_all (drop c s.cells))))
run_into s c m n f k =
    let g = apply (meaning s.cells s.trail) in
    let R = read_all (drop (c + 1) s.cells) in
    ap (map g) (ap (λ j. take j R) (add_comm m n) ∙ take-add n m R ∙ ap (λ z. take n R ++ take m (drop 1 z)) (sym k.read))
    ∙ map-append g (take n R) (take m (drop 1 (read_all (drop c s.cells))))

into_run : (s : Stored) (c m n : ℕ) (f : NameId) → Compound s c f n → IsRun s.cells c (suc m) → IsRun s.cells (c + 1) (m + n)
into_run s c m n f k r = record {
  inside = k.run.inside;
  enough = omega (arith, r.enough, ap length k.read, length-drop n (read_all (drop (c + 1) s.cells)), k.run.enough);
}

-- both compounds are written in the runs themselves
pub decomposed_here : (s : Stored) (old : List Pairs) (p next : Pairs) (n : ℕ) → IsStore s.cells s.variables s.trail → ArePairs s.cells (p ∷ old) → 0 < p.left
    → HasArguments s.cells p.a p.b n → next ≡ record { a = p.a + 1; b = p.b + 1; left = p.left - 1 + n } → IsDecomposed s old p next old p.a p.b
decomposed_here s old p next n h r l k is =
    let m = p.left - 1 in
    let j : p.left ≡ suc m = omega arith in
    let x = compound_at s p.a k.f n h (run_inside s.cells p.a p.left r.0.left_run l) k.left_symbol in
    let y = compound_at s p.b k.f n h (run_inside s.cells p.b p.left r.0.right_run l) k.right_symbol in
    let g = apply (meaning s.cells s.trail) in
    let xs = map g (run_of s.cells (p.a + 1) n) in
    let ys = map g (run_of s.cells (p.b + 1) n) in
    let xr = map g (take m (drop 1 (read_all (drop p.a s.cells)))) in
    let yr = map g (take m (drop 1 (read_all (drop p.b s.cells)))) in
    let same : length xs ≡ length ys = omega (arith, length-map (run_of s.cells (p.a + 1) n) g, length-map (run_of s.cells (p.b + 1) n) g, x.number, y.number) in
    let e : zip (map g (run_of s.cells (p.a + 1) (m + n))) (map g (run_of s.cells (p.b + 1) (m + n))) ≡ zip xs ys ++ rest_of s p =
    ap (λ z. zip z (map g (run_of s.cells (p.b + 1) (m + n)))) (run_into s p.a m n k.f x)
    ∙ ap (λ z. zip (xs ++ xr) z) (run_into s p.b m n k.f y)
    ∙ zip-append xs xr ys yr same in
    rw is (record {
      right = (
        record {
          left_run = into_run s p.a m n k.f x (subst (IsRun s.cells p.a) j r.0.left_run);
          right_run = into_run s p.b m n k.f y (subst (IsRun s.cells p.b) j r.0.right_run);
        },
        r.1,
      );
      rest = rest_of s p ++ equations_of s old;
      before = ap (λ z. z ++ equations_of s old) (split_pairs s p r.0 l);
      after = ap (λ z. z ++ equations_of s old) (e ∙ ap (λ z. zip z ys ++ rest_of s p) (sym x.inner) ∙ ap (λ z. zip (arguments (term_at s p.a)) z ++ rest_of s p) (sym y.inner))
          ∙ append_assoc (zip (arguments (term_at s p.a)) (arguments (term_at s p.b))) (rest_of s p) (equations_of s old);
    })

-- the pairs that wait after one of them: those that are left of it, where there are some
pub record Waits (s : Stored) (old new : List Pairs) (p : Pairs) : Type 0 where
  pub right : ArePairs s.cells new
  pub before : equations_of s (p ∷ old) ≡ (term_at s p.a, term_at s p.b) ∷ equations_of s new

pub waits_pushed : (s : Stored) (old new : List Pairs) (p next : Pairs) → ArePairs s.cells (p ∷ old) → IsPast s p next → new ≡ next ∷ old → Waits s old new p
waits_pushed s old new p next r k e = rw e (record { right = (k.right, r.1); before = ap (λ z. z ++ equations_of s old) k.first })

pub waits_same : (s : Stored) (old new : List Pairs) (p : Pairs) → ArePairs s.cells (p ∷ old) → 0 < p.left → p.left ≤ 1 → new ≡ old → Waits s old new p
waits_same s old new p r l m e =
    let z : p.left - 1 ≡ 0 = omega arith in
    let g = apply (meaning s.cells s.trail) in
    rw e (record {
      right = r.1;
      before = ap (λ q. q ++ equations_of s old) (split_pairs s p r.0 l
          ∙ ap (λ j. (term_at s p.a, term_at s p.b) ∷ zip (map g (take j (drop 1 (read_all (drop p.a s.cells))))) (map g (take j (drop 1 (read_all (drop p.b s.cells)))))) z);
    })

-- one of the compounds is written elsewhere
pub decomposed_there : (s : Stored) (old new : List Pairs) (p next : Pairs) (x y n : ℕ) → IsStore s.cells s.variables s.trail → x < length s.cells → y < length s.cells
    → HasArguments s.cells x y n → Waits s old new p → next ≡ record { a = x + 1; b = y + 1; left = n } → IsDecomposed s old p next new x y
decomposed_there s old new p next x y n h lx ly k w is =
    let u = compound_at s x k.f n h lx k.left_symbol in
    let v = compound_at s y k.f n h ly k.right_symbol in
    rw is (record {
      right = (record { left_run = u.run; right_run = v.run }, w.right);
      rest = equations_of s new;
      before = w.before;
      after = ap (λ z. zip z (map (apply (meaning s.cells s.trail)) (run_of s.cells (y + 1) n)) ++ equations_of s new) (sym u.inner)
          ∙ ap (λ z. zip (arguments (term_at s x)) z ++ equations_of s new) (sym v.inner);
    })

pub decomposed_equal : (s : Stored) (old : List Pairs) (p next : Pairs) (x y n : ℕ) → IsStore s.cells s.variables s.trail → ArePairs s.cells (p ∷ old) → 0 < p.left
    → HasArguments s.cells x y n → x ≡ p.a → y ≡ p.b → next ≡ record { a = x + 1; b = y + 1; left = p.left - 1 + n } → IsDecomposed s old p next old x y
decomposed_equal s old p next x y n h r l k ex ey is =
    subst (λ z. IsDecomposed s old p next old z y) (sym ex)
    (subst (λ z. IsDecomposed s old p next old p.a z) (sym ey)
    (decomposed_here s old p next n h r l
    (subst (λ z. HasArguments s.cells p.a z n) ey (subst (λ z. HasArguments s.cells z y n) ex k))
    (is ∙ rw (ex, ey) refl)))

pub pairs_none : (s : Stored) (p : Pairs) → p.left ≡ 0 → pairs_of s p ≡ []
pairs_none s p e =
    let g = apply (meaning s.cells s.trail) in
    ap (λ j. zip (map g (take j (read_all (drop p.a s.cells)))) (map g (take j (read_all (drop p.b s.cells))))) e

pub equations_none : (s : Stored) (p : Pairs) (ps : List Pairs) → p.left ≡ 0 → equations_of s (p ∷ ps) ≡ equations_of s ps
equations_none s p ps e = ap (λ z. z ++ equations_of s ps) (pairs_none s p e)

-- the waiting pairs in place of pairs that are done
pub record Replaces (here : Pairs) (old : List Pairs) (next : Pairs) (new : List Pairs) : Type 0 where
  pub same : (s : Stored) → equations_of s (here ∷ old) ≡ equations_of s (next ∷ new)
  pub right : (cells : List Sym) → ArePairs cells (here ∷ old) → ArePairs cells (next ∷ new)

pub replaces_first : (here : Pairs) (old : List Pairs) → Replaces here old here old
replaces_first here old = record { same = λ s. refl; right = λ cells r. r }

pub replaces_more : (here : Pairs) (old : List Pairs) (next : Pairs) (mid : List Pairs) (p : Pairs) (new : List Pairs) → Replaces here old next mid → next.left ≡ 0 → mid ≡ p ∷ new
    → Replaces here old p new
replaces_more here old next mid p new h e is = record {
  same = λ s. h.same s ∙ equations_none s next mid e ∙ ap (equations_of s) is;
  right = λ cells r. subst (ArePairs cells) is (h.right cells r).1;
}

pub goes_none : (here : Pairs) (old : List Pairs) (next : Pairs) (mid : List Pairs) → Replaces here old next mid → next.left ≡ 0 → mid ≡ [] → (s : Stored) → equations_of s (here ∷ old) ≡ []
goes_none here old next mid h e is s = h.same s ∙ equations_none s next mid e ∙ ap (equations_of s) is

pub goes_on : (here : Pairs) (old : List Pairs) (next : Pairs) (new : List Pairs) → Replaces here old next new → 0 < next.left → GoesOn here old (Some next) new
goes_on here old next new h l = (l, (h.same, h.right))
