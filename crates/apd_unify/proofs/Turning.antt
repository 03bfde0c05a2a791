-- The turns of the loop that makes a goal and a head equal.
use Rattle.std.proofs.Common.{◌≡◌, ℕ, zero, suc, ◌+◌, ◌<◌, ◌≤◌, true, false, Some, None, List, [], ◌∷◌, ◌++◌, length, get_or, take, drop, map, refl, sym, ◌∙◌, ap, subst, arith, append_assoc}
use Rattle.std.specs.List.{flat_map, zip}
use Rattle.std.proofs.lemmas.List.{append-nil, drop_all, drop_more, length-append}
use Rattle.apd_term.specs.declared.term.Sym.{Sym}
use Rattle.apd_term.specs.declared.term.Sym.TheVariants.{Var}
use Rattle.apd_term.specs.Term.{Term, apply, spell, size, arity_of, first_of, read_all, IsTerms}
use Rattle.apd_term.specs.Spelling.{read_all-spell}
use Rattle.apd_term.specs.Substitution.{term_for, followed_by}
use Rattle.apd_term.proofs.Applying.{apply-followed_by, apply-same, apply-variable}
use Rattle.apd_unify.specs.Heads.{HasGoneOn, IsMade, IsMatched, IsPastFirst, Matches, MeetsSymbol}
use Rattle.apd_unify.specs.Textbook.{Equation, apply_equations}
use Rattle.apd_unify.proofs.Matched.{fits_back, gone_trans}
use Rattle.apd_unify.proofs.Matching.{IsMatching, first_matching, last_matching, composed, apply-composed, matched_round, matching_symbol, equations_between, zip_applied, zip_nothing}
use Rattle.apd_unify.proofs.Onward.{runs_read, runs_terms, runs_whole, runs_more, runs_applied}
use Rattle.apd_unify.proofs.Rounds.{UnifiesAll}
use Rattle.apd_cells.specs.Slots.{AreSlots, value_in, Numbering, Fits}
use Rattle.apd_cells.specs.Stored.{Stored}
use Rattle.apd_cells.specs.Store.{meaning, term_at, IsSound}
use Rattle.apd_cells.specs.Work.{run_of, IsRun, AreRuns, Leads, run_symbols, runs_symbols, GoesTo, PassesOn}
use Rattle.apd_cells.specs.declared.slots.Slot.{Slot}
use Rattle.apd_cells.specs.declared.walk.Run.{Run}
use Rattle.apd_cells.proofs.Bindings.{Keeps-self}
use Rattle.apd_cells.proofs.Compounds.{read_past}
use Rattle.apd_cells.proofs.Ending.{spell_end}
use Rattle.apd_cells.proofs.Meaning.{HasCells-of}
use Rattle.apd_cells.proofs.Passing.{run_one, run_one-is}
use Rattle.apd_cells.proofs.Written.{IsTerms-drop, reads_something}

-- the equations that are left
abbrev pub equations_left : Numbering → Stored → List Slot → List Run → List Sym → List Equation
equations_left g s slots runs rest = equations_between (value_in s g.of slots) (runs_symbols s runs) rest

-- what was found so far
pub record SoFar (g : Numbering) (old s : Stored) (slots : List Slot) (goal : ℕ) (head : Term) (runs : List Run) (rest : List Sym) : Type 0 where
  pub found : List (ℕ × Term)
  pub matching : IsMatching (term_at old goal) (apply (value_in old g.of []) head) (equations_left g s slots runs rest) found
  pub made : IsMade g old s [] slots found

-- what holds while symbols of the head are left, from this place on
pub record Matching (old s : Stored) (slots : List Slot) (goal : ℕ) (head : Term) (runs : List Run) (symbols : List Sym) (place : ℕ) : Type 0 where
  pub gone : HasGoneOn old s [] slots
  pub right : AreRuns s.cells runs
  pub so_far : (g : Numbering) → Fits g s slots → SoFar g old s slots goal head runs (drop place symbols)

-- no slot is set at first
none_set : (s : Stored) → AreSlots s.cells s.variables []
none_set s = record { owner = λ n. 0; each = λ v. tt }

pub matching_none : (s : Stored) (slots : List Slot) (goal : ℕ) (head : Term) (run : Run) (runs : List Run) (symbols : List Sym) → goal < length s.cells → slots ≡ [] → runs ≡ []
    → run ≡ record { at = goal; left = 1 } → symbols ≡ spell head → Matching s s slots goal head (run ∷ runs) symbols 0
matching_none s slots goal head run runs symbols l e q is w =
    let here : Run = record { at = goal; left = 1 } in
    let goal_read : read_all (runs_symbols s (here ∷ [])) ≡ term_at s goal ∷ [] =
    ap read_all (append-nil (run_symbols s goal 1) ∙ run_one s goal l ∙ sym (append-nil (spell (term_at s goal)))) ∙ read_all-spell (term_at s goal) [] in
    let head_read : read_all (spell head) ≡ head ∷ [] = ap read_all (sym (append-nil (spell head))) ∙ read_all-spell head [] in
    rw (e, q, is, w) (record {
      gone = record {
        more = [];
        cells = sym (append-nil s.cells);
        variables = omega arith;
        slots = none_set s;
        later = λ v. tt;
        keeps = Keeps-self s;
      };
      right = (run_one-is s goal l, tt);
      so_far = λ g f. record {
        found = [];
        matching = subst (λ es. IsMatching (term_at s goal) (apply (value_in s g.of []) head) es [])
            (sym (ap (λ xs. zip xs (map (apply (value_in s g.of [])) (read_all (spell head)))) goal_read ∙ ap (λ xs. zip (term_at s goal ∷ []) (map (apply (value_in s g.of [])) xs)) head_read))
            (first_matching (term_at s goal) (apply (value_in s g.of []) head));
        made = record { means = λ v m. sym (apply-variable (meaning s.cells s.trail v)); values = λ v. refl };
      };
    })

-- at the end a most general unifier was applied
ended : (g : Numbering) (old s : Stored) (slots : List Slot) (goal : ℕ) (head : Term) (runs : List Run) (rest : List Sym) → SoFar g old s slots goal head runs rest
    → equations_left g s slots runs rest ≡ [] → IsMatched g old s [] slots goal head
ended g old s slots goal head runs rest h e = record {
  pairs = h.found;
  unifier = last_matching (term_at old goal) (apply (value_in old g.of []) head) h.found (subst (λ es. IsMatching (term_at old goal) (apply (value_in old g.of []) head) es h.found) e h.matching);
  made = h.made;
}

pub matching_last : (old s : Stored) (slots : List Slot) (goal : ℕ) (head : Term) (runs : List Run) (symbols : List Sym) (place : ℕ) → Matching old s slots goal head runs symbols place → length symbols ≤ place
    → Matches true old s [] slots goal head
matching_last old s slots goal head runs symbols place h l = λ g f.
    ended g old s slots goal head runs (drop place symbols) (h.so_far g f)
    (ap (λ xs. equations_left g s slots runs xs) (drop_all place symbols l) ∙ zip_nothing (read_all (runs_symbols s runs)) [] refl)

pub matching_over : (old s : Stored) (slots : List Slot) (goal : ℕ) (head : Term) (here : Run) (runs rest : List Run) (symbols : List Sym) (place : ℕ) → Matching old s slots goal head (here ∷ runs) symbols place
    → GoesTo here runs None rest → Matches true old s [] slots goal head
matching_over old s slots goal head here runs rest symbols place h k = λ g f.
    ended g old s slots goal head (here ∷ runs) (drop place symbols) (h.so_far g f)
    (ap (λ xs. equations_between (value_in s g.of slots) xs (drop place symbols)) (k.1 s))

-- runs in place of others that say the same
pub matching_on : (old s : Stored) (slots : List Slot) (goal : ℕ) (head : Term) (here next : Run) (runs rest : List Run) (symbols : List Sym) (place : ℕ) → Matching old s slots goal head (here ∷ runs) symbols place
    → GoesTo here runs (Some next) rest → Matching old s slots goal head (next ∷ rest) symbols place
matching_on old s slots goal head here next runs rest symbols place h k = record {
  gone = h.gone;
  right = k.1.1 s.cells h.right;
  so_far = λ g f. (let p = h.so_far g f in record {
    found = p.found;
    matching = subst (λ xs. IsMatching (term_at old goal) (apply (value_in old g.of []) head) (equations_between (value_in s g.of slots) xs (drop place symbols)) p.found) (k.1.0 s) p.matching;
    made = p.made;
  });
}

-- the first equation, and the others
first_read : (s : Stored) (here next : Run) (rest : List Run) → IsPastFirst s here next → read_all (runs_symbols s (here ∷ rest)) ≡ term_at s here.at ∷ read_all (runs_symbols s (next ∷ rest))
first_read s here next rest p =
    ap (λ z. read_all (z ++ runs_symbols s rest)) p.symbols
    ∙ ap read_all (append_assoc (spell (term_at s here.at)) (run_symbols s next.at next.left) (runs_symbols s rest))
    ∙ read_all-spell (term_at s here.at) (runs_symbols s (next ∷ rest))

first_of_rest : (symbols : List Sym) (place : ℕ) → 0 < length (read_all (drop place symbols)) → read_all (drop place symbols) ≡ first_of (read_all (drop place symbols)) ∷ drop 1 (read_all (drop place symbols))
first_of_rest symbols place l = by (read_all (drop place symbols)) l
  where
    by : (ts : List Term) → 0 < length ts → ts ≡ first_of ts ∷ drop 1 ts
    by [] l = absurd (omega arith)
    by (t ∷ ts) l = refl

-- a term is read at a place of the head, and what follows behind it
pub record ReadsAt (symbols : List Sym) (place end : ℕ) (t : Term) : Type 0 where
  pub is : read_all (drop place symbols) ≡ t ∷ read_all (drop end symbols)

pub reads_at : (symbols : List Sym) (place end : ℕ) → IsTerms symbols → place < length symbols → end ≡ place + size (first_of (read_all (drop place symbols)))
    → ReadsAt symbols place end (first_of (read_all (drop place symbols)))
reads_at symbols place end h l e =
    let terms = IsTerms-drop place symbols h in
    record {
      is = first_of_rest symbols place (reads_something symbols place l)
          ∙ ap (λ xs. first_of (read_all (drop place symbols)) ∷ xs) (sym (read_past symbols place terms l))
          ∙ ap (λ k. first_of (read_all (drop place symbols)) ∷ read_all (drop k symbols)) (sym e);
    }

tail_of : (e f : Equation) (es fs : List Equation) → e ∷ es ≡ f ∷ fs → es ≡ fs
tail_of e f es fs h = cc

run_first : (n : ℕ) (xs : List Term) → 0 < n → n ≤ length xs → take n xs ≡ first_of xs ∷ drop 1 (take n xs)
run_first zero xs l m = absurd (omega arith)
run_first (suc n) [] l m = absurd (omega arith)
run_first (suc n) (x ∷ xs) l m = refl

-- the goal's terms that are left behind the first
abbrev pub others_left : Stored → Run → List Run → List Term
others_left s here rest = map (apply (meaning s.cells s.trail)) (drop 1 (run_of s.cells here.at here.left) ++ runs_terms s.cells rest)

some_first : (s : Stored) (here : Run) (rest : List Run) → IsRun s.cells here.at here.left → 0 < here.left → read_all (runs_symbols s (here ∷ rest)) ≡ term_at s here.at ∷ others_left s here rest
some_first s here rest r l =
    runs_read s (here ∷ rest)
    ∙ ap (λ xs. map (apply (meaning s.cells s.trail)) (xs ++ runs_terms s.cells rest)) (run_first here.left (read_all (drop here.at s.cells)) l r.enough)

values_applied : (v v' : ℕ → Term) (qs : List (ℕ × Term)) → ((w : ℕ) → v' w ≡ apply (term_for qs) (v w)) → (ts : List Term) → map (apply v') ts ≡ map (apply (term_for qs)) (map (apply v) ts)
values_applied v v' qs h [] = refl
values_applied v v' qs h (t ∷ ts) =
    ap (λ x. x ∷ map (apply v') ts) (apply-same v' (followed_by v (term_for qs)) h t ∙ sym (apply-followed_by v (term_for qs) t))
    ∙ ap (λ xs. apply (term_for qs) (apply v t) ∷ xs) (values_applied v v' qs h ts)

module _ (old s s' : Stored) (slots slots' : List Slot) (goal : ℕ) (head : Term) (here : Run) (rest : List Run) (symbols : List Sym) (place end : ℕ) (t : Term)
    (store : IsSound s) (h : Matching old s slots goal head (here ∷ rest) symbols place) (l : 0 < here.left) (k : HasGoneOn s s' slots slots') (r : ReadsAt symbols place end t) where
  -- the first equation, and the others
  split_left : (g : Numbering) → equations_left g s slots (here ∷ rest) (drop place symbols)
      ≡ (term_at s here.at, apply (value_in s g.of slots) t) ∷ zip (others_left s here rest) (map (apply (value_in s g.of slots)) (read_all (drop end symbols)))
  split_left g =
      ap (λ xs. zip xs (map (apply (value_in s g.of slots)) (read_all (drop place symbols)))) (some_first s here rest h.right.0 l)
      ∙ ap (λ xs. zip (term_at s here.at ∷ others_left s here rest) (map (apply (value_in s g.of slots)) xs)) r.is

  -- they have no unifier, and so the goal and the head have none
  pub matching_clash : Matches false s s' slots slots' here.at t → Matches false old s' [] slots' goal head
  matching_clash m = λ g f.
      let q = h.so_far g (fits_back g s s' slots slots' h.gone.slots k f) in
      λ u e. m g f u (subst (UnifiesAll u) (split_left g) (q.matching.unifies u e)).0

  module _ (next : Run) (p : IsPastFirst s' here next) where
    -- what pairs that were applied make of all equations
    applied_left : (g : Numbering) (qs : List (ℕ × Term)) → IsMade g s s' slots slots' qs
        → equations_left g s' slots' (here ∷ rest) (drop place symbols) ≡ apply_equations (term_for qs) (equations_left g s slots (here ∷ rest) (drop place symbols))
    applied_left g qs m =
        let v = value_in s g.of slots in
        let v' = value_in s' g.of slots' in
        let R = read_all (drop place symbols) in
        ap (λ xs. zip xs (map (apply v') R)) (runs_applied s s' k.more qs (here ∷ rest) store k.cells m.means h.right)
        ∙ ap (zip (map (apply (term_for qs)) (read_all (runs_symbols s (here ∷ rest))))) (values_applied v v' qs m.values R)
        ∙ zip_applied (term_for qs) (read_all (runs_symbols s (here ∷ rest))) (map (apply v) R)

    left_then : (g : Numbering) (qs : List (ℕ × Term)) → IsMade g s s' slots slots' qs → equations_left g s' slots' (next ∷ rest) (drop end symbols)
        ≡ apply_equations (term_for qs) (zip (others_left s here rest) (map (apply (value_in s g.of slots)) (read_all (drop end symbols))))
    left_then g qs m =
        let v' = value_in s' g.of slots' in
        tail_of (term_at s' here.at, apply v' t) (apply (term_for qs) (term_at s here.at), apply (term_for qs) (apply (value_in s g.of slots) t))
        (equations_left g s' slots' (next ∷ rest) (drop end symbols))
        (apply_equations (term_for qs) (zip (others_left s here rest) (map (apply (value_in s g.of slots)) (read_all (drop end symbols)))))
        (sym (ap (λ xs. zip xs (map (apply v') (read_all (drop place symbols)))) (first_read s' here next rest p)
        ∙ ap (λ xs. zip (term_at s' here.at ∷ read_all (runs_symbols s' (next ∷ rest))) (map (apply v') xs)) r.is)
        ∙ applied_left g qs m ∙ ap (apply_equations (term_for qs)) (split_left g))

    pub matching_whole : Matches true s s' slots slots' here.at t → Matching old s' slots' goal head (next ∷ rest) symbols end
    matching_whole w = record {
      gone = gone_trans old s s' [] slots slots' h.gone k;
      right = (p.right, subst (λ cells. AreRuns cells rest) (sym k.cells) (runs_more s.cells k.more rest (HasCells-of s.cells s.variables s.trail store).whole h.right.1));
      so_far = λ g f. (let q = h.so_far g (fits_back g s s' slots slots' h.gone.slots k f) in let m = w g f in record {
        found = composed q.found m.pairs;
        matching = subst (λ es. IsMatching (term_at old goal) (apply (value_in old g.of []) head) es (composed q.found m.pairs)) (sym (left_then g m.pairs m.made))
            (matched_round (term_at old goal) (apply (value_in old g.of []) head) (term_at s here.at, apply (value_in s g.of slots) t)
            (zip (others_left s here rest) (map (apply (value_in s g.of slots)) (read_all (drop end symbols)))) q.found m.pairs
            (subst (λ es. IsMatching (term_at old goal) (apply (value_in old g.of []) head) es q.found) (split_left g) q.matching) m.unifier);
        made = record {
          means = λ v j. m.made.means v (omega (arith, j, h.gone.variables)) ∙ ap (apply (term_for m.pairs)) (q.made.means v j) ∙ apply-composed q.found m.pairs (meaning old.cells old.trail v);
          values = λ v. m.made.values v ∙ ap (apply (term_for m.pairs)) (q.made.values v) ∙ apply-composed q.found m.pairs (value_in old g.of [] v);
        };
      });
    }

-- both begin with one symbol
module _ (old s : Stored) (slots : List Slot) (goal : ℕ) (head : Term) (here next : Run) (rest runs : List Run) (symbols : List Sym) (place to : ℕ) (x : Sym)
    (store : IsSound s) (h : Matching old s slots goal head (here ∷ rest) symbols place) (l : 0 < here.left) (terms : IsTerms symbols) (i : place < length symbols)
    (d : Leads s here.at to) (e : get_or s.cells to (Var 0) ≡ get_or symbols place (Var 0)) (n : (v : ℕ) → ¬ (get_or symbols place (Var 0) ≡ Var v))
    (p : PassesOn s (here ∷ rest) x (next ∷ runs)) where
  symbol_is : x ≡ get_or symbols place (Var 0)
  symbol_is =
      let spelled : runs_symbols s (here ∷ rest) ≡ spell (term_at s here.at) ++ flat_map spell (others_left s here rest) =
      sym (runs_whole s (here ∷ rest)) ∙ ap (flat_map spell) (some_first s here rest h.right.0 l) in
      let begin : spell (term_at s here.at) ≡ get_or s.cells to (Var 0) ∷ run_symbols s (to + 1) (arity_of (get_or s.cells to (Var 0))) =
      ap spell (sym d.same) ∙ spell_end s to store d.inside d.end in
      let k : x ∷ runs_symbols s (next ∷ runs) ≡ get_or s.cells to (Var 0) ∷ run_symbols s (to + 1) (arity_of (get_or s.cells to (Var 0))) ++ flat_map spell (others_left s here rest) =
      sym p.symbols ∙ spelled ∙ ap (λ z. z ++ flat_map spell (others_left s here rest)) begin in
      let q : x ≡ get_or s.cells to (Var 0) = cc in q ∙ e

  rest_is : drop place symbols ≡ x ∷ drop (place + 1) symbols
  rest_is = drop_more symbols place (Var 0) i ∙ ap (λ y. y ∷ drop (place + 1) symbols) (sym symbol_is)

  pub matching_under : Matching old s slots goal head (next ∷ runs) symbols (place + 1)
  matching_under = record {
    gone = h.gone;
    right = p.right;
    so_far = λ g f. (let q = h.so_far g f in record {
      found = q.found;
      matching = matching_symbol (term_at old goal) (apply (value_in old g.of []) head) (value_in s g.of slots) x (runs_symbols s (next ∷ runs)) (drop (place + 1) symbols) q.found
          (subst IsTerms p.symbols (runs_whole s (here ∷ rest)))
          (subst IsTerms rest_is (IsTerms-drop place symbols terms))
          (λ v w. n v (sym symbol_is ∙ w))
          (subst (λ xs. IsMatching (term_at old goal) (apply (value_in old g.of []) head) (equations_between (value_in s g.of slots) (x ∷ runs_symbols s (next ∷ runs)) xs) q.found) rest_is
          (subst (λ xs. IsMatching (term_at old goal) (apply (value_in old g.of []) head) (equations_between (value_in s g.of slots) xs (drop place symbols)) q.found) p.symbols q.matching));
      made = q.made;
    });
  }

-- the same where nothing was done
pub matching_met : (old s s' : Stored) (slots slots' : List Slot) (goal : ℕ) (head : Term) (here next : Run) (rest runs : List Run) (symbols : List Sym) (place to : ℕ) (x : Sym)
    → IsSound s → Matching old s slots goal head (here ∷ rest) symbols place → 0 < here.left → IsTerms symbols → place < length symbols → MeetsSymbol s s' slots slots' here.at symbols place to
    → PassesOn s' (here ∷ rest) x (next ∷ runs) → Matching old s' slots' goal head (next ∷ runs) symbols (place + 1)
matching_met old s s' slots slots' goal head here next rest runs symbols place to x store h l terms i q p =
    subst (λ z. Matching old z slots' goal head (next ∷ runs) symbols (place + 1)) (sym q.same)
    (subst (λ z. Matching old s z goal head (next ∷ runs) symbols (place + 1)) (sym q.slots)
    (matching_under old s slots goal head here next rest runs symbols place to x store h l terms i q.leads q.symbol q.fixed (subst (λ z. PassesOn z (here ∷ rest) x (next ∷ runs)) q.same p)))

pub runs_then : (s s' : Stored) (slots slots' : List Slot) (runs : List Run) → IsSound s → HasGoneOn s s' slots slots' → AreRuns s.cells runs → AreRuns s'.cells runs
runs_then s s' slots slots' runs store k r =
    subst (λ cells. AreRuns cells runs) (sym k.cells) (runs_more s.cells k.more runs (HasCells-of s.cells s.variables s.trail store).whole r)

pub more_cells : (s s' : Stored) (slots slots' : List Slot) → HasGoneOn s s' slots slots' → length s.cells ≤ length s'.cells
more_cells s s' slots slots' k = omega (arith, ap length k.cells, length-append s.cells k.more)
