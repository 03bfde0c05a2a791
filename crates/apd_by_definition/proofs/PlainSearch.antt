-- The plain search makes what its definition says.
use Rattle.std.proofs.Common.{◌≡◌, ℕ, suc, ◌+◌, ◌-◌, ◌<◌, ◌≤◌, List, [], ◌∷◌, ◌++◌, drop, refl, ap, sym, ◌∙◌, subst, arith, append_assoc, Option, Some, None, false}
use Rattle.std.specs.Prelude.{slice_get}
use Rattle.apd_term.specs.Tuple.{variables_of_tuple}
use Rattle.apd_term.specs.declared.tuple.Tuple.{Tuple}
use Rattle.apd_term.proofs.Among.{IsAmong-right}
use Rattle.apd_clauses.specs.Clauses.{IsRunnable, clauses_for}
use Rattle.apd_ports.specs.declared.event.Port.TheVariants.{Exit, Redo, Fail}
use Rattle.apd_trace.specs.Frames.{entering, apart, entered, outer, look_of, next_goal, variables_of_frames, point_at, left}
use Rattle.apd_trace.specs.BuiltIn.{Solution, solution}
use Rattle.apd_trace.specs.Renaming.{AreAlike, AreRenamed, IsBelow}
use Rattle.apd_trace.specs.Trace.{Out, Next, nothing, emit, and_then, at_port, again, closing, over, point_of, begun, tried, tries, hand, succeeded, settled, turn, search_from, up_to_error}
use Rattle.apd_trace.specs.declared.frame.Frame.{Frame}
use Rattle.apd_trace.specs.declared.frame.Called.{Called}
use Rattle.apd_trace.specs.declared.frame.Look.{Look}
use Rattle.apd_trace.specs.declared.item.Item.{Item}
use Rattle.apd_trace.specs.declared.item.Item.TheVariants.{Made}
use Rattle.apd_ports.specs.declared.point.Point.{Point}
use Rattle.apd_ports.specs.declared.point.Step.{Step}
use Rattle.apd_trace.proofs.Renamed.{renamed_self}
use Rattle.apd_trace.proofs.Searched.{search_same, tried_same, settled_same}
use Rattle.apd_frames.specs.Kept.{exit_in, is_large_of, newest_of, point_in}
use Rattle.apd_by_definition.specs.Searched.{Advances, IsFull, Makes, around, pointed, traced}
use Rattle.apd_engine.specs.Search.{AllWait, IsOpen}
use Rattle.apd_by_definition.specs.declared.engine.search.Advance.{Advance}
use Rattle.apd_by_definition.specs.declared.engine.search.Advance.TheVariants.{Full, Ends, Goes}
use Rattle.apd_by_definition.specs.declared.engine.searched.Searched.{Searched}
use Rattle.apd_engine.proofs.Numbered.{cut}
use Rattle.apd_engine.proofs.Steps.{opened, few_apart}

pub makes_as : (o : Option Searched) (x y : Out) → x ≡ y → Makes o y → Makes o x
makes_as o x y is h = subst (Makes o) (sym is) h

pub makes_full : (o : Option Searched) (x : Out) → Makes o x → o ≡ None → IsFull x
makes_full o x h is = subst (λ y. Makes y x) is h

-- an item before a search, and one after it
pub emitted : (o : Option Searched) (i j : Item) (rest : Option Searched) (whole : Out) → ((w : Out) → Makes rest w → Makes o (emit i w)) → i ≡ j → Makes rest whole → Makes o (emit j whole)
emitted o i j rest whole h is made = subst (λ x. Makes o (emit x whole)) is (h whole made)

pub followed : (o : Option Searched) (i j : Item) (first : Option Searched) (whole : Out)
    → ((w : Out) → Makes first w → Makes o (and_then w (λ n m. emit i (nothing n m)))) → i ≡ j → Makes first whole → Makes o (and_then whole (λ n m. emit j (nothing n m)))
followed o i j first whole h is made = subst (λ x. Makes o (and_then whole (λ n m. emit x (nothing n m)))) is (h whole made)

-- a search that may go some ports deep does what the innermost frame does next
pub makes_turn : (P : List Tuple) (d : ℕ) (F : List Frame) (n m : ℕ) (look l : Look) (o : Option Searched) → 0 < d → look ≡ look_of F (n + 1) → look ≡ l
    → Makes o (turn (search_from P (d - 1)) P l F n m) → Makes o (search_from P d F n m)
makes_turn P d F n m look l o some looks is h =
    let deep : d ≡ suc (d - 1) = omega arith in
    makes_as o (search_from P d F n m) (turn (search_from P (d - 1)) P l F n m)
    (ap (λ k. search_from P k F n m) deep ∙ ap (λ x. turn (search_from P (d - 1)) P x F n m) (sym looks ∙ is)) h

pub turn_as : (P : List Tuple) (k : ℕ) (F : List Frame) (n m : ℕ) (look l : Look) → look ≡ l → turn (search_from P k) P look F n m ≡ turn (search_from P k) P l F n m
turn_as P k F n m look l is = ap (λ x. turn (search_from P k) P x F n m) is

-- the frames around the innermost one
pub outer_below : (q : ℕ) (F G : List Frame) → G ≡ outer F → IsBelow q F → IsBelow q G
outer_below q [] G is below = rw is below
outer_below q (f ∷ F) G is below = rw is (λ v o. below v (IsAmong-right (variables_of_tuple f.tuple) (variables_of_frames F) v o))

-- a built-in goal that succeeds
pub succeeded_around : (next : Next) (g : Called) (F : List Frame) (n m b e : ℕ) → newest_of F ≡ Some (b, e) → is_large_of F ≡ false
    → succeeded next g F n m ≡ around F g (hand next (outer F) e n (m + 1))
succeeded_around next g [] n m b e is large = cc
succeeded_around next g (f ∷ F) n m b e is large =
    let both : (f.box_no, f.point) ≡ (b, e) = cc in
    let same : f.point ≡ e = ap (λ (x : ℕ × ℕ). x.1) both in
    rw (large, same) refl

-- an item and another one after a search
pub over_twice : (o : Out) (l g : Called) → and_then (and_then o (λ n m. emit (at_port Redo l) (nothing n m))) (λ n m. emit (at_port Fail g) (nothing n m)) ≡ and_then o (over l g)
over_twice o l g = ap build (append_assoc o.items (at_port Redo l ∷ []) (at_port Fail g ∷ []))
  where
    build : List Item → Out
    build xs = record { items = xs; boxes = o.boxes; points = o.points }

-- the innermost frame's point, and what is around a built-in goal
pub pointed_made : (F : List Frame) (b : Option Step) (p : Point) (o : Option Searched) (w : Out) → Some p ≡ point_in F b → Makes o (emit (Made p) w) → Makes o (pointed F b w)
pointed_made [] b p o w is h = cc
pointed_made (f ∷ F) b p o w is h =
    let same : p ≡ point_at f b = cc in
    subst (λ q. Makes o (emit (Made q) w)) same h

pub around_made : (F : List Frame) (g l : Called) (e : ℕ) (o : Option Searched) (w : Out) → Some (l, e) ≡ exit_in F
    → Makes o (pointed F None (and_then (emit (at_port Exit l) (and_then w (again l))) (closing g))) → Makes o (around F g w)
around_made [] g l e o w is h = cc
around_made (f ∷ F) g l e o w is h =
    let both : (l, e) ≡ (left f F, f.point) = cc in
    let same : l ≡ left f F = ap (λ (x : Called × ℕ). x.0) both in
    makes_as o (around (f ∷ F) g w) (emit (point_of f None) (emit (at_port Exit l) (and_then (and_then w (again l)) (closing g))))
    (sym (ap (λ z. emit (point_of f None) (emit (at_port Exit l) z)) (over_twice w l g) ∙ ap (λ k. emit (point_of f None) (emit (at_port Exit k) (and_then w (over k g)))) same)) h

-- what comes of a goal, where that is known up to a renaming
pub settled_as : (P : List Tuple) (k : ℕ) (F : List Frame) (g : Called) (n m : ℕ) (x y : Solution) → AreAlike (solution F g m) x → x ≡ y
    → settled (search_from P k) (clauses_for g.atom P) F g (solution F g m) n m ≡ settled (search_from P k) (clauses_for g.atom P) F g y n m
settled_as P k F g n m x y h is =
    settled_same P (search_from P k) (search_same P k) g (clauses_for g.atom P) F F (solution F g m) y n m (subst (AreAlike (solution F g m)) is h) (renamed_self F)

-- what follows a search depends on where it ends alone
pub and_then_at : (o : Out) (f f' : ℕ → ℕ → Out) → f o.boxes o.points ≡ f' o.boxes o.points → and_then o f ≡ and_then o f'
and_then_at o f f' is = ap (λ (x : Out). record { items = o.items ++ x.items; boxes = x.boxes; points = x.points }) is

pub advances_as : (old new : Out) (f f' rest : ℕ → ℕ → Out) (b : Advance) → f old.boxes old.points ≡ f' old.boxes old.points → Advances old f' b new rest → Advances old f b new rest
advances_as old new f f' rest Full is h = subst IsFull (sym (and_then_at old f f' is)) h
advances_as old new f f' rest Ends is h = and_then_at old f f' is ∙ h
advances_as old new f f' rest Goes is h = and_then_at old f f' is ∙ h

-- each way of going on
pub advances_full : (old new : Out) (all rest : ℕ → ℕ → Out) (b : Advance) → Advances old all b new rest → b ≡ Full → IsFull (and_then old all)
advances_full old new all rest Full h is = h
advances_full old new all rest Ends h is = cc
advances_full old new all rest Goes h is = cc

pub advances_ends : (old new : Out) (all rest : ℕ → ℕ → Out) (b : Advance) → Advances old all b new rest → b ≡ Ends → and_then old all ≡ new
advances_ends old new all rest Full h is = cc
advances_ends old new all rest Ends h is = h
advances_ends old new all rest Goes h is = cc

pub advances_goes : (old new : Out) (all rest : ℕ → ℕ → Out) (b : Advance) → Advances old all b new rest → b ≡ Goes → and_then old all ≡ and_then new rest
advances_goes old new all rest Full h is = cc
advances_goes old new all rest Ends h is = cc
advances_goes old new all rest Goes h is = h

-- a goal's clause in its turn
module _ (P : List Tuple) (k : ℕ) (F : List Frame) (g : Called) (at number : ℕ) (rule : Tuple) (m : ℕ) (there : slice_get (clauses_for g.atom P) at ≡ Some (number, rule)) where
  abbrev later : ℕ → ℕ → Out
  later = tries (search_from P k) F g (drop (at + 1) (clauses_for g.atom P))

  at_clause : (n : ℕ) → tries (search_from P k) F g (drop at (clauses_for g.atom P)) n m ≡ tried (search_from P k) g later (entering F g rule number m) n m
  at_clause n = ap (λ (cs : List (ℕ × Tuple)). tries (search_from P k) F g cs n m) (cut (clauses_for g.atom P) at (number, rule) there)

  -- it can't be entered
  pub passed_over : AreRenamed (entering F g rule number m) None → (n : ℕ) → tries (search_from P k) F g (drop at (clauses_for g.atom P)) n m ≡ tries (search_from P k) F g (drop (at + 1) (clauses_for g.atom P)) n m
  passed_over h n = at_clause n ∙ none (entering F g rule number m) h
    where
      none : (o : Option (List Frame)) → AreRenamed o None → tried (search_from P k) g later o n m ≡ later n m
      none None h = refl
      none (Some G) h = elim h [ ]

  -- it was entered
  module _ (G : List Frame) (renamed : AreRenamed (entering F g rule number m) (Some G)) where
    pub entered_as : (n : ℕ) → tries (search_from P k) F g (drop at (clauses_for g.atom P)) n m ≡ begun (search_from P k) g (tries (search_from P k) F g (drop (at + 1) (clauses_for g.atom P))) G n m
    entered_as n = at_clause n ∙ tried_same P (search_from P k) (search_same P k) g later later (entering F g rule number m) (Some G) n m renamed (λ n' m'. refl)

    pub entered_open : (n : ℕ) → IsRunnable rule → g.depth ≤ n → AllWait n F → IsOpen n G
    entered_open n short deep waits = opened n (next_goal F) (entered g (apart F rule) number m) F G renamed (few_apart F rule short, deep, waits)

-- the search of a clause that was entered, behind what was made before
pub begun_behind : (old new o : Out) (next : Next) (g : Called) (others : ℕ → ℕ → Out) (F : List Frame) (k : ℕ) → IsOpen k F → is_large_of F ≡ false
    → o ≡ next F old.boxes (old.points + 1) → new ≡ and_then old (λ n m. pointed F None o) → and_then old (begun next g others F) ≡ and_then new others
begun_behind old new o next g others [] k there large is made = absurd there
begun_behind old new o next g others (f ∷ F) k there large is made =
    let q : Out = pointed (f ∷ F) None o in
    and_then_at old (begun next g others (f ∷ F)) (λ n m. and_then q others) (rw (large, is) refl)
    ∙ ap (λ (xs : List Item). record { items = xs; boxes = (others q.boxes q.points).boxes; points = (others q.boxes q.points).points }) (sym (append_assoc old.items q.items (others q.boxes q.points).items))
    ∙ ap (λ (x : Out). and_then x others) (sym made)

pub boxes_behind : (old new o : Out) (F : List Frame) → new ≡ and_then old (λ n m. pointed F None o) → new.boxes ≡ o.boxes
boxes_behind old new o [] made = ap (λ (x : Out). x.boxes) made
boxes_behind old new o (f ∷ F) made = ap (λ (x : Out). x.boxes) made

-- the innermost frame's point in front of a search, behind what was made before
pub behind_made : (old : Out) (F : List Frame) (p : Point) (xs ys zs : List Item) (n m : ℕ) → Some p ≡ point_in F None → ys ≡ Made p ∷ xs → zs ≡ old.items ++ ys
    → record { items = zs; boxes = n; points = m } ≡ and_then old (λ n' m'. pointed F None (record { items = xs; boxes = n; points = m }))
behind_made old [] p xs ys zs n m is front behind = cc
behind_made old (f ∷ F) p xs ys zs n m is front behind =
    let same : p ≡ point_at f None = cc in
    rw (behind, front, same) refl

-- the innermost frame's point, and the items up to the first error
pub traced_made : (F : List Frame) (p : Point) (xs ys zs : List Item) → Some p ≡ point_in F None → ys ≡ up_to_error xs → zs ≡ Made p ∷ ys → zs ≡ traced F xs
traced_made [] p xs ys zs is kept pushed = cc
traced_made (f ∷ F) p xs ys zs is kept pushed =
    let same : p ≡ point_at f None = cc in
    rw (pushed, kept, same) refl
