-- Suspects with such a label judged true: one after another, and in one walk over the rows.
use Rattle.std.proofs.Common.{◌≡◌, ℕ, zero, suc, ◌+◌, ◌<◌, ◌≤◌, ◌&&◌, ◌||◌, max, Bool, true, false, List, [], ◌∷◌, ◌++◌, map, length, get_or, set, Option, Some, None, refl, sym, ◌∙◌, ap, subst, arith, append_assoc}
use Rattle.std.specs.Prelude.{if◌then◌else◌}
use Rattle.std.specs.Option.{option_map}
use Rattle.std.proofs.lemmas.List.{append-nil, map-append, length-append, set_at}
use Rattle.apd_record.proofs.Shaped.{mapped}
use Rattle.apd_term.specs.Term.{Term}
use Rattle.apd_term.specs.declared.tuple.Tuple.{Tuple}
use Rattle.apd_divide.specs.declared.node.NodeRow.{NodeRow}
use Rattle.apd_divide.specs.declared.node.Standing.{Standing}
use Rattle.apd_divide.specs.declared.node.Standing.TheVariants.{Open, Cleared, Doubted}
use Rattle.apd_divide.specs.declared.node.Strategy.{Strategy}
use Rattle.apd_divide.specs.declared.node.Verdict.{Verdict}
use Rattle.apd_divide.specs.declared.node.Verdict.TheVariants.{True, False, Unknown}
use Rattle.apd_divide.specs.Tree.{Tree, Forest, node, bare, beside, standing, is_open, is_suspect, label, children, marked, weight, width, branching, branchings, suspects}
use Rattle.apd_divide.specs.Choice.{Cut, Among, Way, at_node, in_front_of, behind, here, cut, cut_among, has_such, have_such, to_such, first_such, way_of, choice, judged, EachIsTrue, none_left, first_true}
use Rattle.apd_divide.specs.Cleared.{cleared, all_cleared, cleared_below}
use Rattle.apd_divide.specs.Growing.{blank}
use Rattle.apd_divide.specs.Rows.{row, rows, rows_of, nodes, nodes_of}
use Rattle.apd_divide.specs.Kept.{forest_from}
use Rattle.apd_divide.proofs.Weights.{by_test, TakesSuspects, stopped, down, along, found, way-takes, such-lowers}
use Rattle.apd_divide.proofs.Rows.{length-rows, length-rows_of, one_node}
use Rattle.apd_divide.proofs.Kept.{at_place}
use Rattle.apd_divide.proofs.Doubting.{joined, rows-joined}

module _ (such : Term → Bool) where
  -- a node that isn't judged true itself
  passed : (s : Standing) (c : ℕ) (t : Tuple) (ts : Forest) → ¬ (s ≡ Cleared) → (is_open s && such t.head) ≡ false → cleared such (node s c t ts) ≡ node s c t (all_cleared such ts)
  passed Open c t ts n e = rw e refl
  passed Cleared c t ts n e = absurd (n refl)
  passed Doubted c t ts n e = refl

  -- one that is
  struck : (s : Standing) (c : ℕ) (t : Tuple) (ts : Forest) → (is_open s && such t.head) ≡ true → cleared such (node s c t ts) ≡ node Cleared c t ts
  struck Open c t ts e = rw e refl
  struck Cleared c t ts e = absurd (cc)
  struck Doubted c t ts e = absurd (cc)

  not_cleared : (s : Standing) (c : ℕ) (t : Tuple) (ts : Forest) → has_such such (node s c t ts) ≡ true → ¬ (s ≡ Cleared)
  not_cleared Open c t ts h = λ e. cc
  not_cleared Cleared c t ts h = λ e. cc
  not_cleared Doubted c t ts h = λ e. cc

  -- where there is none below, nothing changes
  or_none : (a b : Bool) → (a || b) ≡ false → (a ≡ false) × (b ≡ false)
  or_none true b e = absurd (cc)
  or_none false b e = (refl, e)

  mutual
    none-same : (x : Tree) → has_such such x ≡ false → cleared such x ≡ x
    none-same (node Open c t ts) h =
        let b = or_none (such t.head) (have_such such ts) h in
        rw b.0 (ap (node Open c t) (none-same_of ts b.1))
    none-same (node Cleared c t ts) h = refl
    none-same (node Doubted c t ts) h = ap (node Doubted c t) (none-same_of ts h)

    none-same_of : (ts : Forest) → have_such such ts ≡ false → all_cleared such ts ≡ ts
    none-same_of bare h = refl
    none-same_of (beside x xs) h =
        let b = or_none (has_such such x) (have_such such xs) h in
        ap (λ y. beside y (all_cleared such xs)) (none-same x b.0) ∙ ap (beside x) (none-same_of xs b.1)

  -- what has no cut stays
  map_none : {A B : Type 0} (f : A → B) (o : Option A) → option_map f o ≡ None → o ≡ None
  map_none f None e = refl
  map_none f (Some a) e = absurd (cc)

  -- a label below a node is found
  below_has : (s : Standing) (c : ℕ) (t : Tuple) (ts : Forest) → has_such such (node s c t ts) ≡ true → (is_open s && such t.head) ≡ false → have_such such ts ≡ true
  below_has Open c t ts h e = rw e at h
  below_has Cleared c t ts h e = absurd (cc)
  below_has Doubted c t ts h e = h

  mutual
    cut_there : (x : Tree) → has_such such x ≡ true → (is_suspect x && such (label x)) ≡ false → cut (to_such such) x ≡ None → ⊥
    cut_there (node s c t ts) h n e = among_there ts (below_has s c t ts h n) (map_none (at_node (node s c t)) (cut_among (to_such such) ts) e)

    among_there : (ts : Forest) → have_such such ts ≡ true → cut_among (to_such such) ts ≡ None → ⊥
    among_there bare h e = cc
    among_there (beside x xs) h e =
        by_test (has_such such x)
        (λ y. by_test (is_suspect x && such (label x))
        (λ n. let f : Some (here x xs) ≡ None = rw (y, n) at e in absurd (cc))
        (λ n. let f : option_map (in_front_of xs) (cut (to_such such) x) ≡ None = rw (y, n) at e in cut_there x y n (map_none (in_front_of xs) (cut (to_such such) x) f)))
        (λ y.
        let f : option_map (behind x) (cut_among (to_such such) xs) ≡ None = rw y at e in
        let g : have_such such xs ≡ true = rw y at h in
        among_there xs g (map_none (behind x) (cut_among (to_such such) xs) f))

  uncut-none : (ts : Forest) → cut_among (to_such such) ts ≡ None → have_such such ts ≡ false
  uncut-none ts e = by_test (have_such such ts) (λ h. absurd (among_there ts h e)) (λ h. h)

  pub uncut-same : (x : Tree) → first_such such x ≡ None → cleared_below such x ≡ x
  uncut-same (node s c t ts) e = ap (node s c t) (none-same_of ts (uncut-none ts (map_none (at_node (node s c t)) (cut_among (to_such such) ts) e)))

  -- what the first one leaves comes to the same
  marked-struck : (x : Tree) → (is_suspect x && such (label x)) ≡ true → cleared such (marked Cleared x) ≡ cleared such x
  marked-struck (node s c t ts) e = sym (struck s c t ts e)

  mutual
    cut-same : (x : Tree) (c : Cut) → cut (to_such such) x ≡ Some c → cleared_below such (c.rest Cleared) ≡ cleared_below such x
    cut-same (node s n t ts) c e =
        let m = mapped (at_node (node s n t)) (cut_among (to_such such) ts) c e in
        subst (λ (d : Cut). cleared_below such (d.rest Cleared) ≡ node s n t (all_cleared such ts)) m.2 (ap (node s n t) (among-same ts m.0 m.1))

    down-same : (x : Tree) (c : Cut) → has_such such x ≡ true → (is_suspect x && such (label x)) ≡ false → cut (to_such such) x ≡ Some c → cleared such (c.rest Cleared) ≡ cleared such x
    down-same (node s n t ts) c h o e =
        let m = mapped (at_node (node s n t)) (cut_among (to_such such) ts) c e in
        let k = not_cleared s n t ts h in
        subst (λ (d : Cut). cleared such (d.rest Cleared) ≡ cleared such (node s n t ts)) m.2
        (passed s n t (m.0.rest Cleared) k o ∙ ap (node s n t) (among-same ts m.0 m.1) ∙ sym (passed s n t ts k o))

    among-same : (ts : Forest) (a : Among) → cut_among (to_such such) ts ≡ Some a → all_cleared such (a.rest Cleared) ≡ all_cleared such ts
    among-same bare a e = absurd (cc)
    among-same (beside x xs) a e = elim (found (to_such such) x xs a e) [
      | stopped t s f ↦ subst (λ (b : Among). all_cleared such (b.rest Cleared) ≡ all_cleared such (beside x xs)) f (ap (λ y. beside y (all_cleared such xs)) (marked-struck x s))
      | down t s c g f ↦ subst (λ (b : Among). all_cleared such (b.rest Cleared) ≡ all_cleared such (beside x xs)) f (ap (λ y. beside y (all_cleared such xs)) (down-same x c t s g))
      | along t b g f ↦ subst (λ (d : Among). all_cleared such (d.rest Cleared) ≡ all_cleared such (beside x xs)) f (ap (beside (cleared such x)) (among-same xs b g))
    ]

  -- one after another
  each_step : (x : Tree) → ((y : Tree) → suspects y < suspects x → EachIsTrue such y (cleared_below such y)) → EachIsTrue such x (cleared_below such x)
  each_step x rest = by (first_such such x) refl
    where
      by : (o : Option Cut) → first_such such x ≡ o → EachIsTrue such x (cleared_below such x)
      by None e = subst (EachIsTrue such x) (sym (uncut-same x e)) (none_left x e)
      by (Some c) e = first_true x (cleared_below such x) c e (subst (EachIsTrue such (c.rest Cleared)) (cut-same x c e) (rest (c.rest Cleared) (such-lowers such x c e)))

  each_within : (k : ℕ) (x : Tree) → suspects x ≤ k → EachIsTrue such x (cleared_below such x)
  each_within zero x l = each_step x (λ y h. absurd (omega (arith, h, l)))
  each_within (suc k) x l = each_step x (λ y h. each_within k y (omega (arith, h, l)))

  pub each-is_true : (x : Tree) → EachIsTrue such x (cleared_below such x)
  each-is_true x = each_within (suspects x) x (omega arith)

  -- The trees are as large and as wide as before.
  nodes_open : (c : ℕ) (t : Tuple) (ts us : Forest) → nodes_of us ≡ nodes_of ts → (b : Bool) → nodes (if b then node Cleared c t ts else node Open c t us) ≡ nodes_of ts + 1
  nodes_open c t ts us e true = refl
  nodes_open c t ts us e false = ap (λ n. n + 1) e

  mutual
    nodes-cleared : (x : Tree) → nodes (cleared such x) ≡ nodes x
    nodes-cleared (node Open c t ts) = nodes_open c t ts (all_cleared such ts) (nodes-cleared_of ts) (such t.head)
    nodes-cleared (node Cleared c t ts) = refl
    nodes-cleared (node Doubted c t ts) = ap (λ n. n + 1) (nodes-cleared_of ts)

    pub nodes-cleared_of : (ts : Forest) → nodes_of (all_cleared such ts) ≡ nodes_of ts
    nodes-cleared_of bare = refl
    nodes-cleared_of (beside x xs) = let e = nodes-cleared x in let f = nodes-cleared_of xs in omega (arith, e, f)

  pub width-cleared : (ts : Forest) → width (all_cleared such ts) ≡ width ts
  width-cleared bare = refl
  width-cleared (beside x xs) = ap (λ n. n + 1) (width-cleared xs)

  branching_open : (c : ℕ) (t : Tuple) (ts us : Forest) → width us ≡ width ts → branchings us ≡ branchings ts → (b : Bool) → branching (if b then node Cleared c t ts else node Open c t us) ≡ max (width ts) (branchings ts)
  branching_open c t ts us e f true = refl
  branching_open c t ts us e f false = ap (λ n. max n (branchings us)) e ∙ ap (max (width ts)) f

  mutual
    branching-cleared : (x : Tree) → branching (cleared such x) ≡ branching x
    branching-cleared (node Open c t ts) = branching_open c t ts (all_cleared such ts) (width-cleared ts) (branching-cleared_of ts) (such t.head)
    branching-cleared (node Cleared c t ts) = refl
    branching-cleared (node Doubted c t ts) = ap (λ n. max n (branchings (all_cleared such ts))) (width-cleared ts) ∙ ap (max (width ts)) (branching-cleared_of ts)

    branching-cleared_of : (ts : Forest) → branchings (all_cleared such ts) ≡ branchings ts
    branching-cleared_of bare = refl
    branching-cleared_of (beside x xs) = ap (λ n. max n (branchings (all_cleared such xs))) (branching-cleared x) ∙ ap (max (branching x)) (branching-cleared_of xs)

  pub branching-below : (x : Tree) → branching (cleared_below such x) ≡ branching x
  branching-below (node s c t ts) = ap (λ n. max n (branchings (all_cleared such ts))) (width-cleared ts) ∙ ap (max (width ts)) (branching-cleared_of ts)

  pub nodes-below : (x : Tree) → nodes (cleared_below such x) ≡ nodes x
  nodes-below (node s c t ts) = ap (λ n. n + 1) (nodes-cleared_of ts)

  pub standing-below : (x : Tree) → standing (cleared_below such x) ≡ standing x
  standing-below (node s c t ts) = refl

  pub blank-cleared : (s : Standing) (c : ℕ) (t : Tuple) (ts : Forest) → blank (row s c t (all_cleared such ts)) ≡ blank (row s c t ts)
  blank-cleared s c t ts = ap (λ k. record { arity = k; span = 0; weight = 0; standing = s; clause = c; tuple = t }) (width-cleared ts)

  joined-cleared : (ts xs : Forest) → all_cleared such (joined ts xs) ≡ joined (all_cleared such ts) (all_cleared such xs)
  joined-cleared bare xs = refl
  joined-cleared (beside y ys) xs = ap (beside (cleared such y)) (joined-cleared ys xs)

  -- What is done in the walk, and what is left.
  pub record Clears (whole : Forest) (rs : List NodeRow) (at : ℕ) : Type 0 where
    pub front : List NodeRow
    pub left : Forest
    pub place : length front ≡ at
    pub rows_are : rs ≡ front ++ rows_of left
    pub alike : map blank front ++ map blank (rows_of (all_cleared such left)) ≡ map blank (rows_of (all_cleared such whole))

  pub clears_first : (rs : List NodeRow) → rs ≡ rows_of (forest_from rs) → Clears (forest_from rs) rs 0
  clears_first rs e = record { front = []; left = forest_from rs; place = refl; rows_are = e; alike = refl }

  -- the row at the place
  pub record ClearsAt (whole : Forest) (rs : List NodeRow) (at : ℕ) (r : NodeRow) : Type 0 where
    pub positive : 1 ≤ r.span
    pub fits : at + r.span ≤ length rs
    pub passes : r.standing ≡ Cleared → Clears whole rs (at + r.span)
    pub strikes : (is_open r.standing && such r.tuple.head) ≡ true → (q : NodeRow) → q ≡ record r { standing = Cleared } → Clears whole (set rs at q) (at + r.span)
    pub enters_it : ¬ (r.standing ≡ Cleared) → (is_open r.standing && such r.tuple.head) ≡ false → Clears whole rs (at + 1)

  behind_front : (front : List NodeRow) (a : NodeRow) (more others : List NodeRow) → map blank (front ++ a ∷ more) ++ map blank others ≡ map blank front ++ (blank a ∷ (map blank more ++ map blank others))
  behind_front front a more others = ap (λ z. z ++ map blank others) (map-append blank front (a ∷ more)) ∙ append_assoc (map blank front) (blank a ∷ map blank more) (map blank others)

  clears_tree : (whole : Forest) (rs : List NodeRow) (at : ℕ) (r : NodeRow) (front : List NodeRow) (s : Standing) (c : ℕ) (t : Tuple) (ts xs : Forest) → length front ≡ at → rs ≡ front ++ rows_of (beside (node s c t ts) xs)
      → map blank front ++ map blank (rows_of (all_cleared such (beside (node s c t ts) xs))) ≡ map blank (rows_of (all_cleared such whole)) → r ≡ get_or rs at r → ClearsAt whole rs at r
  clears_tree whole rs at r front s c t ts xs place rows_are alike is =
      let x = node s c t ts in
      let flat : rs ≡ front ++ row s c t ts ∷ (rows_of ts ++ rows_of xs) = rows_are in
      let a = at_place rs front at (row s c t ts) (rows_of ts ++ rows_of xs) flat place in
      let own : r ≡ row s c t ts = is ∙ a.is r in
      let span : r.span ≡ nodes x = ap (λ (q : NodeRow). q.span) own in
      let stands : r.standing ≡ s = ap (λ (q : NodeRow). q.standing) own in
      let tests : (is_open r.standing && such r.tuple.head) ≡ (is_open s && such t.head) = ap (λ (q : NodeRow). is_open q.standing && such q.tuple.head) own in
      let o = one_node x in
      let many : length rs ≡ length front + suc (length (rows_of ts) + length (rows_of xs)) =
      ap length flat ∙ length-append front (row s c t ts ∷ (rows_of ts ++ rows_of xs)) ∙ ap (λ n. length front + suc n) (length-append (rows_of ts) (rows_of xs)) in
      let below = length-rows_of ts in
      record {
        positive = omega (arith, span, o);
        fits = omega (arith, span, many, below, place);
        passes = λ e.
            let stood : s ≡ Cleared = sym stands ∙ e in
            let same : cleared such x ≡ x = was_cleared s c t ts stood in
            record {
              front = front ++ row s c t ts ∷ rows_of ts;
              left = xs;
              place = behind_place front (row s c t ts) ts at (r.span) place span;
              rows_are = flat ∙ sym (append_assoc front (row s c t ts ∷ rows_of ts) (rows_of xs));
              alike =
                  ap (λ z. z ++ map blank (rows_of (all_cleared such xs))) (map-append blank front (rows x)) ∙ append_assoc (map blank front) (map blank (rows x)) (map blank (rows_of (all_cleared such xs)))
                  ∙ ap (λ z. map blank front ++ (map blank (rows z) ++ map blank (rows_of (all_cleared such xs)))) (sym same)
                  ∙ ap (λ z. map blank front ++ z) (sym (map-append blank (rows (cleared such x)) (rows_of (all_cleared such xs)))) ∙ alike;
            };
        strikes = λ e q q_is.
            let now : cleared such x ≡ node Cleared c t ts = struck s c t ts (sym tests ∙ e) in
            let blank_is : blank q ≡ blank (row Cleared c t ts) = ap blank (q_is ∙ ap (λ (z : NodeRow). record z { standing = Cleared }) own) in
            record {
              front = front ++ q ∷ rows_of ts;
              left = xs;
              place = behind_place front q ts at (r.span) place span;
              rows_are = ap (λ z. set z at q) flat ∙ set_at front (row s c t ts) (rows_of ts ++ rows_of xs) q at place ∙ sym (append_assoc front (q ∷ rows_of ts) (rows_of xs));
              alike =
                  behind_front front q (rows_of ts) (rows_of (all_cleared such xs)) ∙ ap (λ z. map blank front ++ z ∷ (map blank (rows_of ts) ++ map blank (rows_of (all_cleared such xs)))) blank_is
                  ∙ ap (λ z. map blank front ++ z) (sym (map-append blank (rows (node Cleared c t ts)) (rows_of (all_cleared such xs))))
                  ∙ ap (λ z. map blank front ++ map blank (rows z ++ rows_of (all_cleared such xs))) (sym now) ∙ alike;
            };
        enters_it = λ n e.
            let now : cleared such x ≡ node s c t (all_cleared such ts) = passed s c t ts (λ f. n (stands ∙ f)) (sym tests ∙ e) in
            let both : rows_of (all_cleared such (joined ts xs)) ≡ rows_of (all_cleared such ts) ++ rows_of (all_cleared such xs) = ap rows_of (joined-cleared ts xs) ∙ rows-joined (all_cleared such ts) (all_cleared such xs) in
            record {
              front = front ++ row s c t ts ∷ [];
              left = joined ts xs;
              place = length-append front (row s c t ts ∷ []) ∙ ap (λ m. m + 1) place;
              rows_are = flat ∙ ap (λ z. front ++ row s c t ts ∷ z) (sym (rows-joined ts xs)) ∙ sym (append_assoc front (row s c t ts ∷ []) (rows_of (joined ts xs)));
              alike =
                  behind_front front (row s c t ts) [] (rows_of (all_cleared such (joined ts xs))) ∙ ap (λ z. map blank front ++ blank (row s c t ts) ∷ map blank z) both
                  ∙ ap (λ z. map blank front ++ z ∷ map blank (rows_of (all_cleared such ts) ++ rows_of (all_cleared such xs))) (sym (blank-cleared s c t ts))
                  ∙ ap (λ z. map blank front ++ map blank (rows z ++ rows_of (all_cleared such xs))) (sym now) ∙ alike;
            };
      }
    where
      was_cleared : (v : Standing) (m : ℕ) (u : Tuple) (us : Forest) → v ≡ Cleared → cleared such (node v m u us) ≡ node v m u us
      was_cleared Open m u us e = absurd (cc)
      was_cleared Cleared m u us e = refl
      was_cleared Doubted m u us e = absurd (cc)

      behind_place : (f : List NodeRow) (q : NodeRow) (us : Forest) (i span : ℕ) → length f ≡ i → span ≡ nodes_of us + 1 → length (f ++ q ∷ rows_of us) ≡ i + span
      behind_place f q us i n e g = let l = length-rows_of us in length-append f (q ∷ rows_of us) ∙ omega (arith, l, e, g)

  pub clears_at : (whole : Forest) (rs : List NodeRow) (at : ℕ) (r : NodeRow) → at < length rs → Clears whole rs at → r ≡ get_or rs at r → ClearsAt whole rs at r
  clears_at whole rs at r l h is = by h.left h.rows_are h.alike
    where
      by : (f : Forest) → rs ≡ h.front ++ rows_of f → map blank h.front ++ map blank (rows_of (all_cleared such f)) ≡ map blank (rows_of (all_cleared such whole)) → ClearsAt whole rs at r
      by bare e g = let n = ap length (e ∙ append-nil h.front) ∙ h.place in absurd (omega (arith, n, l))
      by (beside (node s c t ts) xs) e g = clears_tree whole rs at r h.front s c t ts xs h.place e g is

  pub clears_all : (whole : Forest) (rs : List NodeRow) (at : ℕ) → length rs ≤ at → Clears whole rs at → map blank rs ≡ map blank (rows_of (all_cleared such whole))
  clears_all whole rs at l h = by h.left h.rows_are h.alike
    where
      by : (f : Forest) → rs ≡ h.front ++ rows_of f → map blank h.front ++ map blank (rows_of (all_cleared such f)) ≡ map blank (rows_of (all_cleared such whole)) → map blank rs ≡ map blank (rows_of (all_cleared such whole))
      by bare e g = ap (map blank) (e ∙ append-nil h.front) ∙ sym (append-nil (map blank h.front)) ∙ g
      by (beside x xs) e g =
          let n : length rs ≡ length h.front + (length (rows x) + length (rows_of xs)) = ap length e ∙ length-append h.front (rows x ++ rows_of xs) ∙ ap (λ m. length h.front + m) (length-append (rows x) (rows_of xs)) in
          let o = one_node x in
          let q = length-rows x in
          let p = h.place in
          absurd (omega (arith, n, o, q, p, l))

  -- none is left then
  pub each-none : (x y : Tree) → EachIsTrue such x y → first_such such y ≡ None
  each-none x y (none_left z n) = n
  each-none x y (first_true z w c n rest) = each-none (judged c True) w rest

  -- Where no suspect has such a label, none has one once another is judged.
  both_none : (a b : Bool) → a ≡ false → b ≡ false → (a || b) ≡ false
  both_none a b e f = rw (e, f) refl

  below_none : (x : Tree) → 1 ≤ weight x → has_such such x ≡ false → have_such such (children x) ≡ false
  below_none (node Open c t ts) h n = (or_none (such t.head) (have_such such ts) n).1
  below_none (node Cleared c t ts) h n = absurd (omega (arith, h))
  below_none (node Doubted c t ts) h n = n

  marked_none : (v : Standing) (x : Tree) → is_suspect x ≡ true → has_such such x ≡ false → has_such such (marked v x) ≡ false
  marked_none Open (node Open c t ts) s n = n
  marked_none Cleared (node Open c t ts) s n = refl
  marked_none Doubted (node Open c t ts) s n = (or_none (such t.head) (have_such such ts) n).1
  marked_none v (node Cleared c t ts) s n = absurd (cc)
  marked_none v (node Doubted c t ts) s n = absurd (cc)

  with_none : (s : Standing) (c : ℕ) (t : Tuple) (ts us : Forest) → has_such such (node s c t ts) ≡ false → have_such such us ≡ false → has_such such (node s c t us) ≡ false
  with_none Open c t ts us n m = both_none (such t.head) (have_such such us) (or_none (such t.head) (have_such such ts) n).0 m
  with_none Cleared c t ts us n m = refl
  with_none Doubted c t ts us n m = m

  record LeavesNone (c : Cut) : Type 0 where
    chosen : have_such such (children c.chosen) ≡ false
    rest : (v : Standing) → have_such such (children (c.rest v)) ≡ false

  record LeaveNone (a : Among) : Type 0 where
    chosen : have_such such (children a.chosen) ≡ false
    rest : (v : Standing) → have_such such (a.rest v) ≡ false

  record LeavesNoneIn (c : Cut) : Type 0 where
    chosen : have_such such (children c.chosen) ≡ false
    rest : (v : Standing) → has_such such (c.rest v) ≡ false

  module _ (way : Way) (takes : TakesSuspects way) where
    mutual
      cut_leaves : (x : Tree) (c : Cut) → cut way x ≡ Some c → have_such such (children x) ≡ false → LeavesNone c
      cut_leaves (node s n t ts) c e h =
          let m = mapped (at_node (node s n t)) (cut_among way ts) c e in
          let k = among_leaves ts m.0 m.1 h in
          subst LeavesNone m.2 (record { chosen = k.chosen; rest = λ v. k.rest v })

      down_leaves : (x : Tree) (c : Cut) → cut way x ≡ Some c → 1 ≤ weight x → has_such such x ≡ false → LeavesNoneIn c
      down_leaves (node s n t ts) c e w h =
          let m = mapped (at_node (node s n t)) (cut_among way ts) c e in
          let k = among_leaves ts m.0 m.1 (below_none (node s n t ts) w h) in
          subst LeavesNoneIn m.2 (record { chosen = k.chosen; rest = λ v. with_none s n t ts (m.0.rest v) h (k.rest v) })

      among_leaves : (ts : Forest) (a : Among) → cut_among way ts ≡ Some a → have_such such ts ≡ false → LeaveNone a
      among_leaves bare a e h = absurd (cc)
      among_leaves (beside x xs) a e h =
          let b = or_none (has_such such x) (have_such such xs) h in
          elim (found way x xs a e) [
            | stopped t s f ↦
                let w = takes.some x xs t in
                let i = takes.suspect x w s in
                subst LeaveNone f (record { chosen = below_none x w b.0; rest = λ v. both_none (has_such such (marked v x)) (have_such such xs) (marked_none v x i b.0) b.1 })
            | down t s c g f ↦
                let k = down_leaves x c g (takes.some x xs t) b.0 in
                subst LeaveNone f (record { chosen = k.chosen; rest = λ v. both_none (has_such such (c.rest v)) (have_such such xs) (k.rest v) b.1 })
            | along t d g f ↦
                let k = among_leaves xs d g b.1 in
                subst LeaveNone f (record { chosen = k.chosen; rest = λ v. both_none (has_such such x) (have_such such (d.rest v)) b.0 (k.rest v) })
          ]

  none_cut : (ts : Forest) → have_such such ts ≡ false → cut_among (to_such such) ts ≡ None
  none_cut bare h = refl
  none_cut (beside x xs) h =
      let b = or_none (has_such such x) (have_such such xs) h in
      rw b.0 (ap (option_map (behind x)) (none_cut xs b.1))

  none_first : (x : Tree) → have_such such (children x) ≡ false → first_such such x ≡ None
  none_first (node s c t ts) h = ap (option_map (at_node (node s c t))) (none_cut ts h)

  none_below : (x : Tree) → first_such such x ≡ None → have_such such (children x) ≡ false
  none_below (node s c t ts) e = uncut-none ts (map_none (at_node (node s c t)) (cut_among (to_such such) ts) e)

  pub judged-none : (strategy : Strategy) (x : Tree) (c : Cut) (v : Verdict) → choice strategy x ≡ Some c → first_such such x ≡ None → first_such such (judged c v) ≡ None
  judged-none strategy x c v e n = by v
    where
      k : LeavesNone c
      k = cut_leaves (way_of strategy (suspects x)) (way-takes strategy (suspects x)) x c e (none_below x n)

      by : (w : Verdict) → first_such such (judged c w) ≡ None
      by True = none_first (c.rest Cleared) (k.rest Cleared)
      by False = none_first c.chosen k.chosen
      by Unknown = none_first (c.rest Doubted) (k.rest Doubted)
