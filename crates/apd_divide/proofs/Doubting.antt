-- Walks over the rows of trees beside each other, into those that are open or doubted and past those that are cleared: the
-- instances of the nodes that were judged unknown, and the first suspect that has such a label.
use Rattle.std.proofs.Common.{◌≡◌, ℕ, suc, ◌+◌, ◌-◌, ◌<◌, ◌≤◌, ◌&&◌, Bool, true, false, List, [], ◌∷◌, ◌++◌, length, get_or, drop, Option, Some, None, refl, sym, ◌∙◌, ap, arith, append_assoc}
use Rattle.std.specs.Prelude.{MatchBool}
use Rattle.std.specs.Option.{option_map}
use Rattle.std.proofs.lemmas.List.{drop_at, drop-drop, length-append, length-drop, append-nil}
use Rattle.std.proofs.lemmas.Bool.{or_parts}
use Rattle.apd_term.specs.Term.{Term}
use Rattle.apd_term.specs.declared.tuple.Tuple.{Tuple}
use Rattle.apd_term.specs.declared.instance.Instance.{Instance}
use Rattle.apd_divide.specs.declared.node.NodeRow.{NodeRow}
use Rattle.apd_divide.specs.declared.node.Standing.{Standing}
use Rattle.apd_divide.specs.declared.node.Standing.TheVariants.{Open, Cleared, Doubted}
use Rattle.apd_divide.specs.Tree.{Tree, Forest, node, bare, beside, is_open, is_suspect, label, doubts, doubts_by, doubts_of}
use Rattle.apd_divide.specs.Choice.{Way, at_node, in_front_of, behind, cut, cut_among, has_such, have_such, has_such_by, to_such}
use Rattle.apd_divide.specs.Rows.{row, rows, rows_of, nodes, nodes_of, way_number, number_among}
use Rattle.apd_divide.specs.Kept.{forest_from}
use Rattle.apd_divide.proofs.Weights.{by_test}
use Rattle.apd_divide.proofs.Rows.{length-rows, one_node}
use Rattle.apd_divide.proofs.Kept.{own_row, at_drop, with_own}

-- by the answer of a test
pub by_true : (b : Bool) (P Q : Type 0) → b ≡ true → MatchBool b P Q → P
by_true true P Q e h = h
by_true false P Q e h = absurd (cc)

pub by_false : (b : Bool) (P Q : Type 0) → b ≡ false → MatchBool b P Q → Q
by_false true P Q e h = absurd (cc)
by_false false P Q e h = h

-- trees in front of others
abbrev pub joined : Forest → Forest → Forest
joined bare ys = ys
joined (beside x xs) ys = beside x (joined xs ys)

pub rows-joined : (xs ys : Forest) → rows_of (joined xs ys) ≡ rows_of xs ++ rows_of ys
rows-joined bare ys = refl
rows-joined (beside x xs) ys = ap (λ r. rows x ++ r) (rows-joined xs ys) ∙ sym (append_assoc (rows x) (rows_of xs) (rows_of ys))

doubts-joined : (xs ys : Forest) → doubts_of (joined xs ys) ≡ doubts_of xs ++ doubts_of ys
doubts-joined bare ys = refl
doubts-joined (beside x xs) ys = ap (λ d. doubts x ++ d) (doubts-joined xs ys) ∙ sym (append_assoc (doubts x) (doubts_of xs) (doubts_of ys))

-- the row at a place of such a walk
record Meets (rs : List NodeRow) (at : ℕ) (r : NodeRow) (s : Standing) (c : ℕ) (t : Tuple) (ts xs : Forest) : Type 0 where
  own : r ≡ row s c t ts
  positive : 1 ≤ r.span
  fits : at + r.span ≤ length rs
  span : r.span ≡ nodes (node s c t ts)
  inside : drop (at + 1) rs ≡ rows_of (joined ts xs)
  past : drop (at + r.span) rs ≡ rows_of xs

meets : (rs : List NodeRow) (at : ℕ) (r : NodeRow) (s : Standing) (c : ℕ) (t : Tuple) (ts xs : Forest) → drop at rs ≡ rows_of (beside (node s c t ts) xs) → r ≡ get_or rs at r → Meets rs at r s c t ts xs
meets rs at r s c t ts xs e is =
    let x = node s c t ts in
    let a = at_drop rs at (own_row x) (rows_of ts ++ rows_of xs) (e ∙ with_own x (rows_of xs)) in
    let own : r ≡ row s c t ts = is ∙ a.is r in
    let span : r.span ≡ nodes x = ap (λ (q : NodeRow). q.span) own in
    let o = one_node x in
    let w = a.within in
    let many : length rs - at ≡ nodes x + length (rows_of xs) =
    sym (length-drop at rs) ∙ ap length e ∙ length-append (rows x) (rows_of xs) ∙ ap (λ n. n + length (rows_of xs)) (length-rows x) in
    record {
      own = own;
      positive = omega (arith, span, o);
      fits = omega (arith, span, many, w);
      span = span;
      inside = sym (drop-drop 1 at rs) ∙ ap (drop 1) (e ∙ with_own x (rows_of xs)) ∙ sym (rows-joined ts xs);
      past = ap (λ n. drop (at + n) rs) span ∙ sym (drop-drop (nodes x) at rs) ∙ ap (drop (nodes x)) e ∙ drop_at (rows x) (rows_of xs) (nodes x) (length-rows x);
    }

-- What was found so far, and what is left.
pub record Doubting (rs : List NodeRow) (at : ℕ) (found wanted : List Instance) : Type 0 where
  pub left : Forest
  pub rows_are : drop at rs ≡ rows_of left
  pub found_is : found ++ doubts_of left ≡ wanted
  pub within : at ≤ length rs

pub record DoubtingAt (rs : List NodeRow) (at : ℕ) (found wanted : List Instance) (r : NodeRow) : Type 0 where
  pub positive : 1 ≤ r.span
  pub fits : at + r.span ≤ length rs
  pub opened : r.standing ≡ Open → Doubting rs (at + 1) found wanted
  pub cleared : r.standing ≡ Cleared → Doubting rs (at + r.span) found wanted
  pub doubted : r.standing ≡ Doubted → (i : Instance) → i.clause ≡ r.clause → i.tuple ≡ r.tuple → Doubting rs (at + 1) (found ++ i ∷ []) wanted

pub instance_is : (i : Instance) (c : ℕ) (t : Tuple) → i.clause ≡ c → i.tuple ≡ t → i ≡ record { clause = c; tuple = t }
instance_is i c t e f = ap (λ k. record { clause = k; tuple = i.tuple }) e ∙ ap (λ u. record { clause = c; tuple = u }) f

doubting_tree : (rs : List NodeRow) (at : ℕ) (found wanted : List Instance) (r : NodeRow) (s : Standing) (c : ℕ) (t : Tuple) (ts xs : Forest)
    → drop at rs ≡ rows_of (beside (node s c t ts) xs) → found ++ doubts_of (beside (node s c t ts) xs) ≡ wanted → r ≡ get_or rs at r → DoubtingAt rs at found wanted r
doubting_tree rs at found wanted r s c t ts xs e g is =
    let m = meets rs at r s c t ts xs e is in
    let stands : r.standing ≡ s = ap (λ (q : NodeRow). q.standing) m.own in
    let own : Instance = record { clause = c; tuple = t } in
    let p = m.positive in
    let f = m.fits in
    let by : (v : Standing) → r.standing ≡ v → found ++ (doubts_by v own (doubts_of ts) ++ doubts_of xs) ≡ wanted =
    λ v h. ap (λ z. found ++ (doubts_by z own (doubts_of ts) ++ doubts_of xs)) (sym h ∙ stands) ∙ g in
    record {
      positive = p;
      fits = f;
      opened = λ h. record {
        left = joined ts xs;
        rows_are = m.inside;
        found_is = ap (λ d. found ++ d) (doubts-joined ts xs) ∙ by Open h;
        within = omega (arith, p, f);
      };
      cleared = λ h. record { left = xs; rows_are = m.past; found_is = by Cleared h; within = f };
      doubted = λ h i a b. record {
        left = joined ts xs;
        rows_are = m.inside;
        found_is =
            append_assoc found (i ∷ []) (doubts_of (joined ts xs)) ∙ ap (λ d. found ++ i ∷ d) (doubts-joined ts xs)
            ∙ ap (λ j. found ++ j ∷ (doubts_of ts ++ doubts_of xs)) (instance_is i c t (a ∙ ap (λ (q : NodeRow). q.clause) m.own) (b ∙ ap (λ (q : NodeRow). q.tuple) m.own)) ∙ by Doubted h;
        within = omega (arith, p, f);
      };
    }

none_there : (rs : List NodeRow) (at : ℕ) → at < length rs → drop at rs ≡ [] → ⊥
none_there rs at l e = let n : length rs - at ≡ 0 = sym (length-drop at rs) ∙ ap length e in omega (arith, n, l)

pub doubting_at : (rs : List NodeRow) (at : ℕ) (found wanted : List Instance) (r : NodeRow) → at < length rs → Doubting rs at found wanted → r ≡ get_or rs at r → DoubtingAt rs at found wanted r
doubting_at rs at found wanted r l h is = by h.left h.rows_are h.found_is
  where
    by : (f : Forest) → drop at rs ≡ rows_of f → found ++ doubts_of f ≡ wanted → DoubtingAt rs at found wanted r
    by bare e g = absurd (none_there rs at l e)
    by (beside (node s c t ts) xs) e g = doubting_tree rs at found wanted r s c t ts xs e g is

some_left : (rs : List NodeRow) (at : ℕ) (x : Tree) (xs : Forest) → length rs ≤ at → drop at rs ≡ rows_of (beside x xs) → ⊥
some_left rs at x xs l e =
    let n : length rs - at ≡ length (rows x) + length (rows_of xs) = sym (length-drop at rs) ∙ ap length e ∙ length-append (rows x) (rows_of xs) in
    let o = one_node x in
    let q = length-rows x in
    omega (arith, n, l, o, q)

pub doubting_all : (rs : List NodeRow) (at : ℕ) (found wanted : List Instance) → length rs ≤ at → Doubting rs at found wanted → found ≡ wanted
doubting_all rs at found wanted l h = by h.left h.rows_are h.found_is
  where
    by : (f : Forest) → drop at rs ≡ rows_of f → found ++ doubts_of f ≡ wanted → found ≡ wanted
    by bare e g = sym (append-nil found) ∙ g
    by (beside x xs) e g = absurd (some_left rs at x xs l e)

-- The first suspect that has such a label.
map-twice : (n k : ℕ) (o : Option ℕ) → option_map (λ j. n + j) (option_map (λ j. k + j) o) ≡ option_map (λ j. (n + k) + j) o
map-twice n k None = refl
map-twice n k (Some j) = ap Some (omega arith)

map-none : (o : Option ℕ) → option_map (λ j. 0 + j) o ≡ o
map-none None = refl
map-none (Some j) = ap Some (omega arith)

map-suc : (o : Option ℕ) → option_map suc o ≡ option_map (λ j. 1 + j) o
map-suc None = refl
map-suc (Some j) = ap Some (omega arith)

module _ (such : Term → Bool) where
  joined-first : (ts xs : Forest) → have_such such ts ≡ true → number_among (to_such such) (joined ts xs) ≡ number_among (to_such such) ts
  joined-first bare xs h = absurd (cc)
  joined-first (beside y ys) xs h =
      by_test (has_such such y)
      (λ t. rw t refl)
      (λ t. let g : have_such such ys ≡ true = rw t at h in rw t (ap (option_map (λ k. nodes y + k)) (joined-first ys xs g)))

  joined-later : (ts xs : Forest) → have_such such ts ≡ false → number_among (to_such such) (joined ts xs) ≡ option_map (λ j. nodes_of ts + j) (number_among (to_such such) xs)
  joined-later bare xs h = sym (map-none (number_among (to_such such) xs))
  joined-later (beside y ys) xs h =
      let b = or_parts (has_such such y) (have_such such ys) h in
      rw b.0 (ap (option_map (λ k. nodes y + k)) (joined-later ys xs b.1) ∙ map-twice (nodes y) (nodes_of ys) (number_among (to_such such) xs))

  -- the first node has no such label: what is below it comes next
  enters-such : (s : Standing) (c : ℕ) (t : Tuple) (ts xs : Forest) → has_such such (node s c t ts) ≡ have_such such ts → (is_open s && such t.head) ≡ false
      → number_among (to_such such) (beside (node s c t ts) xs) ≡ option_map (λ j. 1 + j) (number_among (to_such such) (joined ts xs))
  enters-such s c t ts xs h n =
      by_test (have_such such ts)
      (λ y. rw (h ∙ y, n) (map-suc (number_among (to_such such) ts) ∙ ap (option_map (λ j. 1 + j)) (sym (joined-first ts xs y))))
      (λ y.
      let e : option_map (λ j. (nodes_of ts + 1) + j) (number_among (to_such such) xs) ≡ option_map (λ j. (1 + nodes_of ts) + j) (number_among (to_such such) xs) =
      ap (λ m. option_map (λ j. m + j) (number_among (to_such such) xs)) (one_more (nodes_of ts)) in
      rw (h ∙ y) (e ∙ sym (map-twice 1 (nodes_of ts) (number_among (to_such such) xs)) ∙ ap (option_map (λ j. 1 + j)) (sym (joined-later ts xs y))))
    where
      one_more : (n : ℕ) → n + 1 ≡ 1 + n
      one_more n = omega arith

  passes-such : (x : Tree) (xs : Forest) → has_such such x ≡ false → number_among (to_such such) (beside x xs) ≡ option_map (λ j. nodes x + j) (number_among (to_such such) xs)
  passes-such x xs h = rw h refl

  stops-such : (x : Tree) (xs : Forest) → has_such such x ≡ true → (is_suspect x && such (label x)) ≡ true → number_among (to_such such) (beside x xs) ≡ Some 0
  stops-such x xs h n = rw (h, n) refl

  -- what is left leads to where the whole leads
  pub record Listing (whole : Forest) (rs : List NodeRow) (at : ℕ) : Type 0 where
    pub left : Forest
    pub rows_are : drop at rs ≡ rows_of left
    pub leads : number_among (to_such such) whole ≡ option_map (λ j. at + j) (number_among (to_such such) left)
    pub within : at ≤ length rs

  pub listing_first : (rs : List NodeRow) → rs ≡ rows_of (forest_from rs) → Listing (forest_from rs) rs 0
  listing_first rs e = record { left = forest_from rs; rows_are = e; leads = sym (map-none (number_among (to_such such) (forest_from rs))); within = omega arith }

  pub record ListingAt (whole : Forest) (rs : List NodeRow) (at : ℕ) (r : NodeRow) : Type 0 where
    pub positive : 1 ≤ r.span
    pub fits : at + r.span ≤ length rs
    pub passes : r.standing ≡ Cleared → Listing whole rs (at + r.span)
    pub enters : ¬ (r.standing ≡ Cleared) → (is_open r.standing && such r.tuple.head) ≡ false → Listing whole rs (at + 1)
    pub ends : (is_open r.standing && such r.tuple.head) ≡ true → number_among (to_such such) whole ≡ Some at

  has-is : (s : Standing) (own below : Bool) → ¬ (s ≡ Cleared) → (is_open s && own) ≡ false → has_such_by s own below ≡ below
  has-is Open own below n h = rw h refl
  has-is Cleared own below n h = absurd (n refl)
  has-is Doubted own below n h = refl

  has-own : (s : Standing) (own below : Bool) → (is_open s && own) ≡ true → has_such_by s own below ≡ true
  has-own Open own below h = rw h refl
  has-own Cleared own below h = absurd (cc)
  has-own Doubted own below h = absurd (cc)

  has-none : (s : Standing) (own below : Bool) → s ≡ Cleared → has_such_by s own below ≡ false
  has-none s own below e = ap (λ z. has_such_by z own below) e

  none_at : (at : ℕ) → at + 0 ≡ at
  none_at at = omega arith

  listing_tree : (whole : Forest) (rs : List NodeRow) (at : ℕ) (r : NodeRow) (s : Standing) (c : ℕ) (t : Tuple) (ts xs : Forest)
      → drop at rs ≡ rows_of (beside (node s c t ts) xs) → number_among (to_such such) whole ≡ option_map (λ j. at + j) (number_among (to_such such) (beside (node s c t ts) xs)) → r ≡ get_or rs at r → ListingAt whole rs at r
  listing_tree whole rs at r s c t ts xs e leads is =
      let m = meets rs at r s c t ts xs e is in
      let stands : r.standing ≡ s = ap (λ (q : NodeRow). q.standing) m.own in
      let own : (is_open r.standing && such r.tuple.head) ≡ (is_open s && such t.head) = ap (λ (q : NodeRow). is_open q.standing && such q.tuple.head) m.own in
      let p = m.positive in
      let f = m.fits in
      record {
        positive = p;
        fits = f;
        passes = λ h. record {
          left = xs;
          rows_are = m.past;
          leads =
              leads ∙ ap (option_map (λ j. at + j)) (passes-such (node s c t ts) xs (has-none s (such t.head) (have_such such ts) (sym stands ∙ h)))
              ∙ map-twice at (nodes (node s c t ts)) (number_among (to_such such) xs) ∙ ap (λ n. option_map (λ j. (at + n) + j) (number_among (to_such such) xs)) (sym m.span);
          within = f;
        };
        enters = λ n h.
            let k : ¬ (s ≡ Cleared) = λ z. n (stands ∙ z) in
            let g : (is_open s && such t.head) ≡ false = sym own ∙ h in
            record {
              left = joined ts xs;
              rows_are = m.inside;
              leads =
                  leads ∙ ap (option_map (λ j. at + j)) (enters-such s c t ts xs (has-is s (such t.head) (have_such such ts) k g) g)
                  ∙ map-twice at 1 (number_among (to_such such) (joined ts xs));
              within = omega (arith, p, f);
            };
        ends = λ h.
            let g : (is_open s && such t.head) ≡ true = sym own ∙ h in
            leads ∙ ap (option_map (λ j. at + j)) (stops-such (node s c t ts) xs (has-own s (such t.head) (have_such such ts) g) g) ∙ ap Some (none_at at);
      }

  pub listing_at : (whole : Forest) (rs : List NodeRow) (at : ℕ) (r : NodeRow) → at < length rs → Listing whole rs at → r ≡ get_or rs at r → ListingAt whole rs at r
  listing_at whole rs at r l h is = by h.left h.rows_are h.leads
    where
      by : (f : Forest) → drop at rs ≡ rows_of f → number_among (to_such such) whole ≡ option_map (λ j. at + j) (number_among (to_such such) f) → ListingAt whole rs at r
      by bare e g = absurd (none_there rs at l e)
      by (beside (node s c t ts) xs) e g = listing_tree whole rs at r s c t ts xs e g is

  pub listing_none : (whole : Forest) (rs : List NodeRow) (at : ℕ) → length rs ≤ at → Listing whole rs at → number_among (to_such such) whole ≡ None
  listing_none whole rs at l h = by h.left h.rows_are h.leads
    where
      by : (f : Forest) → drop at rs ≡ rows_of f → number_among (to_such such) whole ≡ option_map (λ j. at + j) (number_among (to_such such) f) → number_among (to_such such) whole ≡ None
      by bare e g = g
      by (beside x xs) e g = absurd (some_left rs at x xs l e)

-- A way that finds a number finds a cut.
abbrev pub is_there : {T : Type 0} → Option T → Bool
is_there None = false
is_there (Some x) = true

there-map : {A B : Type 0} (f : A → B) (o : Option A) → is_there (option_map f o) ≡ is_there o
there-map f None = refl
there-map f (Some x) = refl

mutual
  pub cut-number : (way : Way) (x : Tree) → is_there (cut way x) ≡ is_there (way_number way x)
  cut-number way (node s c t ts) = there-map (at_node (node s c t)) (cut_among way ts) ∙ among-number way ts ∙ sym (there-map suc (number_among way ts))

  among-number : (way : Way) (ts : Forest) → is_there (cut_among way ts) ≡ is_there (number_among way ts)
  among-number way bare = refl
  among-number way (beside x xs) =
      let below = cut-number way x in
      let right = among-number way xs in
      by_test (way.takes x xs)
      (λ t. by_test (way.stops x)
      (λ s. rw (t, s) refl)
      (λ s. rw (t, s) (there-map (in_front_of xs) (cut way x) ∙ below)))
      (λ t. rw t (there-map (behind x) (cut_among way xs) ∙ right ∙ sym (there-map (λ k. nodes x + k) (number_among way xs))))

pub there_none : {T : Type 0} (o : Option T) → is_there o ≡ false → o ≡ None
there_none None e = refl
there_none (Some x) e = absurd (cc)
