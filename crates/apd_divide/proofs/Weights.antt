-- What a choice and its reply leave of the suspects.
use Rattle.std.proofs.Common.{◌≡◌, ℕ, ◌+◌, ◌-◌, ◌*◌, ◌<◌, ◌≤◌, ◌&&◌, Bool, true, false, max, List, [], ◌∷◌, ◌++◌, Option, Some, None, refl, sym, ◌∙◌, ap, subst, arith}
use Rattle.std.specs.Prelude.{nat_le, ◌==◌}
use Rattle.std.specs.Option.{option_map}
use Rattle.std.proofs.lemmas.Bool.Decides.{nat_tests}
use Rattle.std.proofs.lemmas.Bool.{and_parts}
use Rattle.apd_term.specs.Term.{Term}
use Rattle.apd_term.specs.declared.instance.Instance.{Instance}
use Rattle.apd_record.proofs.Shaped.{mapped}
use Rattle.apd_divide.specs.declared.node.Standing.{Standing}
use Rattle.apd_divide.specs.declared.node.Standing.TheVariants.{Open, Cleared, Doubted}
use Rattle.apd_divide.specs.declared.node.Verdict.{Verdict}
use Rattle.apd_divide.specs.declared.node.Verdict.TheVariants.{True, False, Unknown}
use Rattle.apd_divide.specs.declared.node.Strategy.{Strategy}
use Rattle.apd_divide.specs.declared.node.Strategy.TheVariants.{Divide, Single, Top}
use Rattle.apd_divide.specs.Tree.{Tree, Forest, node, bare, beside, standing, marked, is_suspect, label, weight, weight_by, lost_by, weights, suspects, heaviest, width, branching, branchings, doubts, doubts_of, IsUndoubted}
use Rattle.apd_divide.specs.Choice.{Cut, Among, Way, at_node, in_front_of, behind, here, cut, cut_among, has_such, have_such, to_such, first_such, has_suspects, half, halving, stepping, top_down, way_of, choice, judged}

-- the two values of a test
pub by_test : {C : Type 0} (b : Bool) → (b ≡ true → C) → (b ≡ false → C) → C
by_test true f g = f refl
by_test false f g = g refl

pub le_true : (a b : ℕ) → nat_le a b ≡ true → a ≤ b
le_true a b e = grind (arith, nat_tests)

pub le_false : (a b : ℕ) → nat_le a b ≡ false → b < a
le_false a b e = grind (arith, nat_tests)

-- what a suspect loses
weight_marked : (s : Standing) (below : ℕ) → weight_by s below + lost_by s (below + 1) ≡ below + 1
weight_marked Open below = omega arith
weight_marked Cleared below = omega arith
weight_marked Doubted below = omega arith

pub weight-marked : (s : Standing) (x : Tree) → is_suspect x ≡ true → weight (marked s x) + lost_by s (weight x) ≡ weight x
weight-marked s (node Open c t ts) h = weight_marked s (weights ts)
weight-marked s (node Cleared c t ts) h = absurd (cc)
weight-marked s (node Doubted c t ts) h = absurd (cc)

-- a suspect weighs one more than what is below it
pub weight-suspect : (x : Tree) → is_suspect x ≡ true → weight x ≡ suspects x + 1
weight-suspect (node Open c t ts) h = refl
weight-suspect (node Cleared c t ts) h = absurd (cc)
weight-suspect (node Doubted c t ts) h = absurd (cc)

-- another node with suspects as much
pub weight-other : (x : Tree) → 1 ≤ weight x → is_suspect x ≡ false → weight x ≡ suspects x
weight-other (node Open c t ts) h e = absurd (cc)
weight-other (node Cleared c t ts) h e = absurd (omega (arith, h))
weight-other (node Doubted c t ts) h e = refl

-- a way that takes only nodes with suspects, and stops only at suspects
pub record TakesSuspects (way : Way) : Type 0 where
  pub some : (x : Tree) (xs : Forest) → way.takes x xs ≡ true → 1 ≤ weight x
  pub suspect : (x : Tree) → 1 ≤ weight x → way.stops x ≡ true → is_suspect x ≡ true

-- where a node was found: here, below the first node, or beside it
pub data Found (way : Way) (x : Tree) (xs : Forest) (a : Among) : Type 0 where
  stopped : way.takes x xs ≡ true → way.stops x ≡ true → here x xs ≡ a → Found way x xs a
  down : way.takes x xs ≡ true → way.stops x ≡ false → (c : Cut) → cut way x ≡ Some c → in_front_of xs c ≡ a → Found way x xs a
  along : way.takes x xs ≡ false → (b : Among) → cut_among way xs ≡ Some b → behind x b ≡ a → Found way x xs a

pub found : (way : Way) (x : Tree) (xs : Forest) (a : Among) → cut_among way (beside x xs) ≡ Some a → Found way x xs a
found way x xs a e =
    by_test (way.takes x xs)
    (λ t. by_test (way.stops x)
    (λ s. let f : Some (here x xs) ≡ Some a = rw (t, s) at e in stopped t s (cc))
    (λ s.
    let f : option_map (in_front_of xs) (cut way x) ≡ Some a = rw (t, s) at e in
    let m = mapped (in_front_of xs) (cut way x) a f in
    down t s m.0 m.1 m.2))
    (λ t.
    let f : option_map (behind x) (cut_among way xs) ≡ Some a = rw t at e in
    let m = mapped (behind x) (cut_among way xs) a f in
    along t m.0 m.1 m.2)

-- a cut leaves the root as it was judged
cut_open : (way : Way) (v : Standing) (x : Tree) (c : Cut) → cut way x ≡ Some c → standing (c.rest v) ≡ standing x
cut_open way v (node s n t ts) c e =
    let m = mapped (at_node (node s n t)) (cut_among way ts) c e in
    subst (λ (d : Cut). standing (d.rest v) ≡ s) m.2 refl

weight_of : (x : Tree) → weight x ≡ weight_by (standing x) (suspects x)
weight_of (node s n t ts) = refl

-- of a node with a suspect, once something below it is judged
down_sum : (x y : Tree) (w others : ℕ) → 1 ≤ weight x → standing y ≡ standing x → suspects y + w ≡ suspects x → (weight y + others) + w ≡ weight x + others
down_sum (node Open n t ts) y w others h s e =
    let f : weight y ≡ suspects y + 1 = weight_of y ∙ ap (λ k. weight_by k (suspects y)) s in
    omega (arith, e, f)
down_sum (node Cleared n t ts) y w others h s e = absurd (omega (arith, h))
down_sum (node Doubted n t ts) y w others h s e =
    let f : weight y ≡ suspects y = weight_of y ∙ ap (λ k. weight_by k (suspects y)) s in
    omega (arith, e, f)

-- what is chosen is a suspect, and the rest are what is left as it is judged
pub record Splits (chosen : Tree) (whole : ℕ) (rest : Standing → ℕ) : Type 0 where
  pub suspect : is_suspect chosen ≡ true
  pub sum : (v : Standing) → rest v + lost_by v (weight chosen) ≡ whole

mutual
  pub cut-splits : (way : Way) → TakesSuspects way → (x : Tree) (c : Cut) → cut way x ≡ Some c → Splits c.chosen (suspects x) (λ v. suspects (c.rest v))
  cut-splits way h (node s n t ts) c e =
      let m = mapped (at_node (node s n t)) (cut_among way ts) c e in
      let k = cut_among-splits way h ts m.0 m.1 in
      subst (λ (d : Cut). Splits d.chosen (weights ts) (λ v. suspects (d.rest v))) m.2 (record { suspect = k.suspect; sum = k.sum })

  pub cut_among-splits : (way : Way) → TakesSuspects way → (ts : Forest) (a : Among) → cut_among way ts ≡ Some a → Splits a.chosen (weights ts) (λ v. weights (a.rest v))
  cut_among-splits way h bare a e = absurd (cc)
  cut_among-splits way h (beside x xs) a e = elim (found way x xs a e) [
    | stopped t s f ↦
        let p = h.suspect x (h.some x xs t) s in
        subst (λ (d : Among). Splits d.chosen (weight x + weights xs) (λ v. weights (d.rest v))) f
        (record { suspect = p; sum = λ v. let z = weight-marked v x p in omega (arith, z) })
    | down t s c g f ↦
        let k = cut-splits way h x c g in
        subst (λ (d : Among). Splits d.chosen (weight x + weights xs) (λ v. weights (d.rest v))) f
        (record { suspect = k.suspect; sum = λ v. down_sum x (c.rest v) (lost_by v (weight c.chosen)) (weights xs) (h.some x xs t) (cut_open way v x c g) (k.sum v) })
    | along t b g f ↦
        let k = cut_among-splits way h xs b g in
        subst (λ (d : Among). Splits d.chosen (weight x + weights xs) (λ v. weights (d.rest v))) f
        (record { suspect = k.suspect; sum = λ v. let z = k.sum v in omega (arith, z) })
  ]

-- a way that finds a suspect wherever there is one
pub record Finds (way : Way) : Type 0 where
  pub suspect : TakesSuspects way
  pub deep : (x : Tree) → 1 ≤ weight x → way.stops x ≡ false → 1 ≤ suspects x
  pub wide : (x : Tree) (xs : Forest) → 1 ≤ weight x → way.takes x xs ≡ false → 1 ≤ weights xs

later : (way : Way) (x : Tree) (xs : Forest) → Finds way → 1 ≤ weights (beside x xs) → way.takes x xs ≡ false → 1 ≤ weights xs
later way x xs f h t = by_test (nat_le 1 (weight x)) (λ e. f.wide x xs (le_true 1 (weight x) e) t) (λ e. let l = le_false 1 (weight x) e in omega arith)

some_here : (way : Way) (x : Tree) (xs : Forest) → Finds way → 1 ≤ weights (beside x xs)
    → (1 ≤ suspects x → (c : Cut) × (cut way x ≡ Some c)) → (1 ≤ weights xs → (a : Among) × (cut_among way xs ≡ Some a))
    → (a : Among) × (cut_among way (beside x xs) ≡ Some a)
some_here way x xs f h below right =
    by_test (way.takes x xs)
    (λ t. by_test (way.stops x)
    (λ s. (here x xs, rw (t, s) refl))
    (λ s. let k = below (f.deep x (f.suspect.some x xs t) s) in (in_front_of xs k.0, rw (t, s) (ap (option_map (in_front_of xs)) k.1))))
    (λ t. let k = right (later way x xs f h t) in (behind x k.0, rw t (ap (option_map (behind x)) k.1)))

-- where there is a suspect, one is chosen
mutual
  pub cut-some : (way : Way) → Finds way → (x : Tree) → 1 ≤ suspects x → (c : Cut) × (cut way x ≡ Some c)
  cut-some way f (node s n t ts) h =
      let k = cut_among-some way f ts h in
      (at_node (node s n t) k.0, ap (option_map (at_node (node s n t))) k.1)

  pub cut_among-some : (way : Way) → Finds way → (ts : Forest) → 1 ≤ weights ts → (a : Among) × (cut_among way ts ≡ Some a)
  cut_among-some way f bare h = absurd (omega arith)
  cut_among-some way f (beside x xs) h = some_here way x xs f h (λ g. cut-some way f x g) (λ g. cut_among-some way f xs g)

pub heaviest_weights : (ts : Forest) → heaviest ts ≤ weights ts
heaviest_weights bare = omega arith
heaviest_weights (beside x xs) = let h = heaviest_weights xs in omega (arith, h)

and_false : (a b : Bool) → a ≡ true → (a && b) ≡ false → b ≡ false
and_false true b e f = f
and_false false b e f = absurd (cc)

pub le_is : (a b : ℕ) → a ≤ b → nat_le a b ≡ true
le_is a b h = grind (arith, nat_tests)

pub half_positive : (u : ℕ) → 1 ≤ u → 1 ≤ half u
half_positive u h = omega arith

pub halving-takes : (most : ℕ) (x : Tree) (xs : Forest) → (halving most).takes x xs ≡ true → (1 ≤ weight x) × (heaviest xs ≤ weight x)
halving-takes most x xs t =
    let p = and_parts (has_suspects x) (nat_le (heaviest xs) (weight x)) t in
    (le_true 1 (weight x) p.0, le_true (heaviest xs) (weight x) p.1)

pub halving-leaves : (most : ℕ) (x : Tree) (xs : Forest) → 1 ≤ weight x → (halving most).takes x xs ≡ false → weight x < heaviest xs
halving-leaves most x xs h t = le_false (heaviest xs) (weight x) (and_false (has_suspects x) (nat_le (heaviest xs) (weight x)) (le_is 1 (weight x) h) t)

pub halving-suspects : (most : ℕ) → TakesSuspects (halving most)
halving-suspects most = record {
  some = λ x xs t. (halving-takes most x xs t).0;
  suspect = λ x h s. (and_parts (is_suspect x) (nat_le (weight x) most) s).0;
}

-- a suspect at which divide and query doesn't stop is heavier
pub halving-heavy : (most : ℕ) (x : Tree) → is_suspect x ≡ true → (halving most).stops x ≡ false → most < weight x
halving-heavy most x o s = le_false (weight x) most (and_false (is_suspect x) (nat_le (weight x) most) o s)

pub halving-deep : (most : ℕ) → 1 ≤ most → (x : Tree) → 1 ≤ weight x → (halving most).stops x ≡ false → 1 ≤ suspects x
halving-deep most m x h s =
    by_test (is_suspect x)
    (λ o. let l = halving-heavy most x o s in let w = weight-suspect x o in omega (arith, l, w, m))
    (λ o. let w = weight-other x h o in omega (arith, w, h))

pub halving-finds : (most : ℕ) → 1 ≤ most → Finds (halving most)
halving-finds most m = record {
  suspect = halving-suspects most;
  deep = halving-deep most m;
  wide = λ x xs h t. let l = halving-leaves most x xs h t in let w = heaviest_weights xs in omega (arith, l, w, h);
}

not_zero : (n : ℕ) → (n == 0) ≡ false → 1 ≤ n
not_zero n e = grind (arith, nat_tests)

absurd_takes : (x : Tree) (xs : Forest) → 1 ≤ weight x → has_suspects x ≡ false → 1 ≤ weights xs
absurd_takes x xs h t = let l = le_false 1 (weight x) t in absurd (omega (arith, l, h))

zero_is : (n : ℕ) → (n == 0) ≡ true → n ≡ 0
zero_is n e = grind (arith, nat_tests)

-- where no suspect is below a node with one, it is one itself
lowest-suspect : (x : Tree) → 1 ≤ weight x → (suspects x == 0) ≡ true → is_suspect x ≡ true
lowest-suspect x h s =
    by_test (is_suspect x)
    (λ o. o)
    (λ o. let z = zero_is (suspects x) s in let w = weight-other x h o in absurd (omega (arith, z, w, h)))

pub stepping-finds : Finds stepping
stepping-finds = record {
  suspect = record { some = λ x xs t. le_true 1 (weight x) t; suspect = lowest-suspect };
  deep = λ x h s. not_zero (suspects x) s;
  wide = λ x xs h t. absurd_takes x xs h t;
}

pub top_down-finds : Finds top_down
top_down-finds = record {
  suspect = record { some = λ x xs t. le_true 1 (weight x) t; suspect = λ x h s. s };
  deep = λ x h s. let w = weight-other x h s in omega (arith, w, h);
  wide = λ x xs h t. absurd_takes x xs h t;
}

pub way-finds : (strategy : Strategy) (u : ℕ) → 1 ≤ u → Finds (way_of strategy u)
way-finds Divide u h = halving-finds (half u) (half_positive u h)
way-finds Single u h = stepping-finds
way-finds Top u h = top_down-finds

-- each strategy takes suspects alone
pub way-takes : (strategy : Strategy) (u : ℕ) → TakesSuspects (way_of strategy u)
way-takes Divide u = halving-suspects (half u)
way-takes Single u = stepping-finds.suspect
way-takes Top u = top_down-finds.suspect

-- a choice takes a suspect, and as it is judged those below it, away from the others
pub choice-splits : (strategy : Strategy) (x : Tree) (c : Cut) → choice strategy x ≡ Some c → Splits c.chosen (suspects x) (λ v. suspects (c.rest v))
choice-splits strategy x c e = cut-splits (way_of strategy (suspects x)) (way-takes strategy (suspects x)) x c e

-- the same in numbers
pub record Shares (w whole rest below : ℕ) : Type 0 where
  pub some : 1 ≤ w
  pub sum : rest + w ≡ whole
  pub one : below + 1 ≡ w

pub choice-shares : (strategy : Strategy) (x : Tree) (c : Cut) → choice strategy x ≡ Some c → Shares (weight c.chosen) (suspects x) (suspects (c.rest Cleared)) (suspects c.chosen)
choice-shares strategy x c e =
    let k = choice-splits strategy x c e in
    let w = weight-suspect c.chosen k.suspect in
    record { some = omega (arith, w); sum = k.sum Cleared; one = sym w }

pub choice-some : (strategy : Strategy) (x : Tree) → 1 ≤ suspects x → (c : Cut) × (choice strategy x ≡ Some c)
choice-some strategy x h = cut-some (way_of strategy (suspects x)) (way-finds strategy (suspects x) h) x h

-- each verdict leaves fewer suspects
pub choice-lowers : (strategy : Strategy) (x : Tree) (c : Cut) (v : Verdict) → choice strategy x ≡ Some c → suspects (judged c v) < suspects x
choice-lowers strategy x c True e = let k = choice-shares strategy x c e in omega (arith, k.some, k.sum)
choice-lowers strategy x c False e = let k = choice-shares strategy x c e in omega (arith, k.some, k.sum, k.one)
choice-lowers strategy x c Unknown e = let k = (choice-splits strategy x c e).sum Doubted in omega (arith, k)

pub choice-none : (strategy : Strategy) (x : Tree) → choice strategy x ≡ None → suspects x ≡ 0
choice-none strategy x e = by_test (nat_le 1 (suspects x))
    (λ t. let k = choice-some strategy x (le_true 1 (suspects x) t) in let f = sym e ∙ k.1 in absurd (cc))
    (λ t. let l = le_false 1 (suspects x) t in omega (arith, l))

pub none-choice : (strategy : Strategy) (x : Tree) → suspects x ≡ 0 → choice strategy x ≡ None
none-choice strategy x z = by (choice strategy x) refl
  where
    by : (o : Option Cut) → choice strategy x ≡ o → o ≡ None
    by None e = refl
    by (Some c) e = let k = choice-shares strategy x c e in absurd (omega (arith, k.some, k.sum, z))

-- The first suspect that has such a label.
mutual
  has_such-weighs : (such : Term → Bool) (x : Tree) → has_such such x ≡ true → 1 ≤ weight x
  has_such-weighs such (node Open c t ts) h = omega arith
  has_such-weighs such (node Cleared c t ts) h = absurd (cc)
  has_such-weighs such (node Doubted c t ts) h = have_such-weigh such ts h

  have_such-weigh : (such : Term → Bool) (ts : Forest) → have_such such ts ≡ true → 1 ≤ weights ts
  have_such-weigh such bare h = absurd (cc)
  have_such-weigh such (beside x xs) h =
      by_test (has_such such x)
      (λ t. let w = has_such-weighs such x t in omega (arith, w))
      (λ t. let w = have_such-weigh such xs (rw t at h) in omega (arith, w))

pub such-suspects : (such : Term → Bool) → TakesSuspects (to_such such)
such-suspects such = record {
  some = λ x xs t. has_such-weighs such x t;
  suspect = λ x h s. (and_parts (is_suspect x) (such (label x)) s).0;
}

pub such-lowers : (such : Term → Bool) (x : Tree) (c : Cut) → first_such such x ≡ Some c → suspects (c.rest Cleared) < suspects x
such-lowers such x c e =
    let k = cut-splits (to_such such) (such-suspects such) x c e in
    let w = weight-suspect c.chosen k.suspect in
    let s = k.sum Cleared in
    omega (arith, s, w)

-- what a way stops at
mutual
  pub cut-stops : (way : Way) (x : Tree) (c : Cut) → cut way x ≡ Some c → way.stops c.chosen ≡ true
  cut-stops way (node s n t ts) c e =
      let m = mapped (at_node (node s n t)) (cut_among way ts) c e in
      subst (λ (d : Cut). way.stops d.chosen ≡ true) m.2 (cut_among-stops way ts m.0 m.1)

  cut_among-stops : (way : Way) (ts : Forest) (a : Among) → cut_among way ts ≡ Some a → way.stops a.chosen ≡ true
  cut_among-stops way bare a e = absurd (cc)
  cut_among-stops way (beside x xs) a e = elim (found way x xs a e) [
    | stopped t s f ↦ subst (λ (d : Among). way.stops d.chosen ≡ true) f s
    | down t s c g f ↦ subst (λ (d : Among). way.stops d.chosen ≡ true) f (cut-stops way x c g)
    | along t b g f ↦ subst (λ (d : Among). way.stops d.chosen ≡ true) f (cut_among-stops way xs b g)
  ]

pub such-label : (such : Term → Bool) (x : Tree) (c : Cut) → first_such such x ≡ Some c → such (label c.chosen) ≡ true
such-label such x c e = (and_parts (is_suspect c.chosen) (such (label c.chosen)) (cut-stops (to_such such) x c e)).1

sum_times : (a d c : ℕ) → a * c ≤ (a + d) * c
sum_times a d c = omega arith

times_le : (a b c : ℕ) → a ≤ b → a * c ≤ b * c
times_le a b c h = let e : a + (b - a) ≡ b = omega arith in subst (λ n. a * c ≤ n * c) e (sum_times a (b - a) c)

times_le_right : (a b c : ℕ) → a ≤ b → c * a ≤ c * b
times_le_right a b c h = let e = times_le a b c h in omega (arith, e)

share_more : (w v m h k : ℕ) → w ≤ m → h ≤ m → v ≤ h * k → w + v ≤ m * (k + 1)
share_more w v m h k a b l = let t = times_le h m k b in omega (arith, a, l, t)

-- The fraction of divide and query: the heaviest of at most b children has at least one in b of the suspects
heaviest_share : (ts : Forest) → weights ts ≤ heaviest ts * width ts
heaviest_share bare = omega arith
heaviest_share (beside x xs) =
    share_more (weight x) (weights xs) (max (weight x) (heaviest xs)) (heaviest xs) (width xs) (omega arith) (omega arith) (heaviest_share xs)

-- the weight that divide and query chooses
pub record IsShare (b most w : ℕ) : Type 0 where
  pub below : w ≤ most
  pub above : most ≤ w * b

leaves_heavier : (most : ℕ) (x : Tree) (xs : Forest) → (halving most).takes x xs ≡ false → weight x ≤ heaviest xs
leaves_heavier most x xs t =
    by_test (nat_le 1 (weight x))
    (λ e. let l = halving-leaves most x xs (le_true 1 (weight x) e) t in omega (arith, l))
    (λ e. let l = le_false 1 (weight x) e in omega (arith, l))

heavy_here : (b most w v : ℕ) → v ≤ w → most ≤ max w v * b → most ≤ w * b
heavy_here b most w v h l = let e : max w v ≡ w = omega arith in subst (λ n. most ≤ n * b) e l

heavy_later : (b most : ℕ) (x : Tree) (xs : Forest) → (halving most).takes x xs ≡ false → most ≤ max (weight x) (heaviest xs) * b → most ≤ heaviest xs * b
heavy_later b most x xs t l = let g = leaves_heavier most x xs t in let e : max (weight x) (heaviest xs) ≡ heaviest xs = omega (arith, g) in subst (λ n. most ≤ n * b) e l

widest : (b most : ℕ) (ts : Forest) → width ts ≤ b → most ≤ weights ts → most ≤ heaviest ts * b
widest b most ts h l = let k = heaviest_share ts in let m = times_le_right (width ts) b (heaviest ts) h in omega (arith, k, m, l)

-- no live node is judged unknown: none of the first subtree, and none of the others
none_of : (xs ys : List Instance) → xs ++ ys ≡ [] → (xs ≡ []) × (ys ≡ [])
none_of [] ys e = (refl, e)
none_of (x ∷ xs) ys e = absurd (cc)

-- so a node with suspects is one
undoubted-suspect : (x : Tree) → 1 ≤ weight x → doubts x ≡ [] → (is_suspect x ≡ true) × IsUndoubted x
undoubted-suspect (node Open c t ts) h e = (refl, e)
undoubted-suspect (node Cleared c t ts) h e = absurd (omega (arith, h))
undoubted-suspect (node Doubted c t ts) h e = absurd (cc)

mutual
  pub share : (b most : ℕ) → (x : Tree) → IsUndoubted x → branching x ≤ b → most ≤ suspects x → (c : Cut) → cut (halving most) x ≡ Some c → IsShare b most (weight c.chosen)
  share b most (node s n t ts) u h l c e =
      let m = mapped (at_node (node s n t)) (cut_among (halving most) ts) c e in
      subst (λ (d : Cut). IsShare b most (weight d.chosen)) m.2 (share_among b most ts u (omega (arith, h)) (widest b most ts (omega (arith, h)) l) m.0 m.1)

  pub share_among : (b most : ℕ) → (ts : Forest) → doubts_of ts ≡ [] → branchings ts ≤ b → most ≤ heaviest ts * b → (a : Among) → cut_among (halving most) ts ≡ Some a → IsShare b most (weight a.chosen)
  share_among b most bare u h l a e = absurd (cc)
  share_among b most (beside x xs) u h l a e =
      let v = none_of (doubts x) (doubts_of xs) u in
      elim (found (halving most) x xs a e) [
        | stopped t s f ↦
            let k = halving-takes most x xs t in
            let o = (and_parts (is_suspect x) (nat_le (weight x) most) s).1 in
            subst (λ (d : Among). IsShare b most (weight d.chosen)) f (record { below = le_true (weight x) most o; above = heavy_here b most (weight x) (heaviest xs) k.1 l })
        | down t s c g f ↦
            let k = halving-takes most x xs t in
            let i = undoubted-suspect x k.0 v.0 in
            let w = weight-suspect x i.0 in
            let o = halving-heavy most x i.0 s in
            subst (λ (d : Among). IsShare b most (weight d.chosen)) f (share b most x i.1 (omega (arith, h)) (omega (arith, w, o)) c g)
        | along t d g f ↦
            subst (λ (d : Among). IsShare b most (weight d.chosen)) f (share_among b most xs v.1 (omega (arith, h)) (heavy_later b most x xs t l) d g)
      ]

-- what divide and query chooses of u suspects, where no live node is judged unknown: at most half, and at least one in b of
-- the half
pub choice-share : (x : Tree) (b : ℕ) (c : Cut) → IsUndoubted x → branching x ≤ b → choice Divide x ≡ Some c → IsShare b (half (suspects x)) (weight c.chosen)
choice-share x b c u h e =
    let k = choice-shares Divide x c e in
    share b (half (suspects x)) x u h (omega (arith, k.some, k.sum)) c e

left_true : (c rest w h : ℕ) → rest + w ≤ 2 * h → h ≤ w * (c + 1) → 2 * (c + 1) * rest ≤ (2 * c + 1) * (rest + w)
left_true c rest w h a l = omega (arith, a, l)

left_false : (c v d : ℕ) → 2 * (c + 1) * v ≤ (2 * c + 1) * (2 * v + 1 + d)
left_false c v d = omega arith

half_twice : (u : ℕ) → u ≤ 2 * half u
half_twice u = omega arith

twice_half : (u : ℕ) → 2 * half u ≤ u + 1
twice_half u = omega arith

-- of u suspects, w are in the chosen subtree
fraction_true : (b u w rest : ℕ) → 1 ≤ b → rest + w ≡ u → half u ≤ w * b → 2 * b * rest ≤ (2 * b - 1) * u
fraction_true b u w rest p e l =
    let c = b - 1 in
    let f : c + 1 ≡ b = omega (arith, p) in
    let g : 2 * c + 1 ≡ 2 * b - 1 = omega (arith, p) in
    let t : 2 * (c + 1) * rest ≤ (2 * c + 1) * (rest + w) =
    left_true c rest w (half u) (let z = half_twice u in omega (arith, z, e)) (subst (λ n. half u ≤ w * n) (sym f) l) in
    subst (λ n. 2 * n * rest ≤ (2 * b - 1) * u) f (subst (λ n. 2 * (c + 1) * rest ≤ n * u) g (subst (λ n. 2 * (c + 1) * rest ≤ (2 * c + 1) * n) e t))

fraction_false : (b u w : ℕ) → 1 ≤ b → 1 ≤ w → w ≤ u → w ≤ half u → 2 * b * (w - 1) ≤ (2 * b - 1) * u
fraction_false b u w p o s l =
    let c = b - 1 in
    let v = w - 1 in
    let d = u - (2 * v + 1) in
    let f : c + 1 ≡ b = omega (arith, p) in
    let g : 2 * c + 1 ≡ 2 * b - 1 = omega (arith, p) in
    let e : 2 * v + 1 + d ≡ u = let z = twice_half u in omega (arith, z, l, o) in
    subst (λ n. 2 * n * v ≤ (2 * b - 1) * u) f (subst (λ n. 2 * (c + 1) * v ≤ n * u) g (subst (λ n. 2 * (c + 1) * v ≤ (2 * c + 1) * n) e (left_false c v d)))

-- yes and no to a question of divide and query each leave at most (2b - 1) / (2b) of the suspects then
pub choice-fraction : (x : Tree) (b : ℕ) (c : Cut) (v : Verdict) → IsUndoubted x → ¬ (v ≡ Unknown) → 1 ≤ b → branching x ≤ b → choice Divide x ≡ Some c → 2 * b * suspects (judged c v) ≤ (2 * b - 1) * suspects x
choice-fraction x b c True u n p h e =
    let k = choice-shares Divide x c e in
    fraction_true b (suspects x) (weight c.chosen) (suspects (c.rest Cleared)) p k.sum (choice-share x b c u h e).above
choice-fraction x b c False u n p h e =
    let k = choice-shares Divide x c e in
    let w = k.one in
    let f : suspects c.chosen ≡ weight c.chosen - 1 = omega (arith, w) in
    subst (λ n. 2 * b * n ≤ (2 * b - 1) * suspects x) (sym f)
    (fraction_false b (suspects x) (weight c.chosen) p k.some (omega (arith, k.sum)) (choice-share x b c u h e).below)
choice-fraction x b c Unknown u n p h e = absurd (n refl)
