-- A clause's goals that are loaded with what stands for its variables, and the instance that comes of it.
use Rattle.std.proofs.Common.{◌≡◌, ℕ, ◌+◌, ◌-◌, ◌<◌, ◌≤◌, true, false, Some, None, List, [], ◌∷◌, ◌++◌, length, get_or, take, map, refl, sym, ◌∙◌, ap, subst, arith}
use Rattle.std.proofs.lemmas.List.{take_all, map_more, map-append}
use Rattle.apd_term.specs.Term.{Term, variable, apply}
use Rattle.apd_term.specs.Substitution.{term_for, followed_by}
use Rattle.apd_term.specs.Tuple.{apply_tuple}
use Rattle.apd_term.specs.declared.tuple.Tuple.{Tuple}
use Rattle.apd_term.proofs.Applying.{apply-followed_by, apply-same}
use Rattle.apd_term.proofs.Tuples.{apply_tuple-followed_by, apply_tuple-variable}
use Rattle.apd_unify.specs.Heads.{HasBody, HasGoneOn, IsLoadedFor, Matches}
use Rattle.apd_unify.specs.Unifier.{IsUnifier, HasNoUnifier}
use Rattle.apd_unify.specs.Cells.{AreCells}
use Rattle.apd_unify.specs.declared.store.Cell.{Cell}
use Rattle.apd_unify.proofs.Bodies.{each_same}
use Rattle.apd_unify.proofs.Fitting.{has_numbers, made_terms}
use Rattle.apd_unify.proofs.Matched.{fits_back, gone_self, gone_trans}
use Rattle.apd_unify.proofs.Turning.{more_cells}
use Rattle.apd_cells.specs.Slots.{AreSlots, Fits, Numbering, value_in}
use Rattle.apd_cells.specs.Stored.{Stored}
use Rattle.apd_cells.specs.Store.{term_at, IsSound}
use Rattle.apd_cells.specs.declared.slots.Slot.{Slot}
use Rattle.apd_trace.specs.Frames.{shifted_tuple}
use Rattle.apd_frames.specs.Links.{instance_of}
use Rattle.apd_frames.specs.Instances.{terms_in, InstantiatesVariant, IsVariant}
use Rattle.apd_frames.proofs.Branching.{inside_more}
use Rattle.apd_frames.proofs.Instancing.{inside_one, terms_same}
use Rattle.apd_frames.proofs.Linking.{tuple_of}

-- so many of the goals were loaded
pub record AreLoadedFor (s s' : Stored) (old new : List Slot) (terms : List Term) (i : ℕ) (cs : List Cell) : Type 0 where
  pub gone : HasGoneOn s s' old new
  pub values : (g : Numbering) → Fits g s' new → (v : ℕ) → value_in s' g.of new v ≡ value_in s g.of old v
  pub others : (c : ℕ) → c < length s.cells → term_at s' c ≡ term_at s c
  pub made : (g : Numbering) → Fits g s' new → terms_in s' cs ≡ map (apply (value_in s' g.of new)) (take i terms)
  pub inside : AreCells (length s'.cells) cs

pub body_none : (s : Stored) (slots : List Slot) (terms : List Term) (cs : List Cell) → AreSlots s.cells s.variables slots → cs ≡ [] → AreLoadedFor s s slots slots terms 0 cs
body_none s slots terms cs h e = rw e (record {
  gone = gone_self s slots h;
  values = λ g f v. refl;
  others = λ c l. refl;
  made = λ g f. refl;
  inside = tt;
})

pub body_more : (s m s' : Stored) (old mid new : List Slot) (terms : List Term) (i : ℕ) (cs out : List Cell) (t : Term) (c : Cell) → AreLoadedFor s m old mid terms i cs
    → i < length terms → t ≡ get_or terms i t → IsLoadedFor m s' mid new t c.0 → out ≡ cs ++ c ∷ [] → AreLoadedFor s s' old new terms (i + 1) out
body_more s m s' old mid new terms i cs out t c h l at k e =
    let n : length s.cells ≤ length m.cells = more_cells s m old mid h.gone in
    let j : length m.cells ≤ length s'.cells = more_cells m s' mid new k.gone in
    rw e (record {
      gone = gone_trans s m s' old mid new h.gone k.gone;
      values = λ g f v. k.values g f v ∙ h.values g (fits_back g m s' mid new h.gone.slots k.gone f) v;
      others = λ d q. k.others d (omega (arith, q, n)) ∙ h.others d q;
      made = λ g f. (let f1 = fits_back g m s' mid new h.gone.slots k.gone f in let w = value_in s' g.of new in
          map-append (λ (d : Cell). term_at s' d.0) cs (c ∷ [])
          ∙ ap (λ ts. ts ++ term_at s' c.0 ∷ [])
          (terms_same m s' cs h.inside k.others ∙ h.made g f1 ∙ each_same (value_in m g.of mid) w (take i terms) (λ v. sym (k.values g f v)))
          ∙ ap (λ x. map (apply w) (take i terms) ++ x ∷ []) (k.made g f ∙ ap (apply w) at)
          ∙ sym (map_more (apply w) terms i t l));
      inside = inside_one (length s'.cells) cs c (inside_more (length m.cells) (length s'.cells) cs j h.inside) k.inside;
    })

pub body_all : (s s' : Stored) (old new : List Slot) (terms : List Term) (i : ℕ) (cs : List Cell) → AreLoadedFor s s' old new terms i cs → length terms ≤ i → HasBody s s' old new terms cs
body_all s s' old new terms i cs h l = record {
  gone = h.gone;
  values = h.values;
  others = h.others;
  made = λ g f. h.made g f ∙ ap (map (apply (value_in s' g.of new))) (take_all i terms l);
  inside = h.inside;
}

tuple_same : (v w : ℕ → Term) (t : Tuple) → ((x : ℕ) → v x ≡ w x) → apply_tuple v t ≡ apply_tuple w t
tuple_same v w t h = ap (λ x. tuple_of x (map (apply v) t.body)) (apply-same v w h t.head) ∙ ap (tuple_of (apply w t.head)) (each_same v w t.body h)

-- the clause by the numbers of its variables, counted from n
abbrev numbered_by : Numbering → ℕ → Tuple → Tuple
numbered_by g n rule = apply_tuple (λ v. variable (g.of v - n)) rule

raised_back : (g : Numbering) (n : ℕ) → ((v : ℕ) → n ≤ g.of v) → (v : ℕ) → n + (g.of v - n) ≡ g.of v
raised_back g n h v = (let l = h v in omega arith)

-- raised by n it has these numbers
raised_by : (g : Numbering) (n : ℕ) (rule : Tuple) → ((v : ℕ) → n ≤ g.of v) → shifted_tuple n (numbered_by g n rule) ≡ apply_tuple (λ v. variable (g.of v)) rule
raised_by g n rule h =
    apply_tuple-followed_by (λ v. variable (g.of v - n)) (λ v. variable (n + v)) rule
    ∙ tuple_same (followed_by (λ v. variable (g.of v - n)) (λ v. variable (n + v))) (λ v. variable (g.of v)) rule (λ v. ap variable (raised_back g n h v))

is_variant : (g : Numbering) (n : ℕ) (rule : Tuple) → ((v : ℕ) → n ≤ g.of v) → IsVariant rule (numbered_by g n rule)
is_variant g n rule h = record {
  there = λ v. variable (g.of v - n);
  back = λ w. variable (g.back (n + w));
  makes = refl;
  unmakes = apply_tuple-followed_by (λ v. variable (g.of v - n)) (λ w. variable (g.back (n + w))) rule
      ∙ tuple_same (followed_by (λ v. variable (g.of v - n)) (λ w. variable (g.back (n + w)))) variable rule (λ v. ap variable (ap g.back (raised_back g n h v) ∙ g.same v))
      ∙ apply_tuple-variable rule;
}

-- the head doesn't unify with the goal
pub not_entered : (s s' : Stored) (slots : List Slot) (goal : ℕ) (rule : Tuple) → HasGoneOn s s' [] slots → Matches false s s' [] slots goal rule.head → InstantiatesVariant None s s' goal rule
not_entered s s' slots goal rule gone m =
    let k = has_numbers s s' slots gone in record {
      variant = numbered_by k.numbers s.variables rule;
      renamed = is_variant k.numbers s.variables rule k.above;
      is = subst (HasNoUnifier (term_at s goal)) (sym (ap (λ (t : Tuple). t.head) (raised_by k.numbers s.variables rule k.above))) (m k.numbers k.fit);
    }

map_values : (v w : ℕ → Term) (qs : List (ℕ × Term)) (ts : List Term) → ((x : ℕ) → w x ≡ apply (term_for qs) (v x)) → map (apply w) ts ≡ map (apply (term_for qs)) (map (apply v) ts)
map_values v w qs [] h = refl
map_values v w qs (t ∷ ts) h =
    ap (λ x. x ∷ map (apply w) ts) (apply-same w (followed_by v (term_for qs)) h t ∙ sym (apply-followed_by v (term_for qs) t))
    ∙ ap (λ xs. apply (term_for qs) (apply v t) ∷ xs) (map_values v w qs ts h)

-- the instance of the clause has the goal's own cell as its head
pub entered_by_goal : (s s' s'' : Stored) (slots slots' : List Slot) (goal : Cell) (goals : List Cell) (rule : Tuple) → IsSound s → goal.0 < length s.cells → HasGoneOn s s' [] slots
    → Matches true s s' [] slots goal.0 rule.head → HasBody s' s'' slots slots' rule.body goals → InstantiatesVariant (Some (instance_of goal goals)) s s'' goal.0 rule
entered_by_goal s s' s'' slots slots' goal goals rule store l gone m b =
    let k = has_numbers s s'' slots' (gone_trans s s' s'' [] slots slots' gone b.gone) in
    let g = k.numbers in
    let f = fits_back g s' s'' slots slots' gone.slots b.gone k.fit in
    let u = m g f in
    let p = term_for u.pairs in
    let v = value_in s g.of [] in
    let raised : shifted_tuple s.variables (numbered_by g s.variables rule) ≡ apply_tuple v rule = raised_by g s.variables rule k.above in
    let n : length s.cells ≤ length s'.cells = more_cells s s' [] slots gone in
    let j : length s'.cells ≤ length s''.cells = more_cells s' s'' slots slots' b.gone in
    let made : (c : ℕ) → c < length s.cells → term_at s'' c ≡ apply p (term_at s c) = λ c q. b.others c (omega (arith, q, n)) ∙ made_terms g s s' [] slots u.pairs store gone u.made c q in
    record {
      variant = numbered_by g s.variables rule;
      renamed = is_variant g s.variables rule k.above;
      is = record {
        pairs = u.pairs;
        unifier = subst (λ (t : Tuple). IsUnifier (term_at s goal.0) t.head u.pairs) (sym raised) u.unifier;
        made = made;
        tuple = ap (λ t. tuple_of t (terms_in s'' goals)) (made goal.0 l ∙ u.unifier.unifies)
            ∙ ap (tuple_of (apply p (apply v rule.head)))
            (b.made g k.fit ∙ map_values v (value_in s'' g.of slots') u.pairs rule.body (λ x. b.values g k.fit x ∙ u.made.values x))
            ∙ ap (apply_tuple p) (sym raised);
        inside = record { head = omega (arith, l, n, j); goals = b.inside };
      };
    }
