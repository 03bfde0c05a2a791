-- The sizes and variables of terms that are seen part by part.
use Rattle.std.proofs.Common.{◌≡◌, ℕ, zero, suc, ◌+◌, ◌-◌, ◌<◌, ◌≤◌, List, [], ◌∷◌, ◌++◌, length, get_or, take, drop, refl, sym, ◌∙◌, ap, subst, arith, true, false, Bool, Option, Some, None}
use Rattle.std.specs.Prelude.{not, nat_eq}
use Rattle.std.proofs.lemmas.Bool.Decides.{nat_tests}
use Rattle.std.specs.List.{flat_map}
use Rattle.std.specs.Bool.{OnTrue}
use Rattle.std.proofs.lemmas.Bool.{OnTrue_at, OnTrue_from}
use Rattle.std.proofs.lemmas.List.{map_more, take_all}
use Rattle.std.proofs.lemmas.List.Concat.{flat_map-append}
use Rattle.apd_term.specs.Term.{variables, IsGround}
use Rattle.apd_term.specs.Tuple.{variables_of_tuple}
use Rattle.apd_unify.specs.declared.store.Cell.{Cell}
use Rattle.apd_cells.specs.declared.known.Extent.{Extent}
use Rattle.apd_cells.specs.Stored.{Stored}
use Rattle.apd_cells.specs.Store.{term_at, SizeWithin}
use Rattle.apd_resolved.specs.Counting.{MeasuredWithin}
use Rattle.apd_resolved.proofs.Counts.{extent_ground}
use Rattle.apd_trace.specs.Frames.{is_large}
use Rattle.apd_trace.specs.declared.frame.Frame.{Frame}
use Rattle.apd_frames.specs.Instances.{cell_in, terms_in, tuple_in, IsInside}
use Rattle.apd_frames.specs.Links.{Instance}
use Rattle.apd_frames.specs.Kept.{fits}
use Rattle.apd_frames.specs.Measures.{MeasuresInnermost}
use Rattle.apd_frames.specs.declared.measuring.Measure.TheVariants.{TooLarge, Fits, Ground}
use Rattle.apd_frames.proofs.Instancing.{inside_or}
use Rattle.apd_frames.proofs.Writing.{IsCounting, counting_first, counting_more, counting_last, counted_head, counted_goal, next_left, none_left}

-- a test has one answer
pub no_both : (b : Bool) → b ≡ false → b ≡ true → ⊥
no_both b f t = absurd (cc)

-- a number that a test finds to be 0
pub zero_so : (n : ℕ) → nat_eq n 0 ≡ true → n ≡ 0
zero_so n t = grind (arith, nat_tests)

-- while an instance is looked at: so many of its goals were seen, so much is left of the limit, and what was seen has no variable
pub record IsMeasuring (s : Stored) (i : Instance) (n left : ℕ) (is_ground : Bool) : Type 0 where
  pub counting : IsCounting (tuple_in s i) (terms_in s (drop n i.goals)) left
  pub head : OnTrue is_ground (IsGround (term_at s i.head.0))
  pub goals : OnTrue is_ground (flat_map variables (terms_in s (take n i.goals)) ≡ [])

-- what is seen of a term, as its size alone
abbrev size_of : Option Extent → Option ℕ
size_of None = None
size_of (Some e) = Some e.size

size_seen : (s : Stored) (c limit : ℕ) (o : Option Extent) → MeasuredWithin s c limit o → SizeWithin (term_at s c) limit (size_of o)
size_seen s c limit None h = h
size_seen s c limit (Some e) h = (h.0.long, h.1)

ground_seen : (s : Stored) (c limit : ℕ) (o : Option Extent) (e : Extent) → MeasuredWithin s c limit o → o ≡ Some e → e.above ≡ 0 → IsGround (term_at s c)
ground_seen s c limit o e h is z = extent_ground s c e (subst (MeasuredWithin s c limit) is h).0 z

pub measuring_first : (s : Stored) (i : Instance) (o : Option Extent) (e : Extent) (left : ℕ) (b : Bool) → MeasuredWithin s i.head.0 1000000 o → o ≡ Some e → left ≡ 1000000 - e.size
    → OnTrue b (e.above ≡ 0) → IsMeasuring s i 0 left b
measuring_first s i o e left b h is l g = record {
  counting = counting_first (tuple_in s i) e.size left (size_of o) (size_seen s i.head.0 1000000 o h) (ap size_of is) l;
  head = OnTrue_from b (IsGround (term_at s i.head.0)) (λ t. ground_seen s i.head.0 1000000 o e h is (OnTrue_at t g));
  goals = OnTrue_from b (flat_map variables (terms_in s (take 0 i.goals)) ≡ []) (λ t. refl);
}

pub measuring_more : (s : Stored) (i : Instance) (n left left' : ℕ) (b b' : Bool) (d : Cell) (o : Option Extent) (e : Extent) → IsMeasuring s i n left b → n < length i.goals
    → MeasuredWithin s (get_or i.goals n d).0 left o → o ≡ Some e → left' ≡ left - e.size → OnTrue b' ((b ≡ true) × (e.above ≡ 0)) → IsMeasuring s i (n + 1) left' b'
measuring_more s i n left left' b b' d o e m l h is less g =
    let c = (get_or i.goals n d).0 in
    record {
      counting = counting_more (tuple_in s i) (term_at s c) (terms_in s (drop (n + 1) i.goals)) e.size left left' (size_of o)
          (subst (λ ts. IsCounting (tuple_in s i) ts left) (next_left s i i.goals n d refl l) m.counting)
          (size_seen s c left o h) (ap size_of is) less;
      head = OnTrue_from b' (IsGround (term_at s i.head.0)) (λ t. OnTrue_at (OnTrue_at t g).0 m.head);
      goals = OnTrue_from b' (flat_map variables (terms_in s (take (n + 1) i.goals)) ≡ [])
          (λ t. next_ground s i.goals n d l (OnTrue_at (OnTrue_at t g).0 m.goals) (ground_seen s c left o e h is (OnTrue_at t g).1));
    }
  where
    next_ground : (s : Stored) (cs : List Cell) (i : ℕ) (d : Cell) → i < length cs → flat_map variables (terms_in s (take i cs)) ≡ [] → IsGround (term_at s (get_or cs i d).0)
        → flat_map variables (terms_in s (take (i + 1) cs)) ≡ []
    next_ground s cs i d l e g =
        let f = λ (c : Cell). term_at s c.0 in
        ap (flat_map variables) (map_more f cs i d l)
        ∙ flat_map-append variables (terms_in s (take i cs)) (f (get_or cs i d) ∷ [])
        ∙ ap (λ vs. vs ++ flat_map variables (f (get_or cs i d) ∷ [])) e
        ∙ ap (λ vs. vs ++ []) g

-- all goals were seen
pub measured_fits : (s : Stored) (i : Instance) (n left : ℕ) (b : Bool) → IsMeasuring s i n left b → length i.goals ≤ n → is_large (tuple_in s i) ≡ false
measured_fits s i n left b m l = counting_last (tuple_in s i) (terms_in s (drop n i.goals)) left m.counting (none_left s i i.goals n refl l)

pub measured_ground : (s : Stored) (i : Instance) (n left : ℕ) (b : Bool) → IsMeasuring s i n left b → length i.goals ≤ n → b ≡ true → variables_of_tuple (tuple_in s i) ≡ []
measured_ground s i n left b m l t =
    ap (λ vs. vs ++ flat_map variables (terms_in s i.goals)) (OnTrue_at t m.head)
    ∙ ap (λ xs. flat_map variables (terms_in s xs)) (sym (take_all n i.goals l)) ∙ OnTrue_at t m.goals

pub measured_head_large : (s : Stored) (i : Instance) (o : Option Extent) → MeasuredWithin s i.head.0 1000000 o → o ≡ None → is_large (tuple_in s i) ≡ true
measured_head_large s i o h is = counted_head (tuple_in s i) (size_of o) (size_seen s i.head.0 1000000 o h) (ap size_of is)

pub measured_goal_large : (s : Stored) (i : Instance) (n left : ℕ) (b : Bool) (d : Cell) (o : Option Extent) → IsMeasuring s i n left b → n < length i.goals
    → MeasuredWithin s (get_or i.goals n d).0 left o → o ≡ None → is_large (tuple_in s i) ≡ true
measured_goal_large s i n left b d o m l h is =
    let c = (get_or i.goals n d).0 in
    counted_goal (tuple_in s i) (term_at s c) (terms_in s (drop (n + 1) i.goals)) left (size_of o)
    (subst (λ ts. IsCounting (tuple_in s i) ts left) (next_left s i i.goals n d refl l) m.counting) (size_seen s c left o h) (ap size_of is)

-- the same by places, where the head has place 0
abbrev pub MeasuresTo : Stored → Instance → ℕ → ℕ → Bool → Type 0
MeasuresTo s i zero left b = left ≡ 1000000
MeasuresTo s i (suc n) left b = IsMeasuring s i n left b

pub place_more : (s : Stored) (i : Instance) (p left left' : ℕ) (b b' : Bool) (o : Option Extent) (e : Extent) → MeasuresTo s i p left b → p ≤ length i.goals
    → MeasuredWithin s (cell_in i p).0 left o → o ≡ Some e → left' ≡ left - e.size → OnTrue b' ((b ≡ true) × (e.above ≡ 0)) → MeasuresTo s i (suc p) left' b'
place_more s i zero left left' b b' o e m l h is less g =
    measuring_first s i o e left' b' (subst (λ k. MeasuredWithin s i.head.0 k o) m h) is (less ∙ ap (λ k. k - e.size) m)
    (OnTrue_from b' (e.above ≡ 0) (λ t. (OnTrue_at t g).1))
place_more s i (suc n) left left' b b' o e m l h is less g =
    let j : n + 1 ≡ suc n = omega arith in
    subst (λ k. IsMeasuring s i k left' b') j (measuring_more s i n left left' b b' i.head o e m (omega (arith, l)) h is less g)

pub place_large : (s : Stored) (i : Instance) (p left : ℕ) (b : Bool) (o : Option Extent) → MeasuresTo s i p left b → p ≤ length i.goals
    → MeasuredWithin s (cell_in i p).0 left o → o ≡ None → is_large (tuple_in s i) ≡ true
place_large s i zero left b o m l h is = measured_head_large s i o (subst (λ k. MeasuredWithin s i.head.0 k o) m h) is
place_large s i (suc n) left b o m l h is = measured_goal_large s i n left b i.head o m (omega (arith, l)) h is

pub places_fit : (s : Stored) (i : Instance) (p left : ℕ) (b : Bool) → MeasuresTo s i p left b → length i.goals < p → is_large (tuple_in s i) ≡ false
places_fit s i zero left b m l = absurd (omega arith)
places_fit s i (suc n) left b m l = measured_fits s i n left b m (omega (arith, l))

pub places_ground : (s : Stored) (i : Instance) (p left : ℕ) (b : Bool) → MeasuresTo s i p left b → length i.goals < p → b ≡ true → variables_of_tuple (tuple_in s i) ≡ []
places_ground s i zero left b m l t = absurd (omega arith)
places_ground s i (suc n) left b m l t = measured_ground s i n left b m (omega (arith, l)) t

-- a place's cell is among the first n where the instance is
pub cell_inside : (n : ℕ) (i : Instance) (p : ℕ) → IsInside n i → p ≤ length i.goals → (cell_in i p).0 < n
cell_inside n i zero h l = h.head
cell_inside n i (suc k) h l = inside_or n i.goals k i.head h.goals (omega (arith, l))

-- what is said of the innermost frame tells whether its instance fits
pub fits_not : (F : List Frame) → MeasuresInnermost TooLarge F → false ≡ fits F
fits_not [] h = absurd (cc)
fits_not (f ∷ F) h = sym (ap not h)

pub fits_so : (F : List Frame) → MeasuresInnermost Fits F → true ≡ fits F
fits_so [] h = refl
fits_so (f ∷ F) h = sym (ap not h)

pub fits_ground : (F : List Frame) → MeasuresInnermost Ground F → true ≡ fits F
fits_ground [] h = refl
fits_ground (f ∷ F) h = sym (ap not h.0)
