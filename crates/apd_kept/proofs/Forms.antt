-- A term that stands in another, and the same in the canonical form of that: one has the canonical form of the other.
use Rattle.std.proofs.Common.{◌≡◌, ℕ, ◌==◌, List, [], ◌∷◌, ◌++◌, length, map, Bool, true, false, if◌then◌else◌, inl, inr, refl, sym, ◌∙◌, ap, arith}
use Rattle.std.specs.List.{AllByRecursion, flat_map, fold, list_any}
use Rattle.std.proofs.lemmas.List.{length-map}
use Rattle.apd_term.specs.Canonical.{by_appearance, canonical, place_of, with_new}
use Rattle.apd_term.specs.Substitution.{followed_by}
use Rattle.apd_term.specs.Term.{IsAmong, IsGround, Term, apply, compound, integer, more, none, variable, variables}
use Rattle.apd_term.specs.Tuple.{apply_tuple, canonical_tuple}
use Rattle.apd_term.specs.declared.standard.TheConstants.{COMMA, NECK}
use Rattle.apd_term.specs.declared.term.NameId.{NameId}
use Rattle.apd_term.specs.declared.tuple.Tuple.{Tuple}
use Rattle.apd_term.proofs.Tuples.{AreTupleVariants_from_instances}
use Rattle.apd_term.proofs.Applying.{apply-followed_by, variables-apply}
use Rattle.apd_term.proofs.Variants.{AreVariants_from_instances, IsInstance-canonical, apply-unchanged, same_test}
use Rattle.apd_answers.specs.Questions.{unknowns}
use Rattle.apd_text.specs.ClauseTerms.{clause_term, conjunction, pair, with_body}
use Rattle.apd_term.specs.Listed.{list_term}

-- what can be taken back keeps its canonical form
pub same_form : (s r : ℕ → Term) (a : Term) → apply r (apply s a) ≡ a → canonical a ≡ canonical (apply s a)
same_form s r a e = AreVariants_from_instances a (apply s a) (s, refl) (r, e)

pub same_tuple_form : (s r : ℕ → Term) (t : Tuple) → apply_tuple r (apply_tuple s t) ≡ t → canonical_tuple t ≡ canonical_tuple (apply_tuple s t)
same_tuple_form s r t e = AreTupleVariants_from_instances t (apply_tuple s t) (s, refl) (r, e)

-- the numbers that a term's variables get in its canonical form, and the way back
abbrev pub there : Term → ℕ → Term
there whole v = variable (place_of (by_appearance (variables whole)) v)

abbrev pub back : Term → ℕ → Term
back whole = (IsInstance-canonical whole).0

pub two_back : (f : NameId) (a b : Term) → let whole = compound f (more a (more b none)) in
    (apply (back whole) (apply (there whole) a) ≡ a) × (apply (back whole) (apply (there whole) b) ≡ b)
two_back f a b = let whole = compound f (more a (more b none)) in let e = (IsInstance-canonical whole).1 in (cc, cc)

pub three_back : (f : NameId) (a b d : Term) → let whole = compound f (more a (more b (more d none))) in
    (apply (back whole) (apply (there whole) a) ≡ a) × (apply (back whole) (apply (there whole) b) ≡ b)
three_back f a b d = let whole = compound f (more a (more b (more d none))) in let e = (IsInstance-canonical whole).1 in (cc, cc)

-- a clause as a term, with a substitution
conjunction_apply : (s : ℕ → Term) (g : Term) (gs : List Term) → apply s (conjunction g gs) ≡ conjunction (apply s g) (map (apply s) gs)
conjunction_apply s g [] = refl
conjunction_apply s g (h ∷ hs) = ap (λ (x : Term). pair COMMA (apply s g) x) (conjunction_apply s h hs)

pub clause_apply : (s : ℕ → Term) (t : Tuple) → apply s (clause_term t) ≡ clause_term (apply_tuple s t)
clause_apply s t = by t.body
  where
    by : (body : List Term) → apply s (with_body t.head body) ≡ with_body (apply s t.head) (map (apply s) body)
    by [] = refl
    by (g ∷ gs) = ap (λ (x : Term). pair NECK (apply s t.head) x) (conjunction_apply s g gs)

-- and taken back
conjunction_same : (s : ℕ → Term) (g h : Term) (gs hs : List Term) → length gs ≡ length hs → conjunction g gs ≡ conjunction h hs → (g ≡ h) × (gs ≡ hs)
conjunction_same s g h [] [] n e = (e, refl)
conjunction_same s g h [] (y ∷ ys) n e = absurd (omega (arith, n))
conjunction_same s g h (x ∷ xs) [] n e = absurd (omega (arith, n))
conjunction_same s g h (x ∷ xs) (y ∷ ys) n e =
    let first : g ≡ h = cc in
    let rest = conjunction_same s x y xs ys (omega (arith, n)) cc in
    (first, rw (rest.0, rest.1) refl)

length_back : (s r : ℕ → Term) (ts : List Term) → length (map (apply r) (map (apply s) ts)) ≡ length ts
length_back s r ts = length-map (map (apply s) ts) (apply r) ∙ length-map ts (apply s)

pub clause_back : (s r : ℕ → Term) (head g : Term) (gs : List Term) → apply r (apply s (with_body head (g ∷ gs))) ≡ with_body head (g ∷ gs)
    → apply_tuple r (apply_tuple s (record { head = head; body = g ∷ gs })) ≡ record { head = head; body = g ∷ gs }
clause_back s r head g gs e =
    let t : Tuple = record { head = head; body = g ∷ gs } in
    let whole : clause_term (apply_tuple r (apply_tuple s t)) ≡ clause_term t =
    sym (ap (apply r) (clause_apply s t) ∙ clause_apply r (apply_tuple s t)) ∙ e in
    let heads : apply r (apply s head) ≡ head = cc in
    let goals = conjunction_same r (apply r (apply s g)) g (map (apply r) (map (apply s) gs)) gs (length_back s r gs) cc in
    rw (heads, goals.0, goals.1) refl

-- the values of a list have no variable where they have none
pub list_ground : (vs : List Term) → AllByRecursion IsGround vs → IsGround (list_term vs)
list_ground [] ground = refl
list_ground (v ∷ vs) ground = rw (ground.0, list_ground vs ground.1) refl

-- Renamed numbers, where g takes each back: as many of them differ.
abbrev AllBack : (ℕ → ℕ) → (ℕ → ℕ) → List ℕ → Type 0
AllBack f g vs = AllByRecursion (λ v. g (f v) ≡ v) vs

same_found : (f g : ℕ → ℕ) (ws : List ℕ) (v : ℕ) → AllBack f g ws → g (f v) ≡ v → list_any (λ w. w == f v) (map f ws) ≡ list_any (λ w. w == v) ws
same_found f g [] v h k = refl
same_found f g (w ∷ ws) v h k = rw (same_test f g w v h.0 k, same_found f g ws v h.1 k) refl

back_last : (f g : ℕ → ℕ) (ws : List ℕ) (v : ℕ) → AllBack f g ws → g (f v) ≡ v → AllBack f g (ws ++ v ∷ [])
back_last f g [] v h k = (k, tt)
back_last f g (w ∷ ws) v h k = (h.0, back_last f g ws v h.1 k)

map_last : (f : ℕ → ℕ) (ws : List ℕ) (v : ℕ) → map f ws ++ f v ∷ [] ≡ map f (ws ++ v ∷ [])
map_last f [] v = refl
map_last f (w ∷ ws) v = ap (λ xs. f w ∷ xs) (map_last f ws v)

same_new : (f g : ℕ → ℕ) (seen : List ℕ) (v : ℕ) → AllBack f g seen → g (f v) ≡ v → (with_new (map f seen) (f v) ≡ map f (with_new seen v)) × AllBack f g (with_new seen v)
same_new f g seen v h k = rw (same_found f g seen v h k) (by (list_any (λ w. w == v) seen))
  where
    by : (b : Bool) → ((if b then map f seen else map f seen ++ f v ∷ []) ≡ map f (if b then seen else seen ++ v ∷ [])) × AllBack f g (if b then seen else seen ++ v ∷ [])
    by true = (refl, h)
    by false = (map_last f seen v, back_last f g seen v h k)

same_order : (f g : ℕ → ℕ) (seen vs : List ℕ) → AllBack f g seen → AllBack f g vs → fold with_new (map f seen) (map f vs) ≡ map f (fold with_new seen vs)
same_order f g seen [] h k = refl
same_order f g seen (v ∷ vs) h k =
    let n = same_new f g seen v h k.0 in ap (λ x. fold with_new x (map f vs)) n.0 ∙ same_order f g (with_new seen v) vs n.1 k.1

same_count : (f g : ℕ → ℕ) (vs : List ℕ) → AllBack f g vs → length (by_appearance (map f vs)) ≡ length (by_appearance vs)
same_count f g vs h = ap length (same_order f g [] vs tt h) ∙ length-map (by_appearance vs) f

-- the number of a variable
abbrev number_of : Term → ℕ
number_of (variable v) = v
number_of (integer i) = 0
number_of (compound f ts) = 0

each_number : (f : ℕ → ℕ) (vs : List ℕ) → flat_map (λ v. f v ∷ []) vs ≡ map f vs
each_number f [] = refl
each_number f (v ∷ vs) = ap (λ xs. f v ∷ xs) (each_number f vs)

map_both : (f : ℕ → ℕ) (xs ys : List ℕ) → map f xs ++ map f ys ≡ map f (xs ++ ys)
map_both f [] ys = refl
map_both f (x ∷ xs) ys = ap (λ zs. f x ∷ zs) (map_both f xs ys)

renamed_numbers : (f : ℕ → ℕ) (ts : List Term) → flat_map variables (map (apply (λ v. variable (f v))) ts) ≡ map f (flat_map variables ts)
renamed_numbers f [] = refl
renamed_numbers f (t ∷ ts) =
    rw (variables-apply (λ v. variable (f v)) t ∙ each_number f (variables t), renamed_numbers f ts) (map_both f (variables t) (flat_map variables ts))

back_at : (f : ℕ → ℕ) (r : ℕ → Term) (vs : List ℕ) → ((v : ℕ) → IsAmong vs v → r (f v) ≡ variable v) → AllBack f (λ w. number_of (r w)) vs
back_at f r [] h = tt
back_at f r (v ∷ vs) h = (ap number_of (h v (inl refl)), back_at f r vs (λ w m. h w (inr m)))

both_back : (f g : ℕ → ℕ) (xs ys : List ℕ) → AllBack f g xs → AllBack f g ys → AllBack f g (xs ++ ys)
both_back f g [] ys h k = k
both_back f g (x ∷ xs) ys h k = (h.0, both_back f g xs ys h.1 k)

all_back : (f : ℕ → ℕ) (r : ℕ → Term) (ts : List Term) → map (apply r) (map (apply (λ v. variable (f v))) ts) ≡ ts → AllBack f (λ w. number_of (r w)) (flat_map variables ts)
all_back f r [] e = tt
all_back f r (t ∷ ts) e =
    let s : ℕ → Term = λ v. variable (f v) in
    let one : apply r (apply s t) ≡ t = cc in
    let others : map (apply r) (map (apply s) ts) ≡ ts = cc in
    both_back f (λ w. number_of (r w)) (variables t) (flat_map variables ts)
    (back_at f r (variables t) (apply-unchanged (followed_by s r) t (sym (apply-followed_by s r t) ∙ one)))
    (all_back f r ts others)

-- as many values are asked for
pub same_unknowns : (f : ℕ → ℕ) (r : ℕ → Term) (t : Tuple) → apply_tuple r (apply_tuple (λ v. variable (f v)) t) ≡ t → length (unknowns (apply_tuple (λ v. variable (f v)) t)) ≡ length (unknowns t)
same_unknowns f r t e =
    ap (λ vs. length (by_appearance vs)) (renamed_numbers f t.body)
    ∙ same_count f (λ w. number_of (r w)) (flat_map variables t.body) (all_back f r t.body (ap (λ (u : Tuple). u.body) e))
