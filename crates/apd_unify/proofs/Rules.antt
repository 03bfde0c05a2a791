-- Why each rule of the textbook is right.
use Rattle.std.proofs.Common.{ℤ, ◌≡◌, ◌≢◌, inl, inr, ℕ, ◌+◌, ◌<◌, ◌≤◌, ◌==◌, ◌&&◌, Bool, true, false, List, [], ◌∷◌, ◌++◌, length, if◌then◌else◌, refl, sym, ◌∙◌, ap, arith}
use Rattle.std.specs.Bool.{Decides}
use Rattle.std.specs.List.{list_any, zip}
use Rattle.std.specs.Ordering.{int_eq}
use Rattle.std.proofs.lemmas.Bool.Decides.{Decides-eqb, Decides-int_eq}
use Rattle.apd_term.specs.declared.term.NameId.{NameId}
use Rattle.apd_term.specs.Term.{Term, Terms, variable, integer, compound, none, more, list_of, arguments, size, size_all, apply, apply_all, variables, variables_all, IsAmong, Occurs}
use Rattle.apd_term.proofs.Spelling.{length-apply_all}
use Rattle.apd_term.specs.Substitution.{Unifies}
use Rattle.apd_term.proofs.Among.{IsAmong-left, IsAmong-right, IsAmong-append}
use Rattle.apd_term.proofs.Variants.{any_of, any_among}
use Rattle.apd_cells.proofs.Ordered.{any_other}
use Rattle.apd_unify.specs.declared.rule.Rule.{Rule}
use Rattle.apd_unify.specs.declared.rule.Rule.TheVariants.{Delete, Decompose, Clash, Cycle, Eliminate}
use Rattle.apd_unify.specs.Unifier.{OccursIn, HasNoUnifier}
use Rattle.apd_unify.specs.Textbook.{size_equations, stands_in, rule_for, rule_for_variable}
use Rattle.apd_unify.proofs.Rounds.{UnifiesAll, OccursInAll}
use Rattle.apd_unify.proofs.Steps.{cycle}

-- whether a variable stands in a list

pub not_among : (vs : List ℕ) (v : ℕ) → list_any (λ w. w == v) vs ≡ false → ¬ IsAmong vs v
not_among vs v h m = differ (sym h ∙ any_of vs v m)
  where
    differ : false ≡ true → ⊥
    differ e = cc

-- the sides are equal exactly where the arguments are, place by place
pub record Decomposes (a b : Term) : Type 0 where
  pub same_number : length (arguments a) ≡ length (arguments b)
  pub split : (u : ℕ → Term) → Unifies u a b → UnifiesAll u (zip (arguments a) (arguments b))
  pub joined : (u : ℕ → Term) → UnifiesAll u (zip (arguments a) (arguments b)) → Unifies u a b
  pub within : (w : ℕ) → OccursInAll (zip (arguments a) (arguments b)) w → OccursIn a b w
  pub smaller : size_equations (zip (arguments a) (arguments b)) < size a + size b

-- the sides are equal exactly where v is t, and t says nothing of v
pub record Eliminates (a b : Term) (v : ℕ) (t : Term) : Type 0 where
  pub forced : (u : ℕ → Term) → Unifies u a b → u v ≡ apply u t
  pub enough : (u : ℕ → Term) → u v ≡ apply u t → Unifies u a b
  pub acyclic : ¬ Occurs v t
  pub there : OccursIn a b v
  pub within : (w : ℕ) → Occurs w t → OccursIn a b w
  pub smaller : size t < size a + size b

-- what a rule says of the sides of an equation
abbrev pub IsRightRule : Term → Term → Rule → Type 0
IsRightRule a b Delete = a ≡ b
IsRightRule a b Decompose = Decomposes a b
IsRightRule a b Clash = HasNoUnifier a b
IsRightRule a b Cycle = HasNoUnifier a b
IsRightRule a b (Eliminate v t) = Eliminates a b v t

-- one side is a variable and the other is t
record HasSides (a b : Term) (v : ℕ) (t : Term) : Type 0 where
  forced : (u : ℕ → Term) → Unifies u a b → u v ≡ apply u t
  enough : (u : ℕ → Term) → u v ≡ apply u t → Unifies u a b
  same : t ≡ variable v → a ≡ b
  there : OccursIn a b v
  within : (w : ℕ) → Occurs w t → OccursIn a b w
  smaller : size t < size a + size b

sides_left : (v : ℕ) (t : Term) → HasSides (variable v) t v t
sides_left v t = record {
  forced = λ u h. h;
  enough = λ u h. h;
  same = λ e. sym e;
  there = inl refl;
  within = λ w o. inr o;
  smaller = omega arith;
}

sides_right : (v : ℕ) (t : Term) → HasSides t (variable v) v t
sides_right v t = record {
  forced = λ u h. sym h;
  enough = λ u h. sym h;
  same = λ e. e;
  there = IsAmong-right (variables t) (v ∷ []) v (inl refl);
  within = λ w o. IsAmong-left (variables t) (v ∷ []) w o;
  smaller = omega arith;
}

eliminates : (a b : Term) (v : ℕ) (t : Term) → HasSides a b v t → ¬ Occurs v t → Eliminates a b v t
eliminates a b v t s n = record {
  forced = s.forced;
  enough = s.enough;
  acyclic = n;
  there = s.there;
  within = s.within;
  smaller = s.smaller;
}

-- a variable against a term without it
pub eliminates_left : (v : ℕ) (t : Term) → ¬ Occurs v t → Eliminates (variable v) t v t
eliminates_left v t n = eliminates (variable v) t v t (sides_left v t) n

pub eliminates_right : (v : ℕ) (t : Term) → ¬ Occurs v t → Eliminates t (variable v) v t
eliminates_right v t n = eliminates t (variable v) v t (sides_right v t) n

variable_rule-right : (a b : Term) (v : ℕ) (t : Term) → HasSides a b v t → IsRightRule a b (rule_for_variable v t)
variable_rule-right a b v (variable w) s = let d = Decides-eqb v w in by_test (v == w) d.0 d.1
  where
    by_test : (x : Bool) → (x ≡ true → v ≡ w) → (v ≡ w → x ≡ true) → IsRightRule a b (if x then Delete else Eliminate v (variable w))
    by_test true h k = s.same (ap variable (sym (h refl)))
    by_test false h k = eliminates a b v (variable w) s (λ o. elim o [ inl e ↦ differ (k (sym e)) | inr y ↦ y ])
      where
        differ : false ≡ true → ⊥
        differ e = cc
variable_rule-right a b v (integer i) s = eliminates a b v (integer i) s (λ o. o)
variable_rule-right a b v (compound f ts) s = by_test (stands_in v (compound f ts)) refl
  where
    by_test : (x : Bool) → stands_in v (compound f ts) ≡ x → IsRightRule a b (if x then Cycle else Eliminate v (compound f ts))
    by_test true h = λ u e. cycle u v (compound f ts) (any_among (variables_all ts) v h) (λ q. (cc)) (s.forced u e)
    by_test false h = eliminates a b v (compound f ts) s (not_among (variables_all ts) v h)

split_all : (u : ℕ → Term) (ts us : Terms) → apply_all u ts ≡ apply_all u us → UnifiesAll u (zip (list_of ts) (list_of us))
split_all u none us e = tt
split_all u (more t ts) none e = tt
split_all u (more t ts) (more x xs) e = (cc, split_all u ts xs (cc))

joined_all : (u : ℕ → Term) (ts us : Terms) → length (list_of ts) ≡ length (list_of us) → UnifiesAll u (zip (list_of ts) (list_of us)) → apply_all u ts ≡ apply_all u us
joined_all u none none l h = refl
joined_all u none (more x xs) l h = absurd (omega arith)
joined_all u (more t ts) none l h = absurd (omega arith)
joined_all u (more t ts) (more x xs) l h =
    let e = h.0 in
    let f = joined_all u ts xs (omega arith) h.1 in cc

inner_left : (t u : Term) (ts us : Terms) (w : ℕ) → OccursIn t u w → IsAmong (variables_all (more t ts) ++ variables_all (more u us)) w
inner_left t u ts us w o = elim (IsAmong-append (variables t) (variables u) w o) [
  | inl x ↦ IsAmong-left (variables t ++ variables_all ts) (variables u ++ variables_all us) w (IsAmong-left (variables t) (variables_all ts) w x)
  | inr y ↦ IsAmong-right (variables t ++ variables_all ts) (variables u ++ variables_all us) w (IsAmong-left (variables u) (variables_all us) w y)
]

inner_right : (t u : Term) (ts us : Terms) (w : ℕ) → IsAmong (variables_all ts ++ variables_all us) w → IsAmong (variables_all (more t ts) ++ variables_all (more u us)) w
inner_right t u ts us w o = elim (IsAmong-append (variables_all ts) (variables_all us) w o) [
  | inl x ↦ IsAmong-left (variables t ++ variables_all ts) (variables u ++ variables_all us) w (IsAmong-right (variables t) (variables_all ts) w x)
  | inr y ↦ IsAmong-right (variables t ++ variables_all ts) (variables u ++ variables_all us) w (IsAmong-right (variables u) (variables_all us) w y)
]

within_all : (ts us : Terms) (w : ℕ) → OccursInAll (zip (list_of ts) (list_of us)) w → IsAmong (variables_all ts ++ variables_all us) w
within_all none us w o = absurd o
within_all (more t ts) none w o = absurd o
within_all (more t ts) (more u us) w (inl x) = inner_left t u ts us w x
within_all (more t ts) (more u us) w (inr y) = inner_right t u ts us w (within_all ts us w y)

smaller_all : (ts us : Terms) → size_equations (zip (list_of ts) (list_of us)) ≤ size_all ts + size_all us
smaller_all none us = omega arith
smaller_all (more t ts) none = omega arith
smaller_all (more t ts) (more u us) = omega (arith, smaller_all ts us)

pub decomposes : (f g : NameId) (ts us : Terms) → f ≡ g → length (list_of ts) ≡ length (list_of us) → Decomposes (compound f ts) (compound g us)
decomposes f g ts us e l = record {
  same_number = l;
  split = λ u h. split_all u ts us (cc);
  joined = λ u h. let k = joined_all u ts us l h in cc;
  within = within_all ts us;
  smaller = omega (arith, smaller_all ts us);
}

name_of : Term → ℕ
name_of (variable v) = 0
name_of (integer i) = 0
name_of (compound f ts) = f.0

name_kept : (f g : NameId) (ts us : Terms) → compound f ts ≡ compound g us → f.0 ≡ g.0
unfolding name_of
name_kept f g ts us e = ap name_of e

number_kept : (u : ℕ → Term) (f g : NameId) (ts us : Terms) → Unifies u (compound f ts) (compound g us) → length (list_of ts) ≡ length (list_of us)
number_kept u f g ts us e =
    let k : apply_all u ts ≡ apply_all u us = cc in
    sym (length-apply_all u ts) ∙ ap (λ x. length (list_of x)) k ∙ length-apply_all u us

names_rule-right : (f g : NameId) (ts us : Terms) (x y : Bool) → Decides x (f.0 ≡ g.0) → Decides y (length (list_of ts) ≡ length (list_of us))
    → IsRightRule (compound f ts) (compound g us) (if x && y then Decompose else Clash)
names_rule-right f g ts us true true d e =
    let name : ℕ → NameId = λ n. record { 0 = n } in
    let same : f ≡ g = ap name (d.0 refl) in
    decomposes f g ts us same (e.0 refl)
names_rule-right f g ts us true false d e = λ u h. differ (e.1 (number_kept u f g ts us h))
  where
    differ : false ≡ true → ⊥
    differ e = cc
names_rule-right f g ts us false y d e = λ u h. differ (d.1 (name_kept f g (apply_all u ts) (apply_all u us) h))
  where
    differ : false ≡ true → ⊥
    differ e = cc

integers_rule-right : (i j : ℤ) (x : Bool) → Decides x (i ≡ j) → IsRightRule (integer i) (integer j) (if x then Delete else Clash)
integers_rule-right i j true d = ap integer (d.0 refl)
integers_rule-right i j false d = λ u e. differ (d.1 (cc))
  where
    differ : false ≡ true → ⊥
    differ e = cc

pub rule_for-right : (a b : Term) → IsRightRule a b (rule_for a b)
rule_for-right (variable v) b = variable_rule-right (variable v) b v b (sides_left v b)
rule_for-right (integer i) (variable w) = variable_rule-right (integer i) (variable w) w (integer i) (sides_right w (integer i))
rule_for-right (integer i) (integer j) = integers_rule-right i j (int_eq i j) (Decides-int_eq i j)
rule_for-right (integer i) (compound g us) = λ u e. (cc)
rule_for-right (compound f ts) (variable w) = variable_rule-right (compound f ts) (variable w) w (compound f ts) (sides_right w (compound f ts))
rule_for-right (compound f ts) (integer j) = λ u e. (cc)
rule_for-right (compound f ts) (compound g us) =
    names_rule-right f g ts us (f.0 == g.0) (length (list_of ts) == length (list_of us)) (Decides-eqb f.0 g.0) (Decides-eqb (length (list_of ts)) (length (list_of us)))

-- the rule for a variable and a term, as the program finds it
pub rule_for_variable-cycle : (v : ℕ) (t : Term) → t ≢ variable v → Occurs v t → Cycle ≡ rule_for_variable v t
rule_for_variable-cycle v (variable w) n (inl e) = absurd (n (ap variable e))
rule_for_variable-cycle v (variable w) n (inr m) = absurd m
rule_for_variable-cycle v (integer i) n m = absurd m
rule_for_variable-cycle v (compound f ts) n m = rw (any_of (variables_all ts) v m) refl

pub rule_for_variable-free : (v : ℕ) (t : Term) → ¬ Occurs v t → Eliminate v t ≡ rule_for_variable v t
rule_for_variable-free v (variable w) n = by_test (v == w) (Decides-eqb v w)
  where
    by_test : (x : Bool) → Decides x (v ≡ w) → Eliminate v (variable w) ≡ (if x then Delete else Eliminate v (variable w))
    by_test true d = absurd (n (inl (sym (d.0 refl))))
    by_test false d = refl
rule_for_variable-free v (integer i) n = refl
rule_for_variable-free v (compound f ts) n = rw (any_other (variables_all ts) v n) refl
