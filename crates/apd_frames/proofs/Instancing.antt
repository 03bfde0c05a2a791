-- Loading terms, and what unification makes of them.
use Rattle.std.proofs.Common.{◌≡◌, ℕ, zero, suc, ◌+◌, ◌<◌, List, [], ◌∷◌, ◌++◌, length, get_or, take, map, refl, sym, ◌∙◌, ap, subst, arith, Bool, true, false}
use Rattle.std.specs.List.{flat_map}
use Rattle.std.proofs.lemmas.List.{map_more, map-append, length-append}
use Rattle.apd_term.specs.Term.{Term, variable, apply, spell, variables, IsAmong, Occurs}
use Rattle.apd_term.specs.Substitution.{followed_by}
use Rattle.apd_term.specs.Canonical.{shifted}
use Rattle.apd_term.specs.declared.tuple.Tuple.{Tuple}
use Rattle.apd_term.proofs.Among.{IsAmong-left, IsAmong-right}
use Rattle.apd_term.proofs.Applying.{apply-followed_by, apply-same, apply-variable}
use Rattle.apd_term.proofs.Variants.{apply-agree}
use Rattle.apd_term.proofs.Spelling.{some_symbol}
use Rattle.apd_unify.specs.Unifier.{HasNoUnifier}
use Rattle.apd_unify.specs.Cells.{AreCells}
use Rattle.apd_unify.specs.declared.store.Cell.{Cell}
use Rattle.apd_unify.specs.Copies.{HasShared}
use Rattle.apd_cells.specs.Stored.{Stored}
use Rattle.apd_cells.specs.Store.{term_at, meaning, loaded, at_mark, Keeps}
use Rattle.apd_cells.proofs.Keeping.{meaning-loaded, Keeps-trans}
use Rattle.apd_cells.proofs.Bindings.{Keeps-self}
use Rattle.apd_trace.specs.Frames.{shifted_tuple}
use Rattle.apd_frames.specs.Links.{instance_of}
use Rattle.apd_frames.specs.Instances.{instance_where, terms_in, raised_in, HasGrown, HasLaid, IsInstantiated, Instantiates}
use Rattle.apd_frames.proofs.Branching.{inside_more}

pub grown_self : (s : Stored) → HasGrown s s
grown_self s = record { kept = Keeps-self s; cells = omega arith; others = λ c l. refl; means = λ v. refl }

-- one more term was loaded
pub grown_more : (old s new : Stored) (t : Term) (base : ℕ) → HasGrown old s → new ≡ loaded s t base → Keeps s new
    → ((c : ℕ) → c < length s.cells → term_at new c ≡ term_at s c) → HasGrown old new
grown_more old s new t base h is k o =
    let n : length new.cells ≡ length s.cells + length (spell (shifted base t)) = ap (λ (z : Stored). length z.cells) is ∙ length-append s.cells (spell (shifted base t)) in
    record {
      kept = Keeps-trans old s new h.kept k;
      cells = omega (arith, n, h.cells);
      others = λ c l. o c (omega (arith, l, h.cells)) ∙ h.others c l;
      means = λ v. ap (λ (z : Stored). meaning z.cells z.trail v) is ∙ meaning-loaded s t base v ∙ h.means v;
    }

-- terms were put into the store once
pub laid_self : (s : Stored) → HasLaid s s
laid_self s = record { kept = Keeps-self s; cells = omega arith; others = λ c l. refl }

pub laid_shared : (s new : Stored) → HasShared s new → Keeps s new → HasLaid s new
laid_shared s new h k = record { kept = k; cells = h.cells; others = h.others }

pub laid_then : (a b c : Stored) → HasLaid a b → HasLaid b c → HasLaid a c
laid_then a b c h k = record {
  kept = Keeps-trans a b c h.kept k.kept;
  cells = omega (arith, h.cells, k.cells);
  others = λ d l. k.others d (omega (arith, l, h.cells)) ∙ h.others d l;
}

pub terms_same : (s new : Stored) (cs : List Cell) → AreCells (length s.cells) cs → ((c : ℕ) → c < length s.cells → term_at new c ≡ term_at s c) → terms_in new cs ≡ terms_in s cs
terms_same s new [] h o = refl
terms_same s new (c ∷ cs) h o = ap (λ t. t ∷ terms_in new cs) (o c.0 h.0) ∙ ap (λ ts. term_at s c.0 ∷ ts) (terms_same s new cs h.1 o)

pub inside_one : (n : ℕ) (cs : List Cell) (c : Cell) → AreCells n cs → c.0 < n → AreCells n (cs ++ c ∷ [])
inside_one n [] c h l = (l, tt)
inside_one n (d ∷ cs) c h l = (h.0, inside_one n cs c h.1 l)

-- so many of the terms were loaded
pub record AreLoaded (old s : Stored) (base : ℕ) (terms : List Term) (i : ℕ) (cs : List Cell) : Type 0 where
  pub grown : HasGrown old s
  pub made : terms_in s cs ≡ map (raised_in old base) (take i terms)
  pub inside : AreCells (length s.cells) cs

pub loaded_none : (s : Stored) (base : ℕ) (terms : List Term) (cs : List Cell) → cs ≡ [] → AreLoaded s s base terms 0 cs
loaded_none s base terms cs e = rw e (record { grown = grown_self s; made = refl; inside = tt })

pub loaded_more : (old s new : Stored) (base : ℕ) (terms : List Term) (i : ℕ) (cs out : List Cell) (t : Term) (c : Cell) → AreLoaded old s base terms i cs
    → i < length terms → t ≡ get_or terms i t → new ≡ loaded s t base → Keeps s new → ((d : ℕ) → d < length s.cells → term_at new d ≡ term_at s d)
    → c.0 ≡ length s.cells → term_at new c.0 ≡ apply (meaning s.cells s.trail) (shifted base t) → out ≡ cs ++ c ∷ [] → AreLoaded old new base terms (i + 1) out
loaded_more old s new base terms i cs out t c h l at is k o here made e =
    let g = grown_more old s new t base h.grown is k o in
    let n : length new.cells ≡ length s.cells + length (spell (shifted base t)) = ap (λ (z : Stored). length z.cells) is ∙ length-append s.cells (spell (shifted base t)) in
    let one : term_at new c.0 ≡ raised_in old base t = made ∙ apply-same (meaning s.cells s.trail) (meaning old.cells old.trail) h.grown.means (shifted base t) in
    rw e (record {
      grown = g;
      made = map-append (λ (d : Cell). term_at new d.0) cs (c ∷ [])
          ∙ ap (λ ts. ts ++ term_at new c.0 ∷ []) (terms_same s new cs h.inside o ∙ h.made)
          ∙ ap (λ x. map (raised_in old base) (take i terms) ++ x ∷ []) (one ∙ ap (raised_in old base) at)
          ∙ sym (map_more (raised_in old base) terms i t l);
      inside = inside_one (length new.cells) cs c (inside_more (length s.cells) (length new.cells) cs (omega (arith, n)) h.inside) (omega (arith, n, here, some_symbol (shifted base t)));
    })

pub among_atom : (ts : List Term) (i v : ℕ) (d : Term) → i < length ts → IsAmong (variables (get_or ts i d)) v → IsAmong (flat_map variables ts) v
among_atom [] i v d lt m = absurd (omega arith)
among_atom (t ∷ ts) zero v d lt m = IsAmong-left (variables t) (flat_map variables ts) v m
among_atom (t ∷ ts) (suc i) v d lt m = IsAmong-right (variables t) (flat_map variables ts) v (among_atom ts i v d (omega arith) m)

-- a term whose variables are free is loaded as it is
pub loaded_free : (s : Stored) (t : Term) → ((v : ℕ) → Occurs v t → meaning s.cells s.trail v ≡ variable v) → raised_in s 0 t ≡ t
loaded_free s t h =
    apply-followed_by (λ v. variable (0 + v)) (meaning s.cells s.trail) t
    ∙ apply-agree (followed_by (λ v. variable (0 + v)) (meaning s.cells s.trail)) variable t
    (λ v o. (let e : 0 + v ≡ v = omega arith in ap (meaning s.cells s.trail) e ∙ h v o))
    ∙ apply-variable t

-- back at the mark of a store that was kept
pub undone : (old mid new : Stored) (k : ℕ) → Keeps old mid → k ≡ length old.trail → new ≡ at_mark k mid → new ≡ old
undone old mid new k h e is = is ∙ ap (λ j. at_mark j mid) e ∙ h.1

pub inside_or : (n : ℕ) (cs : List Cell) (i : ℕ) (d : Cell) → AreCells n cs → i < length cs → (get_or cs i d).0 < n
inside_or n [] i d h l = absurd (omega arith)
inside_or n (c ∷ cs) zero d h l = h.0
inside_or n (c ∷ cs) (suc i) d h l = inside_or n cs i d h.1 (omega arith)

pub inside_new : (old new : Stored) (t : Term) (base c : ℕ) → new ≡ loaded old t base → c ≡ length old.cells → c < length new.cells
inside_new old new t base c e is =
    let n : length new.cells ≡ length old.cells + length (spell (shifted base t)) = ap (λ (z : Stored). length z.cells) e ∙ length-append old.cells (spell (shifted base t)) in
    omega (arith, n, is, some_symbol (shifted base t))

-- an instance that isn't there
pub no_instance : (b : Bool) (head : Cell) (goals : List Cell) (old new : Stored) (goal : ℕ) (rule : Tuple) → b ≡ false → Instantiates (instance_where b head goals) old new goal rule → HasNoUnifier (term_at old goal) (shifted_tuple old.variables rule).head
no_instance b head goals old new goal rule is h = subst (λ x. Instantiates (instance_where x head goals) old new goal rule) is h

-- an instance that is there
pub instance_there : (b : Bool) (head : Cell) (goals seen : List Cell) (old new : Stored) (goal : ℕ) (rule : Tuple) → b ≡ true → seen ≡ goals → Instantiates (instance_where b head goals) old new goal rule
    → IsInstantiated (instance_of head seen) old new goal rule
instance_there b head goals seen old new goal rule is e h =
    subst (λ cs. IsInstantiated (instance_of head cs) old new goal rule) (sym e) (subst (λ x. Instantiates (instance_where x head goals) old new goal rule) is h)
