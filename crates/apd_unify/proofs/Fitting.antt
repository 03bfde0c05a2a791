-- Numbers that fit what stands for a clause's variables, and what was made of terms that were there.
use Rattle.std.proofs.Common.{◌≡◌, ◌≢◌, ℕ, ◌+◌, ◌-◌, ◌<◌, ◌≤◌, ◌==◌, if◌then◌else◌, List, [], length, get_or, sym, ◌∙◌, ap, arith}
use Rattle.std.proofs.lemmas.Bool.Decides.{nat_tests}
use Rattle.apd_term.specs.declared.term.Sym.{Sym}
use Rattle.apd_term.specs.declared.term.Sym.TheVariants.{Var, Int, Fun}
use Rattle.apd_term.specs.Term.{Term, apply}
use Rattle.apd_term.specs.Substitution.{term_for, followed_by}
use Rattle.apd_term.proofs.Applying.{apply-followed_by}
use Rattle.apd_term.proofs.Variants.{apply-agree}
use Rattle.apd_unify.specs.Heads.{HasGoneOn, IsMade}
use Rattle.apd_cells.specs.Slots.{slot_at, IsSlot, AreSlots, GetsAny, Numbering, IsNumberOf, Fits}
use Rattle.apd_cells.specs.Stored.{Stored}
use Rattle.apd_cells.specs.Store.{written, meaning, term_at, IsSound}
use Rattle.apd_cells.specs.declared.slots.Slot.{Slot}
use Rattle.apd_cells.specs.declared.slots.Slot.TheVariants.{New, Own, Given}
use Rattle.apd_cells.proofs.Meaning.{HasCells-of}
use Rattle.apd_cells.proofs.Touching.{occurs_in_cells}
use Rattle.apd_cells.proofs.Written.{written-append}

abbrev variable_number : Sym → ℕ
variable_number (Var m) = m
variable_number (Int i) = 0
variable_number (Fun f k) = 0

-- a variable's own one's number, and one from n on where it has none
abbrev number_of : List Sym → ℕ → ℕ → Slot → ℕ
number_of cells n v New = n + v
number_of cells n v (Own c) = variable_number (get_or cells c (Var 0))
number_of cells n v (Given c) = n + v

abbrev back_from : (ℕ → ℕ) → ℕ → ℕ → ℕ
back_from owner n m = if n - m == 0 then m - n else owner m

back_above : (owner : ℕ → ℕ) (n v : ℕ) → back_from owner n (n + v) ≡ v
back_above owner n v = (let z : n - (n + v) ≡ 0 = omega arith in let w : n + v - n ≡ v = omega arith in grind (arith, nat_tests))

back_below : (owner : ℕ → ℕ) (n m : ℕ) → m < n → back_from owner n m ≡ owner m
back_below owner n m l = (let z : n - m ≢ 0 = λ e. (omega arith) in grind (arith, nat_tests))

back_of : (cells : List Sym) (n : ℕ) (owner : ℕ → ℕ) (v : ℕ) (x : Slot) → IsSlot cells n owner v x → back_from owner n (number_of cells n v x) ≡ v
back_of cells n owner v New h = back_above owner n v
back_of cells n owner v (Own c) h =
    ap (λ y. back_from owner n (variable_number y)) h.1.is ∙ back_below owner n h.1.number h.1.below ∙ h.1.owned
back_of cells n owner v (Given c) h = back_above owner n v

pub numbering : (cells : List Sym) (n : ℕ) (slots : List Slot) → AreSlots cells n slots → Numbering
numbering cells n slots h = record {
  of = λ v. number_of cells n v (slot_at slots v);
  back = back_from h.owner n;
  same = λ v. back_of cells n h.owner v (slot_at slots v) (h.each v);
}

fits_one : (s : Stored) (owner : ℕ → ℕ) (v : ℕ) (x : Slot) → IsSlot s.cells s.variables owner v x → IsNumberOf s (number_of s.cells s.variables v x) x
fits_one s owner v New h = omega arith
fits_one s owner v (Own c) h = h.1.is ∙ ap Var (sym (ap variable_number h.1.is))
fits_one s owner v (Given c) h = omega arith

above_one : (s s' : Stored) (owner : ℕ → ℕ) (v : ℕ) (x : Slot) → s.variables ≤ s'.variables → IsSlot s'.cells s'.variables owner v x → GetsAny s.variables s'.cells New x
    → s.variables ≤ number_of s'.cells s'.variables v x
above_one s s' owner v New l h j = omega arith
above_one s s' owner v (Own c) l h j = (let k = j h.1.number h.1.is in let e : variable_number (get_or s'.cells c (Var 0)) ≡ h.1.number = ap variable_number h.1.is in omega (arith, k, e))
above_one s s' owner v (Given c) l h j = omega arith

-- numbers for a clause's variables that fit, above all variables that the store had when nothing stood for them
pub record HasNumbers (s s' : Stored) (slots : List Slot) : Type 0 where
  pub numbers : Numbering
  pub fit : Fits numbers s' slots
  pub above : (v : ℕ) → s.variables ≤ numbers.of v

pub has_numbers : (s s' : Stored) (slots : List Slot) → HasGoneOn s s' [] slots → HasNumbers s s' slots
unfolding numbering
has_numbers s s' slots h = record {
  numbers = numbering s'.cells s'.variables slots h.slots;
  fit = λ v. fits_one s' h.slots.owner v (slot_at slots v) (h.slots.each v);
  above = λ v. above_one s s' h.slots.owner v (slot_at slots v) h.variables (h.slots.each v) (h.later v);
}

-- pairs were applied to the terms that were there
pub made_terms : (g : Numbering) (s s' : Stored) (old new : List Slot) (qs : List (ℕ × Term)) → IsSound s → HasGoneOn s s' old new → IsMade g s s' old new qs → (c : ℕ) → c < length s.cells
    → term_at s' c ≡ apply (term_for qs) (term_at s c)
made_terms g s s' old new qs store h m c l =
    let cells = HasCells-of s.cells s.variables s.trail store in
    ap (λ xs. apply (meaning s'.cells s'.trail) (written xs c)) h.cells
    ∙ ap (apply (meaning s'.cells s'.trail)) (written-append s.cells h.more c cells.whole l)
    ∙ apply-agree (meaning s'.cells s'.trail) (followed_by (meaning s.cells s.trail) (term_for qs)) (written s.cells c) (λ v o. m.means v (occurs_in_cells s.cells s.variables c v cells l o))
    ∙ sym (apply-followed_by (meaning s.cells s.trail) (term_for qs) (written s.cells c))
