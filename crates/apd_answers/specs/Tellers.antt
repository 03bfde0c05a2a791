-- Tellers: the pairs that may tell whether an atom is true, by which a store finds the first that does.
use Rattle.std.specs.Prelude.{ℕ, ◌≡◌, ◌⊎◌, ◌<◌, List, Option, Some, None, All, slice_get}
use Rattle.apd_term.specs.Term.{Term, predicate_of}
use Rattle.apd_term.specs.declared.term.Pred.{Pred}
use Rattle.apd_term.specs.declared.term.Sym.{Sym}
use Rattle.apd_term.specs.declared.term.Sym.TheVariants.{Var, Int, Fun}
use Rattle.apd_cells.specs.First.{IsFixed, key_of}
use Rattle.apd_answers.specs.declared.question.Question.{Question}
use Rattle.apd_answers.specs.declared.question.Question.TheVariants as asks
use Rattle.apd_answers.specs.declared.question.Reply.{Reply}
use Rattle.apd_answers.specs.declared.store.Pair.{Pair}
use Rattle.apd_answers.specs.declared.tellers.Teller.{Teller}
use Rattle.apd_marks.specs.Mixing.{mixed}
use Rattle.apd_marks.specs.Places.{places_of}
use Rattle.apd_answers.specs.Store.{told}

-- a first symbol; of a variable it says no more than that it is one
abbrev pub leading : Sym → Sym
leading (Var v) = Var 0
leading (Int i) = Int i
leading (Fun f n) = Fun f n

-- the mark of the predicate's atoms whose first arguments begin with a symbol
abbrev pub mark_of_atoms : Pred → Sym → ℕ
mark_of_atoms p key = mixed (mixed 4 (Fun p.name p.arity)) (leading key)

-- the mark of what may tell of any atom, and of what tells of none
abbrev pub any_atom : ℕ
any_atom = 5

abbrev pub no_atom : ℕ
no_atom = 6

abbrev pub mark_by : Option Pred → Sym → ℕ
mark_by None key = any_atom
mark_by (Some p) key = mark_of_atoms p key

-- the mark of the atoms of which a reply to the question may tell whether they are true
abbrev pub telling_mark : Question → ℕ
telling_mark (asks.True a) = mark_by (predicate_of a) (key_of a)
telling_mark (asks.Covers t) = any_atom
telling_mark (asks.Below q p) = no_atom

abbrev pub telling_of : Pair → ℕ
telling_of pair = telling_mark pair.question

-- the places of the pairs with this mark, in order
abbrev pub tellers : ℕ → List Pair → List ℕ
tellers mark pairs = places_of telling_of mark pairs

-- the first argument begins with a name or an integer, or there is none: so few pairs may tell of such an atom
abbrev pub IsNarrow : Pred → Sym → Type 0
IsNarrow p key = IsFixed key ⊎ (p.arity ≡ 0)

-- the pair at a place doesn't tell whether the atom is true
abbrev pub TellsNothing : List Pair → Term → ℕ → Type 0
TellsNothing ps a k = (p : Pair) → slice_get ps k ≡ Some p → told p (asks.True a) ≡ None

-- the pair at a place tells it so, and none does at those of the places that are before
pub record IsFirst (ps : List Pair) (a : Term) (places : List ℕ) (place : ℕ) (reply : Reply)
    : Type 0 where
  pub pair : Pair
  pub there : slice_get ps place ≡ Some pair
  pub tells : told pair (asks.True a) ≡ Some reply
  pub before : All (λ k. k < place → TellsNothing ps a k) places

-- the first of the pairs at these places that tells whether the atom is true; none where none does
abbrev pub IsFirstTold : List Pair → Term → List ℕ → Option Teller → Type 0
IsFirstTold ps a places None = All (TellsNothing ps a) places
IsFirstTold ps a places (Some t) = IsFirst ps a places t.place t.reply

abbrev pub reply_in : Option Teller → Option Reply
reply_in None = None
reply_in (Some t) = Some t.reply
