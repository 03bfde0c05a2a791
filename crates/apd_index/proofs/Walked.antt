-- What holds after so many symbols of an atom were noted.
use Rattle.std.proofs.Common.{◌≡◌, ◌⊎◌, inl, inr, ℕ, ◌+◌, ◌<◌, ◌≤◌, ◌++◌, ◌==◌, if◌then◌else◌, Bool, true, false, List, [], ◌∷◌, length, drop, get_or, Result, Ok, Err, refl, sym, ap, ◌∙◌, subst, arith}
use Rattle.std.specs.Prelude.{IsTrue, OnOk, reverse, slice_get}
use Rattle.std.proofs.lemmas.Bool.{cases_lt}
use Rattle.std.proofs.lemmas.List.{drop_all, drop_more, map-append, reverse-append}
use Rattle.apd_base.proofs.Lists.{slice_get-last, slice_get-front, slice_get-push}
use Rattle.apd_term.specs.Term.{IsAmong, Term, spell}
use Rattle.apd_term.specs.declared.term.Sym.{Sym}
use Rattle.apd_term.specs.declared.term.Sym.TheVariants.{Var}
use Rattle.apd_marks.specs.Positions.{noted, onward, top, waiting}
use Rattle.apd_marks.specs.declared.positions.Parent.{Parent}
use Rattle.apd_marks.proofs.Walking.{after, reverse-onward}
use Rattle.apd_index.specs.Columns.{AddsOf, AreColumns, KeepsEntries, tagged}
use Rattle.apd_index.specs.Nodes.{IsFounder, IsSound as AreSound, KeepsFounders, KeepsNumbers, noted_at}
use Rattle.apd_index.specs.Spots.{AllLeave}
use Rattle.apd_index.specs.Subterms.{digests, positions}
use Rattle.apd_index.specs.Table.{AddsNext, AreOpen, Grow, Grows, IsOpen, PutsNext, kept_open, parent_of, parents_of}
use Rattle.apd_index.specs.declared.columns.Columns.{Columns}
use Rattle.apd_index.specs.declared.nodes.Nodes.{Nodes}
use Rattle.apd_index.specs.declared.walk.Open.{Open}
use Rattle.apd_index.specs.declared.walk.Table.{Table}
use Rattle.apd_index.proofs.Agreeing.{AddsPaired, AreSo, EndAt, adds-of, all-so, ends-go, nowhere, paired-goes, paired-none, so-goes}
use Rattle.apd_index.proofs.Parts.{as-many-digests, symbol-where}
use Rattle.apd_index.proofs.Passing.{none-left, rest, rest-whole}

-- what is noted of a symbol that stands at a position: the place, unless it was the first to have the symbol above
abbrev LeavesAt : Nodes → ℕ → Parent → Sym → Type 0
LeavesAt nodes place p x = (m : ℕ) → IsAmong (noted p x) m → IsAmong (noted_at nodes m) place ⊎ IsFounder nodes p.mark place

pub record IsWalked (t : Term) (xs : List Sym) (place i : ℕ) (first now : Table) (opened : List Open) (is_right : Bool) : Type 0 where
  pub grows : Grows first now
  pub opens : AreOpen now.nodes place opened
  pub within : i ≤ length (positions t)
  -- the positions that are still to be read, and what is noted of those that were
  pub ahead : rest (drop i xs) (reverse (parents_of opened)) ≡ drop i (positions t)
  pub leaves : (j : ℕ) → j < i → LeavesAt now.nodes place (get_or (positions t) j nowhere) (get_or xs j (Var 0))
  pub adds : AddsPaired now.nodes first.columns (positions t) (digests t) i place now.columns
  pub right : IsTrue is_right → EndAt now.nodes now.columns (positions t) i place × AreSo (positions t) i

-- a table with other nodes
abbrev with_nodes : Table → Nodes → Table
with_nodes t nodes = record { nodes = nodes; columns = t.columns; large = t.large; is_given_up = t.is_given_up }

pub walked-begins : (t : Term) (xs : List Sym) (place : ℕ) (first : Table) (nodes : Nodes) (none opened : List Open) (is_right : Bool) → AreColumns first.columns → xs ≡ spell t → Grow first.nodes nodes → AreOpen nodes place opened → none ≡ []
    → parents_of opened ≡ waiting top 1 (parents_of none) → IsWalked t xs place 0 first (with_nodes first nodes) opened is_right
walked-begins t xs place first nodes none opened is_right columns is grow opens empty parents = record {
  grows = record { sound = (grow.sound, columns); kept = grow.kept; founders = grow.founders; large = λ k a. a; numbers = grow.numbers; entries = λ c e i. i };
  opens = opens;
  within = omega arith;
  ahead = ap (λ (ys : List Sym). rest ys (reverse (parents_of opened))) is ∙ ap (λ (ps : List Parent). rest (spell t) (reverse ps)) begun ∙ rest-whole t;
  leaves = λ j l. absurd (omega (arith, l));
  adds = paired-none nodes first.columns (positions t) (digests t) place;
  right = λ so. (λ j l. absurd (omega (arith, l)), λ j k l m e. absurd (omega (arith, l)));
}
  where
    begun : parents_of opened ≡ waiting top 1 []
    begun = parents ∙ ap (λ (os : List Open). waiting top 1 (parents_of os)) empty

-- what a list begins with that isn't over
drop-cons : {X : Type 0} (ps ys : List X) (i : ℕ) (f d : X) → f ∷ ys ≡ drop i ps → (i < length ps) × (f ≡ get_or ps i d) × (ys ≡ drop (i + 1) ps)
drop-cons ps ys i f d e = elim (cases_lt i (length ps)) [
  | inl l ↦ let h : f ∷ ys ≡ get_or ps i d ∷ drop (i + 1) ps = e ∙ drop_more ps i d l in let g : f ≡ get_or ps i d = cc in let r : ys ≡ drop (i + 1) ps = cc in (l, g, r)
  | inr past ↦ let h : f ∷ ys ≡ [] = e ∙ drop_all i ps past in absurd (cc)
]

drop-nil : {X : Type 0} (ps : List X) (i : ℕ) (d : X) → drop i ps ≡ [] → length ps ≤ i
drop-nil ps i d e = elim (cases_lt i (length ps)) [
  | inl l ↦ let h : [] ≡ get_or ps i d ∷ drop (i + 1) ps = sym e ∙ drop_more ps i d l in absurd (cc)
  | inr past ↦ past
]

-- The symbol that is taken, and those that are left.
module _ (nodes : Nodes) (place : ℕ) (opened left : List Open) (o : Open) (is : opened ≡ left ++ o ∷ []) (opens : AreOpen nodes place opened) where
  pub last-open : IsOpen nodes place o
  last-open = opens (length left) o (ap (λ (os : List Open). slice_get os (length left)) is ∙ slice_get-last left o)

  pub others-open : AreOpen nodes place left
  others-open i p e = opens i p (ap (λ (os : List Open). slice_get os i) is ∙ slice_get-front left (o ∷ []) i p e)

pub digests-within : (t : Term) (ds : List ℕ) (i : ℕ) → ds ≡ digests t → i < length (positions t) → i < length ds
digests-within t ds i is l = let h = as-many-digests t (positions t) ds refl is in omega (arith, h, l)

pub grow-none : (nodes : Nodes) → AreSound nodes → Grow nodes nodes
grow-none nodes sound = record { sound = sound; kept = λ m k a. a; founders = record { still = λ m k f. f }; numbers = λ p c a. a }

pub grows-more : (first now : Table) (nodes : Nodes) (columns : Columns) → Grows first now → Grow now.nodes nodes → AreColumns columns → KeepsEntries now.columns columns → Grows first (record { nodes = nodes; columns = columns; large = now.large; is_given_up = now.is_given_up })
grows-more first now nodes columns so_far grow are keeps = record {
  sound = (grow.sound, are);
  kept = λ m k a. grow.kept m k (so_far.kept m k a);
  founders = record { still = λ m k f. grow.founders.still m k (so_far.founders.still m k f) };
  large = λ k a. so_far.large k a;
  numbers = λ p c a. grow.numbers p c (so_far.numbers p c a);
  entries = λ c e a. keeps c e (so_far.entries c e a);
}

-- A symbol is noted.
module _ (t : Term) (xs : List Sym) (place i : ℕ) (first now : Table) (opened left : List Open) (o : Open) (is_right : Bool) (w : IsWalked t xs place i first now opened is_right) (is : opened ≡ left ++ o ∷ []) (x : Sym) (l : i < length xs) (at : x ≡ get_or xs i (Var 0)) where
  turned : reverse (parents_of opened) ≡ parent_of o ∷ reverse (parents_of left)
  turned = ap (λ (os : List Open). reverse (parents_of os)) is ∙ ap reverse (map-append parent_of left (o ∷ [])) ∙ reverse-append (parents_of left) (parent_of o ∷ [])

  next : drop i xs ≡ x ∷ drop (i + 1) xs
  next = drop_more xs i (Var 0) l ∙ ap (λ (y : Sym). y ∷ drop (i + 1) xs) (sym at)

  met : parent_of o ∷ rest (drop (i + 1) xs) (after (parent_of o) x (reverse (parents_of left))) ≡ drop i (positions t)
  met = sym (ap (λ (ps : List Parent). rest (drop i xs) ps) turned ∙ ap (λ (ys : List Sym). rest ys (parent_of o ∷ reverse (parents_of left))) next) ∙ w.ahead

  pub read : (i < length (positions t)) × (parent_of o ≡ get_or (positions t) i nowhere) × (rest (drop (i + 1) xs) (after (parent_of o) x (reverse (parents_of left))) ≡ drop (i + 1) (positions t))
  read = drop-cons (positions t) (rest (drop (i + 1) xs) (after (parent_of o) x (reverse (parents_of left)))) i (parent_of o) nowhere met

  -- with what was put into columns, and what was noted
  module _ (nodes : Nodes) (columns : Columns) (are : AreColumns columns) (keeps : KeepsEntries now.columns columns) (grow : Grow now.nodes nodes) where
    abbrev grown : Table
    grown = record { nodes = nodes; columns = columns; large = now.large; is_given_up = now.is_given_up }

    last : IsOpen now.nodes place o
    last = last-open now.nodes place opened left o is w.opens

    leaves-last : ((m : ℕ) → IsAmong (noted (parent_of o) x) m → IsAmong (noted_at nodes m) place ⊎ IsTrue o.is_founder) → LeavesAt nodes place (get_or (positions t) i nowhere) (get_or xs i (Var 0))
    leaves-last here =
        subst (λ (p : Parent). LeavesAt nodes place p (get_or xs i (Var 0))) read.1
        (subst (LeavesAt nodes place (parent_of o)) at (λ m a. elim (here m a) [ inl n ↦ inl n | inr f ↦ inr (grow.founders.still o.mark place (last.1 f)) ]))

    leaves-still : (p : Parent) (y : Sym) → LeavesAt now.nodes place p y → LeavesAt nodes place p y
    leaves-still p y f m a = elim (f m a) [ inl n ↦ inl (grow.kept m place n) | inr e ↦ inr (grow.founders.still p.mark place e) ]

    pub walked-goes : (further : List Open) (b : Bool) (tag : ℕ) → tag ≡ tagged (get_or (digests t) i 0) place → AddsNext now.columns o place tag columns → (IsTrue b → IsTrue is_right × PutsNext now.columns o place columns)
        → AreOpen nodes place further → ((m : ℕ) → IsAmong (noted (parent_of o) x) m → IsAmong (noted_at nodes m) place ⊎ IsTrue o.is_founder) → parents_of further ≡ onward (parent_of o) x (parents_of left) → IsWalked t xs place (i + 1) first grown further b
    walked-goes further b tag tag_is adds right opens here parents = record {
      grows = grows-more first now nodes columns w.grows grow are keeps;
      opens = opens;
      within = let r = read.0 in omega (arith, r);
      ahead = ap (rest (drop (i + 1) xs)) onto ∙ read.2;
      leaves = λ j b. elim (cases_lt j i) [
        | inl before ↦ leaves-still (get_or (positions t) j nowhere) (get_or xs j (Var 0)) (w.leaves j before)
        | inr past ↦
            let same : i ≡ j = omega (arith, b, past) in
            subst (λ (k : ℕ). LeavesAt nodes place (get_or (positions t) k nowhere) (get_or xs k (Var 0))) same (leaves-last here)
      ];
      adds = paired-goes now.nodes nodes grow.numbers (positions t) i place o last.0 read.1 now.columns columns first.columns (digests t) tag tag_is adds w.adds;
      right = λ so.
          let r = right so in
          let s = w.right r.0 in
          (ends-go now.nodes nodes grow.numbers (positions t) i place o last.0 read.1 now.columns columns r.1 s.0, so-goes now.nodes nodes grow.numbers (positions t) i place o last.0 read.1 now.columns columns r.1 s.0 s.1);
    }
      where
        onto : reverse (parents_of further) ≡ after (parent_of o) x (reverse (parents_of left))
        onto = ap reverse parents ∙ reverse-onward (parent_of o) x (parents_of left)

-- All symbols are noted.
module _ (t : Term) (xs : List Sym) (place i : ℕ) (first now : Table) (opened : List Open) (is_right : Bool) (w : IsWalked t xs place i first now opened is_right) (done : (opened ≡ []) ⊎ (length xs ≤ i)) where
  none-ahead : rest (drop i xs) (reverse (parents_of opened)) ≡ []
  none-ahead = elim done [
    | inl e ↦ ap (λ (os : List Open). rest (drop i xs) (reverse (parents_of os))) e ∙ none-left (drop i xs)
    | inr l ↦ ap (λ (ys : List Sym). rest ys (reverse (parents_of opened))) (drop_all i xs l)
  ]

  all-read : length (positions t) ≤ i
  all-read = drop-nil (positions t) i nowhere (sym w.ahead ∙ none-ahead)

  pub all-noted : xs ≡ spell t → AllLeave now.nodes place t
  all-noted is s (p, u, at, above, a) =
      let r = symbol-where t u xs p nowhere (Var 0) is at in
      let past = all-read in
      let here = w.leaves r.0 (let l = r.1 in omega (arith, l, past)) in
      elim (here s.mark (subst (λ (q : Parent). IsAmong (noted q (get_or xs r.0 (Var 0))) s.mark) (sym r.2) (subst (λ (y : Sym). IsAmong (noted p y) s.mark) (sym r.3) a))) [
        | inl n ↦ inl n
        | inr f ↦ inr (subst (λ (n : ℕ). IsFounder now.nodes n place) (ap (λ (q : Parent). q.mark) r.2 ∙ above) f)
      ]

  pub all-added : IsTrue is_right → AddsOf now.nodes first.columns t place now.columns
  all-added so =
      adds-of t now.nodes (positions t) (digests t) i place first.columns now.columns refl refl w.within (all-so (positions t) i all-read (w.right so).1) w.adds

-- Symbols below which terms are still to be read, where one more is.

pub open-still : (old new : Nodes) (place : ℕ) (opened : List Open) → KeepsNumbers old new → KeepsFounders old new → AreOpen old place opened → AreOpen new place opened
open-still old new place opened numbers founders are i o e = let h = are i o e in (λ left c n. numbers (record { mark = o.mark; left = left }) c (h.0 left c n), λ f. founders.still o.mark place (h.1 f))

pub open-next : (nodes : Nodes) (place : ℕ) (opened new : List Open) (o : Open) → new ≡ kept_open o opened → IsOpen nodes place o → AreOpen nodes place opened → AreOpen nodes place new
open-next nodes place opened new o is here are = subst (AreOpen nodes place) (sym is) (by (o.left == 0))
  where
    by : (b : Bool) → AreOpen nodes place (if b then opened else opened ++ o ∷ [])
    by true = are
    by false = λ i p e. elim (slice_get-push opened o i p e) [ inl before ↦ are i p before | inr same ↦ subst (IsOpen nodes place) same.1 here ]

pub told : {T E P : Type 0} (r : Result T E) → P → OnOk r P
told (Ok u) h = h
told (Err u) h = tt
