-- Subterms are what the symbols of a term spell from a place on.
use Rattle.std.proofs.Common.{◌≡◌, ℕ, zero, suc, ◌+◌, ◌-◌, ◌<◌, ◌≤◌, List, [], ◌∷◌, ◌++◌, length, map, drop, reverse, get_or, Some, refl, ap, sym, subst, ◌∙◌, arith, inl, inr, append-nil, append_assoc, length-take}
use Rattle.std.specs.Prelude.{slice_get, All}
use Rattle.std.specs.List.{AllByRecursion}
use Rattle.std.proofs.lemmas.Bool.{cases_lt}
use Rattle.std.proofs.lemmas.List.{drop_at, drop-drop, drop_more, length-map, length-reverse}
use Rattle.std.proofs.lemmas.List.Elements.{All-head, All-tail}
use Rattle.std.proofs.lemmas.Option.{slice_get-get_or, slice_get_within}
use Rattle.apd_term.specs.Term.{Term, Terms, variable, integer, compound, none, more, arguments, spell, spell_all, size, size_all, first_of, read_all, arity_of, IsTerms}
use Rattle.apd_term.specs.declared.term.Sym.{Sym}
use Rattle.apd_term.specs.declared.term.Sym.TheVariants.{Var, Int, Fun}
use Rattle.apd_term.specs.Spelling.{read_all-spell}
use Rattle.apd_term.proofs.Spelling.{length-spell, under_name, IsTerms-tail, IsTerms-flat_map, list_of-terms_of}
use Rattle.apd_intern.specs.declared.node.TermNode.{TermNode}
use Rattle.apd_intern.specs.declared.node.TermNode.TheVariants.{Variable}
use Rattle.apd_intern.specs.declared.node.ArgumentsLink.{ArgumentsLink}
use Rattle.apd_intern.specs.Nodes.{Adds, AreThere, made, applied, term_at, terms_at, symbol_of, arguments_of, decoded, term_of_node, IsTable}
use Rattle.apd_intern.specs.Subterms.{IsSubterm, IsSubtermOfSome, GrowsBySubterms, StandsBefore, HaveEarlierArguments}
use Rattle.apd_intern.proofs.Decoding.{node_at, length-decoded}

mutual
  subterm_at : (t : Term) (k : ℕ) (rest : List Sym) → k < size t → IsSubterm (first_of (read_all (drop k (spell t ++ rest)))) t
  subterm_at (variable v) zero rest l = refl
  subterm_at (variable v) (suc k) rest l = absurd (omega arith)
  subterm_at (integer v) zero rest l = refl
  subterm_at (integer v) (suc k) rest l = absurd (omega arith)
  subterm_at (compound f ts) zero rest l = inl (ap first_of (read_all-spell (compound f ts) rest))
  subterm_at (compound f ts) (suc k) rest l = inr (some_at ts k rest (omega arith))

  some_at : (ts : Terms) (k : ℕ) (rest : List Sym) → k < size_all ts → IsSubtermOfSome (first_of (read_all (drop k (spell_all ts ++ rest)))) ts
  some_at none k rest l = absurd (omega arith)
  some_at (more t ts) k rest l =
      let e : (spell t ++ spell_all ts) ++ rest ≡ spell t ++ (spell_all ts ++ rest) = append_assoc (spell t) (spell_all ts) rest in
      elim (cases_lt k (size t)) [
        | inl h ↦ inl (subst (λ s. IsSubterm (first_of (read_all (drop k s))) t) (sym e) (subterm_at t k (spell_all ts ++ rest) h))
        | inr h ↦
            let j : ℕ = k - size t in
            let is : size t + j ≡ k = omega (arith, h) in
            let d : drop k (spell t ++ (spell_all ts ++ rest)) ≡ drop j (spell_all ts ++ rest) =
            ap (λ i. drop i (spell t ++ (spell_all ts ++ rest))) (sym is) ∙ sym (drop-drop j (size t) (spell t ++ (spell_all ts ++ rest))) ∙ ap (drop j) (drop_at (spell t) (spell_all ts ++ rest) (size t) (length-spell t)) in
            inr (subst (λ s. IsSubtermOfSome (first_of (read_all s)) ts) (sym (ap (drop k) e ∙ d)) (some_at ts j rest (omega (arith, is, l))))
      ]

pub subterm_from : (t : Term) (symbols : List Sym) (k : ℕ) → symbols ≡ spell t → k < length symbols → IsSubterm (first_of (read_all (drop k symbols))) t
subterm_from t symbols k e l =
    subst (λ s. IsSubterm (first_of (read_all (drop k s))) t) (append-nil (spell t) ∙ sym e) (subterm_at t k [] (omega (arith, l, ap length e, length-spell t)))

-- Growing by one more subterm.

all_push : {X : Type 0} (P : X → Type 0) (xs : List X) (y : X) → AllByRecursion P xs → P y → AllByRecursion P (xs ++ y ∷ [])
all_push P [] y h k = (k, tt)
all_push P (x ∷ xs) y h k = (h.0, all_push P xs y h.1 k)

pub grown_more : (t s : Term) (old mid new : List Term) → GrowsBySubterms t old mid → Adds mid s new → IsSubterm s t → GrowsBySubterms t old new
grown_more t s old mid new h a is =
    elim a [
      | inl e ↦ subst (GrowsBySubterms t old) (sym e) h
      | inr e ↦ (h.0 ++ s ∷ [], sym (append_assoc old h.0 (s ∷ [])) ∙ ap (λ xs. xs ++ s ∷ []) h.1 ∙ sym e.0, all_push (λ x. IsSubterm x t) h.0 s h.2 is)
    ]

-- The symbols of a term, from the end.

pub read_step : (x : Sym) (s : List Sym) → read_all (x ∷ s) ≡ applied x (read_all s)
read_step (Var v) s = refl
read_step (Int i) s = refl
read_step (Fun f n) s = refl

fits_on : (x : Sym) (s : List Sym) → IsTerms (x ∷ s) → arity_of x ≤ length (read_all s)
fits_on (Var v) s h = omega arith
fits_on (Int i) s h = omega arith
fits_on (Fun f n) s h = omega (arith, (under_name f n s h).0, length-take n (read_all s))

terms_from : (s : List Sym) (k : ℕ) → IsTerms s → IsTerms (drop k s)
terms_from s zero h = h
terms_from [] (suc k) h = h
terms_from (x ∷ s) (suc k) h = terms_from s k (IsTerms-tail x s h)

pub symbol_at : (symbols : List Sym) (k j : ℕ) (d : Sym) → j + 1 ≡ k → k ≤ length symbols → drop j symbols ≡ get_or symbols j d ∷ drop k symbols
symbol_at symbols k j d e l =
    drop_more symbols j d (omega (arith, e, l)) ∙ ap (λ i. get_or symbols j d ∷ drop i symbols) e

pub arity_fits : (t : Term) (symbols : List Sym) (k j : ℕ) (x : Sym) → symbols ≡ spell t → drop j symbols ≡ x ∷ drop k symbols → arity_of x ≤ length (read_all (drop k symbols))
arity_fits t symbols k j x e d =
    let whole : IsTerms symbols = subst IsTerms (append-nil (spell t) ∙ sym e) (IsTerms-flat_map (t ∷ [])) in
    fits_on x (drop k symbols) (subst IsTerms d (terms_from symbols j whole))

-- one symbol is put
pub grown_step : (t : Term) (symbols : List Sym) (k j : ℕ) (x : Sym) (terms old mid new : List Term) → symbols ≡ spell t → j < length symbols → drop j symbols ≡ x ∷ drop k symbols
    → terms ≡ read_all (drop k symbols) → GrowsBySubterms t old mid → Adds mid (first_of (applied x terms)) new → GrowsBySubterms t old new
grown_step t symbols k j x terms old mid new e l d is h a =
    let read : read_all (drop j symbols) ≡ applied x terms = ap read_all d ∙ read_step x (drop k symbols) ∙ ap (applied x) (sym is) in
    grown_more t (first_of (applied x terms)) old mid new h a (subst (λ ts. IsSubterm (first_of ts) t) read (subterm_from t symbols j e l))

-- Arguments stand earlier.

earlier_all : (terms : List Term) (i : ℕ) (ps : List ℕ) → i ≤ length terms → All (λ p. p < i) ps → AllByRecursion (StandsBefore terms i) (map (term_at terms) ps)
earlier_all terms i [] l h = tt
earlier_all terms i (p ∷ ps) l h =
    let below : p < i = All-head (λ p. p < i) p ps h in
    ((p, below, slice_get-get_or terms p (variable 0) (omega (arith, below, l))), earlier_all terms i ps l (All-tail (λ p. p < i) p ps h))

made_earlier : (terms : List Term) (i : ℕ) (s : Sym) (us : List Term) → AllByRecursion (StandsBefore terms i) us → AllByRecursion (StandsBefore terms i) (arguments (made s us))
made_earlier terms i (Var v) us h = tt
made_earlier terms i (Int v) us h = tt
made_earlier terms i (Fun f n) us h = subst (AllByRecursion (StandsBefore terms i)) (sym (list_of-terms_of us)) h

pub arguments_earlier : (links : List ArgumentsLink) (nodes : List TermNode) → IsTable links nodes → HaveEarlierArguments (decoded links nodes)
arguments_earlier links nodes h i t at =
    let terms : List Term = decoded links nodes in
    let within : i < length terms = slice_get_within terms i t at in
    let n : length terms ≡ length nodes = length-decoded links nodes in
    let node : TermNode = get_or nodes i (Variable 0) in
    let there = node_at links nodes i node h.ordered (slice_get-get_or nodes i (Variable 0) (omega (arith, n, within))) in
    let some : Some t ≡ Some (term_of_node links terms node) = sym at ∙ there.1 in
    let same : t ≡ term_of_node links terms node = cc in
    subst (λ x. AllByRecursion (StandsBefore terms i) (arguments x)) (sym same)
    (made_earlier terms i (symbol_of node) (map (term_at terms) (arguments_of links node)) (earlier_all terms i (arguments_of links node) (omega (arith, within)) there.0.1))

-- Where all symbols are put.

pub put_terms : (t : Term) (symbols : List Sym) (k : ℕ) (terms : List Term) → symbols ≡ spell t → k ≤ 0 → terms ≡ read_all (drop k symbols) → terms ≡ t ∷ []
put_terms t symbols k terms e l is =
    let zero-is : k ≡ 0 = omega (arith, l) in
    is ∙ ap (λ i. read_all (drop i symbols)) zero-is ∙ ap read_all (e ∙ sym (append-nil (spell t))) ∙ read_all-spell t []

pub some_place : (terms : List Term) (places : List ℕ) (t : Term) → terms_at terms places ≡ t ∷ [] → length places ≡ 1
some_place terms places t e = omega (arith, ap length e, length-map (reverse places) (term_at terms), length-reverse places)

pub only_place : (terms : List Term) (places : List ℕ) (t : Term) (p : ℕ) → terms_at terms places ≡ t ∷ [] → AreThere terms (reverse places) → p ≡ get_or places 0 p → slice_get terms p ≡ Some t
only_place terms [] t p e h is = absurd (omega (arith, some_place terms [] t e))
only_place terms (q ∷ []) t p e h is =
    let own : term_at terms q ≡ t = cc in
    let there : q < length terms = All-head (λ q. q < length terms) q [] h in
    ap (slice_get terms) is ∙ slice_get-get_or terms q (variable 0) there ∙ ap Some own
only_place terms (q ∷ r ∷ places) t p e h is = absurd (omega (arith, some_place terms (q ∷ r ∷ places) t e))
