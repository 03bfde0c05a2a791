-- Spelling a term from its nodes.
use Rattle.std.proofs.Common.{◌≡◌, ℕ, zero, suc, ◌-◌, ◌<◌, List, [], ◌∷◌, ◌++◌, length, map, reverse, get_or, refl, ap, sym, subst, ◌∙◌, arith, append-nil, append_assoc}
use Rattle.std.specs.Prelude.{All}
use Rattle.std.specs.List.{flat_map}
use Rattle.std.proofs.lemmas.List.{reverse-append, map-append, length-map}
use Rattle.std.proofs.lemmas.List.Concat.{flat_map-append}
use Rattle.std.proofs.lemmas.List.Elements.{All-head, All-tail, All-append, All-weaker}
use Rattle.std.proofs.lemmas.Option.{slice_get-get_or, get_or_from_slice_get}
use Rattle.apd_term.specs.Term.{Term, variable, spell, arity_of}
use Rattle.apd_term.specs.declared.term.Sym.{Sym}
use Rattle.apd_term.specs.declared.term.Sym.TheVariants.{Var, Int, Fun}
use Rattle.apd_term.proofs.Spelling.{spell-compound}
use Rattle.apd_intern.specs.declared.node.TermNode.{TermNode}
use Rattle.apd_intern.specs.declared.node.TermNode.TheVariants.{Variable}
use Rattle.apd_intern.specs.declared.node.ArgumentsLink.{ArgumentsLink}
use Rattle.apd_intern.specs.declared.spelling.PendingArguments.{PendingArguments}
use Rattle.apd_intern.specs.Nodes.{made, term_at, symbol_of, arguments_of, link_at, rest_at, IsRest, IsLinked, IsNode, term_of_node, decoded, IsTable}
use Rattle.apd_intern.specs.Pending.{places_left, IsPending}
use Rattle.apd_intern.proofs.Linked.{length-arguments_of}
use Rattle.apd_intern.proofs.Decoding.{node_at}

-- What is still to be spelled.

-- where the last of these was taken off
pub record IsPopped (links : List ArgumentsLink) (old popped : List PendingArguments) (p : PendingArguments) : Type 0 where
  pub some : 0 < p.count
  pub rest : IsRest links p.count p.at
  pub pending : IsPending links (reverse popped)
  pub left : places_left links (reverse old) ≡ rest_at links p.count p.at ++ places_left links (reverse popped)

pub pending_popped : (links : List ArgumentsLink) (old popped : List PendingArguments) (p : PendingArguments) → old ≡ popped ++ p ∷ [] → IsPending links (reverse old) → IsPopped links old popped p
pending_popped links old popped p e h =
    let turned : reverse old ≡ p ∷ reverse popped = ap reverse e ∙ reverse-append popped (p ∷ []) in
    let k : IsPending links (p ∷ reverse popped) = subst (IsPending links) turned h in
    record {
      some = k.0.0;
      rest = k.0.1;
      pending = k.1;
      left = ap (places_left links) turned;
    }

-- two places or more: the first, and the others
pub record IsSplit (links : List ArgumentsLink) (n at : ℕ) : Type 0 where
  pub there : at < length links
  pub rest : IsRest links (n - 1) (link_at links at).rest
  pub places : rest_at links n at ≡ (link_at links at).first ∷ rest_at links (n - 1) (link_at links at).rest

pub split : (links : List ArgumentsLink) (n at : ℕ) → 1 < n → IsRest links n at → IsSplit links n at
split links zero at l h = absurd (omega arith)
split links (suc zero) at l h = absurd (omega arith)
split links (suc (suc n)) at l h =
    let e : suc n ≡ suc (suc n) - 1 = omega arith in
    record {
      there = h.0;
      rest = subst (λ m. IsRest links m (link_at links at).rest) e h.1;
      places = ap (λ m. (link_at links at).first ∷ rest_at links m (link_at links at).rest) e;
    }

pub pending_pushed : (links : List ArgumentsLink) (popped new : List PendingArguments) (q : PendingArguments) → new ≡ popped ++ q ∷ [] → 0 < q.count → IsRest links q.count q.at → IsPending links (reverse popped)
    → IsPending links (reverse new) × (places_left links (reverse new) ≡ rest_at links q.count q.at ++ places_left links (reverse popped))
pending_pushed links popped new q e l r h =
    let turned : reverse new ≡ q ∷ reverse popped = ap reverse e ∙ reverse-append popped (q ∷ []) in
    (subst (IsPending links) (sym turned) ((l, r), h), ap (places_left links) turned)

-- Terms by their symbols.

spell_made : (s : Sym) (us : List Term) → length us ≡ arity_of s → spell (made s us) ≡ s ∷ flat_map spell us
spell_made (Var v) [] l = refl
spell_made (Var v) (u ∷ us) l = absurd (omega (arith, l))
spell_made (Int i) [] l = refl
spell_made (Int i) (u ∷ us) l = absurd (omega (arith, l))
spell_made (Fun f n) us l = spell-compound f us ∙ ap (λ k. Fun f k ∷ flat_map spell us) l

-- the symbols of terms at places
abbrev pub spelled_at : List ArgumentsLink → List TermNode → List ℕ → List Sym
spelled_at links nodes ps = flat_map spell (map (term_at (decoded links nodes)) ps)

spelled-append : (links : List ArgumentsLink) (nodes : List TermNode) (ps qs : List ℕ) → spelled_at links nodes (ps ++ qs) ≡ spelled_at links nodes ps ++ spelled_at links nodes qs
spelled-append links nodes ps qs =
    ap (flat_map spell) (map-append (term_at (decoded links nodes)) ps qs) ∙ flat_map-append spell (map (term_at (decoded links nodes)) ps) (map (term_at (decoded links nodes)) qs)

node_spelled : (links : List ArgumentsLink) (nodes : List TermNode) (p : ℕ) → IsTable links nodes → p < length nodes
    → IsNode links p (get_or nodes p (Variable 0))
    × (spell (term_at (decoded links nodes) p) ≡ symbol_of (get_or nodes p (Variable 0)) ∷ spelled_at links nodes (arguments_of links (get_or nodes p (Variable 0))))
node_spelled links nodes p h l =
    let terms : List Term = decoded links nodes in
    let node : TermNode = get_or nodes p (Variable 0) in
    let there = node_at links nodes p node h.ordered (slice_get-get_or nodes p (Variable 0) l) in
    let own : term_at terms p ≡ term_of_node links terms node = get_or_from_slice_get terms p (term_of_node links terms node) (variable 0) there.1 in
    let ps : List ℕ = arguments_of links node in
    (there.0, ap spell own ∙ spell_made (symbol_of node) (map (term_at terms) ps) (length-map ps (term_at terms) ∙ length-arguments_of links node))

-- the next of the places that are left is spelled
pub record IsOneMore (links : List ArgumentsLink) (nodes : List TermNode) (out whole : List Sym) (left left' : List ℕ) (p : ℕ) : Type 0 where
  pub node : IsNode links p (get_or nodes p (Variable 0))
  pub there : All (λ q. q < length nodes) left'
  pub spelled : (out ++ symbol_of (get_or nodes p (Variable 0)) ∷ []) ++ spelled_at links nodes left' ≡ whole
  pub smaller : length (spelled_at links nodes left') < length (spelled_at links nodes left)

pub one_more : (links : List ArgumentsLink) (nodes : List TermNode) (out whole : List Sym) (left rest left' : List ℕ) (p : ℕ) → IsTable links nodes
    → left ≡ p ∷ rest → All (λ q. q < length nodes) left → out ++ spelled_at links nodes left ≡ whole
    → left' ≡ arguments_of links (get_or nodes p (Variable 0)) ++ rest → IsOneMore links nodes out whole left left' p
one_more links nodes out whole left rest left' p h e below is f =
    let P : ℕ → Type 0 = λ q. q < length nodes in
    let all : All P (p ∷ rest) = subst (All P) e below in
    let here : p < length nodes = All-head P p rest all in
    let node : TermNode = get_or nodes p (Variable 0) in
    let k = node_spelled links nodes p h here in
    let ps : List ℕ = arguments_of links node in
    let arguments : All P ps = All-weaker (λ q. q < p) P (λ q l. omega (arith, l, here)) ps k.0.1 in
    let later : spelled_at links nodes left' ≡ spelled_at links nodes ps ++ spelled_at links nodes rest = ap (spelled_at links nodes) f ∙ spelled-append links nodes ps rest in
    let before : spelled_at links nodes left ≡ symbol_of node ∷ (spelled_at links nodes ps ++ spelled_at links nodes rest) =
    ap (spelled_at links nodes) e ∙ ap (λ s. s ++ spelled_at links nodes rest) k.1 in
    let same : spelled_at links nodes left ≡ symbol_of node ∷ spelled_at links nodes left' = before ∙ ap (λ s. symbol_of node ∷ s) (sym later) in
    record {
      node = k.0;
      there = subst (All P) (sym f) (All-append P ps rest arguments (All-tail P p rest all));
      spelled = append_assoc out (symbol_of node ∷ []) (spelled_at links nodes left') ∙ ap (λ s. out ++ s) (sym same) ∙ is;
      smaller = omega (arith, ap length same);
    }

pub next_linked : (links : List ArgumentsLink) (nodes : List TermNode) (left rest : List ℕ) (p : ℕ) → IsTable links nodes → left ≡ p ∷ rest → All (λ q. q < length nodes) left
    → IsLinked links (get_or nodes p (Variable 0))
next_linked links nodes left rest p h e below =
    let P : ℕ → Type 0 = λ q. q < length nodes in
    let here : p < length nodes = All-head P p rest (subst (All P) e below) in
    (node_spelled links nodes p h here).0.0

-- nothing is left
pub all_spelled : (links : List ArgumentsLink) (nodes : List TermNode) (out whole : List Sym) (left : List ℕ) → left ≡ [] → out ++ spelled_at links nodes left ≡ whole → out ≡ whole
all_spelled links nodes out whole left e is = sym (append-nil out) ∙ ap (λ ps. out ++ spelled_at links nodes ps) (sym e) ∙ is
