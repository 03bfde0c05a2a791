-- What putting a symbol does to the terms.
use Rattle.std.proofs.Common.{◌≡◌, ℕ, ◌<◌, ◌≤◌, ◌^◌, List, [], ◌∷◌, ◌++◌, length, map, take, drop, reverse, Some, ap, sym, subst, ◌∙◌, arith, length-append}
use Rattle.std.specs.Prelude.{slice_get, All}
use Rattle.std.proofs.lemmas.List.{take-map, drop-map, reverse-append}
use Rattle.std.proofs.lemmas.List.Elements.{All-take, All-drop, All-cons, All-weaker}
use Rattle.std.proofs.lemmas.Option.{slice_get_within, get_or_from_slice_get}
use Rattle.apd_term.specs.Term.{Term, variable, arity_of}
use Rattle.apd_term.specs.declared.term.Sym.{Sym}
use Rattle.apd_intern.specs.declared.node.TermNode.{TermNode}
use Rattle.apd_intern.specs.declared.node.ArgumentsLink.{ArgumentsLink}
use Rattle.apd_intern.specs.Nodes.{AreDistinct, Adds, IsFrontOf, AreThere, made, applied, term_at, symbol_of, arguments_of, IsLinked, IsNode, term_of_node, decoded, IsTable}
use Rattle.apd_intern.proofs.Lists.{adds_front}
use Rattle.apd_intern.proofs.Decoding.{map_front, table_push, table_kept, node_at, length-decoded}

-- a symbol whose arguments stand at the first of these places is put as a node
pub record IsPlaced (links links' : List ArgumentsLink) (nodes nodes' : List TermNode) (s : Sym) (ps : List ℕ) (node : TermNode) : Type 0 where
  pub table : IsTable links nodes
  pub front : IsFrontOf links links'
  pub distinct : AreDistinct links → AreDistinct links'
  pub there : AreThere (decoded links nodes) ps
  pub symbol : symbol_of node ≡ s
  pub linked : IsLinked links' node
  pub arguments : arguments_of links' node ≡ take (arity_of s) ps
  pub adds : Adds nodes node nodes'
  pub few : length nodes' < 2 ^ 32

module _ (links links' : List ArgumentsLink) (nodes nodes' : List TermNode) (s : Sym) (ps : List ℕ) (node : TermNode) (h : IsPlaced links links' nodes nodes' s ps node) where
  node_term : (terms : List Term) → term_of_node links' terms node ≡ made s (take (arity_of s) (map (term_at terms) ps))
  node_term terms =
      ap (λ z. made z (map (term_at terms) (arguments_of links' node))) h.symbol
      ∙ ap (λ qs. made s (map (term_at terms) qs)) h.arguments
      ∙ ap (made s) (sym (take-map (term_at terms) (arity_of s) ps))

  pushed : IsTable links' nodes' × Adds (decoded links' nodes) (term_of_node links' (decoded links' nodes) node) (decoded links' nodes')
  pushed =
      let kept = table_kept links links' nodes h.table h.front h.distinct in
      let below : All (λ p. p < length nodes) ps = subst (λ n. All (λ p. p < n) ps) (length-decoded links nodes) h.there in
      let own : IsNode links' (length nodes) node = (h.linked, subst (All (λ p. p < length nodes)) (sym h.arguments) (All-take (λ p. p < length nodes) (arity_of s) ps below)) in
      table_push links' nodes node nodes' kept.0 own h.adds h.few

  placed_table : IsTable links' nodes'
  placed_table = pushed.0

  placed_adds : Adds (decoded links nodes) (made s (take (arity_of s) (map (term_at (decoded links nodes)) ps))) (decoded links' nodes')
  placed_adds =
      let is = (table_kept links links' nodes h.table h.front h.distinct).1 in
      let a = subst (λ terms. Adds terms (term_of_node links' terms node) (decoded links' nodes')) is pushed.1 in
      subst (λ t. Adds (decoded links nodes) t (decoded links' nodes')) (node_term (decoded links nodes)) a

  front_of : IsFrontOf (decoded links nodes) (decoded links' nodes')
  front_of = adds_front (decoded links nodes) (made s (take (arity_of s) (map (term_at (decoded links nodes)) ps))) (decoded links' nodes') placed_adds

  kept_terms : (qs : List ℕ) → AreThere (decoded links nodes) qs → map (term_at (decoded links' nodes')) qs ≡ map (term_at (decoded links nodes)) qs
  kept_terms qs k =
      subst (λ terms. map (term_at terms) qs ≡ map (term_at (decoded links nodes)) qs) front_of.1 (map_front (decoded links nodes) front_of.0 (length (decoded links nodes)) qs (omega arith) k)

  placed_there : (p : ℕ) → slice_get nodes' p ≡ Some node → AreThere (decoded links' nodes') (p ∷ drop (arity_of s) ps)
  placed_there p at =
      let new : List Term = decoded links' nodes' in
      let below : p < length new = omega (arith, slice_get_within nodes' p node at, length-decoded links' nodes') in
      let longer : length (decoded links nodes) ≤ length new = omega (arith, ap length front_of.1, length-append (decoded links nodes) front_of.0) in
      let rest : AreThere (decoded links nodes) (drop (arity_of s) ps) = All-drop (λ p. p < length (decoded links nodes)) (arity_of s) ps h.there in
      All-cons (λ p. p < length new) p (drop (arity_of s) ps) below (All-weaker (λ p. p < length (decoded links nodes)) (λ p. p < length new) (λ p k. omega (arith, longer, k)) (drop (arity_of s) ps) rest)

  placed_terms : (p : ℕ) → slice_get nodes' p ≡ Some node → map (term_at (decoded links' nodes')) (p ∷ drop (arity_of s) ps) ≡ applied s (map (term_at (decoded links nodes)) ps)
  placed_terms p at =
      let old : List Term = decoded links nodes in
      let new : List Term = decoded links' nodes' in
      let there = (node_at links' nodes' p node placed_table.ordered at).1 in
      let own : term_at new p ≡ term_of_node links' new node = get_or_from_slice_get new p (term_of_node links' new node) (variable 0) there in
      let taken : take (arity_of s) (map (term_at new) ps) ≡ take (arity_of s) (map (term_at old) ps) = ap (take (arity_of s)) (kept_terms ps h.there) in
      let dropped : map (term_at new) (drop (arity_of s) ps) ≡ drop (arity_of s) (map (term_at old) ps) = sym (drop-map (term_at new) (arity_of s) ps) ∙ ap (drop (arity_of s)) (kept_terms ps h.there) in
      ap (λ t. t ∷ map (term_at new) (drop (arity_of s) ps)) (own ∙ node_term new ∙ ap (made s) taken) ∙ ap (λ ts. made s (take (arity_of s) (map (term_at old) ps)) ∷ ts) dropped

-- the terms after a symbol is put as a node
pub record IsAfter (old : List Term) (links : List ArgumentsLink) (nodes : List TermNode) (s : Sym) (ps : List ℕ) (node : TermNode) : Type 0 where
  pub table : IsTable links nodes
  pub adds : Adds old (made s (take (arity_of s) (map (term_at old) ps))) (decoded links nodes)
  pub there : (p : ℕ) → slice_get nodes p ≡ Some node → AreThere (decoded links nodes) (p ∷ drop (arity_of s) ps)
  pub terms : (p : ℕ) → slice_get nodes p ≡ Some node → map (term_at (decoded links nodes)) (p ∷ drop (arity_of s) ps) ≡ applied s (map (term_at old) ps)

pub after : (old : List Term) (links links' : List ArgumentsLink) (nodes nodes' : List TermNode) (s : Sym) (ps : List ℕ) (node : TermNode) → decoded links nodes ≡ old → IsTable links nodes
    → IsFrontOf links links' → (AreDistinct links → AreDistinct links') → AreThere old ps → symbol_of node ≡ s → IsLinked links' node → arguments_of links' node ≡ take (arity_of s) ps
    → Adds nodes node nodes' → length nodes' < 2 ^ 32 → IsAfter old links' nodes' s ps node
after old links links' nodes nodes' s ps node e table front distinct there is linked arguments adds few =
    let h : IsPlaced links links' nodes nodes' s ps node =
    record {
      table = table;
      front = front;
      distinct = distinct;
      there = subst (λ ts. AreThere ts ps) (sym e) there;
      symbol = is;
      linked = linked;
      arguments = arguments;
      adds = adds;
      few = few;
    }
    in
    record {
      table = placed_table links links' nodes nodes' s ps node h;
      adds = subst (λ ts. Adds ts (made s (take (arity_of s) (map (term_at ts) ps))) (decoded links' nodes')) e (placed_adds links links' nodes nodes' s ps node h);
      there = placed_there links links' nodes nodes' s ps node h;
      terms = λ p at. placed_terms links links' nodes nodes' s ps node h p at ∙ ap (λ ts. applied s (map (term_at ts) ps)) e;
    }

-- the places after a node's is put
pub places_after : (old mid new : List ℕ) (n p : ℕ) → reverse mid ≡ drop n (reverse old) → new ≡ mid ++ p ∷ [] → reverse new ≡ p ∷ drop n (reverse old)
places_after old mid new n p e is = ap reverse is ∙ reverse-append mid (p ∷ []) ∙ ap (λ ps. p ∷ ps) e
