-- The terms of nodes.
use Rattle.std.proofs.Common.{◌≡◌, ◌≢◌, ℕ, zero, suc, ◌+◌, ◌<◌, ◌≤◌, ◌^◌, List, [], ◌∷◌, ◌++◌, length, map, get_or, Some, refl, ap, sym, subst, ◌∙◌, arith, inl, inr, append-nil, append_assoc}
use Rattle.std.specs.Prelude.{slice_get, All}
use Rattle.std.proofs.lemmas.List.{get_or_append_left, length_push, length-map, nil_from_length}
use Rattle.std.proofs.lemmas.List.Elements.{All-head, All-tail, All-weaker}
use Rattle.std.proofs.lemmas.Option.{slice_get_within, slice_get-get_or}
use Rattle.apd_base.proofs.Lists.{slice_get-front, slice_get-last}
use Rattle.apd_term.specs.Term.{Term, variable, terms_of, list_of, arity_of}
use Rattle.apd_term.specs.declared.term.Sym.{Sym}
use Rattle.apd_term.specs.declared.term.Sym.TheVariants.{Var, Int, Fun}
use Rattle.apd_term.proofs.Spelling.{list_of-terms_of}
use Rattle.apd_intern.specs.declared.node.TermNode.{TermNode}
use Rattle.apd_intern.specs.declared.node.TermNode.TheVariants.{Variable}
use Rattle.apd_intern.specs.declared.node.ArgumentsLink.{ArgumentsLink}
use Rattle.apd_intern.specs.Nodes.{AreDistinct, Adds, IsFrontOf, made, term_at, symbol_of, arguments_of, IsNode, term_of_node, decoded_on, decoded, AreNodes, IsTable}
use Rattle.apd_intern.proofs.Lists.{distinct_push, distinct_at}
use Rattle.apd_intern.proofs.Linked.{node_kept, node_injective, length-arguments_of}

-- terms at places that are there stay with more behind them
pub map_front : (terms more : List Term) (m : ℕ) (ps : List ℕ) → m ≤ length terms → All (λ p. p < m) ps → map (term_at (terms ++ more)) ps ≡ map (term_at terms) ps
map_front terms more m [] l h = refl
map_front terms more m (p ∷ ps) l h =
    let there : p < m = All-head (λ p. p < m) p ps h in
    let e : term_at (terms ++ more) p ≡ term_at terms p = get_or_append_left terms more (variable 0) p (omega (arith, there, l)) in
    rw e (ap (λ ts. term_at terms p ∷ ts) (map_front terms more m ps l (All-tail (λ p. p < m) p ps h)))

term_front : (links : List ArgumentsLink) (terms more : List Term) (m : ℕ) (node : TermNode) → m ≤ length terms → IsNode links m node → term_of_node links (terms ++ more) node ≡ term_of_node links terms node
term_front links terms more m node l h = ap (made (symbol_of node)) (map_front terms more m (arguments_of links node) l h.1)

decoded_front : (links : List ArgumentsLink) (terms : List Term) (nodes : List TermNode) → IsFrontOf terms (decoded_on links terms nodes)
decoded_front links terms [] = ([], append-nil terms)
decoded_front links terms (node ∷ nodes) =
    let t : Term = term_of_node links terms node in
    let r = decoded_front links (terms ++ t ∷ []) nodes in
    (t ∷ r.0, sym (append_assoc terms (t ∷ []) r.0) ∙ r.1)

pub decoded_push : (links : List ArgumentsLink) (terms : List Term) (nodes : List TermNode) (node : TermNode)
    → decoded_on links terms (nodes ++ node ∷ []) ≡ decoded_on links terms nodes ++ term_of_node links (decoded_on links terms nodes) node ∷ []
decoded_push links terms [] node = refl
decoded_push links terms (n ∷ nodes) node = decoded_push links (terms ++ term_of_node links terms n ∷ []) nodes node

length-decoded_on : (links : List ArgumentsLink) (terms : List Term) (nodes : List TermNode) → length (decoded_on links terms nodes) ≡ length terms + length nodes
length-decoded_on links terms [] = omega arith
length-decoded_on links terms (n ∷ nodes) =
    let t : Term = term_of_node links terms n in
    omega (arith, length-decoded_on links (terms ++ t ∷ []) nodes, length_push terms t)

pub length-decoded : (links : List ArgumentsLink) (nodes : List TermNode) → length (decoded links nodes) ≡ length nodes
length-decoded links nodes = omega (arith, length-decoded_on links [] nodes)

nodes_push : (links : List ArgumentsLink) (m : ℕ) (nodes : List TermNode) (node : TermNode) → AreNodes links m nodes → IsNode links (m + length nodes) node → AreNodes links m (nodes ++ node ∷ [])
nodes_push links m [] node h k = (subst (λ i. IsNode links i node) (omega arith) k, tt)
nodes_push links m (n ∷ nodes) node h k =
    let e : m + suc (length nodes) ≡ (m + 1) + length nodes = omega arith in
    (h.0, nodes_push links (m + 1) nodes node h.1 (subst (λ i. IsNode links i node) e k))

nodes_kept : (links more : List ArgumentsLink) (m : ℕ) (nodes : List TermNode) → AreNodes links m nodes → AreNodes (links ++ more) m nodes
nodes_kept links more m [] h = tt
nodes_kept links more m (n ∷ nodes) h =
    let k = node_kept links more n h.0.0 in
    ((k.0, subst (All (λ p. p < m)) (sym k.1) h.0.1), nodes_kept links more (m + 1) nodes h.1)

decoded_kept : (links more : List ArgumentsLink) (terms : List Term) (m : ℕ) (nodes : List TermNode) → AreNodes links m nodes → decoded_on (links ++ more) terms nodes ≡ decoded_on links terms nodes
decoded_kept links more terms m [] h = refl
decoded_kept links more terms m (n ∷ nodes) h =
    let k = node_kept links more n h.0.0 in
    ap (λ ps. decoded_on (links ++ more) (terms ++ made (symbol_of n) (map (term_at terms) ps) ∷ []) nodes) k.1
    ∙ decoded_kept links more (terms ++ term_of_node links terms n ∷ []) (m + 1) nodes h.1

-- the node at a place, and its term there
node_there : (links : List ArgumentsLink) (terms : List Term) (nodes : List TermNode) (m i k : ℕ) (node : TermNode)
    → m ≡ length terms → k ≡ m + i → AreNodes links m nodes → slice_get nodes i ≡ Some node
    → IsNode links k node × (slice_get (decoded_on links terms nodes) k ≡ Some (term_of_node links (decoded_on links terms nodes) node))
node_there links terms [] m i k node e f h at = cc
node_there links terms (n ∷ nodes) m zero k node e f h at =
    let same : n ≡ node = cc in
    let k-is : k ≡ m = omega (arith, f) in
    let t : Term = term_of_node links terms n in
    let front = decoded_front links (terms ++ t ∷ []) nodes in
    let all : terms ++ (t ∷ front.0) ≡ decoded_on links (terms ++ t ∷ []) nodes = sym (append_assoc terms (t ∷ []) front.0) ∙ front.1 in
    let own : term_of_node links (decoded_on links (terms ++ t ∷ []) nodes) n ≡ t = subst (λ ts. term_of_node links ts n ≡ t) all (term_front links terms (t ∷ front.0) m n (omega (arith, e)) h.0) in
    let last : slice_get (terms ++ t ∷ []) k ≡ Some t = subst (λ i. slice_get (terms ++ t ∷ []) i ≡ Some t) (sym (k-is ∙ e)) (slice_get-last terms t) in
    let there : slice_get (decoded_on links (terms ++ t ∷ []) nodes) k ≡ Some t = subst (λ ts. slice_get ts k ≡ Some t) front.1 (slice_get-front (terms ++ t ∷ []) front.0 k t last) in
    subst (λ x. IsNode links k x × (slice_get (decoded_on links (terms ++ t ∷ []) nodes) k ≡ Some (term_of_node links (decoded_on links (terms ++ t ∷ []) nodes) x))) same
    (subst (λ i. IsNode links i n) (sym k-is) h.0, there ∙ ap Some (sym own))
node_there links terms (n ∷ nodes) m (suc i) k node e f h at =
    let t : Term = term_of_node links terms n in
    node_there links (terms ++ t ∷ []) nodes (m + 1) i k node (omega (arith, e, length_push terms t)) (omega (arith, f)) h.1 at

pub node_at : (links : List ArgumentsLink) (nodes : List TermNode) (k : ℕ) (node : TermNode) → AreNodes links 0 nodes → slice_get nodes k ≡ Some node
    → IsNode links k node × (slice_get (decoded links nodes) k ≡ Some (term_of_node links (decoded links nodes) node))
node_at links nodes k node h at = node_there links [] nodes 0 k k node refl (omega arith) h at

-- Terms are told by their symbols and arguments.

made_injective : (s s' : Sym) (us us' : List Term) → length us ≡ arity_of s → length us' ≡ arity_of s' → made s us ≡ made s' us' → (s ≡ s') × (us ≡ us')
made_injective (Var v) (Var w) us us' l m e = let x : v ≡ w = cc in (ap Var x, nil_from_length us l ∙ sym (nil_from_length us' m))
made_injective (Int v) (Int w) us us' l m e = let x : v ≡ w = cc in (ap Int x, nil_from_length us l ∙ sym (nil_from_length us' m))
made_injective (Fun f n) (Fun g m) us us' l k e =
    let i : f ≡ g = cc in
    let j : terms_of us ≡ terms_of us' = cc in
    let same : us ≡ us' = sym (list_of-terms_of us) ∙ ap list_of j ∙ list_of-terms_of us' in
    (ap (λ h. Fun h n) i ∙ ap (Fun g) (sym l ∙ ap length same ∙ k), same)
made_injective (Var v) (Int w) us us' l m e = absurd (cc)
made_injective (Var v) (Fun g k) us us' l m e = absurd (cc)
made_injective (Int v) (Var w) us us' l m e = absurd (cc)
made_injective (Int v) (Fun g k) us us' l m e = absurd (cc)
made_injective (Fun f n) (Var w) us us' l m e = absurd (cc)
made_injective (Fun f n) (Int w) us us' l m e = absurd (cc)

places_same : (terms : List Term) → AreDistinct terms → (ps qs : List ℕ) → All (λ p. p < length terms) ps → All (λ p. p < length terms) qs
    → map (term_at terms) ps ≡ map (term_at terms) qs → ps ≡ qs
places_same terms d [] [] h k e = refl
places_same terms d [] (q ∷ qs) h k e = absurd (cc)
places_same terms d (p ∷ ps) [] h k e = absurd (cc)
places_same terms d (p ∷ ps) (q ∷ qs) h k e =
    let P : ℕ → Type 0 = λ p. p < length terms in
    let first : term_at terms p ≡ term_at terms q = cc in
    let rest : map (term_at terms) ps ≡ map (term_at terms) qs = cc in
    ap (λ z. z ∷ ps) (distinct_at terms (variable 0) p q d (All-head P p ps h) (All-head P q qs k) first)
    ∙ ap (λ zs. q ∷ zs) (places_same terms d ps qs (All-tail P p ps h) (All-tail P q qs k) rest)

all_below : (m n : ℕ) (ps : List ℕ) → m ≤ n → All (λ p. p < m) ps → All (λ p. p < n) ps
all_below m n ps l h = All-weaker (λ p. p < m) (λ p. p < n) (λ p k. omega (arith, l, k)) ps h

-- the term of a node that isn't there isn't there
new_term : (links : List ArgumentsLink) (nodes : List TermNode) (node : TermNode) → IsTable links nodes → IsNode links (length nodes) node
    → ((k : ℕ) → slice_get nodes k ≢ Some node) → (k : ℕ) → slice_get (decoded links nodes) k ≢ Some (term_of_node links (decoded links nodes) node)
new_term links nodes node h own absent k at =
    let terms : List Term = decoded links nodes in
    let n : length terms ≡ length nodes = length-decoded links nodes in
    let below : k < length nodes = omega (arith, n, slice_get_within terms k (term_of_node links terms node) at) in
    let other : TermNode = get_or nodes k (Variable 0) in
    let other-at : slice_get nodes k ≡ Some other = slice_get-get_or nodes k (Variable 0) below in
    let there = node_at links nodes k other h.ordered other-at in
    let some : Some (term_of_node links terms other) ≡ Some (term_of_node links terms node) = sym there.1 ∙ at in
    let terms-same : term_of_node links terms other ≡ term_of_node links terms node = cc in
    let ps : List ℕ = arguments_of links other in
    let qs : List ℕ = arguments_of links node in
    let parts = made_injective (symbol_of other) (symbol_of node) (map (term_at terms) ps) (map (term_at terms) qs)
    (length-map ps (term_at terms) ∙ length-arguments_of links other) (length-map qs (term_at terms) ∙ length-arguments_of links node) terms-same in
    let arguments : ps ≡ qs = places_same terms h.distinct ps qs (all_below k (length terms) ps (omega (arith, n, below)) there.0.1) (all_below (length nodes) (length terms) qs (omega (arith, n)) own.1) parts.1 in
    let same : other ≡ node = node_injective links h.linked other node there.0.0 own.0 parts.0 arguments in
    absent k (other-at ∙ ap Some same)

-- a table with one more node
pub table_push : (links : List ArgumentsLink) (nodes : List TermNode) (node : TermNode) (nodes' : List TermNode) → IsTable links nodes → IsNode links (length nodes) node
    → Adds nodes node nodes' → length nodes' < 2 ^ 32
    → IsTable links nodes' × Adds (decoded links nodes) (term_of_node links (decoded links nodes) node) (decoded links nodes')
table_push links nodes node nodes' h own a few =
    elim a [
      | inl e ↦ (subst (IsTable links) (sym e) h, inl (ap (decoded links) e))
      | inr e ↦
          let terms : List Term = decoded links nodes in
          let is : decoded links nodes' ≡ terms ++ term_of_node links terms node ∷ [] = ap (decoded links) e.0 ∙ decoded_push links [] nodes node in
          let absent = new_term links nodes node h own e.1 in
          let pushed : AreNodes links 0 (nodes ++ node ∷ []) = nodes_push links 0 nodes node h.ordered (subst (λ i. IsNode links i node) (omega arith) own) in (
            record {
              linked = h.linked;
              ordered = subst (AreNodes links 0) (sym e.0) pushed;
              distinct = subst AreDistinct (sym is) (distinct_push terms (term_of_node links terms node) h.distinct absent);
              few = few;
            },
            inr (is, absent),
          )
    ]

-- and with more links
pub table_kept : (links links' : List ArgumentsLink) (nodes : List TermNode) → IsTable links nodes → IsFrontOf links links' → (AreDistinct links → AreDistinct links')
    → IsTable links' nodes × (decoded links' nodes ≡ decoded links nodes)
table_kept links links' nodes h front distinct =
    let is : decoded links' nodes ≡ decoded links nodes = subst (λ ls. decoded ls nodes ≡ decoded links nodes) front.1 (decoded_kept links front.0 [] 0 nodes h.ordered) in (
      record {
        linked = distinct h.linked;
        ordered = subst (λ ls. AreNodes ls 0 nodes) front.1 (nodes_kept links front.0 0 nodes h.ordered);
        distinct = subst AreDistinct (sym is) h.distinct;
        few = h.few;
      },
      is,
    )
