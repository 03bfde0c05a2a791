-- Nodes and links, and the terms that they are.
use Rattle.std.specs.Prelude.{◌≡◌, ◌≢◌, ◌⊎◌, ℕ, ◌+◌, ◌<◌, ◌^◌, List, [], ◌∷◌, ◌++◌, length, map, take, drop, reverse, get_or, All, Some, slice_get}
use Rattle.std.proofs.Common.{zero, suc}
use Rattle.apd_term.specs.Term.{Term, variable, integer, compound, terms_of, arity_of}
use Rattle.apd_term.specs.declared.term.Sym.{Sym}
use Rattle.apd_term.specs.declared.term.Sym.TheVariants.{Var, Int, Fun}
use Rattle.apd_intern.specs.declared.node.TermNode.{TermNode}
use Rattle.apd_intern.specs.declared.node.TermNode.TheVariants.{Variable, Integer, Compound}
use Rattle.apd_intern.specs.declared.node.ArgumentsLink.{ArgumentsLink}

-- Lists that grow.

-- nothing stands at two places of the list
abbrev pub AreDistinct : {X : Type 0} → List X → Type 0
AreDistinct {X} xs = (i j : ℕ) (x : X) → slice_get xs i ≡ Some x → slice_get xs j ≡ Some x → i ≡ j

-- ys is xs, or xs with x at its end, which wasn't there
abbrev pub Adds : {X : Type 0} → List X → X → List X → Type 0
Adds xs x ys = (ys ≡ xs) ⊎ ((ys ≡ xs ++ x ∷ []) × ((k : ℕ) → slice_get xs k ≢ Some x))

abbrev pub IsFrontOf : {X : Type 0} → List X → List X → Type 0
IsFrontOf {X} xs ys = (more : List X) × (xs ++ more ≡ ys)

-- Terms over others.

-- the term with this symbol over these arguments
abbrev pub made : Sym → List Term → Term
made (Var v) args = variable v
made (Int i) args = integer i
made (Fun f n) args = compound f (terms_of args)

-- the symbol before terms takes its arguments from them
abbrev pub applied : Sym → List Term → List Term
applied s terms = made s (take (arity_of s) terms) ∷ drop (arity_of s) terms

-- the term at a place
abbrev pub term_at : List Term → ℕ → Term
term_at terms p = get_or terms p (variable 0)

abbrev pub AreThere : List Term → List ℕ → Type 0
AreThere terms places = All (λ p. p < length terms) places

-- the terms at these places, the last one first
abbrev pub terms_at : List Term → List ℕ → List Term
terms_at terms places = map (term_at terms) (reverse places)

-- Nodes.

abbrev pub symbol_of : TermNode → Sym
symbol_of (Variable v) = Var v
symbol_of (Integer i) = Int i
symbol_of (Compound f n first rest) = Fun f n

abbrev pub no_link : ArgumentsLink
no_link = record { first = 0; rest = 0 }

abbrev pub link_at : List ArgumentsLink → ℕ → ArgumentsLink
link_at links r = get_or links r no_link

-- the places of n arguments
abbrev pub rest_at : List ArgumentsLink → ℕ → ℕ → List ℕ
rest_at links zero r = []
rest_at links (suc zero) r = r ∷ []
rest_at links (suc (suc n)) r = (link_at links r).first ∷ rest_at links (suc n) (link_at links r).rest

-- the links of n arguments are there
abbrev pub IsRest : List ArgumentsLink → ℕ → ℕ → Type 0
IsRest links zero r = r ≡ 0
IsRest links (suc zero) r = Unit {0}
IsRest links (suc (suc n)) r = (r < length links) × IsRest links (suc n) (link_at links r).rest

-- the places of a node's arguments
abbrev pub all_at : List ArgumentsLink → ℕ → ℕ → ℕ → List ℕ
all_at links zero first rest = []
all_at links (suc n) first rest = first ∷ rest_at links n rest

abbrev pub AreAll : List ArgumentsLink → ℕ → ℕ → ℕ → Type 0
AreAll links zero first rest = (first ≡ 0) × (rest ≡ 0)
AreAll links (suc n) first rest = IsRest links n rest

abbrev pub arguments_of : List ArgumentsLink → TermNode → List ℕ
arguments_of links (Variable v) = []
arguments_of links (Integer i) = []
arguments_of links (Compound f n first rest) = all_at links n first rest

-- the links of a node are there
abbrev pub IsLinked : List ArgumentsLink → TermNode → Type 0
IsLinked links (Variable v) = Unit {0}
IsLinked links (Integer i) = Unit {0}
IsLinked links (Compound f n first rest) = AreAll links n first rest

-- the node's links are there, and its arguments are among the first m nodes
abbrev pub IsNode : List ArgumentsLink → ℕ → TermNode → Type 0
IsNode links m node = IsLinked links node × All (λ p. p < m) (arguments_of links node)

-- the term of a node over the terms of earlier ones
abbrev pub term_of_node : List ArgumentsLink → List Term → TermNode → Term
term_of_node links terms node = made (symbol_of node) (map (term_at terms) (arguments_of links node))

-- the terms of further nodes, behind those of earlier ones
abbrev pub decoded_on : List ArgumentsLink → List Term → List TermNode → List Term
decoded_on links terms [] = terms
decoded_on links terms (node ∷ nodes) = decoded_on links (terms ++ term_of_node links terms node ∷ []) nodes

abbrev pub decoded : List ArgumentsLink → List TermNode → List Term
decoded links nodes = decoded_on links [] nodes

-- each of these nodes has its arguments among those before it, where m stand before the first
abbrev pub AreNodes : List ArgumentsLink → ℕ → List TermNode → Type 0
AreNodes links m [] = Unit {0}
AreNodes links m (node ∷ nodes) = IsNode links m node × AreNodes links (m + 1) nodes

-- nodes and links that are distinct terms
pub record IsTable (links : List ArgumentsLink) (nodes : List TermNode) : Type 0 where
  pub linked : AreDistinct links
  pub ordered : AreNodes links 0 nodes
  pub distinct : AreDistinct (decoded links nodes)
  pub few : length nodes < 2 ^ 32
