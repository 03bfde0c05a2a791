-- Nodes over links.
use Rattle.std.proofs.Common.{◌≡◌, ℕ, zero, suc, ◌+◌, ◌-◌, ◌<◌, List, [], ◌∷◌, ◌++◌, length, take, drop, reverse, get_or, Some, refl, ap, sym, subst, ◌∙◌, arith, length-append}
use Rattle.std.specs.Prelude.{slice_get}
use Rattle.std.specs.Bool.{Decides}
use Rattle.std.proofs.lemmas.Bool.Decides.{Decides-eqb, Decides-int_eq, nat_tests}
use Rattle.std.proofs.lemmas.Option.{slice_get_within, get_or_from_slice_get}
use Rattle.std.proofs.lemmas.List.{get_or_append_left, take_more, reverse-append, take_at, drop_at, length-reverse, take_all, take-append-drop, length-drop, length-take, get_or-drop}
use Rattle.apd_term.specs.Term.{arity_of}
use Rattle.apd_intern.specs.declared.node.TermNode.{TermNode}
use Rattle.apd_intern.specs.declared.node.TermNode.TheVariants.{Variable, Integer, Compound}
use Rattle.apd_intern.specs.declared.node.ArgumentsLink.{ArgumentsLink}
use Rattle.apd_intern.specs.contracts.node.TermNodePartialEq.TheImpl as node_impl
use Rattle.apd_intern.specs.contracts.node.ArgumentsLinkPartialEq.TheImpl as link_impl
use Rattle.apd_intern.specs.Nodes.{AreDistinct, IsFrontOf, Adds, no_link, link_at, rest_at, IsRest, all_at, AreAll, arguments_of, IsLinked, symbol_of}
use Rattle.apd_intern.proofs.Lists.{distinct_at, adds_front}

-- the program's `==` on nodes and on links
pub node_eq : (a b : TermNode) → Decides (node_impl.eq-value.it a b) (a ≡ b)
node_eq (Variable v) (Variable w) = let d = Decides-eqb v w in (λ e. ap Variable (d.0 e), λ e. d.1 (cc))
node_eq (Integer v) (Integer w) = let d = Decides-int_eq v w in (λ e. ap Integer (d.0 e), λ e. d.1 (cc))
node_eq (Compound f n x r) (Compound g m y s) =
    let d = Decides-eqb f.0 g.0 in
    let k = Decides-eqb n m in
    let p = Decides-eqb x y in
    let q = Decides-eqb r s in
    grind (arith, nat_tests)
node_eq _ _ = (λ e. (cc), λ e. (cc))

pub link_eq : (a b : ArgumentsLink) → Decides (link_impl.eq-value.it a b) (a ≡ b)
link_eq a b =
    let d = Decides-eqb a.first b.first in
    let k = Decides-eqb a.rest b.rest in
    grind (arith, nat_tests)

-- Links with more behind them.

pub rest_kept : (links more : List ArgumentsLink) (n r : ℕ) → IsRest links n r → IsRest (links ++ more) n r × (rest_at (links ++ more) n r ≡ rest_at links n r)
rest_kept links more zero r h = (h, refl)
rest_kept links more (suc zero) r h = (tt, refl)
rest_kept links more (suc (suc n)) r h =
    let e : link_at (links ++ more) r ≡ link_at links r = get_or_append_left links more no_link r h.0 in
    let k = rest_kept links more (suc n) (link_at links r).rest h.1 in (
      (omega (arith, h.0, length-append links more), subst (λ (l : ArgumentsLink). IsRest (links ++ more) (suc n) l.rest) (sym e) k.0),
      ap (λ (l : ArgumentsLink). l.first ∷ rest_at (links ++ more) (suc n) l.rest) e ∙ ap (λ ps. (link_at links r).first ∷ ps) k.1,
    )

pub node_kept : (links more : List ArgumentsLink) (node : TermNode) → IsLinked links node → IsLinked (links ++ more) node × (arguments_of (links ++ more) node ≡ arguments_of links node)
node_kept links more (Variable v) h = (tt, refl)
node_kept links more (Integer i) h = (tt, refl)
node_kept links more (Compound f zero x r) h = (h, refl)
node_kept links more (Compound f (suc n) x r) h =
    let k = rest_kept links more n r h in (k.0, ap (λ ps. x ∷ ps) k.1)

-- Nodes are told by their symbols and arguments.

pub length-rest_at : (links : List ArgumentsLink) (n r : ℕ) → length (rest_at links n r) ≡ n
length-rest_at links zero r = refl
length-rest_at links (suc zero) r = refl
length-rest_at links (suc (suc n)) r = ap suc (length-rest_at links (suc n) (link_at links r).rest)

pub length-arguments_of : (links : List ArgumentsLink) (node : TermNode) → length (arguments_of links node) ≡ arity_of (symbol_of node)
length-arguments_of links (Variable v) = refl
length-arguments_of links (Integer i) = refl
length-arguments_of links (Compound f zero x r) = refl
length-arguments_of links (Compound f (suc n) x r) = ap suc (length-rest_at links n r)

same_link : (a b : ArgumentsLink) → a.first ≡ b.first → a.rest ≡ b.rest → a ≡ b
same_link a b e f = ap (λ p. record { first = p; rest = a.rest }) e ∙ ap (λ r. record { first = b.first; rest = r }) f

rest_injective : (links : List ArgumentsLink) → AreDistinct links → (n r s : ℕ) → IsRest links n r → IsRest links n s → rest_at links n r ≡ rest_at links n s → r ≡ s
rest_injective links d zero r s h k e = h ∙ sym k
rest_injective links d (suc zero) r s h k e = cc
rest_injective links d (suc (suc n)) r s h k e =
    let first : (link_at links r).first ≡ (link_at links s).first = cc in
    let rest : rest_at links (suc n) (link_at links r).rest ≡ rest_at links (suc n) (link_at links s).rest = cc in
    let later : (link_at links r).rest ≡ (link_at links s).rest = rest_injective links d (suc n) (link_at links r).rest (link_at links s).rest h.1 k.1 rest in
    distinct_at links no_link r s d h.0 k.0 (same_link (link_at links r) (link_at links s) first later)

pub node_injective : (links : List ArgumentsLink) → AreDistinct links → (a b : TermNode) → IsLinked links a → IsLinked links b
    → symbol_of a ≡ symbol_of b → arguments_of links a ≡ arguments_of links b → a ≡ b
node_injective links d (Variable v) (Variable w) h k e g = let x : v ≡ w = cc in ap Variable x
node_injective links d (Integer v) (Integer w) h k e g = let x : v ≡ w = cc in ap Integer x
node_injective links d (Compound f zero x r) (Compound g zero y s) h k e u =
    let i : f ≡ g = cc in
    ap (λ z. Compound z 0 x r) i ∙ ap (λ z. Compound g 0 z r) (h.0 ∙ sym k.0) ∙ ap (λ z. Compound g 0 y z) (h.1 ∙ sym k.1)
node_injective links d (Compound f (suc n) x r) (Compound g (suc m) y s) h k e u =
    let i : f ≡ g = cc in
    let j : n ≡ m = cc in
    let first : x ≡ y = cc in
    let rest : rest_at links n r ≡ rest_at links m s = cc in
    let t : r ≡ s = rest_injective links d m r s (subst (λ z. IsRest links z r) j h) k (ap (λ z. rest_at links z r) (sym j) ∙ rest) in
    ap (λ z. Compound z (suc n) x r) i ∙ ap (λ z. Compound g (suc z) x r) j ∙ ap (λ z. Compound g (suc m) z r) first ∙ ap (λ z. Compound g (suc m) y z) t
node_injective links d _ _ h k e g = absurd (cc)

-- Arguments that are put, the last one first.

rest_step : (links : List ArgumentsLink) (n r p q : ℕ) → 0 < n → IsRest links n r → slice_get links q ≡ Some (record { first = p; rest = r })
    → IsRest links (n + 1) q × (rest_at links (n + 1) q ≡ p ∷ rest_at links n r)
rest_step links zero r p q l h at = absurd (omega arith)
rest_step links (suc n) r p q l h at =
    let e : link_at links q ≡ record { first = p; rest = r } = get_or_from_slice_get links q (record { first = p; rest = r }) no_link at in
    let two : suc n + 1 ≡ suc (suc n) = omega arith in
    subst (λ k. IsRest links k q × (rest_at links k q ≡ p ∷ rest_at links (suc n) r)) (sym two) (
      (slice_get_within links q (record { first = p; rest = r }) at, subst (λ (k : ArgumentsLink). IsRest links (suc n) k.rest) (sym e) h),
      ap (λ (k : ArgumentsLink). k.first ∷ rest_at links (suc n) k.rest) e,
    )

reverse_more : (ps : List ℕ) (i d : ℕ) → i < length ps → reverse (take (i + 1) ps) ≡ get_or ps i d ∷ reverse (take i ps)
reverse_more ps i d l = ap reverse (take_more ps i d l) ∙ reverse-append (take i ps) (get_or ps i d ∷ [])

-- the first i of these places are put
pub record IsPut (links : List ArgumentsLink) (ps : List ℕ) (i r : ℕ) : Type 0 where
  pub rest : IsRest links i r
  pub places : rest_at links i r ≡ reverse (take i ps)

pub put_next : (links links' : List ArgumentsLink) (ps : List ℕ) (i r q d : ℕ) → 0 < i → i < length ps → IsPut links ps i r
    → Adds links (record { first = get_or ps i d; rest = r }) links' → slice_get links' q ≡ Some (record { first = get_or ps i d; rest = r })
    → IsPut links' ps (i + 1) q
put_next links links' ps i r q d l m h a at =
    let front = adds_front links (record { first = get_or ps i d; rest = r }) links' a in
    let k = rest_kept links front.0 i r h.rest in
    let k0 : IsRest links' i r = subst (λ ls. IsRest ls i r) front.1 k.0 in
    let k1 : rest_at links' i r ≡ rest_at links i r = subst (λ ls. rest_at ls i r ≡ rest_at links i r) front.1 k.1 in
    let s = rest_step links' i r (get_or ps i d) q l k0 at in
    record {
      rest = s.0;
      places = s.1 ∙ ap (λ xs. get_or ps i d ∷ xs) (k1 ∙ h.places) ∙ sym (reverse_more ps i d m);
    }

pub front_front : (a b c : List ArgumentsLink) → IsFrontOf a b → IsFrontOf b c → IsFrontOf a c
front_front a b c h k =
    (h.0 ++ k.0, cc_append a h.0 k.0 ∙ ap (λ xs. xs ++ k.0) h.1 ∙ k.1)
  where
    cc_append : (xs ys zs : List ArgumentsLink) → xs ++ (ys ++ zs) ≡ (xs ++ ys) ++ zs
    cc_append [] ys zs = refl
    cc_append (x ∷ xs) ys zs = ap (λ ws. x ∷ ws) (cc_append xs ys zs)

-- A symbol takes its arguments from the end of the places.

-- the last n of these places, turned round
pub last_reversed : (ps : List ℕ) (n from : ℕ) → from + n ≡ length ps
    → (take n (reverse ps) ≡ reverse (drop from ps)) × (drop n (reverse ps) ≡ reverse (take from ps))
last_reversed ps n from e =
    let turned : reverse ps ≡ reverse (drop from ps) ++ reverse (take from ps) = ap reverse (sym (take-append-drop from ps)) ∙ reverse-append (take from ps) (drop from ps) in
    let l : length (reverse (drop from ps)) ≡ n = omega (arith, length-reverse (drop from ps), length-drop from ps, e) in (
      ap (take n) turned ∙ take_at (reverse (drop from ps)) (reverse (take from ps)) n l,
      ap (drop n) turned ∙ drop_at (reverse (drop from ps)) (reverse (take from ps)) n l,
    )

-- the last of them comes first
pub last_first : (ps : List ℕ) (n from end d : ℕ) → from + n ≡ length ps → end + 1 ≡ length ps → 0 < n
    → take n (reverse ps) ≡ get_or ps end d ∷ reverse (take (end - from) (drop from ps))
last_first ps n from end d e f l =
    let tail : List ℕ = drop from ps in
    let k : length tail ≡ n = omega (arith, length-drop from ps, e) in
    let more : take ((end - from) + 1) tail ≡ take (end - from) tail ++ get_or tail (end - from) d ∷ [] = take_more tail (end - from) d (omega (arith, k, e, f, l)) in
    let whole : take ((end - from) + 1) tail ≡ tail = take_all ((end - from) + 1) tail (omega (arith, k, e, f, l)) in
    let place : from + (end - from) ≡ end = omega (arith, e, f, l) in
    let read : get_or tail (end - from) d ≡ get_or ps end d = get_or-drop from ps (end - from) d ∙ ap (λ i. get_or ps i d) place in
    (last_reversed ps n from e).0 ∙ ap reverse (sym whole ∙ more) ∙ reverse-append (take (end - from) tail) (get_or tail (end - from) d ∷ []) ∙ ap (λ x. x ∷ reverse (take (end - from) tail)) read

-- the arguments of a name, which are put
pub put_all : (links : List ArgumentsLink) (n p r : ℕ) (ps : List ℕ) → length ps + 1 ≡ n → IsRest links (length ps) r → rest_at links (length ps) r ≡ ps
    → AreAll links n p r × (all_at links n p r ≡ p ∷ ps)
put_all links zero p r ps e h is = absurd (omega (arith, e))
put_all links (suc n) p r ps e h is =
    let k : length ps ≡ n = omega (arith, e) in
    (subst (λ m. IsRest links m r) k h, ap (λ qs. p ∷ qs) (subst (λ m. rest_at links m r ≡ ps) k is))

pub node_arguments : (links : List ArgumentsLink) (ps slice : List ℕ) (n from end p r : ℕ) → from + n ≡ length ps → end + 1 ≡ length ps → 0 < n
    → slice ≡ take (end - from) (drop from ps) → p ≡ get_or ps end p → IsRest links (length slice) r → rest_at links (length slice) r ≡ reverse slice
    → AreAll links n p r × (all_at links n p r ≡ take n (reverse ps))
node_arguments links ps slice n from end p r e f l is at h put =
    let turned : length (reverse slice) ≡ length slice = length-reverse slice in
    let size : length slice + 1 ≡ n = omega (arith, ap length is, length-take (end - from) (drop from ps), length-drop from ps, e, f, l) in
    let k = put_all links n p r (reverse slice) (omega (arith, turned, size)) (subst (λ m. IsRest links m r) (sym turned) h) (subst (λ m. rest_at links m r ≡ reverse slice) (sym turned) put) in
    (k.0, k.1 ∙ ap (λ x. x ∷ reverse slice) at ∙ ap (λ xs. get_or ps end p ∷ reverse xs) is ∙ sym (last_first ps n from end p e f l))
