-- A node that is new, or gets one more place.
use Rattle.std.proofs.Common.{◌≡◌, ◌⊎◌, inl, inr, ℕ, ◌+◌, ◌<◌, ◌≤◌, Bool, true, false, List, map, Option, None, Some, unwrap_or, refl, sym, ap, ◌∙◌, subst, arith, eq-eqb}
use Rattle.std.specs.Prelude.{if◌then◌else◌, nat_eq}
use Rattle.std.proofs.lemmas.Bool.{eqb-true}
use Rattle.indexmap.specs.IndexMap.{get}
use Rattle.apd_marks.specs.declared.positions.Parent.{Parent}
use Rattle.apd_index.specs.Nodes.{HasLinks, HasRow, IsFounder, KeepsFounders, founder_at, founder_of, IsNumber, IsNumberIn, IsNumberOf, IsRight, IsSound, KeepBits, KeepChains, places}
use Rattle.apd_index.specs.declared.nodes.PlaceLink.{PlaceLink}
use Rattle.apd_index.specs.declared.nodes.SymbolNode.{SymbolNode}
use Rattle.apd_index.specs.declared.nodes.Nodes.{Nodes}
use Rattle.apd_index.specs.declared.nodes.Slots.{Slots}
use Rattle.apd_index.proofs.Noding.{place_of, row-still}

-- a position has one number
pub same-number : (nodes : Nodes) (p : Parent) (c d : ℕ) → IsNumber nodes p c → IsNumber nodes p d → c ≡ d
same-number nodes p c d = by (get nat_eq nodes.nodes p.mark)
  where
    by : (o : Option SymbolNode) → IsNumberOf o p.left c → IsNumberOf o p.left d → c ≡ d
    by None is it = absurd is
    by (Some n) is it = let e = is.2 in let f = it.2 in omega (arith, e, f)

-- the mark has this node now
abbrev pub HasNode : Nodes → ℕ → SymbolNode → Nodes → Type 0
HasNode old mark node new = (m : ℕ) → get nat_eq new.nodes m ≡ (if nat_eq mark m then Some node else get nat_eq old.nodes m)

-- a node for a mark that has none: with no places, and with the next numbers
pub record IsFresh (next : ℕ) (n : SymbolNode) : Type 0 where
  pub empty : n.last ≡ 0
  pub bare : n.row ≡ 0
  pub first : n.slots.first ≡ next

-- all nodes are right where they have more links and rows
pub right-more : (links more : List PlaceLink) (rows new : List (List ℕ)) (n : SymbolNode) → KeepChains links more → KeepBits rows new → IsRight links rows n → IsRight more new n
right-more links more rows new n chains bits h = record {
  within = let w = h.within in let l = chains.0 in omega (arith, w, l);
  row = row-still rows new n.row (places more n.last) bits (subst (HasRow rows n.row) (sym (ap (map place_of) (chains.1 n.last h.within))) h.row);
}

-- The node of a mark, or a fresh one.
module _ (nodes : Nodes) (mark : ℕ) (fresh first : SymbolNode) (is : first ≡ unwrap_or (get nat_eq nodes.nodes mark) fresh) (new : IsFresh nodes.next fresh) (sound : IsSound nodes) where
  -- where there was a node, it is that one
  there : (n : SymbolNode) → get nat_eq nodes.nodes mark ≡ Some n → first ≡ n
  there n e = is ∙ ap (λ (o : Option SymbolNode). unwrap_or o fresh) e

  -- where there was none, its founder is that of the fresh one
  pub founder-fresh : founder_at nodes mark ≡ None → first.founder ≡ fresh.founder
  founder-fresh e = by (get nat_eq nodes.nodes mark) refl e
    where
      by : (o : Option SymbolNode) → get nat_eq nodes.nodes mark ≡ o → founder_of o ≡ None → first.founder ≡ fresh.founder
      by None h f = ap (λ (m : SymbolNode). m.founder) (is ∙ ap (λ (o : Option SymbolNode). unwrap_or o fresh) h)
      by (Some n) h f = absurd (cc)

  pub absent : get nat_eq nodes.nodes mark ≡ None → first ≡ fresh
  absent e = is ∙ ap (λ (o : Option SymbolNode). unwrap_or o fresh) e

  -- What the nodes are after the mark got this node.
  module _ (further : Nodes) (node : SymbolNode) (h : HasNode nodes mark node further) (same : node.slots ≡ first.slots) where
    -- what holds of the node that is new there, and of the nodes that were, holds of all
    node-by : (P : ℕ → Option SymbolNode → Type 0) → P mark (Some node) → ((m : ℕ) → P m (get nat_eq nodes.nodes m)) → (m : ℕ) → P m (get nat_eq further.nodes m)
    node-by P here before m = subst (P m) (sym (h m)) (by (nat_eq mark m) refl)
      where
        by : (t : Bool) → nat_eq mark m ≡ t → P m (if t then Some node else get nat_eq nodes.nodes m)
        by true e = subst (λ (n : ℕ). P n (Some node)) (eqb-true mark m e) here
        by false e = before m

    -- the first one of a node that was there is the same; that of a new node is told
    pub founders-kept : node.founder ≡ first.founder → KeepsFounders nodes further
    founders-kept same_founder = record { still = λ m k f. record { is = stays m k f.is } }
      where
        here : (k : ℕ) (o : Option SymbolNode) → get nat_eq nodes.nodes mark ≡ o → founder_of (get nat_eq nodes.nodes mark) ≡ Some k → Some node.founder ≡ Some k
        here k None e f = absurd (let g : None ≡ Some k = ap founder_of (sym e) ∙ f in cc)
        here k (Some n) e f = ap (λ (j : ℕ). Some j) (same_founder ∙ ap (λ (m : SymbolNode). m.founder) (there n e)) ∙ ap founder_of (sym e) ∙ f

        stays : (m k : ℕ) → founder_of (get nat_eq nodes.nodes m) ≡ Some k → founder_of (get nat_eq further.nodes m) ≡ Some k
        stays = node-by (λ (m : ℕ) (o : Option SymbolNode). (k : ℕ) → founder_of (get nat_eq nodes.nodes m) ≡ Some k → founder_of o ≡ Some k) (λ k. here k (get nat_eq nodes.nodes mark) refl) (λ m k e. e)

    pub founder-there : (place : ℕ) → node.founder ≡ place → IsFounder further mark place
    founder-there place is = record { is = ap founder_of (h mark ∙ ap (λ (b : Bool). if b then Some node else get nat_eq nodes.nodes mark) (eq-eqb mark mark refl)) ∙ ap (λ (j : ℕ). Some j) is }

    -- a number that a position has now it had, or the position is below the mark
    number-was : (p : Parent) (c : ℕ) → IsNumber further p c → IsNumber nodes p c ⊎ ((mark ≡ p.mark) × IsNumberIn first.slots p.left c)
    number-was p =
        node-by (λ (n : ℕ) (o : Option SymbolNode). (c : ℕ) → IsNumberOf o p.left c → IsNumberOf (get nat_eq nodes.nodes n) p.left c ⊎ ((mark ≡ n) × IsNumberIn first.slots p.left c))
        (λ c a. inr (refl, subst (λ (s : Slots). IsNumberIn s p.left c) same a)) (λ n c a. inl a) p.mark

    module _ (l : nodes.next ≤ further.next) where
      -- a node that was there keeps its numbers
      module _ (n : SymbolNode) (e : get nat_eq nodes.nodes mark ≡ Some n) where
        was : (p : Parent) (c : ℕ) → IsNumber further p c → IsNumber nodes p c
        was p c a = elim (number-was p c a) [
          | inl o ↦ o
          | inr r ↦ subst (λ (m : ℕ). IsNumberOf (get nat_eq nodes.nodes m) p.left c) r.0
              (subst (λ (o : Option SymbolNode). IsNumberOf o p.left c) (sym e) (subst (λ (m : SymbolNode). IsNumberIn m.slots p.left c) (there n e) r.1))
        ]

        below-still : (p : Parent) (c : ℕ) → IsNumber further p c → c < further.next
        below-still p c a = let b = sound.below p c (was p c a) in omega (arith, l, b)

        own-still : (p q : Parent) (c : ℕ) → IsNumber further p c → IsNumber further q c → p ≡ q
        own-still p q c a b = sound.own p q c (was p c a) (was q c b)

      -- a new node has the next ones
      module _ (e : get nat_eq nodes.nodes mark ≡ None) (fits : first.slots.first + first.slots.count ≤ further.next) where
        begins : first.slots.first ≡ nodes.next
        begins = ap (λ (m : SymbolNode). m.slots.first) (absent e) ∙ new.first

        below-new : (p : Parent) (c : ℕ) → IsNumber further p c → c < further.next
        below-new p c a = elim (number-was p c a) [
          | inl o ↦ let b = sound.below p c o in omega (arith, l, b)
          | inr r ↦ let m = r.1.1 in let i = r.1.2 in omega (arith, m, i, fits)
        ]

        own-new : (p q : Parent) (c : ℕ) → IsNumber further p c → IsNumber further q c → p ≡ q
        own-new p q c a b = elim (number-was p c a) [
          | inl o ↦ elim (number-was q c b) [
            | inl u ↦ sound.own p q c o u
            | inr r ↦ absurd (let d = sound.below p c o in let z = r.1.0 in let i = r.1.2 in let f = begins in omega (arith, d, z, i, f))
          ]
          | inr r ↦ elim (number-was q c b) [
            | inl u ↦ absurd (let d = sound.below q c u in let z = r.1.0 in let i = r.1.2 in let f = begins in omega (arith, d, z, i, f))
            | inr s ↦ same-place (sym r.0 ∙ s.0) (let i = r.1.2 in let j = s.1.2 in omega (arith, i, j))
          ]
        ]
          where
            same-place : p.mark ≡ q.mark → p.left ≡ q.left → p ≡ q
            same-place i j = ap (λ (m : ℕ). record { mark = m; left = p.left }) i ∙ ap (λ (n : ℕ). record { mark = q.mark; left = n }) j

      pub all-sound : HasLinks further.links.items → KeepChains nodes.links.items further.links.items → KeepBits nodes.rows.items further.rows.items → IsRight further.links.items further.rows.items node
          → (get nat_eq nodes.nodes mark ≡ None → first.slots.first + first.slots.count ≤ further.next) → IsSound further
      all-sound falling chains bits right fits = record {
        falling = falling;
        right =
            node-by (λ (m : ℕ) (o : Option SymbolNode). (n : SymbolNode) → o ≡ Some n → IsRight further.links.items further.rows.items n) (λ n i. subst (IsRight further.links.items further.rows.items) (only n i) right)
            (λ m n i. right-more nodes.links.items further.links.items nodes.rows.items further.rows.items n chains bits (sound.right m n i));
        below = λ p c. by-below p c (get nat_eq nodes.nodes mark) refl;
        own = λ p q c. by-own p q c (get nat_eq nodes.nodes mark) refl;
      }
        where
          only : (n : SymbolNode) → Some node ≡ Some n → node ≡ n
          only n i = cc

          by-below : (p : Parent) (c : ℕ) (o : Option SymbolNode) → get nat_eq nodes.nodes mark ≡ o → IsNumber further p c → c < further.next
          by-below p c None e = below-new e (fits e) p c
          by-below p c (Some n) e = below-still n e p c

          by-own : (p q : Parent) (c : ℕ) (o : Option SymbolNode) → get nat_eq nodes.nodes mark ≡ o → IsNumber further p c → IsNumber further q c → p ≡ q
          by-own p q c None e = own-new e (fits e) p q c
          by-own p q c (Some n) e = own-still n e p q c
