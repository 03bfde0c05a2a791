-- From derivations to proof trees.
use Rattle.std.proofs.Common.{◌≡◌, ℕ, ◌+◌, ◌<◌, suc, Bool, true, false, List, [], ◌∷◌, ◌++◌, map, inl, inr, refl, sym, ◌∙◌, ap, subst, arith}
use Rattle.apd_term.specs.Term.{Term, variable, apply, variables, IsGround, IsAmong}
use Rattle.apd_term.specs.Tuple.{apply_tuple}
use Rattle.apd_term.specs.declared.tuple.Tuple.{Tuple}
use Rattle.apd_term.proofs.Applying.{apply-followed_by}
use Rattle.apd_term.proofs.Among.{IsAmong-left, IsAmong-right}
use Rattle.apd_term.proofs.Ground.{apply-ground, IsGround-apply}
use Rattle.apd_term.proofs.Variants.{apply-agree}
use Rattle.apd_arith.specs.Truth.{IsTrueAtom}
use Rattle.apd_record.specs.Recorded.{is_user_atom}
use Rattle.apd_record.specs.Sound.{IsAlwaysTrue}
use Rattle.apd_record.specs.Full.{IsGroundTuple}
use Rattle.apd_record.specs.ProofTrees.{TreeOf, BodyOf, by_clause, no_atom, user_atom, builtin_atom, HasGroundProofTree}
use Rattle.apd_record.proofs.Missing.{tuple_ground}
use Rattle.apd_dcg.specs.declared.part.Part.{Part}
use Rattle.apd_dcg.specs.declared.part.Part.TheVariants.{Terminals, Goal, Nonterminal}
use Rattle.apd_dcg.specs.Parts.{parts}
use Rattle.apd_dcg.specs.Rules.{with_states, onto, goals_from, last_state, clause_with, new_variable, rule_term, AreClausesOf}
use Rattle.apd_dcg.proofs.Applied.{apply_part, AreFine, parts-apply}
use Rattle.apd_dcg.proofs.Variables.{IsBelow, AreBelow, AreBelow-later, head_below, parts_below, variables_of_part}
use Rattle.apd_dcg.proofs.Fine.{IsLongerAtom, head_longer, nonterminal_longer, longer-apply, states-apply, onto-apply, no_variable, head_no_variable, IsEnd, with_end, with_move-left}
use Rattle.apd_grammar.specs.Derivations.{HoldsBy, Holds, IsGroundRule, Derives, Give, by_rule, no_part, terminals, nonterminal, goal}
use Rattle.apd_grammar.proofs.Ground.{anything, grounded, grounded_ground, onto-append, onto_ground, always_equal, states_user, states_atom, with_value, value_here, value_elsewhere, value_ground}
use Rattle.apd_grammar.proofs.Sources.{clause_at, clause_of_rule_term}

-- substitutions that agree below n
abbrev pub AgreeBelow : ℕ → (ℕ → Term) → (ℕ → Term) → Type 0
AgreeBelow n s r = (v : ℕ) → v < n → s v ≡ r v

list-agree : (s r : ℕ → Term) (ts : List Term) → ((v : ℕ) → IsAmong (variables_of_part (Terminals ts)) v → s v ≡ r v) → map (apply s) ts ≡ map (apply r) ts
list-agree s r [] h = refl
list-agree s r (t ∷ ts) h =
    rw (apply-agree s r t (λ v o. h v (IsAmong-left (variables t) (variables_of_part (Terminals ts)) v o)), list-agree s r ts (λ v o. h v (IsAmong-right (variables t) (variables_of_part (Terminals ts)) v o)))
    refl

part-agree : (s r : ℕ → Term) (n : ℕ) (p : Part) → AgreeBelow n s r → IsBelow n p → apply_part s p ≡ apply_part r p
part-agree s r n (Terminals ts) h below = ap Terminals (list-agree s r ts (λ v o. h v (below v o)))
part-agree s r n (Goal g) h below = ap Goal (apply-agree s r g (λ v o. h v (below v o)))
part-agree s r n (Nonterminal m) h below = ap Nonterminal (apply-agree s r m (λ v o. h v (below v o)))

parts-agree : (s r : ℕ → Term) (n : ℕ) (ps : List Part) → AgreeBelow n s r → AreBelow n ps → map (apply_part s) ps ≡ map (apply_part r) ps
parts-agree s r n [] h below = refl
parts-agree s r n (p ∷ ps) h below = rw (part-agree s r n p h below.0, parts-agree s r n ps h below.1) refl

-- a true goal without variables
always_true : (a : Term) → IsGround a → IsTrueAtom a → IsAlwaysTrue a
always_true a ground h s g = subst IsTrueAtom (sym (apply-ground s a ground)) h

module _ (sources : List Term) (P : List Tuple) where
  -- Values for the states behind n of these parts, which are terms w followed by t: with them the goals of the parts are proved.
  pub record Bound (s : ℕ → Term) (n : ℕ) (ps : List Part) (w : List Term) (t : Term) : Type 0 where
    pub values : ℕ → Term
    pub agree : AgreeBelow n values s
    pub first : values n ≡ onto w t
    pub last : values (last_state n ps) ≡ t
    pub ground : (v : ℕ) → IsGround (values v)
    pub body : BodyOf IsGroundTuple P (map (apply values) (goals_from n ps))

  -- what the next values tell, one state earlier
  agree_before : (s r : ℕ → Term) (n : ℕ) (x : Term) → AgreeBelow (n + 1) r (with_value s n x) → AgreeBelow n r s
  agree_before s r n x h v l = h v (omega arith) ∙ value_elsewhere s n x v (omega arith)

  first_before : (s r : ℕ → Term) (n : ℕ) (x : Term) → AgreeBelow (n + 1) r (with_value s n x) → r n ≡ x
  first_before s r n x h = h n (omega arith) ∙ value_here s n x

  later_agree : (s : ℕ → Term) (n : ℕ) (x : Term) → AgreeBelow n s (with_value s n x)
  later_agree s n x v l = sym (value_elsewhere s n x v (omega arith))

  -- the end of a body
  end_bound : (end : List Part) → IsEnd end → (t : Term) → IsGround t → (s : ℕ → Term) → ((v : ℕ) → IsGround (s v)) → (n : ℕ) → Bound s n end [] t
  end_bound end (inl e) t gt s g n =
      subst (λ ps. Bound s n ps [] t) (sym e)
      (record {
        values = with_value s n t;
        agree = λ v l. value_elsewhere s n t v (omega arith);
        first = value_here s n t;
        last = value_here s n t;
        ground = value_ground s n t g gt;
        body = no_atom;
      })
  end_bound end (inr e) t gt s g n =
      let s1 = with_value s n t in
      let s2 = with_value s1 (n + 1) t in
      let here : with_value (with_value s n t) (n + 1) t n ≡ t = value_elsewhere (with_value s n t) (n + 1) t n (omega arith) ∙ value_here s n t in
      let next : with_value (with_value s n t) (n + 1) t (n + 1) ≡ t = value_here (with_value s n t) (n + 1) t in
      subst (λ ps. Bound s n ps [] t) (sym e)
      (record {
        values = with_value (with_value s n t) (n + 1) t;
        agree = λ v l. value_elsewhere (with_value s n t) (n + 1) t v (omega arith) ∙ value_elsewhere s n t v (omega arith);
        first = here;
        last = next;
        ground = value_ground (with_value s n t) (n + 1) t (value_ground s n t g gt) gt;
        body = builtin_atom refl (always_equal _ _ (here ∙ sym next)) no_atom;
      })

  -- one more part in front
  terminals_bound : (s : ℕ → Term) (n : ℕ) (us : List Term) (ps : List Part) (w : List Term) (t : Term) → IsBelow n (Terminals us)
      → Bound (with_value s n (onto (map (apply s) us ++ w) t)) (n + 1) ps w t → Bound s n (Terminals us ∷ ps) (map (apply s) us ++ w) t
  terminals_bound s n us ps w t below k =
      let ts = map (apply s) us in
      let x = onto (map (apply s) us ++ w) t in
      let agree = agree_before s k.values n (onto (map (apply s) us ++ w) t) k.agree in
      let first = first_before s k.values n (onto (map (apply s) us ++ w) t) k.agree in
      let same : map (apply k.values) us ≡ map (apply s) us = list-agree k.values s us (λ v o. agree v (below v o)) in
      let side : apply k.values (onto us (variable (n + 1))) ≡ onto (map (apply s) us) (onto w t) =
      onto-apply k.values us (variable (n + 1)) ∙ ap (λ xs. onto xs (k.values (n + 1))) same ∙ ap (onto (map (apply s) us)) k.first in
      record {
        values = k.values;
        agree = agree;
        first = first;
        last = k.last;
        ground = k.ground;
        body = builtin_atom refl (always_equal (k.values n) (apply k.values (onto us (variable (n + 1)))) (first ∙ onto-append ts w t ∙ sym side)) k.body;
      }

  nonterminal_bound : (s : ℕ → Term) (n : ℕ) (m : Term) (ps : List Part) (v w : List Term) (t : Term) → AreFine (Nonterminal m ∷ []) → IsBelow n (Nonterminal m)
      → HasGroundProofTree P (with_states (apply s m) (onto v (onto w t)) (onto w t))
      → Bound (with_value s n (onto (v ++ w) t)) (n + 1) ps w t → Bound s n (Nonterminal m ∷ ps) (v ++ w) t
  nonterminal_bound s n m ps v w t fine below tree k =
      let agree = agree_before s k.values n (onto (v ++ w) t) k.agree in
      let first = first_before s k.values n (onto (v ++ w) t) k.agree in
      let same : apply k.values m ≡ apply s m = apply-agree k.values s m (λ u o. agree u (below u o)) in
      let goal : apply k.values (with_states m (variable n) (variable (n + 1))) ≡ with_states (apply s m) (onto v (onto w t)) (onto w t) =
      states-apply k.values m (variable n) (variable (n + 1)) (no_variable m fine.0)
      ∙ ap (λ y. with_states y (k.values n) (k.values (n + 1))) same
      ∙ ap (λ y. with_states (apply s m) y (k.values (n + 1))) (first ∙ onto-append v w t)
      ∙ ap (with_states (apply s m) (onto v (onto w t))) k.first in
      record {
        values = k.values;
        agree = agree;
        first = first;
        last = k.last;
        ground = k.ground;
        body =
            user_atom
            (ap is_user_atom goal ∙ states_user (apply s m) (onto v (onto w t)) (onto w t) (longer-apply s m (nonterminal_longer m fine.0)))
            (subst (TreeOf IsGroundTuple P) (sym goal) tree) k.body;
      }

  goal_bound : (s : ℕ → Term) (n : ℕ) (g : Term) (ps : List Part) (w : List Term) (t : Term) → IsGround (apply s g) → IsBelow n (Goal g) → Holds P (apply s g)
      → Bound s n ps w t → Bound s n (Goal g ∷ ps) w t
  goal_bound s n g ps w t ground below holds k = record {
    values = k.values;
    agree = k.agree;
    first = k.first;
    last = k.last;
    ground = k.ground;
    body = subst (λ y. BodyOf IsGroundTuple P (y ∷ map (apply k.values) (goals_from n ps))) (sym same) (front (is_user_atom (apply s g)) refl holds);
  }
    where
      same : apply k.values g ≡ apply s g
      same = apply-agree k.values s g (λ v o. k.agree v (below v o))

      front : (b : Bool) → is_user_atom (apply s g) ≡ b → HoldsBy b P (apply s g) → BodyOf IsGroundTuple P (apply s g ∷ map (apply k.values) (goals_from n ps))
      front true e h = user_atom e h k.body
      front false e h = builtin_atom e (always_true (apply s g) ground h) k.body

  module _ (made : AreClausesOf sources P) where
    -- where the parts of a rule's body are proved so, its head is
    tree_by : (n b : Term) (w : List Term) (t : Term) → IsGroundRule sources n b
        → ((s : ℕ → Term) → ((v : ℕ) → IsGround (s v)) → (m : ℕ) (ps : List Part) → AreFine ps → AreBelow m ps → (end : List Part) → IsEnd end
        → parts b ≡ map (apply_part s) ps → Bound s m (ps ++ end) w t)
        → HasGroundProofTree P (with_states n (onto w t) t)
    tree_by n b w t r bound =
        let s0 = r.instance.0 in
        let s = grounded s0 in
        let whole : apply (grounded s0) (rule_term r.head r.body) ≡ rule_term n b =
        sym (apply-followed_by s0 anything (rule_term r.head r.body)) ∙ ap (apply anything) r.instance.1 ∙ apply-ground anything (rule_term n b) r.ground in
        let head : apply (grounded s0) r.head ≡ n = cc in
        let body : apply (grounded s0) r.body ≡ b = cc in
        let c = clause_at sources P made r.rule.place (rule_term r.head r.body) r.rule.there in
        let f = clause_of_rule_term r.head r.body c.clause c.made in
        let m = new_variable (rule_term r.head r.body) in
        let e = with_end (parts r.body) in
        let fine = with_move-left (parts r.body) f.taken.fine in
        let k = bound s (grounded_ground s0) m (parts r.body) fine (parts_below r.head r.body) e.end e.is_end (ap parts (sym body) ∙ parts-apply (grounded s0) r.body fine) in
        let clause : c.clause ≡ clause_with (new_variable (rule_term r.head r.body)) r.head (parts r.body ++ e.end) =
        f.clause ∙ ap (clause_with (new_variable (rule_term r.head r.body)) r.head) e.is in
        let last = last_state m (parts r.body ++ e.end) in
        let same : apply k.values r.head ≡ n = apply-agree k.values s r.head (λ v o. k.agree v (head_below r.head r.body v o)) ∙ head in
        let is_head : (apply_tuple k.values c.clause).head ≡ with_states n (onto w t) t =
        ap (λ (d : Tuple). apply k.values d.head) clause
        ∙ states-apply k.values r.head (variable m) (variable last) (head_no_variable r.head f.head_fine)
        ∙ ap (λ y. with_states y (k.values m) (k.values last)) same
        ∙ ap (λ y. with_states n y (k.values last)) k.first
        ∙ ap (with_states n (onto w t)) k.last in
        let longer : IsLongerAtom n = subst IsLongerAtom head (longer-apply (grounded s0) r.head (head_longer r.head f.head_fine)) in
        by_clause (suc r.rule.place) c.clause (apply_tuple k.values c.clause)
        (states_atom n (onto w t) t longer)
        (states_user n (onto w t) t longer)
        c.there (k.values, refl) (tuple_ground k.values c.clause k.ground) is_head
        (subst (λ (d : Tuple). BodyOf IsGroundTuple P (map (apply k.values) d.body)) (sym clause) k.body)

    mutual
      pub derives_tree : {n : Term} {w : List Term} → Derives sources P n w → (t : Term) → IsGround (onto w t) → HasGroundProofTree P (with_states n (onto w t) t)
      derives_tree (by_rule {n} {w} b r give) t ground =
          tree_by n b w t r (λ s g m ps fine below end is_end eq. give_bound give t ground s g m ps fine below end is_end eq)

      give_bound : {qs : List Part} {w : List Term} → Give sources P qs w → (t : Term) → IsGround (onto w t) → (s : ℕ → Term) → ((v : ℕ) → IsGround (s v))
          → (n : ℕ) (ps : List Part) → AreFine ps → AreBelow n ps → (end : List Part) → IsEnd end → qs ≡ map (apply_part s) ps → Bound s n (ps ++ end) w t
      give_bound no_part t gt s g n [] fine below end is_end e = end_bound end is_end t gt s g n
      give_bound no_part t gt s g n (p ∷ ps) fine below end is_end e = cc
      give_bound (terminals ts give) t gt s g n [] fine below end is_end e = cc
      give_bound (terminals ts give) t gt s g n (Goal x ∷ ps) fine below end is_end e = cc
      give_bound (terminals ts give) t gt s g n (Nonterminal m ∷ ps) fine below end is_end e = cc
      give_bound (terminals {ps = qs} {w} ts give) t gt s g n (Terminals us ∷ ps) fine below end is_end e =
          let same : ts ≡ map (apply s) us = cc in
          let rest : qs ≡ map (apply_part s) ps = cc in
          let x = onto (map (apply s) us ++ w) t in
          let gx : IsGround (onto (map (apply s) us ++ w) t) = subst (λ xs. IsGround (onto (xs ++ w) t)) same gt in
          let gw : IsGround (onto w t) = onto_ground (map (apply s) us) (onto w t) (subst IsGround (onto-append (map (apply s) us) w t) gx) in
          let k =
          give_bound give t gw (with_value s n x) (value_ground s n x g gx) (n + 1) ps fine.1 (AreBelow-later n (n + 1) ps (omega arith) below.1) end is_end
          (rest ∙ parts-agree s (with_value s n x) n ps (later_agree s n x) below.1) in
          subst (λ xs. Bound s n (Terminals us ∷ (ps ++ end)) (xs ++ w) t) (sym same) (terminals_bound s n us (ps ++ end) w t below.0 k)
      give_bound (nonterminal m d give) t gt s g n [] fine below end is_end e = cc
      give_bound (nonterminal m d give) t gt s g n (Terminals us ∷ ps) fine below end is_end e = cc
      give_bound (nonterminal m d give) t gt s g n (Goal x ∷ ps) fine below end is_end e = cc
      give_bound (nonterminal {ps = qs} {v} {w} m d give) t gt s g n (Nonterminal u ∷ ps) fine below end is_end e =
          let same : m ≡ apply s u = cc in
          let rest : qs ≡ map (apply_part s) ps = cc in
          let x = onto (v ++ w) t in
          let gx : IsGround (onto v (onto w t)) = subst IsGround (onto-append v w t) gt in
          let gw : IsGround (onto w t) = onto_ground v (onto w t) gx in
          let tree = derives_tree d (onto w t) gx in
          let k =
          give_bound give t gw (with_value s n x) (value_ground s n x g gt) (n + 1) ps fine.1 (AreBelow-later n (n + 1) ps (omega arith) below.1) end is_end
          (rest ∙ parts-agree s (with_value s n x) n ps (later_agree s n x) below.1) in
          nonterminal_bound s n u (ps ++ end) v w t (fine.0, tt) below.0
          (subst (λ y. HasGroundProofTree P (with_states y (onto v (onto w t)) (onto w t))) same tree) k
      give_bound (goal x holds give) t gt s g n [] fine below end is_end e = cc
      give_bound (goal x holds give) t gt s g n (Terminals us ∷ ps) fine below end is_end e = cc
      give_bound (goal x holds give) t gt s g n (Nonterminal m ∷ ps) fine below end is_end e = cc
      give_bound (goal {ps = qs} {w} x holds give) t gt s g n (Goal u ∷ ps) fine below end is_end e =
          let same : x ≡ apply s u = cc in
          let rest : qs ≡ map (apply_part s) ps = cc in
          goal_bound s n u (ps ++ end) w t (IsGround-apply s u (λ v o. g v)) below.0 (subst (Holds P) same holds)
          (give_bound give t gt s g n ps fine.1 below.1 end is_end rest)
