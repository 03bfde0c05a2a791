-- From proof trees to derivations.
use Rattle.std.proofs.Common.{◌≡◌, ℕ, ◌+◌, zero, suc, true, false, List, [], ◌∷◌, ◌++◌, map, Some, inl, inr, refl, sym, ◌∙◌, ap, subst}
use Rattle.std.specs.Prelude.{slice_get}
use Rattle.std.specs.List.{flat_map}
use Rattle.std.proofs.lemmas.List.{append-nil}
use Rattle.apd_term.specs.Term.{Term, variable, apply, variables, IsGround, predicate_of}
use Rattle.apd_term.specs.Tuple.{apply_tuple, IsTupleInstance}
use Rattle.apd_term.specs.declared.term.Pred.{Pred}
use Rattle.apd_term.specs.declared.tuple.Tuple.{Tuple}
use Rattle.apd_term.proofs.Applying.{apply-variable}
use Rattle.apd_term.proofs.Ground.{apply-ground, IsGround-apply}
use Rattle.apd_term.proofs.Tuples.{apply_tuple-followed_by}
use Rattle.apd_arith.specs.Truth.{IsTrueAtom}
use Rattle.apd_record.specs.Recorded.{is_user_atom}
use Rattle.apd_record.specs.Sound.{IsAlwaysTrue}
use Rattle.apd_record.specs.Full.{IsGroundTuple}
use Rattle.apd_record.specs.ProofTrees.{TreeOf, BodyOf, by_clause, no_atom, user_atom, builtin_atom}
use Rattle.apd_record.proofs.Atoms.{predicate-apply, predicate-same}
use Rattle.apd_record.proofs.Missing.{both_empty}
use Rattle.apd_dcg.specs.declared.part.Part.{Part}
use Rattle.apd_dcg.specs.declared.part.Part.TheVariants.{Terminals, Goal, Nonterminal}
use Rattle.apd_dcg.specs.Parts.{parts, with_move}
use Rattle.apd_dcg.specs.Faults.{extended}
use Rattle.apd_dcg.specs.Rules.{with_states, onto, equation, goals_from, last_state, clause_with, new_variable, rule_term, clause_made, AreClausesOf}
use Rattle.apd_dcg.proofs.Applied.{apply_part, AreFine, map-both, parts-apply}
use Rattle.apd_dcg.proofs.Fine.{sides, head_longer, nonterminal_longer, longer-apply, predicate-states, states-apply, states-injective, onto-apply, no_variable, head_no_variable, with_end, with_move-left}
use Rattle.apd_grammar.specs.Derivations.{HoldsBy, Holds, IsRuleOf, IsGroundRule, Derives, Give, by_rule, no_part, terminals, nonterminal, goal, IsOfGrammar, HasOwnPredicates, IsDerived}
use Rattle.apd_grammar.proofs.Ground.{anything, grounded, grounded_ground, onto-append, states_user}
use Rattle.apd_grammar.proofs.Sources.{source_at, clause_of_rule_term, predicate-longer, head_atom, AreOfGrammar, rule_of_grammar}

-- no substitution changes a tuple without variables
list_unchanged : (s : ℕ → Term) (ts : List Term) → flat_map variables ts ≡ [] → map (apply s) ts ≡ ts
list_unchanged s [] g = refl
list_unchanged s (t ∷ ts) g =
    let k = both_empty (variables t) (flat_map variables ts) g in
    rw (apply-ground s t k.0, list_unchanged s ts k.1) refl

tuple_unchanged : (s : ℕ → Term) (t : Tuple) → IsGroundTuple t → apply_tuple s t ≡ t
tuple_unchanged s t g =
    let k = both_empty (variables t.head) (flat_map variables t.body) g in
    rw (apply-ground s t.head k.0, list_unchanged s t.body k.1) refl

-- an equation that holds
no_user : (a x y : Term) → a ≡ equation x y → is_user_atom a ≡ true → ⊥
no_user a x y e user = let bad : false ≡ true = ap is_user_atom (sym e) ∙ user in cc

true_equation : (a x y : Term) → a ≡ equation x y → IsGround a → IsAlwaysTrue a → x ≡ y
true_equation a x y e ground holds =
    let g : IsGround (apply variable (equation x y)) = subst IsGround (e ∙ sym (apply-variable (equation x y))) ground in
    let h : apply variable x ≡ apply variable y = subst IsAlwaysTrue e holds variable g in
    sym (apply-variable x) ∙ h ∙ apply-variable y

-- a goal in braces holds
user_holds : (P : List Tuple) (a g : Term) → a ≡ g → is_user_atom a ≡ true → TreeOf IsGroundTuple P a → Holds P g
user_holds P a g e user tree = subst (Holds P) e (subst (λ b. HoldsBy b P a) (sym user) tree)

builtin_holds : (P : List Tuple) (a g : Term) → a ≡ g → is_user_atom a ≡ false → IsGround a → IsAlwaysTrue a → Holds P g
builtin_holds P a g e builtin ground holds =
    let h : IsTrueAtom a = subst IsTrueAtom (apply-variable a) (holds variable (subst IsGround (sym (apply-variable a)) ground)) in
    subst (Holds P) e (subst (λ b. HoldsBy b P a) (sym builtin) h)

module _ (sources : List Term) (P : List Tuple) where
  -- without an empty list of terminals at the end
  drop_last : {rs : List Part} {w : List Term} → Give sources P rs w → (qs : List Part) → rs ≡ qs ++ Terminals [] ∷ [] → Give sources P qs w
  drop_last no_part [] e = cc
  drop_last no_part (q ∷ qs) e = cc
  drop_last (terminals {ps} {w} ts g) [] e =
      let none : [] ≡ ts = cc in
      let last : ps ≡ [] = cc in
      subst (λ xs. Give sources P [] (xs ++ w)) none (subst (λ qs. Give sources P qs w) last g)
  drop_last (terminals {ps} {w} ts g) (q ∷ qs) e =
      let same : Terminals ts ≡ q = cc in
      let rest : ps ≡ qs ++ Terminals [] ∷ [] = cc in
      subst (λ r. Give sources P (r ∷ qs) (ts ++ w)) same (terminals ts (drop_last g qs rest))
  drop_last (nonterminal {ps} {v} {w} n d g) [] e = cc
  drop_last (nonterminal {ps} {v} {w} n d g) (q ∷ qs) e =
      let same : Nonterminal n ≡ q = cc in
      let rest : ps ≡ qs ++ Terminals [] ∷ [] = cc in
      subst (λ r. Give sources P (r ∷ qs) (v ++ w)) same (nonterminal n d (drop_last g qs rest))
  drop_last (goal {ps} {w} x holds g) [] e = cc
  drop_last (goal {ps} {w} x holds g) (q ∷ qs) e =
      let same : Goal x ≡ q = cc in
      let rest : ps ≡ qs ++ Terminals [] ∷ [] = cc in
      subst (λ r. Give sources P (r ∷ qs) w) same (goal x holds (drop_last g qs rest))

  without_move : (s : ℕ → Term) (ps : List Part) (w : List Term) → Give sources P (map (apply_part s) (with_move ps)) w → Give sources P (map (apply_part s) ps) w
  without_move s ps w g =
      let k = with_end ps in
      let all : map (apply_part s) (with_move ps) ≡ map (apply_part s) ps ++ map (apply_part s) k.end = ap (map (apply_part s)) k.is ∙ map-both (apply_part s) ps k.end in
      elim k.is_end [
        | inl e ↦ subst (λ qs. Give sources P qs w) (ap (map (apply_part s)) (k.is ∙ ap (λ qs. ps ++ qs) e ∙ append-nil ps)) g
        | inr e ↦ drop_last g (map (apply_part s) ps) (all ∙ ap (λ qs. map (apply_part s) ps ++ map (apply_part s) qs) e)
      ]

  -- what parts give under a substitution, between two states
  pub record Gives (s : ℕ → Term) (n : ℕ) (ps : List Part) : Type 0 where
    pub terms : List Term
    pub split : s n ≡ onto terms (s (last_state n ps))
    pub give : Give sources P (map (apply_part s) ps) terms

  module _ (made : AreClausesOf sources P) (own : HasOwnPredicates sources P) where
    -- where the body of a rule's clause gives terms, its head derives them
    derived_by : (i : ℕ) (rule u : Tuple) → slice_get P i ≡ Some rule → IsTupleInstance u rule → IsGroundTuple u
        → (n a b : Term) (p : Pred) → predicate_of n ≡ Some p → IsOfGrammar sources (extended p) → u.head ≡ with_states n a b
        → ((s : ℕ → Term) → ((v : ℕ) → IsGround (s v)) → (m : ℕ) (ps : List Part) → AreFine ps → AreOfGrammar sources ps
        → u.body ≡ map (apply s) (goals_from m ps) → Gives s m ps)
        → IsDerived sources P n a b
    derived_by i rule u there (s0, e) ground n a b p is of head gives =
        let k = source_at sources P made i rule there in
        let s = grounded s0 in
        let instance : apply_tuple (grounded s0) rule ≡ u = sym (apply_tuple-followed_by s0 anything rule) ∙ ap (apply_tuple anything) e ∙ tuple_unchanged anything u ground in
        let longer : predicate_of rule.head ≡ Some (extended p) =
        sym (predicate-same (grounded s0) rule.head (head_atom k.source rule k.made))
        ∙ ap (λ (c : Tuple). predicate_of c.head) instance
        ∙ ap predicate_of head
        ∙ predicate-states n a b p is in
        let x = sides k.source (own i k.source rule (extended p) k.there there longer of) in
        let r : IsRuleOf sources x.head x.body = record { place = i; there = k.there ∙ ap Some x.is } in
        let f = clause_of_rule_term x.head x.body rule (ap clause_made (sym x.is) ∙ k.made) in
        let ps = with_move (parts x.body) in
        let m = new_variable (rule_term x.head x.body) in
        let whole : apply_tuple (grounded s0) (clause_with (new_variable (rule_term x.head x.body)) x.head (with_move (parts x.body))) ≡ u =
        ap (apply_tuple (grounded s0)) (sym f.clause) ∙ instance in
        let heads =
        sym (states-apply (grounded s0) x.head (variable m) (variable (last_state m ps)) (head_no_variable x.head f.head_fine))
        ∙ ap (λ (c : Tuple). c.head) whole ∙ head in
        let l = head_longer x.head f.head_fine in
        let same = states-injective (apply (grounded s0) x.head) n (s m) (s (last_state m ps)) a b _ p (predicate-apply (grounded s0) x.head _ (predicate-longer x.head l)) is heads in
        let g = gives s (grounded_ground s0) m ps f.taken.fine (rule_of_grammar sources x.head x.body r) (sym (ap (λ (c : Tuple). c.body) whole)) in
        let rule_instance : IsGroundRule sources (apply (grounded s0) x.head) (apply (grounded s0) x.body) = record {
          head = x.head;
          body = x.body;
          rule = r;
          instance = (grounded s0, refl);
          ground = IsGround-apply (grounded s0) (rule_term x.head x.body) (λ v o. grounded_ground s0 v);
        } in
        let give : Give sources P (parts (apply (grounded s0) x.body)) g.terms =
        subst (λ qs. Give sources P qs g.terms) (sym (parts-apply (grounded s0) x.body (with_move-left (parts x.body) f.taken.fine)))
        (without_move (grounded s0) (parts x.body) g.terms g.give) in
        record {
          terms = g.terms;
          split = sym same.first ∙ g.split ∙ ap (onto g.terms) same.second;
          derived = subst (λ y. Derives sources P y g.terms) same.atom (by_rule (apply (grounded s0) x.body) rule_instance give);
        }

    mutual
      pub tree_derives : {a : Term} → TreeOf IsGroundTuple P a → (n s t : Term) (p : Pred) → predicate_of n ≡ Some p → IsOfGrammar sources (extended p)
          → a ≡ with_states n s t → IsDerived sources P n s t
      tree_derives (by_clause zero rule u atom user there of_rule ground head body) n s t p is of e = cc
      tree_derives (by_clause (suc i) rule u atom user there of_rule ground head body) n s t p is of e =
          derived_by i rule u there of_rule ground n s t p is of (head ∙ e) (λ r g m ps fine among eq. body_gives body r g m ps fine among eq)

      body_gives : {atoms : List Term} → BodyOf IsGroundTuple P atoms → (s : ℕ → Term) → ((v : ℕ) → IsGround (s v)) → (n : ℕ) (ps : List Part)
          → AreFine ps → AreOfGrammar sources ps → atoms ≡ map (apply s) (goals_from n ps) → Gives s n ps
      body_gives no_atom s g n [] fine among e = record { terms = []; split = refl; give = no_part }
      body_gives no_atom s g n (p ∷ ps) fine among e = cc
      body_gives (user_atom user tree rest) s g n [] fine among e = cc
      body_gives (user_atom {a} {others} user tree rest) s g n (Terminals ts ∷ ps) fine among e =
          let here : a ≡ apply s (equation (variable n) (onto ts (variable (n + 1)))) = cc in
          absurd (no_user a (s n) (apply s (onto ts (variable (n + 1)))) here user)
      body_gives (user_atom {a} {others} user tree rest) s g n (Goal x ∷ ps) fine among e =
          let here : a ≡ apply s x = cc in
          let behind : others ≡ map (apply s) (goals_from n ps) = cc in
          let k = body_gives rest s g n ps fine.1 among.1 behind in
          record { terms = k.terms; split = k.split; give = goal (apply s x) (user_holds P a (apply s x) here user tree) k.give }
      body_gives (user_atom {a} {others} user tree rest) s g n (Nonterminal m ∷ ps) fine among e =
          let here : a ≡ apply s (with_states m (variable n) (variable (n + 1))) = cc in
          let behind : others ≡ map (apply s) (goals_from (n + 1) ps) = cc in
          let l = nonterminal_longer m fine.0 in
          let is = predicate-longer m l in
          let d =
          tree_derives tree (apply s m) (s n) (s (n + 1)) _ (predicate-apply s m _ is) (among.0 _ is)
          (here ∙ states-apply s m (variable n) (variable (n + 1)) (no_variable m fine.0)) in
          let k = body_gives rest s g (n + 1) ps fine.1 among.1 behind in
          record {
            terms = d.terms ++ k.terms;
            split = d.split ∙ ap (onto d.terms) k.split ∙ sym (onto-append d.terms k.terms (s (last_state (n + 1) ps)));
            give = nonterminal (apply s m) d.derived k.give;
          }
      body_gives (builtin_atom builtin holds rest) s g n [] fine among e = cc
      body_gives (builtin_atom {a} {others} builtin holds rest) s g n (Terminals ts ∷ ps) fine among e =
          let here : a ≡ apply s (equation (variable n) (onto ts (variable (n + 1)))) = cc in
          let behind : others ≡ map (apply s) (goals_from (n + 1) ps) = cc in
          let ground : IsGround a = subst IsGround (sym here) (IsGround-apply s (equation (variable n) (onto ts (variable (n + 1)))) (λ v o. g v)) in
          let sides = true_equation a (s n) (apply s (onto ts (variable (n + 1)))) here ground holds in
          let k = body_gives rest s g (n + 1) ps fine.1 among.1 behind in
          record {
            terms = map (apply s) ts ++ k.terms;
            split =
                sides ∙ onto-apply s ts (variable (n + 1)) ∙ ap (onto (map (apply s) ts)) k.split
                ∙ sym (onto-append (map (apply s) ts) k.terms (s (last_state (n + 1) ps)));
            give = terminals (map (apply s) ts) k.give;
          }
      body_gives (builtin_atom {a} {others} builtin holds rest) s g n (Goal x ∷ ps) fine among e =
          let here : a ≡ apply s x = cc in
          let behind : others ≡ map (apply s) (goals_from n ps) = cc in
          let ground : IsGround a = subst IsGround (sym here) (IsGround-apply s x (λ v o. g v)) in
          let k = body_gives rest s g n ps fine.1 among.1 behind in
          record { terms = k.terms; split = k.split; give = goal (apply s x) (builtin_holds P a (apply s x) here builtin ground holds) k.give }
      body_gives (builtin_atom {a} {others} builtin holds rest) s g n (Nonterminal m ∷ ps) fine among e =
          let here : a ≡ apply s (with_states m (variable n) (variable (n + 1))) = cc in
          let same = here ∙ states-apply s m (variable n) (variable (n + 1)) (no_variable m fine.0) in
          let user : is_user_atom a ≡ true = ap is_user_atom same ∙ states_user (apply s m) (s n) (s (n + 1)) (longer-apply s m (nonterminal_longer m fine.0)) in
          let bad : false ≡ true = sym builtin ∙ user in
          cc
