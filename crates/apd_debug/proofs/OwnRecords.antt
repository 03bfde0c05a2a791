-- What a sound record of a program holds may be asked about: calls, exits, the nodes of proof trees, the goals before a call.
use Rattle.std.proofs.Common.{◌≡◌, ℕ, zero, suc, ◌+◌, ◌≤◌, Bool, true, false, List, [], ◌∷◌, length, Some, None, refl, sym, ◌∙◌, ap, subst, arith}
use Rattle.std.specs.Prelude.{All, slice_get, ◌&&◌, if◌then◌else◌}
use Rattle.std.specs.List.{AllByRecursion}
use Rattle.std.specs.Option.{unwrap_or}
use Rattle.std.proofs.lemmas.Bool.{and_parts}
use Rattle.apd_answers.specs.Store.{empty_store}
use Rattle.apd_clauses.specs.Clauses.{IsClause}
use Rattle.apd_clauses.specs.Kinds.{IsPureGoal, IsUserAtom}
use Rattle.apd_divide.proofs.Solved.{before-is, first-is, of_builtin, of_clause, same_some}
use Rattle.apd_divide.specs.Exits.{IsLabelled}
use Rattle.apd_divide.specs.Recorded.{tree}
use Rattle.apd_divide.specs.Tree.{Forest, Tree, bare, beside, node}
use Rattle.apd_loop.proofs.Callers.{callee-owned, earlier-solved, there_at}
use Rattle.apd_loop.proofs.Order.{all-map, canonical-instance}
use Rattle.apd_loop.proofs.Start.{start-known}
use Rattle.apd_loop.specs.Known.{IsChain, IsSaid, IsSolved}
use Rattle.apd_loop.specs.Loop.{Earlier, Looping, call_of, earlier_goals, loop_start, whole, between, descending, rising, denied, within}
use Rattle.apd_ports.specs.declared.point.Point.{Point}
use Rattle.apd_record.specs.Reading.{call_atom, no_row, row_of}
use Rattle.apd_record.specs.Recorded.{Recorded, box_at, chain, is_active, is_in_chain, is_user_atom, numbers, point_at, query_point}
use Rattle.apd_record.specs.declared.rows.BoxRow.{BoxRow}
use Rattle.apd_record.specs.Sound.{ComeAlike, IsFirst, IsOwned, IsSound}
use Rattle.apd_term.proofs.Tuples.{IsInstance-head, IsTupleInstance-trans, canonical_is_instance}
use Rattle.apd_term.proofs.Variants.{IsInstance_from_variants}
use Rattle.apd_term.specs.Canonical.{canonical}
use Rattle.apd_term.specs.Substitution.{IsInstance}
use Rattle.apd_term.specs.Term.{Term}
use Rattle.apd_term.specs.Tuple.{IsTupleInstance}
use Rattle.apd_term.specs.declared.tuple.Tuple.{Tuple}
use Rattle.apd_wrong.proofs.Recorded.{tree-proves}
use Rattle.apd_wrong.specs.Support.{AreProofTrees, IsProofTree}
use Rattle.apd_debug.specs.NamedStates.{IsOwnChain, MayDeny, MayGoOn}
use Rattle.apd_debug.specs.NamedTrees.{HasOwnHead, HasOwnLabels, HoldsInForest}
use Rattle.apd_debug.proofs.Pure.{ArePure, is_clause, own_of_pure, pure_at, pure_body, pure_goals, pure-instance, user-instance}

-- the labels of a proof tree of a program
mutual
  pub proof_tree-own : (P : List Tuple) → All IsClause P → (x : Tree) → IsProofTree P x → HasOwnLabels x
  proof_tree-own P all (node s c t ts) proves =
      let r = proves.0 in
      (user-instance t.head r.0.head (IsInstance-head t r.0 r.2) (is_clause P c r.0 all r.1).head, proof_trees-own P all ts proves.2)

  proof_trees-own : (P : List Tuple) → All IsClause P → (ts : Forest) → AreProofTrees P ts → HoldsInForest HasOwnHead ts
  proof_trees-own P all bare prove = tt
  proof_trees-own P all (beside x xs) prove = (proof_tree-own P all x prove.0, proof_trees-own P all xs prove.1)

-- number m, where the first of these boxes has this number, is one of the program's own
record IsUserIn (first : ℕ) (bs : List BoxRow) (m : ℕ) : Type 0 where
  place : ℕ
  row : BoxRow
  number : m ≡ first + place
  there : slice_get bs place ≡ Some row
  user : row.is_user ≡ true

module _ (P : List Tuple) (all : All IsClause P) (R : Recorded) (sound : IsSound P R) where
  -- the label of an exit, and those of its tree
  pub label-own : (e : ℕ) (l : Term) → IsLabelled R e l → IsUserAtom l
  label-own e l labelled =
      let x = labelled.exit in
      let of = of_clause P R sound x.point.done e x.point x.row x.there refl x.row_there x.user in
      user-instance l x.point.tuple.head labelled.instance
      (user-instance x.point.tuple.head of.rule.head (IsInstance-head x.point.tuple of.rule of.instance) (is_clause P x.point.clause of.rule all of.there).head)

  pub tree-own : (e : ℕ) (l : Term) → IsLabelled R e l → HasOwnLabels (tree R e l)
  tree-own e l labelled = proof_tree-own P all (tree R e l) (tree-proves P R sound e l labelled.exit labelled.instance).0

  may_deny : (e : Earlier) → IsSolved R e → MayDeny R e
  may_deny e solved = record { goal = label-own e.exit e.atom solved.labelled; below = tree-own e.exit e.atom solved.labelled }

  solved-own : (es : List Earlier) → AllByRecursion (IsSolved R) es → AllByRecursion (MayDeny R) es
  solved-own es solved = all-map (IsSolved R) (MayDeny R) may_deny es solved

  -- of what the store says in a state
  said-own : (calls : List ℕ) (s : Looping) → IsSaid P R calls empty_store s → MayGoOn R calls s
  said-own calls whole said = tt
  said-own calls (between low high) said = (said.from, said.order, said.to)
  said-own calls (descending i) said = said.to
  said-own calls (rising i es) said = solved-own es said.solved
  said-own calls (denied e) said = tree-own e.exit e.atom said.solved.labelled
  said-own calls (within root x) said = proof_tree-own P all x said.wrong.proves

  pub start-own : (calls : List ℕ) → MayGoOn R calls (loop_start R calls)
  start-own calls = said-own calls (loop_start R calls) (start-known P R calls empty_store tt).said

  -- A record that begins with a query whose goals are of pure Prolog.
  module _ (query : Tuple) (goals : All IsPureGoal query.body) (begins : point_at R 0 ≡ Some (query_point query)) where
    -- a point of the query's box is an instance of the query
    of_query : (k i : ℕ) (p : Point) → point_at R i ≡ Some p → p.done ≡ k → p.owner ≡ 0 → IsTupleInstance p.tuple query
    of_query zero i p at done owner =
        let first = first-is R i p (sound.kept.made i p at).came done in
        let clause : p.clause ≡ 0 = subst (IsFirst R i p) owner first.1 in
        let q : Point = query_point query in
        let alike : ComeAlike p q p.before None = subst (λ o. ComeAlike p q o None) (sym first.0) (owner, clause) in
        let same : i ≡ 0 = sound.kept.one_point i 0 p q at begins alike in
        let is : p ≡ q = same_some (point_at R 0) p q (ap (point_at R) (sym same) ∙ at) begins in
        subst (λ (x : Point). IsTupleInstance x.tuple query) (sym is) (canonical_is_instance query)
    of_query (suc k) i p at done owner =
        let before = before-is R i p k (sound.kept.made i p at).came done in
        let f = before.2 in
        let left : f.left.done ≡ k = (let g = f.done in omega (arith, g, done)) in
        IsTupleInstance-trans p.tuple f.left.tuple query f.instance (of_query k before.0.point.0 f.left f.left_there left (sym f.owner ∙ owner))

    -- each goal of each point is of pure Prolog
    point-pure : (i : ℕ) (p : Point) → point_at R i ≡ Some p → ArePure p.tuple.body
    point-pure i p at = by p.owner refl (sound.kept.made i p at).owned
      where
        by_kind : (b : BoxRow) → box_at R p.owner ≡ Some b → (u : Bool) → b.is_user ≡ u → ArePure p.tuple.body
        by_kind b there true user =
            let of = of_clause P R sound p.done i p b at refl there user in
            pure_body p.tuple of.rule of.instance (pure_goals of.rule.body (is_clause P p.clause of.rule all of.there).body.goals)
        by_kind b there false user = subst ArePure (sym (of_builtin P R sound p.done i p b at refl there user).body) tt

        by : (n : ℕ) → p.owner ≡ n → IsOwned R i n → ArePure p.tuple.body
        by zero owner owned = pure_body p.tuple query (of_query p.done i p at refl owner) (pure_goals query.body goals)
        by (suc n) owner owned = by_kind owned.0 (ap (box_at R) owner ∙ owned.1) owned.0.is_user refl

    -- and so is each call
    pub box-pure : (n : ℕ) (b : BoxRow) → box_at R n ≡ Some b → IsPureGoal b.atom
    box-pure n b there =
        let c = sound.kept.called n b there in
        pure-instance b.atom c.goal (IsInstance_from_variants b.atom c.goal (sym c.variant))
        (pure_at c.caller.tuple.body c.caller.done c.goal (point-pure b.from c.caller c.there) c.next)

    -- an atom of the program's own that is an instance of a call
    pub call-own : (n : ℕ) (b : BoxRow) (a : Term) → box_at R n ≡ Some b → IsInstance a b.atom → is_user_atom a ≡ true → IsUserAtom a
    call-own n b a there instance user = own_of_pure a (pure-instance a b.atom instance (box-pure n b there)) user

    box-own : (n : ℕ) (b : BoxRow) → box_at R n ≡ Some b → b.is_user ≡ true → IsUserAtom b.atom
    box-own n b there user = own_of_pure b.atom (box-pure n b there) (sym (sound.kept.called n b there).user ∙ user)

    users : (first : ℕ) (bs : List BoxRow) (k m : ℕ) → slice_get (numbers is_in_chain first bs) k ≡ Some m → IsUserIn first bs m
    users first [] k m at = cc
    users first (b ∷ bs) k m at = by (b.is_user && is_active b.last) refl k at (λ i there. users (first + 1) bs i m there)
      where
        later : IsUserIn (first + 1) bs m → IsUserIn first (b ∷ bs) m
        later r = record { place = suc r.place; row = r.row; number = (let e = r.number in omega (arith, e)); there = r.there; user = r.user }

        by : (t : Bool) → (b.is_user && is_active b.last) ≡ t → (k : ℕ) → slice_get (if t then first ∷ numbers is_in_chain (first + 1) bs else numbers is_in_chain (first + 1) bs) k ≡ Some m
            → ((i : ℕ) → slice_get (numbers is_in_chain (first + 1) bs) i ≡ Some m → IsUserIn (first + 1) bs m) → IsUserIn first (b ∷ bs) m
        by true is zero at rest = let same : first ≡ m = cc in record { place = 0; row = b; number = omega (arith, same); there = refl; user = (and_parts b.is_user (is_active b.last) is).0 }
        by true is (suc k) at rest = later (rest k at)
        by false is k at rest = later (rest k at)

    chain-own : (k m : ℕ) → slice_get (chain R) k ≡ Some m → IsUserAtom (call_atom R m)
    chain-own k m at =
        let r = users 1 R.boxes k m at in
        let is : m ≡ suc r.place = (let e = r.number in omega (arith, e)) in
        let there : box_at R m ≡ Some r.row = ap (box_at R) is ∙ r.there in
        let row : row_of R m ≡ r.row = ap (λ o. unwrap_or o no_row) there in
        subst (λ (b : BoxRow). IsUserAtom b.atom) (sym row) (box-own m r.row there r.user)

    call_of-own : (i : ℕ) → 1 ≤ i → i ≤ length (chain R) → IsUserAtom (call_of R (chain R) i)
    call_of-own zero from to = absurd (omega (arith, from))
    call_of-own (suc k) from to =
        let m = unwrap_or (slice_get (chain R) k) 0 in
        user-instance (canonical (call_atom R m)) (call_atom R m) (canonical-instance (call_atom R m)) (chain-own k m (there_at (chain R) k (omega (arith, to))))

    pub own_chain : IsChain R (chain R) → IsOwnChain R (chain R)
    own_chain chained = record {
      several = chained.several;
      calls = call_of-own;
      earlier = λ i from to. solved-own (earlier_goals R (chain R) i) (earlier-solved R (chain R) i sound.kept (callee-owned R (chain R) i chained.owned from to));
    }
