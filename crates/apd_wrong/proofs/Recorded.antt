-- The tree of an exit of a sound record is a proof tree of its program.
use Rattle.std.proofs.Common.{◌≡◌, ℕ, zero, suc, ◌<◌, ◌≤◌, Bool, true, false, List, [], ◌∷◌, Some, refl, sym, ◌∙◌, ap, subst, arith}
use Rattle.std.specs.Prelude.{if◌then◌else◌}
use Rattle.std.proofs.lemmas.List.{take_all}
use Rattle.apd_answers.specs.declared.question.Question.{Question}
use Rattle.apd_answers.specs.declared.question.Question.TheVariants as asking
use Rattle.apd_answers.specs.declared.question.Reply.{Reply}
use Rattle.apd_answers.specs.declared.question.Reply.TheVariants.{Yes, No, Values, Unknown}
use Rattle.apd_answers.specs.Store.{Store, TellsNo, SaysNo, empty_store}
use Rattle.apd_answers.specs.Trust.{IsAnswered}
use Rattle.apd_wrong.proofs.Support.{some_pair-map}
use Rattle.apd_term.specs.Term.{Term}
use Rattle.apd_term.specs.Canonical.{canonical}
use Rattle.apd_term.specs.Substitution.{IsInstance}
use Rattle.apd_term.specs.declared.tuple.Tuple.{Tuple}
use Rattle.apd_term.proofs.Tuples.{IsTupleInstance-trans}
use Rattle.apd_term.proofs.Variants.{IsInstance_from_variants, IsInstance-trans, IsInstance-canonical, canonical-canonical}
use Rattle.apd_ports.specs.declared.point.Point.{Point}
use Rattle.apd_record.specs.Recorded.{Recorded, box_at, point_at, IsExit, is_user_atom}
use Rattle.apd_record.specs.declared.rows.BoxRow.{BoxRow}
use Rattle.apd_record.specs.Sound.{IsSound}
use Rattle.apd_record.specs.Reading.{point_of, exits_to, exits_in}
use Rattle.apd_answers.specs.Bugs.{IsInstanceOfClause}
use Rattle.apd_divide.specs.Tree.{Tree, Forest, bare, beside, label}
use Rattle.apd_divide.specs.Recorded.{instance_with, nodes_for, tree_in, tree}
use Rattle.apd_divide.specs.Exits.{IsUserExit}
use Rattle.apd_wrong.specs.Support.{IsForAtom, AreForAtoms, IsProofTree, AreProofTrees, IsJudgedBy, AreJudgedBy, IsWrongTree}
use Rattle.apd_divide.proofs.Heads.{instance_with-label, instance_with-instance}
use Rattle.apd_divide.proofs.Solved.{IsSolvedBy, AreSolved, solved-point, solved-apply, of_clause, of_builtin, always-instance, point-is}
use Rattle.apd_divide.proofs.Grown.{all_done}

-- what is known of an exit's node
pub record Fits (P : List Tuple) (R : Recorded) (e : ℕ) (l : Term) : Type 0 where
  pub of_clause : IsInstanceOfClause P (point_of R e).clause (instance_with (point_of R e).tuple l)
  pub head : (instance_with (point_of R e).tuple l).head ≡ l
  pub solved : AreSolved R e (instance_with (point_of R e).tuple l).body (exits_to R e)

fits-point : (P : List Tuple) (R : Recorded) → IsSound P R → (e : ℕ) (l : Term) (p : Point) (b : BoxRow) → point_at R e ≡ Some p → IsExit p → box_at R p.owner ≡ Some b → b.is_user ≡ true → canonical l ≡ l → IsInstance l p.tuple.head
    → IsInstanceOfClause P p.clause (instance_with p.tuple l) × ((instance_with p.tuple l).head ≡ l) × AreSolved R e (instance_with p.tuple l).body (exits_in p.done R e)
fits-point P R sound e l p b t x o u c i =
    let r = of_clause P R sound p.done e p b t refl o u in
    let j = instance_with-instance p.tuple l in
    let s : AreSolved R e p.tuple.body (exits_in p.done R e) =
    subst (λ ts. AreSolved R e ts (exits_in p.done R e)) (take_all p.done p.tuple.body (all_done p x)) (solved-point R sound.kept p.done e p t refl) in (
      (r.rule, r.there, IsTupleInstance-trans (instance_with p.tuple l) p.tuple r.rule j r.instance),
      instance_with-label p.tuple l c i,
      subst (λ ts. AreSolved R e ts (exits_in p.done R e)) (ap (λ (w : Tuple). w.body) j.1) (solved-apply R e e j.0 p.tuple.body (exits_in p.done R e) (omega arith) s),
    )

fits-exit : (P : List Tuple) (R : Recorded) → IsSound P R → (e : ℕ) (l : Term) → (x : IsUserExit R e) → canonical l ≡ l → IsInstance l x.point.tuple.head → Fits P R e l
fits-exit P R sound e l x c i =
    let f = fits-point P R sound e l x.point x.row x.there x.is_exit x.row_there x.user c i in
    let q = sym (point-is R e x.point x.there) in
    record {
      of_clause = subst (λ (p : Point). IsInstanceOfClause P p.clause (instance_with p.tuple l)) q f.0;
      head = subst (λ (p : Point). (instance_with p.tuple l).head ≡ l) q f.1;
      solved = subst (λ (p : Point). AreSolved R e (instance_with p.tuple l).body (exits_in p.done R e)) q f.2;
    }

-- the nodes for atoms that were solved, of which nothing is judged yet
pub record Nodes (P : List Tuple) (R : Recorded) (store : Store) (atoms : List Term) (ts : Forest) : Type 0 where
  pub are : AreForAtoms atoms ts
  pub proved : AreProofTrees P ts
  pub judged : AreJudgedBy R store ts

-- the same of a node
pub record Stands (P : List Tuple) (R : Recorded) (store : Store) (l : Term) (x : Tree) : Type 0 where
  pub proves : IsProofTree P x
  pub label_is : label x ≡ l
  pub judged : IsJudgedBy R store x

-- what an exit's head has as an instance is answered
answered : (R : Recorded) (e : ℕ) (l : Term) → (x : IsUserExit R e) → IsInstance l x.point.tuple.head → IsAnswered R l
answered R e l x i = record {
  number = x.point.owner;
  row = x.row;
  there = x.row_there;
  user = x.user;
  exit = record { number = e; point = x.point; there = x.there; owner = refl; is_exit = x.is_exit; instance = i };
}

abbrev user_exit : (R : Recorded) (m x : ℕ) (a : Term) → IsSolvedBy R m a x → is_user_atom a ≡ true → IsUserExit R x
user_exit R m x a s u = record { point = s.point; there = s.there; is_exit = s.is_exit; row = s.row; row_there = s.row_there; user = s.user ∙ u }

nodes-proved : (P : List Tuple) (R : Recorded) (store : Store) → IsSound P R → (m : ℕ) (below : ℕ → Term → Tree)
    → ((x : ℕ) (l : Term) (y : IsUserExit R x) → x < m → canonical l ≡ l → IsInstance l y.point.tuple.head → Stands P R store l (below x l))
    → (atoms : List Term) (xs : List ℕ) → AreSolved R m atoms xs → Nodes P R store atoms (nodes_for below atoms xs)
nodes-proved P R store sound m below h [] [] s = record { are = tt; proved = tt; judged = tt }
nodes-proved P R store sound m below h [] (x ∷ xs) s = absurd s
nodes-proved P R store sound m below h (a ∷ atoms) [] s = absurd s
nodes-proved P R store sound m below h (a ∷ atoms) (x ∷ xs) s =
    let r = by (is_user_atom a) refl (nodes-proved P R store sound m below h atoms xs s.1) in
    record { are = r.0; proved = r.1; judged = r.2 }
  where
    by : (b : Bool) → is_user_atom a ≡ b → Nodes P R store atoms (nodes_for below atoms xs)
        → IsForAtom b a (AreForAtoms atoms) (if b then beside (below x (canonical a)) (nodes_for below atoms xs) else nodes_for below atoms xs)
        × AreProofTrees P (if b then beside (below x (canonical a)) (nodes_for below atoms xs) else nodes_for below atoms xs)
        × AreJudgedBy R store (if b then beside (below x (canonical a)) (nodes_for below atoms xs) else nodes_for below atoms xs)
    by true u n =
        let y = user_exit R m x a s.0 u in
        let i : IsInstance (canonical a) y.point.tuple.head =
        IsInstance-trans (canonical a) a y.point.tuple.head (IsInstance_from_variants (canonical a) a (canonical-canonical a)) s.0.instance in
        let k = h x (canonical a) y s.0.earlier (canonical-canonical a) i in
        ((k.label_is, n.are), (k.proves, n.proved), (k.judged, n.judged))
    by false u n =
        let w = of_builtin P R sound s.0.point.done x s.0.point s.0.row s.0.there refl s.0.row_there (s.0.user ∙ u) in
        ((always-instance a s.0.point.tuple.head s.0.instance w.holds, n.are), n.proved, n.judged)

none_solved : (R : Recorded) (m : ℕ) (atoms : List Term) (xs : List ℕ) → m ≤ 0 → AreSolved R m atoms xs → AreForAtoms atoms bare
none_solved R m [] xs l s = tt
none_solved R m (a ∷ atoms) [] l s = absurd s
none_solved R m (a ∷ atoms) (x ∷ xs) l s = let e = s.0.earlier in absurd (omega (arith, e, l))

pub tree_in-proves : (P : List Tuple) (R : Recorded) (store : Store) → IsSound P R → (k e : ℕ) (l : Term) (x : IsUserExit R e) → e ≤ k → canonical l ≡ l → IsInstance l x.point.tuple.head
    → Stands P R store l (tree_in k R e l)
tree_in-proves P R store sound zero e l x m c i =
    let f = fits-exit P R sound e l x c i in
    record {
      proves = (f.of_clause, none_solved R e (instance_with (point_of R e).tuple l).body (exits_to R e) m f.solved, tt);
      label_is = f.head;
      judged = (subst (IsAnswered R) (sym f.head) (answered R e l x i), tt, tt);
    }
tree_in-proves P R store sound (suc k) e l x m c i =
    let f = fits-exit P R sound e l x c i in
    let n = nodes-proved P R store sound e (tree_in k R) (λ y t u b d j. tree_in-proves P R store sound k y t u (omega (arith, b, m)) d j) (instance_with (point_of R e).tuple l).body (exits_to R e) f.solved in
    record {
      proves = (f.of_clause, n.are, n.proved);
      label_is = f.head;
      judged = (subst (IsAnswered R) (sym f.head) (answered R e l x i), tt, n.judged);
    }

canonical-instance : (l t : Term) → IsInstance l t → IsInstance (canonical l) t
canonical-instance l t i = IsInstance-trans (canonical l) l t (IsInstance_from_variants (canonical l) l (canonical-canonical l)) i

-- the tree of an exit, with a label that is an instance of its head
pub tree-stands : (P : List Tuple) (R : Recorded) (store : Store) → IsSound P R → (e : ℕ) (l : Term) (x : IsUserExit R e) → IsInstance l x.point.tuple.head → Stands P R store (canonical l) (tree R e l)
tree-stands P R store sound e l x i = tree_in-proves P R store sound e e (canonical l) x (omega arith) (canonical-canonical l) (canonical-instance l x.point.tuple.head i)

-- whatever the store says
pub tree-proves : (P : List Tuple) (R : Recorded) → IsSound P R → (e : ℕ) (l : Term) (x : IsUserExit R e) → IsInstance l x.point.tuple.head → IsProofTree P (tree R e l) × (label (tree R e l) ≡ canonical l)
tree-proves P R sound e l x i = let t = tree-stands P R empty_store sound e l x i in (t.proves, t.label_is)

tells_no-instance : (a b : Term) → IsInstance a b → (q : Question) (r : Reply) → TellsNo a q r → TellsNo b q r
tells_no-instance a b i (asking.True x) Yes t = t
tells_no-instance a b i (asking.True x) No t = IsInstance-trans x a b t i
tells_no-instance a b i (asking.True x) (Values vs) t = t
tells_no-instance a b i (asking.True x) Unknown t = t
tells_no-instance a b i (asking.Covers u) r t = t
tells_no-instance a b i (asking.Below x y) r t = t

-- where the store says that the label isn't true, the tree is one of a wrong answer
pub tree-wrong : (P : List Tuple) (R : Recorded) (store : Store) → IsSound P R → (e : ℕ) (l : Term) (x : IsUserExit R e) → IsInstance l x.point.tuple.head → SaysNo store l → IsWrongTree P R store (tree R e l)
tree-wrong P R store sound e l x i n =
    let t = tree-stands P R store sound e l x i in
    record {
      proves = t.proves;
      judged = t.judged;
      root = subst (SaysNo store) (sym t.label_is) (some_pair-map (TellsNo l) (TellsNo (canonical l)) (tells_no-instance l (canonical l) (IsInstance-canonical l)) store n);
    }
