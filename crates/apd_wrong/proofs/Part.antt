-- What is judged is a part of the tree as it was; and where no label of a tree is one of which it is kept that it isn't known, no
-- node is judged unknown.
use Rattle.std.proofs.Common.{◌≡◌, Bool, true, false, List, [], ◌++◌, Some, refl, sym, ◌∙◌, ap, subst, arith}
use Rattle.apd_term.specs.Term.{Term}
use Rattle.apd_record.specs.Recorded.{Recorded}
use Rattle.apd_record.proofs.Shaped.{mapped}
use Rattle.apd_answers.specs.declared.question.Question.{Question}
use Rattle.apd_answers.specs.declared.question.Reply.{Reply}
use Rattle.apd_answers.specs.Store.{Store, is_doubted, with_pair}
use Rattle.apd_answers.specs.Trust.{is_trusted}
use Rattle.apd_answers.proofs.Decided.{doubted-kept}
use Rattle.apd_divide.specs.declared.node.Standing.{Standing}
use Rattle.apd_divide.specs.declared.node.Standing.TheVariants.{Open, Cleared, Doubted}
use Rattle.apd_divide.specs.declared.node.Strategy.{Strategy}
use Rattle.apd_divide.specs.declared.node.Verdict.{Verdict}
use Rattle.apd_divide.specs.declared.node.Verdict.TheVariants.{True, False, Unknown}
use Rattle.apd_divide.specs.Tree.{Tree, Forest, node, bare, beside, label, marked, suspects, doubts, doubts_of, IsUndoubted}
use Rattle.apd_divide.specs.Choice.{Cut, Among, Way, at_node, cut, cut_among, way_of, to_such, choice, judged}
use Rattle.apd_divide.proofs.Weights.{stopped, down, along, found}
use Rattle.apd_divide.proofs.Branching.{judged-branches, cut-branches}
use Rattle.apd_wrong.specs.Wrong.{first_trusted}
use Rattle.apd_wrong.specs.Support.{IsJudgedBy, AreJudgedBy}
use Rattle.apd_wrong.specs.Part.{HasNone, HaveNone, IsPartOf}

-- what a cut keeps of labels
pub record KeepsNone (such : Term → Bool) (c : Cut) : Type 0 where
  pub chosen : HasNone such c.chosen
  pub rest : (v : Standing) → HasNone such (c.rest v)

record KeepNone (such : Term → Bool) (a : Among) : Type 0 where
  chosen : HasNone such a.chosen
  rest : (v : Standing) → HaveNone such (a.rest v)

none-marked : (such : Term → Bool) (v : Standing) (x : Tree) → HasNone such x → HasNone such (marked v x)
none-marked such v (node s c t ts) n = n

mutual
  pub cut-none : (such : Term → Bool) (way : Way) (x : Tree) (c : Cut) → cut way x ≡ Some c → HasNone such x → KeepsNone such c
  cut-none such way (node s n t ts) c e h =
      let m = mapped (at_node (node s n t)) (cut_among way ts) c e in
      let k = cut_among-none such way ts m.0 m.1 h.1 in
      subst (KeepsNone such) m.2 (record { chosen = k.chosen; rest = λ v. (h.0, k.rest v) })

  cut_among-none : (such : Term → Bool) (way : Way) (ts : Forest) (a : Among) → cut_among way ts ≡ Some a → HaveNone such ts → KeepNone such a
  cut_among-none such way bare a e h = absurd (cc)
  cut_among-none such way (beside x xs) a e h = elim (found way x xs a e) [
    | stopped t s f ↦ subst (KeepNone such) f (record { chosen = h.0; rest = λ v. (none-marked such v x h.0, h.1) })
    | down t s c g f ↦
        let k = cut-none such way x c g h.0 in
        subst (KeepNone such) f (record { chosen = k.chosen; rest = λ v. (k.rest v, h.1) })
    | along t b g f ↦
        let k = cut_among-none such way xs b g h.1 in
        subst (KeepNone such) f (record { chosen = k.chosen; rest = λ v. (h.0, k.rest v) })
  ]

judged-none : (such : Term → Bool) (c : Cut) (v : Verdict) → KeepsNone such c → HasNone such (judged c v)
judged-none such c True k = k.rest Cleared
judged-none such c False k = k.chosen
judged-none such c Unknown k = k.rest Doubted

-- a node that was judged
pub part-judged : (whole : Tree) (strategy : Strategy) (x : Tree) (c : Cut) (v : Verdict) → choice strategy x ≡ Some c → IsPartOf whole x → IsPartOf whole (judged c v)
part-judged whole strategy x c v e p =
    let b = judged-branches strategy x c v e in
    let m = p.branches in
    record { branches = omega (arith, b, m); labels = λ such n. judged-none such c v (cut-none such (way_of strategy (suspects x)) x c e (p.labels such n)) }

pub part-trusted : (whole : Tree) (store : Store) (x : Tree) (c : Cut) → first_trusted store x ≡ Some c → IsPartOf whole x → IsPartOf whole (judged c True)
part-trusted whole store x c e p =
    let b = (cut-branches (to_such (is_trusted store.trusted)) x c e).rest Cleared in
    let m = p.branches in
    record { branches = omega (arith, b, m); labels = λ such n. (cut-none such (to_such (is_trusted store.trusted)) x c e (p.labels such n)).rest Cleared }

pub part-whole : (x : Tree) → IsPartOf x x
part-whole x = record { branches = omega arith; labels = λ such n. n }

pub none-label : (such : Term → Bool) (x : Tree) → HasNone such x → such (label x) ≡ false
none-label such (node s c t ts) n = n.0

-- no node is judged unknown
no_doubts : (xs ys : List Rattle.apd_term.specs.declared.instance.Instance.Instance) → xs ≡ [] → ys ≡ [] → xs ++ ys ≡ []
no_doubts xs ys e f = ap (λ zs. zs ++ ys) e ∙ f

mutual
  none-doubts : (R : Recorded) (store : Store) (x : Tree) → IsJudgedBy R store x → HasNone (is_doubted store) x → doubts x ≡ []
  none-doubts R store (node Open c t ts) j n = none-doubts_of R store ts j.2 n.1
  none-doubts R store (node Cleared c t ts) j n = refl
  none-doubts R store (node Doubted c t ts) j n = let bad : true ≡ false = sym j.1 ∙ n.0 in absurd (cc)

  none-doubts_of : (R : Recorded) (store : Store) (ts : Forest) → AreJudgedBy R store ts → HaveNone (is_doubted store) ts → doubts_of ts ≡ []
  none-doubts_of R store bare j n = refl
  none-doubts_of R store (beside x xs) j n = no_doubts (doubts x) (doubts_of xs) (none-doubts R store x j.0 n.0) (none-doubts_of R store xs j.1 n.1)

pub none-undoubted : (R : Recorded) (store : Store) (x : Tree) → IsJudgedBy R store x → HasNone (is_doubted store) x → IsUndoubted x
none-undoubted R store (node s c t ts) j n = none-doubts_of R store ts j.2 n.1

-- and none was before the last reply
undoubted-before : (store : Store) (q : Question) (r : Reply) (a : Term) → is_doubted (with_pair store q r) a ≡ false → is_doubted store a ≡ false
undoubted-before store q r a n = by (is_doubted store a) refl
  where
    by : (b : Bool) → is_doubted store a ≡ b → b ≡ false
    by true e = let bad : true ≡ false = sym (doubted-kept store q r a e) ∙ n in absurd (cc)
    by false e = refl

mutual
  pub none-before : (store : Store) (q : Question) (r : Reply) (x : Tree) → HasNone (is_doubted (with_pair store q r)) x → HasNone (is_doubted store) x
  none-before store q r (node s c t ts) n = (undoubted-before store q r t.head n.0, none-before_of store q r ts n.1)

  none-before_of : (store : Store) (q : Question) (r : Reply) (ts : Forest) → HaveNone (is_doubted (with_pair store q r)) ts → HaveNone (is_doubted store) ts
  none-before_of store q r bare n = tt
  none-before_of store q r (beside x xs) n = (none-before store q r x n.0, none-before_of store q r xs n.1)
