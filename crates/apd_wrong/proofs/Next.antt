-- What comes next in a wrong tree.
use Rattle.std.proofs.Common.{◌≡◌, ℕ, zero, suc, ◌<◌, ◌≤◌, Bool, true, false, List, [], ◌∷◌, Option, Some, None, refl, sym, ◌∙◌, ap, subst, arith}
use Rattle.std.specs.List.{AllByRecursion}
use Rattle.apd_term.specs.declared.tuple.Tuple.{Tuple}
use Rattle.apd_record.specs.Recorded.{Recorded}
use Rattle.apd_answers.specs.declared.question.Question.TheVariants as asking
use Rattle.apd_answers.specs.declared.question.Reply.{Reply}
use Rattle.apd_answers.specs.declared.question.Reply.TheVariants as replies
use Rattle.apd_answers.specs.declared.finding.Finding.{Finding}
use Rattle.apd_answers.specs.Questions.{FitsAsked}
use Rattle.apd_answers.specs.Store.{Store, decided, is_doubted, with_pair}
use Rattle.apd_answers.specs.Trust.{is_trusted}
use Rattle.apd_answers.specs.Dialogue.{Turn, asks, goes, ends, next_turn, Exchange, replied, dialogue}
use Rattle.apd_answers.specs.Findings.{IsByReplies}
use Rattle.apd_answers.proofs.Dialogue.{next_turn-decided, next_turn-asks, next_turn-goes, next_turn-ends}
use Rattle.apd_divide.specs.declared.node.Strategy.{Strategy}
use Rattle.apd_divide.specs.declared.node.Strategy.TheVariants.{Divide}
use Rattle.apd_divide.specs.declared.node.Verdict.TheVariants.{True, Unknown}
use Rattle.apd_divide.specs.Tree.{Tree, label, suspects, branching}
use Rattle.apd_divide.specs.Choice.{Cut, way_of, choice, judged}
use Rattle.apd_divide.proofs.Weights.{choice-none, choice-lowers, choice-fraction, such-lowers}
use Rattle.apd_wrong.specs.Wrong.{verdict, asked_about, judged_by, found_in, is_passed, first_trusted, wrong}
use Rattle.apd_answers.proofs.Decided.{added-doubted}
use Rattle.apd_wrong.specs.Part.{HasNone, IsPartOf}
use Rattle.apd_wrong.proofs.Part.{cut-none, part-judged, part-trusted, part-whole, none-label, none-undoubted, none-before}
use Rattle.apd_wrong.specs.Support.{IsWrongTree}
use Rattle.apd_wrong.specs.Next.{LeavesAtMost, AsksInTree, ComesNext}
use Rattle.apd_wrong.proofs.Support.{wrong-decided, wrong-replied, wrong-doubted, wrong-trusted, wrong-found}
use Rattle.apd_wrong.proofs.Found.{wrong-falls, turn-trusted, turn-over, turn-passed, turn-asks, passed-is, passed-decided, passed-doubted}

-- only Unknown judges a node unknown
verdict-known : (r : Reply) → ¬ (r ≡ replies.Unknown) → ¬ (verdict r ≡ Unknown)
verdict-known replies.Yes n = λ e. cc
verdict-known replies.No n = λ e. cc
verdict-known (replies.Values vs) n = λ e. cc
verdict-known replies.Unknown n = λ e. n refl

module _ (P : List Tuple) (R : Recorded) (strategy : Strategy) (store : Store) (whole : Tree) where
  -- a reply that it isn't known is kept of the label
  known-reply : (x : Tree) (c : Cut) (r : Reply) → choice strategy x ≡ Some c → IsPartOf whole x → HasNone (is_doubted (with_pair store (asking.True (label c.chosen)) r)) whole → ¬ (r ≡ replies.Unknown)
  known-reply x c r e m n u =
      let after = with_pair store (asking.True (label c.chosen)) r in
      let f : is_doubted after (label c.chosen) ≡ false = none-label (is_doubted after) c.chosen (cut-none (is_doubted after) (way_of strategy (suspects x)) x c e (m.labels (is_doubted after) n)).chosen in
      let g : is_doubted (with_pair store (asking.True (label c.chosen)) replies.Unknown) (label c.chosen) ≡ false = subst (λ z. is_doubted (with_pair store (asking.True (label c.chosen)) z) (label c.chosen) ≡ false) u f in
      let bad : true ≡ false = sym (added-doubted store (label c.chosen)) ∙ g in
      cc

  pub fraction-left : (x : Tree) (c : Cut) (r : Reply) → IsWrongTree P R store x → choice strategy x ≡ Some c → IsPartOf whole x → strategy ≡ Divide
      → HasNone (is_doubted (with_pair store (asking.True (label c.chosen)) r)) whole → LeavesAtMost (branching whole) (suspects x) (suspects (judged_by c r))
  fraction-left x c r w e m d n b p l =
      let h = m.branches in
      let k : branching x ≤ b = omega (arith, h, l) in
      let u = none-undoubted R store x w.judged (m.labels (is_doubted store) (none-before store (asking.True (label c.chosen)) r whole n)) in
      choice-fraction x b c (verdict r) u (verdict-known r (known-reply x c r e m n)) p k (ap (λ s. choice s x) (sym d) ∙ e)

  -- the question about a suspect that isn't decided, and of which it isn't kept that it isn't known
  asks-in_tree : (x : Tree) (c : Cut) → IsWrongTree P R store x → IsPartOf whole x → choice strategy x ≡ Some c
      → decided store (asking.True (label c.chosen)) ≡ None → is_doubted store (label c.chosen) ≡ false → AsksInTree P R strategy store whole (asked_about x c) (judged_by c)
  asks-in_tree x c w m e d u = record {
    before = suspects x;
    counted = refl;
    undecided = d;
    unreplied = u;
    left = λ r fits. record {
      wrong = wrong-replied P R store strategy x c r e fits.0 w;
      part = part-judged whole strategy x c (verdict r) e m;
      fewer = choice-lowers strategy x c (verdict r) e;
      fraction = fraction-left x c r w e m;
    };
  }

  abbrev NextIn : Tree → Type 0
  NextIn x = ComesNext P R strategy store whole (next_turn (wrong strategy) store x)

  comes-found : (x : Tree) → IsWrongTree P R store x → first_trusted store x ≡ None → choice strategy x ≡ None → NextIn x
  comes-found x w t e =
      subst (ComesNext P R strategy store whole) (sym (next_turn-ends (wrong strategy) (wrong-falls strategy) store x (found_in x) (turn-over strategy store x t e)))
      (wrong-found P R store x (choice-none strategy x e) w)

  no_fewer : (m n k : ℕ) → m < n → n ≤ k → k ≡ 0 → ⊥
  no_fewer m n k l h e = omega (arith, l, h, e)

  -- the suspects that need no question are passed over, of which there are at most k
  abbrev Rest : ℕ → Type 0
  Rest k = (y : Tree) → suspects y ≤ k → IsWrongTree P R store y → IsPartOf whole y → NextIn y

  comes-trusted : (k : ℕ) (x : Tree) (c : Cut) → suspects x ≤ suc k → IsWrongTree P R store x → IsPartOf whole x → first_trusted store x ≡ Some c → Rest k → NextIn x
  comes-trusted k x c l w m e rest =
      let f = such-lowers (is_trusted store.trusted) x c e in
      subst (ComesNext P R strategy store whole) (sym (next_turn-goes (wrong strategy) (wrong-falls strategy) store x (judged c True) (turn-trusted strategy store x c e)))
      (rest (judged c True) (omega (arith, f, l)) (wrong-trusted P R store x c e w) (part-trusted whole store x c e m))

  comes-passed : (k : ℕ) (x : Tree) (c : Cut) → suspects x ≤ suc k → IsWrongTree P R store x → IsPartOf whole x → first_trusted store x ≡ None → choice strategy x ≡ Some c → is_passed store (label c.chosen) ≡ true → Rest k → NextIn x
  comes-passed k x c l w m t e p rest =
      let f = choice-lowers strategy x c Unknown e in
      subst (ComesNext P R strategy store whole) (sym (next_turn-goes (wrong strategy) (wrong-falls strategy) store x (judged c Unknown) (turn-passed strategy store x c t e p)))
      (rest (judged c Unknown) (omega (arith, f, l)) (wrong-doubted P R store strategy x c e (passed-doubted store (label c.chosen) p) w) (part-judged whole strategy x c Unknown e m))

  comes-decided : (k : ℕ) (x : Tree) (c : Cut) (r : Reply) → suspects x ≤ suc k → IsWrongTree P R store x → IsPartOf whole x → first_trusted store x ≡ None → choice strategy x ≡ Some c → decided store (asking.True (label c.chosen)) ≡ Some r → Rest k → NextIn x
  comes-decided k x c r l w m t e d rest =
      let f = choice-lowers strategy x c (verdict r) e in
      subst (ComesNext P R strategy store whole)
      (sym (next_turn-decided (wrong strategy) (wrong-falls strategy) store x (asked_about x c) (judged_by c) r (turn-asks strategy store x c t e (passed-decided store (label c.chosen) r d)) d))
      (rest (judged_by c r) (omega (arith, f, l)) (wrong-decided P R store strategy x c r e d w) (part-judged whole strategy x c (verdict r) e m))

  comes-asked : (x : Tree) (c : Cut) → IsWrongTree P R store x → IsPartOf whole x → first_trusted store x ≡ None → choice strategy x ≡ Some c → decided store (asking.True (label c.chosen)) ≡ None → is_doubted store (label c.chosen) ≡ false → NextIn x
  comes-asked x c w m t e d u =
      subst (ComesNext P R strategy store whole)
      (sym (next_turn-asks (wrong strategy) (wrong-falls strategy) store x (asked_about x c) (judged_by c) (turn-asks strategy store x c t e (passed-is store (label c.chosen) false d u)) d))
      (asks-in_tree x c w m e d u)

  comes-step : (k : ℕ) (x : Tree) → suspects x ≤ suc k → IsWrongTree P R store x → IsPartOf whole x → Rest k → NextIn x
  comes-step k x l w m rest = by_trusted (first_trusted store x) refl
    where
      by_doubted : (c : Cut) → first_trusted store x ≡ None → choice strategy x ≡ Some c → decided store (asking.True (label c.chosen)) ≡ None → (b : Bool) → is_doubted store (label c.chosen) ≡ b → NextIn x
      by_doubted c t e d true u = comes-passed k x c l w m t e (passed-is store (label c.chosen) true d u) rest
      by_doubted c t e d false u = comes-asked x c w m t e d u

      by_decided : (c : Cut) → first_trusted store x ≡ None → choice strategy x ≡ Some c → (o : Option Reply) → decided store (asking.True (label c.chosen)) ≡ o → NextIn x
      by_decided c t e (Some r) d = comes-decided k x c r l w m t e d rest
      by_decided c t e None d = by_doubted c t e d (is_doubted store (label c.chosen)) refl

      by_choice : first_trusted store x ≡ None → (o : Option Cut) → choice strategy x ≡ o → NextIn x
      by_choice t None e = comes-found x w t e
      by_choice t (Some c) e = by_decided c t e (decided store (asking.True (label c.chosen))) refl

      by_trusted : (o : Option Cut) → first_trusted store x ≡ o → NextIn x
      by_trusted (Some c) t = comes-trusted k x c l w m t rest
      by_trusted None t = by_choice t (choice strategy x) refl

  comes-none : (x : Tree) → suspects x ≤ 0 → IsWrongTree P R store x → NextIn x
  comes-none x l w = by_trusted (first_trusted store x) refl
    where
      by_choice : first_trusted store x ≡ None → (o : Option Cut) → choice strategy x ≡ o → NextIn x
      by_choice t None e = comes-found x w t e
      by_choice t (Some c) e = absurd (no_fewer _ (suspects x) 0 (choice-lowers strategy x c Unknown e) l refl)

      by_trusted : (o : Option Cut) → first_trusted store x ≡ o → NextIn x
      by_trusted (Some c) t = absurd (no_fewer _ (suspects x) 0 (such-lowers (is_trusted store.trusted) x c t) l refl)
      by_trusted None t = by_choice t (choice strategy x) refl

  comes-within : (k : ℕ) (x : Tree) → suspects x ≤ k → IsWrongTree P R store x → IsPartOf whole x → NextIn x
  comes-within zero x l w m = comes-none x l w
  comes-within (suc k) x l w m = comes-step k x l w m (λ y h v n. comes-within k y h v n)

  pub comes-next : (x : Tree) → IsWrongTree P R store x → IsPartOf whole x → ComesNext P R strategy store whole (next_turn (wrong strategy) store x)
  comes-next x w m = comes-within (suspects x) x (omega arith) w m

-- A dialogue that has ended found by its replies what it ended in.
abbrev AllFitAsked : List Exchange → Type 0
AllFitAsked es = AllByRecursion (λ (e : Exchange). FitsAsked e.asked e.reply) es

pub dialogue-finds : (P : List Tuple) (R : Recorded) (strategy : Strategy) (rs : List Reply) (store : Store) (x : Tree) (f : Finding) → IsWrongTree P R store x
    → AllFitAsked (dialogue (wrong strategy) rs store x).exchanges → (dialogue (wrong strategy) rs store x).turn ≡ ends f → IsByReplies P R (dialogue (wrong strategy) rs store x).store f
dialogue-finds P R strategy [] store x f w fits e = by (next_turn (wrong strategy) store x) (comes-next P R strategy store x x w (part-whole x)) e
  where
    by : (turn : Turn Tree Finding) → ComesNext P R strategy store x turn → turn ≡ ends f → IsByReplies P R store f
    by (asks asked next) c g = absurd (cc)
    by (goes y) c g = absurd c
    by (ends h) c g = let same : h ≡ f = cc in subst (IsByReplies P R store) same c
dialogue-finds P R strategy (r ∷ rs) store x f w fits e =
    by (next_turn (wrong strategy) store x) (comes-next P R strategy store x x w (part-whole x)) fits e (λ s y v h g. dialogue-finds P R strategy rs s y f v h g)
  where
    by : (turn : Turn Tree Finding) → ComesNext P R strategy store x turn
        → AllFitAsked (replied (wrong strategy).left (dialogue (wrong strategy) rs) store r turn).exchanges → (replied (wrong strategy).left (dialogue (wrong strategy) rs) store r turn).turn ≡ ends f
        → ((s : Store) (y : Tree) → IsWrongTree P R s y → AllFitAsked (dialogue (wrong strategy) rs s y).exchanges → (dialogue (wrong strategy) rs s y).turn ≡ ends f → IsByReplies P R (dialogue (wrong strategy) rs s y).store f)
        → IsByReplies P R (replied (wrong strategy).left (dialogue (wrong strategy) rs) store r turn).store f
    by (asks asked next) c h g rest = rest (with_pair store asked.question r) (next r) (c.left r h.0).wrong h.1 g
    by (goes y) c h g rest = absurd c
    by (ends k) c h g rest = let same : k ≡ f = cc in subst (IsByReplies P R store) same c
